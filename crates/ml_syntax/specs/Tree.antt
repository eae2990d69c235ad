-- Derivations: trees that hold each of their tokens, and how they are spelled.
use Rattle.std.specs.Prelude.{List, [], ◌∷◌, Option, Some, None}
use Rattle.ml_lexer.specs.Lexeme.{Lexeme}

-- an upper name of a path, and the dot behind it
pub record Qualifier : Type 0 where
  pub upper : Lexeme
  pub dot : Lexeme

mutual
  pub data TypeTree : Type 0 where
    type_variable : Lexeme → TypeTree
    type_any : Lexeme → TypeTree
    type_name : List Qualifier → Lexeme → TypeTree
    -- t name
    type_apply : TypeTree → List Qualifier → Lexeme → TypeTree
    -- (t, t) name
    type_apply_several : Lexeme → TypeTree → Lexeme → TypeParts → Lexeme → List Qualifier → Lexeme → TypeTree
    type_bracket : Lexeme → TypeTree → Lexeme → TypeTree
    -- t * t
    type_tuple : TypeTree → Lexeme → TypeParts → TypeTree
    type_arrow : TypeTree → Lexeme → TypeTree → TypeTree

  -- types with a token between any two
  pub data TypeParts : Type 0 where
    one_type : TypeTree → TypeParts
    more_types : TypeParts → Lexeme → TypeTree → TypeParts

-- : t
pub record Annotation : Type 0 where
  pub colon : Lexeme
  pub type : TypeTree

-- ; _
pub record OpenEnd : Type 0 where
  pub semicolon : Lexeme
  pub any : Lexeme

mutual
  pub data PatternTree : Type 0 where
    any_pattern : Lexeme → PatternTree
    name_pattern : Lexeme → PatternTree
    constant_pattern : Lexeme → PatternTree
    -- () and []
    empty_pattern : Lexeme → Lexeme → PatternTree
    bracket_pattern : Lexeme → PatternTree → Lexeme → PatternTree
    annotated_pattern : Lexeme → PatternTree → Annotation → Lexeme → PatternTree
    list_pattern : Lexeme → PatternParts → Lexeme → PatternTree
    record_pattern : Lexeme → PatternFields → Option OpenEnd → Lexeme → PatternTree
    constructor_pattern : List Qualifier → Lexeme → PatternTree
    construct_pattern : List Qualifier → Lexeme → PatternTree → PatternTree
    cons_pattern : PatternTree → Lexeme → PatternTree → PatternTree
    tuple_pattern : PatternTree → Lexeme → PatternParts → PatternTree
    or_pattern : PatternTree → Lexeme → PatternTree → PatternTree
    alias_pattern : PatternTree → Lexeme → Lexeme → PatternTree

  -- patterns with a token between any two
  pub data PatternParts : Type 0 where
    one_pattern : PatternTree → PatternParts
    more_patterns : PatternParts → Lexeme → PatternTree → PatternParts

  -- f = p; f = p
  pub data PatternFields : Type 0 where
    one_pattern_field : Lexeme → Lexeme → PatternTree → PatternFields
    more_pattern_fields : PatternFields → Lexeme → Lexeme → Lexeme → PatternTree → PatternFields

-- (type a)
pub record NewType : Type 0 where
  pub opening : Lexeme
  pub keyword : Lexeme
  pub name : Lexeme
  pub closing : Lexeme

-- what the rules of a handler stand behind
pub data CasesHead : Type 0 where
  -- function
  by_function : Lexeme → CasesHead
  -- match eff with
  by_match : Lexeme → Lexeme → Lexeme → CasesHead

mutual
  pub data Tree : Type 0 where
    variable : List Qualifier → Lexeme → Tree
    constructor : List Qualifier → Lexeme → Tree
    constant : Lexeme → Tree
    -- the integer that stands only behind a prefix `-`
    least : Lexeme → Tree
    -- (), [] and [||]
    empty : Lexeme → Lexeme → Tree
    -- (e) and begin e end
    bracket : Lexeme → Tree → Lexeme → Tree
    -- (e : t)
    annotated : Lexeme → Tree → Annotation → Lexeme → Tree
    -- [e; e] and [|e; e|]
    listed : Lexeme → Parts → Lexeme → Tree
    -- {f = e; f = e}
    fielded : Lexeme → Fields → Lexeme → Tree
    -- while e do e done
    while_loop : Lexeme → Tree → Lexeme → Tree → Lexeme → Tree
    -- for x = e to e do e done
    for_loop : Lexeme → Lexeme → Lexeme → Tree → Lexeme → Tree → Lexeme → Tree → Lexeme → Tree
    -- !e
    dereference : Lexeme → Tree → Tree
    -- e.f
    field : Tree → Lexeme → Lexeme → Tree
    -- e.(e) and e.[e]
    element : Tree → Lexeme → Lexeme → Tree → Lexeme → Tree
    apply : Tree → Arguments → Tree
    construct : List Qualifier → Lexeme → Tree → Tree
    -- match_with f x {fields}
    handle : List Qualifier → Lexeme → Tree → Tree → Lexeme → Fields → Lexeme → Tree
    negate : Lexeme → Tree → Tree
    binary : Tree → Lexeme → Tree → Tree
    -- e, e
    tuple : Tree → Lexeme → Parts → Tree
    -- e.f <- e
    set_field : Tree → Lexeme → Lexeme → Lexeme → Tree → Tree
    -- e.(e) <- e
    set_element : Tree → Lexeme → Lexeme → Tree → Lexeme → Lexeme → Tree → Tree
    choice : Lexeme → Tree → Lexeme → Tree → Tree
    choice_else : Lexeme → Tree → Lexeme → Tree → Lexeme → Tree → Tree
    -- e; e
    sequence : Tree → Lexeme → Parts → Tree
    -- what ends with a semicolon of its own
    trailed : Tree → Lexeme → Tree
    -- let rec .. in e
    binding : Lexeme → Option Lexeme → Bindings → Lexeme → Tree → Tree
    -- match e with .. and try e with ..
    matching : Lexeme → Tree → Lexeme → Clauses → Tree
    -- fun p .. -> e
    abstraction : Lexeme → List PatternTree → Lexeme → Tree → Tree
    -- function ..
    cases : Lexeme → Clauses → Tree
    -- the value of `effc`: fun (type a) (eff : t) -> match eff with .., or function ..
    effect_function : Lexeme → Option NewType → PatternTree → Lexeme → Tree → Tree
    -- .. | _ -> None
    effect_cases : CasesHead → Rules → Option Lexeme → Lexeme → Lexeme → Lexeme → Tree

  -- expressions with a token between any two
  pub data Parts : Type 0 where
    one : Tree → Parts
    more : Parts → Lexeme → Tree → Parts

  pub data Arguments : Type 0 where
    argument : Tree → Arguments
    more_arguments : Arguments → Tree → Arguments

  -- f = e; f = e
  pub data Fields : Type 0 where
    one_field : Lexeme → Lexeme → Tree → Fields
    more_fields : Fields → Lexeme → Lexeme → Lexeme → Tree → Fields

  pub data Clause : Type 0 where
    -- p -> e and p when e -> e
    plain : PatternTree → Lexeme → Tree → Clause
    guarded : PatternTree → Lexeme → Tree → Lexeme → Tree → Clause
    -- exception p -> e and exception p when e -> e
    raised : Lexeme → PatternTree → Lexeme → Tree → Clause
    raised_guarded : Lexeme → PatternTree → Lexeme → Tree → Lexeme → Tree → Clause
    -- effect q, k -> e
    performed : Lexeme → PatternTree → Lexeme → PatternTree → Lexeme → Tree → Clause

  pub data Clauses : Type 0 where
    -- the first one, with or without a bar before it
    one_clause : Option Lexeme → Clause → Clauses
    more_clauses : Clauses → Lexeme → Clause → Clauses

  pub data Binding : Type 0 where
    -- p = e
    bound_pattern : PatternTree → Lexeme → Tree → Binding
    -- x p .. : t = e
    bound_name : Lexeme → List PatternTree → Option Annotation → Lexeme → Tree → Binding

  pub data Bindings : Type 0 where
    one_binding : Binding → Bindings
    more_bindings : Bindings → Lexeme → Binding → Bindings

  -- | q -> Some (fun k -> e)
  pub data Rules : Type 0 where
    no_rules : Rules
    more_rules : Rules → Option Lexeme → PatternTree → Lexeme → Lexeme → Lexeme → Lexeme → PatternTree → Lexeme → Tree → Lexeme → Rules

pub data ConstructorTree : Type 0 where
  bare_constructor : Lexeme → ConstructorTree
  -- C of t
  constructor_of : Lexeme → Lexeme → TypeTree → ConstructorTree

pub data ConstructorTrees : Type 0 where
  one_constructor : Option Lexeme → ConstructorTree → ConstructorTrees
  more_constructors : ConstructorTrees → Lexeme → ConstructorTree → ConstructorTrees

-- mutable f : t
pub record FieldTree : Type 0 where
  pub mutable : Option Lexeme
  pub name : Lexeme
  pub colon : Lexeme
  pub type : TypeTree

pub data FieldTrees : Type 0 where
  one_field_type : FieldTree → FieldTrees
  more_field_types : FieldTrees → Lexeme → FieldTree → FieldTrees

-- type variables with a comma between any two
pub data Parameters : Type 0 where
  one_parameter : Lexeme → Parameters
  more_parameters : Parameters → Lexeme → Lexeme → Parameters

pub data TypeParameters : Type 0 where
  no_parameters : TypeParameters
  a_parameter : Lexeme → TypeParameters
  several_parameters : Lexeme → Parameters → Lexeme → TypeParameters

pub data TypeBodyTree : Type 0 where
  variant : ConstructorTrees → TypeBodyTree
  -- {fields} with or without a semicolon at the end
  fields_type : Lexeme → FieldTrees → Option Lexeme → Lexeme → TypeBodyTree

-- params name = body
pub record DefinitionTree : Type 0 where
  pub parameters : TypeParameters
  pub name : Lexeme
  pub equals : Lexeme
  pub body : TypeBodyTree

pub data DefinitionTrees : Type 0 where
  one_definition : DefinitionTree → DefinitionTrees
  more_definitions : DefinitionTrees → Lexeme → DefinitionTree → DefinitionTrees

pub data EffectTree : Type 0 where
  -- C : t
  effect_constant : Lexeme → Lexeme → TypeTree → EffectTree
  -- C : t -> t
  effect_of : Lexeme → Lexeme → TypeTree → Lexeme → TypeTree → EffectTree

pub data EffectTrees : Type 0 where
  one_effect : Option Lexeme → EffectTree → EffectTrees
  more_effects : EffectTrees → Lexeme → EffectTree → EffectTrees

pub data ItemTree : Type 0 where
  expression_item : Tree → ItemTree
  -- let rec ..
  let_item : Lexeme → Option Lexeme → Bindings → ItemTree
  -- type .. and ..
  type_item : Lexeme → DefinitionTrees → ItemTree
  -- type _ name += ..
  effect_item : Lexeme → Lexeme → List Qualifier → Lexeme → Lexeme → EffectTrees → ItemTree
  exception_item : Lexeme → ConstructorTree → ItemTree
  -- open A.B
  open_item : Lexeme → List Qualifier → Lexeme → ItemTree

-- items, each behind the double semicolons before it
pub data ItemTrees : Type 0 where
  no_items : ItemTrees
  more_items : ItemTrees → List Lexeme → ItemTree → ItemTrees

-- a whole text: its items, and the double semicolons at the end
pub record ProgTree : Type 0 where
  pub items : ItemTrees
  pub ending : List Lexeme

-- the tokens of a tree, and then others

abbrev pub spelled_if : Option Lexeme → List Lexeme → List Lexeme
spelled_if None ts = ts
spelled_if (Some t) ts = t ∷ ts

abbrev pub spelled_all : List Lexeme → List Lexeme → List Lexeme
spelled_all [] ts = ts
spelled_all (x ∷ xs) ts = x ∷ spelled_all xs ts

abbrev pub spelled_path : List Qualifier → List Lexeme → List Lexeme
spelled_path [] ts = ts
spelled_path (q ∷ qs) ts = q.upper ∷ q.dot ∷ spelled_path qs ts

abbrev mutual
  pub spelled_type : TypeTree → List Lexeme → List Lexeme
  spelled_type (type_variable t) ts = t ∷ ts
  spelled_type (type_any t) ts = t ∷ ts
  spelled_type (type_name qs n) ts = spelled_path qs (n ∷ ts)
  spelled_type (type_apply t qs n) ts = spelled_type t (spelled_path qs (n ∷ ts))
  spelled_type (type_apply_several l t c ps r qs n) ts = l ∷ spelled_type t (c ∷ spelled_types ps (r ∷ spelled_path qs (n ∷ ts)))
  spelled_type (type_bracket l t r) ts = l ∷ spelled_type t (r ∷ ts)
  spelled_type (type_tuple t s ps) ts = spelled_type t (s ∷ spelled_types ps ts)
  spelled_type (type_arrow a o b) ts = spelled_type a (o ∷ spelled_type b ts)

  pub spelled_types : TypeParts → List Lexeme → List Lexeme
  spelled_types (one_type t) ts = spelled_type t ts
  spelled_types (more_types ps s t) ts = spelled_types ps (s ∷ spelled_type t ts)

abbrev pub spelled_annotation : Annotation → List Lexeme → List Lexeme
spelled_annotation a ts = a.colon ∷ spelled_type a.type ts

abbrev pub spelled_annotation_if : Option Annotation → List Lexeme → List Lexeme
spelled_annotation_if None ts = ts
spelled_annotation_if (Some a) ts = spelled_annotation a ts

abbrev pub spelled_end : Option OpenEnd → List Lexeme → List Lexeme
spelled_end None ts = ts
spelled_end (Some e) ts = e.semicolon ∷ e.any ∷ ts

abbrev mutual
  pub spelled_pattern : PatternTree → List Lexeme → List Lexeme
  spelled_pattern (any_pattern t) ts = t ∷ ts
  spelled_pattern (name_pattern t) ts = t ∷ ts
  spelled_pattern (constant_pattern t) ts = t ∷ ts
  spelled_pattern (empty_pattern l r) ts = l ∷ r ∷ ts
  spelled_pattern (bracket_pattern l p r) ts = l ∷ spelled_pattern p (r ∷ ts)
  spelled_pattern (annotated_pattern l p a r) ts = l ∷ spelled_pattern p (spelled_annotation a (r ∷ ts))
  spelled_pattern (list_pattern l ps r) ts = l ∷ spelled_patterns ps (r ∷ ts)
  spelled_pattern (record_pattern l fs e r) ts = l ∷ spelled_pattern_fields fs (spelled_end e (r ∷ ts))
  spelled_pattern (constructor_pattern qs n) ts = spelled_path qs (n ∷ ts)
  spelled_pattern (construct_pattern qs n p) ts = spelled_path qs (n ∷ spelled_pattern p ts)
  spelled_pattern (cons_pattern p o q) ts = spelled_pattern p (o ∷ spelled_pattern q ts)
  spelled_pattern (tuple_pattern p s ps) ts = spelled_pattern p (s ∷ spelled_patterns ps ts)
  spelled_pattern (or_pattern p o q) ts = spelled_pattern p (o ∷ spelled_pattern q ts)
  spelled_pattern (alias_pattern p a n) ts = spelled_pattern p (a ∷ n ∷ ts)

  pub spelled_patterns : PatternParts → List Lexeme → List Lexeme
  spelled_patterns (one_pattern p) ts = spelled_pattern p ts
  spelled_patterns (more_patterns ps s p) ts = spelled_patterns ps (s ∷ spelled_pattern p ts)

  pub spelled_pattern_fields : PatternFields → List Lexeme → List Lexeme
  spelled_pattern_fields (one_pattern_field f e p) ts = f ∷ e ∷ spelled_pattern p ts
  spelled_pattern_fields (more_pattern_fields fs s f e p) ts = spelled_pattern_fields fs (s ∷ f ∷ e ∷ spelled_pattern p ts)

abbrev pub spelled_parameters : List PatternTree → List Lexeme → List Lexeme
spelled_parameters [] ts = ts
spelled_parameters (p ∷ ps) ts = spelled_pattern p (spelled_parameters ps ts)

abbrev pub spelled_new_type : Option NewType → List Lexeme → List Lexeme
spelled_new_type None ts = ts
spelled_new_type (Some n) ts = n.opening ∷ n.keyword ∷ n.name ∷ n.closing ∷ ts

abbrev pub spelled_head : CasesHead → List Lexeme → List Lexeme
spelled_head (by_function f) ts = f ∷ ts
spelled_head (by_match m x w) ts = m ∷ x ∷ w ∷ ts

abbrev mutual
  pub spelled : Tree → List Lexeme → List Lexeme
  spelled (variable qs n) ts = spelled_path qs (n ∷ ts)
  spelled (constructor qs n) ts = spelled_path qs (n ∷ ts)
  spelled (constant t) ts = t ∷ ts
  spelled (least t) ts = t ∷ ts
  spelled (empty l r) ts = l ∷ r ∷ ts
  spelled (bracket l x r) ts = l ∷ spelled x (r ∷ ts)
  spelled (annotated l x a r) ts = l ∷ spelled x (spelled_annotation a (r ∷ ts))
  spelled (listed l ps r) ts = l ∷ spelled_parts ps (r ∷ ts)
  spelled (fielded l fs r) ts = l ∷ spelled_fields fs (r ∷ ts)
  spelled (while_loop w c d b e) ts = w ∷ spelled c (d ∷ spelled b (e ∷ ts))
  spelled (for_loop f x q a t b d c e) ts = f ∷ x ∷ q ∷ spelled a (t ∷ spelled b (d ∷ spelled c (e ∷ ts)))
  spelled (dereference o x) ts = o ∷ spelled x ts
  spelled (field x d f) ts = spelled x (d ∷ f ∷ ts)
  spelled (element x d l i r) ts = spelled x (d ∷ l ∷ spelled i (r ∷ ts))
  spelled (apply f xs) ts = spelled f (spelled_arguments xs ts)
  spelled (construct qs n x) ts = spelled_path qs (n ∷ spelled x ts)
  spelled (handle qs n f x l fs r) ts = spelled_path qs (n ∷ spelled f (spelled x (l ∷ spelled_fields fs (r ∷ ts))))
  spelled (negate o x) ts = o ∷ spelled x ts
  spelled (binary a o b) ts = spelled a (o ∷ spelled b ts)
  spelled (tuple a s ps) ts = spelled a (s ∷ spelled_parts ps ts)
  spelled (set_field x d f o a) ts = spelled x (d ∷ f ∷ o ∷ spelled a ts)
  spelled (set_element x d l i r o a) ts = spelled x (d ∷ l ∷ spelled i (r ∷ o ∷ spelled a ts))
  spelled (choice i c t a) ts = i ∷ spelled c (t ∷ spelled a ts)
  spelled (choice_else i c t a e b) ts = i ∷ spelled c (t ∷ spelled a (e ∷ spelled b ts))
  spelled (sequence a s ps) ts = spelled a (s ∷ spelled_parts ps ts)
  spelled (trailed x s) ts = spelled x (s ∷ ts)
  spelled (binding l r bs i b) ts = l ∷ spelled_if r (spelled_bindings bs (i ∷ spelled b ts))
  spelled (matching m x w cs) ts = m ∷ spelled x (w ∷ spelled_clauses cs ts)
  spelled (abstraction f ps o b) ts = f ∷ spelled_parameters ps (o ∷ spelled b ts)
  spelled (cases f cs) ts = f ∷ spelled_clauses cs ts
  spelled (effect_function f a p o b) ts = f ∷ spelled_new_type a (spelled_pattern p (o ∷ spelled b ts))
  spelled (effect_cases h rs v u o n) ts = spelled_head h (spelled_rules rs (spelled_if v (u ∷ o ∷ n ∷ ts)))

  pub spelled_parts : Parts → List Lexeme → List Lexeme
  spelled_parts (one x) ts = spelled x ts
  spelled_parts (more ps s x) ts = spelled_parts ps (s ∷ spelled x ts)

  pub spelled_arguments : Arguments → List Lexeme → List Lexeme
  spelled_arguments (argument x) ts = spelled x ts
  spelled_arguments (more_arguments xs x) ts = spelled_arguments xs (spelled x ts)

  pub spelled_fields : Fields → List Lexeme → List Lexeme
  spelled_fields (one_field f e x) ts = f ∷ e ∷ spelled x ts
  spelled_fields (more_fields fs s f e x) ts = spelled_fields fs (s ∷ f ∷ e ∷ spelled x ts)

  pub spelled_clause : Clause → List Lexeme → List Lexeme
  spelled_clause (plain p o b) ts = spelled_pattern p (o ∷ spelled b ts)
  spelled_clause (guarded p w g o b) ts = spelled_pattern p (w ∷ spelled g (o ∷ spelled b ts))
  spelled_clause (raised e p o b) ts = e ∷ spelled_pattern p (o ∷ spelled b ts)
  spelled_clause (raised_guarded e p w g o b) ts = e ∷ spelled_pattern p (w ∷ spelled g (o ∷ spelled b ts))
  spelled_clause (performed e q c k o b) ts = e ∷ spelled_pattern q (c ∷ spelled_pattern k (o ∷ spelled b ts))

  pub spelled_clauses : Clauses → List Lexeme → List Lexeme
  spelled_clauses (one_clause v c) ts = spelled_if v (spelled_clause c ts)
  spelled_clauses (more_clauses cs v c) ts = spelled_clauses cs (v ∷ spelled_clause c ts)

  pub spelled_binding : Binding → List Lexeme → List Lexeme
  spelled_binding (bound_pattern p q b) ts = spelled_pattern p (q ∷ spelled b ts)
  spelled_binding (bound_name n ps a q b) ts = n ∷ spelled_parameters ps (spelled_annotation_if a (q ∷ spelled b ts))

  pub spelled_bindings : Bindings → List Lexeme → List Lexeme
  spelled_bindings (one_binding b) ts = spelled_binding b ts
  spelled_bindings (more_bindings bs a b) ts = spelled_bindings bs (a ∷ spelled_binding b ts)

  pub spelled_rules : Rules → List Lexeme → List Lexeme
  spelled_rules no_rules ts = ts
  spelled_rules (more_rules rs v q o s l f k a b r) ts =
      spelled_rules rs (spelled_if v (spelled_pattern q (o ∷ s ∷ l ∷ f ∷ spelled_pattern k (a ∷ spelled b (r ∷ ts)))))

abbrev pub spelled_constructor : ConstructorTree → List Lexeme → List Lexeme
spelled_constructor (bare_constructor c) ts = c ∷ ts
spelled_constructor (constructor_of c o t) ts = c ∷ o ∷ spelled_type t ts

abbrev pub spelled_constructors : ConstructorTrees → List Lexeme → List Lexeme
spelled_constructors (one_constructor v c) ts = spelled_if v (spelled_constructor c ts)
spelled_constructors (more_constructors cs v c) ts = spelled_constructors cs (v ∷ spelled_constructor c ts)

abbrev pub spelled_field_type : FieldTree → List Lexeme → List Lexeme
spelled_field_type f ts = spelled_if f.mutable (f.name ∷ f.colon ∷ spelled_type f.type ts)

abbrev pub spelled_field_types : FieldTrees → List Lexeme → List Lexeme
spelled_field_types (one_field_type f) ts = spelled_field_type f ts
spelled_field_types (more_field_types fs s f) ts = spelled_field_types fs (s ∷ spelled_field_type f ts)

abbrev pub spelled_variables : Parameters → List Lexeme → List Lexeme
spelled_variables (one_parameter v) ts = v ∷ ts
spelled_variables (more_parameters vs c v) ts = spelled_variables vs (c ∷ v ∷ ts)

abbrev pub spelled_type_parameters : TypeParameters → List Lexeme → List Lexeme
spelled_type_parameters no_parameters ts = ts
spelled_type_parameters (a_parameter v) ts = v ∷ ts
spelled_type_parameters (several_parameters l vs r) ts = l ∷ spelled_variables vs (r ∷ ts)

abbrev pub spelled_body : TypeBodyTree → List Lexeme → List Lexeme
spelled_body (variant cs) ts = spelled_constructors cs ts
spelled_body (fields_type l fs s r) ts = l ∷ spelled_field_types fs (spelled_if s (r ∷ ts))

abbrev pub spelled_definition : DefinitionTree → List Lexeme → List Lexeme
spelled_definition d ts = spelled_type_parameters d.parameters (d.name ∷ d.equals ∷ spelled_body d.body ts)

abbrev pub spelled_definitions : DefinitionTrees → List Lexeme → List Lexeme
spelled_definitions (one_definition d) ts = spelled_definition d ts
spelled_definitions (more_definitions ds a d) ts = spelled_definitions ds (a ∷ spelled_definition d ts)

abbrev pub spelled_effect : EffectTree → List Lexeme → List Lexeme
spelled_effect (effect_constant c o t) ts = c ∷ o ∷ spelled_type t ts
spelled_effect (effect_of c o a w t) ts = c ∷ o ∷ spelled_type a (w ∷ spelled_type t ts)

abbrev pub spelled_effects : EffectTrees → List Lexeme → List Lexeme
spelled_effects (one_effect v e) ts = spelled_if v (spelled_effect e ts)
spelled_effects (more_effects es v e) ts = spelled_effects es (v ∷ spelled_effect e ts)

abbrev pub spelled_item : ItemTree → List Lexeme → List Lexeme
spelled_item (expression_item x) ts = spelled x ts
spelled_item (let_item l r bs) ts = l ∷ spelled_if r (spelled_bindings bs ts)
spelled_item (type_item t ds) ts = t ∷ spelled_definitions ds ts
spelled_item (effect_item t u qs n o es) ts = t ∷ u ∷ spelled_path qs (n ∷ o ∷ spelled_effects es ts)
spelled_item (exception_item e c) ts = e ∷ spelled_constructor c ts
spelled_item (open_item o qs n) ts = o ∷ spelled_path qs (n ∷ ts)

abbrev pub spelled_items : ItemTrees → List Lexeme → List Lexeme
spelled_items no_items ts = ts
spelled_items (more_items is g i) ts = spelled_items is (spelled_all g (spelled_item i ts))

-- the tokens of a whole text
abbrev pub spelled_prog : ProgTree → List Lexeme
spelled_prog p = spelled_items p.items (spelled_all p.ending [])
