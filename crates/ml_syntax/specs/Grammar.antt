-- The grammar: which trees are derivations. Levels run from 0, the tightest, to 17; a looser form stands inside a tighter one
-- only in brackets, but for a form of level 17 as a last operand. OCaml manual, chapter "The OCaml language".
use Rattle.std.specs.Prelude.{◌≡◌, ℕ, ◌≤◌, ◌⊎◌, Bool, true, false, ◌||◌, List, [], ◌∷◌, Option, Some, None, bytes_eq, codes}
use Rattle.ml_lexer.specs.Lexeme.{Lexeme}
use Rattle.ml_syntax.specs.declared.role.Role.{Role}
use Rattle.ml_syntax.specs.declared.role.Role.TheVariants as roles
use Rattle.ml_syntax.specs.Role.{role}
use Rattle.ml_syntax.specs.Level.{operator_level, left_level, right_level, is_operator, operator_of, begins_expression, takes}
use Rattle.ml_syntax.specs.Tree.{Qualifier, TypeTree, type_variable, type_any, type_name, type_apply, type_apply_several, type_bracket, type_tuple, type_arrow, TypeParts, one_type, more_types, Annotation, OpenEnd, PatternTree, any_pattern, name_pattern, constant_pattern, empty_pattern, bracket_pattern, annotated_pattern, list_pattern, record_pattern, constructor_pattern, construct_pattern, cons_pattern, tuple_pattern, or_pattern, alias_pattern, PatternParts, one_pattern, more_patterns, PatternFields, one_pattern_field, more_pattern_fields, NewType, CasesHead, by_function, by_match, Tree, variable, constructor, constant, least, empty, bracket, annotated, listed, fielded, while_loop, for_loop, dereference, field, element, apply, construct, handle, negate, binary, tuple, set_field, set_element, choice, choice_else, sequence, trailed, binding, matching, abstraction, cases, effect_function, effect_cases, Parts, one, more, Arguments, argument, more_arguments, Fields, one_field, more_fields, Clause, plain, guarded, raised, raised_guarded, performed, Clauses, one_clause, more_clauses, Binding, bound_pattern, bound_name, Bindings, one_binding, more_bindings, Rules, no_rules, more_rules}

-- the token has this role
abbrev pub Is : Role → Lexeme → Type 0
Is r t = role t ≡ r

-- the token is an upper name of these bytes
abbrev pub IsUpperName : List ℕ → Lexeme → Type 0
IsUpperName name t = Is roles.Upper t × (bytes_eq t.text name ≡ true)

-- a token that may be absent
abbrev pub IsIf : Role → Option Lexeme → Type 0
IsIf r None = Unit {0}
IsIf r (Some t) = Is r t

-- upper names, each with a dot behind it
abbrev pub IsPath : List Qualifier → Type 0
IsPath [] = Unit {0}
IsPath (q ∷ qs) = Is roles.Upper q.upper × Is roles.Dot q.dot × IsPath qs

-- Types: 0 is a `targ` of the grammar, 1 a tuple, 2 an arrow, which groups to the right.

abbrev pub type_level : TypeTree → ℕ
type_level (type_tuple t s ps) = 1
type_level (type_arrow a o b) = 2
type_level _ = 0

abbrev mutual
  pub IsType : TypeTree → Type 0
  IsType (type_variable t) = Is roles.TypeVariable t
  IsType (type_any t) = Is roles.Underscore t
  IsType (type_name qs n) = IsPath qs × Is roles.Lower n
  IsType (type_apply t qs n) = IsType t × (type_level t ≡ 0) × IsPath qs × Is roles.Lower n
  IsType (type_apply_several l t c ps r qs n) =
      Is roles.LeftParenthesis l × IsType t × Is roles.Comma c × AreTypes roles.Comma 2 ps × Is roles.RightParenthesis r
      × IsPath qs × Is roles.Lower n
  IsType (type_bracket l t r) = Is roles.LeftParenthesis l × IsType t × Is roles.RightParenthesis r
  IsType (type_tuple t s ps) = IsType t × (type_level t ≡ 0) × Is roles.Star s × AreTypes roles.Star 0 ps
  IsType (type_arrow a o b) = IsType a × (type_level a ≤ 1) × Is roles.RightArrow o × IsType b

  -- types of at most this level with this token between them
  pub AreTypes : Role → ℕ → TypeParts → Type 0
  AreTypes r most (one_type t) = IsType t × (type_level t ≤ most)
  AreTypes r most (more_types ps s t) = AreTypes r most ps × Is r s × IsType t × (type_level t ≤ most)

abbrev pub IsAnnotation : Annotation → Type 0
IsAnnotation a = Is roles.Colon a.colon × IsType a.type

abbrev pub IsAnnotationIf : Option Annotation → Type 0
IsAnnotationIf None = Unit {0}
IsAnnotationIf (Some a) = IsAnnotation a

-- Patterns: 0 is a simple one, which may be a parameter, 1 a constructor with a pattern, 2 `::` (to the right), 3 a tuple,
-- 4 `|` (to the left), 5 `as`.

abbrev pub pattern_level : PatternTree → ℕ
pattern_level (construct_pattern qs n p) = 1
pattern_level (cons_pattern p o q) = 2
pattern_level (tuple_pattern p s ps) = 3
pattern_level (or_pattern p o q) = 4
pattern_level (alias_pattern p a n) = 5
pattern_level _ = 0

-- a constant, whose sign is no part of it
abbrev pub is_constant : Role → Bool
is_constant roles.Integer = true
is_constant roles.Character = true
is_constant roles.Text = true
is_constant roles.True = true
is_constant roles.False = true
is_constant _ = false

abbrev pub IsEnd : Option OpenEnd → Type 0
IsEnd None = Unit {0}
IsEnd (Some e) = Is roles.Semicolon e.semicolon × Is roles.Underscore e.any

-- () or []
abbrev pub IsEmptyPattern : Role → Role → Type 0
IsEmptyPattern roles.LeftParenthesis r = r ≡ roles.RightParenthesis
IsEmptyPattern roles.LeftBracket r = r ≡ roles.RightBracket
IsEmptyPattern _ r = ⊥

abbrev mutual
  pub IsPattern : PatternTree → Type 0
  IsPattern (any_pattern t) = Is roles.Underscore t
  IsPattern (name_pattern t) = Is roles.Lower t
  IsPattern (constant_pattern t) = is_constant (role t) ≡ true
  IsPattern (empty_pattern l r) = IsEmptyPattern (role l) (role r)
  IsPattern (bracket_pattern l p r) = Is roles.LeftParenthesis l × IsPattern p × Is roles.RightParenthesis r
  IsPattern (annotated_pattern l p a r) =
      Is roles.LeftParenthesis l × IsPattern p × IsAnnotation a × Is roles.RightParenthesis r
  IsPattern (list_pattern l ps r) = Is roles.LeftBracket l × ArePatterns roles.Semicolon 5 ps × Is roles.RightBracket r
  IsPattern (record_pattern l fs e r) = Is roles.LeftBrace l × ArePatternFields fs × IsEnd e × Is roles.RightBrace r
  IsPattern (constructor_pattern qs n) = IsPath qs × Is roles.Upper n
  IsPattern (construct_pattern qs n p) = IsPath qs × Is roles.Upper n × IsPattern p × (pattern_level p ≤ 1)
  IsPattern (cons_pattern p o q) =
      IsPattern p × (pattern_level p ≤ 1) × Is roles.DoubleColon o × IsPattern q × (pattern_level q ≤ 2)
  IsPattern (tuple_pattern p s ps) = IsPattern p × (pattern_level p ≤ 2) × Is roles.Comma s × ArePatterns roles.Comma 2 ps
  IsPattern (or_pattern p o q) =
      IsPattern p × (pattern_level p ≤ 4) × Is roles.Bar o × IsPattern q × (pattern_level q ≤ 3)
  IsPattern (alias_pattern p a n) = IsPattern p × Is roles.As a × Is roles.Lower n

  -- patterns of at most this level with this token between them
  pub ArePatterns : Role → ℕ → PatternParts → Type 0
  ArePatterns r most (one_pattern p) = IsPattern p × (pattern_level p ≤ most)
  ArePatterns r most (more_patterns ps s p) = ArePatterns r most ps × Is r s × IsPattern p × (pattern_level p ≤ most)

  pub ArePatternFields : PatternFields → Type 0
  ArePatternFields (one_pattern_field f e p) = Is roles.Lower f × Is roles.Equals e × IsPattern p
  ArePatternFields (more_pattern_fields fs s f e p) =
      ArePatternFields fs × Is roles.Semicolon s × Is roles.Lower f × Is roles.Equals e × IsPattern p

-- the parameters of a function
abbrev pub AreParameters : List PatternTree → Type 0
AreParameters [] = Unit {0}
AreParameters (p ∷ ps) = IsPattern p × (pattern_level p ≡ 0) × AreParameters ps

abbrev pub IsSome : List PatternTree → Type 0
IsSome [] = ⊥
IsSome (p ∷ ps) = Unit {0}

abbrev pub is_name : PatternTree → Bool
is_name (name_pattern t) = true
is_name _ = false

-- what an effect clause takes: an effect constructor, alone or with a pattern, in brackets or not
abbrev pub IsEffectPattern : PatternTree → Type 0
IsEffectPattern (constructor_pattern qs n) = Unit {0}
IsEffectPattern (construct_pattern qs n p) = Unit {0}
IsEffectPattern (bracket_pattern l p r) = IsEffectPattern p
IsEffectPattern _ = ⊥

-- a continuation's name, or `_`
abbrev pub IsContinuation : PatternTree → Type 0
IsContinuation (name_pattern t) = Unit {0}
IsContinuation (any_pattern t) = Unit {0}
IsContinuation _ = ⊥

-- the same, which may have a type in a handler
abbrev pub IsTypedContinuation : PatternTree → Type 0
IsTypedContinuation (annotated_pattern l p a r) = IsContinuation p
IsTypedContinuation p = IsContinuation p

-- Expressions.

abbrev pub level : Tree → ℕ
level (dereference o x) = 1
level (field x d f) = 2
level (element x d l i r) = 2
level (apply f xs) = 3
level (construct qs n x) = 3
level (handle qs n f x l fs r) = 3
level (negate o x) = 4
level (binary a o b) = operator_level (operator_of (role o))
level (tuple a s ps) = 13
level (set_field x d f o a) = 14
level (set_element x d l i r o a) = 14
level (choice i c t a) = 15
level (choice_else i c t a e b) = 15
level (sequence a s ps) = 16
level (trailed x s) = 16
level (binding l r bs i b) = 17
level (matching m x w cs) = 17
level (abstraction f ps o b) = 17
level (cases f cs) = 17
-- the value of `effc`, which stands nowhere else
level (effect_function f a p o b) = 18
level (effect_cases h rs v u o n) = 18
level _ = 0

-- a form of at most this level, or one of level 17, which may be a last operand
abbrev pub Fits : ℕ → Tree → Type 0
Fits most x = (level x ≤ most) ⊎ (level x ≡ 17)

abbrev pub is_trailed : Tree → Bool
is_trailed (trailed x s) = true
is_trailed _ = false

-- the levels that a last operand may go on with: none behind a semicolon at its end
abbrev pub room : ℕ → Tree → ℕ
room most (trailed x s) = 0
room most x = most

abbrev pub is_role_else : Role → Bool
is_role_else roles.Else = true
is_role_else _ = false

abbrev pub is_role_bar : Role → Bool
is_role_bar roles.Bar = true
is_role_bar _ = false

-- a form reaches as far as it can: a token of this role behind it doesn't go on with what stands at its right edge
abbrev mutual
  pub Ends : Role → Tree → Type 0
  Ends r (dereference o x) = (takes r (room 1 x) ≡ false) × Ends r x
  Ends r (apply f xs) = EndsArguments r xs
  Ends r (construct qs n x) = (takes r (room 2 x) ≡ false) × Ends r x
  Ends r (negate o x) = (takes r (room 4 x) ≡ false) × Ends r x
  Ends r (binary a o b) = (takes r (room (right_level (operator_of (role o))) b) ≡ false) × Ends r b
  Ends r (tuple a s ps) = EndsParts r 12 ps
  Ends r (set_field x d f o a) = (takes r (room 14 a) ≡ false) × Ends r a
  Ends r (set_element x d l i c o a) = (takes r (room 14 a) ≡ false) × Ends r a
  -- an `else` belongs to the nearest `if` without one
  Ends r (choice i c t a) = (is_role_else r ≡ false) × (takes r (room 15 a) ≡ false) × Ends r a
  Ends r (choice_else i c t a e b) = (takes r (room 15 b) ≡ false) × Ends r b
  Ends r (sequence a s ps) = EndsParts r 15 ps
  -- another expression would go on behind the semicolon
  Ends r (trailed x s) = begins_expression r ≡ false
  Ends r (binding l c bs i b) = (takes r (room 16 b) ≡ false) × Ends r b
  -- a clause belongs to the nearest form that takes one
  Ends r (matching m x w cs) = (is_role_bar r ≡ false) × EndsClauses r cs
  Ends r (abstraction f ps o b) = (takes r (room 16 b) ≡ false) × Ends r b
  Ends r (cases f cs) = (is_role_bar r ≡ false) × EndsClauses r cs
  Ends r _ = Unit {0}

  pub EndsParts : Role → ℕ → Parts → Type 0
  EndsParts r most (one x) = (takes r (room most x) ≡ false) × Ends r x
  EndsParts r most (more ps s x) = (takes r (room most x) ≡ false) × Ends r x

  pub EndsArguments : Role → Arguments → Type 0
  EndsArguments r (argument x) = (takes r (room 2 x) ≡ false) × Ends r x
  EndsArguments r (more_arguments xs x) = (takes r (room 2 x) ≡ false) × Ends r x

  pub EndsClause : Role → Clause → Type 0
  EndsClause r (plain p o b) = (takes r (room 16 b) ≡ false) × Ends r b
  EndsClause r (guarded p w g o b) = (takes r (room 16 b) ≡ false) × Ends r b
  EndsClause r (raised e p o b) = (takes r (room 16 b) ≡ false) × Ends r b
  EndsClause r (raised_guarded e p w g o b) = (takes r (room 16 b) ≡ false) × Ends r b
  EndsClause r (performed e q c k o b) = (takes r (room 16 b) ≡ false) × Ends r b

  pub EndsClauses : Role → Clauses → Type 0
  EndsClauses r (one_clause v c) = EndsClause r c
  EndsClauses r (more_clauses cs v c) = EndsClause r c

-- the last field ends before a semicolon
abbrev pub EndsFields : Fields → Type 0
EndsFields (one_field f e x) = Ends roles.Semicolon x
EndsFields (more_fields fs s f e x) = Ends roles.Semicolon x

-- the last of the parts of a tuple may have a further one behind it
abbrev pub IsInner : Parts → Type 0
IsInner (one x) = level x ≤ 12
IsInner (more ps s x) = level x ≤ 12

-- juxtaposition: any token that begins an argument goes on as a name does
abbrev pub juxtaposed : Role
juxtaposed = roles.Lower

-- an upper name that isn't applied stands at the right edge, so that a dot and a name behind it belong to its path
abbrev pub ends_in_constructor : Tree → Bool
ends_in_constructor (constructor qs n) = true
ends_in_constructor (dereference o x) = ends_in_constructor x
ends_in_constructor _ = false

-- () and [] and [||]
abbrev pub IsEmpty : Role → Role → Type 0
IsEmpty roles.LeftParenthesis r = r ≡ roles.RightParenthesis
IsEmpty roles.LeftBracket r = r ≡ roles.RightBracket
IsEmpty roles.LeftArrayBracket r = r ≡ roles.RightArrayBracket
IsEmpty _ r = ⊥

-- ( ) and begin end
abbrev pub IsBracket : Role → Role → Type 0
IsBracket roles.LeftParenthesis r = r ≡ roles.RightParenthesis
IsBracket roles.Begin r = r ≡ roles.End
IsBracket _ r = ⊥

-- [ ] and [| |]
abbrev pub IsListBracket : Role → Role → Type 0
IsListBracket roles.LeftBracket r = r ≡ roles.RightBracket
IsListBracket roles.LeftArrayBracket r = r ≡ roles.RightArrayBracket
IsListBracket _ r = ⊥

-- .( ) and .[ ]
abbrev pub IsElementBracket : Role → Role → Type 0
IsElementBracket roles.LeftParenthesis r = r ≡ roles.RightParenthesis
IsElementBracket roles.LeftBracket r = r ≡ roles.RightBracket
IsElementBracket _ r = ⊥

-- to and downto
abbrev pub is_direction : Role → Bool
is_direction roles.To = true
is_direction roles.Downto = true
is_direction _ = false

-- what an application applies: a form of level 2 or tighter that is no constructor alone, or a constructor with its argument
abbrev pub IsApplied : Tree → Type 0
IsApplied (constructor qs n) = ⊥
IsApplied (construct qs n x) = Unit {0}
IsApplied x = level x ≤ 2

-- which clauses a form takes: only `match` those of exceptions, and `function` none of effects
abbrev pub IsTakenBy : Role → Clause → Type 0
IsTakenBy roles.Match c = Unit {0}
IsTakenBy roles.Try (raised e p o b) = ⊥
IsTakenBy roles.Try (raised_guarded e p w g o b) = ⊥
IsTakenBy roles.Try c = Unit {0}
IsTakenBy roles.Function (plain p o b) = Unit {0}
IsTakenBy roles.Function (guarded p w g o b) = Unit {0}
IsTakenBy _ c = ⊥

abbrev pub is_value_clause : Clause → Bool
is_value_clause (plain p o b) = true
is_value_clause (guarded p w g o b) = true
is_value_clause _ = false

abbrev pub has_value_clause : Clauses → Bool
has_value_clause (one_clause v c) = is_value_clause c
has_value_clause (more_clauses cs v c) = has_value_clause cs || is_value_clause c

-- a `match` has at least one value clause
abbrev pub HasClauses : Role → Clauses → Type 0
HasClauses roles.Match cs = has_value_clause cs ≡ true
HasClauses roles.Try cs = Unit {0}
HasClauses _ cs = ⊥

-- `let rec` binds a name with parameters, or one whose right side is a function
abbrev pub IsFunctionBinding : Binding → Type 0
IsFunctionBinding (bound_pattern p q b) = ⊥
IsFunctionBinding (bound_name n (p ∷ ps) a q b) = Unit {0}
IsFunctionBinding (bound_name n [] a q (abstraction f ps o b)) = Unit {0}
IsFunctionBinding (bound_name n [] a q (cases f cs)) = Unit {0}
IsFunctionBinding (bound_name n [] a q _) = ⊥

abbrev pub IsBindingOf : Option Lexeme → Binding → Type 0
IsBindingOf None b = Unit {0}
IsBindingOf (Some t) b = IsFunctionBinding b

-- the names of the fields
abbrev pub has_field : List ℕ → Fields → Bool
has_field name (one_field f e x) = bytes_eq f.text name
has_field name (more_fields fs s f e x) = has_field name fs || bytes_eq f.text name

abbrev pub fields_count : Fields → ℕ
fields_count (one_field f e x) = 1
fields_count (more_fields (one_field g d y) s f e x) = 2
fields_count (more_fields (more_fields (one_field h c z) s g d y) t f e x) = 3
fields_count _ = 4

-- a handler has `retc`, `exnc` and `effc` in any order, that of `try_with` has `effc` alone
abbrev pub HasHandlerFields : Role → Fields → Type 0
HasHandlerFields roles.TakesHandler fs =
    (fields_count fs ≡ 3) × (has_field (codes "retc") fs ≡ true) × (has_field (codes "exnc") fs ≡ true)
    × (has_field (codes "effc") fs ≡ true)
HasHandlerFields roles.TakesEffects fs = (fields_count fs ≡ 1) × (has_field (codes "effc") fs ≡ true)
HasHandlerFields _ fs = ⊥

-- a name that the parameter of `effc` has
abbrev pub is_parameter_name : List ℕ → PatternTree → Bool
is_parameter_name name (name_pattern t) = bytes_eq t.text name
is_parameter_name name (annotated_pattern l (name_pattern t) a r) = bytes_eq t.text name
is_parameter_name name _ = false

-- the rules behind a `match` on the parameter of `effc`
abbrev pub AreCasesOf : PatternTree → Tree → Type 0
AreCasesOf p (effect_cases (by_match m x w) rs v u o n) = is_parameter_name x.text p ≡ true
AreCasesOf p _ = ⊥

abbrev pub IsNewType : Option NewType → Type 0
IsNewType None = Unit {0}
IsNewType (Some n) =
    Is roles.LeftParenthesis n.opening × Is roles.Type n.keyword × Is roles.Lower n.name × Is roles.RightParenthesis n.closing

abbrev pub IsHead : CasesHead → Type 0
IsHead (by_function f) = Is roles.Function f
IsHead (by_match m x w) = Is roles.Match m × Is roles.Lower x × Is roles.With w

-- a form that `effc` may be: with its own parameter, or `function`
abbrev pub IsEffects : Tree → Type 0
IsEffects (effect_function f a p o b) = Unit {0}
IsEffects (effect_cases (by_function f) rs v u o n) = Unit {0}
IsEffects _ = ⊥

-- the value of this field of a handler
abbrev pub IsHandlerPart : Bool → Tree → Type 0
IsHandlerPart true x = IsEffects x
IsHandlerPart false x = Fits 15 x

abbrev pub is_effects_name : Lexeme → Bool
is_effects_name f = bytes_eq f.text (codes "effc")

-- the bar before a rule, which the first one may lack
abbrev pub IsRuleBar : Rules → Option Lexeme → Type 0
IsRuleBar no_rules v = IsIf roles.Bar v
IsRuleBar (more_rules rs w q o s l f k a b r) None = ⊥
IsRuleBar (more_rules rs w q o s l f k a b r) (Some v) = Is roles.Bar v

abbrev mutual
  -- the tree is an expression; the truth value tells whether it begins directly behind a prefix `-`
  pub IsExpression : Bool → Tree → Type 0
  IsExpression m (variable qs n) = IsPath qs × Is roles.Lower n
  IsExpression m (constructor qs n) = IsPath qs × Is roles.Upper n
  IsExpression m (constant t) = is_constant (role t) ≡ true
  IsExpression m (least t) = Is roles.LeastInteger t × (m ≡ true)
  IsExpression m (empty l r) = IsEmpty (role l) (role r)
  IsExpression m (bracket l x r) = IsBracket (role l) (role r) × IsExpression false x × Fits 16 x
  IsExpression m (annotated l x a r) =
      Is roles.LeftParenthesis l × IsExpression false x × Fits 16 x × IsAnnotation a × Is roles.RightParenthesis r
  IsExpression m (listed l ps r) = IsListBracket (role l) (role r) × AreElements ps
  IsExpression m (fielded l fs r) = Is roles.LeftBrace l × AreFields fs × Is roles.RightBrace r
  IsExpression m (while_loop w c d b e) =
      Is roles.While w × IsExpression false c × Fits 15 c × Is roles.Do d × IsExpression false b × Fits 16 b
      × Is roles.Done e
  IsExpression m (for_loop f x q a t b d c e) =
      (Is roles.For f × Is roles.Lower x × Is roles.Equals q) × (IsExpression false a × Fits 15 a)
      × (is_direction (role t) ≡ true) × (IsExpression false b × Fits 15 b) × Is roles.Do d
      × (IsExpression false c × Fits 16 c) × Is roles.Done e
  IsExpression m (dereference o x) = Is roles.Bang o × IsExpression false x × Fits 1 x
  IsExpression m (field x d f) =
      IsExpression m x × (level x ≤ 2) × Ends roles.Dot x × (ends_in_constructor x ≡ false) × Is roles.Dot d
      × Is roles.Lower f
  IsExpression m (element x d l i r) =
      IsExpression m x × (level x ≤ 2) × Ends roles.Dot x × Is roles.Dot d × IsElementBracket (role l) (role r)
      × IsExpression false i × Fits 16 i
  IsExpression m (apply f xs) = IsExpression m f × IsApplied f × Ends juxtaposed f × AreArguments xs
  IsExpression m (construct qs n x) = IsPath qs × Is roles.Upper n × IsExpression false x × (level x ≤ 2)
  -- the four names that take a handler are used with all their arguments
  IsExpression m (handle qs n f x l fs r) =
      (IsPath qs × HasHandlerFields (role n) fs) × (IsExpression false f × (level f ≤ 2) × Ends juxtaposed f)
      × (IsExpression false x × (level x ≤ 2) × Ends juxtaposed x) × Is roles.LeftBrace l × AreHandlerFields fs
      × Is roles.RightBrace r
  IsExpression m (negate o x) = Is roles.Minus o × IsExpression true x × Fits 4 x
  IsExpression m (binary a o b) =
      (is_operator (role o) ≡ true)
      × (IsExpression false a × (level a ≤ left_level (operator_of (role o))) × Ends (role o) a)
      × IsExpression false b × Fits (right_level (operator_of (role o))) b
  IsExpression m (tuple a s ps) =
      IsExpression false a × (level a ≤ 12) × Ends roles.Comma a × Is roles.Comma s × AreTupleParts ps
  IsExpression m (set_field x d f o a) =
      (IsExpression false x × (level x ≤ 2) × Ends roles.Dot x × (ends_in_constructor x ≡ false)) × Is roles.Dot d
      × Is roles.Lower f × Is roles.LeftArrow o × IsExpression false a × Fits 14 a
  IsExpression m (set_element x d l i r o a) =
      (IsExpression false x × (level x ≤ 2) × Ends roles.Dot x) × Is roles.Dot d
      × (Is roles.LeftParenthesis l × IsExpression false i × Fits 16 i × Is roles.RightParenthesis r)
      × Is roles.LeftArrow o × IsExpression false a × Fits 14 a
  IsExpression m (choice i c t a) =
      Is roles.If i × (IsExpression false c × Fits 15 c) × Is roles.Then t × IsExpression false a × Fits 15 a
  IsExpression m (choice_else i c t a e b) =
      Is roles.If i × (IsExpression false c × Fits 15 c) × Is roles.Then t
      × (IsExpression false a × Fits 15 a × Ends roles.Else a) × Is roles.Else e × IsExpression false b × Fits 15 b
  IsExpression m (sequence a s ps) =
      IsExpression false a × Fits 15 a × Ends roles.Semicolon a × Is roles.Semicolon s × AreElements ps
  IsExpression m (trailed x s) =
      IsExpression false x × Fits 16 x × (is_trailed x ≡ false) × Ends roles.Semicolon x × Is roles.Semicolon s
  IsExpression m (binding l c bs i b) =
      Is roles.Let l × IsIf roles.Rec c × AreBindings c bs × Is roles.In i × IsExpression false b × Fits 16 b
  IsExpression m (matching t x w cs) =
      HasClauses (role t) cs × (IsExpression false x × Fits 16 x) × Is roles.With w × AreClauses (role t) cs
  IsExpression m (abstraction f ps o b) =
      Is roles.Fun f × (IsSome ps × AreParameters ps) × Is roles.RightArrow o × IsExpression false b × Fits 16 b
  IsExpression m (cases f cs) = Is roles.Function f × AreClauses roles.Function cs
  IsExpression m (effect_function f a p o b) =
      Is roles.Fun f × IsNewType a × IsPattern p × Is roles.RightArrow o × AreCasesOf p b × IsExpression false b
  IsExpression m (effect_cases h rs v u o n) =
      IsHead h × AreRules rs × IsRuleBar rs v × Is roles.Underscore u × Is roles.RightArrow o × IsUpperName (codes "None") n

  -- expressions with semicolons between them
  pub AreElements : Parts → Type 0
  AreElements (one x) = IsExpression false x × Fits 15 x
  AreElements (more ps s x) =
      AreElements ps × EndsParts roles.Semicolon 15 ps × Is roles.Semicolon s × IsExpression false x × Fits 15 x

  -- the parts of a tuple behind its first one; the last may be of level 17
  pub AreTupleParts : Parts → Type 0
  AreTupleParts (one x) = IsExpression false x × Fits 12 x
  AreTupleParts (more ps s x) =
      AreTupleParts ps × IsInner ps × EndsParts roles.Comma 12 ps × Is roles.Comma s × IsExpression false x × Fits 12 x

  pub AreArguments : Arguments → Type 0
  AreArguments (argument x) = IsExpression false x × (level x ≤ 2)
  AreArguments (more_arguments xs x) =
      AreArguments xs × EndsArguments juxtaposed xs × IsExpression false x × (level x ≤ 2)

  pub AreFields : Fields → Type 0
  AreFields (one_field f e x) = Is roles.Lower f × Is roles.Equals e × IsExpression false x × Fits 15 x
  AreFields (more_fields fs s f e x) =
      AreFields fs × EndsFields fs × Is roles.Semicolon s × Is roles.Lower f × Is roles.Equals e × IsExpression false x
      × Fits 15 x

  pub AreHandlerFields : Fields → Type 0
  AreHandlerFields (one_field f e x) =
      Is roles.Lower f × Is roles.Equals e × IsExpression false x × IsHandlerPart (is_effects_name f) x
  AreHandlerFields (more_fields fs s f e x) =
      AreHandlerFields fs × EndsFields fs × Is roles.Semicolon s × Is roles.Lower f × Is roles.Equals e
      × IsExpression false x × IsHandlerPart (is_effects_name f) x

  pub IsClause : Clause → Type 0
  IsClause (plain p o b) = IsPattern p × Is roles.RightArrow o × IsExpression false b × Fits 16 b
  IsClause (guarded p w g o b) =
      IsPattern p × Is roles.When w × (IsExpression false g × Fits 16 g) × Is roles.RightArrow o × IsExpression false b
      × Fits 16 b
  IsClause (raised e p o b) = Is roles.Exception e × IsPattern p × Is roles.RightArrow o × IsExpression false b × Fits 16 b
  IsClause (raised_guarded e p w g o b) =
      Is roles.Exception e × IsPattern p × Is roles.When w × (IsExpression false g × Fits 16 g) × Is roles.RightArrow o
      × IsExpression false b × Fits 16 b
  IsClause (performed e q c k o b) =
      Is roles.Effect e × (IsPattern q × IsEffectPattern q) × Is roles.Comma c × (IsPattern k × IsContinuation k)
      × Is roles.RightArrow o × IsExpression false b × Fits 16 b

  -- the clauses of a form that begins with this role
  pub AreClauses : Role → Clauses → Type 0
  AreClauses r (one_clause v c) = IsIf roles.Bar v × IsTakenBy r c × IsClause c
  AreClauses r (more_clauses cs v c) =
      AreClauses r cs × EndsClauses roles.Bar cs × Is roles.Bar v × IsTakenBy r c × IsClause c

  pub IsBinding : Binding → Type 0
  IsBinding (bound_pattern p q b) = IsPattern p × (is_name p ≡ false) × Is roles.Equals q × IsExpression false b × Fits 16 b
  IsBinding (bound_name n ps a q b) =
      Is roles.Lower n × AreParameters ps × IsAnnotationIf a × Is roles.Equals q × IsExpression false b × Fits 16 b

  -- the bindings of a `let`, with `rec` or without it
  pub AreBindings : Option Lexeme → Bindings → Type 0
  AreBindings c (one_binding b) = IsBinding b × IsBindingOf c b
  AreBindings c (more_bindings bs a b) = AreBindings c bs × Is roles.And a × IsBinding b × IsBindingOf c b

  pub AreRules : Rules → Type 0
  AreRules no_rules = Unit {0}
  AreRules (more_rules rs v q o s l f k a b r) =
      (AreRules rs × IsRuleBar rs v) × (IsPattern q × IsEffectPattern q) × Is roles.RightArrow o × IsUpperName (codes "Some") s
      × (Is roles.LeftParenthesis l × Is roles.Fun f) × (IsPattern k × IsTypedContinuation k) × Is roles.RightArrow a
      × (IsExpression false b × Fits 16 b) × Is roles.RightParenthesis r
