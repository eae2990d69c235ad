-- The nodes of a derivation: those of its parts from the left, and then its own. So the numbers are canonical.
use Rattle.std.specs.Prelude.{ℕ, ◌-◌, Bool, true, false, List, [], ◌∷◌, ◌++◌, length, map, Option, Some, None}
use Rattle.fx_base.specs.declared.refusal.Place.{Place}
use Rattle.ml_lexer.specs.Lexeme.{Lexeme}
use Rattle.ml_syntax.specs.declared.role.Role.{Role}
use Rattle.ml_syntax.specs.declared.role.Role.TheVariants as roles
use Rattle.ml_syntax.specs.declared.node.Name.{Name}
use Rattle.ml_syntax.specs.declared.node.LongName.{LongName}
use Rattle.ml_syntax.specs.declared.node.LiteralKind.{LiteralKind}
use Rattle.ml_syntax.specs.declared.node.LiteralKind.TheVariants as literals
use Rattle.ml_syntax.specs.declared.node.Literal.{Literal}
use Rattle.ml_syntax.specs.declared.node.NamedPart.{NamedPart}
use Rattle.ml_syntax.specs.declared.node.Clause.{Clause as ClauseNode}
use Rattle.ml_syntax.specs.declared.node.Clause.TheVariants as clauses
use Rattle.ml_syntax.specs.declared.node.Binding.{Binding as BindingNode}
use Rattle.ml_syntax.specs.declared.node.Binding.TheVariants as bindings
use Rattle.ml_syntax.specs.declared.node.EffectRule.{EffectRule}
use Rattle.ml_syntax.specs.declared.node.Node.{Node}
use Rattle.ml_syntax.specs.declared.node.Node.TheVariants as node
use Rattle.ml_syntax.specs.Role.{role}
use Rattle.ml_syntax.specs.Level.{operator_of}
use Rattle.ml_syntax.specs.Tree.{Qualifier, TypeTree, type_variable, type_any, type_name, type_apply, type_apply_several, type_bracket, type_tuple, type_arrow, TypeParts, one_type, more_types, Annotation, PatternTree, any_pattern, name_pattern, constant_pattern, empty_pattern, bracket_pattern, annotated_pattern, list_pattern, record_pattern, constructor_pattern, construct_pattern, cons_pattern, tuple_pattern, or_pattern, alias_pattern, PatternParts, one_pattern, more_patterns, PatternFields, one_pattern_field, more_pattern_fields, NewType, CasesHead, by_function, by_match, Tree, variable, constructor, constant, least, empty, bracket, annotated, listed, fielded, while_loop, for_loop, dereference, field, element, apply, construct, handle, negate, binary, tuple, set_field, set_element, choice, choice_else, sequence, trailed, binding, matching, abstraction, cases, effect_function, effect_cases, Parts, one, more, Arguments, argument, more_arguments, Fields, one_field, more_fields, Clause, plain, guarded, raised, raised_guarded, performed, Clauses, one_clause, more_clauses, Binding, bound_pattern, bound_name, Bindings, one_binding, more_bindings, Rules, no_rules, more_rules}

-- the number of the last node
abbrev pub last : List Node → ℕ
last ns = length ns - 1

abbrev pub name_of : Lexeme → Name
name_of t = record { place = t.place; text = t.text }

abbrev pub first_place : List Qualifier → Lexeme → Place
first_place [] t = t.place
first_place (q ∷ qs) t = q.upper.place

abbrev pub long_name : List Qualifier → Lexeme → LongName
long_name qs t = record { place = first_place qs t; path = map (λ q. q.upper.text) qs; last = name_of t }

-- the sort of a constant; no other role is a constant's
abbrev pub literal_kind : Role → LiteralKind
literal_kind roles.Character = literals.Character
literal_kind roles.Text = literals.Text
literal_kind roles.True = literals.True
literal_kind roles.False = literals.False
literal_kind _ = literals.Integer

abbrev pub literal_of : Lexeme → Literal
literal_of t = record { kind = literal_kind (role t); text = t.text }

abbrev pub is_there : {X : Type 0} → Option X → Bool
is_there None = false
is_there (Some x) = true

abbrev mutual
  pub laid_type : List Node → TypeTree → List Node
  laid_type ns (type_variable t) = ns ++ node.TypeVariable t.place t.text ∷ []
  laid_type ns (type_any t) = ns ++ node.TypeAny t.place ∷ []
  laid_type ns (type_name qs n) = ns ++ node.TypeName (long_name qs n) ∷ []
  laid_type ns (type_apply t qs n) = let xs = laid_type ns t in xs ++ node.TypeApply (last xs ∷ []) (long_name qs n) ∷ []
  laid_type ns (type_apply_several l t c ps r qs n) =
      let xs = laid_type ns t in let p = laid_types xs ps in p.0 ++ node.TypeApply (last xs ∷ p.1) (long_name qs n) ∷ []
  laid_type ns (type_bracket l t r) = let xs = laid_type ns t in xs ++ node.TypeBracket l.place (last xs) ∷ []
  laid_type ns (type_tuple t s ps) =
      let xs = laid_type ns t in let p = laid_types xs ps in p.0 ++ node.TypeTuple s.place (last xs ∷ p.1) ∷ []
  laid_type ns (type_arrow a o b) =
      let xs = laid_type ns a in let ys = laid_type xs b in ys ++ node.TypeArrow o.place (last xs) (last ys) ∷ []

  -- with the numbers of the parts
  pub laid_types : List Node → TypeParts → List Node × List ℕ
  laid_types ns (one_type t) = let xs = laid_type ns t in (xs, last xs ∷ [])
  laid_types ns (more_types ps s t) = let p = laid_types ns ps in let xs = laid_type p.0 t in (xs, p.1 ++ last xs ∷ [])

-- the nodes behind an annotation that may be absent, and its number
abbrev pub laid_annotation : List Node → Option Annotation → List Node × Option ℕ
laid_annotation ns None = (ns, None)
laid_annotation ns (Some a) = let xs = laid_type ns a.type in (xs, Some (last xs))

-- () or []
abbrev pub empty_pattern_node : Role → Place → Node
empty_pattern_node roles.LeftBracket p = node.PatternList p []
empty_pattern_node _ p = node.PatternUnit p

abbrev mutual
  pub laid_pattern : List Node → PatternTree → List Node
  laid_pattern ns (any_pattern t) = ns ++ node.PatternAny t.place ∷ []
  laid_pattern ns (name_pattern t) = ns ++ node.PatternName t.place t.text ∷ []
  laid_pattern ns (constant_pattern t) = ns ++ node.PatternConstant t.place (literal_of t) ∷ []
  laid_pattern ns (empty_pattern l r) = ns ++ empty_pattern_node (role l) l.place ∷ []
  laid_pattern ns (bracket_pattern l p r) = let xs = laid_pattern ns p in xs ++ node.PatternBracket l.place (last xs) ∷ []
  laid_pattern ns (annotated_pattern l p a r) =
      let xs = laid_pattern ns p in let ys = laid_type xs a.type in ys ++ node.PatternAnnotated l.place (last xs) (last ys) ∷ []
  laid_pattern ns (list_pattern l ps r) = let p = laid_patterns ns ps in p.0 ++ node.PatternList l.place p.1 ∷ []
  laid_pattern ns (record_pattern l fs e r) =
      let p = laid_pattern_fields ns fs in p.0 ++ node.PatternRecord l.place p.1 (is_there e) ∷ []
  laid_pattern ns (constructor_pattern qs n) = ns ++ node.PatternConstructor (long_name qs n) ∷ []
  laid_pattern ns (construct_pattern qs n p) =
      let xs = laid_pattern ns p in xs ++ node.PatternConstruct (long_name qs n) (last xs) ∷ []
  laid_pattern ns (cons_pattern p o q) =
      let xs = laid_pattern ns p in let ys = laid_pattern xs q in ys ++ node.PatternCons o.place (last xs) (last ys) ∷ []
  laid_pattern ns (tuple_pattern p s ps) =
      let xs = laid_pattern ns p in let q = laid_patterns xs ps in q.0 ++ node.PatternTuple s.place (last xs ∷ q.1) ∷ []
  laid_pattern ns (or_pattern p o q) =
      let xs = laid_pattern ns p in let ys = laid_pattern xs q in ys ++ node.PatternOr o.place (last xs) (last ys) ∷ []
  laid_pattern ns (alias_pattern p a n) =
      let xs = laid_pattern ns p in xs ++ node.PatternAlias a.place (last xs) (name_of n) ∷ []

  pub laid_patterns : List Node → PatternParts → List Node × List ℕ
  laid_patterns ns (one_pattern p) = let xs = laid_pattern ns p in (xs, last xs ∷ [])
  laid_patterns ns (more_patterns ps s p) =
      let q = laid_patterns ns ps in let xs = laid_pattern q.0 p in (xs, q.1 ++ last xs ∷ [])

  pub laid_pattern_fields : List Node → PatternFields → List Node × List NamedPart
  laid_pattern_fields ns (one_pattern_field f e p) =
      let xs = laid_pattern ns p in (xs, record { name = name_of f; part = last xs } ∷ [])
  laid_pattern_fields ns (more_pattern_fields fs s f e p) =
      let q = laid_pattern_fields ns fs in let xs = laid_pattern q.0 p in (xs, q.1 ++ record { name = name_of f; part = last xs } ∷ [])

abbrev pub laid_parameters : List Node → List PatternTree → List Node × List ℕ
laid_parameters ns [] = (ns, [])
laid_parameters ns (p ∷ ps) = let xs = laid_pattern ns p in let q = laid_parameters xs ps in (q.0, last xs ∷ q.1)

-- (), [] and [||]
abbrev pub empty_node : Role → Place → Node
empty_node roles.LeftBracket p = node.List p []
empty_node roles.LeftArrayBracket p = node.Array p []
empty_node _ p = node.Unit p

-- ( ) and begin end
abbrev pub bracket_node : Role → Place → ℕ → Node
bracket_node roles.Begin p n = node.BeginEnd p n
bracket_node _ p n = node.Bracket p n

-- [ ] and [| |]
abbrev pub list_node : Role → Place → List ℕ → Node
list_node roles.LeftArrayBracket p ns = node.Array p ns
list_node _ p ns = node.List p ns

-- .( ) and .[ ]
abbrev pub element_node : Role → Place → ℕ → ℕ → Node
element_node roles.LeftBracket p n i = node.StringElement p n i
element_node _ p n i = node.ArrayElement p n i

-- match and try
abbrev pub match_node : Role → Place → ℕ → List ClauseNode → Node
match_node roles.Try p n cs = node.Try p n cs
match_node _ p n cs = node.Match p n cs

abbrev pub is_downto : Role → Bool
is_downto roles.Downto = true
is_downto _ = false

abbrev pub type_name_of : Option NewType → Option Name
type_name_of None = None
type_name_of (Some n) = Some (name_of n.name)

abbrev pub head_place : CasesHead → Place
head_place (by_function f) = f.place
head_place (by_match m x w) = m.place

abbrev pub head_subject : CasesHead → Option Name
head_subject (by_function f) = None
head_subject (by_match m x w) = Some (name_of x)

abbrev mutual
  pub laid : List Node → Tree → List Node
  laid ns (variable qs n) = ns ++ node.Variable (long_name qs n) ∷ []
  laid ns (constructor qs n) = ns ++ node.Constructor (long_name qs n) ∷ []
  laid ns (constant t) = ns ++ node.Constant t.place (literal_of t) ∷ []
  laid ns (least t) = ns ++ node.LeastInteger t.place t.text ∷ []
  laid ns (empty l r) = ns ++ empty_node (role l) l.place ∷ []
  laid ns (bracket l x r) = let xs = laid ns x in xs ++ bracket_node (role l) l.place (last xs) ∷ []
  laid ns (annotated l x a r) =
      let xs = laid ns x in let ts = laid_type xs a.type in ts ++ node.Annotated l.place (last xs) (last ts) ∷ []
  laid ns (listed l ps r) = let p = laid_parts ns ps in p.0 ++ list_node (role l) l.place p.1 ∷ []
  laid ns (fielded l fs r) = let p = laid_fields ns fs in p.0 ++ node.Record l.place p.1 ∷ []
  laid ns (while_loop w c d b e) =
      let cs = laid ns c in let bs = laid cs b in bs ++ node.While w.place (last cs) (last bs) ∷ []
  laid ns (for_loop f x q a t b d c e) =
      let ls = laid ns a in let bs = laid ls b in let cs = laid bs c
      in cs ++ node.For f.place (name_of x) (last ls) (is_downto (role t)) (last bs) (last cs) ∷ []
  laid ns (dereference o x) = let xs = laid ns x in xs ++ node.Dereference o.place (last xs) ∷ []
  laid ns (field x d f) = let xs = laid ns x in xs ++ node.Field (last xs) (name_of f) ∷ []
  laid ns (element x d l i r) =
      let xs = laid ns x in let is = laid xs i in is ++ element_node (role l) d.place (last xs) (last is) ∷ []
  laid ns (apply f xs) = let fs = laid ns f in let p = laid_arguments fs xs in p.0 ++ node.Apply (last fs) p.1 ∷ []
  laid ns (construct qs n x) = let xs = laid ns x in xs ++ node.Construct (long_name qs n) (last xs) ∷ []
  laid ns (handle qs n f x l hs r) =
      let fs = laid ns f in let xs = laid fs x in let p = laid_fields xs hs in let ws = p.0 ++ node.Handler l.place p.1 ∷ []
      in ws ++ node.Handle (long_name qs n) (last fs) (last xs) (last ws) ∷ []
  laid ns (negate o x) = let xs = laid ns x in xs ++ node.Negate o.place (last xs) ∷ []
  laid ns (binary a o b) =
      let ls = laid ns a in let bs = laid ls b in bs ++ node.Binary o.place (operator_of (role o)) (last ls) (last bs) ∷ []
  laid ns (tuple a s ps) = let ls = laid ns a in let p = laid_parts ls ps in p.0 ++ node.Tuple s.place (last ls ∷ p.1) ∷ []
  laid ns (set_field x d f o a) =
      let xs = laid ns x in let ls = laid xs a in ls ++ node.SetField o.place (last xs) (name_of f) (last ls) ∷ []
  laid ns (set_element x d l i r o a) =
      let xs = laid ns x in let is = laid xs i in let ls = laid is a
      in ls ++ node.SetElement o.place (last xs) (last is) (last ls) ∷ []
  laid ns (choice i c t a) =
      let cs = laid ns c in let ls = laid cs a in ls ++ node.If i.place (last cs) (last ls) None ∷ []
  laid ns (choice_else i c t a e b) =
      let cs = laid ns c in let ls = laid cs a in let bs = laid ls b
      in bs ++ node.If i.place (last cs) (last ls) (Some (last bs)) ∷ []
  laid ns (sequence a s ps) =
      let ls = laid ns a in let p = laid_parts ls ps in p.0 ++ node.Sequence s.place (last ls ∷ p.1) ∷ []
  laid ns (trailed x s) = laid ns x
  laid ns (binding l c bs i b) =
      let p = laid_bindings ns bs in let xs = laid p.0 b in xs ++ node.Let l.place (is_there c) p.1 (last xs) ∷ []
  laid ns (matching m x w cs) =
      let xs = laid ns x in let p = laid_clauses xs cs in p.0 ++ match_node (role m) m.place (last xs) p.1 ∷ []
  laid ns (abstraction f ps o b) =
      let p = laid_parameters ns ps in let xs = laid p.0 b in xs ++ node.Fun f.place p.1 (last xs) ∷ []
  laid ns (cases f cs) = let p = laid_clauses ns cs in p.0 ++ node.Function f.place p.1 ∷ []
  laid ns (effect_function f a p o b) =
      let ps = laid_pattern ns p in let xs = laid ps b in xs ++ node.EffectFunction f.place (type_name_of a) (last ps) (last xs) ∷ []
  laid ns (effect_cases h rs v u o n) =
      let p = laid_rules ns rs in let us = p.0 ++ node.PatternAny u.place ∷ []
      in us ++ node.EffectCases (head_place h) (head_subject h) p.1 (last us) ∷ []

  pub laid_parts : List Node → Parts → List Node × List ℕ
  laid_parts ns (one x) = let xs = laid ns x in (xs, last xs ∷ [])
  laid_parts ns (more ps s x) = let p = laid_parts ns ps in let xs = laid p.0 x in (xs, p.1 ++ last xs ∷ [])

  pub laid_arguments : List Node → Arguments → List Node × List ℕ
  laid_arguments ns (argument x) = let xs = laid ns x in (xs, last xs ∷ [])
  laid_arguments ns (more_arguments ps x) =
      let p = laid_arguments ns ps in let xs = laid p.0 x in (xs, p.1 ++ last xs ∷ [])

  pub laid_fields : List Node → Fields → List Node × List NamedPart
  laid_fields ns (one_field f e x) = let xs = laid ns x in (xs, record { name = name_of f; part = last xs } ∷ [])
  laid_fields ns (more_fields fs s f e x) =
      let p = laid_fields ns fs in let xs = laid p.0 x in (xs, p.1 ++ record { name = name_of f; part = last xs } ∷ [])

  pub laid_clause : List Node → Clause → List Node × ClauseNode
  laid_clause ns (plain p o b) = let ps = laid_pattern ns p in let bs = laid ps b in (bs, clauses.Value (last ps) None (last bs))
  laid_clause ns (guarded p w g o b) =
      let ps = laid_pattern ns p in let gs = laid ps g in let bs = laid gs b
      in (bs, clauses.Value (last ps) (Some (last gs)) (last bs))
  laid_clause ns (raised e p o b) =
      let ps = laid_pattern ns p in let bs = laid ps b in (bs, clauses.Exception e.place (last ps) None (last bs))
  laid_clause ns (raised_guarded e p w g o b) =
      let ps = laid_pattern ns p in let gs = laid ps g in let bs = laid gs b
      in (bs, clauses.Exception e.place (last ps) (Some (last gs)) (last bs))
  laid_clause ns (performed e q c k o b) =
      let qs = laid_pattern ns q in let ks = laid_pattern qs k in let bs = laid ks b
      in (bs, clauses.Effect e.place (last qs) (last ks) (last bs))

  pub laid_clauses : List Node → Clauses → List Node × List ClauseNode
  laid_clauses ns (one_clause v c) = let p = laid_clause ns c in (p.0, p.1 ∷ [])
  laid_clauses ns (more_clauses cs v c) =
      let p = laid_clauses ns cs in let q = laid_clause p.0 c in (q.0, p.1 ++ q.1 ∷ [])

  pub laid_binding : List Node → Binding → List Node × BindingNode
  laid_binding ns (bound_pattern p q b) =
      let ps = laid_pattern ns p in let bs = laid ps b in (bs, bindings.Pattern (last ps) (last bs))
  laid_binding ns (bound_name n ps a q b) =
      let p = laid_parameters ns ps in let t = laid_annotation p.0 a in let bs = laid t.0 b
      in (bs, bindings.Named (name_of n) p.1 t.1 (last bs))

  pub laid_bindings : List Node → Bindings → List Node × List BindingNode
  laid_bindings ns (one_binding b) = let p = laid_binding ns b in (p.0, p.1 ∷ [])
  laid_bindings ns (more_bindings bs a b) =
      let p = laid_bindings ns bs in let q = laid_binding p.0 b in (q.0, p.1 ++ q.1 ∷ [])

  pub laid_rules : List Node → Rules → List Node × List EffectRule
  laid_rules ns no_rules = (ns, [])
  laid_rules ns (more_rules rs v q o s l f k a b r) =
      let p = laid_rules ns rs in let qs = laid_pattern p.0 q in let ks = laid_pattern qs k in let bs = laid ks b
      in let ws = bs ++ node.Resumption s.place (last ks) (last bs) ∷ []
      in (ws, p.1 ++ record { pattern = last qs; answer = last ws } ∷ [])
