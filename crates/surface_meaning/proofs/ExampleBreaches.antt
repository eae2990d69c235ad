-- Worked programs that break the rules on names, and the place of the first breach. They hold by computation.
use Rattle.std.proofs.Common.{◌≡◌, refl, ℕ, false, List, [], ◌∷◌, Option, Some, None, codes}
use Rattle.fx_base.specs.declared.refusal.Place.{Place}
use Rattle.ml_syntax.specs.declared.node.Name.{Name}
use Rattle.ml_syntax.specs.declared.node.Binding.TheVariants as bindings
use Rattle.ml_syntax.specs.declared.node.Clause.TheVariants as clauses
use Rattle.ml_syntax.specs.declared.node.Node.{Node}
use Rattle.ml_syntax.specs.declared.node.Node.TheVariants as node
use Rattle.ml_syntax.specs.declared.prog.TypeBody.{TypeBody}
use Rattle.ml_syntax.specs.declared.prog.TypeBody.TheVariants as body
use Rattle.ml_syntax.specs.declared.prog.Item.TheVariants as item
use Rattle.surface_meaning.proofs.Programs.{column, name, name_in, long, long_in, integer, any_pattern, define, breach_of, meant, breach}

-- names outside their scope

-- a variable in this column
abbrev variable_in : ℕ → List ℕ → Node
variable_in c t = node.Variable (long_in c [] t)

abbrev name_pattern_in : ℕ → List ℕ → Node
name_pattern_in c t = node.PatternName (column c) t

-- x
example_value : breach (variable_in 3 (codes "x") ∷ []) ≡ Some (column 3)
example_value = refl

-- let x = x in 1: the name isn't visible in its own right side
example_right_side :
    breach (variable_in 9 (codes "x") ∷ integer (codes "1") ∷ node.Let (column 1) false (define (codes "x") 0 ∷ []) 1 ∷ [])
    ≡ Some (column 9)
example_right_side = refl

-- x (y): the first breach in text order
example_first :
    breach (variable_in 1 (codes "x") ∷ variable_in 4 (codes "y") ∷ node.Apply 0 (1 ∷ []) ∷ []) ≡ Some (column 1)
example_first = refl

-- C
example_constructor : breach (node.Constructor (long_in 2 [] (codes "C")) ∷ []) ≡ Some (column 2)
example_constructor = refl

-- 1.f: the place of the field's name
example_field : breach (integer (codes "1") ∷ node.Field 0 (name_in 3 (codes "f")) ∷ []) ≡ Some (column 3)
example_field = refl

-- (1 : t)
example_type :
    breach (integer (codes "1") ∷ node.TypeName (long_in 6 [] (codes "t")) ∷ node.Annotated (column 1) 0 1 ∷ []) ≡ Some (column 6)
example_type = refl

-- Effect.spawn, and Deep.continue without `open Effect`: the place of the first part
example_module : breach (node.Variable (long_in 1 (codes "Effect" ∷ []) (codes "spawn")) ∷ []) ≡ Some (column 1)
example_module = refl

example_short_module : breach (node.Variable (long_in 1 (codes "Deep" ∷ []) (codes "continue")) ∷ []) ≡ Some (column 1)
example_short_module = refl

-- open M
example_open : breach_of (meant [] (item.Open (column 1) (long_in 6 [] (codes "M")) ∷ [])) ≡ Some (column 6)
example_open = refl

-- names that are bound twice

-- fun (x, x) -> 1: the place of the second one
example_pattern :
    breach (name_pattern_in 6 (codes "x") ∷ name_pattern_in 9 (codes "x") ∷ node.PatternTuple (column 7) (0 ∷ 1 ∷ [])
    ∷ integer (codes "1") ∷ node.Fun (column 1) (2 ∷ []) 3 ∷ [])
    ≡ Some (column 9)
example_pattern = refl

-- fun x x -> x is none: each parameter is a group of its own, and the second x is the inner one
example_parameters :
    breach (name_pattern_in 5 (codes "x") ∷ name_pattern_in 7 (codes "x") ∷ variable_in 12 (codes "x")
    ∷ node.Fun (column 1) (0 ∷ 1 ∷ []) 2 ∷ [])
    ≡ None
example_parameters = refl

-- let x = 1 and x = 2
example_group :
    breach_of (meant (integer (codes "1") ∷ integer (codes "2") ∷ [])
    (item.Let (column 1) false
    (bindings.Named (name_in 5 (codes "x")) [] None 0 ∷ bindings.Named (name_in 15 (codes "x")) [] None 1 ∷ []) ∷ []))
    ≡ Some (column 15)
example_group = refl

-- the first breach of a type definition over these nodes
abbrev type_breach : List Node → List Name → TypeBody → Option Place
type_breach ns parameters what =
    breach_of (meant ns (item.Types (column 1) (record { parameters = parameters; name = name (codes "t"); body = what } ∷ []) ∷ []))

-- A | A
abbrev two_constructors : TypeBody
two_constructors =
    body.Variant (record { name = name_in 10 (codes "A"); argument = None } ∷ record { name = name_in 14 (codes "A"); argument = None } ∷ [])

-- A of the type of this number
abbrev constructor_of : ℕ → TypeBody
constructor_of i = body.Variant (record { name = name_in 10 (codes "A"); argument = Some i } ∷ [])

-- { f : int; f : int }
abbrev two_fields : TypeBody
two_fields =
    body.Record (record { is_mutable = false; name = name_in 12 (codes "f"); annotation = 0 }
    ∷ record { is_mutable = false; name = name_in 21 (codes "f"); annotation = 0 } ∷ [])

example_variant : type_breach [] [] two_constructors ≡ Some (column 14)
example_variant = refl

example_record : type_breach (node.TypeName (long (codes "int")) ∷ []) [] two_fields ≡ Some (column 21)
example_record = refl

-- type ('a, 'a) t = A of int
example_type_parameters :
    type_breach (node.TypeName (long (codes "int")) ∷ []) (name_in 7 (codes "'a") ∷ name_in 11 (codes "'a") ∷ []) (constructor_of 0)
    ≡ Some (column 11)
example_type_parameters = refl

-- type t = A of 'a, and type t = A of _
example_type_variable : type_breach (node.TypeVariable (column 15) (codes "'a") ∷ []) [] (constructor_of 0) ≡ Some (column 15)
example_type_variable = refl

example_blank : type_breach (node.TypeAny (column 15) ∷ []) [] (constructor_of 0) ≡ Some (column 15)
example_blank = refl

-- type t = A and t = A
example_types :
    breach_of (meant [] (item.Types (column 1)
    (record { parameters = []; name = name_in 6 (codes "t"); body = body.Variant (record { name = name (codes "A"); argument = None } ∷ []) }
    ∷ record { parameters = []; name = name_in 16 (codes "t"); body = body.Variant (record { name = name (codes "A"); argument = None } ∷ []) }
    ∷ []) ∷ []))
    ≡ Some (column 16)
example_types = refl

-- exception E of 'a
example_exception :
    breach_of (meant (node.TypeVariable (column 16) (codes "'a") ∷ [])
    (item.Exception (column 1) (record { name = name (codes "E"); argument = Some 0 }) ∷ []))
    ≡ Some (column 16)
example_exception = refl

-- or-patterns whose sides bind different names

-- function p | q -> 1, where the sides are the nodes 0 and 1
abbrev or_breach : Node → Node → Option Place
or_breach p q =
    breach (p ∷ q ∷ node.PatternOr (column 12) 0 1 ∷ integer (codes "1") ∷ node.Function (column 1) (clauses.Value 2 None 3 ∷ []) ∷ [])

-- function x | _ -> 1, function _ | x -> 1, function x | y -> 1 and function x | x -> 1
example_left_alone : or_breach (name_pattern_in 10 (codes "x")) any_pattern ≡ Some (column 10)
example_left_alone = refl

example_right_alone : or_breach any_pattern (name_pattern_in 14 (codes "x")) ≡ Some (column 14)
example_right_alone = refl

example_both_alone : or_breach (name_pattern_in 10 (codes "x")) (name_pattern_in 14 (codes "y")) ≡ Some (column 10)
example_both_alone = refl

example_both : or_breach (name_pattern_in 10 (codes "x")) (name_pattern_in 14 (codes "x")) ≡ None
example_both = refl

-- function x | (_ | x) -> 1: a name that one side of an or-pattern binds is bound there, and alone there
example_nested :
    breach (name_pattern_in 10 (codes "x") ∷ any_pattern ∷ name_pattern_in 19 (codes "x") ∷ node.PatternOr (column 17) 1 2
    ∷ node.PatternOr (column 12) 0 3 ∷ integer (codes "1") ∷ node.Function (column 1) (clauses.Value 4 None 5 ∷ []) ∷ [])
    ≡ Some (column 19)
example_nested = refl
