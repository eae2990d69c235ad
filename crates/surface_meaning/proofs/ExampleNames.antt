-- Worked programs: what names stand for, in which scope. They hold by computation.
use Rattle.std.proofs.Common.{◌≡◌, refl, false, [], ◌∷◌, codes}
use Rattle.ml_syntax.specs.declared.node.Node.TheVariants as node
use Rattle.ml_syntax.specs.declared.prog.Item.TheVariants as item
use Rattle.effect_meaning.specs.Terms.{Integer, Max, PrintInt, Perform, Discontinue, Exception, Var, Const, Fun, App, Let, Prim, Con, Define, Evaluate}
use Rattle.effect_meaning.specs.Builtins.{unhandled}
use Rattle.surface_meaning.specs.BuiltinNames.{greatest}
use Rattle.surface_meaning.specs.CoreOf.{core_of}
use Rattle.surface_meaning.proofs.Programs.{column, long, long_in, variable, qualified, integer, define, prog_of, items_of, meant, expression, number, one, two}

-- max 1 2
example_operation :
    expression (variable (codes "max") ∷ integer (codes "1") ∷ integer (codes "2") ∷ node.Apply 0 (1 ∷ 2 ∷ []) ∷ [])
    ≡ Evaluate (Prim Max (two (number 1) (number 2))) ∷ []
example_operation = refl

-- max 1: the arguments that are there are applied to functions of new names
example_some_arguments :
    expression (variable (codes "max") ∷ integer (codes "1") ∷ node.Apply 0 (1 ∷ []) ∷ [])
    ≡ Evaluate (App (Fun 2 (Fun 3 (Prim Max (two (Var 2) (Var 3))))) (number 1)) ∷ []
example_some_arguments = refl

-- (max) 1 2: in brackets the name is a value
example_bracketed :
    expression (variable (codes "max") ∷ node.Bracket (column 1) 0 ∷ integer (codes "1") ∷ integer (codes "2")
    ∷ node.Apply 1 (2 ∷ 3 ∷ []) ∷ [])
    ≡ Evaluate (App (App (Fun 2 (Fun 3 (Prim Max (two (Var 2) (Var 3))))) (number 1)) (number 2)) ∷ []
example_bracketed = refl

-- print_int 1 2: a further argument is applied to the result
example_further_argument :
    expression (variable (codes "print_int") ∷ integer (codes "1") ∷ integer (codes "2") ∷ node.Apply 0 (1 ∷ 2 ∷ []) ∷ [])
    ≡ Evaluate (App (Prim PrintInt (one (number 1))) (number 2)) ∷ []
example_further_argument = refl

-- max_int
example_constant : expression (variable (codes "max_int") ∷ []) ≡ Evaluate (Const (Integer greatest)) ∷ []
example_constant = refl

-- let max = 1 in max: the innermost definition counts
example_innermost :
    expression (integer (codes "1") ∷ variable (codes "max") ∷ node.Let (column 1) false (define (codes "max") 0 ∷ []) 1 ∷ [])
    ≡ Evaluate (Let 1 (number 1) (Var 1)) ∷ []
example_innermost = refl

-- let x = 1 let x = x;; x: the latest definition counts
example_latest :
    items_of (meant (integer (codes "1") ∷ variable (codes "x") ∷ variable (codes "x") ∷ [])
    (item.Let (column 1) false (define (codes "x") 0 ∷ []) ∷ item.Let (column 1) false (define (codes "x") 1 ∷ [])
    ∷ item.Expression (column 1) 2 ∷ []))
    ≡ Define 1 (number 1) ∷ Define 7 (Var 1) ∷ Evaluate (Var 7) ∷ []
example_latest = refl

-- Effect.perform and Effect.Unhandled behind their path
example_qualified :
    expression (qualified (codes "Effect" ∷ []) (codes "perform")
    ∷ node.Constructor (long_in 1 (codes "Effect" ∷ []) (codes "Unhandled")) ∷ node.Apply 0 (1 ∷ []) ∷ [])
    ≡ Evaluate (Prim Perform (one (Con (Exception unhandled)))) ∷ []
example_qualified = refl

-- open Effect;; perform
example_open :
    items_of (meant (variable (codes "perform") ∷ [])
    (item.Open (column 1) (long (codes "Effect")) ∷ item.Expression (column 1) 0 ∷ []))
    ≡ Evaluate (Fun 2 (Prim Perform (one (Var 2)))) ∷ []
example_open = refl

-- open Effect open Deep;; discontinue: the short names of modules are known behind the first open
example_open_twice :
    items_of (meant (variable (codes "discontinue") ∷ [])
    (item.Open (column 1) (long (codes "Effect")) ∷ item.Open (column 1) (long (codes "Deep"))
    ∷ item.Expression (column 1) 0 ∷ []))
    ≡ Evaluate (Fun 2 (Fun 3 (Prim Discontinue (two (Var 2) (Var 3))))) ∷ []
example_open_twice = refl

-- behind a prelude that defines list_length: List.length
example_prelude :
    items_of (core_of
    (prog_of (integer (codes "1") ∷ []) (item.Let (column 1) false (define (codes "list_length") 0 ∷ []) ∷ []))
    (prog_of (qualified (codes "List" ∷ []) (codes "length") ∷ []) (item.Expression (column 1) 0 ∷ []))
    [])
    ≡ Define 1 (number 1) ∷ Evaluate (Var 1) ∷ []
example_prelude = refl
