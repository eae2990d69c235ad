-- Worked programs: what each form stands for in Core. They hold by computation. The names of the node of number i have the
-- numbers from 6 i to 6 i + 5, and the one that it binds has the first of these.
use Rattle.std.proofs.Common.{◌≡◌, refl, true, false, [], ◌∷◌, None, codes}
use Rattle.ml_syntax.specs.declared.node.BinaryOperator.TheVariants as operator
use Rattle.ml_syntax.specs.declared.node.Binding.TheVariants as bindings
use Rattle.ml_syntax.specs.declared.node.Node.TheVariants as node
use Rattle.ml_syntax.specs.declared.prog.Item.TheVariants as item
use Rattle.effect_meaning.specs.Terms.{Boolean, UnitConst, Variant, AnyPat, ConstPat, Add, Sub, Compare, Equals, Below, Above, PrintInt, Term, Var, Const, Fun, App, Let, LetRec, Seq, If, Match, Tuple, Con, ConOf, Prim, NoFunctions, AndFunction, NoClauses, AndClause, NoGuard, Define, Evaluate}
use Rattle.surface_meaning.specs.CoreOf.{core_of}
use Rattle.surface_meaning.proofs.Programs.{column, name, variable, integer, unit_node, name_pattern, any_pattern, truth, define, prog_of, items_of, expression, here, unit, number, one, two}

-- fun x y -> x
example_function :
    expression (name_pattern (codes "x") ∷ name_pattern (codes "y") ∷ variable (codes "x") ∷ node.Fun (column 1) (0 ∷ 1 ∷ []) 2 ∷ [])
    ≡ Evaluate (Fun 0 (Fun 6 (Var 0))) ∷ []
example_function = refl

-- fun _ y -> y: a parameter that is no name is matched
example_matched_parameter :
    expression (any_pattern ∷ name_pattern (codes "y") ∷ variable (codes "y") ∷ node.Fun (column 1) (0 ∷ 1 ∷ []) 2 ∷ [])
    ≡ Evaluate (Fun 2 (Match here (Var 2) (AndClause AnyPat NoGuard (Fun 6 (Var 6)) NoClauses))) ∷ []
example_matched_parameter = refl

-- fun f -> f 1 2
example_application :
    expression (name_pattern (codes "f") ∷ variable (codes "f") ∷ integer (codes "1") ∷ integer (codes "2")
    ∷ node.Apply 1 (2 ∷ 3 ∷ []) ∷ node.Fun (column 1) (0 ∷ []) 4 ∷ [])
    ≡ Evaluate (Fun 0 (App (App (Var 0) (number 1)) (number 2))) ∷ []
example_application = refl

-- let x = 1 in x: the name is that of node 0, the right side
example_let :
    expression (integer (codes "1") ∷ variable (codes "x") ∷ node.Let (column 1) false (define (codes "x") 0 ∷ []) 1 ∷ [])
    ≡ Evaluate (Let 1 (number 1) (Var 1)) ∷ []
example_let = refl

-- let () = () in 1
example_let_pattern :
    expression (node.PatternUnit (column 1) ∷ unit_node ∷ integer (codes "1")
    ∷ node.Let (column 1) false (bindings.Pattern 0 1 ∷ []) 2 ∷ [])
    ≡ Evaluate (Match here unit (AndClause (ConstPat UnitConst) NoGuard (number 1) NoClauses)) ∷ []
example_let_pattern = refl

-- let x = 1 in let x = x and y = x in y: each right side sees the outer x
example_let_and :
    expression (integer (codes "1") ∷ variable (codes "x") ∷ variable (codes "x") ∷ variable (codes "y")
    ∷ node.Let (column 1) false (define (codes "x") 1 ∷ define (codes "y") 2 ∷ []) 3
    ∷ node.Let (column 1) false (define (codes "x") 0 ∷ []) 4 ∷ [])
    ≡ Evaluate (Let 1 (number 1) (Let 7 (Var 1) (Let 13 (Var 1) (Var 13)))) ∷ []
example_let_and = refl

-- let rec f x = f x in f
example_let_rec :
    expression (name_pattern (codes "x") ∷ variable (codes "f") ∷ variable (codes "x") ∷ node.Apply 1 (2 ∷ []) ∷ variable (codes "f")
    ∷ node.Let (column 1) true (bindings.Named (name (codes "f")) (0 ∷ []) None 3 ∷ []) 4 ∷ [])
    ≡ Evaluate (LetRec (AndFunction 19 None 0 (App (Var 19) (Var 0)) NoFunctions) (Var 19)) ∷ []
example_let_rec = refl

-- if true then ()
example_if :
    expression (truth ∷ unit_node ∷ node.If (column 1) 0 1 None ∷ [])
    ≡ Evaluate (If (Const (Boolean true)) unit unit) ∷ []
example_if = refl

-- true && true
example_and :
    expression (truth ∷ truth ∷ node.Binary (column 1) operator.And 0 1 ∷ [])
    ≡ Evaluate (If (Const (Boolean true)) (Const (Boolean true)) (Const (Boolean false))) ∷ []
example_and = refl

-- true || true
example_or :
    expression (truth ∷ truth ∷ node.Binary (column 1) operator.Or 0 1 ∷ [])
    ≡ Evaluate (If (Const (Boolean true)) (Const (Boolean true)) (Const (Boolean true))) ∷ []
example_or = refl

-- 1 |> fun x -> x
example_pipe :
    expression (integer (codes "1") ∷ name_pattern (codes "x") ∷ variable (codes "x") ∷ node.Fun (column 1) (1 ∷ []) 2
    ∷ node.Binary (column 1) operator.Pipe 0 3 ∷ [])
    ≡ Evaluate (App (Fun 6 (Var 6)) (number 1)) ∷ []
example_pipe = refl

-- print_int @@ 1: the name is a value, a function of a new name round the operation
example_apply_to :
    expression (variable (codes "print_int") ∷ integer (codes "1") ∷ node.Binary (column 1) operator.ApplyTo 0 1 ∷ [])
    ≡ Evaluate (App (Fun 2 (Prim PrintInt (one (Var 2)))) (number 1)) ∷ []
example_apply_to = refl

-- a :: b and [a; b]
example_cons :
    expression (integer (codes "1") ∷ node.List (column 1) [] ∷ node.Binary (column 1) operator.Cons 0 1 ∷ [])
    ≡ Evaluate (ConOf (Variant 3) (Tuple (two (number 1) (Con (Variant 2))))) ∷ []
example_cons = refl

example_list :
    expression (integer (codes "1") ∷ integer (codes "2") ∷ node.List (column 1) (0 ∷ 1 ∷ []) ∷ [])
    ≡ Evaluate (ConOf (Variant 3) (Tuple (two (number 1) (ConOf (Variant 3) (Tuple (two (number 2) (Con (Variant 2)))))))) ∷ []
example_list = refl

-- behind a prelude that defines list_append: [] @ []
example_append :
    items_of (core_of
    (prog_of (name_pattern (codes "a") ∷ variable (codes "a") ∷ [])
    (item.Let (column 1) false (bindings.Named (name (codes "list_append")) (0 ∷ []) None 1 ∷ []) ∷ []))
    (prog_of (node.List (column 1) [] ∷ node.List (column 1) [] ∷ node.Binary (column 1) operator.Append 0 1 ∷ [])
    (item.Expression (column 1) 2 ∷ []))
    [])
    ≡ Define 7 (Fun 0 (Var 0)) ∷ Evaluate (App (App (Var 7) (Con (Variant 2))) (Con (Variant 2))) ∷ []
example_append = refl

-- 1; 2; 3
example_sequence :
    expression (integer (codes "1") ∷ integer (codes "2") ∷ integer (codes "3") ∷ node.Sequence (column 1) (0 ∷ 1 ∷ 2 ∷ []) ∷ [])
    ≡ Evaluate (Seq (number 1) (Seq (number 2) (number 3))) ∷ []
example_sequence = refl

-- while true do 1 done: let rec w () = if true then (1; w ()) else () in w ()
example_while :
    expression (truth ∷ integer (codes "1") ∷ node.While (column 1) 0 1 ∷ [])
    ≡ Evaluate (LetRec
    (AndFunction 14 None 15
    (Match here (Var 15) (AndClause (ConstPat UnitConst) NoGuard
    (If (Const (Boolean true)) (Seq (number 1) (App (Var 14) unit)) unit) NoClauses))
    NoFunctions)
    (App (Var 14) unit)) ∷ []
example_while = refl

-- the loop over the names x, lo, hi and w: what stops it before it begins, and the next number
abbrev loop : Term → Term → Term
loop past next =
    Let 20 (number 1) (Let 21 (number 2) (If past unit
    (LetRec (AndFunction 22 None 18 (Seq (Var 18) (If (Prim (Compare Equals) (two (Var 18) (Var 21))) unit (App (Var 22) next)))
    NoFunctions) (App (Var 22) (Var 20)))))

-- for x = 1 to 2 do x done, and with downto
example_for :
    expression (integer (codes "1") ∷ integer (codes "2") ∷ variable (codes "x")
    ∷ node.For (column 1) (name (codes "x")) 0 false 1 2 ∷ [])
    ≡ Evaluate (loop (Prim (Compare Above) (two (Var 20) (Var 21))) (Prim Add (two (Var 18) (number 1)))) ∷ []
example_for = refl

example_for_down :
    expression (integer (codes "1") ∷ integer (codes "2") ∷ variable (codes "x")
    ∷ node.For (column 1) (name (codes "x")) 0 true 1 2 ∷ [])
    ≡ Evaluate (loop (Prim (Compare Below) (two (Var 20) (Var 21))) (Prim Sub (two (Var 18) (number 1)))) ∷ []
example_for_down = refl
