-- Names, applications and operators. OCaml manual, "Expressions": function application, operators; Core has no built-in
-- operation as a value and no partial application of one.
use Rattle.std.specs.Prelude.{ℕ, zero, suc, nat_le, true, false, List, [], ◌∷◌, map, length, take, drop, Option, Some, None, codes, if◌then◌else◌}
use Rattle.ml_syntax.specs.declared.node.BinaryOperator.{BinaryOperator}
use Rattle.ml_syntax.specs.declared.node.BinaryOperator.TheVariants as operator
use Rattle.ml_syntax.specs.declared.node.Node.{Node}
use Rattle.ml_syntax.specs.declared.node.Node.TheVariants as node
use Rattle.effect_meaning.specs.Terms.{Integer, Boolean, Variant, Equals, Differs, Below, Above, AtMost, AtLeast, Operation, Add, Sub, Mul, Div, Mod, LAnd, LOr, LXor, Lsl, Lsr, Asr, Compare, Same, Other, RefSet, Concat, Term, Var, Const, Fun, App, If, Tuple, Con, ConOf, Prim, NoTerms, AndTerm}
use Rattle.effect_meaning.specs.Builtins.{nil_con, cons_con}
use Rattle.surface_meaning.specs.Scope.{Value, Named, Builtin, Number, Scope, meaning}
use Rattle.surface_meaning.specs.Visible.{value}
use Rattle.surface_meaning.specs.Meanings.{terms_of, new_name}
use Rattle.surface_meaning.specs.Functions.{unit, operate}

-- so many new names of a node, from this one on
abbrev pub new_names : ℕ → ℕ → ℕ → List ℕ
new_names i k zero = []
new_names i k (suc n) = new_name i k ∷ new_names i (suc k) n

-- fun x -> fun y -> a
abbrev pub functions_round : List ℕ → Term → Term
functions_round [] a = a
functions_round (x ∷ xs) a = Fun x (functions_round xs a)

-- a built-in operation as a value: functions of new names round the operation
abbrev pub operation_value : ℕ → Operation → ℕ → Term
operation_value i op n = let xs = new_names i 0 n in functions_round xs (Prim op (terms_of (map (λ x. Var x) xs)))

-- a name that is used
abbrev pub name_term : ℕ → Option Value → Term
name_term i (Some (Named x)) = Var x
name_term i (Some (Builtin op n)) = operation_value i op n
name_term i (Some (Number n)) = Const (Integer n)
name_term i _ = unit

-- f a b is (f a) b
abbrev pub applied : Term → List Term → Term
applied f [] = f
applied f (a ∷ more) = applied (App f a) more

-- the value that a form is the name of
abbrev pub head_value : Scope → Node → Option Value
head_value s (node.Variable n) = value s n
head_value s _ = None

-- an application. A built-in name takes its arguments, where they are all there, and further ones are applied to the result
abbrev pub application : Option Value → Term → List Term → Term
application (Some (Builtin op n)) f given =
    if nat_le n (length given) then applied (Prim op (terms_of (take n given))) (drop n given) else applied f given
application _ f given = applied f given

-- a :: b is the constructor with the pair of both
abbrev pub cons : Term → Term → Term
cons a b = ConOf (Variant cons_con) (Tuple (AndTerm a (AndTerm b NoTerms)))

-- [a; b] is a :: b :: []
abbrev pub list : List Term → Term
list [] = Con (Variant nil_con)
list (a ∷ more) = cons a (list more)

-- the prelude's function that appends two lists
abbrev pub append : Scope → Term
append s = name_term 0 (meaning s.prelude_values (codes "list_append"))

-- what an infix operator makes of its operands
abbrev pub operator_term : Scope → BinaryOperator → Term → Term → Term
operator_term s operator.ShiftLeft a b = operate Lsl a b
operator_term s operator.ShiftRightLogical a b = operate Lsr a b
operator_term s operator.ShiftRightArithmetic a b = operate Asr a b
operator_term s operator.Multiply a b = operate Mul a b
operator_term s operator.Divide a b = operate Div a b
operator_term s operator.Modulo a b = operate Mod a b
operator_term s operator.LogicalAnd a b = operate LAnd a b
operator_term s operator.LogicalOr a b = operate LOr a b
operator_term s operator.LogicalXor a b = operate LXor a b
operator_term s operator.Add a b = operate Add a b
operator_term s operator.Subtract a b = operate Sub a b
operator_term s operator.Cons a b = cons a b
operator_term s operator.Concatenate a b = operate Concat a b
operator_term s operator.Append a b = App (App (append s) a) b
operator_term s operator.ApplyTo f a = App f a
operator_term s operator.Equal a b = operate (Compare Equals) a b
operator_term s operator.Different a b = operate (Compare Differs) a b
operator_term s operator.Same a b = operate Same a b
operator_term s operator.NotSame a b = operate Other a b
operator_term s operator.Below a b = operate (Compare Below) a b
operator_term s operator.Above a b = operate (Compare Above) a b
operator_term s operator.AtMost a b = operate (Compare AtMost) a b
operator_term s operator.AtLeast a b = operate (Compare AtLeast) a b
operator_term s operator.Pipe a f = App f a
operator_term s operator.And a b = If a b (Const (Boolean false))
operator_term s operator.Or a b = If a (Const (Boolean true)) b
operator_term s operator.Assign a b = operate RefSet a b
