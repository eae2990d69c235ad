-- The typing rules of terms at work, form by form: a term that has a type, and one that has none.
use Rattle.std.proofs.Common.{◌≡◌, refl, ap, subst, arith, true, false, [], ◌∷◌, ◌++◌, pos, None, if◌then◌else◌, ◌==◌}
use Rattle.effect_meaning.specs.Terms.{Add, Fst, Var, Fun, App, Let, LetRec, Seq, If, Match, Tuple, Array, Prim, Catch, NoFunctions, AndFunction, Clauses, NoClauses, AndClause, NoGuard, When, ConstPat, NamePat, AnyPat, Integer, Boolean, CFold, Raise, Exit}
use Rattle.type_terms.specs.TypeTrees.{Ty, int, bool, array, function, tuple, two_tys, size}
use Rattle.type_terms.specs.Contexts.{NameHas}
use Rattle.type_terms.specs.Typing.{HasType}
use Rattle.type_terms.proofs.ExampleWords.{number, truth, nothing, one, two, three, at, closed, locally, plain}

-- x, a name of type int
name_typed : HasType (locally plain ((0, int) ∷ [])) (Var 0) int
name_typed = refl

-- x, which is no name
name_untyped : (t : Ty) → HasType closed (Var 0) t → ⊥
name_untyped t h = h

-- 1 is an int and no bool
constant_typed : HasType closed (number 1) int
constant_typed = refl

constant_is_no_bool : HasType closed (number 1) bool → ⊥
constant_is_no_bool h = grind (arith, h)

-- fun x -> x + 1
successor_typed : HasType closed (Fun 0 (Prim Add (two (Var 0) (number 1)))) (function int int)
successor_typed = (_, _, refl, (_, (_, _, refl, refl, (_, _, refl, refl, refl)), (λ v. int, refl, refl)))

-- no type is that of the functions from it, or to it
no_type_of_its_uses : (a b : Ty) → a ≡ function a b → ⊥
no_type_of_its_uses a b e = omega (arith, ap size e)

no_type_of_its_functions : (b a : Ty) → b ≡ function a b → ⊥
no_type_of_its_functions b a e = omega (arith, ap size e)

-- fun x -> x x has no finite type
self_application_untyped : (t : Ty) → HasType closed (Fun 0 (App (Var 0) (Var 0))) t → ⊥
self_application_untyped t h =
    let function_type = h.3.1 in
    let argument_type = h.3.2 in
    no_type_of_its_uses h.0 h.1 (cc (function_type, argument_type))

-- (fun x -> x) 1
application_typed : HasType closed (App (Fun 0 (Var 0)) (number 1)) int
application_typed = (_, (_, _, refl, refl), refl)

-- 1 2
application_untyped : (t : Ty) → HasType closed (App (number 1) (number 2)) t → ⊥
application_untyped t h = let e = h.1 in grind (arith, e)

-- let x = 1 in x
let_typed : HasType closed (Let 0 (number 1) (Var 0)) int
let_typed = (_, refl, refl)

-- let f = fun x -> x in f 1; f true: a local name isn't generalised
local_let_untyped :
    (t : Ty) → HasType closed (Let 0 (Fun 1 (Var 1)) (Seq (App (Var 0) (number 1)) (App (Var 0) (truth true)))) t → ⊥
local_let_untyped t h =
    let first_use = h.2.1.1 in
    let first_argument = h.2.1.2 in
    let second_use = h.2.2.1 in
    let second_argument = h.2.2.2 in
    grind (arith, first_use, first_argument, second_use, second_argument)

-- let rec f x = f x in f 1 has any type
let_rec_typed :
    (t : Ty) → HasType closed (LetRec (AndFunction 0 None 1 (App (Var 0) (Var 1)) NoFunctions) (App (Var 0) (number 1))) t
let_rec_typed t = ((0, function int t) ∷ [], (int, t, [], refl, tt, (_, refl, refl), refl), (_, refl, refl))

-- let rec f x = f in f
let_rec_untyped : (t : Ty) → HasType closed (LetRec (AndFunction 0 None 1 (Var 0) NoFunctions) (Var 0)) t → ⊥
let_rec_untyped t h =
    let names = h.1.3 in
    let body = subst (λ ns. NameHas (ns ++ []) 0 h.1.1 ⊥) names h.1.5 in
    no_type_of_its_functions h.1.1 h.1.0 body

-- 1; true: the left side may have any type
sequence_typed : HasType closed (Seq (number 1) (truth true)) bool
sequence_typed = (_, refl, refl)

-- 1 2; true
sequence_untyped : (t : Ty) → HasType closed (Seq (App (number 1) (number 2)) (truth true)) t → ⊥
sequence_untyped t h = application_untyped h.0 h.1

-- if true then 1 else 2
if_typed : HasType closed (If (truth true) (number 1) (number 2)) int
if_typed = (refl, refl, refl)

-- if 1 then 1 else 2, and if true then 1 else ()
test_untyped : (t : Ty) → HasType closed (If (number 1) (number 1) (number 2)) t → ⊥
test_untyped t h = let e = h.0 in grind (arith, e)

branches_untyped : (t : Ty) → HasType closed (If (truth true) (number 1) nothing) t → ⊥
branches_untyped t h = let e = h.1 in let f = h.2 in grind (arith, e, f)

-- match 1 with 0 when true -> true | n -> false
abbrev zero_test : Clauses
zero_test =
    AndClause (ConstPat (Integer (pos 0))) (When (truth true)) (truth true) (AndClause (NamePat 0) NoGuard (truth false) NoClauses)

match_typed : HasType closed (Match at (number 1) zero_test) bool
match_typed = (_, refl, ([], (refl, refl), refl, refl, ((0, int) ∷ [], refl, tt, refl, tt)))

-- match true with 0 when true -> true | n -> false
subject_untyped : (t : Ty) → HasType closed (Match at (truth true) zero_test) t → ⊥
subject_untyped t h = let e = h.1 in let f = h.2.1.0 in grind (arith, e, f)

-- match 1 with _ when 2 -> 3
guard_untyped : (t : Ty) → HasType closed (Match at (number 1) (AndClause AnyPat (When (number 2)) (number 3) NoClauses)) t → ⊥
guard_untyped t h = let e = h.2.2 in grind (arith, e)

-- match 1 with 0 -> true | _ -> 2
bodies_untyped :
    (t : Ty)
    → HasType closed (Match at (number 1) (AndClause (ConstPat (Integer (pos 0))) NoGuard (truth true) (AndClause AnyPat NoGuard (number 2) NoClauses))) t
    → ⊥
bodies_untyped t h = let e = h.2.3 in let f = h.2.4.3 in grind (arith, e, f)

-- (1, true)
tuple_typed : HasType closed (Tuple (two (number 1) (truth true))) (tuple (two_tys int bool))
tuple_typed = (_, (_, _, refl, refl, (_, _, refl, refl, refl)), refl)

-- fst (1, 2, 3)
pair_expected : (t : Ty) → HasType closed (Prim Fst (one (Tuple (three (number 1) (number 2) (number 3))))) t → ⊥
pair_expected t h =
    let parts = h.1.2 in
    let part = h.1.3.2 in
    let first = h.1.3.1.2 in
    let second = h.1.3.1.4.2 in
    let third = h.1.3.1.4.4.2 in
    let expected = h.2.1 in
    grind (arith, parts, part, first, second, third, expected)

-- [|1; 2|]
array_typed : HasType closed (Array (two (number 1) (number 2))) (array int)
array_typed = (_, refl, (refl, (refl, tt)))

-- [|1; true|]
array_untyped : (t : Ty) → HasType closed (Array (two (number 1) (truth true))) t → ⊥
array_untyped t h = let e = h.2.0 in let f = h.2.1.0 in grind (arith, e, f)

-- c_fold (fun n -> fun b -> n) 0 [|true|]
operation_typed :
    HasType closed (Prim CFold (three (Fun 0 (Fun 1 (Var 0))) (number 0) (Array (one (truth true))))) int
operation_typed = (
  _,
  (_, _, refl, (_, _, refl, (_, _, refl, refl)), (_, _, refl, refl, (_, _, refl, (_, refl, (refl, tt)), refl))),
  (λ v. if v == 0 then int else bool, refl, refl),
)

-- 1 + true
operation_untyped : (t : Ty) → HasType closed (Prim Add (two (number 1) (truth true))) t → ⊥
operation_untyped t h =
    let parts = h.1.2 in
    let rest = h.1.4.2 in
    let second = h.1.4.3 in
    let expected = h.2.1 in
    grind (arith, parts, rest, second, expected)

-- raise 1
raise_untyped : (t : Ty) → HasType closed (Prim Raise (one (number 1))) t → ⊥
raise_untyped t h =
    let parts = h.1.2 in
    let part = h.1.3 in
    let expected = h.2.1 in
    grind (arith, parts, part, expected)

-- exit 1 has any type
exit_typed : (t : Ty) → HasType closed (Prim Exit (one (number 1))) t
exit_typed t = (_, (_, _, refl, refl, refl), (λ v. t, refl, refl))

-- match 1 with n -> n | exception _ -> 0
catch_typed :
    HasType closed (Catch at (number 1) (AndClause (NamePat 0) NoGuard (Var 0) NoClauses) (AndClause AnyPat NoGuard (number 0) NoClauses)) int
catch_typed = (_, refl, ((0, int) ∷ [], refl, tt, refl, tt), ([], refl, tt, refl, tt))

-- match 1 with true -> 2 | exception _ -> 0: a value clause at a wrong type
value_clause_untyped :
    (t : Ty)
    → HasType closed (Catch at (number 1) (AndClause (ConstPat (Boolean true)) NoGuard (number 2) NoClauses) (AndClause AnyPat NoGuard (number 0) NoClauses)) t
    → ⊥
value_clause_untyped t h = let e = h.1 in let f = h.2.1.0 in grind (arith, e, f)

-- match 1 with n -> n | exception 2 -> 0
exception_clause_untyped :
    (t : Ty)
    → HasType closed (Catch at (number 1) (AndClause (NamePat 0) NoGuard (Var 0) NoClauses) (AndClause (ConstPat (Integer (pos 2))) NoGuard (number 0) NoClauses)) t
    → ⊥
exception_clause_untyped t h = let e = h.3.1.0 in grind (arith, e)
