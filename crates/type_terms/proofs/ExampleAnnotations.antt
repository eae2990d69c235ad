-- Types that the text gives: type variables, blanks, and type constructors with their arguments.
use Rattle.std.proofs.Common.{refl, ap, arith, inr, ⊎_elim, [], ◌∷◌, Some, true, ℕ}
use Rattle.std.proofs.lemmas.Option.{same_Some}
use Rattle.effect_meaning.specs.Terms.{Written, Variable, Any, Applied, NoTypes, AndType, Var, Fun, Tuple, Annot, LetRec, AndFunction, NoFunctions}
use Rattle.effect_meaning.specs.Builtins.{int_type, bool_type, list_type, function_type, written}
use Rattle.type_terms.specs.TypeTrees.{Ty, count, int, bool, unit, list, function, tuple, two_tys}
use Rattle.type_terms.specs.Contexts.{Context}
use Rattle.type_terms.specs.WrittenTypes.{Means}
use Rattle.type_terms.specs.Typing.{HasType}
use Rattle.type_terms.proofs.ExampleWords.{number, truth, two, closed, plain}

-- a -> b, as it is written
abbrev arrow : Written → Written → Written
arrow a b = Applied function_type (AndType a (AndType b NoTypes))

-- (1 : int)
annotation_typed : HasType closed (Annot (number 1) (written int_type)) int
annotation_typed = ((_, refl, inr refl, refl), refl)

-- (1 : bool)
annotation_untyped : (t : Ty) → HasType closed (Annot (number 1) (written bool_type)) t → ⊥
annotation_untyped t h = let e = h.0.1 in let f = h.1 in grind (arith, e, f)

-- fun x -> (x : 'a), and (fun x -> x : _ -> _)
variable_typed : HasType closed (Fun 0 (Annot (Var 0) (Variable 0))) (function unit unit)
variable_typed = (_, _, refl, (refl, refl))

blank_typed : HasType closed (Annot (Fun 0 (Var 0)) (arrow Any Any)) (function int int)
blank_typed = ((_, refl, inr refl, (_, _, refl, tt, (_, _, refl, tt, refl))), (_, _, refl, refl))

-- ((1 : 'a), (true : 'a)): one type variable is one type in its item
one_variable_untyped : (c : Context) (t : Ty) → HasType c (Tuple (two (Annot (number 1) (Variable 0)) (Annot (truth true) (Variable 0)))) t → ⊥
one_variable_untyped c t h =
    let first = h.1.3.0 in
    let first_type = h.1.3.1 in
    let second = h.1.4.3.0 in
    let second_type = h.1.4.3.1 in
    grind (arith, first, first_type, second, second_type)

-- ((1 : _), (true : _)): each blank is a type of its own
blanks_typed : HasType closed (Tuple (two (Annot (number 1) Any) (Annot (truth true) Any))) (tuple (two_tys int bool))
blanks_typed = (_, (_, _, refl, (tt, refl), (_, _, refl, (tt, refl), refl)), refl)

-- int list is a type; int int and list are none
list_is_a_type : Means plain.types (λ v. unit) (Applied list_type (AndType (written int_type) NoTypes)) (list int)
list_is_a_type = (_, refl, inr refl, (_, _, refl, (_, refl, inr refl, refl), refl))

too_many_arguments : (variables : ℕ → Ty) (t : Ty) → Means plain.types variables (Applied int_type (AndType (written int_type) NoTypes)) t → ⊥
too_many_arguments variables t h =
    let there = ap count h.3.2 in
    ⊎_elim (λ e. omega (arith, e)) (λ e. let asked = same_Some _ _ e in omega (arith, there, asked)) h.2

pub too_few_arguments : (variables : ℕ → Ty) (t : Ty) → Means plain.types variables (written list_type) t → ⊥
too_few_arguments variables t h =
    let there = ap count h.3 in
    ⊎_elim (λ e. omega (arith, e)) (λ e. let asked = same_Some _ _ e in omega (arith, there, asked)) h.2

-- int -> int means the type of functions from int to int
int_to_int : Means plain.types (λ v. unit) (arrow (written int_type) (written int_type)) (function int int)
int_to_int = (_, refl, inr refl, (_, _, refl, (_, refl, inr refl, refl), (_, _, refl, (_, refl, inr refl, refl), refl)))

-- let rec f : int -> int = fun x -> x in f
let_rec_typed :
    HasType closed (LetRec (AndFunction 0 (Some (arrow (written int_type) (written int_type))) 1 (Var 1) NoFunctions) (Var 0)) (function int int)
let_rec_typed = ((0, function int int) ∷ [], (int, int, [], refl, int_to_int, refl, refl), refl)

-- let rec f : int -> int = fun x -> true in f
let_rec_untyped :
    (t : Ty)
    → HasType closed (LetRec (AndFunction 0 (Some (arrow (written int_type) (written int_type))) 1 (truth true) NoFunctions) (Var 0)) t → ⊥
let_rec_untyped t h =
    let function_is = h.1.4.1 in
    let parts_are = h.1.4.3.2 in
    let rest_is = h.1.4.3.4.2 in
    let result_is = h.1.4.3.4.3.1 in
    let no_more = h.1.4.3.4.3.3 in
    let body = h.1.5 in
    grind (arith, function_is, parts_are, rest_is, result_is, no_more, body)
