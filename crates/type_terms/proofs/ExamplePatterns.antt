-- The typing rules of patterns at work, form by form, with the tables of ExampleData.
use Rattle.std.proofs.Common.{◌≡◌, refl, sym, ap, subst, arith, inr, ◌++◌, [], ◌∷◌, Some, true, pos, slice_get, ◌∙◌}
use Rattle.std.proofs.lemmas.Option.{same_Some}
use Rattle.effect_meaning.specs.Terms.{Integer, Boolean, Variant, Exception, Effect, Pattern, AnyPat, NamePat, ConstPat, TuplePat, ConPat, ConOfPat, RecordPat, OrPat, AliasPat, AnnotPat, NoPatterns, AndPattern}
use Rattle.effect_meaning.specs.Builtins.{bool_type, int_type, some_con, none_con, not_found, unhandled, written}
use Rattle.type_terms.specs.TypeTrees.{Ty, int, bool, unit, exn, option, effect, tuple, two_tys, type_at}
use Rattle.type_terms.specs.WrittenTypes.{Means}
use Rattle.type_terms.specs.Contexts.{Names, NameHas}
use Rattle.type_terms.specs.PatternTypes.{PatternHas}
use Rattle.type_terms.proofs.ExampleData.{context, cell, box, declared}

abbrev pair : Pattern → Pattern → Pattern
pair q r = TuplePat (AndPattern q (AndPattern r NoPatterns))

abbrev zero : Pattern
zero = ConstPat (Integer (pos 0))

-- _ and x match values of any type
blank_typed : (t : Ty) → PatternHas context AnyPat t []
blank_typed t = refl

name_typed : (t : Ty) → PatternHas context (NamePat 0) t ((0, t) ∷ [])
name_typed t = refl

-- 0 matches integers alone
constant_typed : PatternHas context zero int []
constant_typed = (refl, refl)

constant_untyped : (names : Names) → PatternHas context zero bool names → ⊥
constant_untyped names h = let e = h.0 in grind (arith, e)

-- (x, 0) matches pairs
tuple_typed : PatternHas context (pair (NamePat 0) zero) (tuple (two_tys bool int)) ((0, bool) ∷ [])
tuple_typed = (_, refl, (_, _, _, _, refl, refl, refl, (_, _, _, _, refl, refl, (refl, refl), (refl, refl))))

tuple_untyped : (names : Names) → PatternHas context (pair (NamePat 0) zero) int names → ⊥
tuple_untyped names h = let e = h.1 in grind (arith, e)

-- None, Some x, and Box 0
constant_constructor_typed : PatternHas context (ConPat (Variant none_con)) (option int) []
constant_constructor_typed = ((_, _, refl, refl, inr refl, tt), refl)

constructor_typed : PatternHas context (ConOfPat (Variant some_con) (NamePat 0)) (option int) ((0, int) ∷ [])
constructor_typed = (_, (_, _, refl, refl, inr refl, refl), (λ e. grind (arith, e)), refl)

box_typed : PatternHas context (ConOfPat (Variant 4) zero) (box int) []
box_typed = (_, (_, _, refl, refl, inr refl, refl), (λ e. grind (arith, e)), (refl, refl))

-- Some x matches no box
constructor_untyped : (names : Names) → PatternHas context (ConOfPat (Variant some_con) (NamePat 0)) (box int) names → ⊥
constructor_untyped names h = let row = h.1.2 in let type = h.1.3 in grind (arith, row, type)

-- Not_found, Effect.Unhandled _ and Effect.Unhandled x
exception_typed : PatternHas context (ConPat (Exception not_found)) exn []
exception_typed = ((_, refl, refl, tt), refl)

unhandled_typed : PatternHas context (ConOfPat (Exception unhandled) AnyPat) exn []
unhandled_typed = (unit, (_, refl, refl, tt), (λ e. refl), refl)

unhandled_untyped : (t : Ty) (names : Names) → PatternHas context (ConOfPat (Exception unhandled) (NamePat 0)) t names → ⊥
unhandled_untyped t names h = let e = h.2 refl in grind (arith, e)

-- Ask
effect_typed : PatternHas context (ConPat (Effect 0)) (effect int) []
effect_typed = ((_, _, refl, refl, (_, refl, inr refl, (_, _, refl, (_, refl, inr refl, refl), refl)), tt), refl)

-- { value = n; label = _ }
record_typed : PatternHas context (RecordPat (0 ∷ 1 ∷ []) (AndPattern (NamePat 0) (AndPattern AnyPat NoPatterns))) cell ((0, int) ∷ [])
record_typed = (
  _,
  _,
  _,
  _,
  _,
  refl,
  refl,
  (_, _, refl, refl, inr refl, (_, refl, inr refl, refl)),
  refl,
  (_, _, _, _, _, refl, refl, (_, _, refl, refl, inr refl, (_, refl, inr refl, refl)), refl, (refl, refl)),
)

-- { value = true }
record_untyped : (t : Ty) (names : Names) → PatternHas context (RecordPat (0 ∷ []) (AndPattern (ConstPat (Boolean true)) NoPatterns)) t names → ⊥
record_untyped t names h =
    let numbers = h.5 in
    let field : h.0 ≡ 0 = grind (arith, numbers) in
    let row = same_Some _ _ (subst (λ f. slice_get declared.fields f ≡ Some h.7.0) field h.7.2) in
    let type = ap (λ r. r.type) row in
    let means = subst (λ w. Means declared.types (type_at h.7.1) w h.2) (sym type) h.7.5 in
    let declared_type = means.1 in
    let given_type = h.8.0 in
    grind (arith, declared_type, given_type)

-- (x, 0) | (0, x) gives x one type
sides_typed : PatternHas context (OrPat (pair (NamePat 0) zero) (pair zero (NamePat 0))) (tuple (two_tys int int)) ((0, int) ∷ [])
sides_typed = (
  (0, int) ∷ [],
  (_, refl, (_, _, _, _, refl, refl, refl, (_, _, _, _, refl, refl, (refl, refl), (refl, refl)))),
  (_, refl, (_, _, _, _, refl, refl, (refl, refl), (_, _, _, _, refl, refl, refl, (refl, refl)))),
  λ x t. (λ h. h, λ h. h),
)

-- names in two parts
joined : (names ns ms js ks : Names) → names ≡ ns ++ ms → ns ≡ js → ms ≡ ks → names ≡ js ++ ks
joined names ns ms js ks e f g = e ∙ ap (λ k. k ++ ms) f ∙ ap (λ k. js ++ k) g

-- (x, _) | (_, x) doesn't, where the parts have different types
sides_untyped :
    (names : Names) → PatternHas context (OrPat (pair (NamePat 0) AnyPat) (pair AnyPat (NamePat 0))) (tuple (two_tys int bool)) names → ⊥
sides_untyped names h =
    let left = h.1.2 in
    let right = h.2.2 in
    let of_left = joined names left.2 left.3 _ _ left.5 left.6 (joined left.3 left.7.2 left.7.3 _ _ left.7.5 left.7.6 left.7.7.1) in
    let of_right =
    joined h.0 right.2 right.3 _ _ right.5 right.6 (joined right.3 right.7.2 right.7.3 _ _ right.7.5 right.7.6 right.7.7.1) in
    let parts = h.1.1 in
    let left_parts = left.4 in
    let first : int ≡ left.0 = grind (arith, parts, left_parts) in
    let other = (h.3 0 int).0 (subst (λ ns. NameHas ns 0 int ⊥) (sym of_left) first) in
    let second = subst (λ ns. NameHas ns 0 int ⊥) of_right other in
    let others = h.2.1 in
    let right_parts = right.4 in
    let rest_parts = right.7.4 in
    grind (arith, second, others, right_parts, rest_parts)

-- (0 as x), and (x : int)
alias_typed : PatternHas context (AliasPat zero 0) int ((0, int) ∷ [])
alias_typed = (_, refl, (refl, refl))

annotation_typed : PatternHas context (AnnotPat (NamePat 0) (written int_type)) int ((0, int) ∷ [])
annotation_typed = ((_, refl, inr refl, refl), refl)

-- (0 : bool)
annotation_untyped : (t : Ty) (names : Names) → PatternHas context (AnnotPat zero (written bool_type)) t names → ⊥
annotation_untyped t names h = let e = h.0.1 in let f = h.1.0 in grind (arith, e, f)
