-- The earliest of places is one of them, and none of them stands before it.
use Rattle.std.proofs.Common.{◌≡◌, refl, inl, inr, Bool, true, false, List, [], ◌∷◌, if◌then◌else◌, arith}
use Rattle.fx_base.specs.declared.refusal.Place.{Place}
use Rattle.surface_meaning.specs.CoreOf.{is_earlier, earliest}
use Rattle.surface_meaning.specs.Laws.{IsOneOf, NoneBefore}

-- of two places the one that is no earlier is not before the other
not_earlier_back : (p q : Place) → is_earlier q p ≡ true → is_earlier p q ≡ false
not_earlier_back p q h = grind arith

not_earlier_than_itself : (p : Place) → is_earlier p p ≡ false
not_earlier_than_itself p = grind arith

not_earlier_trans : (p q r : Place) → is_earlier q p ≡ false → is_earlier r q ≡ false → is_earlier r p ≡ false
not_earlier_trans p q r h k = grind arith

-- the earlier of two places
abbrev earlier : Bool → Place → Place → Place
earlier b p q = if b then q else p

-- neither of two places stands before the earlier one
first_kept : (p q : Place) (b : Bool) → is_earlier q p ≡ b → is_earlier p (earlier b p q) ≡ false
first_kept p q true h = not_earlier_back p q h
first_kept p q false h = not_earlier_than_itself p

second_kept : (p q : Place) (b : Bool) → is_earlier q p ≡ b → is_earlier q (earlier b p q) ≡ false
second_kept p q true h = not_earlier_than_itself q
second_kept p q false h = h

-- the first place is not before the earliest
first_not_before : (p : Place) (qs : List Place) → is_earlier p (earliest p qs) ≡ false
first_not_before p [] = not_earlier_than_itself p
first_not_before p (q ∷ qs) =
    let c = earlier (is_earlier q p) p q
    in not_earlier_trans (earliest c qs) c p (first_not_before c qs) (first_kept p q (is_earlier q p) refl)

pub none_before : (p : Place) (qs : List Place) → NoneBefore (earliest p qs) (p ∷ qs)
none_before p [] = (not_earlier_than_itself p, tt)
none_before p (q ∷ qs) =
    let c = earlier (is_earlier q p) p q
    in let second = not_earlier_trans (earliest c qs) c q (first_not_before c qs) (second_kept p q (is_earlier q p) refl)
    in (first_not_before p (q ∷ qs), (second, (none_before c qs).1))

-- what is one of the rest behind the earlier of two places is one of all
among_both : (m p q : Place) (qs : List Place) (b : Bool) → IsOneOf m (earlier b p q ∷ qs) → IsOneOf m (p ∷ q ∷ qs)
among_both m p q qs true h = inr h
among_both m p q qs false (inl e) = inl e
among_both m p q qs false (inr h) = inr (inr h)

pub earliest_among : (p : Place) (qs : List Place) → IsOneOf (earliest p qs) (p ∷ qs)
earliest_among p [] = inl refl
earliest_among p (q ∷ qs) =
    let c = earlier (is_earlier q p) p q in among_both (earliest c qs) p q qs (is_earlier q p) (earliest_among c qs)
