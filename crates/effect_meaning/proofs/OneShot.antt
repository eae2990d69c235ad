-- An empty continuation stays empty, so no two steps of a run empty the same one.
use Rattle.std.proofs.Common.{◌≡◌, ◌⊎◌, inl, inr, ⊎_elim, refl, ap, subst, ℕ, zero, suc, List, [], ◌∷◌, ◌++◌, Some, None, set, slice_get, arith}
use Rattle.effect_meaning.specs.Terms.{Program}
use Rattle.effect_meaning.specs.Config.{Value, Segment, Data, Continuation, Heap, Config}
use Rattle.effect_meaning.specs.Step.{step}
use Rattle.effect_meaning.specs.Focus.{given}
use Rattle.effect_meaning.specs.Run.{runs}
use Rattle.effect_meaning.specs.Laws.{IsFull, IsEmpty, OneShot}
use Rattle.effect_meaning.proofs.HeapKept.{whole_run}

pub get-append : {X : Type 0} (xs ys : List X) (i : ℕ) (x : X) → slice_get xs i ≡ Some x → slice_get (xs ++ ys) i ≡ Some x
get-append [] ys i x e = absurd (grind arith)
get-append (y ∷ xs) ys zero x e = e
get-append (y ∷ xs) ys (suc i) x e = get-append xs ys i x e

-- a place after a store: the new element, or the old one
pub get-set : {X : Type 0} (xs : List X) (i l : ℕ) (b x : X) → slice_get xs l ≡ Some x → ((i ≡ l) × (slice_get (set xs i b) l ≡ Some b)) ⊎ (slice_get (set xs i b) l ≡ Some x)
get-set [] i l b x e = absurd (grind arith)
get-set (y ∷ xs) zero zero b x e = inl (refl, refl)
get-set (y ∷ xs) zero (suc l) b x e = inr e
get-set (y ∷ xs) (suc i) zero b x e = inr e
get-set (y ∷ xs) (suc i) (suc l) b x e = ⊎_elim (λ p. inl (ap suc p.0, p.1)) inr (get-set xs i l b x e)

abbrev EmptyStays : ℕ → Heap → Heap → Type 0
EmptyStays l h i = IsEmpty h l → IsEmpty i l

data_is_no_cont : (h : Heap) (i l tag : ℕ) (vs : List Value) → slice_get h i ≡ Some (Data tag vs) → IsEmpty h l → i ≡ l → ⊥
data_is_no_cont h i l tag vs e k same = grind (arith, e, k, same)

stays_changed : (l : ℕ) (h : Heap) (i tag : ℕ) (vs ws : List Value) → slice_get h i ≡ Some (Data tag vs) → EmptyStays l h (set h i (Data tag ws))
stays_changed l h i tag vs ws e k =
    ⊎_elim (λ p. absurd (data_is_no_cont h i l tag vs e k p.0)) (λ x. x) (get-set h i l (Data tag ws) (Continuation None) k)

stays_emptied : (l : ℕ) (h : Heap) (i : ℕ) (ss : List Segment) → slice_get h i ≡ Some (Continuation (Some ss)) → EmptyStays l h (set h i (Continuation None))
stays_emptied l h i ss e k = ⊎_elim (λ p. p.1) (λ x. x) (get-set h i l (Continuation None) (Continuation None) k)

pub empty_stays : (p : Program) (c after : Config) (ds : List ℕ) (l : ℕ) → runs p c ds ≡ Some after → IsEmpty c.heap l → IsEmpty after.heap l
empty_stays p c after ds l =
    whole_run (EmptyStays l) (λ h k. k) (λ h i j r s k. s (r k)) (λ h b k. get-append h (b ∷ []) l (Continuation None) k) (stays_emptied l) (stays_changed l) p c after ds

full_is_not_empty : (h : Heap) (l : ℕ) → IsFull h l → IsEmpty h l → ⊥
full_is_not_empty h l full e = let f = full.1 in grind (arith, f, e)

after_first : (p : Program) (c m later : Config) (d : ℕ) (ds : List ℕ) → step p c d ≡ Some m → runs p c (d ∷ ds) ≡ Some later → runs p m ds ≡ Some later
after_first p c m later d ds e r = subst (λ o. given o (λ c'. runs p c' ds) ≡ Some later) e r

pub one_shot_law : OneShot
one_shot_law p h before between first later d e l r1 r2 x y =
    full_is_not_empty later.heap l y.2 (empty_stays p x.0 later between l (after_first p first x.0 later d between x.1 r2) x.3)
