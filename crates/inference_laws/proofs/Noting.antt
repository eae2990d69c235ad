-- What is known of a number behind a note.
use Rattle.std.proofs.Common.{◌≡◌, ℕ, zero, suc, ◌+◌, ◌-◌, ◌<◌, List, [], ◌∷◌, ◌++◌, length, Option, Some, None, refl, ◌∙◌, ap, arith, slice_set, length-append}
use Rattle.std.specs.Prelude.{replicate}
use Rattle.std.proofs.lemmas.List.{length-replicate}
use Rattle.ml_infer.specs.Known.{known, noted, put}

module _ {A : Type 0} where
  known_of_nothing : (count n : ℕ) → known {A = A} (replicate count None) n ≡ None
  known_of_nothing zero n = refl
  known_of_nothing (suc count) zero = refl
  known_of_nothing (suc count) (suc n) = known_of_nothing count n

  known_before_nothing : (xs : List (Option A)) (count n : ℕ) → known (xs ++ replicate count None) n ≡ known xs n
  known_before_nothing [] count n = known_of_nothing count n
  known_before_nothing (x ∷ xs) count zero = refl
  known_before_nothing (x ∷ xs) count (suc n) = known_before_nothing xs count n

  known_set : (xs : List (Option A)) (n : ℕ) (o : Option A) → n < length xs → known (slice_set xs n o) n ≡ o
  known_set [] n o low = absurd (omega arith)
  known_set (x ∷ xs) zero o low = refl
  known_set (x ∷ xs) (suc n) o low = known_set xs n o (omega arith)

  known_unset : (xs : List (Option A)) (n m : ℕ) (o : Option A) → (m ≡ n → ⊥) → known (slice_set xs n o) m ≡ known xs m
  known_unset [] n m o other = refl
  known_unset (x ∷ xs) zero zero o other = absurd (other refl)
  known_unset (x ∷ xs) zero (suc m) o other = refl
  known_unset (x ∷ xs) (suc n) zero o other = refl
  known_unset (x ∷ xs) (suc n) (suc m) o other = known_unset xs n m o (λ is. other (ap suc is))

  -- what was noted is known
  pub noted_same : (n : ℕ) (x : A) (xs : List (Option A)) → known (noted n x xs) n ≡ Some x
  noted_same n x xs =
      let count = n + 1 - length xs in
      let nothing : Option A = None in
      let long : length (xs ++ replicate count nothing) ≡ length xs + count =
      length-append xs (replicate count nothing) ∙ ap (λ k. length xs + k) (length-replicate count nothing) in
      known_set (xs ++ replicate count None) n (Some x) (omega arith)

  -- of another number is known what was known before
  pub noted_other : (n m : ℕ) (x : A) (xs : List (Option A)) → (m ≡ n → ⊥) → known (noted n x xs) m ≡ known xs m
  noted_other n m x xs other =
      let count = n + 1 - length xs in
      known_unset (xs ++ replicate count None) n m (Some x) other ∙ known_before_nothing xs count m

  -- also where nothing is known of a number from here on
  pub put_other : (n m : ℕ) (o : Option A) (xs : List (Option A)) → (m ≡ n → ⊥) → known (put n o xs) m ≡ known xs m
  put_other n m o xs other =
      let count = n + 1 - length xs in
      known_unset (xs ++ replicate count None) n m o other ∙ known_before_nothing xs count m
