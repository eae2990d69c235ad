-- What holds of each element, and of all that is known.
use Rattle.std.proofs.Common.{ℕ, zero, suc, ◌+◌, ◌-◌, List, [], ◌∷◌, ◌++◌, length, map, Option, Some, None, slice_get, slice_set, take, drop, nat_le, true, false, if◌then◌else◌}
use Rattle.std.specs.Prelude.{replicate}
use Rattle.std.specs.List.{AllByRecursion}
use Rattle.std.proofs.lemmas.List.Elements.{All-from_recursion, recursion_from_All, All-take, All-drop}
use Rattle.type_graph.specs.Graph.{part_of}
use Rattle.ml_infer.specs.Known.{known, noted, put}
use Rattle.inference_laws.specs.Whole.{IfKnown, EachKnown}

module _ {X : Type 0} where
  -- what follows of each element
  pub each_so : (P Q : X → Type 0) → ((x : X) → P x → Q x) → (xs : List X) → AllByRecursion P xs → AllByRecursion Q xs
  each_so P Q so [] h = tt
  each_so P Q so (x ∷ xs) h = (so x h.0, each_so P Q so xs h.1)

  pub each_appended : (P : X → Type 0) (xs ys : List X) → AllByRecursion P xs → AllByRecursion P ys → AllByRecursion P (xs ++ ys)
  each_appended P [] ys h k = k
  each_appended P (x ∷ xs) ys h k = (h.0, each_appended P xs ys h.1 k)

  pub each_made : {Y : Type 0} (P : X → Type 0) (f : Y → X) → ((y : Y) → P (f y)) → (ys : List Y) → AllByRecursion P (map f ys)
  each_made P f h [] = tt
  each_made P f h (y ∷ ys) = (h y, each_made P f h ys)

module _ {X : Type 0} (P : X → Type 0) where
  each_taken : (count : ℕ) (xs : List X) → AllByRecursion P xs → AllByRecursion P (take count xs)
  each_taken count xs h =
      recursion_from_All P (take count xs) (All-take P count xs (All-from_recursion P xs h))

  each_behind : (first : ℕ) (xs : List X) → AllByRecursion P xs → AllByRecursion P (drop first xs)
  each_behind first xs h =
      recursion_from_All P (drop first xs) (All-drop P first xs (All-from_recursion P xs h))

  pub each_of_part : (xs : List X) (first count : ℕ) → AllByRecursion P xs → AllByRecursion P (part_of xs first count)
  each_of_part xs first count h =
      elim (nat_le (first + count) (length xs)) as (λ b. AllByRecursion P (if b then take count (drop first xs) else [])) [
        | true ↦ each_taken count (drop first xs) (each_behind first xs h)
        | false ↦ tt
      ]

  -- what holds of the element at a place, if there is one
  pub one_of_each : (xs : List X) (n : ℕ) → AllByRecursion P xs → IfKnown P (slice_get xs n)
  one_of_each [] n h = tt
  one_of_each (x ∷ xs) zero h = h.0
  one_of_each (x ∷ xs) (suc n) h = one_of_each xs n h.1

module _ {X : Type 0} where
  pub if_known_so : (P Q : X → Type 0) → ((x : X) → P x → Q x) → (o : Option X) → IfKnown P o → IfKnown Q o
  if_known_so P Q so None h = tt
  if_known_so P Q so (Some x) h = so x h

  pub known_so : (P Q : X → Type 0) → ((x : X) → P x → Q x) → (xs : List (Option X)) → EachKnown P xs → EachKnown Q xs
  known_so P Q so xs h = each_so (IfKnown P) (IfKnown Q) (if_known_so P Q so) xs h

  module _ (P : X → Type 0) where
    nothing_known : (count : ℕ) → EachKnown P (replicate count None)
    nothing_known zero = tt
    nothing_known (suc count) = (tt, nothing_known count)

    each_set : (xs : List (Option X)) (n : ℕ) (o : Option X) → EachKnown P xs → IfKnown P o → EachKnown P (slice_set xs n o)
    each_set [] n o h k = tt
    each_set (x ∷ xs) zero o h k = (k, h.1)
    each_set (x ∷ xs) (suc n) o h k = (h.0, each_set xs n o h.1 k)

    -- something else is known of a number, or nothing
    pub known_put : (n : ℕ) (o : Option X) (xs : List (Option X)) → EachKnown P xs → IfKnown P o → EachKnown P (put n o xs)
    known_put n o xs h k =
        each_set (xs ++ replicate (n + 1 - length xs) None) n o
        (each_appended (IfKnown P) xs (replicate (n + 1 - length xs) None) h (nothing_known (n + 1 - length xs))) k

    -- one more is known
    pub known_noted : (n : ℕ) (x : X) (xs : List (Option X)) → EachKnown P xs → P x → EachKnown P (noted n x xs)
    known_noted n x xs h k = known_put n (Some x) xs h k

    -- what is known of a number
    pub known_at : (xs : List (Option X)) (n : ℕ) → EachKnown P xs → IfKnown P (known xs n)
    known_at [] n h = tt
    known_at (x ∷ xs) zero h = h.0
    known_at (x ∷ xs) (suc n) h = known_at xs n h.1
