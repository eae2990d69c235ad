-- What is known by number.
use Rattle.std.specs.Prelude.{ℕ, ◌+◌, ◌-◌, List, ◌++◌, length, replicate, slice_get, slice_set, Option, Some, None}

-- what is known of a number
abbrev pub known : {A : Type 0} → List (Option A) → ℕ → Option A
known xs n = elim (slice_get xs n) [ None ↦ None | Some x ↦ x ]

-- with room for a number
abbrev pub reaching : {A : Type 0} → ℕ → List (Option A) → List (Option A)
reaching n xs = xs ++ replicate (n + 1 - length xs) None

-- from here on this is known of a number, or nothing
abbrev pub put : {A : Type 0} → ℕ → Option A → List (Option A) → List (Option A)
put n o xs = slice_set (reaching n xs) n o

-- from here on this is known of a number
abbrev pub noted : {A : Type 0} → ℕ → A → List (Option A) → List (Option A)
noted n x xs = put n (Some x) xs
