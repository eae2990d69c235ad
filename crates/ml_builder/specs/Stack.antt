-- The top of a stack.
use Rattle.std.specs.Prelude.{ℕ, List, take, reverse}

-- so many values from the top, in the order in which they were pushed
abbrev pub top : {A : Type 0} → ℕ → List A → List A
top n xs = reverse (take n xs)
