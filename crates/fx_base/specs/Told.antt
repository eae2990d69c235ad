-- What is told of the outside world's bytes.
use Rattle.std.specs.Prelude.{◌≡◌, ℕ, ◌+◌, ◌≤◌, ◌<◌, ◌↔◌, List, ◌++◌, length, take, drop, Option, option_map, Result, Ok, Err, IfOk, IsErr}
use Rattle.fx_base.specs.declared.outside.Failed.{Failed}

-- what is told of a name: nothing, that no file has it, or the bytes that its file holds
pub data Told : Type 0 where
  Untold : Told
  Missing : Told
  Holds : (bytes : List ℕ) → Told

-- how many bytes an answer counts
abbrev pub count_of : Result ℕ Failed → ℕ
count_of (Ok n) = n
count_of (Err e) = 0

-- a read gave n bytes: those of the file that come after the taken ones, and none exactly at the end
pub record GivesNext (file : List ℕ) (taken n : ℕ) (before after : List ℕ) : Type 0 where
  pub left : taken + n ≤ length file
  pub next : take n after ≡ take n (drop taken file)
  pub ends : 0 < length before → (n ≡ 0) ↔ (taken ≡ length file)

-- the answer of a read into a buffer, by what is told of the opened name and how much of it was taken
pub record Reads (told : Told) (taken : ℕ) (before after : List ℕ) (answer : Result ℕ Failed) : Type 0 where
  pub within : IfOk answer (λ n. n ≤ length before)
  pub gives : (file : List ℕ) → told ≡ Holds file → IfOk answer (λ n. GivesNext file taken n before after)
  pub missing : told ≡ Missing → IsErr answer

-- the held bytes, where they are told, and the first n of these after them
abbrev pub appended : Option (List ℕ) → ℕ → List ℕ → Option (List ℕ)
appended held n bytes = option_map (λ before. before ++ take n bytes) held
