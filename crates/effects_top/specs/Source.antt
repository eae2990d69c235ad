-- Reading a file to its end.
use Rattle.std.specs.Prelude.{◌≡◌, ℕ, ◌≤◌, List, length, take}
use Rattle.fx_base.specs.declared.refusal.Refusal.{Refusal}
use Rattle.fx_base.specs.declared.refusal.Refusal.TheVariants.{Limit}
use Rattle.fx_base.specs.declared.refusal.LimitKind.TheVariants.{Source}

-- the refusal of a file with more than 1,048,576 bytes
abbrev pub source_limit : Refusal
source_limit = Limit Source 1048577 1048576

-- the file's first n bytes stand in the front of the buffer
pub record HasFront (file : List ℕ) (n : ℕ) (buffer : List ℕ) : Type 0 where
  pub front : take n buffer ≡ take n file
  pub within : n ≤ length file
