-- What a clause sees of the host's files: how far the reading has come, and no content.
use Rattle.std.specs.Prelude.{ℕ, List, Option}

pub record HostReading : Type 0 where
  pub opened : Option (List ℕ)
  pub taken : ℕ
  pub faults : ℕ
