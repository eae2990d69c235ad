-- What is written to a sink.
use Rattle.std.specs.Prelude.{◌≡◌, ℕ, ◌≤◌, List, [], ◌∷◌, ◌++◌, length, Option}
use Rattle.std.specs.Fmt.{decimal}
use Rattle.fx_base.specs.Faults.{Rose}
use Rattle.fx_base.specs.Told.{appended}
use Rattle.fx_base.specs.declared.settings.Written.{Written}
use Rattle.fx_base.specs.declared.settings.Written.TheVariants.{Whole, Failed}
use Rattle.effects_top.specs.declared.output.Piece.{Piece}
use Rattle.effects_top.specs.declared.output.Piece.TheVariants.{Text, Number}

-- what came of writing bytes to a sink: what it held and holds, where that is told, its counts of faults, and the answer
pub record Wrote (before after : Option (List ℕ)) (faults faults' : ℕ) (bytes : List ℕ) (written : Written) : Type 0 where
  pub whole : written ≡ Whole → after ≡ appended before (length bytes) bytes
  pub front : (n : ℕ) × (n ≤ length bytes) × (after ≡ appended before n bytes)
  pub failed : written ≡ Failed → Rose faults faults'
  pub counted : faults ≤ faults'

-- the bytes of a piece of a line
abbrev pub piece_bytes : Piece → List ℕ
piece_bytes (Text text) = text.now
piece_bytes (Number n) = decimal n

-- the bytes of pieces, joined
abbrev pub joined : List Piece → List ℕ
joined [] = []
joined (p ∷ ps) = piece_bytes p ++ joined ps
