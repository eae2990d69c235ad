-- What the part at the front of a string says of those from there on.
use Rattle.std.specs.Prelude.{◌≡◌, ℕ, ◌+◌, ◌≤◌, ◌<◌, List, length, drop, Some, None, option_map}
use Rattle.ml_lexer.specs.declared.scan.Part.{Part}
use Rattle.ml_lexer.specs.declared.scan.Part.TheVariants.{End, Bytes, Fault}
use Rattle.ml_lexer.specs.Scan.{scan_parts}

-- what the part at the front says of the parts from there on
abbrev pub PartIs : Part → List ℕ → Type 0
PartIs End bs = scan_parts bs ≡ Some 1
PartIs (Bytes n) bs = (0 < n) × (n ≤ length bs) × (scan_parts bs ≡ option_map (λ m. n + m) (scan_parts (drop n bs)))
PartIs Fault bs = scan_parts bs ≡ None
