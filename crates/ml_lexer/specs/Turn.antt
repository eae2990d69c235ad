-- What stands at the front inside a comment.
use Rattle.std.specs.Prelude.{◌≡◌, ℕ, suc, ◌+◌, ◌≤◌, ◌<◌, List, length, drop, None, option_map}
use Rattle.ml_lexer.specs.declared.comments.Turn.{Turn}
use Rattle.ml_lexer.specs.declared.comments.Turn.TheVariants.{Opens, Closes, Bytes, Fault}
use Rattle.ml_lexer.specs.Scan.{inside}

-- what stands at the front inside a comment says how it goes on
abbrev pub TurnIs : Turn → ℕ → List ℕ → Type 0
TurnIs Opens d bs = (2 ≤ length bs) × (inside (suc d) 0 bs ≡ option_map (λ m. 2 + m) (inside (suc (suc d)) 0 (drop 2 bs)))
TurnIs Closes d bs = (2 ≤ length bs) × (inside (suc d) 0 bs ≡ option_map (λ m. 2 + m) (inside d 0 (drop 2 bs)))
TurnIs (Bytes n) d bs = (0 < n) × (n ≤ length bs) × (inside (suc d) 0 bs ≡ option_map (λ m. n + m) (inside (suc d) 0 (drop n bs)))
TurnIs Fault d bs = inside (suc d) 0 bs ≡ None
