-- The forms that end before a token.
use Rattle.std.specs.Prelude.{ℕ, ◌-◌, List, [], ◌∷◌, ◌++◌, length, slice_get, Option, Some, None}
use Rattle.ml_syntax.specs.declared.role.Role.{Role}
use Rattle.ml_builder.specs.declared.reduction.Rule.{Rule}
use Rattle.ml_builder.specs.declared.reduction.Reduction.{Reduction}
use Rattle.ml_parser.specs.declared.frames.Frame.{Frame}
use Rattle.ml_moves.specs.declared.level.Last.{Last}
use Rattle.ml_moves.specs.declared.level.Last.TheVariants as lasts
use Rattle.ml_moves.specs.Level.{made_by, made_before}
use Rattle.ml_parser.specs.Changed.{State, state, reduction}

abbrev pub made_of_last : Option Reduction → Last
made_of_last None = lasts.Other
made_of_last (Some r) = made_by r.rule r.count

-- what the last reduction made
abbrev pub last_made : List Reduction → Last
last_made rs = made_of_last (slice_get rs (length rs - 1))

-- where a form ends, what follows from its rule
abbrev pub unless_made : State → Option Rule → (Rule → State) → State
unless_made s None again = s
unless_made s (Some r) again = again r

-- the forms that end before a token end, from the innermost on
unfoldable pub settled : Role → List Frame → List Reduction → State
settled role [] rs = state [] rs
settled role (f ∷ fs) rs =
    unless_made (state (f ∷ fs) rs) (made_before role f.form (last_made rs))
    (λ r. settled role fs (rs ++ reduction r f.token f.parts ∷ []))
