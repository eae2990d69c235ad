-- Reductions in two parts.
use Rattle.std.proofs.Common.{◌≡◌, List, [], ◌∷◌, ◌++◌, Option, Some, None, option_and_then, refl}
use Rattle.ml_lexer.specs.Lexeme.{Lexeme}
use Rattle.ml_builder.specs.declared.building.Building.{Building}
use Rattle.ml_builder.specs.declared.reduction.Reduction.{Reduction}
use Rattle.ml_builder.specs.Reduced.{reduced, built}

and_then_again : (f g h : Building → Option Building) → ((b : Building) → f b ≡ option_and_then h (g b))
    → (o : Option Building) → option_and_then f o ≡ option_and_then h (option_and_then g o)
and_then_again f g h again None = refl
and_then_again f g h again (Some b) = again b

-- the second part goes on from what the first builds
pub built_append : (ts : List Lexeme) (rs qs : List Reduction) (b : Building)
    → built ts (rs ++ qs) b ≡ option_and_then (λ c. built ts qs c) (built ts rs b)
unfolding built
built_append ts [] qs b = refl
built_append ts (r ∷ rs) qs b =
    and_then_again (λ c. built ts (rs ++ qs) c) (λ c. built ts rs c) (λ c. built ts qs c) (λ c. built_append ts rs qs c) (reduced ts r b)
