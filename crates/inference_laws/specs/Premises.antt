-- What is asked of a program where a rule speaks of its effects.
use Rattle.std.specs.Prelude.{◌≡◌, ℕ}
use Rattle.std.specs.List.{AllByRecursion}
use Rattle.effect_meaning.specs.Arena.{Parts}
use Rattle.effect_meaning.specs.ArenaTrees.{type_at, types_of}
use Rattle.effect_meaning.specs.Builtins.{effect_type}
use Rattle.effect_meaning.specs.Terms.{Written, Applied, NoTypes, AndType}

-- a written type is Effect.t of one type
abbrev pub IsWrittenEffect : Parts → ℕ → Type 0
IsWrittenEffect p n = (w : Written) × (type_at (types_of p) n ≡ Applied effect_type (AndType w NoTypes))

-- so is the result of each effect
abbrev pub EffectsAreEffects : Parts → Type 0
EffectsAreEffects p = AllByRecursion (λ r. IsWrittenEffect p r.result) p.effect_rows
