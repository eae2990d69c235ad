-- What inference refuses.
use Rattle.std.specs.Prelude.{◌≡◌}
use Rattle.fx_base.specs.declared.refusal.LimitKind.TheVariants as limit
use Rattle.fx_base.specs.declared.refusal.Refusal.{Refusal}
use Rattle.fx_base.specs.declared.refusal.Refusal.TheVariants as refusal

-- the typing equations have no solution, a type is too large, or memory is wanting
abbrev pub IsTypeOrMemory : Refusal → Type 0
IsTypeOrMemory (refusal.IllTyped place) = Unit {0}
IsTypeOrMemory (refusal.Limit kind found bound) = (kind ≡ limit.TypeSize) × (found ≡ 4097) × (bound ≡ 4096)
IsTypeOrMemory refusal.Memory = Unit {0}
IsTypeOrMemory _ = ⊥
