-- What the conversion refuses.
use Rattle.std.specs.Prelude.{◌≡◌, ◌<◌, ◌⊎◌}
use Rattle.fx_base.specs.declared.refusal.LimitKind.TheVariants as limit
use Rattle.fx_base.specs.declared.refusal.Refusal.{Refusal}
use Rattle.fx_base.specs.declared.refusal.Refusal.TheVariants as refusal

-- a function has more than 255 slots or free names, or memory is wanting
abbrev pub IsConvertRefusal : Refusal → Type 0
IsConvertRefusal (refusal.Limit kind found bound) = ((kind ≡ limit.Slots) ⊎ (kind ≡ limit.Free)) × (255 < found) × (bound ≡ 255)
IsConvertRefusal refusal.Memory = Unit {0}
IsConvertRefusal _ = ⊥
