-- What scopes refuse.
use Rattle.fx_base.specs.declared.refusal.Refusal.{Refusal}
use Rattle.fx_base.specs.declared.refusal.Refusal.TheVariants as refusal

-- a breach of the rules on names, or want of memory
abbrev pub IsNameOrMemory : Refusal → Type 0
IsNameOrMemory (refusal.Name place) = Unit {0}
IsNameOrMemory refusal.Memory = Unit {0}
IsNameOrMemory _ = ⊥
