-- Why a program isn't built.
use Rattle.fx_base.specs.declared.refusal.LimitKind.{LimitKind}
use Rattle.fx_base.specs.declared.refusal.LimitKind.TheVariants.{Source, Depth, TypeSize, Slots, Free, Code}
use Rattle.fx_base.specs.declared.refusal.Refusal.{Refusal}
use Rattle.fx_base.specs.declared.refusal.Refusal.TheVariants.{Usage, File, Syntax, Name, IllTyped, Limit, Memory}

-- the limits of a function's slots, of its free names, and of an image's instructions
abbrev pub IsBuildLimit : LimitKind → Type 0
IsBuildLimit Slots = Unit {0}
IsBuildLimit Free = Unit {0}
IsBuildLimit Code = Unit {0}
IsBuildLimit Source = ⊥
IsBuildLimit Depth = ⊥
IsBuildLimit TypeSize = ⊥

-- one of these limits, or want of memory
abbrev pub IsBuildRefusal : Refusal → Type 0
IsBuildRefusal Memory = Unit {0}
IsBuildRefusal (Limit kind found bound) = IsBuildLimit kind
IsBuildRefusal Usage = ⊥
IsBuildRefusal File = ⊥
IsBuildRefusal (Syntax place) = ⊥
IsBuildRefusal (Name place) = ⊥
IsBuildRefusal (IllTyped place) = ⊥
