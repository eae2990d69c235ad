-- That the equations of an accepted program have a solution.
use Rattle.std.specs.Prelude.{◌≤◌, IsTrue, List, length, Ok}
use Rattle.effect_meaning.specs.Arena.{Parts, IsArena}
use Rattle.effect_meaning.specs.ArenaTrees.{program}
use Rattle.effect_meaning.specs.Scoped.{names_scoped}
use Rattle.type_terms.specs.declared.base_type.BaseTy.{BaseTy}
use Rattle.type_terms.specs.Accepted.{FitsSize}
use Rattle.ml_infer.specs.Verdict.{IsVerdict}
use Rattle.inference_laws.specs.Meanings.{RowsAreBelow}
use Rattle.inference_laws.specs.Premises.{EffectsAreEffects}

-- what is asked of a program whose equations are solved by the walk over it
pub record IsAsked (p : Parts) : Type 0 where
  pub arena : IsArena p
  pub scoped : IsTrue (names_scoped p)
  pub below : RowsAreBelow p
  pub effects : EffectsAreEffects p
  pub few_terms : length p.terms ≤ 4294967295
  pub few_fields : length p.field_rows ≤ 4294967295

-- where it is accepted, its equations have a solution, in which the type of each definition has at most 4,096 nodes
abbrev pub AcceptedIsSolved : Type 0
AcceptedIsSolved = (p : Parts) (bs : List BaseTy) → IsAsked p → IsVerdict p (Ok bs) → FitsSize (program p)
