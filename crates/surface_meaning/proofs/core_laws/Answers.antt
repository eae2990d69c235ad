use Rattle.surface_meaning.proofs.LawProofs.{first_breach_law, core_without_breach_law, begins_with_builtins_law, begins_with_prelude_law, numbers_differ_law}
use Rattle.surface_meaning.proofs.core_laws.Goals as goal

-- src/lib.rt
pub returns : goal.returns
returns c = record {
  without_breach = core_without_breach_law;
  first_breach = first_breach_law;
  builtins = begins_with_builtins_law;
  prelude = begins_with_prelude_law;
  numbers = numbers_differ_law;
}
