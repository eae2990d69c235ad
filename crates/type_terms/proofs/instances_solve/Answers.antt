use Rattle.type_terms.proofs.InstancesOfPrograms.{instances_solve_law}
use Rattle.type_terms.proofs.instances_solve.Goals as goal

-- src/lib.rt
pub returns : goal.returns
returns c = instances_solve_law
