use Rattle.std.proofs.Common.{arith}
use Rattle.rv_model.proofs.WellFormed.{well_formed-none}
use Rattle.rv_model.proofs.code.Code.empty.Goals as goal

-- no instruction
pub invariant_of-result : goal.invariant_of-result
invariant_of-result c = rw c.new.ensures.items (omega arith, well_formed-none)
