use Rattle.std.proofs.Common.{◌%◌, ◌<◌, arith}
use Rattle.rv_step.proofs.Shifts.{shift_fits}
use Rattle.rv_step.proofs.arithmetic.shifted_signed.Goals as goal

pub overflow_add-result : goal.overflow_add-result
overflow_add-result c =
    let low : c.args.amount % 64 < 64 = omega arith in
    let fits = shift_fits c.args.a (c.args.amount % 64) c.power-else-by-eq0.result c.power-else-by-eq0-2.result c.negated.result (omega arith) low c.power-else-by-eq0.ensures c.power-else-by-eq0-2.ensures c.negated.ensures in
    omega arith
