use Rattle.std.proofs.Common.{◌-◌, sym, arith}
use Rattle.ml_infer.proofs.Rows.{none_belongs, one_belongs}
use Rattle.ml_infer.proofs.members.Members.new.Goals as goal

pub loop-row-init : goal.loop-row-init
loop-row-init c = rw (c.new.ensures, c.new-2.ensures, c.new-3.ensures) (sym (none_belongs c.args.of_types.now))

pub loop-row-preserved : goal.loop-row-preserved
loop-row-preserved c =
    rw (c.in_ok-add.ensures, c.loop-row.invariant)
    (one_belongs c.args.of_types.now c.loop-row.row (c.loop-row.row - 1) (omega arith) (omega arith))
