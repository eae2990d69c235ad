use Rattle.effects_top.specs.Output.{joined}
use Rattle.effects_top.proofs.Writing.{joined-empty, joined-parted, wrote-none, wrote-on, wrote-failed}
use Rattle.effects_top.proofs.output.+write_pieces.Goals as goal

pub returns-in_default : goal.returns-in_default
returns-in_default g t c = rw (joined-empty c.args.pieces.now c.in_default.ensures.cases) (wrote-none (g.S.Sink.held c.args.sink.now) (g.S.Sink.faults c.args.sink.now))

pub returns-in-Whole : goal.returns-in-Whole
returns-in-Whole g t c =
    rw (joined-parted c.args.pieces.now c.in-Some.rest.now c.in-Some.first.now c.in-Some.ensures.cases.0)
    (wrote-on _ _ _ _ _ _ _ (joined c.in-Some.rest.now) _ c.in-Whole.ensures c.write_pieces.ensures)

pub returns-in-Failed : goal.returns-in-Failed
returns-in-Failed g t c =
    rw (joined-parted c.args.pieces.now c.in-Some.rest.now c.in-Some.first.now c.in-Some.ensures.cases.0)
    (wrote-failed _ _ _ _ _ (joined c.in-Some.rest.now) c.in-Failed.ensures)
