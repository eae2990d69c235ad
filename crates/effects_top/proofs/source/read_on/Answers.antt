use Rattle.std.proofs.Common.{arith, length, take, drop, ◌-◌, ◌<◌}
use Rattle.std.proofs.lemmas.List.{length-take, length-drop}
use Rattle.effects_top.proofs.Filling.{front_after, end_after}
use Rattle.effects_top.proofs.source.read_on.Goals as goal

pub returns-clause-front : goal.returns-clause-front
returns-clause-front g c = λ file holds.
    front_after file c.args.buf.now (take (length c.args.buf.now - c.args.taken) (drop c.args.taken c.args.buf.now)) c.read.new.buf c.args.taken _ _ c.read.result
    (omega arith) c.read.auto.buf (c.requires.front file holds) holds (rw c.requires.count at (c.read.ensures.reads _ c.requires.opened))

pub returns-clause-end_ : goal.returns-clause-end_
returns-clause-end_ g c = λ file holds.
    let some : 0 < length (take (length c.args.buf.now - c.args.taken) (drop c.args.taken c.args.buf.now)) = simp (length-take, length-drop) (omega arith) in
    end_after file _ c.read.new.buf c.args.taken _ c.read.result some holds (rw c.requires.count at (c.read.ensures.reads _ c.requires.opened))
