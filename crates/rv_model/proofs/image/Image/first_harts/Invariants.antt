use Rattle.std.proofs.Common.{◌≡◌}
use Rattle.rv_model.specs.Start.{first_harts}
use Rattle.rv_model.proofs.image.Image.first_harts.Given as goal

-- the harts so far
abbrev pub invariant-loop-number : goal.invariant-loop-number
invariant-loop-number l = l.harts.items ≡ first_harts 0 l.number
