use Rattle.std.proofs.Common.{◌≡◌, ◌++◌, None, replicate}
use Rattle.ml_infer.proofs.known.Known.reach.Given as goal

-- there is so much more room
abbrev pub invariant-loop-more : goal.invariant-loop-more
invariant-loop-more g l = l.self-inside.items.items ≡ l.fn.self ++ replicate l._more None
