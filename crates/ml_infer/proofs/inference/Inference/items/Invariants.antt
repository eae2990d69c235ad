use Rattle.std.proofs.Common.{◌≡◌, drop}
use Rattle.ml_infer.specs.Items.{items_taken}
use Rattle.ml_infer.proofs.inference.Inference.items.Given as goal

-- what comes of the items that are left comes of all
abbrev pub invariant-loop-item : goal.invariant-loop-item
invariant-loop-item l = items_taken l.arena (drop l.item-index l.arena.items) l.self ≡ items_taken l.arena l.arena.items l.fn.self
