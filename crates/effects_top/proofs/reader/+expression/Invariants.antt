use Rattle.std.proofs.Common.{◌<◌, length, ◌+◌, ◌*◌}
use Rattle.effects_top.specs.Form.{Product, Sum}
use Rattle.effects_top.proofs.Forms.{ReadsOn}
use Rattle.effects_top.proofs.reader.+expression.Given as goal

abbrev pub decreases-atom : goal.decreases-atom
decreases-atom l = 3 * l.room

abbrev pub decreases-product : goal.decreases-product
decreases-product l = 3 * l.room + 1

abbrev pub decreases-sum : goal.decreases-sum
decreases-sum l = 3 * l.room + 2

-- an expression is read, and the only one grows out of it
abbrev pub invariant-product-loop-operation : goal.invariant-product-loop-operation
invariant-product-loop-operation l = record {
  on : ReadsOn Product l.room l.fn.tokens l.rest l.fn.postfix.items l.postfix.items;
  shorter : length l.rest < length l.fn.tokens;
}

abbrev pub decreases-product-loop-operation : goal.decreases-product-loop-operation
decreases-product-loop-operation l = length l.rest

-- an expression is read, and the only one grows out of it
abbrev pub invariant-sum-loop-operation : goal.invariant-sum-loop-operation
invariant-sum-loop-operation l = record {
  on : ReadsOn Sum l.room l.fn.tokens l.rest l.fn.postfix.items l.postfix.items;
  shorter : length l.rest < length l.fn.tokens;
}

abbrev pub decreases-sum-loop-operation : goal.decreases-sum-loop-operation
decreases-sum-loop-operation l = length l.rest
