use Rattle.std.proofs.Common.{◌≡◌, drop}
use Rattle.ml_infer.specs.Members.{belonging}
use Rattle.ml_infer.proofs.members.Members.new.Given as goal

-- the rows from here on belong to their types
abbrev pub invariant-loop-row : goal.invariant-loop-row
invariant-loop-row l = l.members ≡ belonging l.row (drop l.row l.of_types)
