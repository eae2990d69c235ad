use Rattle.std.proofs.Common.{◌≡◌, drop}
use Rattle.core_check.specs.Walk.{effects_test}
use Rattle.core_check.proofs.rows.are_effects_reached.Given as goal

abbrev pub invariant-loop-clause : goal.invariant-loop-clause
invariant-loop-clause l = effects_test l.known l.reach (drop l.clause-index l.clauses) ≡ effects_test l.fn.known l.fn.reach l.fn.clauses
