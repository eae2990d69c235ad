use Rattle.std.proofs.Common.{◌≡◌, drop}
use Rattle.core_check.specs.Walk.{functions_test}
use Rattle.core_check.proofs.rows.are_functions_reached.Given as goal

abbrev pub invariant-loop-function : goal.invariant-loop-function
invariant-loop-function l = functions_test l.known l.reach (drop l.function-index l.functions) ≡ functions_test l.fn.known l.fn.reach l.fn.functions
