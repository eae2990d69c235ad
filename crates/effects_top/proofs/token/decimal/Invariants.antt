use Rattle.std.proofs.Common.{◌≡◌, ◌≤◌, drop}
use Rattle.effects_top.specs.Spelling.{are_digits, value_from}
use Rattle.effects_top.proofs.token.decimal.Given as goal

-- the value so far, with the rest, is that of all
abbrev pub invariant-loop-digit : goal.invariant-loop-digit
invariant-loop-digit l = record {
  digits : are_digits l.digits ≡ are_digits (drop l.digit-index l.digits);
  rest : value_from 0 l.digits ≡ value_from l.value (drop l.digit-index l.digits);
  small : l.value ≤ l.greatest;
}
