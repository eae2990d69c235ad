use Rattle.std.proofs.Common.{◌≡◌, ◌≤◌, drop}
use Rattle.ml_lexer.specs.Values.{digits_value}
use Rattle.ml_lexer.proofs.values.digits_in_range.Given as goal

-- the value so far, with the rest, is that of all
abbrev pub invariant-loop-digit : goal.invariant-loop-digit
invariant-loop-digit l = record {
  rest : digits_value l.base 0 l.digits ≡ digits_value l.base l.value (drop l.digit-index l.digits);
  small : l.value ≤ 4611686018427387904;
}
