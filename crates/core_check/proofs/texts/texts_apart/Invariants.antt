use Rattle.std.proofs.Common.{◌≡◌, drop, []}
use Rattle.core_check.specs.Texts.{told_apart}
use Rattle.core_check.proofs.texts.texts_apart.Given as goal

abbrev pub invariant-loop-text : goal.invariant-loop-text
invariant-loop-text l = told_apart (λ t. 0) (λ t. t) l.met (drop l.text-index l.texts) ≡ told_apart (λ t. 0) (λ t. t) [] l.fn.texts
