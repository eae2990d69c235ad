use Rattle.std.proofs.Common.{refl, sym, ◌∙◌}
use Rattle.std.specs.Prelude.{◌==◌}
use Rattle.ml_lexer.specs.Tables.{keywords}
use Rattle.ml_lexer.proofs.Kept.{kept_kind}
use Rattle.ml_lexer.proofs.tables.keyword.Goals as goal

pub returns-in-2 : goal.returns-in-2
returns-in-2 c = c.word_of_two.ensures ∙ sym (kept_kind (λ n. n == 2) keywords c.args.word.now (rw c.in-2.is refl))

pub returns-in-3 : goal.returns-in-3
returns-in-3 c = c.word_of_three.ensures ∙ sym (kept_kind (λ n. n == 3) keywords c.args.word.now (rw c.in-3.is refl))

pub returns-in-4 : goal.returns-in-4
returns-in-4 c = c.word_of_four.ensures ∙ sym (kept_kind (λ n. n == 4) keywords c.args.word.now (rw c.in-4.is refl))

pub returns-in-5 : goal.returns-in-5
returns-in-5 c = c.word_of_five.ensures ∙ sym (kept_kind (λ n. n == 5) keywords c.args.word.now (rw c.in-5.is refl))

pub returns-in-6 : goal.returns-in-6
returns-in-6 c = c.word_of_six.ensures ∙ sym (kept_kind (λ n. n == 6) keywords c.args.word.now (rw c.in-6.is refl))

pub returns-in-7 : goal.returns-in-7
returns-in-7 c = c.word_of_seven.ensures ∙ sym (kept_kind (λ n. n == 7) keywords c.args.word.now (rw c.in-7.is refl))
