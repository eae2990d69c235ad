use Rattle.std.proofs.Common.{◌∙◌, List, ℕ, IfOk, subst}
use Rattle.effects_top.specs.Form.{IsOfForm}
use Rattle.effects_top.specs.Headline.{IsImageOf}
use Rattle.effects_top.proofs.program.compile_file.Goals as goal

pub returns-clause-stands : goal.returns-clause-stands
returns-clause-stands g c = λ bytes told form.
    let P : List ℕ → Type 0 = λ b. IsOfForm b → IfOk c.compile_text.result (IsImageOf c.args.name.now b) in
    subst P (c.deref.ensures.value ∙ c.in_ok-source.ensures.whole bytes told) c.compile_text.ensures.stands form
