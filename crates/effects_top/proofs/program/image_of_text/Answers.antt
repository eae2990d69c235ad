use Rattle.std.proofs.Common.{◌≡◌, IfNone, rules, subst, ◌∙◌}
use Rattle.effects_top.specs.Expression.{Expression, postfix_of}
use Rattle.effects_top.specs.Form.{IsFormOf}
use Rattle.effects_top.proofs.Integral.{form_integral}
use Rattle.effects_top.proofs.program.image_of_text.Goals as goal

pub returns-clause-stands : goal.returns-clause-stands
returns-clause-stands c = λ file form.
    let read : (e : Expression) × IsFormOf c.args.text.now e × (c.in-Some.postfix.items ≡ postfix_of e) = search (rules, c.in_ok-postfix.ensures.some, c.in-Some.is) in
    record {
      expression = read.0;
      form = read.1;
      stands = λ at. c.in_ok-compile.ensures.stands file at read.0 (form_integral c.args.text.now read.0 read.1) (c.deref.ensures.value ∙ read.2);
    }

pub returns-in_default-clause-stands : goal.returns-in_default-clause-stands
returns-in_default-clause-stands c = λ file form.
    let none = subst (λ o. IfNone o ((e : Expression) → IsFormOf c.args.text.now e → ⊥)) c.in_default.is c.in_ok-postfix.ensures.none in
    absurd (none form.expression form.form)
