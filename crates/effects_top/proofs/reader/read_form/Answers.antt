use Rattle.std.proofs.Common.{arith, rules, ◌≡◌, List}
use Rattle.effects_top.specs.Spelling.{Spells}
use Rattle.effects_top.specs.declared.token.Token.{Token}
use Rattle.effects_top.proofs.Forms.{form-is, form-long, form-none}
use Rattle.effects_top.proofs.reader.read_form.Goals as goal

pub returns-in-Ok-clause-some : goal.returns-in-Ok-clause-some
returns-in-Ok-clause-some c = search (rules, form-is, arith)

pub returns-in-Ok-2-clause-none : goal.returns-in-Ok-2-clause-none
returns-in-Ok-2-clause-none c =
    let only : (other : List Token) → Spells c.args.text.now other → other ≡ c.in-Some.tokens.items = search (rules, c.in_ok-tokens.ensures.only, c.in-Some.is) in
    form-long c.args.text.now c.in-Some.tokens.items c.expression.new.postfix.items only (search (rules, c.in-Ok-2.ensures.read, c.new-postfix.ensures.items)) (omega arith)

pub returns-in-Err-NotOfTheForm-clause-none : goal.returns-in-Err-NotOfTheForm-clause-none
returns-in-Err-NotOfTheForm-clause-none c =
    let only : (other : List Token) → Spells c.args.text.now other → other ≡ c.in-Some.tokens.items = search (rules, c.in_ok-tokens.ensures.only, c.in-Some.is) in
    form-none c.args.text.now c.in-Some.tokens.items only (rw c.deref.ensures.value at (c.in-Err-NotOfTheForm.ensures.unread c.in-Err-NotOfTheForm.field-0-is))
