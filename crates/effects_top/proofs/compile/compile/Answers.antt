use Rattle.std.proofs.Common.{◌≡◌, ◌+◌, rules, refl, ap, sym, subst, ◌∙◌}
use Rattle.fx_base.specs.declared.refusal.Refusal.TheVariants.{Memory}
use Rattle.rv_asm.specs.Lines.{AreLines}
use Rattle.effects_top.specs.Compiled.{whole_code}
use Rattle.effects_top.proofs.ImageStands.{compiled_stands}
use Rattle.effects_top.proofs.Fitting.{whole_fits, whole_short}
use Rattle.effects_top.proofs.Assembling.{plain_lines, plain_assembled, plain_refused}
use Rattle.effects_top.proofs.compile.compile.Goals as goal

pub assemble-requires : goal.assemble-requires
assemble-requires c =
    subst AreLines (sym (c.deref.ensures.value ∙ c.in_ok-lines.ensures)) (plain_lines (whole_code c.args.settings.now.out c.args.postfix.now) (whole_fits c.args.settings.now.out c.args.postfix.now))

pub returns-in_err-assembled-clause-refused : goal.returns-in_err-assembled-clause-refused
returns-in_err-assembled-clause-refused c =
    let refused : c.in_err-assembled.field-0.0 ≡ Memory = plain_refused (whole_code c.args.settings.now.out c.args.postfix.now) _ (whole_short c.args.settings.now.out c.args.postfix.now c.requires.few) (rw (c.deref.ensures.value, c.in_ok-lines.ensures) at c.in_err-assembled.ensures.refused) in
    search (rules, refused, c.from_residual-in_err-assembled.ensures)

pub returns-clause-code : goal.returns-clause-code
returns-clause-code c = plain_assembled (whole_code c.args.settings.now.out c.args.postfix.now) _ _ (rw (c.deref.ensures.value, c.in_ok-lines.ensures) at c.in_ok-assembled.ensures.assembles)

pub returns-clause-stands : goal.returns-clause-stands
returns-clause-stands c file place e small is =
    compiled_stands _ c.args.settings.now c.args.postfix.now file place e refl (returns-clause-code c) (c.from_vec.ensures ∙ c.in_ok-start.ensures) (ap (λ n. n + 2000) c.stack_word.ensures) c.requires.few small is
