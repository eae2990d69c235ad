use Rattle.std.proofs.Common.{◌∙◌, Some, ap, sym, refl}
use Rattle.effects_top.specs.Words.{seen_command}
use Rattle.effects_top.proofs.Wording.{asked_file, run_turns_are, demo_number_is}
use Rattle.effects_top.proofs.top.effects_main.Goals as goal

pub returns-in-Some-Run-clause-ran : goal.returns-in-Some-Run-clause-ran
returns-in-Some-Run-clause-ran g c = λ file numbers turns w asks written.
    let is = ap (λ command. Some (seen_command command)) (sym c.in-Some-Run.field-0-is) ∙ c.in-Some-Run.ensures in
    rw (run_turns_are _ _ file _ numbers _ turns is asks) at (c.run_program.ensures.ran w written)

pub returns-in-Some-Assemble-clause-listed : goal.returns-in-Some-Assemble-clause-listed
returns-in-Some-Assemble-clause-listed g c = λ file numbers w asks written. c.list_program.ensures.listed w written

pub returns-in-Some-Check-clause-read : goal.returns-in-Some-Check-clause-read
returns-in-Some-Check-clause-read g c = λ file bytes w told written.
    let is = ap (λ command. Some (seen_command command)) (sym c.in-Some-Check.field-0-is) ∙ c.in-Some-Check.ensures in
    c.check_program.ensures.read bytes w (ap (g.F.Files.told c.args.files.now) (asked_file _ _ _ file is refl told.named) ∙ told.holds) written

pub returns-in-Some-Run-clause-read : goal.returns-in-Some-Run-clause-read
returns-in-Some-Run-clause-read g c = λ file bytes w told written.
    let is = ap (λ command. Some (seen_command command)) (sym c.in-Some-Run.field-0-is) ∙ c.in-Some-Run.ensures in
    c.run_program.ensures.read bytes w (ap (g.F.Files.told c.args.files.now) (asked_file _ _ _ file is refl told.named) ∙ told.holds) written

pub returns-in-Some-Assemble-clause-read : goal.returns-in-Some-Assemble-clause-read
returns-in-Some-Assemble-clause-read g c = λ file bytes w told written.
    let is = ap (λ command. Some (seen_command command)) (sym c.in-Some-Assemble.field-0-is) ∙ c.in-Some-Assemble.ensures in
    c.list_program.ensures.read bytes w (ap (g.F.Files.told c.args.files.now) (asked_file _ _ _ file is refl told.named) ∙ told.holds) written

pub returns-in-Some-Demo-clause-demo : goal.returns-in-Some-Demo-clause-demo
returns-in-Some-Demo-clause-demo g c = λ number w asks written.
    let is = ap (λ command. Some (seen_command command)) (sym c.in-Some-Demo.field-0-is) ∙ c.in-Some-Demo.ensures in
    rw (demo_number_is _ _ number is asks) at (c.run_made.ensures.ran w written)
