use Rattle.effects_top.proofs.Refusing.{compile_breach}
use Rattle.effects_top.proofs.program.compile_text.Goals as goal

pub returns-clause-refused : goal.returns-clause-refused
returns-clause-refused c =
    compile_breach c.args.text.now c.image_of_text.result c.in_ok-typed.ensures.ok c.image_of_text.ensures.refused

pub returns-clause-stands : goal.returns-clause-stands
returns-clause-stands c form = c.image_of_text.ensures.stands c.args.name.now form
