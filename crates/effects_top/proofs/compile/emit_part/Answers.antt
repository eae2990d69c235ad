use Rattle.effects_top.proofs.compile.emit_part.Goals as goal

pub returns-in-Literal : goal.returns-in-Literal
returns-in-Literal c = rw c.in-Literal.is c.emit_literal.ensures
