use Rattle.effects_top.specs.Compiled.{start_code, constant_code, set_stack_code, entry_code}
use Rattle.effects_top.proofs.Emitted.{three_parts}
use Rattle.effects_top.proofs.compile.emit_entry.Goals as goal

pub returns : goal.returns
unfolding entry_code
returns c = three_parts c.args.lines.now.items start_code (constant_code c.args.stack) set_stack_code _ _ _ c.in_ok-put_all.ensures c.in_ok-emit_constant.ensures c.in_ok-put_all-2.ensures
