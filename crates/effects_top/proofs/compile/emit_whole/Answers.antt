use Rattle.std.proofs.Common.{[]}
use Rattle.effects_top.specs.Compiled.{entry_code, expression_code, print_code, whole_code}
use Rattle.effects_top.proofs.Emitted.{three_parts}
use Rattle.effects_top.proofs.compile.emit_whole.Goals as goal

pub returns : goal.returns
unfolding whole_code
returns c = three_parts [] (entry_code _) (expression_code c.args.postfix.now) print_code _ _ _ (rw (c.new-lines.ensures.items, c.stack_word.ensures) at c.in_ok-emit_entry.ensures) c.in_ok-emit_expression.ensures c.in_ok-emit_print.ensures
