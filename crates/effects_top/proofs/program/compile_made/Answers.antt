use Rattle.std.proofs.Common.{◌≤◌, length, ◌∙◌, sym, subst}
use Rattle.effects_top.proofs.MadeShort.{made_short}
use Rattle.effects_top.proofs.program.compile_made.Goals as goal

pub compile_text-requires : goal.compile_text-requires
compile_text-requires c = subst (λ l. length l ≤ 16777216) (sym (c.deref.ensures.value ∙ c.in_ok-text.ensures.text)) (made_short c.args.number.count c.args.number.in_range.1)
