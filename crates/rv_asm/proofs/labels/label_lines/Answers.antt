use Rattle.std.proofs.Common.{◌∙◌, length, ap, sym, arith}
use Rattle.std.specs.Prelude.{unwrap_or}
use Rattle.std.proofs.lemmas.Grind.{common_steps}
use Rattle.std.proofs.lemmas.List.{take_all}
use Rattle.std.proofs.lemmas.Option.{slice_get-get_or}
use Rattle.rv_model.specs.declared.line.Line.TheVariants.{Label}
use Rattle.std.specs.Ordering.{nat_cmp}
use Rattle.std.specs.BTreeMap.{get}
use Rattle.rv_asm.proofs.Looking.{found_in, found_label, found_other, found_all}
use Rattle.rv_asm.proofs.labels.label_lines.Goals as goal
use Rattle.rv_asm.proofs.labels.label_lines.Goals.{in-Label+in_ok-numbers, in_default}

pub loop-k-preserved : goal.loop-k-preserved
loop-k-preserved c = λ q.
    let i = c.loop-k.invariant q in
    let at = slice_get-get_or c.args.lines.now c.loop-k.k (Label 0) (omega arith) in
    elim c.match-line.branch [
      | in-Label+in_ok-numbers w ↦ let e = found_label c.args.lines.now q c.loop-k.k w.in-Label.label _ at w.in-Label.is in grind (arith, common_steps)
      | in_default w ↦ ap (λ m. get nat_cmp m q) w.numbers-is ∙ i ∙ sym (found_other c.args.lines.now q c.loop-k.k _ at w.in_default.not-Label)
    ]

pub returns : goal.returns
returns c = λ q.
    ap (λ o. unwrap_or o (length c.args.lines.now)) (c.loop-k.invariant q ∙ ap (λ l. found_in l q) (take_all c.loop-k.k c.args.lines.now (omega arith)))
    ∙ found_all c.args.lines.now q
