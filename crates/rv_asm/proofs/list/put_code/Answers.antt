use Rattle.std.proofs.Common.{◌∙◌, pos, arith}
use Rattle.std.proofs.lemmas.Option.{slice_get-get_or}
use Rattle.rv_model.specs.declared.instr.Op.TheVariants.{Add}
use Rattle.rv_model.specs.Format.{plain}
use Rattle.rv_model.proofs.WellFormed.{well_formed_at}
use Rattle.rv_asm.specs.Listing.{code_lines}
use Rattle.rv_asm.proofs.Printing.{code_none, code_more, before_all}
use Rattle.rv_asm.proofs.list.put_code.Goals as goal

pub loop-k-init : goal.loop-k-init
loop-k-init c = before_all c.args.text.now.items (code_lines 0 _) (code_none 0)

pub put_code_line-requires : goal.put_code_line-requires
put_code_line-requires c = well_formed_at c.args.instrs.now c.requires.well_formed c.loop-k.k _ (slice_get-get_or c.args.instrs.now c.loop-k.k (plain Add 0 0 0 (pos 0)) (omega arith))

pub loop-k-preserved : goal.loop-k-preserved
loop-k-preserved c =
    let at = slice_get-get_or c.args.instrs.now c.loop-k.k (plain Add 0 0 0 (pos 0)) (omega arith) in
    c.in_ok-put_code_line.ensures ∙ code_more c.args.instrs.now c.loop-k.text.items c.args.text.now.items c.loop-k.k _ at c.loop-k.invariant
