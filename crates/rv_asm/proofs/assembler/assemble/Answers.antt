use Rattle.std.proofs.Common.{◌≡◌, ◌∙◌, length, subst, sym, ap, arith}
use Rattle.std.proofs.lemmas.List.{get_or_read, take_all}
use Rattle.rv_model.specs.Table.{AreWellFormed}
use Rattle.rv_asm.specs.Layout.{count_from, count_of, place_of}
use Rattle.rv_asm.specs.Found.{layout_of}
use Rattle.rv_asm.proofs.Emitting.{code-length}
use Rattle.rv_asm.proofs.Forming.{code_formed}
use Rattle.rv_asm.proofs.assembler.assemble.Goals as goal

pub new-requires-clause-short : goal.new-requires-clause-short
new-requires-clause-short c =
    let lines = c.args.lines.now in
    let settled = c.in_ok-settled.ensures in
    let long = layout_of c.in_ok-settled.settled.long.items in
    let count : c.index-count.result.now ≡ count_of long lines =
    get_or_read c.in_ok-settled.settled.starts.items (length lines) _ (omega (arith, settled.room)) c.index-count.ensures 0 ∙ settled.are_starts (length lines) (omega arith)
    ∙ ap (count_from long 0) (take_all (length lines) lines (omega arith)) in
    omega (arith, ap length c.in_ok-code.ensures, code-length (place_of long lines) long 0 0 lines, count)

pub new-requires-clause-well_formed : goal.new-requires-clause-well_formed
new-requires-clause-well_formed c =
    let lines = c.args.lines.now in
    let settled = c.in_ok-settled.ensures in
    let long = layout_of c.in_ok-settled.settled.long.items in
    let count : c.index-count.result.now ≡ count_of long lines =
    get_or_read c.in_ok-settled.settled.starts.items (length lines) _ (omega (arith, settled.room)) c.index-count.ensures 0 ∙ settled.are_starts (length lines) (omega arith)
    ∙ ap (count_from long 0) (take_all (length lines) lines (omega arith)) in
    subst AreWellFormed (sym c.in_ok-code.ensures) (code_formed lines long c.requires settled.least.fits (omega (arith, count)))
