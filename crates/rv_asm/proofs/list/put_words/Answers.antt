use Rattle.std.proofs.Common.{◌∙◌, arith}
use Rattle.std.proofs.lemmas.Option.{slice_get-get_or}
use Rattle.rv_model.specs.declared.image.StartWord.{StartWord}
use Rattle.rv_asm.specs.Listing.{word_lines}
use Rattle.rv_asm.proofs.Printing.{words_none, words_more, before_all}
use Rattle.rv_asm.proofs.list.put_words.Goals as goal

pub loop-word-init : goal.loop-word-init
loop-word-init c = before_all c.args.text.now.items (word_lines _) words_none

pub loop-word-preserved : goal.loop-word-preserved
loop-word-preserved c =
    let d : StartWord = record { at = 0; value = 0 } in
    let at = slice_get-get_or c.args.words.now c.loop-word.word-index d (omega arith) in
    c.in_ok-put_word_line.ensures ∙ words_more c.args.words.now c.loop-word.text.items c.args.text.now.items c.loop-word.word-index _ at c.loop-word.invariant
