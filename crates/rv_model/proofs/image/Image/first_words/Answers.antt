use Rattle.std.proofs.Common.{◌≡◌, ◌<◌, length, get_or, sym, ap, ◌∙◌, subst, arith, rules, length-set}
use Rattle.std.proofs.lemmas.List.{take_all}
use Rattle.std.proofs.lemmas.Option.{slice_get-get_or}
use Rattle.rv_model.specs.declared.image.StartWord.{StartWord}
use Rattle.rv_model.specs.Start.{start_words, AreRising, AreBelow}
use Rattle.rv_model.specs.Machine.{words_of, set_word}
use Rattle.rv_model.proofs.Lists.{set_words}
use Rattle.rv_model.proofs.Starting.{words_of-replicate, start_words-take}
use Rattle.rv_model.proofs.image.Image.first_words.Goals as goal

-- no start word so far
pub loop-word-init : goal.loop-word-init
loop-word-init c = (search rules, ap words_of (c.in_ok-words.ensures.items_if_clones_equal (λ y e. e)) ∙ words_of-replicate c.args.self.now.size)

-- one more start word
pub loop-word-preserved : goal.loop-word-preserved
loop-word-preserved c =
    let start = c.as_slice-word-items.result.now in
    let same : start ≡ c.args.self.now.start = c.as_slice-word-items.ensures in
    let rising : AreRising start = subst AreRising (sym same) c.args.self.now.rising in
    let below : AreBelow c.args.self.now.size start = subst (AreBelow c.args.self.now.size) (sym same) c.args.self.now.below in
    let none : StartWord = record { at = 0; value = 0 } in
    let word = get_or start c.loop-word.word-index none in
    let within : word.at < c.args.self.now.size = below c.loop-word.word-index word (slice_get-get_or start c.loop-word.word-index none c.loop-word-test.true) in
    let inside : word.at < length c.loop-word.words.items = omega (arith, within, c.loop-word.invariant.0) in (
      length-set _ _ _ ∙ c.loop-word.invariant.0,
      set_words c.loop-word.words.items word.at word.value inside ∙ ap (λ w. set_word w word.at word.value) c.loop-word.invariant.1 ∙ sym (start_words-take start rising c.loop-word.word-index none c.loop-word-test.true),
    )

-- all start words
pub returns-clause-words : goal.returns-clause-words
returns-clause-words c = c.loop-word.invariant.1 ∙ ap start_words (take_all c.loop-word.word-index _ c.loop-word-test.false ∙ c.as_slice-word-items.ensures)
