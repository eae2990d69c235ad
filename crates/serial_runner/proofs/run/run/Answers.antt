use Rattle.std.proofs.Common.{◌≡◌, ◌≤◌, ◌∙◌, length, inl, inr, sym, subst, false, rules, arith}
use Rattle.std.specs.Prelude.{IsTrue}
use Rattle.rv_model.specs.Machine.{words_of}
use Rattle.rv_model.specs.Layout.{IsSound}
use Rattle.rv_model.specs.Run.{Reach}
use Rattle.rv_model.specs.Serial.{Serial}
use Rattle.serial_runner.specs.Ending.{IsFaulted, IsBroken}
use Rattle.serial_runner.proofs.Faults.{broken_reported, kept_reported}
use Rattle.serial_runner.proofs.Opening.{front, ready_first, same_at}
use Rattle.serial_runner.proofs.run.run.Goals.{then-faulted-via-then-faulted, then-faulted-via-else-faulted+then-not-is_sound}
use Rattle.serial_runner.proofs.run.run.Goals as goal

pub take_rounds-faulted-requires-clause-ready : goal.take_rounds-faulted-requires-clause-ready
take_rounds-faulted-requires-clause-ready c = ready_first c.args.image.now c.deref_mut.result.now c.new-memory.result.words.items (search rules) (search rules)

pub finished-requires-clause-few : goal.finished-requires-clause-few
finished-requires-clause-few c =
    let ready = ready_first c.args.image.now c.deref_mut.result.now c.new-memory.result.words.items (search rules) (search rules) in
    let count : length c.take_rounds-faulted.new.harts ≡ c.args.harts.len = c.take_rounds-faulted.ensures.ready.count ∙ sym ready.count ∙ c.deref_mut.ensures.len in
    let most = c.args.image.now.settings.domains_in_range.1 in
    let few : length c.take_rounds-faulted.new.harts ≤ 8 = let is = c.take_rounds-faulted.ensures.ready.count in omega (arith, is, most) in
    subst (λ l. length l ≤ 8) (sym (front c.take_rounds-faulted.new.harts _ c.args.harts.len count)) few

pub finished-requires-clause-sound : goal.finished-requires-clause-sound
finished-requires-clause-sound c =
    subst (λ ws. IsSound c.args.image.now.settings.out (words_of ws)) c.deref.ensures.value (c.is_sound.ensures.0 c.if-not-is_sound.false)

apart : IsTrue false → ⊥
apart e = cc

pub returns-then-faulted : goal.returns-then-faulted
returns-then-faulted c =
    let image = c.args.image.now in
    let ready = ready_first image c.deref_mut.result.now c.new-memory.result.words.items (search rules) (search rules) in
    let count : length c.take_rounds-faulted.new.harts ≡ c.args.harts.len = c.take_rounds-faulted.ensures.ready.count ∙ sym ready.count ∙ c.deref_mut.ensures.len in
    let harts = c.broken.ensures.harts ∙ front c.take_rounds-faulted.new.harts _ c.args.harts.len count in
    let words = c.broken.ensures.words ∙ c.into_words-words.ensures in
    let reach : Reach image c.take_rounds-faulted.new.memory.words.items c.take_rounds-faulted.new.harts = (c.take_rounds-faulted.ensures.ready.size, c.take_rounds-faulted.ensures.reach) in
    let broken : IsBroken image c.take_rounds-faulted.new.memory.words.items c.take_rounds-faulted.new.harts = elim c.then-faulted.branch [
      | then-faulted-via-then-faulted w ↦ inr (inr (c.take_rounds-faulted.ensures.faulted.0 w.if-faulted.true))
      | then-faulted-via-else-faulted+then-not-is_sound w ↦ inr (inl (λ sound. apart (sym w.if-not-is_sound.true ∙ w.is_sound.ensures.1 (subst (λ ws. IsSound image.settings.out (words_of ws)) (sym (w.deref.ensures.value ∙ c.into_words-words.ensures)) sound))))
    ] in
    broken_reported image c.args.turns.count c.broken.result
    (same_at (Reach image) _ _ _ _ reach words harts)
    (same_at (IsBroken image) _ _ _ _ broken words harts)
    c.broken.ensures.end
    c.broken.ensures.printed

pub returns : goal.returns
returns c =
    let image = c.args.image.now in
    let ready = ready_first image c.deref_mut.result.now c.new-memory.result.words.items (search rules) (search rules) in
    let count : length c.take_rounds-faulted.new.harts ≡ c.args.harts.len = c.take_rounds-faulted.ensures.ready.count ∙ sym ready.count ∙ c.deref_mut.ensures.len in
    let harts = c.finished.ensures.harts ∙ front c.take_rounds-faulted.new.harts _ c.args.harts.len count in
    let words = c.finished.ensures.words ∙ c.into_words-words.ensures in
    let reach : Reach image c.take_rounds-faulted.new.memory.words.items c.take_rounds-faulted.new.harts = (c.take_rounds-faulted.ensures.ready.size, c.take_rounds-faulted.ensures.reach) in
    let sound : IsSound image.settings.out (words_of c.into_words-words.result.items) = subst (λ ws. IsSound image.settings.out (words_of ws)) c.deref.ensures.value (c.is_sound.ensures.0 c.if-not-is_sound.false) in
    kept_reported image c.args.turns.count c.finished.result
    (same_at (Reach image) _ _ _ _ reach words harts)
    (same_at (Serial image c.args.turns.count) _ _ _ _ (c.take_rounds-faulted.ensures.serial c.if-faulted.false) words harts)
    c.requires.room
    (subst (λ ws. IsSound image.settings.out (words_of ws)) (sym c.finished.ensures.words) sound)
    (λ f. apart (sym c.if-faulted.false ∙ c.take_rounds-faulted.ensures.faulted.1 (same_at (IsFaulted image) _ _ _ _ f (sym words) (sym harts))))
    (search rules)
    (search rules)
