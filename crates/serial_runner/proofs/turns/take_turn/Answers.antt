use Rattle.std.proofs.Common.{◌≡◌, ◌∙◌, ◌+◌, ◌-◌, ◌<◌, ◌≤◌, ◌||◌, true, suc, length, sym, ap, subst, arith, refl}
use Rattle.std.specs.Prelude.{◌==◌, slice_index_or}
use Rattle.std.proofs.lemmas.Bool.{eq-eqb, ne_eqb}
use Rattle.rv_model.specs.Run.{machine_of}
use Rattle.rv_model.specs.Serial as serial
use Rattle.serial_runner.specs.Turns.{IsStill, HasFault, is_went, total, retired_at}
use Rattle.rv_model.specs.Word.{bit}
use Rattle.serial_runner.specs.declared.turns.Course.{Course}
use Rattle.serial_runner.specs.declared.turns.Course.TheVariants.{Still, Faulted}
use Rattle.serial_runner.proofs.Counts.{hart_there, within_there, before_end, within_turn, at_end}
use Rattle.serial_runner.proofs.Rests.{turn_step, turn_over, turn_still, turn_none}
use Rattle.serial_runner.proofs.turns.take_turn.Goals.{After-cut_short}
use Rattle.serial_runner.proofs.turns.take_turn.Goals as goal

pub advance-turn-requires-clause-running : goal.advance-turn-requires-clause-running
advance-turn-requires-clause-running c =
    let image = c.args.image.now in
    let i = c.args.number in
    c.loop-done.invariant.3
    ∙ before_end image.settings.budget c.args.turns.count (slice_index_or c.args.harts.now i c.index-harts-number.result).retired (retired_at i c.loop-done.harts) (retired_at i c.args.harts.now) c.loop-done.done c.min-done-end.result
    (sym (hart_there c.args.harts.now i c.index-harts-number.result c.requires.number))
    (within_there image c.args.harts.now c.args.memory.now.words.items i c.index-harts-number.result c.requires.ready c.requires.number)
    c.min-done-end.ensures
    c.loop-done.invariant.2
    c.loop-done-test.true

-- the hart has no step
rests : (c : After-cut_short) → IsStill c.args.image.now c.args.number (machine_of c.loop-done.harts c.loop-done.memory.words.items) (machine_of c.advance-turn.new.harts c.advance-turn.new.memory.words.items)
rests c = c.advance-turn.ensures.stays (sym c.is_went.ensures ∙ c.if-not-is_went.true)

pub returns-then-not-is_went-clause-turn : goal.returns-then-not-is_went-clause-turn
returns-then-not-is_went-clause-turn c =
    let image = c.args.image.now in
    let before = machine_of c.loop-done.harts c.loop-done.memory.words.items in
    let still = rests c in
    still.same ∙ sym (turn_still image (c.args.turns.count - c.loop-done.done) c.args.number before still.none) ∙ c.loop-done.invariant.1

pub returns-then-not-is_went-clause-over : goal.returns-then-not-is_went-clause-over
returns-then-not-is_went-clause-over c = ap (serial.is_over c.args.image.now) (rests c).same ∙ (rests c).running ∙ sym c.cut_short.ensures.over

pub returns-then-not-is_went-clause-stays : goal.returns-then-not-is_went-clause-stays
returns-then-not-is_went-clause-stays c f =
    subst (λ s. IsStill c.args.image.now c.args.number s (machine_of c.advance-turn.new.harts c.advance-turn.new.memory.words.items)) (c.loop-done.invariant.5 (c.cut_short.ensures.still f)) (rests c)

pub returns-then-not-is_went-clause-fault : goal.returns-then-not-is_went-clause-fault
returns-then-not-is_went-clause-fault c f = subst (HasFault c.args.image.now c.args.number) (sym (rests c).same) (c.advance-turn.ensures.fault.0 (c.cut_short.ensures.faulted.0 f))

pub returns-then-not-is_went-clause-no_fault : goal.returns-then-not-is_went-clause-no_fault
returns-then-not-is_went-clause-no_fault c f has =
    differ c.cut_short.result f (c.cut_short.ensures.faulted.1 (c.advance-turn.ensures.fault.1 (subst (HasFault c.args.image.now c.args.number) (rests c).same has)))
  where
    differ : (x : Course) → x ≡ Still → x ≡ Faulted → ⊥
    differ x a b = cc

pub returns-then-is_ended-clause-turn : goal.returns-then-is_ended-clause-turn
returns-then-is_ended-clause-turn c =
    let image = c.args.image.now in
    let i = c.args.number in
    let before = machine_of c.loop-done.harts c.loop-done.memory.words.items in
    let after = machine_of c.advance-turn.new.harts c.advance-turn.new.memory.words.items in
    let left = c.args.turns.count - (c.loop-done.done + 1) in
    let lt = within_turn image.settings.budget c.args.turns.count (slice_index_or c.args.harts.now i c.index-harts-number.result).retired c.loop-done.done c.min-done-end.result c.min-done-end.ensures c.loop-done-test.true in
    let e : c.args.turns.count - c.loop-done.done ≡ suc left = omega (arith, lt) in
    let over : serial.is_over image after ≡ true =
    c.advance-turn.ensures.over
    ∙ ap (λ b. b || (retired_at i c.advance-turn.new.harts == image.settings.budget)) (sym c.is_ended.ensures ∙ c.if-is_ended.true) in
    sym (turn_over image left i after over)
    ∙ sym (turn_step image left i before after (c.advance-turn.ensures.went (sym c.is_went.ensures ∙ c.if-not-is_went.false)))
    ∙ ap (λ m. serial.turn image m i before) (sym e)
    ∙ c.loop-done.invariant.1

pub loop-done-preserved : goal.loop-done-preserved
loop-done-preserved c =
    let image = c.args.image.now in
    let i = c.args.number in
    let before = machine_of c.loop-done.harts c.loop-done.memory.words.items in
    let after = machine_of c.advance-turn.new.harts c.advance-turn.new.memory.words.items in
    let left = c.args.turns.count - (c.loop-done.done + 1) in
    let lt = within_turn image.settings.budget c.args.turns.count (slice_index_or c.args.harts.now i c.index-harts-number.result).retired c.loop-done.done c.min-done-end.result c.min-done-end.ensures c.loop-done-test.true in
    let e : c.args.turns.count - c.loop-done.done ≡ suc left = omega (arith, lt) in
    let went : is_went c.advance-turn.result ≡ true = sym c.is_went.ensures ∙ c.if-not-is_went.false in
    let one : total c.loop-done.harts + 1 ≤ total c.advance-turn.new.harts = subst (λ b. total c.loop-done.harts + bit b ≤ total c.advance-turn.new.harts) went c.advance-turn.ensures.total in
    let all = c.loop-done.invariant.4 in
    let more : retired_at i c.advance-turn.new.harts ≡ retired_at i c.loop-done.harts + 1 = c.advance-turn.ensures.count ∙ ap (λ b. retired_at i c.loop-done.harts + bit b) went in
    let count = c.loop-done.invariant.2 in (
      c.advance-turn.ensures.ready,
      sym (turn_step image left i before after (c.advance-turn.ensures.went (sym c.is_went.ensures ∙ c.if-not-is_went.false))) ∙ ap (λ m. serial.turn image m i before) (sym e) ∙ c.loop-done.invariant.1,
      omega (arith, more, count),
      c.advance-turn.ensures.over ∙ ap (λ b. b || (retired_at i c.advance-turn.new.harts == image.settings.budget)) (sym c.is_ended.ensures ∙ c.if-is_ended.false),
      omega (arith, one, all),
      λ f. absurd (omega (arith, f)),
    )

pub returns-then-harts-number-clause-over : goal.returns-then-harts-number-clause-over
returns-then-harts-number-clause-over c =
    let i = c.args.number in
    let hs = c.loop-done.harts in
    let budget = c.args.image.now.settings.budget in
    c.loop-done.invariant.3 ∙ ap (λ n. n == budget) (hart_there hs i c.index-harts-number-2.result (subst (λ n. i < n) (sym c.loop-done.auto.harts) c.requires.number) ∙ c.if-harts-number.true) ∙ eq-eqb budget budget refl

pub returns-then-harts-number-clause-turn : goal.returns-then-harts-number-clause-turn
returns-then-harts-number-clause-turn c =
    let image = c.args.image.now in
    let now = machine_of c.loop-done.harts c.loop-done.memory.words.items in
    sym (turn_over image (c.args.turns.count - c.loop-done.done) c.args.number now (returns-then-harts-number-clause-over c)) ∙ c.loop-done.invariant.1

-- the turn has had all its instructions
whole : (c : goal.Else-harts-number) → c.args.turns.count ≤ c.loop-done.done
whole c =
    let i = c.args.number in
    let hs = c.loop-done.harts in
    let image = c.args.image.now in
    let lt : i < length hs = subst (λ n. i < n) (sym c.loop-done.auto.harts) c.requires.number in
    let there = hart_there hs i c.index-harts-number-2.result lt in
    let past = c.loop-done-test.false in
    at_end image.settings.budget c.args.turns.count (slice_index_or c.args.harts.now i c.index-harts-number.result).retired (retired_at i hs) (retired_at i c.args.harts.now) c.loop-done.done c.min-done-end.result
    (sym (hart_there c.args.harts.now i c.index-harts-number.result c.requires.number))
    (within_there image hs c.loop-done.memory.words.items i c.index-harts-number-2.result c.loop-done.invariant.0 lt)
    c.min-done-end.ensures
    c.loop-done.invariant.2
    (omega (arith, past))
    (λ e. c.if-harts-number.false (sym there ∙ e))

pub returns-else-harts-number-clause-turn : goal.returns-else-harts-number-clause-turn
returns-else-harts-number-clause-turn c =
    let image = c.args.image.now in
    let now = machine_of c.loop-done.harts c.loop-done.memory.words.items in
    let most = whole c in
    let e : c.args.turns.count - c.loop-done.done ≡ 0 = omega (arith, most) in
    sym (turn_none image c.args.number now) ∙ ap (λ m. serial.turn image m c.args.number now) (sym e) ∙ c.loop-done.invariant.1

pub returns-else-harts-number-clause-over : goal.returns-else-harts-number-clause-over
returns-else-harts-number-clause-over c =
    let i = c.args.number in
    let there = hart_there c.loop-done.harts i c.index-harts-number-2.result (subst (λ n. i < n) (sym c.loop-done.auto.harts) c.requires.number) in
    c.loop-done.invariant.3 ∙ ne_eqb _ _ (λ e. c.if-harts-number.false (sym there ∙ e))

pub returns-then-not-is_went-clause-total : goal.returns-then-not-is_went-clause-total
returns-then-not-is_went-clause-total c = let all = c.loop-done.invariant.4 in let more = c.advance-turn.ensures.total in omega (arith, all, more)

pub returns-then-not-is_went-clause-more : goal.returns-then-not-is_went-clause-more
returns-then-not-is_went-clause-more c f = let all = c.loop-done.invariant.4 in let some = c.cut_short.ensures.went f in let more = c.advance-turn.ensures.total in omega (arith, all, some, more)

pub returns-else-harts-number-clause-more : goal.returns-else-harts-number-clause-more
returns-else-harts-number-clause-more c is =
    let most = whole c in
    let some = c.args.turns.in_range.0 in
    let all = c.loop-done.invariant.4 in
    omega (arith, most, some, all)
