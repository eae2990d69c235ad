use Rattle.std.proofs.Common.{◌≡◌, ◌∙◌, ◌+◌, ◌-◌, suc, sym, ap, subst, arith, refl}
use Rattle.rv_model.specs.Run.{machine_of, Reaches}
use Rattle.std.proofs.lemmas.Option.{slice_get_within}
use Rattle.rv_model.specs.Serial as serial
use Rattle.rv_model.proofs.InTurns.{turn_reaches}
use Rattle.serial_runner.specs.declared.turns.Course.{Course}
use Rattle.serial_runner.specs.declared.turns.Course.TheVariants.{Went, Still, Faulted}
use Rattle.serial_runner.specs.Courses.{is_over}
use Rattle.serial_runner.specs.Turns.{total}
use Rattle.serial_runner.proofs.Rests.{turns_next, turns_none, turns_over, still_below, kept_below, at_rest, count_seen}
use Rattle.serial_runner.proofs.turns.take_round.Goals.{in-Went, in-Still}
use Rattle.serial_runner.proofs.turns.take_round.Goals as goal

pub returns-in-Over-clause-round : goal.returns-in-Over-clause-round
returns-in-Over-clause-round c other =
    let image = c.args.image.now in
    let k = c.loop-number.number in
    let before = machine_of c.loop-number.harts c.loop-number.memory.words.items in
    let after = machine_of c.take_turn.new.harts c.take_turn.new.memory.words.items in
    let count = c.args.turns.count in
    let harts = c.requires.ready.count in
    let left = image.settings.domains - (k + 1) in
    let e : image.settings.domains - k ≡ suc left = omega (arith, c.loop-number-test.true, harts) in
    sym (turns_over image count (suc k) left after (c.in-Over.ensures.over))
    ∙ sym (turns_next image count k left before after c.take_turn.ensures.turn)
    ∙ ap (λ m. serial.turns_from image count k m before) (sym e)
    ∙ c.loop-number.invariant.2

pub returns-in-Over-clause-reaches : goal.returns-in-Over-clause-reaches
returns-in-Over-clause-reaches c from =
    subst (Reaches c.args.image.now) (sym c.take_turn.ensures.turn) (turn_reaches c.args.image.now c.args.turns.count c.loop-number.number _ (c.loop-number.invariant.1 from))

pub returns-in-Faulted-clause-reaches : goal.returns-in-Faulted-clause-reaches
returns-in-Faulted-clause-reaches c from =
    subst (Reaches c.args.image.now) (sym c.take_turn.ensures.turn) (turn_reaches c.args.image.now c.args.turns.count c.loop-number.number _ (c.loop-number.invariant.1 from))

pub returns-in-Faulted-clause-fault : goal.returns-in-Faulted-clause-fault
returns-in-Faulted-clause-fault c is = (c.loop-number.number, c.in-Faulted.ensures.fault refl)

apart : Went ≡ Faulted → ⊥
apart e = cc

pub loop-number-preserved : goal.loop-number-preserved
loop-number-preserved c =
    let image = c.args.image.now in
    let k = c.loop-number.number in
    let before = machine_of c.loop-number.harts c.loop-number.memory.words.items in
    let after = machine_of c.take_turn.new.harts c.take_turn.new.memory.words.items in
    let count = c.args.turns.count in
    let harts = c.requires.ready.count in
    let left = image.settings.domains - (k + 1) in
    let e : image.settings.domains - k ≡ suc left = omega (arith, c.loop-number-test.true, harts) in
    let up : k + 1 ≡ suc k = omega arith in
    let start = total c.args.harts.now in
    let earlier = total c.loop-number.harts in
    let later = total c.take_turn.new.harts in
    let so_far = c.loop-number.invariant.3 in
    let more = c.take_turn.ensures.total in (
      c.take_turn.ensures.ready,
      λ from. subst (Reaches image) (sym c.take_turn.ensures.turn) (turn_reaches image count k before (c.loop-number.invariant.1 from)),
      ap (λ j. serial.turns_from image count j left after) up
          ∙ sym (turns_next image count k left before after c.take_turn.ensures.turn)
          ∙ ap (λ m. serial.turns_from image count k m before) (sym e)
          ∙ c.loop-number.invariant.2,
      omega (arith, so_far, more),
      elim c.match-take_turn.branch [
        | in-Went w ↦ λ is. let one = w.in-Went.ensures.more refl in omega (arith, so_far, one)
        | in-Still w ↦ λ is. let one = c.loop-number.invariant.4 (sym w.round-is ∙ is) in omega (arith, more, one)
      ],
      elim c.match-take_turn.branch [
        | in-Went w ↦ w.in-Went.ensures.over
        | in-Still w ↦ w.in-Still.ensures.over
      ],
      elim c.match-take_turn.branch [
        | in-Went w ↦ ap is_over w.round-is
        | in-Still w ↦ ap is_over w.round-is ∙ c.loop-number.invariant.6
      ],
      elim c.match-take_turn.branch [
        | in-Went w ↦ λ is. apart (sym w.round-is ∙ is)
        | in-Still w ↦ λ is. c.loop-number.invariant.7 (sym w.round-is ∙ is)
      ],
      elim c.match-take_turn.branch [
        | in-Went w ↦ λ other. absurd (other w.round-is)
        | in-Still w ↦ λ other. still_below image k before after (w.in-Still.ensures.stays refl) (c.loop-number.invariant.8 (λ e. other (w.round-is ∙ e)))
      ],
      elim c.match-take_turn.branch [
        | in-Went w ↦ λ other. absurd (other w.round-is)
        | in-Still w ↦ λ other. kept_below image k before after (w.in-Still.ensures.stays refl).same (w.in-Still.ensures.no_fault refl) (c.loop-number.invariant.9 (λ e. other (w.round-is ∙ e)))
      ],
    )

pub returns-clause-round : goal.returns-clause-round
returns-clause-round c other =
    let image = c.args.image.now in
    let now = machine_of c.loop-number.harts c.loop-number.memory.words.items in
    let harts = c.requires.ready.count in
    let e : image.settings.domains - c.loop-number.number ≡ 0 = omega (arith, c.loop-number-test.false, harts) in
    sym (turns_none image c.args.turns.count c.loop-number.number now)
    ∙ ap (λ m. serial.turns_from image c.args.turns.count c.loop-number.number m now) (sym e)
    ∙ c.loop-number.invariant.2

pub returns-clause-reaches : goal.returns-clause-reaches
returns-clause-reaches c = c.loop-number.invariant.1

pub returns-clause-rest : goal.returns-clause-rest
returns-clause-rest c other kept =
    let image = c.args.image.now in
    let now = machine_of c.loop-number.harts c.loop-number.memory.words.items in
    let harts = c.requires.ready.count in
    at_rest image now image.settings.domains (count_seen c.loop-number.harts ∙ c.loop-number.invariant.0.count)
    (λ i lt. c.loop-number.invariant.8 other i (omega (arith, lt, c.loop-number-test.false, harts)))

pub returns-clause-fault : goal.returns-clause-fault
returns-clause-fault c is = absurd (c.loop-number.invariant.7 is)

still_is : (x : Course) → x ≡ Still → x ≡ Went → ⊥
still_is x a b = cc

pub returns-clause-no_fault : goal.returns-clause-no_fault
returns-clause-no_fault c is i has =
    let image = c.args.image.now in
    let harts = c.requires.ready.count in
    let lt = slice_get_within (machine_of c.loop-number.harts c.loop-number.memory.words.items).harts i has.0 has.1 in
    let count = count_seen c.loop-number.harts ∙ c.loop-number.invariant.0.count in
    c.loop-number.invariant.9 (still_is c.loop-number.round is) i (omega (arith, lt, count, c.loop-number-test.false, harts)) has
