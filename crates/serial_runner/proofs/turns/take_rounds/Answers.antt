use Rattle.std.proofs.Common.{◌≡◌, ◌≢◌, ◌∙◌, ◌-◌, ◌*◌, ◌<◌, ◌≤◌, ◌⊎◌, false, suc, inl, inr, refl, sym, ap, subst, arith}
use Rattle.std.specs.Prelude.{IsTrue}
use Rattle.rv_model.specs.Run.{machine_of, first, Reaches}
use Rattle.rv_model.specs.Serial as serial
use Rattle.rv_model.proofs.InTurns.{first_reaches}
use Rattle.serial_runner.specs.declared.turns.Course.{Course}
use Rattle.serial_runner.specs.Courses.{is_over}
use Rattle.serial_runner.specs.Ending.{IsFaulted}
use Rattle.serial_runner.specs.declared.turns.Course.TheVariants.{Went, Still, Over, Faulted}
use Rattle.serial_runner.specs.Turns.{total}
use Rattle.serial_runner.proofs.Counts.{total_within}
use Rattle.serial_runner.proofs.Faults.{faulted, over_kept, still_kept}
use Rattle.serial_runner.proofs.Rests.{rounds_none, rounds_more}
use Rattle.serial_runner.proofs.turns.take_rounds.Goals as goal

apart : IsTrue false → ⊥
apart e = cc

pub returns-then-is_over-clause-reach : goal.returns-then-is_over-clause-reach
returns-then-is_over-clause-reach c = subst (Reaches c.args.image.now) (sym c.requires.start) (first_reaches c.args.image.now)

pub returns-then-is_over-clause-serial : goal.returns-then-is_over-clause-serial
returns-then-is_over-clause-serial c f = (
  c.requires.ready.size,
  0,
  rounds_none c.args.image.now c.args.turns.count (first c.args.image.now) ∙ sym c.requires.start,
  inl (sym c.is_over.ensures ∙ c.if-is_over.true),
)

pub returns-then-is_over-clause-faulted : goal.returns-then-is_over-clause-faulted
returns-then-is_over-clause-faulted c = (λ t. absurd (apart t), λ f. absurd (over_kept c.args.image.now c.args.memory.now.words.items c.args.harts.now (sym c.is_over.ensures ∙ c.if-is_over.true) f))

pub rounds-init : goal.rounds-init
rounds-init c = (
  c.requires.ready,
  subst (Reaches c.args.image.now) (sym c.requires.start) (first_reaches c.args.image.now),
  sym c.is_over.ensures ∙ c.if-is_over.false,
  0,
  rounds_none c.args.image.now c.args.turns.count (first c.args.image.now) ∙ sym c.requires.start,
)

pub rounds-smaller : goal.rounds-smaller
rounds-smaller c =
    let image = c.args.image.now in
    let ready = c.take_round.ensures.ready in
    let most = subst (λ n. total c.take_round.new.harts ≤ n * image.settings.budget) ready.count (total_within image.settings.budget c.take_round.new.harts ready.within) in
    let one = c.in-Went.ensures.more refl in
    let less : image.settings.domains * image.settings.budget - total c.take_round.new.harts < image.settings.domains * image.settings.budget - total c.rounds.harts = omega (arith, most, one) in
    less

pub rounds-preserved : goal.rounds-preserved
rounds-preserved c =
    let image = c.args.image.now in
    let count = c.args.turns.count in
    let n = c.rounds.invariant.3 in
    let after = machine_of c.take_round.new.harts c.take_round.new.memory.words.items in (
      c.take_round.ensures.ready,
      c.take_round.ensures.reaches c.rounds.invariant.1,
      c.in-Went.ensures.over,
      suc n,
      rounds_more image count n (first image) after (c.in-Went.ensures.round (λ e. differ e) ∙ ap (serial.turns_from image count 0 image.settings.domains) (sym c.rounds.invariant.4)),
    )
  where
    differ : Went ≡ Faulted → ⊥
    differ e = cc

-- a round after which no other follows, and in which no hart was at fault
quiet : (course : Course) → (course ≡ Still) ⊎ (course ≡ Over) → (course ≢ Went) × (course ≢ Faulted)
quiet course (inl still) = (λ e. cc, λ e. cc)
quiet course (inr over) = (λ e. cc, λ e. cc)

pub returns-in-Still-clause-serial : goal.returns-in-Still-clause-serial
returns-in-Still-clause-serial c f =
    let image = c.args.image.now in
    let count = c.args.turns.count in
    let n = c.rounds.invariant.3 in
    let after = machine_of c.take_round.new.harts c.take_round.new.memory.words.items in
    let rests = quiet c.take_round.result c.in-Still.is in (
      c.take_round.ensures.ready.size,
      suc n,
      rounds_more image count n (first image) after (c.take_round.ensures.round rests.1 ∙ ap (serial.turns_from image count 0 image.settings.domains) (sym c.rounds.invariant.4)),
      c.take_round.ensures.rest rests.0 rests.1,
    )

pub returns-in-Still-clause-faulted : goal.returns-in-Still-clause-faulted
returns-in-Still-clause-faulted c = (λ t. absurd (apart t), λ f. absurd (kept c.in-Still.is f))
  where
    kept : (c.take_round.result ≡ Still) ⊎ (c.take_round.result ≡ Over) → IsFaulted c.args.image.now c.take_round.new.memory.words.items c.take_round.new.harts → ⊥
    kept (inl still) f = still_kept c.args.image.now c.take_round.new.memory.words.items c.take_round.new.harts (c.take_round.ensures.no_fault still) f
    kept (inr over) f = over_kept c.args.image.now c.take_round.new.memory.words.items c.take_round.new.harts (c.take_round.ensures.over ∙ ap is_over over) f

pub returns-in-Faulted-clause-faulted : goal.returns-in-Faulted-clause-faulted
returns-in-Faulted-clause-faulted c =
    let at = c.in-Faulted.ensures.fault refl in
    (λ t. faulted c.args.image.now c.take_round.new.memory.words.items c.take_round.new.harts at.0 c.in-Faulted.ensures.over at.1, λ f. refl)
