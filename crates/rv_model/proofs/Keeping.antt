-- An image runs where each instruction keeps an invariant of the harts and one of the words.
use Rattle.std.proofs.Common.{◌≡◌, ◌≢◌, ℕ, ◌+◌, ◌≤◌, List, [], ◌∷◌, ◌++◌, Option, Some, None, refl, sym, ap, ◌∙◌, subst, append_assoc}
use native.Mathlib.Decide.{ℕ_discrete}
use Rattle.std.specs.Prelude.{slice_get, slice_set}
use Rattle.rv_model.specs.declared.image.Image.{Image}
use Rattle.rv_model.specs.declared.layout.TheConstants.{LOG_WORD}
use Rattle.rv_model.specs.declared.report.RunEnd.{RunEnd}
use Rattle.rv_model.specs.Machine.{Words, Hart, Plan, Move, Goes, Waits, Stopped, Fault, plan, answered, word_at, words_after}
use Rattle.rv_model.specs.Layout.{Keeps, IsSound, IsPrefix, log, log_words, end}
use Rattle.rv_model.specs.Run.{Machine, Runs, first, turned, turn_of, hart_step, machine_run, reached, move_of}
use Rattle.rv_model.proofs.Lists.{get_set_same, get_set_other}

keeps_none : (w : Words) → Keeps w w
keeps_none w = record { grows = ([], nil (log w)); ends = λ e h. h; stays = λ e h. refl }
  where
    nil : (l : List ℕ) → l ≡ l ++ []
    nil [] = refl
    nil (x ∷ l) = ap (λ m. x ∷ m) (nil l)

keeps_then : (u v w : Words) → Keeps u v → Keeps v w → Keeps u w
keeps_then u v w f g = record {
  grows = (f.grows.0 ++ g.grows.0, g.grows.1 ∙ ap (λ l. l ++ g.grows.0) f.grows.1 ∙ append_assoc (log u) f.grows.0 g.grows.0);
  ends = λ e h. g.ends e (f.ends e h);
  stays = λ e h. g.stays e (f.ends e h) ∙ f.stays e h;
}

module _ (OfHart : Hart → Type 0) (OfWords : Words → Type 0) where
  -- what an instruction leaves of the invariants, where it leads from words w to w'; it is no fault
  abbrev pub Leaves : Move → Words → Words → Type 0
  Leaves (Goes h) w w' = OfHart h × OfWords w' × Keeps w w'
  Leaves Waits w w' = Unit {0}
  Leaves Stopped w w' = Unit {0}
  Leaves Fault w w' = ⊥

  -- the invariants hold at the start, and each instruction keeps them
  pub record IsInvariant (image : Image) : Type 0 where
    pub room : LOG_WORD + log_words image.settings.out ≤ image.size
    pub harts : (i : ℕ) (h : Hart) → slice_get (first image).harts i ≡ Some h → OfHart h
    pub words : OfWords (first image).words
    pub sound : (w : Words) → OfWords w → IsSound image.settings.out w
    pub step : (h : Hart) (w : Words) → OfHart h → OfWords w → Leaves (move_of image w h) w (words_after (plan image.size image.code h) w)

  abbrev Holds : Machine → Type 0
  Holds s = ((i : ℕ) (h : Hart) → slice_get s.harts i ≡ Some h → OfHart h) × OfWords s.words

  -- the invariants hold afterwards, and the words keep the log and the end
  abbrev Onward : Machine → Machine → Type 0
  Onward s s' = Holds s' × Keeps s.words s'.words

  some_is : (x y : Hart) → Some x ≡ Some y → x ≡ y
  some_is x y e = cc

  turned_on : (s : Machine) (i : ℕ) (h : Hart) (p : Plan) (m : Move) → slice_get s.harts i ≡ Some h → Holds s → Leaves m s.words (words_after p s.words) → Onward s (turned s i p m)
  turned_on s i h p (Goes h') at holds leaves = ((each, leaves.1), leaves.2)
    where
      by : (j : ℕ) (x : Hart) → Dec (j ≡ i) → slice_get (slice_set s.harts i h') j ≡ Some x → OfHart x
      by j x (yes e) here = subst OfHart (some_is h' x (sym (get_set_same s.harts i h h' at) ∙ ap (slice_get (slice_set s.harts i h')) (sym e) ∙ here)) leaves.0
      by j x (no n) here = holds.0 j x (sym (get_set_other s.harts i j h' n) ∙ here)

      each : (j : ℕ) (x : Hart) → slice_get (slice_set s.harts i h') j ≡ Some x → OfHart x
      each j x = by j x (ℕ_discrete j i)
  turned_on s i h p Waits at holds leaves = (holds, keeps_none s.words)
  turned_on s i h p Stopped at holds leaves = (holds, keeps_none s.words)
  turned_on s i h p Fault at holds leaves = absurd leaves

  module _ (image : Image) (rule : IsInvariant image) where
    step_on : (s : Machine) (i : ℕ) → Holds s → Onward s (hart_step image i s)
    step_on s i holds = by (slice_get s.harts i) refl
      where
        by : (o : Option Hart) → slice_get s.harts i ≡ o → Onward s (turn_of image.size image.code s i o)
        by None at = (holds, keeps_none s.words)
        by (Some h) at = turned_on s i h (plan image.size image.code h) (move_of image s.words h) at holds (rule.step h s.words (holds.0 i h at) holds.1)

    run_on : (list : List ℕ) (s : Machine) → Holds s → Onward s (machine_run image s list)
    run_on [] s holds = (holds, keeps_none s.words)
    run_on (i ∷ list) s holds =
        let one = step_on s i holds in
        let rest = run_on list (hart_step image i s) one.0 in
        (rest.0, keeps_then s.words (hart_step image i s).words (machine_run image (hart_step image i s) list).words one.1 rest.1)

    run_append : (s : Machine) (a b : List ℕ) → machine_run image s (a ++ b) ≡ machine_run image (machine_run image s a) b
    run_append s [] b = refl
    run_append s (i ∷ a) b = run_append (hart_step image i s) a b

    start : Holds (first image)
    start = (rule.harts, rule.words)

    holds_at : (list : List ℕ) → Holds (reached image list)
    holds_at list = (run_on list (first image) start).0

    not_fault : (m : Move) (w w' : Words) → Leaves m w w' → m ≢ Fault
    not_fault (Goes h) w w' leaves e = cc
    not_fault Waits w w' leaves e = cc
    not_fault Stopped w w' leaves e = cc
    not_fault Fault w w' leaves e = leaves

    pub invariant_runs : Runs image
    invariant_runs = record {
      room = rule.room;
      no_fault = λ list within i h at. let holds = holds_at list in not_fault (move_of image (reached image list).words h) (reached image list).words _ (rule.step h (reached image list).words (holds.0 i h at) holds.1);
      sound = λ list within. rule.sound (reached image list).words (holds_at list).1;
      keeps = λ list more within after. subst (λ (s : Machine). Keeps (reached image list).words s.words) (sym (run_append (first image) list more)) (run_on more (reached image list) (holds_at list)).1;
    }
