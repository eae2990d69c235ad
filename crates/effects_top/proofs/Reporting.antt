-- What the report of a run says is true of a run of the program.
use Rattle.std.proofs.Common.{◌≡◌, ◌≢◌, ℕ, suc, ◌+◌, ◌<◌, ◌≤◌, Bool, true, false, ◌||◌, not, if◌then◌else◌, List, [], ◌∷◌, Option, Some, None, take, length, ◌⊎◌, inl, inr, ⊎_elim, refl, ap, sym, subst, ◌∙◌, le_refl, arith}
use Rattle.std.specs.Prelude.{slice_get, ◌==◌, IsTrue, IsFalse}
use Rattle.std.specs.List.{list_any}
use Rattle.std.proofs.Math.Seq.{take-length}
use Rattle.std.proofs.lemmas.Bool.{eqb-true}
use Rattle.std.proofs.lemmas.Option.{get_or_from_slice_get, slice_get_within}
use Rattle.effect_meaning.specs.Terms.{Program}
use Rattle.effect_meaning.specs.Run.{Run}
use Rattle.effect_meaning.specs.Measures.{effort}
use Rattle.effect_meaning.specs.Focus.{given_or}
use Rattle.rv_model.specs.declared.hart.Hart.{Hart as HartState}
use Rattle.rv_model.specs.declared.image.Image.{Image}
use Rattle.rv_model.specs.declared.report.Report.{Report}
use Rattle.rv_model.specs.declared.report.RunEnd.{RunEnd}
use Rattle.rv_model.specs.declared.report.RunEnd.TheVariants.{BudgetSpent, Deadlock, Broken}
use Rattle.rv_model.specs.declared.layout.TheConstants.{END_WORD}
use Rattle.rv_model.specs.Machine.{Hart, Move, Goes, hart_of, words_of}
use Rattle.rv_model.specs.Layout.{end}
use Rattle.rv_model.specs.Run.{Machine, machine_of, reached, move_of}
use Rattle.rv_model.specs.Serial.{is_over, goes}
use Rattle.rv_model.proofs.Lists.{map_get}
use Rattle.rv_model.proofs.Ends.{end-over}
use Rattle.rv_model.proofs.Reaching.{reaches_sound}
use Rattle.serial_runner.specs.Turns.{is_spent}
use Rattle.serial_runner.specs.Ending.{unfinished, end_or}
use Rattle.serial_runner.proofs.Counts.{any_seen}
use Rattle.effects_top.specs.Standing.{slots_of, stacks_of, retired_by, IsResting, IsGoing, Stands, StandsFor, ShowsRun, EndsAs, joined_pieces}
use Rattle.serial_runner.specs.Reported.{IsRunOf}
use Rattle.effects_top.specs.Headline.{IsReportOf}

-- hart k of these has spent its budget, and the end of the unfinished run names it, the first hart being number i
record Spent (budget i : ℕ) (harts : List HartState) : Type 0 where
  k : ℕ
  hart : HartState
  here : slice_get harts k ≡ Some hart
  spent : hart.retired ≡ budget
  named : unfinished budget i harts ≡ BudgetSpent (i + k) budget

-- no hart has spent its budget, and the end of the unfinished run is a deadlock
record Unspent (budget i : ℕ) (harts : List HartState) : Type 0 where
  none : list_any (is_spent budget) harts ≡ false
  named : unfinished budget i harts ≡ Deadlock

-- an unfinished run ends by the one or the other
unfinished_by : (budget i : ℕ) (harts : List HartState) → Spent budget i harts ⊎ Unspent budget i harts
unfinished_by budget i [] = inr (record { none = refl; named = refl })
unfinished_by budget i (h ∷ hs) = by (is_spent budget h) refl (unfinished_by budget (suc i) hs)
  where
    here : (b : Bool) → is_spent budget h ≡ b → unfinished budget i (h ∷ hs) ≡ (if b then BudgetSpent i budget else unfinished budget (suc i) hs)
    here b e = ap (λ (x : Bool). if x then BudgetSpent i budget else unfinished budget (suc i) hs) e

    one : i ≡ i + 0
    one = omega arith

    next : (k : ℕ) → suc i + k ≡ i + suc k
    next k = omega arith

    by : (b : Bool) → is_spent budget h ≡ b → Spent budget (suc i) hs ⊎ Unspent budget (suc i) hs → Spent budget i (h ∷ hs) ⊎ Unspent budget i (h ∷ hs)
    by true e rest = inl (record { k = 0; hart = h; here = refl; spent = eqb-true h.retired budget e; named = here true e ∙ ap (λ n. BudgetSpent n budget) one })
    by false e (inl s) = inl (record { k = suc s.k; hart = s.hart; here = s.here; spent = s.spent; named = here false e ∙ s.named ∙ ap (λ n. BudgetSpent n budget) (next s.k) })
    by false e (inr u) = inr (record { none = ap (λ b. b || list_any (is_spent budget) hs) e ∙ u.none; named = here false e ∙ u.named })

-- a hart that doesn't go on doesn't go
stays : (m : Move) (next : Hart) → IsFalse (goes m) → m ≢ Goes next
stays m next f e = apart (sym (ap goes e) ∙ f)
  where
    apart : IsFalse true → ⊥
    apart x = cc

-- where the words tell no end, the end word is 0
not_over : (image : Image) (s : Machine) → s.words END_WORD ≤ 6 → end s.words ≡ None → list_any (λ (h : Hart). h.retired == image.settings.budget) s.harts ≡ false → IsTrue (is_over image s) → ⊥
not_over image s kind none unspent over = by (s.words END_WORD == 0) refl
  where
    told : s.words END_WORD ≢ 0 → ⊥
    told n = let t = end-over s.words n kind in differ t.0 (sym none ∙ t.1)
      where
        differ : (e : RunEnd) → None ≡ Some e → ⊥
        differ e h = cc

    apart : IsTrue false → ⊥
    apart x = cc

    by : (b : Bool) → (s.words END_WORD == 0) ≡ b → ⊥
    by true e = apart (sym (ap (λ (x : Bool). not x || list_any (λ (h : Hart). h.retired == image.settings.budget) s.harts) e ∙ unspent) ∙ over)
    by false e = told (λ zero_then. apart (sym e ∙ ap (λ n. n == 0) zero_then))

pub shown : (p : Program) (image : Image) (turns : ℕ) (r : Report) → Stands p image → IsRunOf image turns r → IsReportOf p image r
shown p image turns r stands run = record { run = shown_run; printed = run.printed kept ∙ here.output; ends = by_end (end (words_of r.words)) refl here.ends }
  where
    kept : r.end ≢ Broken
    kept = run.kept stands.runs

    list : List ℕ
    list = run.reach.1.0

    s : StandsFor p image list
    s = stands.shows list run.reach.1.1

    moment : Machine
    moment = machine_of r.harts r.words

    here : ShowsRun p image moment (joined_pieces (take (length list) s.pieces))
    here = subst (λ (m : Machine). ShowsRun p image m (joined_pieces (take (length list) s.pieces))) (ap (reached image) (take-length list) ∙ run.reach.1.2) (s.shows (length list) (le_refl (length list)))

    shown_run : Run p (slots_of image)
    shown_run = record { list = joined_pieces (take (length list) s.pieces); last = here.last; leads = here.leads }

    budget : ℕ
    budget = image.settings.budget

    unfinished_ends : (e : RunEnd) → end (words_of r.words) ≡ None → unfinished budget 0 r.harts ≡ e → r.end ≡ e
    unfinished_ends e none is = run.end kept ∙ ap (end_or (unfinished budget 0 r.harts)) none ∙ is

    as_told : (e : RunEnd) → r.end ≡ e → EndsAs p image moment shown_run (Some e) → EndsAs p image moment shown_run (Some r.end)
    as_told e is ends = subst (λ (x : RunEnd). EndsAs p image moment shown_run (Some x)) (sym is) ends

    by_budget : end (words_of r.words) ≡ None → IsGoing p image moment shown_run → Spent budget 0 r.harts → EndsAs p image moment shown_run (Some r.end)
    by_budget none going spent =
        let at : slice_get moment.harts spent.k ≡ Some (hart_of spent.hart) = map_get hart_of r.harts spent.k spent.hart spent.here in
        let same : spent.k ≡ 0 + spent.k = omega arith in
        let count : budget ≡ retired_by moment (0 + spent.k) = sym (ap (λ o. given_or o (λ (h : Hart). h.retired) 0) at ∙ spent.spent) ∙ ap (retired_by moment) same in
        let below = subst (λ (h : Hart). h.retired < effort p (slots_of image) (stacks_of image.settings) shown_run) (get_or_from_slice_get moment.harts spent.k (hart_of spent.hart) (hart_of spent.hart) at) (going.bounded spent.k (hart_of spent.hart) (slice_get_within moment.harts spent.k (hart_of spent.hart) at)) in
        as_told (BudgetSpent (0 + spent.k) budget) (unfinished_ends _ none spent.named)
        (record { running = going.running; says = (refl, count, subst (λ n. n < effort p (slots_of image) (stacks_of image.settings) shown_run) spent.spent below) })

    resting : end (words_of r.words) ≡ None → Unspent budget 0 r.harts → IsResting image moment
    resting none unspent =
        ⊎_elim
        (λ over. absurd (not_over image moment (reaches_sound image moment stands.runs run.reach.1).kind none (sym (any_seen budget r.harts) ∙ unspent.none) over))
        (λ still i h next at. stays (move_of image moment.words h) next (still i h at))
        (run.serial kept).3

    by_rest : end (words_of r.words) ≡ None → IsGoing p image moment shown_run → Unspent budget 0 r.harts → EndsAs p image moment shown_run (Some r.end)
    by_rest none going unspent =
        as_told Deadlock (unfinished_ends Deadlock none unspent.named) (record { running = going.running; says = going.settled (resting none unspent) })

    by_end : (o : Option RunEnd) → end (words_of r.words) ≡ o → EndsAs p image moment shown_run o → EndsAs p image moment shown_run (Some r.end)
    by_end (Some told) is ends = as_told told (run.end kept ∙ ap (end_or (unfinished budget 0 r.harts)) is) ends
    by_end None is going = ⊎_elim (by_budget is going) (by_rest is going) (unfinished_by budget 0 r.harts)
