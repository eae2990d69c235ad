-- A resumption of a full continuation empties it, and one of an empty continuation raises.
use Rattle.std.proofs.Common.{◌≡◌, ◌∙◌, refl, sym, ap, subst, ℕ, zero, suc, List, [], ◌∷◌, ◌++◌, Some, None, false, IsTrue, length, set, slice_get, arith}
use Rattle.effect_meaning.specs.Terms.{Continue, Discontinue, Program, ShallowContinue, ShallowDiscontinue}
use Rattle.effect_meaning.specs.Builtins.{already_resumed}
use Rattle.effect_meaning.specs.Config.{At, Config, Continuation, Doing, Frame, Handler, Handling, Live, Operating, Parts, Raising, Return, Segment, Value}
use Rattle.effect_meaning.specs.Focus.{Focus, carrier, go, raises, unit, with_context, with_heap}
use Rattle.effect_meaning.specs.Effects.{rehandled, resumes, resumes_block}
use Rattle.effect_meaning.specs.Evaluation.{meets}
use Rattle.effect_meaning.specs.Step.{step, step_of, while_running}
use Rattle.effect_meaning.specs.Laws.{IsEmpty, RepetitionRaises, ResumesNext, ResumptionEmpties, awaits_continuation}

-- a place after a store in it
get_stored : {X : Type 0} (xs : List X) (i : ℕ) (x y : X) → slice_get xs i ≡ Some y → slice_get (set xs i x) i ≡ Some x
get_stored [] i x y e = absurd (grind (arith, e))
get_stored (z ∷ xs) zero x y e = refl
get_stored (z ∷ xs) (suc i) x y e = get_stored xs i x y e

-- the place of a new block
get_last : {X : Type 0} (xs : List X) (x : X) → slice_get (xs ++ x ∷ []) (length xs) ≡ Some x
get_last [] x = refl
get_last (y ∷ xs) x = get_last xs x

not_true : {A : Type 0} → IsTrue false → A
not_true e = absurd (grind (arith, e))

-- the step of a frame that waits for a continuation is a resumption of the value that comes
meets_resumes : (f : Focus) (v : Value) (k : Frame) → IsTrue (awaits_continuation k)
    → (change : List Segment → List Segment) × (next : Doing) × (meets f v k ≡ resumes f v change next)
meets_resumes f v (Parts (Operating Continue) [] (w ∷ []) s) t = ((λ ss. ss), Return w, refl)
meets_resumes f v (Parts (Operating Discontinue) [] (w ∷ []) s) t = ((λ ss. ss), Raising w, refl)
meets_resumes f v (Parts (Handling ShallowContinue cs) [] (w ∷ retc ∷ exnc ∷ []) s) t =
    (rehandled (Handler ShallowContinue retc exnc cs s), Return w, refl)
meets_resumes f v (Parts (Handling ShallowDiscontinue cs) [] (w ∷ retc ∷ exnc ∷ []) s) t =
    (rehandled (Handler ShallowDiscontinue retc exnc cs s), Raising w, refl)
meets_resumes f v k t = not_true t

-- the focus of a domain's step
abbrev focus_of : Program → Config → ℕ → List Segment → Focus
focus_of p c d ss = record { program = p; config = c; me = d; context = ss }

-- the step of a domain that resumes next, by what is left of its context
step_resumes : (p : Program) (c : Config) (d l : ℕ) → ResumesNext c d l
    → (ss : List Segment) × (change : List Segment → List Segment) × (next : Doing) × (step p c d ≡ resumes (focus_of p c d ss) (At l) change next)
step_resumes p c d l r =
    let left : List Segment = record { number = r.0; frames = r.2; foot = r.3 } ∷ r.4 in
    let whole : List Segment = record { number = r.0; frames = r.1 ∷ r.2; foot = r.3 } ∷ r.4 in
    let there = meets_resumes (with_context (focus_of p c d whole) left) (At l) r.1 r.6 in (
      left,
      there.0,
      there.1,
      subst (λ o. while_running c.end (step_of p c d o) ≡ resumes (focus_of p c d left) (At l) there.0 there.1) (sym r.5)
          (subst (λ e. while_running e (step_of p c d (Some (Live (Return (At l)) whole))) ≡ resumes (focus_of p c d left) (At l) there.0 there.1) (sym r.7) there.2),
    )

-- what a resumption gives
resumes_full : (f : Focus) (l : ℕ) (segments : List Segment) (change : List Segment → List Segment) (next : Doing)
    → slice_get f.config.heap l ≡ Some (Continuation (Some segments))
    → resumes f (At l) change next ≡ Some (go (with_context (with_heap f (set f.config.heap l (Continuation None))) (change segments ++ f.context)) next)
resumes_full f l segments change next e = ap (λ b. resumes_block f (At l) b change next) e

resumes_empty : (f : Focus) (l : ℕ) (change : List Segment → List Segment) (next : Doing)
    → IsEmpty f.config.heap l → resumes f (At l) change next ≡ Some (raises f already_resumed unit)
resumes_empty f l change next e = ap (λ b. resumes_block f (At l) b change next) e

pub resumption_empties : ResumptionEmpties
resumption_empties p c d l r full =
    let s = step_resumes p c d l r in
    let f = focus_of p c d s.0 in (
      go (with_context (with_heap f (set c.heap l (Continuation None))) (s.1 full.0 ++ s.0)) s.2,
      s.3 ∙ resumes_full f l full.0 s.1 s.2 full.1,
      full,
      get_stored c.heap l (Continuation None) (Continuation (Some full.0)) full.1,
    )

pub repetition_raises : RepetitionRaises
repetition_raises p c d l r e =
    let s = step_resumes p c d l r in
    let f = focus_of p c d s.0 in (
      raises f already_resumed unit,
      s.3 ∙ resumes_empty f l s.1 s.2 e,
      (
        length c.heap,
        s.0,
        get_stored c.domains d (Live (Raising (At (length c.heap))) s.0) (Live (Return (At l)) (record { number = r.0; frames = r.1 ∷ r.2; foot = r.3 } ∷ r.4)) r.5,
        get_last c.heap (carrier already_resumed unit),
      ),
    )
