-- The laws of the runs. OCaml 5 manual, "Language extensions: Effect handlers": a continuation is resumed at most once, and
-- resuming it again raises Effect.Continuation_already_resumed.
use Rattle.std.specs.Prelude.{◌≡◌, ℕ, List, [], ◌∷◌, Some, None, Bool, true, false, IsTrue, slice_get}
use Rattle.effect_meaning.specs.Terms.{Continue, Discontinue, ShallowContinue, ShallowDiscontinue, Program}
use Rattle.effect_meaning.specs.Builtins.{already_resumed}
use Rattle.effect_meaning.specs.Config.{At, Operating, Handling, Frame, Parts, Foot, Segment, Continuation, Heap, Return, Raising, Live, Running, Config}
use Rattle.effect_meaning.specs.Focus.{unit, carrier}
use Rattle.effect_meaning.specs.Step.{step}
use Rattle.effect_meaning.specs.Run.{runs, run}

-- at location l there is a full continuation
abbrev pub IsFull : Heap → ℕ → Type 0
IsFull heap l = (segments : List Segment) × (slice_get heap l ≡ Some (Continuation (Some segments)))

-- at location l there is an empty continuation
abbrev pub IsEmpty : Heap → ℕ → Type 0
IsEmpty heap l = slice_get heap l ≡ Some (Continuation None)

-- from c the step of domain d empties the continuation at l
abbrev pub Empties : Program → Config → ℕ → ℕ → Type 0
Empties p c d l = (after : Config) × (step p c d ≡ Some after) × IsFull c.heap l × IsEmpty after.heap l

-- in no run two steps empty the same continuation, whichever domains take them
abbrev pub OneShot : Type 0
OneShot =
    (p : Program) (h : ℕ) (before between : List ℕ) (first later : Config) (d e l : ℕ)
    → run p h before ≡ Some first → runs p first (d ∷ between) ≡ Some later
    → Empties p first d l → Empties p later e l → ⊥

-- an empty continuation stays empty
abbrev pub StaysEmpty : Type 0
StaysEmpty =
    (p : Program) (c after : Config) (list : List ℕ) (l : ℕ) → runs p c list ≡ Some after → IsEmpty c.heap l → IsEmpty after.heap l

-- whether a frame waits for the continuation that continue, discontinue, continue_with or discontinue_with resumes: it is the
-- first part, so it comes last
abbrev pub awaits_continuation : Frame → Bool
awaits_continuation (Parts (Operating Continue) [] (v ∷ []) s) = true
awaits_continuation (Parts (Operating Discontinue) [] (e ∷ []) s) = true
awaits_continuation (Parts (Handling ShallowContinue cs) [] (v ∷ retc ∷ exnc ∷ []) s) = true
awaits_continuation (Parts (Handling ShallowDiscontinue cs) [] (e ∷ retc ∷ exnc ∷ []) s) = true
awaits_continuation k = false

-- the next step of domain d resumes the continuation at l
abbrev pub ResumesNext : Config → ℕ → ℕ → Type 0
ResumesNext c d l =
    (number : ℕ) × (k : Frame) × (frames : List Frame) × (foot : Foot) × (ss : List Segment)
    × (slice_get c.domains d ≡ Some (Live (Return (At l)) (record { number = number; frames = k ∷ frames; foot = foot } ∷ ss)))
    × IsTrue (awaits_continuation k) × (c.end ≡ Running)

-- domain d is at an exception of this number without argument
abbrev pub IsRaising : Config → ℕ → ℕ → Type 0
IsRaising c d n =
    (l : ℕ) × (context : List Segment) × (slice_get c.domains d ≡ Some (Live (Raising (At l)) context))
    × (slice_get c.heap l ≡ Some (carrier n unit))

-- each resumption of a full continuation empties it
abbrev pub ResumptionEmpties : Type 0
ResumptionEmpties = (p : Program) (c : Config) (d l : ℕ) → ResumesNext c d l → IsFull c.heap l → Empties p c d l

-- each resumption of an empty continuation raises Effect.Continuation_already_resumed, in the domain that resumes
abbrev pub RepetitionRaises : Type 0
RepetitionRaises =
    (p : Program) (c : Config) (d l : ℕ)
    → ResumesNext c d l → IsEmpty c.heap l → (after : Config) × (step p c d ≡ Some after) × IsRaising after d already_resumed
