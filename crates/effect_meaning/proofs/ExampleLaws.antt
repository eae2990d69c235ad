-- The premises of the law are met: a run in which a continuation is emptied, and resumed again.
use Rattle.std.proofs.Common.{refl, arith, ◌≡◌, ◌∷◌, ◌++◌, IsTrue, ℕ, Bool, true, false, List, [], Option, Some, slice_get}
use Rattle.effect_meaning.specs.Builtins.{already_resumed}
use Rattle.effect_meaning.specs.Config.{At, Block, Config, Continuation, Domain, Foot, Frame, Heap, Live, Return, Running, Segment}
use Rattle.effect_meaning.specs.Step.{step}
use Rattle.effect_meaning.specs.Run.{run, runs, start}
use Rattle.effect_meaning.specs.Laws.{Empties, IsFull, IsRaising, ResumesNext, awaits_continuation}
use Rattle.effect_meaning.proofs.ExampleRuns.{until, last_of, leads_there}
use Rattle.effect_meaning.proofs.ExampleEffects.{resumed_twice}
use Rattle.effect_meaning.proofs.OneShot.{one_shot_law}
use Rattle.effect_meaning.proofs.Resumptions.{resumption_empties, repetition_raises}

-- whether a domain's value meets a frame that waits for a continuation
abbrev awaits_in : List Frame → Bool
awaits_in (k ∷ ks) = awaits_continuation k
awaits_in [] = false

abbrev awaits_at : Option Domain → Bool
awaits_at (Some (Live (Return (At l)) (s ∷ ss))) = awaits_in s.frames
awaits_at _ = false

-- the location of the value that a domain is at
abbrev location_at : Option Domain → ℕ
location_at (Some (Live (Return (At l)) ss)) = l
location_at _ = 0

next_in : (c : Config) (d l number : ℕ) (frames : List Frame) (ft : Foot) (ss : List Segment)
    → slice_get c.domains d ≡ Some (Live (Return (At l)) (record { number = number; frames = frames; foot = ft } ∷ ss))
    → IsTrue (awaits_in frames) → c.end ≡ Running → ResumesNext c d l
next_in c d l number [] ft ss e t r = absurd (grind (arith, t))
next_in c d l number (k ∷ ks) ft ss e t r = (number, k, ks, ft, ss, e, t, r)

resumes_next : (c : Config) (d : ℕ) (o : Option Domain) → slice_get c.domains d ≡ o → IsTrue (awaits_at o) → c.end ≡ Running
    → ResumesNext c d (location_at o)
resumes_next c d (Some (Live (Return (At l)) (s ∷ ss))) e t r = next_in c d l s.number s.frames s.foot ss e t r
resumes_next c d o e t r = absurd (grind (arith, t))

-- the run up to the first resumption, and where it stands then
abbrev before : List ℕ
before = until (λ c. awaits_at (slice_get c.domains 0)) 1000 resumed_twice (start resumed_twice 1)

abbrev first : Config
first = last_of resumed_twice 1 before

-- the step of the first resumption, and the run up to the second one
abbrev between : List ℕ
between = until (λ c. awaits_at (slice_get c.domains 0)) 1000 resumed_twice (last_of resumed_twice 1 (before ++ 0 ∷ []))

abbrev second : Config
second = last_of resumed_twice 1 (before ++ 0 ∷ between)

abbrev location : ℕ
location = location_at (slice_get first.domains 0)

first_resumes : ResumesNext first 0 location
first_resumes = resumes_next first 0 (slice_get first.domains 0) refl refl refl

second_resumes : ResumesNext second 0 location
second_resumes = resumes_next second 0 (slice_get second.domains 0) refl refl refl

-- whether a full continuation stands there
abbrev is_full : Option Block → Bool
is_full (Some (Continuation (Some ss))) = true
is_full _ = false

full_of : (heap : Heap) (l : ℕ) (b : Option Block) → slice_get heap l ≡ b → IsTrue (is_full b) → IsFull heap l
full_of heap l (Some (Continuation (Some ss))) e t = (ss, e)
full_of heap l b e t = absurd (grind (arith, t))

-- the first continue empties the continuation
pub first_empties : Empties resumed_twice first 0 location
first_empties = resumption_empties resumed_twice first 0 location first_resumes (full_of first.heap location (slice_get first.heap location) refl refl)

-- the second one, in the same run, raises
pub second_raises : (after : Config) × (step resumed_twice second 0 ≡ Some after) × IsRaising after 0 already_resumed
second_raises = repetition_raises resumed_twice second 0 location second_resumes refl

-- and so it does not empty the continuation again
pub second_does_not_empty : Empties resumed_twice second 0 location → ⊥
second_does_not_empty =
    one_shot_law resumed_twice 1 before between first second 0 0 location
    (leads_there (run resumed_twice 1 before) (start resumed_twice 1) refl)
    (leads_there (runs resumed_twice first (0 ∷ between)) first refl) first_empties
