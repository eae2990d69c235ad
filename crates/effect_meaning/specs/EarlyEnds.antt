-- The early ends of a run, and what each says of the run that was cut short. All of it is this project's own.
use Rattle.std.specs.Prelude.{◌≡◌, ℕ, ◌+◌, ◌≤◌, ◌<◌, List, [], ◌∷◌, Some, None, length, slice_get, IsTrue, Bool, true, false}
use Rattle.effect_meaning.specs.Terms.{Operation, CIter, CFold, CTry, Program}
use Rattle.effect_meaning.specs.Config.{Value, Operating, Frame, Parts, Foot, Cut, Segment, Doing, Return, Live, Config}
use Rattle.effect_meaning.specs.Step.{step}
use Rattle.effect_meaning.specs.Run.{Run}
use Rattle.effect_meaning.specs.Measures.{room, Stacks, spend, effort}

-- an early end with its numbers
pub data EarlyEnd : Type 0 where
  HeapFull : (used asked size : ℕ) → EarlyEnd
  StackFull : (need size : ℕ) → EarlyEnd
  CallsFull : (active : ℕ) → EarlyEnd
  OutputFull : (used asked size : ℕ) → EarlyEnd
  BudgetSpent : (hart count : ℕ) → EarlyEnd
  Deadlock : EarlyEnd

-- the settings that an end speaks of: words of the heap and of a stack, bytes of the log, instructions of a hart
pub record Sizes : Type 0 where
  pub heap : ℕ
  pub stack : ℕ
  pub log : ℕ
  pub budget : ℕ

-- one at the foot of a callback
abbrev pub foot_cuts : Foot → ℕ
foot_cuts Cut = 1
foot_cuts _ = 0

-- the C calls that are active in a context
abbrev pub cuts : List Segment → ℕ
cuts [] = 0
cuts (s ∷ ss) = foot_cuts s.foot + cuts ss

-- no domain can step
abbrev pub NoneSteps : Program → Config → Type 0
NoneSteps p c = (d : ℕ) → step p c d ≡ None

-- whether an operation is a C call with callbacks
abbrev pub is_c_call : Operation → Bool
is_c_call CIter = true
is_c_call CFold = true
is_c_call CTry = true
is_c_call _ = false

-- whether a value that meets these frames makes such a call
abbrev pub makes_c_call : List Frame → Bool
makes_c_call (Parts (Operating op) [] done s ∷ ks) = is_c_call op
makes_c_call _ = false

-- the next step of domain d calls c_iter, c_fold or c_try in a context with this many active C calls
abbrev pub CallsWith : Program → Config → (d active : ℕ) → Type 0
CallsWith p c d active =
    (v : Value) × (s : Segment) × (ss : List Segment) × (next : Config)
    × (slice_get c.domains d ≡ Some (Live (Return v) (s ∷ ss)))
    × (step p c d ≡ Some next) × IsTrue (makes_c_call s.frames) × (cuts (s ∷ ss) ≡ active)

-- the next step of domain d prints this many bytes
abbrev pub PrintsNext : Program → Config → (d asked : ℕ) → Type 0
PrintsNext p c d asked = (next : Config) × (step p c d ≡ Some next) × (length next.output ≡ length c.output + asked)

-- a need of stack words is at most 64 more than the room of a live domain's innermost segment
abbrev pub IsNearRoom : Config → ℕ → Type 0
IsNearRoom c need =
    (d : ℕ) × (doing : Doing) × (s : Segment) × (ss : List Segment) × (slice_get c.domains d ≡ Some (Live doing (s ∷ ss)))
    × (need ≤ 64 + room c s.number)

-- what an early end says of a run r: of the sizes in the settings, of what was used and asked, and of the retired
-- instructions of each hart
abbrev pub Says : (p : Program) (h : ℕ) → Stacks → Sizes → (retired : ℕ → ℕ) → Run p h → EarlyEnd → Type 0
Says p h stacks sizes retired r (HeapFull used asked size) =
    (size ≡ sizes.heap) × (size < used + asked) × (used + asked ≤ spend p h stacks r)
Says p h stacks sizes retired r (StackFull need size) =
    (size ≡ sizes.stack) × (size < need) × IsNearRoom r.last need
Says p h stacks sizes retired r (CallsFull active) = (active ≡ 255) × ((d : ℕ) × CallsWith p r.last d active)
Says p h stacks sizes retired r (OutputFull used asked size) =
    (size ≡ sizes.log) × (used ≡ length r.last.output) × (size < used + asked) × ((d : ℕ) × PrintsNext p r.last d asked)
Says p h stacks sizes retired r (BudgetSpent hart count) =
    (count ≡ sizes.budget) × (count ≡ retired hart) × (count < effort p h stacks r)
Says p h stacks sizes retired r Deadlock = NoneSteps p r.last
