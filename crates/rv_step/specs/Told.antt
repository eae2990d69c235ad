-- What a memory tells of an access.
use Rattle.std.specs.Prelude.{◌≡◌, ℕ, List, Option, Some, None}
use Rattle.rv_model.specs.declared.instr.Instr.{Instr}
use Rattle.rv_model.specs.declared.hart.Access.{Access}
use Rattle.rv_model.specs.declared.hart.Access.TheVariants.{Loading, Storing, Swapping, Adding, Masking, Exchanging}
use Rattle.rv_model.specs.Machine.{Words, Hart, place, stored, Plan, Moves, Accesses, Awaits, Stops, Faults, Move, Goes, Waits, Stopped, Fault, plan, answered, words_after}

-- the words after an access, where they are told
abbrev pub told_after : Access → Option Words → Option Words
told_after a None = None
told_after a (Some w) = Some (stored a w)

-- the word that was found, where words are told
abbrev pub IsWordOf : ℕ → ℕ → Option Words → Type 0
IsWordOf n at None = Unit {0}
IsWordOf n at (Some w) = n ≡ w at

-- this plan makes just this access
abbrev pub IsJust : Access → Plan → Type 0
IsJust a (Accesses b rd part) = a ≡ b
IsJust a (Awaits at v) = a ≡ Loading at
IsJust a (Moves to r) = ⊥
IsJust a Stops = ⊥
IsJust a Faults = ⊥

-- the hart afterwards; the same where it doesn't go on
abbrev pub hart_or : Hart → Move → Hart
hart_or h (Goes h') = h'
hart_or h Waits = h
hart_or h Stopped = h
hart_or h Fault = h

abbrev pub after : ℕ → List Instr → Hart → ℕ → Hart
after size code h n = hart_or h (answered h (plan size code h) n)

-- the words after an instruction that found n, where they are told
abbrev pub told_then : Plan → Move → Option Words → Option Words
told_then p (Goes h) None = None
told_then p (Goes h) (Some w) = Some (words_after p w)
told_then p Waits w = w
told_then p Stopped w = w
told_then p Fault w = w

-- all but a store have an answer
abbrev pub HasAnswer : Access → Type 0
HasAnswer (Loading at) = Unit {0}
HasAnswer (Storing at v) = ⊥
HasAnswer (Swapping at v) = Unit {0}
HasAnswer (Adding at v) = Unit {0}
HasAnswer (Masking at v) = Unit {0}
HasAnswer (Exchanging at e v) = Unit {0}

-- the word that a plan reads was found, where words are told
abbrev pub IsFound : ℕ → Plan → Option Words → Type 0
IsFound n (Accesses a rd part) w = HasAnswer a → IsWordOf n (place a) w
IsFound n (Awaits at v) w = IsWordOf n at w
IsFound n (Moves to r) w = Unit {0}
IsFound n Stops w = Unit {0}
IsFound n Faults w = Unit {0}

-- the plan awaits a change of a word that has the value, where n is the word that was found
abbrev pub IsWaiting : Plan → ℕ → Type 0
IsWaiting (Awaits at v) n = n ≡ v
IsWaiting (Moves to r) n = ⊥
IsWaiting (Accesses a rd part) n = ⊥
IsWaiting Stops n = ⊥
IsWaiting Faults n = ⊥
