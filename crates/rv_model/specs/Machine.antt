-- One instruction of a hart: what it asks for, what it finds, and what becomes of the hart and the words.
use Rattle.std.specs.Prelude.{ℕ, zero, suc, ◌+◌, ◌/◌, ◌%◌, ◌^◌, List, ◌==◌, ◌&&◌, nat_lt, if◌then◌else◌, slice_get, slice_index, Option, Some, None, bit_and}
use Rattle.rv_model.specs.declared.instr.Instr.{Instr}
use Rattle.rv_model.specs.declared.hart.Hart.{Hart as HartState}
use Rattle.rv_model.specs.declared.hart.Access.{Access}
use Rattle.rv_model.specs.declared.hart.Access.TheVariants.{Loading, Storing, Swapping, Adding, Masking, Exchanging}
use Rattle.rv_model.specs.declared.hart.Part.{Part}
use Rattle.rv_model.specs.declared.hart.Part.TheVariants.{Word, Byte}
use Rattle.rv_model.specs.Word.{wrap, word_of}
use Rattle.rv_model.specs.Table.{Effect, Sets, AddsPc, Branches, Links, LinksTo, Loads, LoadsByte, Stores, Swaps, Adds, Masks, Exchanges, Calls, effect}

-- the registers by number
abbrev pub Regs : Type 0
Regs = ℕ → ℕ

-- register 0 reads 0
abbrev pub get : Regs → ℕ → ℕ
get r zero = 0
get r (suc d) = r (suc d)

-- a write to register 0 does nothing
abbrev pub put : Regs → ℕ → ℕ → Regs
put r zero v = r
put r (suc d) v = λ k. if k == suc d then v else r k

-- the words by number
abbrev pub Words : Type 0
Words = ℕ → ℕ

abbrev pub set_word : Words → ℕ → ℕ → Words
set_word w at v = λ k. if k == at then v else w k

pub record Hart : Type 0 where
  pub pc : ℕ
  pub regs : Regs
  pub retired : ℕ

-- a list as registers
abbrev pub regs_of : List ℕ → Regs
regs_of xs = λ k. slice_index xs k

-- a list as words
abbrev pub words_of : List ℕ → Words
words_of xs = λ k. slice_index xs k

-- the code's hart as the definitions' hart
abbrev pub hart_of : HartState → Hart
hart_of h = record { pc = h.pc; regs = regs_of h.regs; retired = h.retired }

-- the word that an access reads or writes
abbrev pub place : Access → ℕ
place (Loading at) = at
place (Storing at v) = at
place (Swapping at v) = at
place (Adding at v) = at
place (Masking at v) = at
place (Exchanging at e v) = at

-- the word after an access, from the word before
abbrev pub written : Access → ℕ → ℕ
written (Loading at) n = n
written (Storing at v) n = v
written (Swapping at v) n = v
written (Adding at v) n = wrap (n + v)
written (Masking at v) n = bit_and n v
written (Exchanging at e v) n = if n == e then v else n

-- the words after an access
abbrev pub stored : Access → Words → Words
stored (Loading at) w = w
stored (Storing at v) w = set_word w at v
stored (Swapping at v) w = set_word w at v
stored (Adding at v) w = set_word w at (wrap (w at + v))
stored (Masking at v) w = set_word w at (bit_and (w at) v)
stored (Exchanging at e v) w = set_word w at (if w at == e then v else w at)

-- the byte of this number in a word, least first
abbrev pub byte_of : ℕ → ℕ → ℕ
byte_of n k = n / 256 ^ k % 256

-- the part of the word that goes to the register
abbrev pub part_of : Part → ℕ → ℕ
part_of Word n = n
part_of (Byte k) n = byte_of n k

-- what the next instruction of a hart asks for; a part of the word that an access finds goes to register `rd`
pub data Plan : Type 0 where
  Moves : (pc : ℕ) (regs : Regs) → Plan
  Accesses : (access : Access) (rd : ℕ) (part : Part) → Plan
  Awaits : (at value : ℕ) → Plan
  Stops : Plan
  Faults : Plan

-- the address of the following instruction
abbrev pub next : Hart → ℕ
next h = wrap (h.pc + 4)

abbrev pub effect_of : Instr → Regs → Effect
effect_of i r = effect i.op (get r i.rs1) (get r i.rs2) (get r i.rd) (word_of i.imm)

-- the plan where this byte address is that of one of the words, else a fault
abbrev pub asks : ℕ → ℕ → Plan → Plan
asks size at p = if (at % 8 == 0) && nat_lt (at / 8) size then p else Faults

-- ECALL: with 0 in x17 `stop`, with 1 `await_change` of the word at x10 from the value in x11
abbrev pub called : ℕ → Hart → Plan
called size h =
    if h.regs 17 == 0 then Stops
    else if h.regs 17 == 1 then asks size (h.regs 10) (Awaits (h.regs 10 / 8) (h.regs 11)) else Faults

abbrev pub planned : ℕ → ℕ → Effect → Hart → Plan
planned size rd (Sets v) h = Moves (next h) (put h.regs rd v)
planned size rd (AddsPc v) h = Moves (next h) (put h.regs rd (wrap (h.pc + v)))
planned size rd (Branches taken i) h = Moves (if taken then wrap (h.pc + i) else next h) h.regs
planned size rd (Links i) h = Moves (wrap (h.pc + i)) (put h.regs rd (next h))
planned size rd (LinksTo at) h = Moves at (put h.regs rd (next h))
planned size rd (Loads at) h = asks size at (Accesses (Loading (at / 8)) rd Word)
planned size rd (LoadsByte at) h = if nat_lt (at / 8) size then Accesses (Loading (at / 8)) rd (Byte (at % 8)) else Faults
planned size rd (Stores at v) h = asks size at (Accesses (Storing (at / 8) v) 0 Word)
planned size rd (Swaps at v) h = asks size at (Accesses (Swapping (at / 8) v) rd Word)
planned size rd (Adds at v) h = asks size at (Accesses (Adding (at / 8) v) rd Word)
planned size rd (Masks at v) h = asks size at (Accesses (Masking (at / 8) v) rd Word)
planned size rd (Exchanges at e v) h = asks size at (Accesses (Exchanging (at / 8) e v) rd Word)
planned size rd Calls h = called size h

-- the instruction at this address, where it is one
abbrev pub fetch : List Instr → ℕ → Option Instr
fetch code pc = if pc % 4 == 0 then slice_get code (pc / 4) else None

abbrev pub planned_if : ℕ → Option Instr → Hart → Plan
planned_if size None h = Faults
planned_if size (Some i) h = planned size i.rd (effect_of i h.regs) h

-- the plan of a hart over so many words and this code
abbrev pub plan : ℕ → List Instr → Hart → Plan
plan size code h = planned_if size (fetch code h.pc) h

-- the hart one instruction further
abbrev pub moved : Hart → ℕ → Regs → Hart
moved h to r = record { pc = to; regs = r; retired = h.retired + 1 }

-- the word that a plan reads; 0 where it reads none
abbrev pub word_at : Plan → Words → ℕ
word_at (Moves to r) w = 0
word_at (Accesses a rd part) w = w (place a)
word_at (Awaits at v) w = w at
word_at Stops w = 0
word_at Faults w = 0

-- the words after a plan
abbrev pub words_after : Plan → Words → Words
words_after (Moves to r) w = w
words_after (Accesses a rd part) w = stored a w
words_after (Awaits at v) w = w
words_after Stops w = w
words_after Faults w = w

-- what becomes of a hart
pub data Move : Type 0 where
  Goes : (hart : Hart) → Move
  Waits : Move
  Stopped : Move
  Fault : Move

-- what becomes of a hart with this plan that finds this word
abbrev pub answered : Hart → Plan → ℕ → Move
answered h (Moves to r) n = Goes (moved h to r)
answered h (Accesses a rd part) n = Goes (moved h (next h) (put h.regs rd (part_of part n)))
answered h (Awaits at v) n = if n == v then Waits else Goes (moved h (next h) (put h.regs 10 n))
answered h Stops n = Stopped
answered h Faults n = Fault

-- one instruction of a hart over these words
abbrev pub step : ℕ → List Instr → Hart → Words → Move
step size code h w = answered h (plan size code h) (word_at (plan size code h) w)
