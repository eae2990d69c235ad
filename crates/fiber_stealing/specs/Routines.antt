-- Queues of continuations. Each definition stands in front of the lines that follow.
use Rattle.std.specs.Prelude.{ℕ, pos, List, ◌∷◌}
use Rattle.rv_model.specs.declared.line.Line.{Line}
use Rattle.rt_layout.specs.declared.registers.TheConstants.{A0, A1, A2, DOM, FIRST, PART, RA, T0, T1, T3, T4, ZERO}
use Rattle.rt_layout.specs.declared.fixed.TheConstants.{HARTS}
use Rattle.rt_layout.specs.declared.blocks.TheConstants.{NONE, UNIT}
use Rattle.rt_layout.specs.declared.parts.TheConstants.{DOM_OFFSET, M_QUEUE}
use Rattle.rt_layout.specs.declared.statics.TheConstants.{EXN_FIBERQ_FULL, EXN_INVALID_ARGUMENT, S_TAKE_FROM}
use Rattle.rt_layout.specs.declared.labels.TheConstants.{PUSH, PUSH_AGAIN, PUSH_FULL, SOME, TAKE_AGAIN, TAKE_BAD, TAKE_FROM, TAKE_NONE}
use Rattle.rt_layout.specs.Assembly.{add, addi, amocas, andi, beq, bgeu, bne, jr, jump, label, ld, li, mul, mv, sd, slli, srai, srli, sub, subw}
use Rattle.rt_layout.specs.Shared.{raise_plain_lines, raise_text_lines}

-- x7 becomes 8 less than the address of the entry of a counter
abbrev pub entry_address_lines : ℕ → ℕ → List Line → List Line
entry_address_lines counter queue tail = andi T1 counter (pos 1023) ∷ slli T1 T1 (pos 3) ∷ add T1 T1 queue ∷ tail

-- puts the continuation x10 into this domain's queue
abbrev pub push_lines : List Line → List Line
push_lines tail =
    label PUSH
    ∷ ld A1 M_QUEUE DOM
    ∷ label PUSH_AGAIN
    ∷ ld A2 (pos 0) A1
    ∷ srli T0 A2 (pos 32)
    ∷ subw T3 T0 A2
    ∷ li T4 1024
    ∷ beq T3 T4 PUSH_FULL
    ∷ entry_address_lines T0 A1 (
    sd A0 (pos 8) T1
    ∷ li T3 1
    ∷ slli T3 T3 (pos 32)
    ∷ add T3 T3 A2
    ∷ mv T0 A2
    ∷ amocas T0 T3 A1
    ∷ bne T0 A2 PUSH_AGAIN
    ∷ li A0 UNIT
    ∷ jr RA (pos 0)
    ∷ tail)

-- the queue is full
abbrev pub push_full_lines : List Line → List Line
push_full_lines tail =
    label PUSH_FULL
    ∷ raise_plain_lines EXN_FIBERQ_FULL tail

-- takes a continuation from the queue of the domain in slot x10: `Some` of it, or `None`
abbrev pub take_from_lines : List Line → List Line
take_from_lines tail =
    label TAKE_FROM
    ∷ srai A0 A0 (pos 1)
    ∷ ld T0 (pos HARTS) ZERO
    ∷ bgeu A0 T0 TAKE_BAD
    ∷ mul A1 A0 PART
    ∷ add A1 A1 FIRST
    ∷ li T0 DOM_OFFSET
    ∷ sub A1 A1 T0
    ∷ label TAKE_AGAIN
    ∷ ld A2 (pos 0) A1
    ∷ srli T0 A2 (pos 32)
    ∷ subw T3 T0 A2
    ∷ beq T3 ZERO TAKE_NONE
    ∷ entry_address_lines A2 A1 (
    ld A0 (pos 8) T1
    ∷ addi T3 A2 (pos 1)
    ∷ mv T0 A2
    ∷ amocas T0 T3 A1
    ∷ bne T0 A2 TAKE_AGAIN
    ∷ jump SOME
    ∷ tail)

-- the queue is empty
abbrev pub take_none_lines : List Line → List Line
take_none_lines tail =
    label TAKE_NONE
    ∷ li A0 NONE
    ∷ jr RA (pos 0)
    ∷ tail

-- there is no such slot
abbrev pub take_bad_lines : List Line → List Line
take_bad_lines tail =
    label TAKE_BAD
    ∷ raise_text_lines EXN_INVALID_ARGUMENT S_TAKE_FROM tail

-- all routines
abbrev pub fiber_stealing_lines : List Line → List Line
fiber_stealing_lines tail = push_lines (push_full_lines (take_from_lines (take_none_lines (take_bad_lines tail))))
