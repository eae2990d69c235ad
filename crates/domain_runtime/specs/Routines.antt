-- Domains. Each definition stands in front of the lines that follow.
use Rattle.std.specs.Prelude.{pos, negsuc, List, ◌∷◌}
use Rattle.rv_model.specs.declared.line.Line.{Line}
use Rattle.rt_layout.specs.declared.registers.TheConstants.{A0, A1, A2, A3, AUX, CALL, CUR, DOM, FIRST, LINK2, NEW, PART, RA, T0, T1, T3, ZERO}
use Rattle.rt_layout.specs.declared.fixed.TheConstants.{END_EXITED, HARTS, MASK}
use Rattle.rt_layout.specs.declared.blocks.TheConstants.{D_CLOSURE, D_RESULT, D_STATE, TAG_PLAIN, UNIT}
use Rattle.rt_layout.specs.declared.parts.TheConstants.{MINUS_ONE, M_BLOCK, M_MAILBOX, M_NOT_BIT}
use Rattle.rt_layout.specs.declared.statics.TheConstants.{EXN_FAILURE, S_SPAWN}
use Rattle.rt_layout.specs.declared.labels.TheConstants.{FINISH, FINISH_MAIN, FREE_FIBER, IDLE, JOIN, RAISE, ROOT_EXN, ROOT_VALUE, SPAWN, SPAWN_BLOCK, SPAWN_FULL, SPAWN_SLOT, STOP_RUN, UNCAUGHT}
use Rattle.rt_layout.specs.Block.{header_of}
use Rattle.rt_layout.specs.Assembly.{add, addi, amoand, amocas, and, beq, bne, call, code, ecall, jr, jump, label, ld, li, mv, or, sd, srl, srli, sub, xori}
use Rattle.rt_layout.specs.Allocation.{new_block_lines}
use Rattle.rt_layout.specs.Shared.{root_fiber_lines, apply_closure_lines, raise_text_lines}

-- A hart without a domain waits for one
abbrev pub idle_lines : List Line → List Line
idle_lines tail =
    label IDLE
    ∷ addi A0 DOM M_MAILBOX
    ∷ ld A1 M_BLOCK DOM
    ∷ li CALL 1
    ∷ ecall
    ∷ sd A0 M_BLOCK DOM
    ∷ ld A1 D_CLOSURE A0
    ∷ root_fiber_lines (
    li A0 UNIT
    ∷ code RA ROOT_VALUE
    ∷ apply_closure_lines tail)

-- the foot of a domain's first fiber for the value x10
abbrev pub root_value_lines : List Line → List Line
root_value_lines tail =
    label ROOT_VALUE
    ∷ li A2 1
    ∷ jump FINISH
    ∷ tail

-- the same for the exception x10
abbrev pub root_exn_lines : List Line → List Line
root_exn_lines tail =
    label ROOT_EXN
    ∷ li A2 2
    ∷ tail

-- the domain ends with x10: x12 is 1 for a value, 2 for an exception
abbrev pub finish_lines : List Line → List Line
finish_lines tail =
    label FINISH
    ∷ call LINK2 FREE_FIBER
    ∷ ld A1 M_BLOCK DOM
    ∷ beq A1 ZERO FINISH_MAIN
    ∷ sd A0 D_RESULT A1
    ∷ ld T0 M_NOT_BIT DOM
    ∷ li T1 MASK
    ∷ amoand ZERO T0 T1
    ∷ sd A2 D_STATE A1
    ∷ jump IDLE
    ∷ tail

-- it is the first domain: the run ends
abbrev pub finish_main_lines : List Line → List Line
finish_main_lines tail =
    label FINISH_MAIN
    ∷ li T0 1
    ∷ bne A2 T0 UNCAUGHT
    ∷ li A2 END_EXITED
    ∷ li A3 0
    ∷ li CUR 0
    ∷ li AUX 0
    ∷ jump STOP_RUN
    ∷ tail

-- runs the closure x10 in a new domain: x10 is its block
abbrev pub spawn_lines : List Line → List Line
spawn_lines tail =
    label SPAWN
    ∷ ld A1 (pos MASK) ZERO
    ∷ xori T0 A1 (negsuc 0)
    ∷ sub T1 ZERO T0
    ∷ and T0 T0 T1
    ∷ ld T1 (pos HARTS) ZERO
    ∷ li T3 MINUS_ONE
    ∷ sub T1 ZERO T1
    ∷ srl T3 T3 T1
    ∷ and T0 T0 T3
    ∷ beq T0 ZERO SPAWN_FULL
    ∷ or T1 A1 T0
    ∷ li T3 MASK
    ∷ mv A2 A1
    ∷ amocas A2 T1 T3
    ∷ bne A2 A1 SPAWN
    ∷ mv A2 FIRST
    ∷ srli T0 T0 (pos 1)
    ∷ beq T0 ZERO SPAWN_BLOCK
    ∷ label SPAWN_SLOT
    ∷ add A2 A2 PART
    ∷ srli T0 T0 (pos 1)
    ∷ bne T0 ZERO SPAWN_SLOT
    ∷ tail

-- x12 is the domain register of the slot
abbrev pub spawn_block_lines : List Line → List Line
spawn_block_lines tail =
    label SPAWN_BLOCK
    ∷ new_block_lines NEW 4 (header_of 3 TAG_PLAIN) (
    sd A0 D_CLOSURE NEW
    ∷ sd NEW M_MAILBOX A2
    ∷ mv A0 NEW
    ∷ jr RA (pos 0)
    ∷ tail)

-- no slot is free
abbrev pub spawn_full_lines : List Line → List Line
spawn_full_lines tail =
    label SPAWN_FULL
    ∷ raise_text_lines EXN_FAILURE S_SPAWN tail

-- waits for the domain x10: x10 is its value, or its exception is raised
abbrev pub join_lines : List Line → List Line
join_lines tail =
    label JOIN
    ∷ mv A2 A0
    ∷ li A1 0
    ∷ li CALL 1
    ∷ ecall
    ∷ mv A1 A0
    ∷ ld A0 D_RESULT A2
    ∷ li T0 1
    ∷ bne A1 T0 RAISE
    ∷ jr RA (pos 0)
    ∷ tail

-- all routines
abbrev pub domain_runtime_lines : List Line → List Line
domain_runtime_lines tail = idle_lines (root_value_lines (root_exn_lines (finish_lines (finish_main_lines (spawn_lines (spawn_block_lines (spawn_full_lines (join_lines tail))))))))
