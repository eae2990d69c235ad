-- Stacks of fibers. Each definition stands in front of the lines that follow.
use Rattle.std.specs.Prelude.{pos, negsuc, List, ◌∷◌}
use Rattle.rv_model.specs.declared.line.Line.{Line}
use Rattle.rt_layout.specs.declared.registers.TheConstants.{A2, A3, AUX, CUR, DOM, FIBER, LIMIT, LINK, LINK2, LINK3, NEW, SP, STACK, T0, T1, T3, T4, ZERO}
use Rattle.rt_layout.specs.declared.fixed.TheConstants.{END_STACK_FULL}
use Rattle.rt_layout.specs.declared.stacks.TheConstants.{FIRST_STACK, FRAME_LOW, F_BASE, F_CLASS, F_HANDLER, F_LIMIT, F_PARENT, TO_LIMIT, TO_LOW_END}
use Rattle.rt_layout.specs.declared.parts.TheConstants.{M_POOL}
use Rattle.rt_layout.specs.declared.labels.TheConstants.{ALLOC_LARGE, FIBER_FRESH, FIBER_MADE, FREE_FIBER, GROW, GROW_COPY, GROW_NEXT, NEW_FIBER, STACK_FULL, STOP_RUN, TAKE_FRESH, TAKE_SIZE, TAKE_STACK}
use Rattle.rt_layout.specs.Assembly.{add, addi, beq, bgeu, bltu, call, jr, jump, label, ld, li, mv, sd, sll, slli, srli, sub}

-- makes a fiber with the handler x12, the parent x14 and the foot x6: x30; linked by x22
abbrev pub new_fiber_lines : List Line → List Line
new_fiber_lines tail =
    label NEW_FIBER
    ∷ ld NEW M_POOL DOM
    ∷ beq NEW ZERO FIBER_FRESH
    ∷ ld T1 F_PARENT NEW
    ∷ sd T1 M_POOL DOM
    ∷ label FIBER_MADE
    ∷ sd CUR F_PARENT NEW
    ∷ sd A2 F_HANDLER NEW
    ∷ sd T0 F_BASE NEW
    ∷ jr LINK3 (pos 0)
    ∷ label FIBER_FRESH
    ∷ li T4 0
    ∷ call LINK2 TAKE_FRESH
    ∷ jump FIBER_MADE
    ∷ tail

-- takes a stack of class x29: its high end is x30; linked by x31
abbrev pub take_stack_lines : List Line → List Line
take_stack_lines tail =
    label TAKE_STACK
    ∷ slli T3 T4 (pos 3)
    ∷ add T3 T3 DOM
    ∷ ld NEW M_POOL T3
    ∷ beq NEW ZERO TAKE_FRESH
    ∷ ld T1 F_PARENT NEW
    ∷ sd T1 M_POOL T3
    ∷ jr LINK2 (pos 0)
    ∷ tail

-- the same from the heap
abbrev pub take_fresh_lines : List Line → List Line
take_fresh_lines tail =
    label TAKE_FRESH
    ∷ li T1 FIRST_STACK
    ∷ sll T1 T1 T4
    ∷ bgeu STACK T1 TAKE_SIZE
    ∷ mv T1 STACK
    ∷ label TAKE_SIZE
    ∷ call LINK ALLOC_LARGE
    ∷ slli T3 T1 (pos 3)
    ∷ addi T3 T3 (negsuc 7)
    ∷ add T3 T3 NEW
    ∷ addi NEW NEW TO_LIMIT
    ∷ sd NEW F_LIMIT T3
    ∷ sd T4 F_CLASS T3
    ∷ mv NEW T3
    ∷ jr LINK2 (pos 0)
    ∷ tail

-- puts the stack of the running fiber back; linked by x31
abbrev pub free_fiber_lines : List Line → List Line
free_fiber_lines tail =
    label FREE_FIBER
    ∷ ld T3 F_CLASS FIBER
    ∷ slli T3 T3 (pos 3)
    ∷ add T3 T3 DOM
    ∷ ld T1 M_POOL T3
    ∷ sd T1 F_PARENT FIBER
    ∷ sd FIBER M_POOL T3
    ∷ jr LINK2 (pos 0)
    ∷ tail

-- moves the running fiber to a stack with room for x2, which is below the limit; linked by x22
abbrev pub grow_lines : List Line → List Line
grow_lines tail =
    label GROW
    ∷ sub T1 FIBER SP
    ∷ addi T1 T1 FRAME_LOW
    ∷ srli T1 T1 (pos 3)
    ∷ bltu STACK T1 STACK_FULL
    ∷ ld T4 F_CLASS FIBER
    ∷ label GROW_NEXT
    ∷ addi T4 T4 (pos 1)
    ∷ li T3 FIRST_STACK
    ∷ sll T3 T3 T4
    ∷ bltu T3 T1 GROW_NEXT
    ∷ call LINK2 TAKE_STACK
    ∷ addi T1 LIMIT TO_LOW_END
    ∷ addi T3 FIBER F_LIMIT
    ∷ addi LINK NEW F_LIMIT
    ∷ tail

-- copies a word
abbrev pub grow_copy_lines : List Line → List Line
grow_copy_lines tail =
    label GROW_COPY
    ∷ addi T3 T3 (negsuc 7)
    ∷ addi LINK LINK (negsuc 7)
    ∷ ld T0 (pos 0) T3
    ∷ sd T0 (pos 0) LINK
    ∷ bltu T1 T3 GROW_COPY
    ∷ call LINK2 FREE_FIBER
    ∷ sub T1 FIBER SP
    ∷ sub SP NEW T1
    ∷ mv FIBER NEW
    ∷ ld LIMIT F_LIMIT FIBER
    ∷ jr LINK3 (pos 0)
    ∷ tail

-- the run ends: x7 words are needed
abbrev pub stack_full_lines : List Line → List Line
stack_full_lines tail =
    label STACK_FULL
    ∷ li A2 END_STACK_FULL
    ∷ mv A3 T1
    ∷ mv CUR STACK
    ∷ li AUX 0
    ∷ jump STOP_RUN
    ∷ tail

-- all routines
abbrev pub fiber_stacks_lines : List Line → List Line
fiber_stacks_lines tail = new_fiber_lines (take_stack_lines (take_fresh_lines (free_fiber_lines (grow_lines (grow_copy_lines (stack_full_lines tail))))))
