-- Handlers. Each definition stands in front of the lines that follow.
use Rattle.std.specs.Prelude.{pos, List, ◌∷◌}
use Rattle.rv_model.specs.declared.line.Line.{Line}
use Rattle.rt_layout.specs.declared.registers.TheConstants.{A0, A1, A2, A3, CUR, LINK2, LINK3, NEW, RA, SP, T0}
use Rattle.rt_layout.specs.declared.stacks.TheConstants.{BASE_EXN, FRAME_OF_ONE_SLOT, FRAME_SLOT, F_EXN, F_RA, F_SP, SP_OF_ONE_SLOT}
use Rattle.rt_layout.specs.declared.labels.TheConstants.{FIBER_START, HANDLER_EXN, MAKE_CONT, NEW_FIBER, RETURN_TO_PARENT, WAITING_FIBER}
use Rattle.rt_layout.specs.Assembly.{addi, call, code, jr, label, ld, li, mv, sd}
use Rattle.rt_layout.specs.Shared.{apply_closure_lines}

-- makes a continuation that waits for the argument of the function x10
abbrev pub fiber_lines : List Line → List Line
fiber_lines tail =
    label WAITING_FIBER
    ∷ li A2 0
    ∷ li CUR 0
    ∷ code T0 HANDLER_EXN
    ∷ call LINK3 NEW_FIBER
    ∷ addi T0 NEW SP_OF_ONE_SLOT
    ∷ sd A0 FRAME_SLOT T0
    ∷ sd T0 F_SP NEW
    ∷ code T0 FIBER_START
    ∷ sd T0 F_RA NEW
    ∷ li T0 BASE_EXN
    ∷ sd T0 F_EXN NEW
    ∷ mv CUR NEW
    ∷ mv A3 NEW
    ∷ call LINK2 MAKE_CONT
    ∷ mv A0 A2
    ∷ jr RA (pos 0)
    ∷ tail

-- the code of its first frame: x10 is the argument
abbrev pub fiber_start_lines : List Line → List Line
fiber_start_lines tail =
    label FIBER_START
    ∷ ld A1 FRAME_SLOT SP
    ∷ addi SP SP FRAME_OF_ONE_SLOT
    ∷ code RA RETURN_TO_PARENT
    ∷ apply_closure_lines tail

-- the routines of fibers that wait for an argument
abbrev pub waiting_lines : List Line → List Line
waiting_lines tail = fiber_lines (fiber_start_lines tail)
