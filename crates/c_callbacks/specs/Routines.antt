-- Calls of C. Each definition stands in front of the lines that follow.
use Rattle.std.specs.Prelude.{pos, List, ◌∷◌}
use Rattle.rv_model.specs.declared.line.Line.{Line}
use Rattle.rt_layout.specs.declared.registers.TheConstants.{A2, A3, AUX, CSP, CUR, DOM, FIBER, LINK, LINK3, RA, T0}
use Rattle.rt_layout.specs.declared.fixed.TheConstants.{END_CALLS_FULL}
use Rattle.rt_layout.specs.declared.parts.TheConstants.{C_FIBER, C_FRAME, C_FRAME_OFF, LAST_CALL, MOST_CALLS}
use Rattle.rt_layout.specs.declared.labels.TheConstants.{CALLBACK, CALLS_FULL, ENTER_C, LEAVE_C, NEW_FIBER, STOP_RUN}
use Rattle.rt_layout.specs.Assembly.{add, addi, bgeu, call, jr, jump, label, ld, li, sd}
use Rattle.rt_layout.specs.Shared.{save_lines, load_lines, enter_lines}

-- puts a C frame; linked by x5
abbrev pub enter_c_lines : List Line → List Line
enter_c_lines tail =
    label ENTER_C
    ∷ li T0 LAST_CALL
    ∷ add T0 T0 DOM
    ∷ bgeu CSP T0 CALLS_FULL
    ∷ save_lines (
    addi CSP CSP C_FRAME
    ∷ sd FIBER C_FIBER CSP
    ∷ jr LINK (pos 0)
    ∷ tail)

-- the run ends: there are 255 C frames
abbrev pub calls_full_lines : List Line → List Line
calls_full_lines tail =
    label CALLS_FULL
    ∷ li A2 END_CALLS_FULL
    ∷ li A3 MOST_CALLS
    ∷ li CUR 0
    ∷ li AUX 0
    ∷ jump STOP_RUN
    ∷ tail

-- drops the top C frame; x10 stays, x1 is where the C call returns to; linked by x5
abbrev pub leave_c_lines : List Line → List Line
leave_c_lines tail =
    label LEAVE_C
    ∷ ld FIBER C_FIBER CSP
    ∷ addi CSP CSP C_FRAME_OFF
    ∷ load_lines (
    jr LINK (pos 0)
    ∷ tail)

-- makes a fresh fiber with the foot x6 the running one; x10 and x11 stay; linked by x1
abbrev pub callback_lines : List Line → List Line
callback_lines tail =
    label CALLBACK
    ∷ li A2 0
    ∷ li CUR 0
    ∷ call LINK3 NEW_FIBER
    ∷ enter_lines (
    jr RA (pos 0)
    ∷ tail)

-- all routines
abbrev pub c_callbacks_lines : List Line → List Line
c_callbacks_lines tail = enter_c_lines (calls_full_lines (leave_c_lines (callback_lines tail)))
