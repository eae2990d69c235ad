-- Handlers. Each definition stands in front of the lines that follow.
use Rattle.std.specs.Prelude.{ℕ, pos, List, ◌∷◌}
use Rattle.rv_model.specs.declared.line.Line.{Line}
use Rattle.rt_layout.specs.declared.registers.TheConstants.{A1, A2, AUX, CUR, FIBER, LINK2, LINK3, RA, T0}
use Rattle.rt_layout.specs.declared.blocks.TheConstants.{EXNC, H_TEST, RETC}
use Rattle.rt_layout.specs.declared.stacks.TheConstants.{F_HANDLER, F_PARENT}
use Rattle.rt_layout.specs.declared.labels.TheConstants.{FREE_FIBER, HANDLE, HANDLER_EXN, NEW_FIBER, RETURN_TO_PARENT}
use Rattle.rt_layout.specs.Assembly.{call, code, jr, label, ld, mv}
use Rattle.rt_layout.specs.Shared.{save_lines, load_lines, enter_lines}

-- on at the handler's code for a value, and at that for an exception; its first test is at x6
abbrev pub to_retc : Line
to_retc = jr T0 RETC

abbrev pub to_exnc : Line
to_exnc = jr T0 EXNC

-- a fiber ends, whose foot has this label: the fiber below runs, and the last line goes to the handler's code
abbrev pub end_lines : ℕ → Line → List Line → List Line
end_lines foot leave tail =
    label foot
    ∷ ld A1 F_HANDLER FIBER
    ∷ ld A2 F_PARENT FIBER
    ∷ call LINK2 FREE_FIBER
    ∷ mv FIBER A2
    ∷ load_lines (
    ld T0 H_TEST A1
    ∷ leave
    ∷ tail)

-- applies the code x15 to x10, with the closure or the record x11, in a new fiber under the handler record x12
abbrev pub handle_lines : List Line → List Line
handle_lines tail =
    label HANDLE
    ∷ mv CUR FIBER
    ∷ code T0 HANDLER_EXN
    ∷ call LINK3 NEW_FIBER
    ∷ save_lines (
    enter_lines (
    code RA RETURN_TO_PARENT
    ∷ jr AUX (pos 0)
    ∷ tail))

-- the routines by which a handled computation begins and ends
abbrev pub handling_lines : List Line → List Line
handling_lines tail = handle_lines (end_lines RETURN_TO_PARENT to_retc (end_lines HANDLER_EXN to_exnc tail))
