-- Handlers. Each definition stands in front of the lines that follow.
use Rattle.std.specs.Prelude.{ℕ, pos, List, [], ◌∷◌, ◌++◌}
use Rattle.rv_model.specs.declared.line.Line.{Line}
use Rattle.rt_layout.specs.declared.registers.TheConstants.{A1, A3, AUX, CUR, FIBER, LINK2, LINK3, T0, ZERO}
use Rattle.rt_layout.specs.declared.blocks.TheConstants.{H_TEST, UNIT}
use Rattle.rt_layout.specs.declared.stacks.TheConstants.{F_HANDLER, F_PARENT}
use Rattle.rt_layout.specs.declared.statics.TheConstants.{EXN_UNHANDLED}
use Rattle.rt_layout.specs.declared.labels.TheConstants.{CAPTURE_DEEP, CAPTURE_SHALLOW, MAKE_CONT, PERFORM, PERFORM_AT, RAISE_NEW, REPERFORM, UNHANDLED}
use Rattle.rt_layout.specs.Block.{tagged_of}
use Rattle.rt_layout.specs.Assembly.{beq, call, jr, jump, label, ld, li, mv, sd}
use Rattle.rt_layout.specs.Shared.{save_lines, load_lines}

-- a shallow handler doesn't stay with the continuation
abbrev pub drop_handler_lines : List Line
drop_handler_lines = sd ZERO F_HANDLER A3 ∷ []

-- the fibers from the running one to x13 become a continuation, and the clause's body is next; a shallow handler has some lines besides
abbrev pub capture_lines : ℕ → List Line → List Line → List Line
capture_lines start dropping tail =
    label start
    ∷ mv CUR FIBER
    ∷ call LINK2 MAKE_CONT
    ∷ save_lines (
    ld FIBER F_PARENT A3
    ∷ dropping ++ load_lines (
    jr LINK3 (pos 0)
    ∷ tail))

-- performs the effect with the constructor's word x10 and the argument x12
abbrev pub perform_lines : List Line → List Line
perform_lines tail =
    label PERFORM
    ∷ mv A3 FIBER
    ∷ label PERFORM_AT
    ∷ ld A1 F_HANDLER A3
    ∷ beq A1 ZERO UNHANDLED
    ∷ ld T0 H_TEST A1
    ∷ jr T0 (pos 0)
    ∷ tail

-- the handler of the fiber x13 has no clause: goes on with the next fiber
abbrev pub reperform_lines : List Line → List Line
reperform_lines tail =
    label REPERFORM
    ∷ ld A3 F_PARENT A3
    ∷ jump PERFORM_AT
    ∷ tail

-- no handler has a clause: raises `Effect.Unhandled`
abbrev pub unhandled_lines : List Line → List Line
unhandled_lines tail =
    label UNHANDLED
    ∷ li AUX UNIT
    ∷ li CUR (tagged_of EXN_UNHANDLED)
    ∷ jump RAISE_NEW
    ∷ tail

-- the search for a handler
abbrev pub searching_lines : List Line → List Line
searching_lines tail = perform_lines (reperform_lines (unhandled_lines (capture_lines CAPTURE_DEEP [] (capture_lines CAPTURE_SHALLOW drop_handler_lines tail))))
