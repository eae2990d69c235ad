-- Handlers. Each definition stands in front of the lines that follow.
use Rattle.std.specs.Prelude.{ℕ, pos, List, [], ◌∷◌, ◌++◌}
use Rattle.rv_model.specs.declared.line.Line.{Line}
use Rattle.rt_layout.specs.declared.registers.TheConstants.{A0, A1, A2, A3, FIBER, LINK, RA, T0}
use Rattle.rt_layout.specs.declared.blocks.TheConstants.{K_OUTER}
use Rattle.rt_layout.specs.declared.stacks.TheConstants.{F_HANDLER, F_PARENT}
use Rattle.rt_layout.specs.declared.labels.TheConstants.{DISCONTINUE, DISCONTINUE_WITH, RAISE, RESUME, RESUME_WITH, TAKE_CONT}
use Rattle.rt_layout.specs.Assembly.{call, jr, jump, label, ld, mv, sd}
use Rattle.rt_layout.specs.Shared.{save_lines, load_lines}

-- the outermost fiber gets a new handler
abbrev pub new_handler_lines : List Line
new_handler_lines = sd A2 F_HANDLER T0 ∷ []

-- on with the value x10
abbrev pub go_on : Line
go_on = jr RA (pos 0)

-- x10 is raised
abbrev pub raise_on : Line
raise_on = jump RAISE

-- the continuation x10 is taken, its fibers stand above the running one, and its innermost one runs with x11
abbrev pub resume_lines : ℕ → List Line → Line → List Line → List Line
resume_lines start handler leave tail =
    label start
    ∷ call LINK TAKE_CONT
    ∷ ld T0 K_OUTER A0
    ∷ save_lines (
    handler ++ (
    sd FIBER F_PARENT T0
    ∷ mv FIBER A3
    ∷ load_lines (
    mv A0 A1
    ∷ leave
    ∷ tail)))

-- the routines that resume
abbrev pub resuming_lines : List Line → List Line
resuming_lines tail = resume_lines RESUME [] go_on (resume_lines DISCONTINUE [] raise_on (resume_lines RESUME_WITH new_handler_lines go_on (resume_lines DISCONTINUE_WITH new_handler_lines raise_on tail)))
