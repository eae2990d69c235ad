-- Operations. Each definition stands in front of the lines that follow.
use Rattle.std.specs.Prelude.{ℕ, pos, List, ◌∷◌}
use Rattle.rv_model.specs.declared.line.Line.{Line}
use Rattle.rt_layout.specs.declared.registers.TheConstants.{A0, A2, A3, AUX, CUR}
use Rattle.rt_layout.specs.declared.fixed.TheConstants.{END_EXITED}
use Rattle.rt_layout.specs.declared.statics.TheConstants.{EXN_DIVISION_BY_ZERO, EXN_FAILURE, EXN_INVALID_ARGUMENT}
use Rattle.rt_layout.specs.declared.labels.TheConstants.{EXIT, FAILWITH, INVALID_ARG, RAISE_NEW, STOP_RUN, ZERO_DIVISOR}
use Rattle.rt_layout.specs.Block.{tagged_of}
use Rattle.rt_layout.specs.Assembly.{andi, jump, label, li, mv, srai}
use Rattle.rt_layout.specs.Shared.{raise_plain_lines}

-- the exception of a number is raised with the text x10
abbrev pub raise_given_lines : ℕ → ℕ → List Line → List Line
raise_given_lines start number tail = label start ∷ li CUR (tagged_of number) ∷ mv AUX A0 ∷ jump RAISE_NEW ∷ tail

-- raises `Division_by_zero`
abbrev pub zero_divisor_lines : List Line → List Line
zero_divisor_lines tail =
    label ZERO_DIVISOR
    ∷ raise_plain_lines EXN_DIVISION_BY_ZERO tail

-- ends the run with the status x10
abbrev pub exit_lines : List Line → List Line
exit_lines tail =
    label EXIT
    ∷ srai A3 A0 (pos 1)
    ∷ andi A3 A3 (pos 255)
    ∷ li A2 END_EXITED
    ∷ li CUR 0
    ∷ li AUX 0
    ∷ jump STOP_RUN
    ∷ tail

-- the exceptions and the exit that a program asks for
abbrev pub arithmetic_lines : List Line → List Line
arithmetic_lines tail = zero_divisor_lines (raise_given_lines FAILWITH EXN_FAILURE (raise_given_lines INVALID_ARG EXN_INVALID_ARGUMENT (exit_lines tail)))
