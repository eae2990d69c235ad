-- Operations. Each definition stands in front of the lines that follow.
use Rattle.std.specs.Prelude.{pos, List, ◌∷◌}
use Rattle.rv_model.specs.declared.line.Line.{Line}
use Rattle.rt_layout.specs.declared.registers.TheConstants.{A0, A1, LINK, LINK2, NEW, RA, T0}
use Rattle.rt_layout.specs.declared.blocks.TheConstants.{NONE, TAG_PLAIN, UNIT}
use Rattle.rt_layout.specs.declared.labels.TheConstants.{CALLBACK, C_TRY, ENTER_C, FREE_FIBER, LEAVE_C, SOME, TRY_EXN, TRY_VALUE}
use Rattle.rt_layout.specs.Block.{header_of}
use Rattle.rt_layout.specs.Assembly.{call, code, jr, label, li, mv, sd}
use Rattle.rt_layout.specs.Allocation.{new_block_lines}
use Rattle.rt_layout.specs.Shared.{apply_closure_lines}

-- applies the function x10 to unit, in C: `Some` of its value, or `None` where it raises
abbrev pub c_try_lines : List Line → List Line
c_try_lines tail =
    label C_TRY
    ∷ call LINK ENTER_C
    ∷ mv A1 A0
    ∷ li A0 UNIT
    ∷ code T0 TRY_EXN
    ∷ call RA CALLBACK
    ∷ code RA TRY_VALUE
    ∷ apply_closure_lines tail

-- the callback's exception
abbrev pub try_exn_lines : List Line → List Line
try_exn_lines tail =
    label TRY_EXN
    ∷ call LINK2 FREE_FIBER
    ∷ call LINK LEAVE_C
    ∷ li A0 NONE
    ∷ jr RA (pos 0)
    ∷ tail

-- the callback's value
abbrev pub try_value_lines : List Line → List Line
try_value_lines tail =
    label TRY_VALUE
    ∷ call LINK2 FREE_FIBER
    ∷ call LINK LEAVE_C
    ∷ tail

-- x10 is `Some` of x10
abbrev pub some_lines : List Line → List Line
some_lines tail =
    label SOME
    ∷ new_block_lines NEW 2 (header_of 1 TAG_PLAIN) (
    sd A0 (pos 0) NEW
    ∷ mv A0 NEW
    ∷ jr RA (pos 0)
    ∷ tail)

-- the C call that catches exceptions
abbrev pub trying_lines : List Line → List Line
trying_lines tail = c_try_lines (try_exn_lines (try_value_lines (some_lines tail)))
