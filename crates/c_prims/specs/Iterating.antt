-- Operations. Each definition stands in front of the lines that follow.
use Rattle.std.specs.Prelude.{pos, List, ◌∷◌}
use Rattle.rv_model.specs.declared.line.Line.{Line}
use Rattle.rt_layout.specs.declared.registers.TheConstants.{A0, A1, A2, CSP, LINK, LINK2, RA, T0, T1, ZERO}
use Rattle.rt_layout.specs.declared.blocks.TheConstants.{HEADER, UNIT}
use Rattle.rt_layout.specs.declared.parts.TheConstants.{C_ARRAY, C_ELEM, C_F, C_INDEX}
use Rattle.rt_layout.specs.declared.labels.TheConstants.{CALLBACK, C_AGAIN, C_DONE, C_FOLD, C_ITER, ENTER_C, FOLD_NEXT, FOLD_SECOND, FOLD_VALUE, FREE_FIBER, ITER_NEXT, ITER_VALUE, LEAVE_C, RAISE}
use Rattle.rt_layout.specs.Assembly.{add, addi, bgeu, call, code, jr, jump, label, ld, li, mv, sd, slli, srli}
use Rattle.rt_layout.specs.Shared.{apply_closure_lines}

-- x11 becomes the address of the next element, or all are done; x10 stays
abbrev pub next_element_lines : List Line → List Line
next_element_lines tail =
    ld T0 C_INDEX CSP
    ∷ ld A1 C_ARRAY CSP
    ∷ ld T1 HEADER A1
    ∷ srli T1 T1 (pos 10)
    ∷ bgeu T0 T1 C_DONE
    ∷ addi T1 T0 (pos 1)
    ∷ sd T1 C_INDEX CSP
    ∷ slli T0 T0 (pos 3)
    ∷ add A1 A1 T0
    ∷ tail

-- applies the function x10 to each element of the array x11, in C
abbrev pub c_iter_lines : List Line → List Line
c_iter_lines tail =
    label C_ITER
    ∷ call LINK ENTER_C
    ∷ sd A0 C_F CSP
    ∷ sd A1 C_ARRAY CSP
    ∷ sd ZERO C_INDEX CSP
    ∷ tail

-- the next element
abbrev pub iter_next_lines : List Line → List Line
iter_next_lines tail =
    label ITER_NEXT
    ∷ li A0 UNIT
    ∷ next_element_lines (
    code T0 C_AGAIN
    ∷ call RA CALLBACK
    ∷ ld A0 (pos 0) A1
    ∷ ld A1 C_F CSP
    ∷ code RA ITER_VALUE
    ∷ apply_closure_lines tail)

-- A callback's value
abbrev pub iter_value_lines : List Line → List Line
iter_value_lines tail =
    label ITER_VALUE
    ∷ call LINK2 FREE_FIBER
    ∷ jump ITER_NEXT
    ∷ tail

-- the C call returns x10
abbrev pub c_done_lines : List Line → List Line
c_done_lines tail =
    label C_DONE
    ∷ call LINK LEAVE_C
    ∷ jr RA (pos 0)
    ∷ tail

-- A callback's exception goes through the C call
abbrev pub c_again_lines : List Line → List Line
c_again_lines tail =
    label C_AGAIN
    ∷ call LINK2 FREE_FIBER
    ∷ call LINK LEAVE_C
    ∷ jump RAISE
    ∷ tail

-- folds the function x10 from x11 over the array x12, in C
abbrev pub c_fold_lines : List Line → List Line
c_fold_lines tail =
    label C_FOLD
    ∷ call LINK ENTER_C
    ∷ sd A0 C_F CSP
    ∷ sd A2 C_ARRAY CSP
    ∷ sd ZERO C_INDEX CSP
    ∷ mv A0 A1
    ∷ tail

-- the next element, with the value so far in x10
abbrev pub fold_next_lines : List Line → List Line
fold_next_lines tail =
    label FOLD_NEXT
    ∷ next_element_lines (
    code T0 C_AGAIN
    ∷ call RA CALLBACK
    ∷ ld T0 (pos 0) A1
    ∷ sd T0 C_ELEM CSP
    ∷ ld A1 C_F CSP
    ∷ code RA FOLD_SECOND
    ∷ apply_closure_lines tail)

-- the function's value at the first argument
abbrev pub fold_second_lines : List Line → List Line
fold_second_lines tail =
    label FOLD_SECOND
    ∷ mv A1 A0
    ∷ ld A0 C_ELEM CSP
    ∷ code RA FOLD_VALUE
    ∷ apply_closure_lines tail

-- A callback's value
abbrev pub fold_value_lines : List Line → List Line
fold_value_lines tail =
    label FOLD_VALUE
    ∷ call LINK2 FREE_FIBER
    ∷ jump FOLD_NEXT
    ∷ tail

-- the C calls that go over an array
abbrev pub iterating_lines : List Line → List Line
iterating_lines tail = c_iter_lines (iter_next_lines (iter_value_lines (c_done_lines (c_again_lines (c_fold_lines (fold_next_lines (fold_second_lines (fold_value_lines tail))))))))
