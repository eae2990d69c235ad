-- Operations. Each definition stands in front of the lines that follow.
use Rattle.std.specs.Prelude.{pos, negsuc, List, ◌∷◌}
use Rattle.rv_model.specs.declared.line.Line.{Line}
use Rattle.rt_layout.specs.declared.registers.TheConstants.{A0, A1, LINK, NEW, RA, T0, T1, ZERO}
use Rattle.rt_layout.specs.declared.blocks.TheConstants.{HEADER}
use Rattle.rt_layout.specs.declared.statics.TheConstants.{EXN_INVALID_ARGUMENT, S_ARRAY_MAKE}
use Rattle.rt_layout.specs.declared.labels.TheConstants.{ALLOC_LARGE, ARRAY_MAKE, MAKE_BAD, MAKE_END, MAKE_NEXT}
use Rattle.rt_layout.specs.Assembly.{addi, beq, blt, bne, call, jr, label, mv, sd, slli, srai}
use Rattle.rt_layout.specs.Shared.{raise_text_lines}

-- an array of x10 elements x11
abbrev pub array_make_lines : List Line → List Line
array_make_lines tail =
    label ARRAY_MAKE
    ∷ srai A0 A0 (pos 1)
    ∷ blt A0 ZERO MAKE_BAD
    ∷ addi T1 A0 (pos 1)
    ∷ call LINK ALLOC_LARGE
    ∷ slli T0 A0 (pos 10)
    ∷ sd T0 HEADER NEW
    ∷ mv T1 NEW
    ∷ beq A0 ZERO MAKE_END
    ∷ label MAKE_NEXT
    ∷ sd A1 (pos 0) T1
    ∷ addi T1 T1 (pos 8)
    ∷ addi A0 A0 (negsuc 0)
    ∷ bne A0 ZERO MAKE_NEXT
    ∷ label MAKE_END
    ∷ mv A0 NEW
    ∷ jr RA (pos 0)
    ∷ tail

-- the length is negative
abbrev pub make_bad_lines : List Line → List Line
make_bad_lines tail =
    label MAKE_BAD
    ∷ raise_text_lines EXN_INVALID_ARGUMENT S_ARRAY_MAKE tail

-- the routine that makes arrays
abbrev pub arrays_lines : List Line → List Line
arrays_lines tail = array_make_lines (make_bad_lines tail)
