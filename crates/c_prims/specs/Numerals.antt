-- Operations. Each definition stands in front of the lines that follow.
use Rattle.std.specs.Prelude.{pos, List, ◌∷◌}
use Rattle.rv_model.specs.declared.line.Line.{Line}
use Rattle.rt_layout.specs.declared.registers.TheConstants.{A0, A3, AUX, CUR, DOM, LINK, NEW, T0, T1, T3, T4, ZERO}
use Rattle.rt_layout.specs.declared.parts.TheConstants.{M_DIGITS}
use Rattle.rt_layout.specs.declared.labels.TheConstants.{DIGITS, DIGITS_BEGIN, DIGITS_END, DIGITS_NEXT}
use Rattle.rt_layout.specs.Assembly.{addi, beq, bge, bne, divu, jr, label, li, or, remu, sd, slli, slt, srai, srli, sub}

-- the byte x15 stands before the others, which are in x6, x7 and x28; x14 counts them
abbrev pub put_digit_lines : List Line → List Line
put_digit_lines tail =
    slli T3 T3 (pos 8)
    ∷ srli NEW T1 (pos 56)
    ∷ or T3 T3 NEW
    ∷ slli T1 T1 (pos 8)
    ∷ srli NEW T0 (pos 56)
    ∷ or T1 T1 NEW
    ∷ slli T0 T0 (pos 8)
    ∷ or T0 T0 AUX
    ∷ addi CUR CUR (pos 1)
    ∷ tail

-- the decimal text of the integer x10: x13 is where it is, x14 how long; linked by x5
abbrev pub digits_begin_lines : List Line → List Line
digits_begin_lines tail =
    label DIGITS
    ∷ srai A0 A0 (pos 1)
    ∷ slt T4 A0 ZERO
    ∷ bge A0 ZERO DIGITS_BEGIN
    ∷ sub A0 ZERO A0
    ∷ label DIGITS_BEGIN
    ∷ li T0 0
    ∷ li T1 0
    ∷ li T3 0
    ∷ li CUR 0
    ∷ tail

-- the last digit of x10 goes before the others
abbrev pub digits_next_lines : List Line → List Line
digits_next_lines tail =
    label DIGITS_NEXT
    ∷ li NEW 10
    ∷ remu AUX A0 NEW
    ∷ divu A0 A0 NEW
    ∷ addi AUX AUX (pos 48)
    ∷ put_digit_lines (
    bne A0 ZERO DIGITS_NEXT
    ∷ beq T4 ZERO DIGITS_END
    ∷ li AUX 45
    ∷ put_digit_lines tail)

-- the text is whole
abbrev pub digits_end_lines : List Line → List Line
digits_end_lines tail =
    label DIGITS_END
    ∷ addi A3 DOM M_DIGITS
    ∷ sd T0 (pos 0) A3
    ∷ sd T1 (pos 8) A3
    ∷ sd T3 (pos 16) A3
    ∷ jr LINK (pos 0)
    ∷ tail

-- the routine of decimal texts
abbrev pub digits_lines : List Line → List Line
digits_lines tail = digits_begin_lines (digits_next_lines (digits_end_lines tail))
