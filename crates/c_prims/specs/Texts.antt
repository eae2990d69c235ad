-- Operations. Each definition stands in front of the lines that follow.
use Rattle.std.specs.Prelude.{pos, negsuc, List, ◌∷◌}
use Rattle.rv_model.specs.declared.line.Line.{Line}
use Rattle.rt_layout.specs.declared.registers.TheConstants.{A0, A1, A2, A3, AUX, CALL, CSP, CUR, DOM, DST, LINK, LINK2, LINK3, RA, STATIC, T0, T1, T4, ZERO}
use Rattle.rt_layout.specs.declared.fixed.TheConstants.{BEFORE_TEXT, END_UNCAUGHT, PAST_TEXT, TEXT}
use Rattle.rt_layout.specs.declared.parts.TheConstants.{SYSTEM_OFFSET}
use Rattle.rt_layout.specs.declared.statics.TheConstants.{SHOW_OPEN, SHOW_STRING, S_EXNS}
use Rattle.rt_layout.specs.declared.labels.TheConstants.{DIGITS, PUT_BYTE, STOP_RUN, TEXT_BYTE, TEXT_CHAR, TEXT_CLOSE, TEXT_DIGITS, TEXT_END, TEXT_ESCAPE, TEXT_INSIDE, TEXT_NAME, TEXT_NEXT, TEXT_OPEN, TEXT_OTHER, TEXT_PART, TEXT_PLAIN, TEXT_QUOTE, TEXT_SHOWN, TEXT_STRING, TEXT_SYMBOL, UNCAUGHT}
use Rattle.rt_layout.specs.Assembly.{add, addi, andi, beq, bltu, bne, call, jr, jump, label, lbu, ld, li, mv, sd, slli, srai, srli}

-- puts the byte x6 at x16 where the text has room; linked by x31
abbrev pub text_byte_lines : List Line → List Line
text_byte_lines tail =
    label TEXT_BYTE
    ∷ li T1 PAST_TEXT
    ∷ beq DST T1 TEXT_END
    ∷ call LINK PUT_BYTE
    ∷ jr LINK2 (pos 0)
    ∷ tail

-- ends the run by the exception x10
abbrev pub uncaught_lines : List Line → List Line
uncaught_lines tail =
    label UNCAUGHT
    ∷ li DST TEXT
    ∷ ld T0 (pos 0) A0
    ∷ ld T1 S_EXNS STATIC
    ∷ srai T0 T0 (pos 1)
    ∷ slli T0 T0 (pos 3)
    ∷ add T0 T0 T1
    ∷ ld CALL (pos 0) T0
    ∷ addi LINK3 A0 (pos 8)
    ∷ ld CUR (pos 0) CALL
    ∷ andi RA CUR (pos 1)
    ∷ srli CUR CUR (pos 1)
    ∷ addi A3 CALL (pos 8)
    ∷ addi CALL CUR (pos 7)
    ∷ andi CALL CALL (negsuc 7)
    ∷ add CALL CALL A3
    ∷ tail

-- the next byte of its name
abbrev pub text_name_lines : List Line → List Line
text_name_lines tail =
    label TEXT_NAME
    ∷ lbu T0 (pos 0) A3
    ∷ call LINK2 TEXT_BYTE
    ∷ addi A3 A3 (pos 1)
    ∷ addi CUR CUR (negsuc 0)
    ∷ bne CUR ZERO TEXT_NAME
    ∷ beq RA ZERO TEXT_END
    ∷ li T0 40
    ∷ call LINK2 TEXT_BYTE
    ∷ li A2 0
    ∷ tail

-- the next symbol of its argument
abbrev pub text_next_lines : List Line → List Line
text_next_lines tail =
    label TEXT_NEXT
    ∷ li T0 1
    ∷ bne RA T0 TEXT_SYMBOL
    ∷ ld RA (pos 0) CALL
    ∷ addi CALL CALL (pos 8)
    ∷ label TEXT_SYMBOL
    ∷ andi A1 RA (pos 7)
    ∷ srli RA RA (pos 3)
    ∷ andi T0 A1 (pos 3)
    ∷ li T1 SHOW_OPEN
    ∷ beq T0 T1 TEXT_OPEN
    ∷ beq A2 ZERO TEXT_PART
    ∷ li T0 44
    ∷ call LINK2 TEXT_BYTE
    ∷ li T0 32
    ∷ call LINK2 TEXT_BYTE
    ∷ tail

-- shows a part
abbrev pub text_part_lines : List Line → List Line
text_part_lines tail =
    label TEXT_PART
    ∷ li A2 1
    ∷ ld A0 (pos 0) LINK3
    ∷ andi T0 A1 (pos 3)
    ∷ li T1 SHOW_STRING
    ∷ beq T0 T1 TEXT_STRING
    ∷ bltu T1 T0 TEXT_OTHER
    ∷ call LINK DIGITS
    ∷ tail

-- the next digit
abbrev pub text_digits_lines : List Line → List Line
text_digits_lines tail =
    label TEXT_DIGITS
    ∷ lbu T0 (pos 0) A3
    ∷ call LINK2 TEXT_BYTE
    ∷ addi A3 A3 (pos 1)
    ∷ addi CUR CUR (negsuc 0)
    ∷ bne CUR ZERO TEXT_DIGITS
    ∷ jump TEXT_SHOWN
    ∷ label TEXT_OTHER
    ∷ li T0 95
    ∷ call LINK2 TEXT_BYTE
    ∷ tail

-- the part is shown
abbrev pub text_shown_lines : List Line → List Line
text_shown_lines tail =
    label TEXT_SHOWN
    ∷ addi LINK3 LINK3 (pos 8)
    ∷ andi T0 A1 (pos 4)
    ∷ beq T0 ZERO TEXT_NEXT
    ∷ li T0 SYSTEM_OFFSET
    ∷ add T0 T0 DOM
    ∷ beq CSP T0 TEXT_CLOSE
    ∷ addi CSP CSP (negsuc 7)
    ∷ ld LINK3 (pos 0) CSP
    ∷ jump TEXT_NEXT
    ∷ tail

-- A tuple
abbrev pub text_open_lines : List Line → List Line
text_open_lines tail =
    label TEXT_OPEN
    ∷ andi T0 A1 (pos 4)
    ∷ bne T0 ZERO TEXT_INSIDE
    ∷ addi T0 LINK3 (pos 8)
    ∷ sd T0 (pos 0) CSP
    ∷ addi CSP CSP (pos 8)
    ∷ label TEXT_INSIDE
    ∷ ld LINK3 (pos 0) LINK3
    ∷ jump TEXT_NEXT
    ∷ tail

-- the bracket behind all parts
abbrev pub text_close_lines : List Line → List Line
text_close_lines tail =
    label TEXT_CLOSE
    ∷ li T0 41
    ∷ call LINK2 TEXT_BYTE
    ∷ label TEXT_END
    ∷ addi A3 DST BEFORE_TEXT
    ∷ li A2 END_UNCAUGHT
    ∷ li CUR 0
    ∷ li AUX 0
    ∷ jump STOP_RUN
    ∷ tail

-- A string in quotes
abbrev pub text_string_lines : List Line → List Line
text_string_lines tail =
    label TEXT_STRING
    ∷ li T0 34
    ∷ call LINK2 TEXT_BYTE
    ∷ ld CUR (pos 0) A0
    ∷ addi A3 A0 (pos 8)
    ∷ beq CUR ZERO TEXT_QUOTE
    ∷ tail

-- its next byte
abbrev pub text_char_lines : List Line → List Line
text_char_lines tail =
    label TEXT_CHAR
    ∷ lbu T4 (pos 0) A3
    ∷ li T0 34
    ∷ beq T4 T0 TEXT_ESCAPE
    ∷ li T0 92
    ∷ beq T4 T0 TEXT_ESCAPE
    ∷ li T0 10
    ∷ bne T4 T0 TEXT_PLAIN
    ∷ li T4 110
    ∷ tail

-- A backslash before it
abbrev pub text_escape_lines : List Line → List Line
text_escape_lines tail =
    label TEXT_ESCAPE
    ∷ li T0 92
    ∷ call LINK2 TEXT_BYTE
    ∷ label TEXT_PLAIN
    ∷ mv T0 T4
    ∷ call LINK2 TEXT_BYTE
    ∷ addi A3 A3 (pos 1)
    ∷ addi CUR CUR (negsuc 0)
    ∷ bne CUR ZERO TEXT_CHAR
    ∷ tail

-- the quote behind it
abbrev pub text_quote_lines : List Line → List Line
text_quote_lines tail =
    label TEXT_QUOTE
    ∷ li T0 34
    ∷ call LINK2 TEXT_BYTE
    ∷ jump TEXT_SHOWN
    ∷ tail

-- the routine that writes the text of an uncaught exception
abbrev pub texts_lines : List Line → List Line
texts_lines tail = text_byte_lines (uncaught_lines (text_name_lines (text_next_lines (text_part_lines (text_digits_lines (text_shown_lines (text_open_lines (text_close_lines (text_string_lines (text_char_lines (text_escape_lines (text_quote_lines tail))))))))))))
