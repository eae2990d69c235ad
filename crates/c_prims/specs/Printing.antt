-- Operations. Each definition stands in front of the lines that follow.
use Rattle.std.specs.Prelude.{ℕ, pos, List, ◌∷◌}
use Rattle.rv_model.specs.declared.line.Line.{Line}
use Rattle.rt_layout.specs.declared.registers.TheConstants.{A0, A2, A3, CUR, DOM, LINK}
use Rattle.rt_layout.specs.declared.parts.TheConstants.{M_DIGITS}
use Rattle.rt_layout.specs.declared.labels.TheConstants.{DIGITS, PRINT_BYTES, PRINT_CHAR, PRINT_ENDLINE, PRINT_INT, PRINT_NEWLINE, PRINT_STRING}
use Rattle.rt_layout.specs.Assembly.{addi, call, jump, label, ld, li, sd, srai}

-- the string x10 is printed, and so many newlines
abbrev pub print_text_lines : ℕ → ℕ → List Line → List Line
print_text_lines start newlines tail =
    label start
    ∷ ld CUR (pos 0) A0
    ∷ addi A3 A0 (pos 8)
    ∷ li A2 newlines
    ∷ jump PRINT_BYTES
    ∷ tail

-- prints an integer
abbrev pub print_int_lines : List Line → List Line
print_int_lines tail =
    label PRINT_INT
    ∷ call LINK DIGITS
    ∷ li A2 0
    ∷ jump PRINT_BYTES
    ∷ tail

-- prints a character
abbrev pub print_char_lines : List Line → List Line
print_char_lines tail =
    label PRINT_CHAR
    ∷ srai A0 A0 (pos 1)
    ∷ sd A0 M_DIGITS DOM
    ∷ addi A3 DOM M_DIGITS
    ∷ li CUR 1
    ∷ li A2 0
    ∷ jump PRINT_BYTES
    ∷ tail

-- prints a newline
abbrev pub print_newline_lines : List Line → List Line
print_newline_lines tail =
    label PRINT_NEWLINE
    ∷ li CUR 0
    ∷ li A2 1
    ∷ jump PRINT_BYTES
    ∷ tail

-- the routines that print
abbrev pub printing_lines : List Line → List Line
printing_lines tail = print_int_lines (print_char_lines (print_text_lines PRINT_STRING 0 (print_text_lines PRINT_ENDLINE 1 (print_newline_lines tail))))
