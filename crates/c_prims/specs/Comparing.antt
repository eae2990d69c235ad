-- Operations. Each definition stands in front of the lines that follow.
use Rattle.std.specs.Prelude.{pos, negsuc, List, ◌∷◌}
use Rattle.rv_model.specs.declared.line.Line.{Line}
use Rattle.rt_layout.specs.declared.registers.TheConstants.{LINK, LINK2, NEW, T0, T1, T3, T4, ZERO}
use Rattle.rt_layout.specs.declared.parts.TheConstants.{MINUS_ONE}
use Rattle.rt_layout.specs.declared.labels.TheConstants.{STR_BOTH, STR_BYTES, STR_DIFFER, STR_END, STR_EQUAL, STR_GREATER, STR_LESS, STR_ORDER, STR_SAME, STR_WORDS}
use Rattle.rt_layout.specs.Assembly.{addi, beq, bltu, bne, jr, label, lbu, ld, li, srli}

-- x6 is 1 where the strings x30 and x7 are equal, else 0; linked by x5
abbrev pub str_same_lines : List Line → List Line
str_same_lines tail =
    label STR_SAME
    ∷ ld T0 (pos 0) NEW
    ∷ ld T3 (pos 0) T1
    ∷ bne T0 T3 STR_DIFFER
    ∷ addi T0 T0 (pos 7)
    ∷ srli T0 T0 (pos 3)
    ∷ beq T0 ZERO STR_EQUAL
    ∷ tail

-- looks at the next word
abbrev pub str_words_lines : List Line → List Line
str_words_lines tail =
    label STR_WORDS
    ∷ addi NEW NEW (pos 8)
    ∷ addi T1 T1 (pos 8)
    ∷ ld T3 (pos 0) NEW
    ∷ ld T4 (pos 0) T1
    ∷ bne T3 T4 STR_DIFFER
    ∷ addi T0 T0 (negsuc 0)
    ∷ bne T0 ZERO STR_WORDS
    ∷ label STR_EQUAL
    ∷ li T0 1
    ∷ jr LINK (pos 0)
    ∷ label STR_DIFFER
    ∷ li T0 0
    ∷ jr LINK (pos 0)
    ∷ tail

-- x6 is -1, 0 or 1 as the string x30 stands before, at or behind x31; linked by x5
abbrev pub str_order_lines : List Line → List Line
str_order_lines tail =
    label STR_ORDER
    ∷ ld T0 (pos 0) NEW
    ∷ ld T1 (pos 0) LINK2
    ∷ beq T0 ZERO STR_END
    ∷ beq T1 ZERO STR_GREATER
    ∷ tail

-- looks at the next byte
abbrev pub str_bytes_lines : List Line → List Line
str_bytes_lines tail =
    label STR_BYTES
    ∷ lbu T3 (pos 8) NEW
    ∷ lbu T4 (pos 8) LINK2
    ∷ bltu T3 T4 STR_LESS
    ∷ bltu T4 T3 STR_GREATER
    ∷ addi NEW NEW (pos 1)
    ∷ addi LINK2 LINK2 (pos 1)
    ∷ addi T0 T0 (negsuc 0)
    ∷ addi T1 T1 (negsuc 0)
    ∷ beq T0 ZERO STR_END
    ∷ bne T1 ZERO STR_BYTES
    ∷ tail

-- x30 is the greater one
abbrev pub str_greater_lines : List Line → List Line
str_greater_lines tail =
    label STR_GREATER
    ∷ li T0 1
    ∷ jr LINK (pos 0)
    ∷ label STR_END
    ∷ beq T1 ZERO STR_BOTH
    ∷ label STR_LESS
    ∷ li T0 MINUS_ONE
    ∷ jr LINK (pos 0)
    ∷ label STR_BOTH
    ∷ li T0 0
    ∷ jr LINK (pos 0)
    ∷ tail

-- the routines that compare strings
abbrev pub comparing_lines : List Line → List Line
comparing_lines tail = str_same_lines (str_words_lines (str_order_lines (str_bytes_lines (str_greater_lines tail))))
