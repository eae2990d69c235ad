-- Operations. Each definition stands in front of the lines that follow.
use Rattle.std.specs.Prelude.{pos, List, ◌∷◌}
use Rattle.rv_model.specs.declared.line.Line.{Line}
use Rattle.rt_layout.specs.declared.registers.TheConstants.{A0, A1, A2, A3, CUR, DST, LINK, LINK2, NEW, RA, T0, T1, T4}
use Rattle.rt_layout.specs.declared.blocks.TheConstants.{HEADER, TAG_STRING}
use Rattle.rt_layout.specs.declared.statics.TheConstants.{EXN_INVALID_ARGUMENT, S_CHAR_CHR, S_INDEX_OUT_OF_BOUNDS, S_STRING_SUB}
use Rattle.rt_layout.specs.declared.labels.TheConstants.{ALLOC_LARGE, CHR_BAD, CONCAT, DIGITS, INDEX_BAD, NEW_STRING, PUT_BYTES, STRING_COPY, STRING_OF_INT, STRING_SUB, SUB_BAD}
use Rattle.rt_layout.specs.Assembly.{add, addi, bltu, call, jr, jump, label, ld, mv, sd, slli, srai, srli, sub}
use Rattle.rt_layout.specs.Shared.{raise_text_lines}

-- makes a string of x14 bytes, all 0: x30, its bytes at x16; linked by x31
abbrev pub new_string_lines : List Line → List Line
new_string_lines tail =
    label NEW_STRING
    ∷ addi T4 CUR (pos 7)
    ∷ srli T4 T4 (pos 3)
    ∷ addi T1 T4 (pos 2)
    ∷ call LINK ALLOC_LARGE
    ∷ addi T4 T4 (pos 1)
    ∷ slli T4 T4 (pos 10)
    ∷ addi T4 T4 (pos TAG_STRING)
    ∷ sd T4 HEADER NEW
    ∷ sd CUR (pos 0) NEW
    ∷ addi DST NEW (pos 8)
    ∷ jr LINK2 (pos 0)
    ∷ tail

-- the decimal text of an integer
abbrev pub string_of_int_lines : List Line → List Line
string_of_int_lines tail =
    label STRING_OF_INT
    ∷ call LINK DIGITS
    ∷ call LINK2 NEW_STRING
    ∷ label STRING_COPY
    ∷ call LINK PUT_BYTES
    ∷ mv A0 NEW
    ∷ jr RA (pos 0)
    ∷ tail

-- the strings x10 and x11 one behind the other
abbrev pub concat_lines : List Line → List Line
concat_lines tail =
    label CONCAT
    ∷ ld T0 (pos 0) A0
    ∷ ld CUR (pos 0) A1
    ∷ add CUR CUR T0
    ∷ call LINK2 NEW_STRING
    ∷ ld CUR (pos 0) A0
    ∷ addi A3 A0 (pos 8)
    ∷ call LINK PUT_BYTES
    ∷ ld CUR (pos 0) A1
    ∷ addi A3 A1 (pos 8)
    ∷ jump STRING_COPY
    ∷ tail

-- the part of the string x10 that begins at x11 and has x12 bytes
abbrev pub string_sub_lines : List Line → List Line
string_sub_lines tail =
    label STRING_SUB
    ∷ srai A1 A1 (pos 1)
    ∷ srai A2 A2 (pos 1)
    ∷ ld T0 (pos 0) A0
    ∷ bltu T0 A1 SUB_BAD
    ∷ sub T0 T0 A1
    ∷ bltu T0 A2 SUB_BAD
    ∷ mv CUR A2
    ∷ call LINK2 NEW_STRING
    ∷ add A3 A0 A1
    ∷ addi A3 A3 (pos 8)
    ∷ jump STRING_COPY
    ∷ tail

-- it isn't within the string
abbrev pub sub_bad_lines : List Line → List Line
sub_bad_lines tail =
    label SUB_BAD
    ∷ raise_text_lines EXN_INVALID_ARGUMENT S_STRING_SUB tail

-- raises `Invalid_argument` for an index
abbrev pub index_bad_lines : List Line → List Line
index_bad_lines tail =
    label INDEX_BAD
    ∷ raise_text_lines EXN_INVALID_ARGUMENT S_INDEX_OUT_OF_BOUNDS tail

-- raises `Invalid_argument` for `Char.chr`
abbrev pub chr_bad_lines : List Line → List Line
chr_bad_lines tail =
    label CHR_BAD
    ∷ raise_text_lines EXN_INVALID_ARGUMENT S_CHAR_CHR tail

-- the routines that make strings
abbrev pub strings_lines : List Line → List Line
strings_lines tail = new_string_lines (string_of_int_lines (concat_lines (string_sub_lines (sub_bad_lines (index_bad_lines (chr_bad_lines tail))))))
