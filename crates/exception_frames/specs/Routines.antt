-- Exception frames. Each definition stands in front of the lines that follow.
use Rattle.std.specs.Prelude.{pos, List, ◌∷◌}
use Rattle.rv_model.specs.declared.line.Line.{Line}
use Rattle.rt_layout.specs.declared.registers.TheConstants.{A0, A1, AUX, CUR, EXN, FIBER, LINK, NEW, STATIC, T0, T1, T3}
use Rattle.rt_layout.specs.declared.blocks.TheConstants.{TAG_PLAIN}
use Rattle.rt_layout.specs.declared.statics.TheConstants.{EXN_MATCH_FAILURE, S_FILE}
use Rattle.rt_layout.specs.declared.labels.TheConstants.{MATCH_FAIL, POP_TRY, PUSH_TRY, RAISE, RAISE_NEW}
use Rattle.rt_layout.specs.Block.{header_of, tagged_of}
use Rattle.rt_layout.specs.Assembly.{add, addi, jr, jump, label, ld, li, mv, sd, slli, srli, sub}
use Rattle.rt_layout.specs.Allocation.{new_block_lines, header_lines}

-- puts an exception frame into the slot at x6; linked by x5: the handler's code is there, and the body's four bytes behind
abbrev pub push_try_lines : List Line → List Line
push_try_lines tail =
    label PUSH_TRY
    ∷ slli T3 EXN (pos 20)
    ∷ add T3 T3 LINK
    ∷ sd T3 (pos 0) T0
    ∷ sub EXN FIBER T0
    ∷ jr LINK (pos 4)
    ∷ tail

-- the body's value meets its frame, whose word is in x6; x10 stays; linked by x5
abbrev pub pop_try_lines : List Line → List Line
pop_try_lines tail =
    label POP_TRY
    ∷ srli EXN T0 (pos 20)
    ∷ jr LINK (pos 0)
    ∷ tail

-- raises x10. The handler gets x10, and in x6 the address of its frame's slot
abbrev pub raise_lines : List Line → List Line
raise_lines tail =
    label RAISE
    ∷ sub T0 FIBER EXN
    ∷ ld T1 (pos 0) T0
    ∷ srli EXN T1 (pos 20)
    ∷ slli T3 EXN (pos 20)
    ∷ sub T1 T1 T3
    ∷ jr T1 (pos 0)
    ∷ tail

-- makes an exception of the constructor's word in x14 and the argument in x15, and raises it
abbrev pub raise_new_lines : List Line → List Line
raise_new_lines tail =
    label RAISE_NEW
    ∷ new_block_lines NEW 3 (header_of 2 TAG_PLAIN) (
    sd CUR (pos 0) NEW
    ∷ sd AUX (pos 8) NEW
    ∷ mv A0 NEW
    ∷ jump RAISE
    ∷ tail)

-- raises `Match_failure` at the line x10 and the column x11
abbrev pub match_fail_lines : List Line → List Line
match_fail_lines tail =
    label MATCH_FAIL
    ∷ new_block_lines NEW 7 (header_of 3 TAG_PLAIN) (
    ld T0 S_FILE STATIC
    ∷ sd T0 (pos 0) NEW
    ∷ sd A0 (pos 8) NEW
    ∷ sd A1 (pos 16) NEW
    ∷ header_lines NEW (pos 24) 7 (header_of 2 TAG_PLAIN) (
    li T0 (tagged_of EXN_MATCH_FAILURE)
    ∷ sd T0 (pos 32) NEW
    ∷ sd NEW (pos 40) NEW
    ∷ addi A0 NEW (pos 32)
    ∷ jump RAISE
    ∷ tail))

-- all routines
abbrev pub exception_frames_lines : List Line → List Line
exception_frames_lines tail = push_try_lines (pop_try_lines (raise_lines (raise_new_lines (match_fail_lines tail))))
