-- The log. Each definition stands in front of the lines that follow.
use Rattle.std.specs.Prelude.{ℕ, pos, negsuc, List, ◌∷◌}
use Rattle.rv_model.specs.declared.line.Line.{Line}
use Rattle.rt_layout.specs.declared.registers.TheConstants.{A0, A1, A2, A3, AUX, CALL, CUR, DST, LINK, RA, T0, T1, T3, T4, ZERO}
use Rattle.rt_layout.specs.declared.fixed.TheConstants.{CURSOR, DETAIL, END, END_LOG_FULL, LOCK, LOG, LOG_SIZE, SECOND_DETAIL, THIRD_DETAIL}
use Rattle.rt_layout.specs.declared.blocks.TheConstants.{UNIT}
use Rattle.rt_layout.specs.declared.labels.TheConstants.{LOG_FULL, PRINT_BYTES, PRINT_LOCK, PRINT_LOCK_HAS, PRINT_MOVE, PUT_BYTE, PUT_BYTES, PUT_DONE, PUT_NEXT, STOP_LOCK, STOP_LOCK_HAS, STOP_RUN}
use Rattle.rt_layout.specs.Assembly.{add, addi, amoswap, andi, beq, bltu, bne, call, ecall, jr, jump, label, lbu, ld, li, mv, or, sd, sll, slli, sub}

-- the log's lock is taken, which is tried at one label; on at the other one where this hart has it
abbrev pub take_lock_lines : ℕ → ℕ → List Line → List Line
take_lock_lines again has tail =
    label again
    ∷ li T0 LOCK
    ∷ li T1 1
    ∷ amoswap T1 T1 T0
    ∷ beq T1 ZERO has
    ∷ li A0 LOCK
    ∷ li A1 1
    ∷ li CALL 1
    ∷ ecall
    ∷ jump again
    ∷ label has
    ∷ tail

-- puts the byte x6 at x16; linked by x5
abbrev pub put_byte_lines : List Line → List Line
put_byte_lines tail =
    label PUT_BYTE
    ∷ slli T1 DST (pos 3)
    ∷ sll T0 T0 T1
    ∷ andi T1 DST (negsuc 7)
    ∷ ld T3 (pos 0) T1
    ∷ or T3 T3 T0
    ∷ sd T3 (pos 0) T1
    ∷ addi DST DST (pos 1)
    ∷ jr LINK (pos 0)
    ∷ tail

-- puts x14 bytes at x13 to x16; linked by x5
abbrev pub put_bytes_lines : List Line → List Line
put_bytes_lines tail =
    label PUT_BYTES
    ∷ beq CUR ZERO PUT_DONE
    ∷ label PUT_NEXT
    ∷ lbu T0 (pos 0) A3
    ∷ slli T1 DST (pos 3)
    ∷ sll T0 T0 T1
    ∷ andi T1 DST (negsuc 7)
    ∷ ld T3 (pos 0) T1
    ∷ or T3 T3 T0
    ∷ sd T3 (pos 0) T1
    ∷ addi DST DST (pos 1)
    ∷ addi A3 A3 (pos 1)
    ∷ addi CUR CUR (negsuc 0)
    ∷ bne CUR ZERO PUT_NEXT
    ∷ label PUT_DONE
    ∷ jr LINK (pos 0)
    ∷ tail

-- prints x14 bytes at x13, and x12 newlines (0 or 1)
abbrev pub print_bytes_lines : List Line → List Line
print_bytes_lines tail =
    label PRINT_BYTES
    ∷ take_lock_lines PRINT_LOCK PRINT_LOCK_HAS (
    ld AUX (pos CURSOR) ZERO
    ∷ add CUR CUR A2
    ∷ ld T0 (pos LOG_SIZE) ZERO
    ∷ add T4 AUX CUR
    ∷ bltu T0 T4 LOG_FULL
    ∷ sub CUR CUR A2
    ∷ addi DST AUX (pos LOG)
    ∷ call LINK PUT_BYTES
    ∷ beq A2 ZERO PRINT_MOVE
    ∷ li T0 10
    ∷ call LINK PUT_BYTE
    ∷ label PRINT_MOVE
    ∷ sd T4 (pos CURSOR) ZERO
    ∷ sd ZERO (pos LOCK) ZERO
    ∷ li A0 UNIT
    ∷ jr RA (pos 0)
    ∷ tail)

-- the log has no room for them
abbrev pub log_full_lines : List Line → List Line
log_full_lines tail =
    label LOG_FULL
    ∷ li A2 END_LOG_FULL
    ∷ mv A3 AUX
    ∷ mv AUX T0
    ∷ jump STOP_LOCK_HAS
    ∷ tail

-- ends the run: x12 is the end, x13, x14 and x15 are its details
abbrev pub stop_run_lines : List Line → List Line
stop_run_lines tail =
    label STOP_RUN
    ∷ take_lock_lines STOP_LOCK STOP_LOCK_HAS (
    sd A3 (pos DETAIL) ZERO
    ∷ sd CUR (pos SECOND_DETAIL) ZERO
    ∷ sd AUX (pos THIRD_DETAIL) ZERO
    ∷ li CALL 0
    ∷ sd A2 (pos END) ZERO
    ∷ ecall
    ∷ tail)

-- all routines
abbrev pub out_log_lines : List Line → List Line
out_log_lines tail = put_byte_lines (put_bytes_lines (print_bytes_lines (log_full_lines (stop_run_lines tail))))
