use Rattle.std.proofs.Common.{sym}
use Rattle.ml_lexer.proofs.Ahead.{rest_slice}
use Rattle.ml_lexer.proofs.Turns.{turn_opens, turn_closes, turn_text, turn_character, turn_other, positive}
use Rattle.ml_lexer.proofs.comments.turn_at.Goals as goal

pub returns-then-opens : goal.returns-then-opens
returns-then-opens c = turn_opens _ (sym c.if-opens.ensures.value)

pub returns-then-closes : goal.returns-then-closes
returns-then-closes c = turn_closes _ (sym c.if-opens.ensures.value) (sym c.if-closes.ensures)

pub returns-in-Some : goal.returns-in-Some
returns-in-Some c = λ d. turn_text c.args.bytes.now _ c.in-Some.length (rest_slice 1 c.args.bytes.now) (sym c.if-opens.ensures.value) (sym c.if-closes.ensures) (positive _ c.if-is_empty.ensures) c.if-bytes-eq34.true (sym c.in-Some.ensures.value) c.in-Some.ensures.bound d

pub returns-in-Some-character_len : goal.returns-in-Some-character_len
returns-in-Some-character_len c = λ d. turn_character c.args.bytes.now c.in-Some-character_len.length (sym c.if-opens.ensures.value) (sym c.if-closes.ensures) (positive _ c.if-is_empty.ensures) c.if-bytes-eq34.false (sym c.in-Some-character_len.ensures.value) c.in-Some-character_len.ensures.bound.0 c.in-Some-character_len.ensures.bound.1 d

pub returns-in-None-character_len : goal.returns-in-None-character_len
returns-in-None-character_len c = λ d. turn_other c.args.bytes.now (sym c.if-opens.ensures.value) (sym c.if-closes.ensures) (positive _ c.if-is_empty.ensures) c.if-bytes-eq34.false (sym c.in-None-character_len.ensures.value) d
