use Rattle.std.proofs.Common.{◌/◌, [], ◌∷◌, ◌++◌, get_or, ap, ◌∙◌, arith}
use Rattle.std.proofs.lemmas.Option.{slice_get-get_or}
use Rattle.rv_asm.proofs.Printing.{hex_none, hex_more, before_all}
use Rattle.rv_asm.specs.Text.{hex_digit, hex_bytes}
use Rattle.rv_asm.proofs.text.put_hex.Goals as goal

pub loop-byte-init : goal.loop-byte-init
loop-byte-init c = before_all c.args.text.now.items (hex_bytes _) hex_none

pub loop-byte-preserved : goal.loop-byte-preserved
loop-byte-preserved c =
    let at = slice_get-get_or c.args.bytes.now c.loop-byte.byte-index 0 (omega arith) in
    let byte = get_or c.args.bytes.now c.loop-byte.byte-index 0 in
    c.in_ok-push-2.ensures.items
    ∙ ap (λ l. l ++ c.hex_digit-in-loop-byte.result ∷ []) c.in_ok-push.ensures.items
    ∙ ap (λ n. (c.loop-byte.text.items ++ n ∷ []) ++ c.hex_digit-in-loop-byte.result ∷ []) c.hex_digit.ensures
    ∙ ap (λ n. (c.loop-byte.text.items ++ hex_digit (byte / 16) ∷ []) ++ n ∷ []) c.hex_digit-in-loop-byte.ensures
    ∙ hex_more c.args.bytes.now c.loop-byte.text.items c.args.text.now.items c.loop-byte.byte-index byte at c.loop-byte.invariant
