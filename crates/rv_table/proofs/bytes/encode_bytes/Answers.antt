use Rattle.std.proofs.Common.{◌≡◌, ℕ, ◌^◌, ◌<◌, ap, ◌∙◌, arith}
use Rattle.rv_model.specs.Table.{bytes_of, decoded}
use Rattle.rv_table.specs.Rows.{word_from}
use Rattle.rv_table.proofs.bytes.encode_bytes.Goals as goal

-- a word is that of its bytes
word_from-bytes_of : (w : ℕ) → w < 2 ^ 32 → word_from (bytes_of w) ≡ w
word_from-bytes_of w h = omega (arith, h)

pub returns-clause-back : goal.returns-clause-back
returns-clause-back c =
    ap (λ bytes. decoded (word_from bytes)) c.write_u32.ensures
    ∙ ap decoded (word_from-bytes_of c.encode.result c.encode.type_inv)
    ∙ c.encode.ensures.back
