use Rattle.std.proofs.Common.{◌≡◌, ◌+◌, drop, sym, subst, arith, length-drop}
use Rattle.std.specs.Prelude.{option_map}
use Rattle.ml_lexer.specs.Scan.{scan_parts}
use Rattle.ml_lexer.specs.Part.{PartIs}
use Rattle.ml_lexer.specs.declared.scan.Part.TheVariants.{Bytes}
use Rattle.ml_lexer.proofs.Ahead.{parts_ahead, rest_slice}
use Rattle.ml_lexer.proofs.scan.parts_len.Goals as goal

pub loop-at-preserved : goal.loop-at-preserved
loop-at-preserved c =
    let bs = c.args.bytes.now in
    let part = subst (λ cs. PartIs (Bytes c.in-Bytes.length) cs) (rest_slice c.loop-at.at bs) c.in-Bytes.ensures in
    let same : c.in-Bytes.length ≡ c.from-at.result = sym c.from-at.ensures in
    record {
      parts = parts_ahead bs c.loop-at.at c.from-at.result c.loop-at.invariant.parts
          (subst (λ k. scan_parts (drop c.loop-at.at bs) ≡ option_map (λ m. k + m) (scan_parts (drop k (drop c.loop-at.at bs)))) same part.2);
      within = omega (arith, part.1, length-drop c.loop-at.at bs);
    }
