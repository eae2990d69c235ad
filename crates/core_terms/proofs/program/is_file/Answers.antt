use Rattle.std.proofs.Common.{◌≡◌, true, arith}
use Rattle.std.specs.Prelude.{bytes_eq}
use Rattle.std.specs.Cmp.Lexicographic.{bytes_decides}
use Rattle.core_terms.proofs.program.is_file.Goals as goal

pub returns : goal.returns
returns c = λ h.
    let same : bytes_eq c.file.result.now c.as_bytes.result.now ≡ true = grind arith in
    let equal : c.file.result.now ≡ c.as_bytes.result.now = (bytes_decides c.file.result.now c.as_bytes.result.now).0 same in
    grind (arith, equal)
