use Rattle.std.proofs.Common.{◌≡◌, ◌+◌, ◌<◌, ap, refl, subst, length, slice_get, slice_index_or, Some, true, arith}
use Rattle.std.proofs.lemmas.Option.{slice_get_read}
use Rattle.effect_meaning.specs.Arena.{Parts}
use Rattle.effect_meaning.specs.declared.core_tables.ExceptionRow.{ExceptionRow}
use Rattle.core_check.specs.declared.known.Known.{Known}
use Rattle.core_check.specs.Declares.{argument_test}
use Rattle.core_check.proofs.DeclaredItems.{exception_leads}
use Rattle.core_check.proofs.declared.exception_holds.Goals as goal

pub returns : goal.returns
returns c =
    let p : Parts = c.args.arena.now in
    let k : Known = c.args.known in
    let r : ExceptionRow = c.in_ok-exception.exception.now in
    let first : c.args.row ≡ k.exceptions = grind arith in
    let found = c.in_ok-exception.ensures.lookup in
    let inside : c.args.row < length p.exception_rows = grind arith in
    let same : r ≡ slice_index_or p.exception_rows c.args.row r =
    subst (λ l. r ≡ slice_index_or l c.args.row r) c.exception_rows.ensures.exception_rows found.1 in
    let is : slice_get p.exception_rows c.args.row ≡ Some r = slice_get_read p.exception_rows (length p.exception_rows) c.args.row r refl inside same in
    let test : argument_test c.args.tables.now k r.argument ≡ true = grind arith in
    let count : c.in_ok-exceptions.exceptions ≡ c.args.row + 1 = grind arith in
    exception_leads p c.args.tables.now k (record k { exceptions = c.in_ok-exceptions.exceptions }) c.args.row r first is test
    (ap (λ n. record k { exceptions = n }) count)
