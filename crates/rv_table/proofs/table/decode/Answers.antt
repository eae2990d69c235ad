use Rattle.std.proofs.Common.{◌≡◌, ◌^◌, ◌<◌, Option, Some, None, map, get_or, refl, sym, ap, ◌∙◌, subst, arith}
use Rattle.std.specs.Prelude.{position, IsNone}
use Rattle.rv_model.specs.declared.instr.Op.TheVariants.{Add}
use Rattle.rv_model.specs.Table.{ops}
use Rattle.rv_model.proofs.Decoding.{bits_of-decoded, decoded-well_formed}
use Rattle.rv_table.specs.declared.rows.Row.{Row}
use Rattle.rv_table.specs.Seen.{instr_fields, seen_parts}
use Rattle.rv_table.specs.Rows.{row_of, has_bits}
use Rattle.rv_table.proofs.Finding.{decoded-found, decoded-not_found, none-no_row, no_row-none}
use Rattle.rv_table.proofs.table.decode.Goals as goal

pub returns-clause-is : goal.returns-clause-is
returns-clause-is c =
    let lt : c.args.word < 2 ^ 32 = omega arith in
    let at : position (has_bits c.args.word) (map row_of ops) ≡ Some c.in_ok-row.row = sym c.find.ensures ∙ c.in_ok-row.was in
    let d : Row = record { mask = 0; bits = 0; op = Add } in
    let e : c.read_as.result ≡ instr_fields (get_or (map row_of ops) c.in_ok-row.row d).op (seen_parts c.of.result) = c.read_as.ensures in
    ap Some (e ∙ ap (instr_fields (get_or (map row_of ops) c.in_ok-row.row d).op) c.of.ensures)
    ∙ sym (decoded-found c.args.word c.in_ok-row.row d lt at)

pub returns-in_err-row-clause-is : goal.returns-in_err-row-clause-is
returns-in_err-row-clause-is c =
    let lt : c.args.word < 2 ^ 32 = omega arith in
    let e : position (has_bits c.args.word) (map row_of ops) ≡ None = sym c.find.ensures ∙ c.in_err-row.was in
    c.from_residual.ensures ∙ sym (decoded-not_found c.args.word lt e)

pub returns-clause-back : goal.returns-clause-back
returns-clause-back c = bits_of-decoded c.args.word c.read_as.result (sym (returns-clause-is c))

pub returns-clause-well_formed : goal.returns-clause-well_formed
returns-clause-well_formed c = decoded-well_formed c.args.word c.read_as.result (sym (returns-clause-is c))

pub returns-clause-none : goal.returns-clause-none
returns-clause-none c =
    let lt : c.args.word < 2 ^ 32 = omega arith in
    (λ e. absurd (cc), λ h. absurd (some_none c.read_as.result (returns-clause-is c ∙ no_row-none c.args.word lt h)))
  where
    some_none : {A : Type 0} (a : A) → Some a ≡ None → ⊥
    some_none a e = cc

pub returns-in_err-row-clause-none : goal.returns-in_err-row-clause-none
returns-in_err-row-clause-none c =
    let lt : c.args.word < 2 ^ 32 = omega arith in
    (λ e. none-no_row c.args.word lt (sym (returns-in_err-row-clause-is c) ∙ c.from_residual.ensures), λ h. is_none c.from_residual.result c.from_residual.ensures)
  where
    is_none : {A : Type 0} (r : Option A) → r ≡ None → IsNone r
    is_none r e = subst IsNone (sym e) refl
