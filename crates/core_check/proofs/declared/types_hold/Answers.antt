use Rattle.std.proofs.Common.{◌≡◌, ◌+◌, ◌∙◌, subst, [], length, true, arith}
use Rattle.std.specs.Prelude.{drop}
use Rattle.std.specs.List.{list_all}
use Rattle.effect_meaning.specs.Arena.{Parts}
use Rattle.effect_meaning.specs.Scoped.{go_up, type_name}
use Rattle.core_check.specs.declared.known.Known.{Known}
use Rattle.core_check.specs.Texts.{told_apart}
use Rattle.core_check.specs.Declares.{type_test, front, is_between}
use Rattle.core_check.proofs.DeclaredItems.{types_lead}
use Rattle.core_check.proofs.declared.types_hold.Goals as goal

pub returns : goal.returns
returns c =
    let p : Parts = c.args.arena.now in
    let k : Known = c.args.known in
    let ts = c.args.rows.now in
    let later : Known = c.in-Some-behind_types.later in
    let says = c.in-Some-behind_types.ensures in
    let count : c.in-Some.count ≡ k.types + length ts = grind arith in
    let up : go_up k.types ts ≡ true = grind arith in
    let apart : told_apart (λ t. 0) (type_name p) [] ts ≡ true = grind arith in
    let each : list_all (type_test p c.args.tables.now c.in-Some.count) ts ≡ true = grind arith in
    let test : list_all (type_test p c.args.tables.now (k.types + length ts)) ts ≡ true =
    subst (λ n. list_all (type_test p c.args.tables.now n) ts ≡ true) count each in
    let variants : later.variants ≡ k.variants + front (λ r. is_between k.types (k.types + length ts) r.of_type) (drop k.variants p.variant_rows) =
    subst (λ n. later.variants ≡ k.variants + front (λ r. is_between k.types n r.of_type) (drop k.variants p.variant_rows)) count says.variants in
    let fields : later.fields ≡ k.fields + front (λ r. is_between k.types (k.types + length ts) r.of_type) (drop k.fields p.field_rows) =
    subst (λ n. later.fields ≡ k.fields + front (λ r. is_between k.types n r.of_type) (drop k.fields p.field_rows)) count says.fields in
    types_lead p c.args.tables.now k later ts up apart test (says.types ∙ count) variants fields says.exceptions says.effects
