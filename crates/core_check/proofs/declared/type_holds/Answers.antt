use Rattle.std.proofs.Common.{◌≡◌, ◌<◌, ap, ◌∙◌, refl, subst, ℕ, [], length, slice_get, slice_index_or, Some, None, ◌==◌, true, arith}
use Rattle.std.proofs.lemmas.Option.{slice_get_read}
use Rattle.effect_meaning.specs.Arena.{Parts}
use Rattle.effect_meaning.specs.Scoped.{texts_differ, parameters_of}
use Rattle.effect_meaning.specs.declared.core_tables.TypeRow.{TypeRow}
use Rattle.core_check.specs.Texts.{told_apart}
use Rattle.core_check.specs.Declares.{limit}
use Rattle.core_check.proofs.Lists.{and_true}
use Rattle.core_check.proofs.Apart.{apart_texts}
use Rattle.core_check.proofs.declared.type_holds.Goals as goal

pub returns : goal.returns
returns c = λ _.
    let p : Parts = c.args.arena.now in
    let t : ℕ = c.args.row in
    let r : TypeRow = c.in-Some.row.now in
    let found = c.in-Some.ensures.lookup in
    let inside : t < length p.type_rows = grind arith in
    let same : r ≡ slice_index_or p.type_rows t r = subst (λ l. r ≡ slice_index_or l t r) c.type_rows.ensures found.1 in
    let is : slice_get p.type_rows t ≡ Some r = slice_get_read p.type_rows (length p.type_rows) t r refl inside same in
    let apart : told_apart (λ x. 0) (λ x. x) [] r.parameters ≡ true = grind arith in
    let here : (limit c.args.tables.now t == c.args.count) ≡ true = grind arith in
    let parameters : parameters_of p t ≡ r.parameters = ap (λ o. elim o [ Some x ↦ x.parameters | None ↦ [] ]) is in
    and_true {a = limit c.args.tables.now t == c.args.count} {b = texts_differ (parameters_of p t)} here
    (ap texts_differ parameters ∙ apart_texts r.parameters apart)
