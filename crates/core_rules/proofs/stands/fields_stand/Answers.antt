use Rattle.std.proofs.Common.{◌≡◌, ℕ, IsTrue, ◌∷◌, ◌++◌, [], map, length, List, Bool, true, ◌&&◌, refl, sym, ap, ◌∙◌, subst, arith, nat_lt}
use Rattle.effect_meaning.specs.Arena.{counts, clause_needs, effect_clause_needs, function_needs, type_needs, pattern_needs, term_needs, item_needs}
use Rattle.core_rules.specs.Stands.{are_met, is_met, all_below, fields_below}
use Rattle.core_rules.proofs.Needs.{fields_below_is}
use Rattle.core_rules.proofs.stands.fields_stand.Goals as goal

pub returns : goal.returns
returns c =
    subst (λ l. c.each_field_is_there.result ≡ fields_below (length l) c.args.parts c.args.fields.now) c.field_rows.ensures.field_rows
    (c.each_field_is_there.ensures ∙ fields_below_is (length c.field_rows.result.now) c.args.parts c.args.fields.now)
