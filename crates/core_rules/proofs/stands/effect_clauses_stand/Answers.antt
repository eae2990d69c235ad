use Rattle.std.proofs.Common.{◌≡◌, ℕ, IsTrue, ◌∷◌, ◌++◌, [], map, length, List, Bool, true, ◌&&◌, refl, sym, ap, ◌∙◌, subst, arith, nat_lt}
use Rattle.effect_meaning.specs.Arena.{counts, clause_needs, effect_clause_needs, function_needs, type_needs, pattern_needs, term_needs, item_needs}
use Rattle.core_rules.specs.Stands.{are_met, is_met, all_below, fields_below}
use Rattle.core_rules.proofs.Needs.{effect_clauses_met}
use Rattle.core_rules.proofs.stands.effect_clauses_stand.Goals as goal

pub returns : goal.returns
returns c = c.each_of_effect_clauses_stands.ensures ∙ sym (effect_clauses_met (counts c.args.arena.now) c.args.clauses.now)
