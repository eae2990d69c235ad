use Rattle.std.proofs.Common.{◌≡◌, ℕ, IsTrue, ◌∷◌, ◌++◌, [], map, length, List, Bool, true, ◌&&◌, refl, sym, ap, ◌∙◌, subst, arith, nat_lt}
use Rattle.effect_meaning.specs.Arena.{counts, clause_needs, effect_clause_needs, function_needs, type_needs, pattern_needs, term_needs, item_needs}
use Rattle.core_rules.specs.Stands.{are_met, is_met, all_below, fields_below}
use Rattle.core_rules.proofs.Needs.{patterns_met, pattern_fields_met}
use Rattle.core_rules.proofs.stands.pattern_stands.Goals as goal

pub returns-in-Tuple : goal.returns-in-Tuple
returns-in-Tuple c = rw c.in-Tuple.is (grind (arith, patterns_met (counts c.args.arena.now) c.in-Tuple.parts))

pub returns-in-Record : goal.returns-in-Record
returns-in-Record c = rw c.in-Record.is (grind (arith, pattern_fields_met (counts c.args.arena.now) c.in-Record.fields))
