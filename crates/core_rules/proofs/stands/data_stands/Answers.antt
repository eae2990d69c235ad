use Rattle.std.proofs.Common.{◌≡◌, ℕ, IsTrue, ◌∷◌, ◌++◌, [], map, length, List, Bool, true, ◌&&◌, refl, sym, ap, ◌∙◌, subst, arith, nat_lt}
use Rattle.effect_meaning.specs.Arena.{counts, clause_needs, effect_clause_needs, function_needs, type_needs, pattern_needs, term_needs, item_needs}
use Rattle.core_rules.specs.Stands.{are_met, is_met, all_below, fields_below}
use Rattle.core_rules.proofs.Needs.{terms_met, term_fields_met}
use Rattle.core_rules.proofs.stands.data_stands.Goals as goal

pub returns-in-Tuple : goal.returns-in-Tuple
returns-in-Tuple c = rw c.in-Tuple.is (grind (arith, terms_met (counts c.args.arena.now) c.in-Tuple.parts))

pub returns-in-Record : goal.returns-in-Record
returns-in-Record c = rw c.in-Record.is (grind (arith, term_fields_met (counts c.args.arena.now) c.in-Record.fields))

pub returns-in-Array : goal.returns-in-Array
returns-in-Array c = rw c.in-Array.is (grind (arith, terms_met (counts c.args.arena.now) c.in-Array.parts))

pub returns-in-Primitive : goal.returns-in-Primitive
returns-in-Primitive c = rw c.in-Primitive.is (grind (arith, terms_met (counts c.args.arena.now) c.in-Primitive.parts))
