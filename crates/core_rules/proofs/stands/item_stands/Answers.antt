use Rattle.std.proofs.Common.{◌≡◌, ℕ, IsTrue, ◌∷◌, ◌++◌, [], map, length, List, Bool, true, ◌&&◌, refl, sym, ap, ◌∙◌, subst, arith, nat_lt}
use Rattle.effect_meaning.specs.Arena.{counts, clause_needs, effect_clause_needs, function_needs, type_needs, pattern_needs, term_needs, item_needs}
use Rattle.core_rules.specs.Stands.{are_met, is_met, all_below, fields_below}
use Rattle.core_rules.proofs.Needs.{type_rows_met, effect_rows_met}
use Rattle.core_rules.proofs.stands.item_stands.Goals as goal

pub returns-in-Types : goal.returns-in-Types
returns-in-Types c = rw c.in-Types.is (grind (arith, type_rows_met (counts c.args.arena.now) c.in-Types.rows))

pub returns-then-is_there : goal.returns-then-is_there
returns-then-is_there c = rw c.in-Effects.is (grind (arith, effect_rows_met (counts c.args.arena.now) c.in-Effects.effects))
