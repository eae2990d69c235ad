use Rattle.std.proofs.Common.{◌≡◌, ℕ, IsTrue, ◌∷◌, ◌++◌, [], map, length, List, Bool, true, ◌&&◌, refl, sym, ap, ◌∙◌, subst, arith, nat_lt}
use Rattle.effect_meaning.specs.Arena.{counts, clause_needs, effect_clause_needs, function_needs, type_needs, pattern_needs, term_needs, item_needs}
use Rattle.core_rules.specs.Stands.{are_met, is_met, all_below, fields_below}
use Rattle.core_rules.proofs.Needs.{types_met}
use Rattle.core_rules.proofs.stands.type_stands.Goals as goal

pub returns-then-is_there : goal.returns-then-is_there
returns-then-is_there c = rw c.in-Applied.is (grind (arith, types_met (counts c.args.arena.now) c.in-Applied.arguments))
