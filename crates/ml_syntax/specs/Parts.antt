-- The list that parts of a node stand for.
use Rattle.std.specs.Prelude.{ℕ, List, [], ◌∷◌, ◌++◌, flat_map}
use Rattle.ml_syntax.specs.declared.node_depth.Parts.{Parts}
use Rattle.ml_syntax.specs.declared.node_depth.Parts.TheVariants as parts
use Rattle.ml_syntax.specs.Depth.{if_any, field_parts, clause_parts, binding_parts, rule_parts}

abbrev pub listed : Parts → List ℕ
listed parts.None = []
listed (parts.One a) = a ∷ []
listed (parts.Two a b) = a ∷ b ∷ []
listed (parts.Three a b c) = a ∷ b ∷ c ∷ []
listed (parts.Many ps) = ps.now
listed (parts.OneAndMany a ps) = a ∷ ps.now
listed (parts.ManyAndOne ps a) = ps.now ++ a ∷ []
listed (parts.TwoAndMaybe a b c) = a ∷ b ∷ if_any c
listed (parts.Fields fs) = field_parts fs.now
listed (parts.Clauses cs) = flat_map clause_parts cs.now
listed (parts.OneAndClauses a cs) = a ∷ flat_map clause_parts cs.now
listed (parts.BindingsAndOne bs a) = flat_map binding_parts bs.now ++ a ∷ []
listed (parts.RulesAndOne rs a) = flat_map rule_parts rs.now ++ a ∷ []
