-- The tree of each node of an arena, and what stands there for it.
use Rattle.std.proofs.Common.{◌≡◌, ℕ, zero, suc, ◌+◌, ◌<◌, List, [], ◌∷◌, map, length, slice_get, slice_index_or, Some, refl, ◌∙◌, ap, subst, arith}
use Rattle.std.proofs.lemmas.Option.{slice_get_within, get_or_from_slice_get}
use Rattle.effect_meaning.specs.declared.core_nodes.TypeExpression.{TypeExpression}
use Rattle.effect_meaning.specs.declared.core_nodes.TypeExpression.TheVariants as type
use Rattle.effect_meaning.specs.declared.core_nodes.PatternNode.{PatternNode}
use Rattle.effect_meaning.specs.declared.core_nodes.TermNode.{TermNode}
use Rattle.effect_meaning.specs.Arena.{Parts, Counts, counts, AType, AllMet, IsArena, types_below, patterns_below, terms_below, type_needs, pattern_needs, term_needs}
use Rattle.effect_meaning.specs.ArenaTrees.{type_at, pattern_at, term_at, type_tree, pattern_tree, term_tree, types_of, patterns_of, terms_of, place_of}
use Rattle.effect_meaning.proofs.NodeTrees.{type_at_node, pattern_at_node, term_at_node, stands_at}
use Rattle.type_readings.specs.WellFormed.{AreNumbers}

-- below the length of a list an element is got
pub got_there : {X : Type 0} (xs : List X) (n : ℕ) → n < length xs → (x : X) × (slice_get xs n ≡ Some x)
got_there [] n low = absurd (omega arith)
got_there (y ∷ ys) zero low = (y, refl)
got_there (y ∷ ys) (suc n) low = got_there ys n (omega arith)

-- the numbers of types that are met are below
pub types_met : (c : Counts) (ns : List ℕ) → AllMet c (map AType ns) → AreNumbers c.types ns
types_met c [] met = tt
types_met c (n ∷ ns) met = (met.0, types_met c ns met.1)

module _ (p : Parts) (arena : IsArena p) (n : ℕ) where
  -- a written type
  module _ (node : TypeExpression) (is : slice_get p.types n ≡ Some node) where
    pub type_is_tree : type_at (types_of p) n ≡ type_tree (types_of p) node
    type_is_tree =
        type_at_node p n node arena (slice_get_within p.types n node is)
        ∙ ap (type_tree (types_of p)) (get_or_from_slice_get p.types n node node is)

    pub type_met : AllMet (types_below (counts p) n) (type_needs node)
    type_met =
        let at = stands_at type_needs (types_below (counts p)) 0 n p.types node arena.types (slice_get_within p.types n node is) in
        let from : 0 + n ≡ n = omega arith in
        subst (λ t. AllMet (types_below (counts p) n) (type_needs t)) (get_or_from_slice_get p.types n node node is)
        (subst (λ k. AllMet (types_below (counts p) k) (type_needs (slice_index_or p.types n node))) from at)

  -- its arguments stand before it
  pub arguments_below :
      (c : ℕ) (ns : List ℕ) → slice_get p.types n ≡ Some (type.Applied c ns) → AreNumbers n ns
  arguments_below c ns is = types_met (types_below (counts p) n) ns (type_met (type.Applied c ns) is).1

  -- a pattern
  module _ (node : PatternNode) (is : slice_get p.patterns n ≡ Some node) where
    pub pattern_is_tree : pattern_at (patterns_of p) n ≡ pattern_tree (types_of p) (patterns_of p) node.form
    pattern_is_tree =
        pattern_at_node p n node arena (slice_get_within p.patterns n node is)
        ∙ ap (λ (q : PatternNode). pattern_tree (types_of p) (patterns_of p) q.form)
        (get_or_from_slice_get p.patterns n node node is)

    pub pattern_met : AllMet (patterns_below (counts p) n) (pattern_needs node.form)
    pattern_met =
        let at = stands_at (λ (q : PatternNode). pattern_needs q.form) (patterns_below (counts p)) 0 n p.patterns node
        arena.patterns
        (slice_get_within p.patterns n node is) in
        let from : 0 + n ≡ n = omega arith in
        subst (λ (q : PatternNode). AllMet (patterns_below (counts p) n) (pattern_needs q.form))
        (get_or_from_slice_get p.patterns n node node is)
        (subst (λ k. AllMet (patterns_below (counts p) k) (pattern_needs (slice_index_or p.patterns n node).form)) from at)

  -- a term
  module _ (node : TermNode) (is : slice_get p.terms n ≡ Some node) where
    pub term_is_tree : term_at (terms_of p) n ≡ term_tree (types_of p) (patterns_of p) (place_of node.place) (terms_of p) node.form
    term_is_tree =
        term_at_node p n node arena (slice_get_within p.terms n node is)
        ∙ ap (λ (t : TermNode). term_tree (types_of p) (patterns_of p) (place_of t.place) (terms_of p) t.form)
        (get_or_from_slice_get p.terms n node node is)

    pub term_met : AllMet (terms_below (counts p) n) (term_needs node.form)
    term_met =
        let at = stands_at (λ (t : TermNode). term_needs t.form) (terms_below (counts p)) 0 n p.terms node arena.terms
        (slice_get_within p.terms n node is) in
        let from : 0 + n ≡ n = omega arith in
        subst (λ (t : TermNode). AllMet (terms_below (counts p) n) (term_needs t.form))
        (get_or_from_slice_get p.terms n node node is)
        (subst (λ k. AllMet (terms_below (counts p) k) (term_needs (slice_index_or p.terms n node).form)) from at)
