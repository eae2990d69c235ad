-- The laws of unification.
use Rattle.std.proofs.Common.{◌≡◌, ℕ, zero, suc, ◌==◌, nat_lt, ◌∙◌, ◌+◌, ◌*◌, ◌≤◌, Bool, true, false, List, [], ◌∷◌, length, refl, subst, arith}
use Rattle.std.specs.Prelude.{slice_index_or}
use Rattle.std.proofs.Math.Nat.{mul-le-mul, mul-le-mul_right}
use Rattle.std.proofs.lemmas.List.Sums.{sum_by-le}
use Rattle.type_terms.specs.TypeTrees.{Ty, TypeVariable}
use Rattle.type_graph.specs.declared.types.Node.{Node}
use Rattle.type_graph.specs.Graph.{Graph, node_at, root}
use Rattle.std.proofs.lemmas.List.{length-set}
use Rattle.type_graph.specs.Unified.{Pairs, pairs, clash, linked, is_given, merge, merged, argument_pairs, roots_joined, onward, Unified, unified, unified_is}
use Rattle.type_readings.specs.WellFormed.{ArePairs, IsWellFormed}
use Rattle.type_readings.specs.Laws.{KeepsForm, KeepsNumbers, Equates, LosesNone, RefusesRightly, DecidesPair}
use Rattle.type_readings.proofs.Behind.{one_for, roots, one_at_most, if_either}
use Rattle.type_readings.proofs.Steps.{Outcome, outcome}

-- what came of it
came :
    (f : ℕ → Ty) (steps : ℕ) (ps : List (ℕ × ℕ)) (g h : Graph) (fits : Bool) → IsWellFormed g → ArePairs (length g.nodes) ps
    → unified steps ps g ≡ unified_is fits h → Outcome f steps ps g (unified_is fits h)
came f steps ps g h fits well numbers e = subst (Outcome f steps ps g) e (outcome f steps ps g well numbers)

pub keeps_form_law : KeepsForm
keeps_form_law steps ps g h fits well numbers e = (came TypeVariable steps ps g h fits well numbers e).well

-- what is linked to what changes neither number
keeps_linked :
    (is : Bool) (kept gone : ℕ) (node : Node) (g : Graph)
    → (length (linked is kept gone node g).nodes ≡ length g.nodes) × ((linked is kept gone node g).arguments ≡ g.arguments)
keeps_linked true kept gone node g = (simp length-set, refl)
keeps_linked false kept gone node g = (simp length-set, refl)

keeps_merged :
    (a b : ℕ) (g : Graph) → (length (merge a b g).nodes ≡ length g.nodes) × ((merge a b g).arguments ≡ g.arguments)
keeps_merged a b g =
    let x = node_at g.nodes a in
    let y = node_at g.nodes b in
    if_either (λ (h : Graph). (length h.nodes ≡ length g.nodes) × (h.arguments ≡ g.arguments)) (nat_lt x.rank y.rank)
    (linked (is_given x y) b a (merged x y) g) (linked (is_given x y) a b (merged x y) g)
    (λ e. keeps_linked (is_given x y) b a (merged x y) g) (λ e. keeps_linked (is_given x y) a b (merged x y) g)

keeps_all :
    (steps : ℕ) (ps : List (ℕ × ℕ)) (g : Graph)
    → (length (unified steps ps g).types.nodes ≡ length g.nodes) × ((unified steps ps g).types.arguments ≡ g.arguments)
unfolding unified
keeps_all steps [] g = (refl, refl)
keeps_all zero (p ∷ ps) g = (refl, refl)
keeps_all (suc k) (p ∷ ps) g =
    let a = root g.nodes p.0 in
    let b = root g.nodes p.1 in
    let x = node_at g.nodes a in
    let y = node_at g.nodes b in
    let P : Pairs → Type 0 =
    λ s. (length (onward s (unified k)).types.nodes ≡ length g.nodes) × ((onward s (unified k)).types.arguments ≡ g.arguments) in
    if_either P (a == b) (pairs true ps g) (roots_joined a b ps g)
    (λ e. keeps_all k ps g)
    (λ e.
    if_either P (clash x.form y.form) (pairs false ps g) (pairs true (argument_pairs g x.form y.form ps) (merge a b g))
    (λ c. (refl, refl))
    (λ c.
    let rest = keeps_all k (argument_pairs g x.form y.form ps) (merge a b g) in
    let first = keeps_merged a b g in
    (rest.0 ∙ first.0, rest.1 ∙ first.1)))

pub keeps_numbers_law : KeepsNumbers
keeps_numbers_law steps ps g h fits e =
    subst (λ (o : Unified). (length o.types.nodes ≡ length g.nodes) × (o.types.arguments ≡ g.arguments)) e (keeps_all steps ps g)

pub equates_law : Equates
equates_law steps ps g h f well numbers e = (came f steps ps g h true well numbers e).back refl

pub loses_none_law : LosesNone
loses_none_law steps ps g h f well numbers e = (came f steps ps g h true well numbers e).on refl

-- there aren't more roots than types
roots_at_most : (nodes : List Node) → roots nodes ≤ length nodes
roots_at_most nodes =
    let most = sum_by-le (λ (node : Node). one_for node.form) 1 nodes (λ k d h. one_at_most (slice_index_or nodes k d).form) in
    omega arith

pub refuses_rightly_law : RefusesRightly
refuses_rightly_law steps ps g h f well numbers enough e =
    let fewer : roots g.nodes * length g.arguments ≤ length g.nodes * length g.arguments =
    mul-le-mul_right (length g.arguments) (roots_at_most g.nodes) in
    (came f steps ps g h false well numbers e).refuses refl (omega arith)

-- there are steps enough for one pair
enough : (types arguments : ℕ) → types ≤ 33554432 → arguments ≤ 67108864 → 1 + types * arguments ≤ 18446744073709551615
enough types arguments h k =
    let less : types * arguments ≤ 33554432 * 67108864 = mul-le-mul h k in
    omega arith

pub decides_pair_law : DecidesPair
decides_pair_law a b g h true f well la lb e =
    let ps : List (ℕ × ℕ) = (a, b) ∷ [] in
    let numbers : ArePairs (length g.nodes) ps = ((la, lb), tt) in (
      λ r. (refl, loses_none_law 18446744073709551615 ps g h f well numbers e r.0 (r.1, tt)),
      λ r. let back = equates_law 18446744073709551615 ps g h f well numbers e r.1 in (back.0, back.1.0),
    )
decides_pair_law a b g h false f well la lb e =
    let ps : List (ℕ × ℕ) = (a, b) ∷ [] in
    let numbers : ArePairs (length g.nodes) ps = ((la, lb), tt) in
    let steps = enough (length g.nodes) (length g.arguments) well.room well.argument_room in (
      λ r. absurd (refuses_rightly_law 18446744073709551615 ps g h f well numbers steps e r.0 (r.1, tt)),
      λ r. let no = r.0 in absurd (cc),
    )
