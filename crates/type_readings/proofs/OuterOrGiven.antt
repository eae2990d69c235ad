-- What is outer or given stays so where types are made equal.
use Rattle.std.proofs.Common.{◌≡◌, ◌≢◌, ℕ, zero, suc, ◌<◌, ◌==◌, ◌⊎◌, inl, inr, List, [], ◌∷◌, length, None, Bool, true, false, not, ◌&&◌, ◌||◌, refl, sym, ◌∙◌, ap, subst, arith, ⊎_elim, nat_lt}
use Rattle.std.proofs.lemmas.Bool.Decides.{eqb_tells, nat_tests}
use Rattle.type_terms.specs.TypeTrees.{TypeVariable}
use Rattle.type_graph.specs.declared.types.Node.{Node}
use Rattle.type_graph.specs.Graph.{Graph, node_at, root, link_of}
use Rattle.type_graph.specs.Unified.{clash, merged, merged_outer, linked, is_given, merge, argument_pairs, Pairs, pairs, roots_joined, onward, Unified, unified}
use Rattle.type_readings.specs.WellFormed.{ArePairs, IsRoot, Leads, IsOuter, IsOuterOr, IsWellFormed}
use Rattle.type_readings.specs.OuterLaws.{UnifyKeepsOuter}
use Rattle.type_readings.proofs.Forms.{one_form_is_root}
use Rattle.type_readings.proofs.Rows.{leads_still, followed_root, root_is_root, root_is_number, root_is_end, link_same_root}
use Rattle.type_readings.proofs.Merging.{Joined, joined, links_stay, kept_is_root}
use Rattle.type_readings.proofs.Behind.{if_either, behind_merge}
use Rattle.type_readings.proofs.Steps.{pairs_on}

-- what is outer or given in the one graph is so in the other
abbrev Keeps : (g h : Graph) → Type 0
Keeps g h = (n : ℕ) → IsOuterOr g g.given n → IsOuterOr h h.given n

or_outer : (g : Graph) (ps : List ℕ) (n : ℕ) → IsOuter g n → IsOuterOr g ps n
or_outer g [] n is = is
or_outer g (p ∷ ps) n is = inr (or_outer g ps n is)

or_same_root : (g : Graph) (ps : List ℕ) (m n : ℕ) → root g.nodes m ≡ root g.nodes n → IsOuterOr g ps m → IsOuterOr g ps n
or_same_root g [] m n e is = ap (λ r. (node_at g.nodes r).is_outer) (sym e) ∙ is
or_same_root g (p ∷ ps) m n e is = ⊎_elim (λ x. inl (x ∙ e)) (λ x. inr (or_same_root g ps m n e x)) is

-- all types of a row have one root
row_has_one_root : (g : Graph) → IsWellFormed g → (links n r : ℕ) → Leads links g.nodes n r → root g.nodes n ≡ root g.nodes r
row_has_one_root g well zero n r h = ap (root g.nodes) h
row_has_one_root g well (suc links) n r h = link_same_root g well n h.0 h.1 ∙ row_has_one_root g well links h.0 r h.2

-- the one of two outer nodes is outer, if it isn't given
outer_unless_given : (o p is : Bool) → (o ≡ true) ⊎ (p ≡ true) → ((o || p) && not is) ≡ false → is ≡ true
outer_unless_given o p true e ungiven = refl
outer_unless_given true p false e ungiven = absurd (cc)
outer_unless_given false true false e ungiven = absurd (cc)
outer_unless_given false false false e ungiven = ⊎_elim (λ q. absurd (cc)) (λ q. absurd (cc)) e

-- two roots became one
module _
    (g h : Graph) (kept gone : ℕ) (node : Node) (well : IsWellFormed g) (after : IsWellFormed h)
    (j : Joined g.nodes h.nodes kept gone node) (rk : IsRoot g.nodes kept) (rg : IsRoot g.nodes gone)
    (rn : link_of node.form ≡ None) where
  root_of_kept : root h.nodes kept ≡ kept
  root_of_kept = followed_root 32 h.nodes kept (kept_is_root g.nodes h.nodes kept gone node j rk rg rn)

  root_of_gone : root h.nodes gone ≡ kept
  root_of_gone = link_same_root h after gone kept (ap (λ (z : Node). link_of z.form) j.at_gone) ∙ root_of_kept

  -- a type has the root of its root
  root_on : (n : ℕ) → root h.nodes n ≡ root h.nodes (root g.nodes n)
  root_on n =
      let e = well.ends n in
      row_has_one_root h after e.links n e.end
      (leads_still g.nodes h.nodes (links_stay g.nodes h.nodes kept gone node j rk rg rn) e.links n e.end e.leads)
      ∙ ap (root h.nodes) (sym (root_is_end g well n))

  roots_still : (m n : ℕ) → root g.nodes m ≡ root g.nodes n → root h.nodes m ≡ root h.nodes n
  roots_still m n e = root_on m ∙ ap (root h.nodes) e ∙ sym (root_on n)

  outer_elsewhere : (n : ℕ) → root g.nodes n ≢ kept → root g.nodes n ≢ gone → IsOuter g n → IsOuter h n
  outer_elsewhere n p q is =
      let r = root g.nodes n in
      let same = j.elsewhere r p q in
      let is_root = ap (λ (z : Node). link_of z.form) same ∙ root_is_root g well n in
      let still : root h.nodes n ≡ r = root_on n ∙ followed_root 32 h.nodes r is_root in
      ap (λ k. (node_at h.nodes k).is_outer) still ∙ ap (λ (z : Node). z.is_outer) same ∙ is

  outer_kept : node.is_outer ≡ true → IsOuter h kept
  outer_kept is = ap (λ k. (node_at h.nodes k).is_outer) root_of_kept ∙ ap (λ (z : Node). z.is_outer) j.at_kept ∙ is

  module _
      (more : (n : ℕ) → IsOuterOr h g.given n → IsOuterOr h h.given n)
      (either : ((node_at g.nodes kept).is_outer ≡ true) ⊎ ((node_at g.nodes gone).is_outer ≡ true) → IsOuterOr h h.given kept) where
    outer_joined : (n : ℕ) → IsOuter g n → IsOuterOr h h.given n
    outer_joined n is =
        ⊎_elim
        (λ p.
        or_same_root h h.given kept n (root_of_kept ∙ sym (root_on n ∙ ap (root h.nodes) p.1 ∙ root_of_kept))
        (either (inl (ap (λ r. (node_at g.nodes r).is_outer) (sym p.1) ∙ is))))
        (λ p.
        ⊎_elim
        (λ q.
        or_same_root h h.given kept n (root_of_kept ∙ sym (root_on n ∙ ap (root h.nodes) q.1 ∙ root_of_gone))
        (either (inr (ap (λ r. (node_at g.nodes r).is_outer) (sym q.1) ∙ is))))
        (λ q. or_outer h h.given n (outer_elsewhere n p.1 q.1 is))
        (eqb_tells (root g.nodes n) gone))
        (eqb_tells (root g.nodes n) kept)

    or_joined : (ps : List ℕ) (n : ℕ) → IsOuterOr g ps n → IsOuterOr h ps n ⊎ IsOuterOr h h.given n
    or_joined [] n is = inr (outer_joined n is)
    or_joined (p ∷ ps) n is =
        ⊎_elim
        (λ e. inl (inl (roots_still p n e)))
        (λ e. ⊎_elim (λ l. inl (inr l)) (λ l. inr l) (or_joined ps n e))
        is

    keeps_joined : Keeps g h
    keeps_joined n is = ⊎_elim (λ e. more n e) (λ e. e) (or_joined g.given n is)

-- whether or not it is given
keeps_linked :
    (a b kept gone : ℕ) (g : Graph) (is : Bool) → IsWellFormed g → kept ≢ gone → kept < length g.nodes → gone < length g.nodes
    → IsRoot g.nodes kept → IsRoot g.nodes gone → link_of (merged (node_at g.nodes a) (node_at g.nodes b)).form ≡ None
    → is_given (node_at g.nodes a) (node_at g.nodes b) ≡ is
    → (((node_at g.nodes kept).is_outer ≡ true) ⊎ ((node_at g.nodes gone).is_outer ≡ true)
    → ((node_at g.nodes a).is_outer ≡ true) ⊎ ((node_at g.nodes b).is_outer ≡ true))
    → IsWellFormed (linked is kept gone (merged (node_at g.nodes a) (node_at g.nodes b)) g)
    → Keeps g (linked is kept gone (merged (node_at g.nodes a) (node_at g.nodes b)) g)
keeps_linked a b kept gone g true well apart lk lg rk rg rn e to after =
    let node = merged (node_at g.nodes a) (node_at g.nodes b) in
    keeps_joined g (linked true kept gone node g) kept gone node well after (joined g.nodes kept gone node apart lk lg) rk rg rn
    (λ n is. inr is)
    (λ is. inl refl)
keeps_linked a b kept gone g false well apart lk lg rk rg rn e to after =
    let x = node_at g.nodes a in
    let y = node_at g.nodes b in
    let node = merged x y in
    let h = linked false kept gone node g in
    let j = joined g.nodes kept gone node apart lk lg in
    keeps_joined g h kept gone node well after j rk rg rn
    (λ n is. is)
    (λ is.
    or_outer h g.given kept
    (outer_kept g h kept gone node well after j rk rg rn (outer_unless_given x.is_outer y.is_outer (merged_outer x y) (to is) e)))

keeps_merged :
    (a b : ℕ) (g : Graph) → IsWellFormed g → a ≢ b → a < length g.nodes → b < length g.nodes → IsRoot g.nodes a → IsRoot g.nodes b
    → IsWellFormed (merge a b g) → Keeps g (merge a b g)
keeps_merged a b g well apart la lb ra rb after =
    let x = node_at g.nodes a in
    let y = node_at g.nodes b in
    let node = merged x y in
    let is_root = one_form_is_root x.form y.form ra rb in
    if_either (λ h. IsWellFormed h → Keeps g h) (nat_lt x.rank y.rank) (linked (is_given x y) b a node g)
    (linked (is_given x y) a b node g)
    (λ less behind.
    keeps_linked a b b a g (is_given x y) well (λ p. apart (sym p)) lb la rb ra is_root refl
    (λ is. ⊎_elim (λ e. inr e) (λ e. inl e) is)
    behind)
    (λ other behind. keeps_linked a b a b g (is_given x y) well apart la lb ra rb is_root refl (λ is. is) behind)
    after

-- one step after another
keeps_all : (steps : ℕ) (ps : List (ℕ × ℕ)) (g : Graph) → IsWellFormed g → ArePairs (length g.nodes) ps → Keeps g (unified steps ps g).types
unfolding unified
keeps_all steps [] g well numbers = λ n is. is
keeps_all zero (p ∷ ps) g well numbers = λ n is. is
keeps_all (suc k) (p ∷ ps) g well numbers =
    let a = root g.nodes p.0 in
    let b = root g.nodes p.1 in
    let x = node_at g.nodes a in
    let y = node_at g.nodes b in
    let P : Pairs → Type 0 = λ s. Keeps g (onward s (unified k)).types in
    if_either P (a == b) (pairs true ps g) (roots_joined a b ps g)
    (λ e. keeps_all k ps g well numbers.1)
    (λ e.
    if_either P (clash x.form y.form) (pairs false ps g) (pairs true (argument_pairs g x.form y.form ps) (merge a b g))
    (λ c n is. is)
    (λ c.
    let h = merge a b g in
    let qs = argument_pairs g x.form y.form ps in
    let apart : a ≢ b = grind (arith, nat_tests) in
    let la = root_is_number g well p.0 numbers.0.0 in
    let lb = root_is_number g well p.1 numbers.0.1 in
    let ra = root_is_root g well p.0 in
    let rb = root_is_root g well p.1 in
    let behind = behind_merge TypeVariable a b g well apart la lb ra rb c in
    let first = keeps_merged a b g well apart la lb ra rb behind.well in
    let rest = keeps_all k qs h behind.well (pairs_on TypeVariable k p ps g well h behind.as_many numbers.1) in
    λ n is. rest n (first n is)))

pub unify_keeps_outer_law : UnifyKeepsOuter
unify_keeps_outer_law a b g h well la lb e n lt is =
    let ps : List (ℕ × ℕ) = (a, b) ∷ [] in
    subst (λ (o : Unified). IsOuterOr o.types o.types.given n) e (keeps_all 18446744073709551615 ps g well ((la, lb), tt) n is)
