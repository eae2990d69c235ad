-- What two roots that become one leave of all types.
use Rattle.std.proofs.Common.{◌≡◌, ◌≢◌, ℕ, zero, suc, ◌+◌, ◌<◌, ◌⊎◌, inl, inr, List, [], ◌∷◌, length, None, Bool, true, false, refl, sym, ◌∙◌, ap, subst, arith, ⊎_elim, nat_lt, if◌then◌else◌}
use Rattle.std.proofs.lemmas.Bool.Decides.{eqb_tells}
use Rattle.std.proofs.lemmas.List.Sums.{sum_by-cons}
use Rattle.type_graph.specs.declared.form.Form.{Form}
use Rattle.type_graph.specs.declared.form.Form.TheVariants.{Variable, Link, Applied}
use Rattle.type_graph.specs.declared.types.Node.{Node}
use Rattle.type_graph.specs.Graph.{Graph, node_at, root, link_of}
use Rattle.type_graph.specs.Unified.{merged, linked, is_given, merge}
use Rattle.type_readings.specs.WellFormed.{IsRoot, Leads, IsWellFormed, is_link, link_count}
use Rattle.type_readings.proofs.Forms.{one_form_is_root}
use Rattle.type_readings.proofs.Rows.{leads_still, followed_root, root_is_root, root_is_end, link_same_root}
use Rattle.type_readings.proofs.Merging.{Joined, joined, at_each, links_stay, kept_is_root}
use Rattle.type_readings.proofs.Behind.{one_for, roots, if_either}

-- the node of the root of a type
abbrev pub root_node : Graph → ℕ → Node
root_node g n = node_at g.nodes (root g.nodes n)

-- each type is linked or a root
link_or_root : (a : Form) → (if is_link a then 1 else 0) + one_for a ≡ 1
link_or_root Variable = refl
link_or_root (Link m) = refl
link_or_root (Applied c first count) = refl

pub links_and_roots : (nodes : List Node) → link_count nodes + roots nodes ≡ length nodes
links_and_roots [] = refl
links_and_roots (x ∷ xs) =
    let one = link_or_root x.form in
    let rest = links_and_roots xs in
    let links = sum_by-cons (λ (z : Node). if is_link z.form then 1 else 0) x xs in
    let others = sum_by-cons (λ (z : Node). one_for z.form) x xs in
    omega arith

-- all types of a row have one root
leads_same_root : (g : Graph) → IsWellFormed g → (links n r : ℕ) → Leads links g.nodes n r → root g.nodes n ≡ root g.nodes r
leads_same_root g well zero n r h = ap (root g.nodes) h
leads_same_root g well (suc links) n r h = link_same_root g well n h.0 h.1 ∙ leads_same_root g well links h.0 r h.2

-- what is known of the graph behind two roots that became one
pub record OneRoot (a b : ℕ) (g h : Graph) : Type 0 where
  pub kept : ℕ
  pub kept_is : kept < length g.nodes
  pub root_kept : root h.nodes kept ≡ kept
  pub root_either : (n : ℕ) → (root g.nodes n ≡ a) ⊎ (root g.nodes n ≡ b) → root h.nodes n ≡ kept
  pub same_roots : (m n : ℕ) → root g.nodes m ≡ root g.nodes n → root h.nodes m ≡ root h.nodes n
  pub at_kept : node_at h.nodes kept ≡ merged (node_at g.nodes a) (node_at g.nodes b)
  pub elsewhere : (n : ℕ) → root g.nodes n ≢ a → root g.nodes n ≢ b → root_node h n ≡ root_node g n
  pub copies : (n : ℕ) → ((node_at h.nodes n).copy ≡ 0) ⊎ ((node_at h.nodes n).copy ≡ (node_at g.nodes n).copy)
  pub given : h.given ≡ (if is_given (node_at g.nodes a) (node_at g.nodes b) then kept ∷ g.given else g.given)

module _
    (g h : Graph) (kept gone : ℕ) (node : Node) (well : IsWellFormed g) (after : IsWellFormed h)
    (j : Joined g.nodes h.nodes kept gone node) (rk : IsRoot g.nodes kept) (rg : IsRoot g.nodes gone)
    (rn : link_of node.form ≡ None) where
  kept_root : root h.nodes kept ≡ kept
  kept_root = followed_root 32 h.nodes kept (kept_is_root g.nodes h.nodes kept gone node j rk rg rn)

  gone_root : root h.nodes gone ≡ kept
  gone_root = link_same_root h after gone kept (ap (λ (z : Node). link_of z.form) j.at_gone) ∙ kept_root

  -- a type has the root of its root
  root_on : (n : ℕ) → root h.nodes n ≡ root h.nodes (root g.nodes n)
  root_on n =
      let e = well.ends n in
      leads_same_root h after e.links n e.end
      (leads_still g.nodes h.nodes (links_stay g.nodes h.nodes kept gone node j rk rg rn) e.links n e.end e.leads)
      ∙ ap (root h.nodes) (sym (root_is_end g well n))

  roots_still : (m n : ℕ) → root g.nodes m ≡ root g.nodes n → root h.nodes m ≡ root h.nodes n
  roots_still m n e = root_on m ∙ ap (root h.nodes) e ∙ sym (root_on n)

  root_of_both : (n : ℕ) → (root g.nodes n ≡ kept) ⊎ (root g.nodes n ≡ gone) → root h.nodes n ≡ kept
  root_of_both n is =
      root_on n ∙ ⊎_elim (λ e. ap (root h.nodes) e ∙ kept_root) (λ e. ap (root h.nodes) e ∙ gone_root) is

  root_elsewhere : (n : ℕ) → root g.nodes n ≢ kept → root g.nodes n ≢ gone → root_node h n ≡ root_node g n
  root_elsewhere n p q =
      let r = root g.nodes n in
      let same = j.elsewhere r p q in
      let is_root = ap (λ (z : Node). link_of z.form) same ∙ root_is_root g well n in
      let still : root h.nodes n ≡ r = root_on n ∙ followed_root 32 h.nodes r is_root in
      ap (node_at h.nodes) still ∙ same

  copies_still : node.copy ≡ 0 → (n : ℕ) → ((node_at h.nodes n).copy ≡ 0) ⊎ ((node_at h.nodes n).copy ≡ (node_at g.nodes n).copy)
  copies_still none =
      at_each (λ n. ((node_at h.nodes n).copy ≡ 0) ⊎ ((node_at h.nodes n).copy ≡ (node_at g.nodes n).copy)) kept gone
      (inl (ap (λ (z : Node). z.copy) j.at_kept ∙ none))
      (inl (ap (λ (z : Node). z.copy) j.at_gone))
      (λ n p q. inr (ap (λ (z : Node). z.copy) (j.elsewhere n p q)))

  -- so it is of two types, of which the one is kept and the other one is gone
  one_root_of :
      (a b : ℕ) → node ≡ merged (node_at g.nodes a) (node_at g.nodes b) → kept < length g.nodes
      → h.given ≡ (if is_given (node_at g.nodes a) (node_at g.nodes b) then kept ∷ g.given else g.given)
      → ((n : ℕ) → (n ≡ a) ⊎ (n ≡ b) → (n ≡ kept) ⊎ (n ≡ gone))
      → ((n : ℕ) → (n ≡ kept) ⊎ (n ≡ gone) → (n ≡ a) ⊎ (n ≡ b)) → OneRoot a b g h
  one_root_of a b is lt given to from = record {
    kept = kept;
    kept_is = lt;
    root_kept = kept_root;
    root_either = λ n e. root_of_both n (to (root g.nodes n) e);
    same_roots = roots_still;
    at_kept = j.at_kept ∙ is;
    elsewhere =
        λ n p q.
        let other : (root g.nodes n ≡ a) ⊎ (root g.nodes n ≡ b) → ⊥ = λ e. ⊎_elim (λ l. p l) (λ r. q r) e in
        root_elsewhere n (λ e. other (from (root g.nodes n) (inl e))) (λ e. other (from (root g.nodes n) (inr e)));
    copies = copies_still (ap (λ (z : Node). z.copy) is);
    given = given;
  }

-- whether or not it is given
one_linked :
    (a b kept gone : ℕ) (g : Graph) (is : Bool) → IsWellFormed g → kept ≢ gone → kept < length g.nodes → gone < length g.nodes
    → IsRoot g.nodes kept → IsRoot g.nodes gone → link_of (merged (node_at g.nodes a) (node_at g.nodes b)).form ≡ None
    → is_given (node_at g.nodes a) (node_at g.nodes b) ≡ is → ((n : ℕ) → (n ≡ a) ⊎ (n ≡ b) → (n ≡ kept) ⊎ (n ≡ gone))
    → ((n : ℕ) → (n ≡ kept) ⊎ (n ≡ gone) → (n ≡ a) ⊎ (n ≡ b))
    → IsWellFormed (linked is kept gone (merged (node_at g.nodes a) (node_at g.nodes b)) g)
    → OneRoot a b g (linked is kept gone (merged (node_at g.nodes a) (node_at g.nodes b)) g)
one_linked a b kept gone g true well apart lk lg rk rg rn e to from after =
    let node = merged (node_at g.nodes a) (node_at g.nodes b) in
    one_root_of g (linked true kept gone node g) kept gone node well after (joined g.nodes kept gone node apart lk lg) rk rg rn a b
    refl lk (rw e refl) to from
one_linked a b kept gone g false well apart lk lg rk rg rn e to from after =
    let node = merged (node_at g.nodes a) (node_at g.nodes b) in
    one_root_of g (linked false kept gone node g) kept gone node well after (joined g.nodes kept gone node apart lk lg) rk rg rn a b
    refl lk (rw e refl) to from

-- in either order
turned : {A B : Type 0} → A ⊎ B → B ⊎ A
turned is = ⊎_elim (λ e. inr e) (λ e. inl e) is

-- the one root is that of the higher rank
pub one_root :
    (a b : ℕ) (g : Graph) → IsWellFormed g → a ≢ b → a < length g.nodes → b < length g.nodes → IsRoot g.nodes a → IsRoot g.nodes b
    → IsWellFormed (merge a b g) → OneRoot a b g (merge a b g)
one_root a b g well apart la lb ra rb after =
    let x = node_at g.nodes a in
    let y = node_at g.nodes b in
    let node = merged x y in
    let is_root = one_form_is_root x.form y.form ra rb in
    if_either (λ h. IsWellFormed h → OneRoot a b g h) (nat_lt x.rank y.rank) (linked (is_given x y) b a node g)
    (linked (is_given x y) a b node g)
    (λ less behind.
    one_linked a b b a g (is_given x y) well (λ p. apart (sym p)) lb la rb ra is_root refl (λ n e. turned e) (λ n e. turned e)
    behind)
    (λ other behind. one_linked a b a b g (is_given x y) well apart la lb ra rb is_root refl (λ n e. e) (λ n e. e) behind)
    after

-- what holds of a root's node and of the one of the two roots holds of a root's node behind
pub at_each_root :
    (P : Node → Type 0) (a b : ℕ) (g h : Graph) → OneRoot a b g h → (n : ℕ)
    → ((root g.nodes n ≡ a) ⊎ (root g.nodes n ≡ b) → P (merged (node_at g.nodes a) (node_at g.nodes b))) → P (root_node g n)
    → P (root_node h n)
at_each_root P a b g h one n both other =
    let at : (is : (root g.nodes n ≡ a) ⊎ (root g.nodes n ≡ b)) → P (root_node h n) =
    λ is. subst P (sym (ap (node_at h.nodes) (one.root_either n is) ∙ one.at_kept)) (both is) in
    ⊎_elim
    (λ p. at (inl p.1))
    (λ p. ⊎_elim (λ q. at (inr q.1)) (λ q. subst P (sym (one.elsewhere n p.1 q.1)) other) (eqb_tells (root g.nodes n) b))
    (eqb_tells (root g.nodes n) a)
