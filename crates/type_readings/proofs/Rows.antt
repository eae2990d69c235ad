-- Rows of links.
use Rattle.std.proofs.Common.{◌≡◌, ℕ, zero, suc, ◌^◌, ◌≤◌, ◌<◌, List, length, Some, None, false, refl, sym, ◌∙◌, ap, subst, arith, ⊎_elim}
use Rattle.std.specs.List.{sum_by}
use Rattle.std.proofs.Math.Pow.{pow_mono}
use Rattle.std.proofs.lemmas.Bool.Decides.{leb_tells}
use Rattle.std.proofs.lemmas.List.{get_or_past}
use Rattle.std.proofs.lemmas.List.Sums.{sum_by-set}
use Rattle.type_terms.specs.TypeTrees.{Ty}
use Rattle.type_graph.specs.declared.form.Form.{Form}
use Rattle.type_graph.specs.declared.form.Form.TheVariants.{Variable, Link, Applied}
use Rattle.type_graph.specs.declared.types.Node.{Node}
use Rattle.type_graph.specs.Graph.{Graph, fresh, unknown, node_at, link_of, followed, behind, root}
use Rattle.type_readings.specs.Readings.{Reads}
use Rattle.type_readings.specs.WellFormed.{NamesWhatIsThere, IsRoot, Leads, weight_of, weight, IsWellFormed}
use Rattle.type_readings.proofs.Forms.{through_link}

-- links are followed to no further than a root
pub followed_root : (k : ℕ) (nodes : List Node) (n : ℕ) → IsRoot nodes n → followed k nodes n ≡ n
unfolding followed
followed_root zero nodes n h = refl
followed_root (suc k) nodes n h = ap (λ o. behind o n (followed k nodes)) h

-- they are followed to the end of a row
leads_to_root :
    (links k : ℕ) (nodes : List Node) (n r : ℕ) → Leads links nodes n r → IsRoot nodes r → links ≤ k → followed k nodes n ≡ r
unfolding followed
leads_to_root zero k nodes n r h is_root le = followed_root k nodes n (subst (IsRoot nodes) (sym h) is_root) ∙ h
leads_to_root (suc links) zero nodes n r h is_root le = absurd (omega arith)
leads_to_root (suc links) (suc k) nodes n r h is_root le =
    ap (λ o. behind o n (followed k nodes)) h.1 ∙ leads_to_root links k nodes h.0 r h.2 is_root (omega arith)

-- a row stays where its links do
pub leads_still :
    (nodes new : List Node) → ((n m : ℕ) → link_of (node_at nodes n).form ≡ Some m → link_of (node_at new n).form ≡ Some m)
    → (links n r : ℕ) → Leads links nodes n r → Leads links new n r
leads_still nodes new same zero n r h = h
leads_still nodes new same (suc links) n r h = (h.0, same n h.0 h.1, leads_still nodes new same links h.0 r h.2)

-- a longer row
pub leads_on :
    (nodes : List Node) (links n r s : ℕ) → Leads links nodes n r → link_of (node_at nodes r).form ≡ Some s → Leads (suc links) nodes n s
leads_on nodes zero n r s h e = (s, ap (λ x. link_of (node_at nodes x).form) h ∙ e, refl)
leads_on nodes (suc links) n r s h e = (h.0, h.1, leads_on nodes links h.0 r s h.2 e)

pub link_within : (types arguments : ℕ) (a : Form) (m : ℕ) → link_of a ≡ Some m → NamesWhatIsThere types arguments a → m < types
link_within types arguments Variable m e h = absurd (cc)
link_within types arguments (Link l) m e h =
    let same : l ≡ m = cc in
    omega arith
link_within types arguments (Applied c first count) m e h = absurd (cc)

-- a row leads to a type
pub leads_within :
    (types arguments : ℕ) (nodes : List Node) → ((n : ℕ) → NamesWhatIsThere types arguments (node_at nodes n).form)
    → (links n r : ℕ) → n < types → Leads links nodes n r → r < types
leads_within types arguments nodes names zero n r lt h = subst (λ x. x < types) h lt
leads_within types arguments nodes names (suc links) n r lt h =
    leads_within types arguments nodes names links h.0 r (link_within types arguments (node_at nodes n).form h.0 h.1 (names n)) h.2

-- all types of a row have the same tree
leads_equal : (f : ℕ → Ty) (g : Graph) → Reads f g → (links n r : ℕ) → Leads links g.nodes n r → f n ≡ f r
leads_equal f g reads zero n r h = ap f h
leads_equal f g reads (suc links) n r h =
    through_link f g.arguments (node_at g.nodes n).form h.0 (f n) h.1 (reads n) ∙ leads_equal f g reads links h.0 r h.2

-- a root's weight
weight_of_root : (a : Form) (rank : ℕ) → link_of a ≡ None → weight_of a rank ≡ 2 ^ rank
weight_of_root Variable rank h = refl
weight_of_root (Link m) rank h = absurd (cc)
weight_of_root (Applied c first count) rank h = refl

pub weight_at_root : (node : Node) → link_of node.form ≡ None → weight node ≡ 2 ^ node.rank
weight_at_root node h = weight_of_root node.form node.rank h

pub small_rank : (k : ℕ) → 2 ^ k ≤ 33554432 → k ≤ 32
small_rank k h =
    ⊎_elim (λ p. let big : 8589934592 ≤ 2 ^ k = pow_mono p.1 in absurd (omega arith)) (λ p. omega arith) (leb_tells 33 k)

-- no part of a sum is more than it
part_of_sum : (w : Node → ℕ) (nodes : List Node) (n : ℕ) → w (fresh (Link 0) false) ≡ 0 → n < length nodes → w (node_at nodes n) ≤ sum_by w nodes
part_of_sum w nodes n e h =
    let sum = sum_by-set w nodes n (fresh (Link 0) false) unknown h in
    omega arith

-- no root's rank is large
pub rank_is_small : (g : Graph) → IsWellFormed g → (r : ℕ) → IsRoot g.nodes r → (node_at g.nodes r).rank ≤ 32
rank_is_small g well r h =
    ⊎_elim
    (λ p. let past : node_at g.nodes r ≡ unknown = get_or_past g.nodes r unknown p.1 in subst (λ (x : Node). x.rank ≤ 32) (sym past) (omega arith))
    (λ p.
    let room = well.room in
    let weighs = well.weighs in
    let one = part_of_sum weight g.nodes r refl p.1 in
    let is = weight_at_root (node_at g.nodes r) h in
    let total : 2 ^ (node_at g.nodes r).rank ≤ 33554432 = omega arith in
    small_rank (node_at g.nodes r).rank total)
    (leb_tells (length g.nodes) r)

-- the links from a type lead to its root
pub root_is_end : (g : Graph) (well : IsWellFormed g) (n : ℕ) → root g.nodes n ≡ (well.ends n).end
root_is_end g well n =
    let e = well.ends n in
    let small = rank_is_small g well e.end e.is_root in
    let short = e.is_short in
    leads_to_root e.links 32 g.nodes n e.end e.leads e.is_root (omega arith)

-- which is a root
pub root_is_root : (g : Graph) → IsWellFormed g → (n : ℕ) → IsRoot g.nodes (root g.nodes n)
root_is_root g well n = subst (IsRoot g.nodes) (sym (root_is_end g well n)) (well.ends n).is_root

-- and a type
pub root_is_number : (g : Graph) → IsWellFormed g → (n : ℕ) → n < length g.nodes → root g.nodes n < length g.nodes
root_is_number g well n h =
    let e = well.ends n in
    subst (λ r. r < length g.nodes) (sym (root_is_end g well n))
    (leads_within (length g.nodes) (length g.arguments) g.nodes well.names e.links n e.end h e.leads)

-- of the same tree
pub root_is_equal : (f : ℕ → Ty) (g : Graph) → IsWellFormed g → Reads f g → (n : ℕ) → f n ≡ f (root g.nodes n)
root_is_equal f g well reads n =
    let e = well.ends n in
    leads_equal f g reads e.links n e.end e.leads ∙ ap f (sym (root_is_end g well n))

behind_link :
    (nodes : List Node) (links n m r : ℕ) → link_of (node_at nodes n).form ≡ Some m → Leads links nodes n r → IsRoot nodes r
    → links ≤ 32 → root nodes m ≡ r
behind_link nodes zero n m r h leads is_root le =
    let none : link_of (node_at nodes n).form ≡ None = subst (IsRoot nodes) (sym leads) is_root in
    absurd (cc)
behind_link nodes (suc links) n m r h leads is_root le =
    let next : Some leads.0 ≡ Some m = sym leads.1 ∙ h in
    let same : leads.0 ≡ m = cc in
    leads_to_root links 32 nodes m r (subst (λ x. Leads links nodes x r) same leads.2) is_root (omega arith)

-- what is linked has the root of what it is linked to
pub link_same_root :
    (g : Graph) → IsWellFormed g → (n m : ℕ) → link_of (node_at g.nodes n).form ≡ Some m → root g.nodes n ≡ root g.nodes m
link_same_root g well n m h =
    let e = well.ends n in
    let small = rank_is_small g well e.end e.is_root in
    let short = e.is_short in
    root_is_end g well n ∙ sym (behind_link g.nodes e.links n m e.end h e.leads e.is_root (omega arith))
