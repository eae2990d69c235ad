-- The graph in which two roots became one.
use Rattle.std.proofs.Common.{◌≡◌, ◌≢◌, ℕ, suc, ◌+◌, ◌^◌, ◌≤◌, ◌<◌, List, ◌∷◌, length, zip, None, Bool, true, false, refl, sym, subst, arith, nat_lt, if◌then◌else◌}
use Rattle.std.specs.List.{sum_by}
use Rattle.std.proofs.lemmas.List.{length-set}
use Rattle.type_terms.specs.TypeTrees.{Ty}
use Rattle.type_graph.specs.declared.form.Form.{Form}
use Rattle.type_graph.specs.declared.form.Form.TheVariants.{Variable, Link, Applied}
use Rattle.type_graph.specs.declared.types.Node.{Node}
use Rattle.type_graph.specs.Graph.{Graph, node_at, link_of, arguments_of}
use Rattle.type_graph.specs.Unified.{clash, merged, linked, is_given, merge}
use Rattle.type_readings.specs.Readings.{IsOfForm, Reads, AllEqual}
use Rattle.type_readings.specs.WellFormed.{NamesWhatIsThere, AreNumbers, IsRoot, weight, IsWellFormed}
use Rattle.type_readings.proofs.Forms.{one_form_is_root, one_form_names, of_one_form, of_both_forms}
use Rattle.type_readings.proofs.Rows.{weight_at_root, rank_is_small}
use Rattle.type_readings.proofs.Ranks.{rank_above_less, rank_above_other, rank_weighs}
use Rattle.type_readings.proofs.Merging.{nodes_behind, joined, sum_behind, known_on, known_back, known_kept, known_gone, names_behind, ends_behind}

-- one for a root
abbrev pub one_for : Form → ℕ
one_for (Link m) = 0
one_for _ = 1

-- how many roots there are
abbrev pub roots : List Node → ℕ
roots nodes = sum_by (λ (node : Node). one_for node.form) nodes

one_for_root : (a : Form) → link_of a ≡ None → one_for a ≡ 1
one_for_root Variable h = refl
one_for_root (Link m) h = absurd (cc)
one_for_root (Applied c first count) h = refl

pub one_at_most : (a : Form) → one_for a ≤ 1
one_at_most Variable = omega arith
one_at_most (Link m) = omega arith
one_at_most (Applied c first count) = omega arith

-- what is known of the graph behind: two roots are one, where the pairs are equal
pub record Behind (f : ℕ → Ty) (a b : ℕ) (zs : List (ℕ × ℕ)) (g h : Graph) : Type 0 where
  pub well : IsWellFormed h
  pub as_many : length h.nodes ≡ length g.nodes
  pub same_arguments : h.arguments ≡ g.arguments
  pub fewer : suc (roots h.nodes) ≡ roots g.nodes
  pub on : Reads f g → f a ≡ f b → Reads f h
  pub back : Reads f h → AllEqual f zs → Reads f g × (f a ≡ f b)

-- in the other order
turned : (f : ℕ → Ty) (a b : ℕ) (zs : List (ℕ × ℕ)) (g h : Graph) → Behind f b a zs g h → Behind f a b zs g h
turned f a b zs g h x = record {
  well = x.well;
  as_many = x.as_many;
  same_arguments = x.same_arguments;
  fewer = x.fewer;
  on = λ r e. x.on r (sym e);
  back = λ r e. let k = x.back r e in (k.0, sym k.1);
}

-- the graph where one root is linked to the other
abbrev graph_behind : Graph → (kept gone : ℕ) → Node → List ℕ → Graph
graph_behind g kept gone node given = record { nodes = nodes_behind g.nodes kept gone node; arguments = g.arguments; given = given }

-- what is needed of the two roots, and of their one node
record Roots (g : Graph) (kept gone : ℕ) (node : Node) : Type 0 where
  well : IsWellFormed g
  apart : kept ≢ gone
  kept_is : kept < length g.nodes
  gone_is : gone < length g.nodes
  kept_root : IsRoot g.nodes kept
  gone_root : IsRoot g.nodes gone
  root : link_of node.form ≡ None
  names : NamesWhatIsThere (length g.nodes) (length g.arguments) node.form
  above : suc (node_at g.nodes gone).rank ≤ node.rank
  as_high : (node_at g.nodes kept).rank ≤ node.rank
  weighs : 2 ^ node.rank ≤ 2 ^ (node_at g.nodes kept).rank + 2 ^ (node_at g.nodes gone).rank

module _ (g : Graph) (kept gone : ℕ) (node : Node) (x : Roots g kept gone node) where
  as_many_behind : length (nodes_behind g.nodes kept gone node) ≡ length g.nodes
  as_many_behind = simp length-set

  weighs_behind : sum_by weight (nodes_behind g.nodes kept gone node) ≤ sum_by weight g.nodes
  weighs_behind =
      let sum = sum_behind weight g.nodes kept gone node refl x.apart x.kept_is x.gone_is in
      let one = weight_at_root (node_at g.nodes kept) x.kept_root in
      let other = weight_at_root (node_at g.nodes gone) x.gone_root in
      let both = weight_at_root node x.root in
      let weighs = x.weighs in
      omega arith

  fewer_behind : suc (roots (nodes_behind g.nodes kept gone node)) ≡ roots g.nodes
  fewer_behind =
      let sum = sum_behind (λ (y : Node). one_for y.form) g.nodes kept gone node refl x.apart x.kept_is x.gone_is in
      let one = one_for_root (node_at g.nodes kept).form x.kept_root in
      let other = one_for_root (node_at g.nodes gone).form x.gone_root in
      let both = one_for_root node.form x.root in
      omega arith

  well_behind : (given : List ℕ) → IsWellFormed (graph_behind g kept gone node given)
  well_behind given =
      let new = nodes_behind g.nodes kept gone node in
      let j = joined g.nodes kept gone node x.apart x.kept_is x.gone_is in
      let long : length g.nodes ≡ length new = sym as_many_behind in
      let arguments = g.arguments in
      record {
        room = subst (λ k. k ≤ 33554432) long x.well.room;
        argument_room = x.well.argument_room;
        names =
            subst (λ k. (n : ℕ) → NamesWhatIsThere k (length arguments) (node_at new n).form) long
            (names_behind g.nodes new kept gone node j (length g.nodes) (length arguments) x.well.names x.names x.kept_is);
        numbers = subst (λ k. AreNumbers k arguments) long x.well.numbers;
        ends = λ n. ends_behind g.nodes new kept gone node j x.kept_root x.gone_root x.root x.above x.as_high n (x.well.ends n);
        weighs = let weighs = x.well.weighs in let less = weighs_behind in omega arith;
      }

  module _
      (f : ℕ → Ty) (zs : List (ℕ × ℕ))
      (to : (t : Ty) → IsOfForm f g.arguments (node_at g.nodes kept).form t → IsOfForm f g.arguments (node_at g.nodes gone).form t → IsOfForm f g.arguments node.form t)
      (from : (t : Ty) → AllEqual f zs → IsOfForm f g.arguments node.form t → IsOfForm f g.arguments (node_at g.nodes kept).form t × IsOfForm f g.arguments (node_at g.nodes gone).form t) where
    reads_on : (given : List ℕ) → Reads f g → f kept ≡ f gone → Reads f (graph_behind g kept gone node given)
    reads_on given reads e =
        let new = nodes_behind g.nodes kept gone node in
        let j = joined g.nodes kept gone node x.apart x.kept_is x.gone_is in
        known_on g.nodes new kept gone node j f g.arguments reads
        (to (f kept) (reads kept) (subst (IsOfForm f g.arguments (node_at g.nodes gone).form) (sym e) (reads gone)))
        (sym e)

    reads_back : (given : List ℕ) → Reads f (graph_behind g kept gone node given) → AllEqual f zs → Reads f g × (f kept ≡ f gone)
    reads_back given reads equal =
        let new = nodes_behind g.nodes kept gone node in
        let j = joined g.nodes kept gone node x.apart x.kept_is x.gone_is in
        let e : f gone ≡ f kept = known_gone g.nodes new kept gone node j f g.arguments reads in
        let both = from (f kept) equal (known_kept g.nodes new kept gone node j f g.arguments reads) in (
          known_back g.nodes new kept gone node j f g.arguments reads both.0
              (subst (IsOfForm f g.arguments (node_at g.nodes gone).form) (sym e) both.1),
          sym e,
        )

    behind_is : (given : List ℕ) → Behind f kept gone zs g (graph_behind g kept gone node given)
    behind_is given = record {
      well = well_behind given;
      as_many = as_many_behind;
      same_arguments = refl;
      fewer = fewer_behind;
      on = reads_on given;
      back = reads_back given;
    }

    -- whether or not the root that is kept is given to earlier items
    behind_linked : (is : Bool) → Behind f kept gone zs g (linked is kept gone node g)
    behind_linked true = behind_is (kept ∷ g.given)
    behind_linked false = behind_is g.given

-- what holds of each of two values holds of a choice
pub if_either {ℓ} :
    {A : Type 0} (P : A → Type ℓ) (t : Bool) (x y : A) → (t ≡ true → P x) → (t ≡ false → P y) → P (if t then x else y)
if_either P true x y h k = h refl
if_either P false x y h k = k refl

-- the pairs of the arguments of two types
abbrev pub argument_zip : Graph → (a b : ℕ) → List (ℕ × ℕ)
argument_zip g a b = zip (arguments_of g.arguments (node_at g.nodes a).form) (arguments_of g.arguments (node_at g.nodes b).form)

-- two roots that don't clash become one
pub behind_merge :
    (f : ℕ → Ty) (a b : ℕ) (g : Graph) → IsWellFormed g → a ≢ b → a < length g.nodes → b < length g.nodes → IsRoot g.nodes a
    → IsRoot g.nodes b → clash (node_at g.nodes a).form (node_at g.nodes b).form ≡ false
    → Behind f a b (argument_zip g a b) g (merge a b g)
behind_merge f a b g well apart la lb ra rb fits =
    let x = node_at g.nodes a in
    let y = node_at g.nodes b in
    let node = merged x y in
    let zs = argument_zip g a b in
    let types = length g.nodes in
    let is_root = one_form_is_root x.form y.form ra rb in
    let names = one_form_names types (length g.arguments) x.form y.form (well.names a) (well.names b) in
    let small = rank_is_small g well a ra in
    let weighs = rank_weighs x.rank y.rank small in
    if_either (λ h. Behind f a b zs g h) (nat_lt x.rank y.rank) (linked (is_given x y) b a node g) (linked (is_given x y) a b node g)
    (λ less.
    let above = rank_above_less x.rank y.rank less in
    let apart_too : b ≢ a = λ p. apart (sym p) in
    let roots_are : Roots g b a node = record {
      well = well;
      apart = apart_too;
      kept_is = lb;
      gone_is = la;
      kept_root = rb;
      gone_root = ra;
      root = is_root;
      names = names;
      above = above.0;
      as_high = above.1;
      weighs = omega arith;
    } in
    turned f a b zs g (linked (is_given x y) b a node g)
    (behind_linked g b a node roots_are f zs
    (λ t h k. of_one_form f g.arguments x.form y.form t k h)
    (λ t equal h. let both = of_both_forms f g.arguments types x.form y.form t ra rb fits (well.names a) (well.names b) equal h in (both.1, both.0))
    (is_given x y)))
    (λ other.
    let above = rank_above_other x.rank y.rank small other in
    let roots_are : Roots g a b node = record {
      well = well;
      apart = apart;
      kept_is = la;
      gone_is = lb;
      kept_root = ra;
      gone_root = rb;
      root = is_root;
      names = names;
      above = above.0;
      as_high = above.1;
      weighs = weighs;
    } in
    behind_linked g a b node roots_are f zs
    (λ t h k. of_one_form f g.arguments x.form y.form t h k)
    (λ t equal h. of_both_forms f g.arguments types x.form y.form t ra rb fits (well.names a) (well.names b) equal h)
    (is_given x y))
