-- Nodes that become outer.
use Rattle.std.proofs.Common.{◌≡◌, ℕ, zero, suc, ◌≤◌, List, [], ◌∷◌, ◌++◌, length, reverse, refl, sym, ◌∙◌, ap, subst, arith, ⊎_elim, slice_set}
use Rattle.std.specs.Prelude.{◌↔◌}
use Rattle.std.specs.List.{sum_by}
use Rattle.std.proofs.lemmas.Bool.Decides.{eqb_tells, leb_tells}
use Rattle.std.proofs.lemmas.List.{get_or-set_same, get_or-set_other, set_past, length-set}
use Rattle.std.proofs.lemmas.List.Sums.{sum_by-set}
use Rattle.type_terms.specs.TypeTrees.{Ty}
use Rattle.type_graph.specs.declared.types.Node.{Node}
use Rattle.type_graph.specs.Graph.{Graph, unknown, node_at, link_of, root, arguments_of, set_node}
use Rattle.type_graph.specs.Outer.{outer, Outward, outward, made_outer}
use Rattle.type_readings.specs.Readings.{IsOfForm, Reads}
use Rattle.type_readings.specs.WellFormed.{NamesWhatIsThere, AreNumbers, Ends, weight_of, weight, IsWellFormed}
use Rattle.type_readings.specs.Laws.{OuterKeepsForm, OuterAsksNothing, EndKeepsForm, EndAsksNothing}
use Rattle.type_readings.proofs.Rows.{leads_still}
use Rattle.type_readings.proofs.Behind.{if_either}

-- as many nodes, of the same forms and ranks
pub record Alike (nodes new : List Node) : Type 0 where
  pub long : length new ≡ length nodes
  pub forms : (n : ℕ) → (node_at new n).form ≡ (node_at nodes n).form
  ranks : (n : ℕ) → (node_at new n).rank ≡ (node_at nodes n).rank
  pub weights : sum_by weight new ≡ sum_by weight nodes

-- what holds of a node that is set, and of the one that was there
pub node_set :
    (P : Node → Type 0) (nodes : List Node) (r : ℕ) (x : Node) (n : ℕ) → (n ≡ r → P x) → P (node_at nodes n)
    → P (node_at (slice_set nodes r x) n)
node_set P nodes r x n h k =
    ⊎_elim
    (λ p.
    ⊎_elim
    (λ l. subst P (sym (ap (node_at (slice_set nodes r x)) p.1 ∙ get_or-set_same nodes r x unknown l.1)) (h p.1))
    (λ l. subst (λ (new : List Node). P (node_at new n)) (sym (set_past nodes r x (omega arith))) k)
    (leb_tells (suc r) (length nodes)))
    (λ p. subst P (sym (get_or-set_other nodes r n x unknown p.1)) k)
    (eqb_tells n r)

-- a node that counts as much as the one that was there changes no sum
pub sum_set :
    (w : Node → ℕ) (nodes : List Node) (r : ℕ) (x : Node) → w x ≡ w (node_at nodes r)
    → sum_by w (slice_set nodes r x) ≡ sum_by w nodes
sum_set w nodes r x same =
    ⊎_elim
    (λ l. let sum = sum_by-set w nodes r x unknown l.1 in omega arith)
    (λ l. ap (sum_by w) (set_past nodes r x (omega arith)))
    (leb_tells (suc r) (length nodes))

pub alike_set :
    (nodes : List Node) (r : ℕ) (x : Node) → x.form ≡ (node_at nodes r).form → x.rank ≡ (node_at nodes r).rank
    → Alike nodes (slice_set nodes r x)
alike_set nodes r x form rank = record {
  long = length-set nodes r x;
  forms =
      λ n. node_set (λ (y : Node). y.form ≡ (node_at nodes n).form) nodes r x n (λ e. form ∙ ap (λ k. (node_at nodes k).form) (sym e)) refl;
  ranks =
      λ n. node_set (λ (y : Node). y.rank ≡ (node_at nodes n).rank) nodes r x n (λ e. rank ∙ ap (λ k. (node_at nodes k).rank) (sym e)) refl;
  weights =
      sum_set weight nodes r x (ap (λ a. weight_of a x.rank) form ∙ ap (λ k. weight_of (node_at nodes r).form k) rank);
}

module _ (nodes new : List Node) (alike : Alike nodes new) where
  ends_alike : (n : ℕ) → Ends nodes n → Ends new n
  ends_alike n e = record {
    links = e.links;
    end = e.end;
    leads = leads_still nodes new (λ k m h. ap link_of (alike.forms k) ∙ h) e.links n e.end e.leads;
    is_root = ap link_of (alike.forms e.end) ∙ e.is_root;
    is_short = subst (λ k. e.links ≤ k) (sym (alike.ranks e.end)) e.is_short;
  }

  well_alike : (g : Graph) → g.nodes ≡ nodes → IsWellFormed g → IsWellFormed (record { nodes = new; arguments = g.arguments; given = g.given })
  well_alike g same well =
      let long : length g.nodes ≡ length new = ap length same ∙ sym alike.long in
      let weighs = well.weighs in
      let weights = alike.weights in
      let sums : sum_by weight g.nodes ≡ sum_by weight nodes = ap (sum_by weight) same in
      record {
        room = subst (λ k. k ≤ 33554432) long well.room;
        argument_room = well.argument_room;
        names =
            λ n.
            subst (λ k. NamesWhatIsThere k (length g.arguments) (node_at new n).form) long
            (subst (NamesWhatIsThere (length g.nodes) (length g.arguments))
            (ap (λ (l : List Node). (node_at l n).form) same ∙ sym (alike.forms n))
            (well.names n));
        numbers = subst (λ k. AreNumbers k g.arguments) long well.numbers;
        ends = λ n. ends_alike n (subst (λ (l : List Node). Ends l n) same (well.ends n));
        weighs = omega arith;
      }

-- a root becomes outer
pub well_outer : (g : Graph) (r : ℕ) → IsWellFormed g → IsWellFormed (set_node r (outer (node_at g.nodes r)) g)
well_outer g r well =
    let x = outer (node_at g.nodes r) in
    well_alike g.nodes (slice_set g.nodes r x) (alike_set g.nodes r x refl refl) g refl well

reads_outer : (f : ℕ → Ty) (g : Graph) (r : ℕ) → Reads f (set_node r (outer (node_at g.nodes r)) g) ↔ Reads f g
reads_outer f g r =
    let x = outer (node_at g.nodes r) in
    let alike = alike_set g.nodes r x refl refl in (
      λ reads n. subst (λ a. IsOfForm f g.arguments a (f n)) (alike.forms n) (reads n),
      λ reads n. subst (λ a. IsOfForm f g.arguments a (f n)) (sym (alike.forms n)) (reads n),
    )

-- what stays where a root becomes outer stays where types and their parts do
pub outer_keeps :
    (P : Graph → Type 0) → ((g : Graph) (r : ℕ) → P g → P (set_node r (outer (node_at g.nodes r)) g)) → (steps : ℕ) (ns : List ℕ) (g : Graph)
    → P g → P (made_outer steps ns g)
unfolding made_outer
outer_keeps P keeps steps [] g h = h
outer_keeps P keeps zero (n ∷ ns) g h = h
outer_keeps P keeps (suc steps) (n ∷ ns) g h =
    let r = root g.nodes n in
    let node = node_at g.nodes r in
    let parts = reverse (arguments_of g.arguments node.form) ++ ns in
    let others = set_node r (outer node) g in
    if_either (λ (s : Outward). P (made_outer steps s.pending s.types)) node.is_outer (outward ns g) (outward parts others)
    (λ e. outer_keeps P keeps steps ns g h)
    (λ e. outer_keeps P keeps steps parts others (keeps g r h))

pub outer_keeps_form_law : OuterKeepsForm
outer_keeps_form_law steps ns g well = outer_keeps IsWellFormed (λ h r w. well_outer h r w) steps ns g well

pub outer_asks_nothing_law : OuterAsksNothing
outer_asks_nothing_law steps ns g f =
    outer_keeps (λ h. Reads f h ↔ Reads f g)
    (λ h r same. let now = reads_outer f h r in (λ k. same.0 (now.0 k), λ k. now.1 (same.1 k)))
    steps ns g
    (λ k. k, λ k. k)

pub end_keeps_form_law : EndKeepsForm
end_keeps_form_law g well =
    let others : Graph = record { nodes = g.nodes; arguments = g.arguments; given = [] } in
    outer_keeps_form_law 18446744073709551615 g.given others
    (record {
      room = well.room;
      argument_room = well.argument_room;
      names = well.names;
      numbers = well.numbers;
      ends = well.ends;
      weighs = well.weighs;
    })

pub end_asks_nothing_law : EndAsksNothing
end_asks_nothing_law g f =
    let others : Graph = record { nodes = g.nodes; arguments = g.arguments; given = [] } in
    outer_asks_nothing_law 18446744073709551615 g.given others f
