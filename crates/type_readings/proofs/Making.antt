-- A type more.
use Rattle.std.proofs.Common.{◌≡◌, ◌≢◌, ℕ, suc, ◌+◌, ◌^◌, ◌≤◌, ◌<◌, List, [], ◌∷◌, ◌++◌, length, take, drop, None, Bool, refl, sym, ◌∙◌, ap, subst, arith, ⊎_elim, ◌-◌}
use Rattle.std.specs.Prelude.{◌↔◌}
use Rattle.std.specs.List.{sum_by}
use Rattle.std.proofs.lemmas.Bool.Decides.{eqb_tells, leb_tells}
use Rattle.std.proofs.lemmas.List.{append-nil, get_or_past, get_or_append_left, length-append, take-append-le, drop-append-le, take_all, length-drop}
use Rattle.std.proofs.lemmas.List.Sums.{sum_by_push}
use Rattle.std.proofs.Math.Seq.{get_or-append_seam, drop-append_seam}
use Rattle.type_terms.specs.TypeTrees.{Ty, Constructed}
use Rattle.type_graph.specs.declared.form.Form.{Form}
use Rattle.type_graph.specs.declared.form.Form.TheVariants.{Variable, Link, Applied}
use Rattle.type_graph.specs.declared.types.Node.{Node}
use Rattle.type_graph.specs.Graph.{Graph, fresh, unknown, node_at, link_of, part_of, added}
use Rattle.type_readings.specs.Readings.{trees_of, IsOfForm, Reads}
use Rattle.type_readings.specs.WellFormed.{NamesWhatIsThere, AreNumbers, Ends, weight, IsWellFormed}
use Rattle.type_readings.specs.Laws.{VariableKeepsForm, VariableAsksNothing, ApplicationKeepsForm, ApplicationIsRead}
use Rattle.type_readings.proofs.Lists.{each_appended}
use Rattle.type_readings.proofs.Rows.{leads_still, weight_at_root}

-- parts of a longer list
pub part_of_more : {X : Type 0} (xs ys : List X) (first count : ℕ) → first + count ≤ length xs → part_of (xs ++ ys) first count ≡ part_of xs first count
part_of_more xs ys first count h =
    let longer : length (xs ++ ys) ≡ length xs + length ys = length-append xs ys in
    let dropped = drop-append-le first xs ys (omega arith) in
    let left : length (drop first xs) ≡ length xs - first = length-drop first xs in
    let taken = take-append-le count (drop first xs) ys (omega arith) in
    ⊎_elim
    (λ p.
    ⊎_elim (λ q. rw (p.0, q.0) (ap (take count) dropped ∙ taken)) (λ q. absurd (omega arith)) (leb_tells (first + count) (length (xs ++ ys))))
    (λ p. absurd (omega arith))
    (leb_tells (first + count) (length xs))

-- the part that comes on top
pub part_of_seam : {X : Type 0} (xs ys : List X) → part_of (xs ++ ys) (length xs) (length ys) ≡ ys
part_of_seam xs ys =
    let longer : length (xs ++ ys) ≡ length xs + length ys = length-append xs ys in
    ⊎_elim
    (λ q. rw q.0 (ap (take (length ys)) (drop-append_seam xs ys) ∙ take_all (length ys) ys (omega arith)))
    (λ q. absurd (omega arith))
    (leb_tells (length xs + length ys) (length (xs ++ ys)))

-- a type is as is known, with further arguments too
pub of_form_more :
    (f : ℕ → Ty) (types : ℕ) (xs ys : List ℕ) (a : Form) (t : Ty) → NamesWhatIsThere types (length xs) a
    → IsOfForm f xs a t ↔ IsOfForm f (xs ++ ys) a t
of_form_more f types xs ys Variable t h = (λ k. k, λ k. k)
of_form_more f types xs ys (Link m) t h = (λ k. k, λ k. k)
of_form_more f types xs ys (Applied c first count) t h =
    let same = part_of_more xs ys first count h in
    let trees = ap (λ (ns : List ℕ). Constructed c (trees_of f ns)) same in
    (λ k. k ∙ sym trees, λ k. k ∙ trees)

names_more :
    (n : ℕ) (xs ys : List ℕ) (a : Form) → NamesWhatIsThere n (length xs) a → NamesWhatIsThere (suc n) (length (xs ++ ys)) a
names_more n xs ys Variable h = tt
names_more n xs ys (Link l) h = omega arith
names_more n xs ys (Applied c first count) h = let longer = length-append xs ys in omega arith

pub numbers_more : (n : ℕ) (ns : List ℕ) → AreNumbers n ns → AreNumbers (suc n) ns
numbers_more n [] h = tt
numbers_more n (x ∷ xs) h = let first = h.0 in (omega arith, numbers_more n xs h.1)

pub apart_above : (n m : ℕ) → n ≢ m → m < suc n → m < n
apart_above n m h k =
    ⊎_elim (λ p. p.1) (λ p. let same : n ≡ m = omega arith in absurd (h same)) (leb_tells (suc m) n)

-- a node comes on top
module _ (nodes : List Node) (x : Node) where
  pub node_before : (n : ℕ) → n < length nodes → node_at (nodes ++ x ∷ []) n ≡ node_at nodes n
  node_before n h = get_or_append_left nodes (x ∷ []) unknown n h

  pub node_on_top : node_at (nodes ++ x ∷ []) (length nodes) ≡ x
  node_on_top = get_or-append_seam nodes x [] unknown

  pub one_longer : length (nodes ++ x ∷ []) ≡ suc (length nodes)
  one_longer = length-append nodes (x ∷ []) ∙ omega arith

  pub node_elsewhere : (n : ℕ) → n ≢ length nodes → node_at (nodes ++ x ∷ []) n ≡ node_at nodes n
  node_elsewhere n h =
      ⊎_elim (λ p. node_before n p.1)
      (λ p.
      let long = one_longer in
      let above : length nodes < n = apart_above n (length nodes) h p.1 in
      get_or_past (nodes ++ x ∷ []) n unknown (omega arith) ∙ sym (get_or_past nodes n unknown (omega arith)))
      (leb_tells (suc n) (length nodes))

  -- what holds of each node that was there, and of the new one
  at_each_node : (P : ℕ → Node → Type 0) → P (length nodes) x → ((n : ℕ) → n ≢ length nodes → P n (node_at nodes n)) → (n : ℕ) → P n (node_at (nodes ++ x ∷ []) n)
  at_each_node P new old n =
      ⊎_elim
      (λ p. subst (λ k. P k (node_at (nodes ++ x ∷ []) k)) (sym p.1) (subst (P (length nodes)) (sym node_on_top) new))
      (λ p. subst (P n) (sym (node_elsewhere n p.1)) (old n p.1))
      (eqb_tells n (length nodes))

  module _ (rx : link_of x.form ≡ None) (low : x.rank ≡ 0) where
    nothing_was_there : node_at nodes (length nodes) ≡ unknown
    nothing_was_there = get_or_past nodes (length nodes) unknown (omega arith)

    same_link : (n : ℕ) → link_of (node_at (nodes ++ x ∷ []) n).form ≡ link_of (node_at nodes n).form
    same_link =
        at_each_node (λ n (y : Node). link_of y.form ≡ link_of (node_at nodes n).form)
        (rx ∙ sym (ap (λ (y : Node). link_of y.form) nothing_was_there))
        (λ n h. refl)

    same_rank : (n : ℕ) → (node_at (nodes ++ x ∷ []) n).rank ≡ (node_at nodes n).rank
    same_rank =
        at_each_node (λ n (y : Node). y.rank ≡ (node_at nodes n).rank) (low ∙ sym (ap (λ (y : Node). y.rank) nothing_was_there)) (λ n h. refl)

    ends_still : (n : ℕ) → Ends nodes n → Ends (nodes ++ x ∷ []) n
    ends_still n e = record {
      links = e.links;
      end = e.end;
      leads = leads_still nodes (nodes ++ x ∷ []) (λ k m h. same_link k ∙ h) e.links n e.end e.leads;
      is_root = same_link e.end ∙ e.is_root;
      is_short = subst (λ k. e.links ≤ k) (sym (same_rank e.end)) e.is_short;
    }

    pub weighs_more : sum_by weight (nodes ++ x ∷ []) ≡ suc (sum_by weight nodes)
    weighs_more =
        let push = sum_by_push weight nodes x in
        let one = weight_at_root x rx in
        let none : 2 ^ x.rank ≡ 2 ^ 0 = ap (λ k. 2 ^ k) low in
        omega arith

-- a graph with a further type and further arguments
abbrev pub graph_made : Graph → Node → List ℕ → Graph
graph_made g x ns = record { nodes = g.nodes ++ x ∷ []; arguments = g.arguments ++ ns; given = g.given }

module _
    (g : Graph) (x : Node) (ns : List ℕ) (well : IsWellFormed g) (rx : link_of x.form ≡ None) (low : x.rank ≡ 0)
    (names : NamesWhatIsThere (suc (length g.nodes)) (length (g.arguments ++ ns)) x.form) where
  well_made :
      AreNumbers (length g.nodes) ns → length g.nodes < 33554432 → length g.arguments + length ns ≤ 67108864 → IsWellFormed (graph_made g x ns)
  well_made numbers room more =
      let nodes = g.nodes in
      let types = length nodes in
      let long : suc types ≡ length (nodes ++ x ∷ []) = sym (one_longer nodes x) in
      let longer = length-append g.arguments ns in
      let heavier = weighs_more nodes x rx low in
      let weighs = well.weighs in
      record {
        room = omega arith;
        argument_room = omega arith;
        names =
            subst (λ k. (n : ℕ) → NamesWhatIsThere k (length (g.arguments ++ ns)) (node_at (nodes ++ x ∷ []) n).form) long
            (at_each_node nodes x (λ n (y : Node). NamesWhatIsThere (suc types) (length (g.arguments ++ ns)) y.form) names
            (λ n h. names_more types g.arguments ns (node_at nodes n).form (well.names n)));
        numbers =
            subst (λ k. AreNumbers k (g.arguments ++ ns)) long
            (each_appended (λ n. n < suc types) g.arguments ns (numbers_more types g.arguments well.numbers) (numbers_more types ns numbers));
        ends = λ n. ends_still nodes x rx low n (well.ends n);
        weighs = omega arith;
      }

  module _ (f : ℕ → Ty) where
    reads_made : Reads f g → IsOfForm f (g.arguments ++ ns) x.form (f (length g.nodes)) → Reads f (graph_made g x ns)
    reads_made reads h =
        at_each_node g.nodes x (λ n (y : Node). IsOfForm f (g.arguments ++ ns) y.form (f n)) h
        (λ n p. (of_form_more f (length g.nodes) g.arguments ns (node_at g.nodes n).form (f n) (well.names n)).0 (reads n))

    -- nothing was known of the new type
    known_before : (n : ℕ) → node_at g.nodes n ≡ unknown → IsOfForm f g.arguments (node_at g.nodes n).form (f n)
    known_before n e = subst (λ (y : Node). IsOfForm f g.arguments y.form (f n)) (sym e) tt

    reads_unmade : Reads f (graph_made g x ns) → Reads f g × IsOfForm f (g.arguments ++ ns) x.form (f (length g.nodes))
    reads_unmade reads = (
      λ n.
          ⊎_elim
          (λ p. known_before n (get_or_past g.nodes n unknown (omega arith)))
          (λ p.
          (of_form_more f (length g.nodes) g.arguments ns (node_at g.nodes n).form (f n) (well.names n)).1
          (subst (λ (y : Node). IsOfForm f (g.arguments ++ ns) y.form (f n)) (node_elsewhere g.nodes x n p.1) (reads n)))
          (eqb_tells n (length g.nodes)),
      subst (λ (y : Node). IsOfForm f (g.arguments ++ ns) y.form (f (length g.nodes))) (node_on_top g.nodes x) (reads (length g.nodes)),
    )

-- without further arguments
pub without_more : (P : Graph → Type 0) (g : Graph) (x : Node) → P (graph_made g x []) ↔ P (added x g)
without_more P g x =
    let Q : List ℕ → Type 0 = λ ns. P (record { nodes = g.nodes ++ x ∷ []; arguments = ns; given = g.given }) in
    (subst Q (append-nil g.arguments), subst Q (sym (append-nil g.arguments)))

pub variable_keeps_form_law : VariableKeepsForm
variable_keeps_form_law g well room =
    let roomy = well.argument_room in
    (without_more IsWellFormed g unknown).0 (well_made g unknown [] well refl refl tt tt room (omega arith))

pub variable_asks_nothing_law : VariableAsksNothing
variable_asks_nothing_law g f well =
    let same = without_more (Reads f) g unknown in (
      λ reads. (reads_unmade g unknown [] well refl refl tt f (same.1 reads)).0,
      λ reads. same.0 (reads_made g unknown [] well refl refl tt f reads tt),
    )

-- the node of a type constructor
abbrev node_of : ℕ → List ℕ → Bool → Graph → Node
node_of c ns outer g = fresh (Applied c (length g.arguments) (length ns)) outer

names_of_node :
    (c : ℕ) (ns : List ℕ) (outer : Bool) (g : Graph)
    → NamesWhatIsThere (suc (length g.nodes)) (length (g.arguments ++ ns)) (node_of c ns outer g).form
names_of_node c ns outer g = let longer = length-append g.arguments ns in omega arith

pub application_keeps_form_law : ApplicationKeepsForm
application_keeps_form_law c ns outer g well numbers room more =
    well_made g (node_of c ns outer g) ns well refl refl (names_of_node c ns outer g) numbers room more

pub application_is_read_law : ApplicationIsRead
application_is_read_law c ns outer g f well =
    let x = node_of c ns outer g in
    let trees = ap (λ (ms : List ℕ). Constructed c (trees_of f ms)) (part_of_seam g.arguments ns) in (
      λ reads. let before = reads_unmade g x ns well refl refl (names_of_node c ns outer g) f reads in (before.0, before.1 ∙ trees),
      λ h. reads_made g x ns well refl refl (names_of_node c ns outer g) f h.0 (h.1 ∙ sym trees),
    )
