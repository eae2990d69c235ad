-- Two roots become one.
use Rattle.std.proofs.Common.{◌≡◌, ◌≢◌, ℕ, suc, ◌+◌, ◌≤◌, ◌<◌, List, length, Some, None, false, sym, ◌∙◌, ap, subst, arith, ⊎_elim, slice_set}
use Rattle.std.specs.List.{sum_by}
use Rattle.std.proofs.lemmas.Bool.Decides.{eqb_tells}
use Rattle.std.proofs.lemmas.List.{get_or-set_same, get_or-set_other, length-set}
use Rattle.std.proofs.lemmas.List.Sums.{sum_by-set}
use Rattle.type_terms.specs.TypeTrees.{Ty}
use Rattle.type_graph.specs.declared.form.Form.TheVariants.{Link}
use Rattle.type_graph.specs.declared.types.Node.{Node}
use Rattle.type_graph.specs.Graph.{fresh, unknown, node_at, link_of}
use Rattle.type_readings.specs.Readings.{IsOfForm}
use Rattle.type_readings.specs.WellFormed.{NamesWhatIsThere, IsRoot, Leads, Ends}
use Rattle.type_readings.proofs.Rows.{leads_still, leads_on}

-- a link to the root that is kept
abbrev pub link_to : ℕ → Node
link_to kept = fresh (Link kept) false

-- the nodes where one root is linked to the other
abbrev pub nodes_behind : List Node → (kept gone : ℕ) → Node → List Node
nodes_behind nodes kept gone node = slice_set (slice_set nodes kept node) gone (link_to kept)

-- what stands where then
pub record Joined (nodes new : List Node) (kept gone : ℕ) (node : Node) : Type 0 where
  pub at_gone : node_at new gone ≡ link_to kept
  pub at_kept : node_at new kept ≡ node
  pub elsewhere : (n : ℕ) → n ≢ kept → n ≢ gone → node_at new n ≡ node_at nodes n

pub joined :
    (nodes : List Node) (kept gone : ℕ) (node : Node) → kept ≢ gone → kept < length nodes → gone < length nodes
    → Joined nodes (nodes_behind nodes kept gone node) kept gone node
joined nodes kept gone node apart k g =
    let first = slice_set nodes kept node in
    record {
      at_gone = get_or-set_same first gone (link_to kept) unknown (rw length-set g);
      at_kept = get_or-set_other first gone kept (link_to kept) unknown apart ∙ get_or-set_same nodes kept node unknown k;
      elsewhere = λ n p q. get_or-set_other first gone n (link_to kept) unknown q ∙ get_or-set_other nodes kept n node unknown p;
    }

-- what holds of two numbers and of each other one holds of all
pub at_each : (P : ℕ → Type 0) (kept gone : ℕ) → P kept → P gone → ((n : ℕ) → n ≢ kept → n ≢ gone → P n) → (n : ℕ) → P n
at_each P kept gone k g others n =
    ⊎_elim
    (λ p. subst P (sym p.1) k)
    (λ p. ⊎_elim (λ q. subst P (sym q.1) g) (λ q. others n p.1 q.1) (eqb_tells n gone))
    (eqb_tells n kept)

-- sums of nodes, of which links count for nothing
pub sum_behind :
    (w : Node → ℕ) (nodes : List Node) (kept gone : ℕ) (node : Node) → w (link_to kept) ≡ 0 → kept ≢ gone → kept < length nodes
    → gone < length nodes
    → sum_by w (nodes_behind nodes kept gone node) + w (node_at nodes kept) + w (node_at nodes gone) ≡ sum_by w nodes + w node
sum_behind w nodes kept gone node e apart k g =
    let first = slice_set nodes kept node in
    let long : gone < length first = rw length-set g in
    let second = sum_by-set w first gone (link_to kept) unknown long in
    let one = sum_by-set w nodes kept node unknown k in
    let apart_too : gone ≢ kept = λ p. apart (sym p) in
    let same : w (node_at first gone) ≡ w (node_at nodes gone) = ap w (get_or-set_other nodes kept gone node unknown apart_too) in
    omega arith

module _ (nodes new : List Node) (kept gone : ℕ) (node : Node) (j : Joined nodes new kept gone node) where
  module _ (f : ℕ → Ty) (arguments : List ℕ) where
    pub known_on :
        ((n : ℕ) → IsOfForm f arguments (node_at nodes n).form (f n)) → IsOfForm f arguments node.form (f kept) → f gone ≡ f kept
        → (n : ℕ) → IsOfForm f arguments (node_at new n).form (f n)
    known_on reads h e =
        at_each (λ n. IsOfForm f arguments (node_at new n).form (f n)) kept gone
        (subst (λ (x : Node). IsOfForm f arguments x.form (f kept)) (sym j.at_kept) h)
        (subst (λ (x : Node). IsOfForm f arguments x.form (f gone)) (sym j.at_gone) e)
        (λ n p q. subst (λ (x : Node). IsOfForm f arguments x.form (f n)) (sym (j.elsewhere n p q)) (reads n))

    pub known_back :
        ((n : ℕ) → IsOfForm f arguments (node_at new n).form (f n)) → IsOfForm f arguments (node_at nodes kept).form (f kept)
        → IsOfForm f arguments (node_at nodes gone).form (f gone)
        → (n : ℕ) → IsOfForm f arguments (node_at nodes n).form (f n)
    known_back reads k g =
        at_each (λ n. IsOfForm f arguments (node_at nodes n).form (f n)) kept gone k g
        (λ n p q. subst (λ (x : Node). IsOfForm f arguments x.form (f n)) (j.elsewhere n p q) (reads n))

    pub known_kept : ((n : ℕ) → IsOfForm f arguments (node_at new n).form (f n)) → IsOfForm f arguments node.form (f kept)
    known_kept reads = subst (λ (x : Node). IsOfForm f arguments x.form (f kept)) j.at_kept (reads kept)

    pub known_gone : ((n : ℕ) → IsOfForm f arguments (node_at new n).form (f n)) → f gone ≡ f kept
    known_gone reads = subst (λ (x : Node). IsOfForm f arguments x.form (f gone)) j.at_gone (reads gone)

  pub names_behind :
      (types arguments : ℕ) → ((n : ℕ) → NamesWhatIsThere types arguments (node_at nodes n).form)
      → NamesWhatIsThere types arguments node.form → kept < types → (n : ℕ) → NamesWhatIsThere types arguments (node_at new n).form
  names_behind types arguments names h k =
      at_each (λ n. NamesWhatIsThere types arguments (node_at new n).form) kept gone
      (subst (λ (x : Node). NamesWhatIsThere types arguments x.form) (sym j.at_kept) h)
      (subst (λ (x : Node). NamesWhatIsThere types arguments x.form) (sym j.at_gone) k)
      (λ n p q. subst (λ (x : Node). NamesWhatIsThere types arguments x.form) (sym (j.elsewhere n p q)) (names n))

  module _ (rk : IsRoot nodes kept) (rg : IsRoot nodes gone) (rn : link_of node.form ≡ None) where
    pub links_stay : (n m : ℕ) → link_of (node_at nodes n).form ≡ Some m → link_of (node_at new n).form ≡ Some m
    links_stay =
        at_each (λ n. (m : ℕ) → link_of (node_at nodes n).form ≡ Some m → link_of (node_at new n).form ≡ Some m) kept gone
        (λ m e. absurd (cc))
        (λ m e. absurd (cc))
        (λ n p q m e. ap (λ (x : Node). link_of x.form) (j.elsewhere n p q) ∙ e)

    pub kept_is_root : IsRoot new kept
    kept_is_root = ap (λ (x : Node). link_of x.form) j.at_kept ∙ rn

    end_gone :
        (n links : ℕ) → Leads links nodes n gone → links ≤ (node_at nodes gone).rank → suc (node_at nodes gone).rank ≤ node.rank
        → Ends new n
    end_gone n links leads short up = record {
      links = suc links;
      end = kept;
      leads = leads_on new links n gone kept (leads_still nodes new links_stay links n gone leads) (ap (λ (x : Node). link_of x.form) j.at_gone);
      is_root = kept_is_root;
      is_short = subst (λ (x : Node). suc links ≤ x.rank) (sym j.at_kept) (omega arith);
    }

    end_kept :
        (n links : ℕ) → Leads links nodes n kept → links ≤ (node_at nodes kept).rank → (node_at nodes kept).rank ≤ node.rank → Ends new n
    end_kept n links leads short up = record {
      links = links;
      end = kept;
      leads = leads_still nodes new links_stay links n kept leads;
      is_root = kept_is_root;
      is_short = subst (λ (x : Node). links ≤ x.rank) (sym j.at_kept) (omega arith);
    }

    end_elsewhere :
        (n links r : ℕ) → r ≢ kept → r ≢ gone → Leads links nodes n r → IsRoot nodes r → links ≤ (node_at nodes r).rank → Ends new n
    end_elsewhere n links r p q leads is_root short = record {
      links = links;
      end = r;
      leads = leads_still nodes new links_stay links n r leads;
      is_root = ap (λ (x : Node). link_of x.form) (j.elsewhere r p q) ∙ is_root;
      is_short = subst (λ (x : Node). links ≤ x.rank) (sym (j.elsewhere r p q)) short;
    }

    pub ends_behind :
        suc (node_at nodes gone).rank ≤ node.rank → (node_at nodes kept).rank ≤ node.rank → (n : ℕ) → Ends nodes n → Ends new n
    ends_behind up same n e =
        at_each (λ r. Leads e.links nodes n r → IsRoot nodes r → e.links ≤ (node_at nodes r).rank → Ends new n) kept gone
        (λ leads is_root short. end_kept n e.links leads short same)
        (λ leads is_root short. end_gone n e.links leads short up)
        (λ r p q leads is_root short. end_elsewhere n e.links r p q leads is_root short)
        e.end e.leads e.is_root e.is_short
