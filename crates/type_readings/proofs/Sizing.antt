-- The laws of the sizes of types.
use Rattle.std.proofs.Common.{◌≡◌, ℕ, suc, ◌≤◌, ◌<◌, [], length, refl, sym, ◌∙◌, ap, subst, arith, ⊎_elim, replicate, min}
use Rattle.std.proofs.lemmas.Bool.Decides.{leb_tells}
use Rattle.std.proofs.lemmas.List.{get_or_past}
use Rattle.type_terms.specs.TypeTrees.{Ty, TypeVariable, size}
use Rattle.type_graph.specs.declared.sizes.Size.{Size}
use Rattle.type_graph.specs.declared.sizes.Size.TheVariants.{Unknown, Open, Known}
use Rattle.type_graph.specs.declared.types.Node.{Node}
use Rattle.type_graph.specs.Graph.{Graph, unknown, node_at, link_of, root}
use Rattle.type_graph.specs.Sized.{Counting, size_at}
use Rattle.type_readings.specs.WellFormed.{IsWellFormed}
use Rattle.type_readings.specs.Laws.{CountedIsRead, UncountedIsUnread}
use Rattle.type_readings.proofs.Rows.{root_is_root, followed_root}
use Rattle.type_readings.proofs.Trees.{TreeOf, trees_read}
use Rattle.type_readings.proofs.Counting.{Counted}
use Rattle.type_readings.proofs.Finishing.{TypesOutcome, all_outcome}

pub uncounted_is_unread_law : UncountedIsUnread
uncounted_is_unread_law g f well e =
    subst (TypesOutcome g well (replicate (length g.nodes) Unknown) 0 (length g.nodes)) e (all_outcome g well) f

-- a number's tree
record Sized (g : Graph) (s : Counting) (n : ℕ) : Type 0 where
  tree : Ty
  is_tree : TreeOf g tree (root g.nodes n)
  is_size : n < length g.nodes → size_at s.sizes (root g.nodes n) ≡ Known (min (size tree) 4097)

module _ (g : Graph) (s : Counting) (well : IsWellFormed g) (counted : Counted g s.sizes []) where
  sized_at : (n : ℕ) (x : Size) → size_at s.sizes (root g.nodes n) ≡ x → (x ≡ Unknown → ⊥) → Sized g s n
  sized_at n Unknown e h = absurd (h refl)
  sized_at n Open e h = absurd (counted.opened (root g.nodes n) e)
  sized_at n (Known k) e h =
      let has = counted.known (root g.nodes n) k e in
      record {
        tree = has.tree;
        is_tree = subst (TreeOf g has.tree) (followed_root 32 g.nodes (root g.nodes n) (root_is_root g well n)) has.is_tree;
        is_size = λ lt. e ∙ ap Known has.is_size;
      }

  -- where there is no type nothing is known
  sized_past : (n : ℕ) → length g.nodes ≤ n → Sized g s n
  sized_past n h =
      let none : node_at g.nodes n ≡ unknown = get_or_past g.nodes n unknown h in
      let at : root g.nodes n ≡ n = followed_root 32 g.nodes n (ap (λ (x : Node). link_of x.form) none) in
      record {
        tree = TypeVariable n;
        is_tree = (sym at, ap (λ k. (node_at g.nodes k).form) at ∙ ap (λ (x : Node). x.form) none);
        is_size = λ lt. absurd (omega arith);
      }

  module _ (all : (m : ℕ) → m < length g.nodes → size_at s.sizes (root g.nodes m) ≡ Unknown → ⊥) where
    sized : (n : ℕ) → Sized g s n
    sized n =
        ⊎_elim
        (λ p. sized_at n (size_at s.sizes (root g.nodes n)) refl (all n p.1))
        (λ p. sized_past n (omega arith))
        (leb_tells (suc n) (length g.nodes))

pub counted_is_read_law : CountedIsRead
counted_is_read_law g s well e =
    let o = subst (TypesOutcome g well (replicate (length g.nodes) Unknown) 0 (length g.nodes)) e (all_outcome g well) in
    let each : (n : ℕ) → Sized g s n = sized g s well o.0.is_counted (λ m lt. o.1 m (omega arith) (omega arith)) in
    let f : ℕ → Ty = λ n. (each n).tree in
    let reads = trees_read g f well (λ n. (each n).is_tree) in
    (f, reads.0, reads.1, λ n lt. (each n).is_size lt)
