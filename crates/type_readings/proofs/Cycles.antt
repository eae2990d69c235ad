-- What is a part of itself has no finite tree.
use Rattle.std.proofs.Common.{◌≡◌, ℕ, zero, suc, ◌≤◌, ◌<◌, List, [], ◌∷◌, length, Some, ap, subst, arith, ⊎_elim, slice_get}
use Rattle.std.specs.List.{AllByRecursion}
use Rattle.std.proofs.lemmas.List.Elements.{All-from_recursion}
use Rattle.std.proofs.lemmas.Option.{slice_get_within, get_or_from_slice_get}
use Rattle.type_terms.specs.TypeTrees.{Ty, size, size_of_all}
use Rattle.type_graph.specs.declared.form.Form.{Form}
use Rattle.type_graph.specs.declared.form.Form.TheVariants.{Variable, Link, Applied}
use Rattle.type_graph.specs.declared.sizes.Count.{Count}
use Rattle.type_graph.specs.Graph.{Graph, root, form_of, arguments_of, argument_of}
use Rattle.type_readings.specs.Readings.{trees_of, IsOfForm, Reads}
use Rattle.type_readings.specs.WellFormed.{IsWellFormed}
use Rattle.type_readings.proofs.Rows.{root_is_equal}
use Rattle.type_readings.proofs.Steps.{numbers_of_form}
use Rattle.type_readings.proofs.Counting.{InStack, ChainUnder, parts_at}

-- an element of a list of which each has it has it
element_has : (P : ℕ → Type 0) (xs : List ℕ) (i n : ℕ) → AllByRecursion P xs → slice_get xs i ≡ Some n → P n
element_has P xs i n h e =
    subst P (get_or_from_slice_get xs i n n e) (All-from_recursion P xs h i n (slice_get_within xs i n e))

-- a part is a number of a type
pub part_is_number :
    (g : Graph) → IsWellFormed g → (q i n : ℕ) → argument_of g.arguments (form_of g.nodes q) i ≡ Some n → n < length g.nodes
part_is_number g well q i n e =
    element_has (λ m. m < length g.nodes) (parts_at g q) i n
    (numbers_of_form (length g.nodes) g.arguments (form_of g.nodes q) well.numbers) e

module _ (f : ℕ → Ty) where
  part_of_trees : (xs : List ℕ) (i m : ℕ) → slice_get xs i ≡ Some m → size (f m) ≤ size_of_all (trees_of f xs)
  part_of_trees [] i m e = absurd (cc)
  part_of_trees (x ∷ xs) zero m e =
      let same : x ≡ m = cc in
      let equal : size (f x) ≡ size (f m) = ap (λ n. size (f n)) same in
      omega arith
  part_of_trees (x ∷ xs) (suc i) m e = let rest = part_of_trees xs i m e in omega arith

  part_is_smaller :
      (arguments : List ℕ) (a : Form) (i m : ℕ) (t : Ty) → IsOfForm f arguments a t → slice_get (arguments_of arguments a) i ≡ Some m
      → suc (size (f m)) ≤ size t
  part_is_smaller arguments Variable i m t h e = absurd (cc)
  part_is_smaller arguments (Link l) i m t h e = absurd (cc)
  part_is_smaller arguments (Applied c first count) i m t h e =
      let part = part_of_trees (arguments_of arguments (Applied c first count)) i m e in
      let same : size t ≡ suc (size_of_all (trees_of f (arguments_of arguments (Applied c first count)))) = ap size h in
      omega arith

  module _ (g : Graph) (well : IsWellFormed g) (reads : Reads f g) where
    root_as_large : (n : ℕ) → size (f n) ≡ size (f (root g.nodes n))
    root_as_large n = ap size (root_is_equal f g well reads n)

    smaller : (q i m : ℕ) → argument_of g.arguments (form_of g.nodes q) i ≡ Some m → suc (size (f m)) ≤ size (f q)
    smaller q i m e =
        let part = part_is_smaller g.arguments (form_of g.nodes q) i m (f (root g.nodes q)) (reads (root g.nodes q)) e in
        let same = root_as_large q in
        omega arith

    -- each type in the stack is larger than those above
    larger : (q r : ℕ) (cs : List Count) → InStack q cs → ChainUnder g r cs → suc (size (f r)) ≤ size (f q)
    larger q r [] h chain = absurd h
    larger q r (d ∷ cs) h chain =
        let part = smaller d.root d.counted chain.0 chain.1 in
        let at_root = root_as_large chain.0 in
        let at : size (f (root g.nodes chain.0)) ≡ size (f r) = ap (λ n. size (f n)) chain.2 in
        ⊎_elim
        (λ p. let same : size (f q) ≡ size (f d.root) = ap (λ n. size (f n)) p in omega arith)
        (λ p. let rest = larger q d.root cs p chain.3 in omega arith)
        h

    pub no_cycle :
        (c : Count) (cs : List Count) (n : ℕ) → InStack (root g.nodes n) (c ∷ cs) → ChainUnder g c.root cs
        → argument_of g.arguments (form_of g.nodes c.root) c.counted ≡ Some n → ⊥
    no_cycle c cs n h chain e =
        let part = smaller c.root c.counted n e in
        let at_root = root_as_large n in
        ⊎_elim
        (λ p. let same : size (f (root g.nodes n)) ≡ size (f c.root) = ap (λ m. size (f m)) p in absurd (omega arith))
        (λ p. let rest = larger (root g.nodes n) c.root cs p chain in absurd (omega arith))
        h
