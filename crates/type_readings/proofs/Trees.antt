-- Finite trees of a graph.
use Rattle.std.proofs.Common.{◌≡◌, ℕ, ◌+◌, List, [], ◌∷◌, ◌++◌, None, refl, sym, ◌∙◌, ap, subst, arith}
use Rattle.type_terms.specs.TypeTrees.{Ty, TypeVariable, Constructed, Tys, NoTys, AndTy, size, size_of_all}
use Rattle.type_graph.specs.declared.form.Form.{Form}
use Rattle.type_graph.specs.declared.form.Form.TheVariants.{Variable, Link, Applied}
use Rattle.type_graph.specs.Graph.{Graph, node_at, root, link_of, arguments_of}
use Rattle.type_readings.specs.Readings.{trees_of, IsOfForm, Reads, LeavesOpen}
use Rattle.type_readings.specs.WellFormed.{IsWellFormed}
use Rattle.type_readings.proofs.Rows.{followed_root, link_same_root}

abbrev mutual
  -- a root has a tree
  pub TreeOf : Graph → Ty → (root : ℕ) → Type 0
  TreeOf g (TypeVariable v) r = (v ≡ r) × ((node_at g.nodes r).form ≡ Variable)
  TreeOf g (Constructed c ts) r =
      (first : ℕ) × (count : ℕ) × ((node_at g.nodes r).form ≡ Applied c first count)
      × TreesOf g ts (arguments_of g.arguments (Applied c first count))

  -- so do the roots of some numbers
  pub TreesOf : Graph → Tys → List ℕ → Type 0
  TreesOf g NoTys [] = Unit {0}
  TreesOf g NoTys (n ∷ ns) = ⊥
  TreesOf g (AndTy t ts) [] = ⊥
  TreesOf g (AndTy t ts) (n ∷ ns) = TreeOf g t (root g.nodes n) × TreesOf g ts ns

-- it has no other one
mutual
  pub one_tree : (g : Graph) (t u : Ty) (r : ℕ) → TreeOf g t r → TreeOf g u r → t ≡ u
  one_tree g (TypeVariable v) (TypeVariable w) r h k = ap TypeVariable (h.0 ∙ sym k.0)
  one_tree g (TypeVariable v) (Constructed d us) r h k = let e : Variable ≡ Applied d k.0 k.1 = sym h.1 ∙ k.2 in absurd (cc)
  one_tree g (Constructed c ts) (TypeVariable w) r h k = let e : Variable ≡ Applied c h.0 h.1 = sym k.1 ∙ h.2 in absurd (cc)
  one_tree g (Constructed c ts) (Constructed d us) r h k =
      let e : Applied c h.0 h.1 ≡ Applied d k.0 k.1 = sym h.2 ∙ k.2 in
      let same : c ≡ d = cc in
      let ns = arguments_of g.arguments (Applied c h.0 h.1) in
      let others : TreesOf g us ns = subst (TreesOf g us) (sym (ap (arguments_of g.arguments) e)) k.3 in
      ap (λ x. Constructed x ts) same ∙ ap (Constructed d) (one_list g ts us ns h.3 others)

  one_list : (g : Graph) (ts us : Tys) (ns : List ℕ) → TreesOf g ts ns → TreesOf g us ns → ts ≡ us
  one_list g NoTys NoTys ns h k = refl
  one_list g NoTys (AndTy u us) [] h k = absurd k
  one_list g NoTys (AndTy u us) (n ∷ ns) h k = absurd h
  one_list g (AndTy t ts) NoTys [] h k = absurd h
  one_list g (AndTy t ts) NoTys (n ∷ ns) h k = absurd k
  one_list g (AndTy t ts) (AndTy u us) [] h k = absurd h
  one_list g (AndTy t ts) (AndTy u us) (n ∷ ns) h k =
      ap (λ x. AndTy x ts) (one_tree g t u (root g.nodes n) h.0 k.0) ∙ ap (AndTy u) (one_list g ts us ns h.1 k.1)

-- a tree more
abbrev pub with_tree : Tys → Ty → Tys
with_tree NoTys t = AndTy t NoTys
with_tree (AndTy u us) t = AndTy u (with_tree us t)

pub size_with_tree : (ts : Tys) (t : Ty) → size_of_all (with_tree ts t) ≡ size_of_all ts + size t
size_with_tree NoTys t = omega arith
size_with_tree (AndTy u us) t = let rest = size_with_tree us t in omega arith

pub trees_with : (g : Graph) (ts : Tys) (ns : List ℕ) (t : Ty) (m : ℕ) → TreesOf g ts ns → TreeOf g t (root g.nodes m) → TreesOf g (with_tree ts t) (ns ++ m ∷ [])
trees_with g NoTys [] t m h k = (k, tt)
trees_with g NoTys (n ∷ ns) t m h k = absurd h
trees_with g (AndTy u us) [] t m h k = absurd h
trees_with g (AndTy u us) (n ∷ ns) t m h k = (h.0, trees_with g us ns t m h.1 k)

-- trees of all roots are a reading that leaves variables open
module _ (g : Graph) (f : ℕ → Ty) (well : IsWellFormed g) (each : (n : ℕ) → TreeOf g (f n) (root g.nodes n)) where
  list_of_trees : (ts : Tys) (ns : List ℕ) → TreesOf g ts ns → ts ≡ trees_of f ns
  list_of_trees NoTys [] h = refl
  list_of_trees NoTys (n ∷ ns) h = absurd h
  list_of_trees (AndTy t ts) [] h = absurd h
  list_of_trees (AndTy t ts) (n ∷ ns) h =
      ap (λ x. AndTy x ts) (one_tree g t (f n) (root g.nodes n) h.0 (each n)) ∙ ap (AndTy (f n)) (list_of_trees ts ns h.1)

  tree_at_root : (n : ℕ) → link_of (node_at g.nodes n).form ≡ None → TreeOf g (f n) n
  tree_at_root n h = subst (TreeOf g (f n)) (followed_root 32 g.nodes n h) (each n)

  applied_tree :
      (t : Ty) (n c first count : ℕ) → TreeOf g t n → (node_at g.nodes n).form ≡ Applied c first count
      → t ≡ Constructed c (trees_of f (arguments_of g.arguments (Applied c first count)))
  applied_tree (TypeVariable v) n c first count h e = let k : Variable ≡ Applied c first count = sym h.1 ∙ e in absurd (cc)
  applied_tree (Constructed d ts) n c first count h e =
      let k : Applied d h.0 h.1 ≡ Applied c first count = sym h.2 ∙ e in
      let same : d ≡ c = cc in
      ap (λ x. Constructed x ts) same
      ∙ ap (Constructed c) (list_of_trees ts (arguments_of g.arguments (Applied d h.0 h.1)) h.3 ∙ ap (λ a. trees_of f (arguments_of g.arguments a)) k)

  open_tree : (t : Ty) (n : ℕ) → TreeOf g t n → (node_at g.nodes n).form ≡ Variable → t ≡ TypeVariable n
  open_tree (TypeVariable v) n h e = ap TypeVariable h.0
  open_tree (Constructed d ts) n h e = let k : Variable ≡ Applied d h.0 h.1 = sym e ∙ h.2 in absurd (cc)

  trees_leave_open : LeavesOpen f g
  trees_leave_open n e = open_tree (f n) n (tree_at_root n (ap link_of e)) e

  linked_tree : (n m : ℕ) → (node_at g.nodes n).form ≡ Link m → f n ≡ f m
  linked_tree n m e =
      one_tree g (f n) (f m) (root g.nodes m) (subst (TreeOf g (f n)) (link_same_root g well n m (ap link_of e)) (each n)) (each m)

  of_the_form : (a : Form) (n : ℕ) → (node_at g.nodes n).form ≡ a → IsOfForm f g.arguments a (f n)
  of_the_form Variable n e = tt
  of_the_form (Link m) n e = linked_tree n m e
  of_the_form (Applied c first count) n e = applied_tree (f n) n c first count (tree_at_root n (ap link_of e)) e

  pub trees_read : Reads f g × LeavesOpen f g
  trees_read = (λ n. of_the_form (node_at g.nodes n).form n refl, trees_leave_open)
