-- What reads a copy.
use Rattle.std.proofs.Common.{◌≡◌, ℕ, suc, ◌≤◌, ◌<◌, List, [], ◌∷◌, length, Option, Some, None, true, false, refl, sym, ◌∙◌, ap, subst, arith, ⊎_elim, if◌then◌else◌, nat_le}
use Rattle.std.specs.List.{AllByRecursion}
use Rattle.std.proofs.lemmas.Bool.Decides.{leb_tells}
use Rattle.std.proofs.lemmas.List.{get_or_past}
use Rattle.type_terms.specs.TypeTrees.{Ty, TypeVariable, Constructed, Tys, NoTys, AndTy, instance_of, instances_of}
use Rattle.type_graph.specs.declared.form.Form.{Form}
use Rattle.type_graph.specs.declared.form.Form.TheVariants.{Variable, Link, Applied}
use Rattle.type_graph.specs.declared.types.Node.{Node}
use Rattle.type_graph.specs.Graph.{Graph, unknown, node_at, root, link_of, part_of, arguments_of}
use Rattle.type_graph.specs.Sized.{Counting, all_counted}
use Rattle.type_readings.specs.Readings.{trees_of, IsOfForm, Reads, LeavesOpen}
use Rattle.type_readings.specs.WellFormed.{NamesWhatIsThere, AreNumbers, IsOuter, IsWellFormed, IsCopyable}
use Rattle.type_readings.specs.Laws.{AgreeOnOuter, CopyReads, CopyIsFree}
use Rattle.type_readings.proofs.Lists.{each_of_part}
use Rattle.type_readings.proofs.Rows.{root_is_root, root_is_number, root_is_equal}
use Rattle.type_readings.proofs.Making.{of_form_more}
use Rattle.type_readings.proofs.Sizing.{counted_is_read_law, uncounted_is_unread_law}
use Rattle.type_readings.proofs.Copying.{copy_keeps_readings_law}
use Rattle.type_readings.proofs.Forwarding.{Stands, AllStand, CopyForm}
use Rattle.type_readings.proofs.Completing.{Finished, copy_is_finished}

-- an instance of a reading is one
module _ (f s : ℕ → Ty) where
  abbrev instance : ℕ → Ty
  instance m = instance_of s (f m)

  instances_trees : (ns : List ℕ) → instances_of s (trees_of f ns) ≡ trees_of instance ns
  instances_trees [] = refl
  instances_trees (n ∷ ns) = ap (AndTy (instance n)) (instances_trees ns)

  instance_form : (arguments : List ℕ) (a : Form) (t : Ty) → IsOfForm f arguments a t → IsOfForm instance arguments a (instance_of s t)
  instance_form arguments Variable t h = tt
  instance_form arguments (Link m) t h = ap (instance_of s) h
  instance_form arguments (Applied c first count) t h =
      ap (instance_of s) h ∙ ap (Constructed c) (instances_trees (arguments_of arguments (Applied c first count)))

-- a graph that is read is read by what leaves variables open
record ReadOpen (g : Graph) : Type 0 where
  reading : ℕ → Ty
  reads : Reads reading g
  opens : LeavesOpen reading g

read_open_from : (g : Graph) (f : ℕ → Ty) → IsWellFormed g → Reads f g → (o : Option Counting) → all_counted g ≡ o → ReadOpen g
read_open_from g f well reads None e = absurd (uncounted_is_unread_law g f well e reads)
read_open_from g f well reads (Some s) e =
    let k = counted_is_read_law g s well e in
    record { reading = k.0; reads = k.1; opens = k.2 }

-- two readings of a graph, and one that leaves variables open
module _ (g : Graph) (well : IsWellFormed g) (copyable : IsCopyable g) (o : ℕ → Ty) (ro : Reads o g) (opens : LeavesOpen o g) where
  -- they are the same at outer types, where they are at outer variables
  module _
      (f k : ℕ → Ty) (rf : Reads f g) (rk : Reads k g)
      (same : (r : ℕ) → (node_at g.nodes r).form ≡ Variable → (node_at g.nodes r).is_outer ≡ true → k r ≡ f r) where
    outer_variable :
        (a : Form) (r v : ℕ) → link_of a ≡ None → a ≡ (node_at g.nodes r).form → IsOfForm o g.arguments a (o r) → o r ≡ TypeVariable v
        → (node_at g.nodes r).is_outer ≡ true → k r ≡ f r
    outer_variable Variable r v l e h t is = same r (sym e) is
    outer_variable (Link m) r v l e h t is = absurd (cc)
    outer_variable (Applied c first count) r v l e h t is = absurd (cc)

    outer_application :
        (ts : Tys) (all : (ns : List ℕ) → trees_of o ns ≡ ts → AllByRecursion (IsOuter g) ns → trees_of k ns ≡ trees_of f ns)
        (a : Form) (r c : ℕ) → link_of a ≡ None → a ≡ (node_at g.nodes r).form → IsOfForm o g.arguments a (o r)
        → IsOfForm f g.arguments a (f r) → IsOfForm k g.arguments a (k r) → AllByRecursion (IsOuter g) (arguments_of g.arguments a)
        → o r ≡ Constructed c ts → k r ≡ f r
    outer_application ts all Variable r c l e h hf hk outers t = let is = opens r (sym e) in absurd (cc)
    outer_application ts all (Link m) r c l e h hf hk outers t = absurd (cc)
    outer_application ts all (Applied d first count) r c l e h hf hk outers t =
        let ns = arguments_of g.arguments (Applied d first count) in
        let whole : Constructed d (trees_of o ns) ≡ Constructed c ts = sym h ∙ t in
        let parts : trees_of o ns ≡ ts = cc in
        hk ∙ ap (Constructed d) (all ns parts outers) ∙ sym hf

    mutual
      outer_at : (t : Ty) (n : ℕ) → o n ≡ t → IsOuter g n → k n ≡ f n
      outer_at (TypeVariable v) n e is =
          let r = root g.nodes n in
          root_is_equal k g well rk n
          ∙ outer_variable (node_at g.nodes r).form r v (root_is_root g well n) refl (ro r) (sym (root_is_equal o g well ro n) ∙ e) is
          ∙ sym (root_is_equal f g well rf n)
      outer_at (Constructed c ts) n e is =
          let r = root g.nodes n in
          root_is_equal k g well rk n
          ∙ outer_application ts (λ ns p q. outers_at ts ns p q) (node_at g.nodes r).form r c (root_is_root g well n) refl (ro r) (rf r)
          (rk r) (copyable.outer_arguments n is) (sym (root_is_equal o g well ro n) ∙ e)
          ∙ sym (root_is_equal f g well rf n)

      outers_at : (ts : Tys) (ns : List ℕ) → trees_of o ns ≡ ts → AllByRecursion (IsOuter g) ns → trees_of k ns ≡ trees_of f ns
      outers_at NoTys [] e is = refl
      outers_at NoTys (n ∷ ns) e is = absurd (cc)
      outers_at (AndTy t ts) [] e is = absurd (cc)
      outers_at (AndTy t ts) (n ∷ ns) e is =
          let first : o n ≡ t = cc in
          let rest : trees_of o ns ≡ ts = cc in
          ap (λ u. AndTy u (trees_of k ns)) (outer_at t n first is.0) ∙ ap (AndTy (f n)) (outers_at ts ns rest is.1)

    -- what stands for a type has its tree, where the copies of variables have that
    module _
        (h : Graph) (n c : ℕ) (y : Finished g h n c) (rh : Reads f h)
        (copied_same :
        (r : ℕ) → (node_at g.nodes r).form ≡ Variable → length g.nodes ≤ (node_at h.nodes r).copy → k r ≡ f (node_at h.nodes r).copy) where
      copied_variable :
          (a : Form) (r v : ℕ) → link_of a ≡ None → a ≡ (node_at g.nodes r).form → IsOfForm o g.arguments a (o r) → o r ≡ TypeVariable v
          → length g.nodes ≤ (node_at h.nodes r).copy → k r ≡ f (node_at h.nodes r).copy
      copied_variable Variable r v l e i t le = copied_same r (sym e) le
      copied_variable (Link m) r v l e i t le = absurd (cc)
      copied_variable (Applied d first count) r v l e i t le = absurd (cc)

      copied_application :
          (ts : Tys) (all : (xs ys : List ℕ) → trees_of o ys ≡ ts → AllStand g h xs ys → trees_of k ys ≡ trees_of f xs)
          (a b : Form) (r x d : ℕ) → link_of a ≡ None → a ≡ (node_at g.nodes r).form → IsOfForm o g.arguments a (o r)
          → IsOfForm k g.arguments a (k r) → IsOfForm f h.arguments b (f x) → CopyForm g h a b → o r ≡ Constructed d ts → k r ≡ f x
      copied_application ts all Variable b r x d l e i ik ix form t = let is = opens r (sym e) in absurd (cc)
      copied_application ts all (Link m) b r x d l e i ik ix form t = absurd (cc)
      copied_application ts all (Applied j first count) b r x d l e i ik ix form t =
          let ys = arguments_of g.arguments (Applied j first count) in
          let xs = part_of h.arguments form.0 count in
          let whole : Constructed j (trees_of o ys) ≡ Constructed d ts = sym i ∙ t in
          let parts : trees_of o ys ≡ ts = cc in
          let is : f x ≡ Constructed j (trees_of f xs) = subst (λ q. IsOfForm f h.arguments q (f x)) form.1 ix in
          ik ∙ ap (Constructed j) (all xs ys parts form.3) ∙ sym is

      form_of_copy :
          (r x : ℕ) → r < length g.nodes → length g.nodes ≤ x → (node_at h.nodes r).copy ≡ x
          → CopyForm g h (node_at g.nodes r).form (node_at h.nodes x).form
      form_of_copy r x lt le e =
          let all = y.all in
          let known = y.copy.copies r lt (omega arith) in
          let less = known.0 in
          let origin : y.copy.origin x ≡ r = ap y.copy.origin (sym e) ∙ known.1 in
          subst (λ q. CopyForm g h (node_at g.nodes q).form (node_at h.nodes x).form) origin (y.copy.done x (omega arith) le)

      mutual
        stands_at : (t : Ty) (x m : ℕ) → o m ≡ t → Stands g h x m → k m ≡ f x
        stands_at (TypeVariable v) x m e s =
            let r = root g.nodes m in
            ⊎_elim
            (λ p. outer_at (TypeVariable v) m e p.1 ∙ root_is_equal f g well rf m ∙ ap f (sym p.0))
            (λ p.
            root_is_equal k g well rk m
            ∙ copied_variable (node_at g.nodes r).form r v (root_is_root g well m) refl (ro r) (sym (root_is_equal o g well ro m) ∙ e)
            (subst (λ q. length g.nodes ≤ q) (sym p.1) p.0)
            ∙ ap f p.1)
            s.1
        stands_at (Constructed d ts) x m e s =
            let r = root g.nodes m in
            ⊎_elim
            (λ p. outer_at (Constructed d ts) m e p.1 ∙ root_is_equal f g well rf m ∙ ap f (sym p.0))
            (λ p.
            root_is_equal k g well rk m
            ∙ copied_application ts (λ xs ys q z. all_stand_at ts xs ys q z) (node_at g.nodes r).form (node_at h.nodes x).form r x d
            (root_is_root g well m) refl (ro r) (rk r) (rh x) (form_of_copy r x (root_is_number g well m s.0) p.0 p.1)
            (sym (root_is_equal o g well ro m) ∙ e))
            s.1

        all_stand_at : (ts : Tys) (xs ys : List ℕ) → trees_of o ys ≡ ts → AllStand g h xs ys → trees_of k ys ≡ trees_of f xs
        all_stand_at ts [] [] e s = refl
        all_stand_at ts [] (m ∷ ys) e s = absurd s
        all_stand_at ts (x ∷ xs) [] e s = absurd s
        all_stand_at NoTys (x ∷ xs) (m ∷ ys) e s = absurd (cc)
        all_stand_at (AndTy t ts) (x ∷ xs) (m ∷ ys) e s =
            let first : o m ≡ t = cc in
            let rest : trees_of o ys ≡ ts = cc in
            ap (λ u. AndTy u (trees_of k ys)) (stands_at t x m first s.0) ∙ ap (AndTy (f x)) (all_stand_at ts xs ys rest s.1)

-- the tree of a type's copy, where it has one that was made last
abbrev tree_copied : (base : ℕ) → (ℕ → Ty) → List Node → ℕ → Ty
tree_copied base f nodes v = if nat_le base (node_at nodes v).copy then f (node_at nodes v).copy else f v

module _ (g h : Graph) (n c : ℕ) (y : Finished g h n c) (f : ℕ → Ty) where
  tree_of_copy :
      (v : ℕ) → length g.nodes ≤ (node_at h.nodes v).copy → tree_copied (length g.nodes) f h.nodes v ≡ f (node_at h.nodes v).copy
  tree_of_copy v le = ⊎_elim (λ p. rw p.0 refl) (λ p. absurd (omega arith)) (leb_tells (length g.nodes) (node_at h.nodes v).copy)

  -- an outer type has no copy
  outer_uncopied : (v : ℕ) → (node_at g.nodes v).is_outer ≡ true → length g.nodes ≤ (node_at h.nodes v).copy → ⊥
  outer_uncopied v is le =
      ⊎_elim
      (λ p.
      let known = y.copy.copies v p.1 le in
      let inner = (y.copy.origins (node_at h.nodes v).copy le known.0).is_inner in
      let no : (node_at g.nodes v).is_outer ≡ false = ap (λ q. (node_at g.nodes q).is_outer) (sym known.1) ∙ inner in
      absurd (cc))
      (λ p.
      let past : node_at g.nodes v ≡ unknown = get_or_past g.nodes v unknown (omega arith) in
      let no : (node_at g.nodes v).is_outer ≡ false = ap (λ (z : Node). z.is_outer) past in
      absurd (cc))
      (leb_tells (suc v) (length g.nodes))

  tree_of_outer : (v : ℕ) → (node_at g.nodes v).is_outer ≡ true → tree_copied (length g.nodes) f h.nodes v ≡ f v
  tree_of_outer v is =
      ⊎_elim (λ p. absurd (outer_uncopied v is p.1)) (λ p. rw p.0 refl) (leb_tells (length g.nodes) (node_at h.nodes v).copy)

pub copy_reads_law : CopyReads
copy_reads_law n c g h f well copyable lt e room reads =
    let y = copy_is_finished g well copyable n c h lt e room in
    let before : Reads f g = copy_keeps_readings_law n c g h f well e reads in
    let most = read_open_from g f well before (all_counted g) refl in
    let o = most.reading in
    let s : ℕ → Ty = λ v. tree_copied (length g.nodes) f h.nodes v in
    let k : ℕ → Ty = λ m. instance_of s (o m) in
    let rk : Reads k g = λ m. instance_form o s g.arguments (node_at g.nodes m).form (o m) (most.reads m) in
    let at_variable : (v : ℕ) → (node_at g.nodes v).form ≡ Variable → k v ≡ s v = λ v is. ap (instance_of s) (most.opens v is) in
    let same : (r : ℕ) → (node_at g.nodes r).form ≡ Variable → (node_at g.nodes r).is_outer ≡ true → k r ≡ f r =
    λ r is outer. at_variable r is ∙ tree_of_outer g h n c y f r outer in
    let copied_same :
    (r : ℕ) → (node_at g.nodes r).form ≡ Variable → length g.nodes ≤ (node_at h.nodes r).copy → k r ≡ f (node_at h.nodes r).copy =
    λ r is le. at_variable r is ∙ tree_of_copy g h n c y f r le in (
      k,
      rk,
      λ m is. outer_at g well copyable o most.reads most.opens f k before rk same (o m) m refl is,
      stands_at g well copyable o most.reads most.opens f k before rk same h n c y reads copied_same (o n) c n refl y.stands,
    )

-- the tree of what a copy stands for, and of each other type its own
abbrev tree_freed : (base : ℕ) → (f k : ℕ → Ty) → (ℕ → ℕ) → ℕ → Ty
tree_freed base f k origin q = if nat_le base q then k (origin q) else f q

module _
    (g h : Graph) (well : IsWellFormed g) (n c : ℕ) (y : Finished g h n c) (f k : ℕ → Ty) (rf : Reads f g) (rk : Reads k g)
    (agree : AgreeOnOuter f k g) where
  abbrev freed : ℕ → Ty
  freed = tree_freed (length g.nodes) f k y.copy.origin

  freed_before : (q : ℕ) → q < length g.nodes → freed q ≡ f q
  freed_before q lt = ⊎_elim (λ p. absurd (omega arith)) (λ p. rw p.0 refl) (leb_tells (length g.nodes) q)

  freed_copy : (q : ℕ) → length g.nodes ≤ q → freed q ≡ k (y.copy.origin q)
  freed_copy q le = ⊎_elim (λ p. rw p.0 refl) (λ p. absurd (omega arith)) (leb_tells (length g.nodes) q)

  freed_stands : (x m : ℕ) → Stands g h x m → freed x ≡ k m
  freed_stands x m s =
      let r = root g.nodes m in
      let less : r < length g.nodes = root_is_number g well m s.0 in
      ⊎_elim
      (λ p.
      let le : x < length g.nodes = subst (λ q. q < length g.nodes) (sym p.0) less in
      freed_before x le ∙ ap f p.0 ∙ sym (root_is_equal f g well rf m) ∙ sym (agree m p.1))
      (λ p.
      let known = y.copy.copies r less (subst (λ q. length g.nodes ≤ q) (sym p.1) p.0) in
      let origin : y.copy.origin x ≡ r = ap y.copy.origin (sym p.1) ∙ known.1 in
      freed_copy x p.0 ∙ ap k origin ∙ sym (root_is_equal k g well rk m))
      s.1

  freed_all : (xs ys : List ℕ) → AllStand g h xs ys → trees_of freed xs ≡ trees_of k ys
  freed_all [] [] s = refl
  freed_all [] (m ∷ ys) s = absurd s
  freed_all (x ∷ xs) [] s = absurd s
  freed_all (x ∷ xs) (m ∷ ys) s = ap (λ u. AndTy u (trees_of freed xs)) (freed_stands x m s.0) ∙ ap (AndTy (k m)) (freed_all xs ys s.1)

  freed_trees : (ns : List ℕ) → AreNumbers (length g.nodes) ns → trees_of freed ns ≡ trees_of f ns
  freed_trees [] h = refl
  freed_trees (m ∷ ns) h = ap (λ u. AndTy u (trees_of freed ns)) (freed_before m h.0) ∙ ap (AndTy (f m)) (freed_trees ns h.1)

  freed_form_before :
      (a : Form) (t : Ty) → NamesWhatIsThere (length g.nodes) (length g.arguments) a → IsOfForm f g.arguments a t
      → IsOfForm freed g.arguments a t
  freed_form_before Variable t names i = tt
  freed_form_before (Link m) t names i = i ∙ sym (freed_before m names)
  freed_form_before (Applied d first count) t names i =
      i
      ∙ ap (Constructed d)
      (sym (freed_trees (part_of g.arguments first count) (each_of_part (λ m. m < length g.nodes) g.arguments first count well.numbers)))

  freed_form_copy : (a b : Form) (q r : ℕ) → freed q ≡ k r → CopyForm g h a b → IsOfForm k g.arguments a (k r) → IsOfForm freed h.arguments b (freed q)
  freed_form_copy Variable b q r e form i = subst (λ a. IsOfForm freed h.arguments a (freed q)) (sym form) tt
  freed_form_copy (Link m) b q r e form i = absurd form
  freed_form_copy (Applied d first count) b q r e form i =
      subst (λ a. IsOfForm freed h.arguments a (freed q)) (sym form.1)
      (e ∙ i ∙ ap (Constructed d) (sym (freed_all (part_of h.arguments form.0 count) (part_of g.arguments first count) form.3)))

  freed_reads : Reads freed h
  freed_reads q =
      let x = y.copy.extends in
      let all = y.all in
      ⊎_elim
      (λ p.
      subst (λ a. IsOfForm freed h.arguments a (freed q)) (sym (x.forms q p.1))
      (subst (λ (l : List ℕ). IsOfForm freed l (node_at g.nodes q).form (freed q)) (sym x.arguments)
      ((of_form_more freed (length g.nodes) g.arguments x.more (node_at g.nodes q).form (freed q) (well.names q)).0
      (freed_form_before (node_at g.nodes q).form (freed q) (well.names q)
      (subst (IsOfForm f g.arguments (node_at g.nodes q).form) (sym (freed_before q p.1)) (rf q))))))
      (λ p.
      let le : length g.nodes ≤ q = omega arith in
      ⊎_elim
      (λ l.
      let r = y.copy.origin q in
      freed_form_copy (node_at g.nodes r).form (node_at h.nodes q).form q r (freed_copy q le) (y.copy.done q (omega arith) le) (rk r))
      (λ l. subst (λ (z : Node). IsOfForm freed h.arguments z.form (freed q)) (sym (get_or_past h.nodes q unknown (omega arith))) tt)
      (leb_tells (suc q) (length h.nodes)))
      (leb_tells (suc q) (length g.nodes))

pub copy_is_free_law : CopyIsFree
copy_is_free_law n c g h f k well copyable lt e room rf rk agree =
    let y = copy_is_finished g well copyable n c h lt e room in (
      λ q. freed g h well n c y f k rf rk agree q,
      freed_reads g h well n c y f k rf rk agree,
      λ m less. freed_before g h well n c y f k rf rk agree m less,
      freed_stands g h well n c y f k rf rk agree c n y.stands,
    )
