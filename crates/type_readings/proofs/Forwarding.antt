-- A copy that is being made.
use Rattle.std.proofs.Common.{◌≡◌, ◌≢◌, ℕ, zero, suc, ◌+◌, ◌≤◌, ◌<◌, ◌==◌, ◌⊎◌, inl, inr, List, [], ◌∷◌, ◌++◌, length, Option, Some, None, true, false, refl, sym, ◌∙◌, ap, subst, arith, ⊎_elim, if◌then◌else◌, nat_le, slice_set, append_assoc}
use Rattle.std.proofs.lemmas.Bool.Decides.{eqb_tells, leb_tells}
use Rattle.std.proofs.lemmas.List.{append-nil, length-append, get_or-set_same, get_or-set_other, length-set}
use Rattle.std.specs.List.{sum_by}
use Rattle.type_graph.specs.declared.form.Form.{Form}
use Rattle.type_graph.specs.declared.form.Form.TheVariants.{Variable, Link, Applied}
use Rattle.type_graph.specs.declared.types.Node.{Node}
use Rattle.type_graph.specs.Graph.{Graph, fresh, unknown, node_at, link_of, behind, followed, root, part_of, added, set_node}
use Rattle.type_graph.specs.Copied.{Copied, copy_is, forwarded}
use Rattle.type_readings.specs.WellFormed.{AreNumbers, IsRoot, weight, IsWellFormed}
use Rattle.type_readings.proofs.Behind.{if_either}
use Rattle.type_readings.proofs.Rows.{root_is_root, root_is_number, link_within}
use Rattle.type_readings.proofs.Making.{part_of_more, apart_above, node_before, node_on_top, one_longer, numbers_more, weighs_more}
use Rattle.type_readings.proofs.Alike.{alike_set}
use Rattle.type_readings.proofs.Copying.{Extends, extends_forwarded_new}

-- a number stands for a type in a copy: its root, where that is outer, or the copy of that
abbrev pub Stands : (g h : Graph) → ℕ → ℕ → Type 0
Stands g h x y =
    (y < length g.nodes)
    × (((x ≡ root g.nodes y) × ((node_at g.nodes (root g.nodes y)).is_outer ≡ true))
    ⊎ ((length g.nodes ≤ x) × ((node_at h.nodes (root g.nodes y)).copy ≡ x)))

-- so many numbers stand for so many types
abbrev pub AllStand : (g h : Graph) → List ℕ → List ℕ → Type 0
AllStand g h [] [] = Unit {0}
AllStand g h [] (y ∷ ys) = ⊥
AllStand g h (x ∷ xs) [] = ⊥
AllStand g h (x ∷ xs) (y ∷ ys) = Stands g h x y × AllStand g h xs ys

-- a form is copied with its arguments
abbrev pub CopyForm : (g h : Graph) → Form → Form → Type 0
CopyForm g h Variable b = b ≡ Variable
CopyForm g h (Link m) b = ⊥
CopyForm g h (Applied c first count) b =
    (start : ℕ) × (b ≡ Applied c start count) × (start + count ≤ length h.arguments)
    × AllStand g h (part_of h.arguments start count) (part_of g.arguments first count)

-- what is copied is a root that isn't outer
pub record Origin (g : Graph) (r : ℕ) : Type 0 where
  pub is_number : r < length g.nodes
  pub is_root : IsRoot g.nodes r
  pub is_inner : (node_at g.nodes r).is_outer ≡ false

-- nothing but its form is known of a node
abbrev pub IsPlain : Node → Type 0
IsPlain node = node ≡ fresh node.form false

-- a copy of which the arguments are copied up to a number
pub record Copy (g h : Graph) (at : ℕ) : Type 0 where
  pub extends : Extends g h
  pub outers : (q : ℕ) → q < length g.nodes → (node_at h.nodes q).is_outer ≡ (node_at g.nodes q).is_outer
  pub ranks : (q : ℕ) → q < length g.nodes → (node_at h.nodes q).rank ≡ (node_at g.nodes q).rank
  pub plain : (q : ℕ) → length g.nodes ≤ q → q < length h.nodes → IsPlain (node_at h.nodes q)
  pub numbers : AreNumbers (length h.nodes) h.arguments
  pub weighs : sum_by weight h.nodes ≤ length h.nodes
  pub within : at ≤ length h.nodes
  pub origin : ℕ → ℕ
  pub copies :
      (r : ℕ) → r < length g.nodes → length g.nodes ≤ (node_at h.nodes r).copy
      → ((node_at h.nodes r).copy < length h.nodes) × (origin (node_at h.nodes r).copy ≡ r)
  pub origins : (q : ℕ) → length g.nodes ≤ q → q < length h.nodes → Origin g (origin q)
  pub pending :
      (q : ℕ) → at ≤ q → length g.nodes ≤ q → q < length h.nodes → (node_at h.nodes q).form ≡ (node_at g.nodes (origin q)).form
  pub done : (q : ℕ) → q < at → length g.nodes ≤ q → CopyForm g h (node_at g.nodes (origin q)).form (node_at h.nodes q).form

-- what was copied stays copied
pub record Onward (g h new : Graph) : Type 0 where
  pub stay :
      (r : ℕ) → r < length g.nodes → length g.nodes ≤ (node_at h.nodes r).copy
      → (node_at new.nodes r).copy ≡ (node_at h.nodes r).copy
  pub more : List ℕ
  pub arguments : new.arguments ≡ h.arguments ++ more

pub onward_itself : (g h : Graph) → Onward g h h
onward_itself g h = record { stay = λ r lt le. refl; more = []; arguments = sym (append-nil h.arguments) }

pub onward_twice : (g h i j : Graph) → Onward g h i → Onward g i j → Onward g h j
onward_twice g h i j x y = record {
  stay =
      λ r lt le.
      let one = x.stay r lt le in
      let two = y.stay r lt (subst (λ k. length g.nodes ≤ k) (sym one) le) in
      two ∙ one;
  more = x.more ++ y.more;
  arguments = y.arguments ∙ ap (λ (l : List ℕ). l ++ y.more) x.arguments ∙ append_assoc h.arguments x.more y.more;
}

module _ (g : Graph) (well : IsWellFormed g) where
  module _ (h new : Graph) (onward : Onward g h new) where
    pub stands_on : (x y : ℕ) → Stands g h x y → Stands g new x y
    stands_on x y s = (
      s.0,
      ⊎_elim (λ p. inl p)
          (λ p. inr (p.0, onward.stay (root g.nodes y) (root_is_number g well y s.0) (subst (λ k. length g.nodes ≤ k) (sym p.1) p.0) ∙ p.1))
          s.1,
    )

    pub all_stand_on : (xs ys : List ℕ) → AllStand g h xs ys → AllStand g new xs ys
    all_stand_on [] [] s = tt
    all_stand_on [] (y ∷ ys) s = absurd s
    all_stand_on (x ∷ xs) [] s = absurd s
    all_stand_on (x ∷ xs) (y ∷ ys) s = (stands_on x y s.0, all_stand_on xs ys s.1)

    pub copy_form_on : (a b : Form) → CopyForm g h a b → CopyForm g new a b
    copy_form_on Variable b s = s
    copy_form_on (Link m) b s = absurd s
    copy_form_on (Applied c first count) b s =
        let longer : length new.arguments ≡ length (h.arguments ++ onward.more) = ap length onward.arguments in
        let fits = s.2 in
        let same : part_of new.arguments s.0 count ≡ part_of h.arguments s.0 count =
        ap (λ (l : List ℕ). part_of l s.0 count) onward.arguments ∙ part_of_more h.arguments onward.more s.0 count s.2 in (
          s.0,
          s.1,
          omega (arith, length-append h.arguments onward.more),
          subst (λ (l : List ℕ). AllStand g new l (part_of g.arguments first count)) (sym same)
              (all_stand_on (part_of h.arguments s.0 count) (part_of g.arguments first count) s.3),
        )

-- the same behind a link
pub behind_same : (o : Option ℕ) (n : ℕ) (x y : ℕ → ℕ) → ((m : ℕ) → o ≡ Some m → x m ≡ y m) → behind o n x ≡ behind o n y
behind_same None n x y h = refl
behind_same (Some m) n x y h = h m refl

-- another value at one number
abbrev picked : (ℕ → ℕ) → (l r : ℕ) → ℕ → ℕ
picked o l r q = if q == l then r else o q

picked_at : (o : ℕ → ℕ) (l r q : ℕ) → q ≡ l → picked o l r q ≡ r
picked_at o l r q e = ⊎_elim (λ p. rw p.0 refl) (λ p. absurd (p.1 e)) (eqb_tells q l)

picked_elsewhere : (o : ℕ → ℕ) (l r q : ℕ) → q ≢ l → picked o l r q ≡ o q
picked_elsewhere o l r q e = ⊎_elim (λ p. absurd (e p.1)) (λ p. rw p.0 refl) (eqb_tells q l)

-- a node is set, and another one comes on top
record Changed (nodes new : List Node) (r : ℕ) (x y : Node) : Type 0 where
  long : length new ≡ suc (length nodes)
  at_root : node_at new r ≡ x
  on_top : node_at new (length nodes) ≡ y
  elsewhere : (q : ℕ) → q < length nodes → q ≢ r → node_at new q ≡ node_at nodes q

changed : (nodes : List Node) (r : ℕ) (x y : Node) → r < length nodes → Changed nodes (slice_set (nodes ++ y ∷ []) r x) r x y
changed nodes r x y lt =
    let longer = one_longer nodes y in
    let apart : length nodes ≢ r = λ e. absurd (omega arith) in
    let inside : r < length (nodes ++ y ∷ []) = omega arith in
    record {
      long = length-set (nodes ++ y ∷ []) r x ∙ longer;
      at_root = get_or-set_same (nodes ++ y ∷ []) r x unknown inside;
      on_top = get_or-set_other (nodes ++ y ∷ []) r (length nodes) x unknown apart ∙ node_on_top nodes y;
      elsewhere = λ q less e. get_or-set_other (nodes ++ y ∷ []) r q x unknown e ∙ node_before nodes y q less;
    }

-- a number stands for a type, in a copy that went on
pub record Forwarded (g h : Graph) (at n : ℕ) (c : Copied) : Type 0 where
  pub copy : Copy g c.types at
  pub onward : Onward g h c.types
  pub same : c.types.arguments ≡ h.arguments
  pub stands : Stands g c.types c.copy n

module _ (g : Graph) (well : IsWellFormed g) where
  -- the links from a type that was there are the same
  followed_same : (h : Graph) → Extends g h → (k n : ℕ) → n < length g.nodes → followed k h.nodes n ≡ followed k g.nodes n
  unfolding followed
  followed_same h e zero n lt = refl
  followed_same h e (suc k) n lt =
      ap (λ a. behind (link_of a) n (followed k h.nodes)) (e.forms n lt)
      ∙ behind_same (link_of (node_at g.nodes n).form) n (followed k h.nodes) (followed k g.nodes)
      (λ m is. followed_same h e k m (link_within (length g.nodes) (length g.arguments) (node_at g.nodes n).form m is (well.names n)))

  pub root_same : (h : Graph) → Extends g h → (n : ℕ) → n < length g.nodes → root h.nodes n ≡ root g.nodes n
  root_same h e n lt = followed_same h e 32 n lt

  -- a root is copied
  module _ (h : Graph) (at r : ℕ) (c : Copy g h at) (o : Origin g r) (low : (node_at h.nodes r).copy < length g.nodes) where
    abbrev with_copy : Node
    with_copy = record (node_at h.nodes r) { copy = length h.nodes }

    abbrev its_copy : Node
    its_copy = fresh (node_at h.nodes r).form false

    abbrev behind_copy : Graph
    behind_copy = set_node r with_copy (added its_copy h)

    its_change : Changed h.nodes behind_copy.nodes r with_copy its_copy
    its_change = let longer = c.extends.longer in let lt = o.is_number in changed h.nodes r with_copy its_copy (omega arith)

    onward_new : Onward g h behind_copy
    onward_new =
        let j = its_change in
        let longer = c.extends.longer in
        record {
          stay =
              λ q lt le.
              let apart : q ≢ r =
              λ e. let same : (node_at h.nodes q).copy ≡ (node_at h.nodes r).copy = ap (λ k. (node_at h.nodes k).copy) e in absurd (omega arith) in
              ap (λ (z : Node). z.copy) (j.elsewhere q (omega arith) apart);
          more = [];
          arguments = sym (append-nil h.arguments);
        }

    outers_new : (q : ℕ) → q < length g.nodes → (node_at behind_copy.nodes q).is_outer ≡ (node_at g.nodes q).is_outer
    outers_new q lt =
        let j = its_change in
        let longer = c.extends.longer in
        ⊎_elim
        (λ p.
        ap (λ k. (node_at behind_copy.nodes k).is_outer) p.1 ∙ ap (λ (z : Node). z.is_outer) j.at_root
        ∙ ap (λ k. (node_at h.nodes k).is_outer) (sym p.1) ∙ c.outers q lt)
        (λ p. ap (λ (z : Node). z.is_outer) (j.elsewhere q (omega arith) p.1) ∙ c.outers q lt)
        (eqb_tells q r)

    ranks_new : (q : ℕ) → q < length g.nodes → (node_at behind_copy.nodes q).rank ≡ (node_at g.nodes q).rank
    ranks_new q lt =
        let j = its_change in
        let longer = c.extends.longer in
        ⊎_elim
        (λ p.
        ap (λ k. (node_at behind_copy.nodes k).rank) p.1 ∙ ap (λ (z : Node). z.rank) j.at_root
        ∙ ap (λ k. (node_at h.nodes k).rank) (sym p.1) ∙ c.ranks q lt)
        (λ p. ap (λ (z : Node). z.rank) (j.elsewhere q (omega arith) p.1) ∙ c.ranks q lt)
        (eqb_tells q r)

    weighs_new : sum_by weight behind_copy.nodes ≤ length behind_copy.nodes
    weighs_new =
        let nodes = h.nodes ++ its_copy ∷ [] in
        let long = its_change.long in
        let lt = o.is_number in
        let longer = c.extends.longer in
        let is_root : link_of (node_at h.nodes r).form ≡ None = ap link_of (c.extends.forms r lt) ∙ o.is_root in
        let heavier = weighs_more h.nodes its_copy is_root refl in
        let there : node_at nodes r ≡ node_at h.nodes r = node_before h.nodes its_copy r (omega arith) in
        let same = (alike_set nodes r with_copy (ap (λ (z : Node). z.form) (sym there)) (ap (λ (z : Node). z.rank) (sym there))).weights in
        let weighs = c.weighs in
        omega arith

    abbrev origin_new : ℕ → ℕ
    origin_new = picked c.origin (length h.nodes) r

    copies_new :
        (q : ℕ) → q < length g.nodes → length g.nodes ≤ (node_at behind_copy.nodes q).copy
        → ((node_at behind_copy.nodes q).copy < length behind_copy.nodes) × (origin_new (node_at behind_copy.nodes q).copy ≡ q)
    copies_new q lt le =
        let j = its_change in
        let longer = c.extends.longer in
        let long = j.long in
        ⊎_elim
        (λ p.
        let is : (node_at behind_copy.nodes q).copy ≡ length h.nodes =
        ap (λ k. (node_at behind_copy.nodes k).copy) p.1 ∙ ap (λ (z : Node). z.copy) j.at_root in
        (omega arith, picked_at c.origin (length h.nodes) r (node_at behind_copy.nodes q).copy is ∙ sym p.1))
        (λ p.
        let is : (node_at behind_copy.nodes q).copy ≡ (node_at h.nodes q).copy = ap (λ (z : Node). z.copy) (j.elsewhere q (omega arith) p.1) in
        let before = c.copies q lt (omega arith) in
        let less = before.0 in
        let apart : (node_at behind_copy.nodes q).copy ≢ length h.nodes = λ e. absurd (omega arith) in
        (omega arith, picked_elsewhere c.origin (length h.nodes) r (node_at behind_copy.nodes q).copy apart ∙ ap c.origin is ∙ before.1))
        (eqb_tells q r)

    origins_new : (q : ℕ) → length g.nodes ≤ q → q < length behind_copy.nodes → Origin g (origin_new q)
    origins_new q le lt =
        let long = its_change.long in
        ⊎_elim
        (λ p. subst (Origin g) (sym (picked_at c.origin (length h.nodes) r q p.1)) o)
        (λ p.
        let less : q < length h.nodes = apart_above (length h.nodes) q (λ e. p.1 (sym e)) (omega arith) in
        subst (Origin g) (sym (picked_elsewhere c.origin (length h.nodes) r q p.1)) (c.origins q le less))
        (eqb_tells q (length h.nodes))

    apart_from_root : (q : ℕ) → length g.nodes ≤ q → q ≢ r
    apart_from_root q le = let lt = o.is_number in λ e. absurd (omega arith)

    plain_new : (q : ℕ) → length g.nodes ≤ q → q < length behind_copy.nodes → IsPlain (node_at behind_copy.nodes q)
    plain_new q le lt =
        let j = its_change in
        let long = j.long in
        ⊎_elim
        (λ p. subst (λ k. IsPlain (node_at behind_copy.nodes k)) (sym p.1) (subst IsPlain (sym j.on_top) refl))
        (λ p.
        let less : q < length h.nodes = apart_above (length h.nodes) q (λ e. p.1 (sym e)) (omega arith) in
        subst IsPlain (sym (j.elsewhere q less (apart_from_root q le))) (c.plain q le less))
        (eqb_tells q (length h.nodes))

    pending_new :
        (q : ℕ) → at ≤ q → length g.nodes ≤ q → q < length behind_copy.nodes
        → (node_at behind_copy.nodes q).form ≡ (node_at g.nodes (origin_new q)).form
    pending_new q after le lt =
        let j = its_change in
        let long = j.long in
        ⊎_elim
        (λ p.
        ap (λ k. (node_at behind_copy.nodes k).form) p.1 ∙ ap (λ (z : Node). z.form) j.on_top ∙ c.extends.forms r o.is_number
        ∙ ap (λ k. (node_at g.nodes k).form) (sym (picked_at c.origin (length h.nodes) r q p.1)))
        (λ p.
        let less : q < length h.nodes = apart_above (length h.nodes) q (λ e. p.1 (sym e)) (omega arith) in
        ap (λ (z : Node). z.form) (j.elsewhere q less (apart_from_root q le)) ∙ c.pending q after le less
        ∙ ap (λ k. (node_at g.nodes k).form) (sym (picked_elsewhere c.origin (length h.nodes) r q p.1)))
        (eqb_tells q (length h.nodes))

    done_new :
        (q : ℕ) → q < at → length g.nodes ≤ q
        → CopyForm g behind_copy (node_at g.nodes (origin_new q)).form (node_at behind_copy.nodes q).form
    done_new q lt le =
        let j = its_change in
        let within = c.within in
        let less : q < length h.nodes = omega arith in
        let apart : q ≢ length h.nodes = λ e. absurd (omega arith) in
        let before = copy_form_on g well h behind_copy onward_new (node_at g.nodes (c.origin q)).form (node_at h.nodes q).form (c.done q lt le) in
        subst (λ k. CopyForm g behind_copy (node_at g.nodes k).form (node_at behind_copy.nodes q).form)
        (sym (picked_elsewhere c.origin (length h.nodes) r q apart))
        (subst (λ (z : Node). CopyForm g behind_copy (node_at g.nodes (c.origin q)).form z.form) (sym (j.elsewhere q less (apart_from_root q le))) before)

    copy_new : Copy g behind_copy at
    copy_new = record {
      extends = extends_forwarded_new g h r c.extends;
      outers = outers_new;
      ranks = ranks_new;
      plain = plain_new;
      numbers = subst (λ k. AreNumbers k h.arguments) (sym its_change.long) (numbers_more (length h.nodes) h.arguments c.numbers);
      weighs = weighs_new;
      within = let long = its_change.long in let within = c.within in omega arith;
      origin = origin_new;
      copies = copies_new;
      origins = origins_new;
      pending = pending_new;
      done = done_new;
    }

    forwarded_new : (n : ℕ) → n < length g.nodes → root g.nodes n ≡ r → Forwarded g h at n (copy_is (length h.nodes) behind_copy)
    forwarded_new n lt e = record {
      copy = copy_new;
      onward = onward_new;
      same = refl;
      stands = (
        lt,
        inr (c.extends.longer, ap (λ k. (node_at behind_copy.nodes k).copy) e ∙ ap (λ (z : Node). z.copy) its_change.at_root),
      );
    }

  -- whatever stands for a type, the copy goes on
  pub forwarded_is : (h : Graph) (at n : ℕ) → Copy g h at → n < length g.nodes → Forwarded g h at n (forwarded (length g.nodes) n h)
  forwarded_is h at n c lt =
      let base = length g.nodes in
      let r = root h.nodes n in
      let e : root g.nodes n ≡ r = sym (root_same h c.extends n lt) in
      let less : r < base = subst (λ k. k < base) e (root_is_number g well n lt) in
      let node = node_at h.nodes r in
      let new = copy_is (length h.nodes) (set_node r (record node { copy = length h.nodes }) (added (fresh node.form false) h)) in
      let P : Copied → Type 0 = λ d. Forwarded g h at n d in
      if_either P node.is_outer (copy_is r h) (if nat_le base node.copy then copy_is node.copy h else new)
      (λ t. record {
        copy = c;
        onward = onward_itself g h;
        same = refl;
        stands = (lt, inl (sym e, ap (λ k. (node_at g.nodes k).is_outer) e ∙ sym (c.outers r less) ∙ t));
      })
      (λ t.
      ⊎_elim
      (λ p.
      subst (λ b. P (if b then copy_is node.copy h else new)) (sym p.0)
      (record { copy = c; onward = onward_itself g h; same = refl; stands = (lt, inr (p.1, ap (λ k. (node_at h.nodes k).copy) e)) }))
      (λ p.
      subst (λ b. P (if b then copy_is node.copy h else new)) (sym p.0)
      (forwarded_new h at r c
      (record { is_number = less; is_root = subst (IsRoot g.nodes) e (root_is_root g well n); is_inner = sym (c.outers r less) ∙ t })
      p.1 n lt e))
      (leb_tells base node.copy))
