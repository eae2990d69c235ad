-- Copies are made to their end.
use Rattle.std.proofs.Common.{◌≡◌, ◌≢◌, ℕ, zero, suc, ◌+◌, ◌-◌, ◌^◌, ◌≤◌, ◌<◌, List, [], ◌∷◌, ◌++◌, length, Option, Some, None, refl, sym, ◌∙◌, ap, subst, arith, ⊎_elim, slice_get, append_assoc}
use Rattle.std.proofs.lemmas.Bool.Decides.{eqb_tells}
use Rattle.std.proofs.lemmas.List.{append-nil, length-append, get_or-set_same, get_or-set_other, length-set}
use Rattle.std.proofs.lemmas.Option.{slice_get_cases, slice_get-get_or, get_or_from_slice_get}
use Rattle.std.specs.List.{sum_by}
use Rattle.std.proofs.lemmas.List.Sums.{sum_by-set}
use Rattle.std.proofs.Math.Seq.{get_or-append_seam}
use Rattle.type_graph.specs.declared.form.Form.{Form}
use Rattle.type_graph.specs.declared.form.Form.TheVariants.{Variable, Link, Applied}
use Rattle.type_graph.specs.declared.types.Node.{Node}
use Rattle.type_graph.specs.Graph.{Graph, unknown, node_at, link_of, root, part_of, set_node}
use Rattle.type_graph.specs.Copied.{Copied, copy_is, forwarded, with_argument, forwarded_arguments, arguments_copied, until_last, copied_from, copied}
use Rattle.type_readings.specs.WellFormed.{NamesWhatIsThere, AreNumbers, weight, IsWellFormed, IsCopyable}
use Rattle.type_readings.proofs.Lists.{each_appended, each_of_part, length_of_part}
use Rattle.type_readings.proofs.Rows.{root_is_number, weight_at_root}
use Rattle.type_readings.proofs.Making.{apart_above, part_of_more, part_of_seam}
use Rattle.type_readings.proofs.Copying.{extends_itself, extends_argument, extends_set, extends_forwarded_arguments}
use Rattle.type_readings.proofs.Forwarding.{Stands, AllStand, CopyForm, IsPlain, Copy, Onward, onward_itself, onward_twice, stands_on, copy_form_on, forwarded_is}

-- the element between two lists
found_between : {X : Type 0} (xs : List X) (y : X) (ys : List X) → slice_get (xs ++ y ∷ ys) (length xs) ≡ Some y
found_between xs y ys =
    let long = length-append xs (y ∷ ys) in
    slice_get-get_or (xs ++ y ∷ ys) (length xs) y (omega arith) ∙ ap Some (get_or-append_seam xs y ys y)

all_stand_long : (g h : Graph) (xs ys : List ℕ) → AllStand g h xs ys → length xs ≡ length ys
all_stand_long g h [] [] s = refl
all_stand_long g h [] (y ∷ ys) s = absurd s
all_stand_long g h (x ∷ xs) [] s = absurd s
all_stand_long g h (x ∷ xs) (y ∷ ys) s = ap suc (all_stand_long g h xs ys s.1)

-- what stands for some types came behind all arguments
record Standing (g h : Graph) (at : ℕ) (ys : List ℕ) (new : Graph) : Type 0 where
  copy : Copy g new at
  onward : Onward g h new
  standing : List ℕ
  come : new.arguments ≡ h.arguments ++ standing
  stand : AllStand g new standing ys

-- a copy that went on by one node
pub record Further (g h : Graph) (at : ℕ) (new : Graph) : Type 0 where
  pub copy : Copy g new at
  pub onward : Onward g h new

-- a copy that is complete
pub record Complete (g h new : Graph) : Type 0 where
  pub at : ℕ
  pub copy : Copy g new at
  pub all : length new.nodes ≤ at
  pub onward : Onward g h new

-- so is a copy of one type, and its number stands for that
pub record Finished (g h : Graph) (n c : ℕ) : Type 0 where
  pub at : ℕ
  pub copy : Copy g h at
  pub all : length h.nodes ≤ at
  pub stands : Stands g h c n

module _ (g : Graph) (well : IsWellFormed g) where
  -- what stands for a type is one
  pub stands_within : (h : Graph) (at x m : ℕ) → Copy g h at → Stands g h x m → x < length h.nodes
  stands_within h at x m y s =
      let less = root_is_number g well m s.0 in
      let longer = y.extends.longer in
      ⊎_elim
      (λ p. let is = p.0 in omega arith)
      (λ p. let is = p.1 in let le = p.0 in let known = (y.copies (root g.nodes m) less (omega arith)).0 in omega arith)
      s.1

  pub copy_form_root : (h : Graph) (a b : Form) → CopyForm g h a b → link_of b ≡ None
  copy_form_root h Variable b form = ap link_of form
  copy_form_root h (Link m) b form = absurd form
  copy_form_root h (Applied c first count) b form = ap link_of form.1

  -- a further argument of which nothing is said
  module _ (c : Copied) (at : ℕ) (y : Copy g c.types at) (lt : c.copy < length c.types.nodes) where
    onward_argument : Onward g c.types (with_argument c)
    onward_argument = record { stay = λ r lt le. refl; more = c.copy ∷ []; arguments = refl }

    copy_argument : Copy g (with_argument c) at
    copy_argument = record {
      extends = extends_argument g c y.extends;
      outers = y.outers;
      ranks = y.ranks;
      plain = y.plain;
      numbers = each_appended (λ n. n < length c.types.nodes) c.types.arguments (c.copy ∷ []) y.numbers (lt, tt);
      weighs = y.weighs;
      within = y.within;
      origin = y.origin;
      copies = y.copies;
      origins = y.origins;
      pending = y.pending;
      done =
          λ q lt le.
          copy_form_on g well c.types (with_argument c) onward_argument (node_at g.nodes (y.origin q)).form (node_at c.types.nodes q).form
          (y.done q lt le);
    }

  arguments_stand :
      (at c first total : ℕ) → first + total ≤ length g.arguments → (ys pre : List ℕ) (count place : ℕ) (h : Graph) → Copy g h at
      → part_of g.arguments first total ≡ pre ++ ys → place ≡ length pre → count ≡ length ys → AreNumbers (length g.nodes) ys
      → Standing g h at ys (forwarded_arguments count (length g.nodes) (Applied c first total) place h)
  unfolding forwarded_arguments
  arguments_stand at c first total fits [] pre zero place h y e p n numbers = record {
    copy = y;
    onward = onward_itself g h;
    standing = [];
    come = sym (append-nil h.arguments);
    stand = tt;
  }
  arguments_stand at c first total fits [] pre (suc count) place h y e p n numbers = absurd (omega arith)
  arguments_stand at c first total fits (m ∷ ys) pre zero place h y e p n numbers = absurd (omega arith)
  arguments_stand at c first total fits (m ∷ ys) pre (suc count) place h y e p n numbers =
      let base = length g.nodes in
      let same : part_of h.arguments first total ≡ pre ++ m ∷ ys =
      ap (λ (l : List ℕ). part_of l first total) y.extends.arguments ∙ part_of_more g.arguments y.extends.more first total fits ∙ e in
      let found : slice_get (part_of h.arguments first total) place ≡ Some m =
      ap (λ (l : List ℕ). slice_get l place) same ∙ ap (slice_get (pre ++ m ∷ ys)) p ∙ found_between pre m ys in
      let d = forwarded_is g well h at m y numbers.0 in
      let c2 = forwarded base m h in
      let mid = with_argument c2 in
      let number = stands_within c2.types at c2.copy m d.copy d.stands in
      let split : part_of g.arguments first total ≡ (pre ++ m ∷ []) ++ ys = e ∙ sym (append_assoc pre (m ∷ []) ys) in
      let longer : length (pre ++ m ∷ []) ≡ length pre + length (m ∷ []) = length-append pre (m ∷ []) in
      let placed : place + 1 ≡ length (pre ++ m ∷ []) = omega arith in
      let left : count ≡ length ys = omega arith in
      let rest =
      arguments_stand at c first total fits ys (pre ++ m ∷ []) count (place + 1) mid (copy_argument c2 at d.copy number) split placed left numbers.1 in
      let toward = onward_twice g h c2.types mid d.onward (onward_argument c2 at d.copy number) in
      subst
      (λ (o : Option ℕ).
      Standing g h at (m ∷ ys)
      (forwarded_arguments count base (Applied c first total) (place + 1)
      (elim o as (λ k. Graph) [ None ↦ h | Some n ↦ with_argument (forwarded base n h) ])))
      (sym found)
      (record {
        copy = rest.copy;
        onward = onward_twice g h mid (forwarded_arguments count base (Applied c first total) (place + 1) mid) toward rest.onward;
        standing = c2.copy ∷ rest.standing;
        come =
            rest.come ∙ ap (λ (l : List ℕ). (l ++ c2.copy ∷ []) ++ rest.standing) d.same
            ∙ append_assoc h.arguments (c2.copy ∷ []) rest.standing;
        stand =
            (stands_on g well mid (forwarded_arguments count base (Applied c first total) (place + 1) mid) rest.onward c2.copy m d.stands, rest.stand);
      })

  -- the arguments of a node of the copy are no longer pending
  copy_further :
      (h : Graph) (at : ℕ) (y : Copy g h at) → at < length h.nodes
      → (length g.nodes ≤ at → CopyForm g h (node_at g.nodes (y.origin at)).form (node_at h.nodes at).form) → Copy g h (at + 1)
  copy_further h at y lt form = record {
    extends = y.extends;
    outers = y.outers;
    ranks = y.ranks;
    plain = y.plain;
    numbers = y.numbers;
    weighs = y.weighs;
    within = omega arith;
    origin = y.origin;
    copies = y.copies;
    origins = y.origins;
    pending = λ q after le less. y.pending q (omega arith) le less;
    done =
        λ q less le.
        ⊎_elim
        (λ p.
        subst (λ k. CopyForm g h (node_at g.nodes (y.origin k)).form (node_at h.nodes k).form) (sym p.1)
        (form (subst (λ k. length g.nodes ≤ k) p.1 le)))
        (λ p. y.done q (apart_above at q (λ e. p.1 (sym e)) (omega arith)) le)
        (eqb_tells q at);
  }

  -- a node of the copy is set to one with copied arguments
  module _
      (h : Graph) (at : ℕ) (x : Node) (y : Copy g h at) (lt : at < length h.nodes) (le : length g.nodes ≤ at)
      (form : CopyForm g h (node_at g.nodes (y.origin at)).form x.form) (is_plain : IsPlain x) where
    abbrev with_node : Graph
    with_node = set_node at x h

    elsewhere : (q : ℕ) → q ≢ at → node_at with_node.nodes q ≡ node_at h.nodes q
    elsewhere q e = get_or-set_other h.nodes at q x unknown e

    before_at : (q : ℕ) → q < length g.nodes → q ≢ at
    before_at q less = λ e. absurd (omega arith)

    as_long : length with_node.nodes ≡ length h.nodes
    as_long = length-set h.nodes at x

    onward_set : Onward g h with_node
    onward_set = record {
      stay = λ r less more. ap (λ (z : Node). z.copy) (elsewhere r (before_at r less));
      more = [];
      arguments = sym (append-nil h.arguments);
    }

    weighs_set : sum_by weight with_node.nodes ≤ length with_node.nodes
    weighs_set =
        let long = as_long in
        let old = node_at h.nodes at in
        let is_root : link_of old.form ≡ None = ap link_of (y.pending at (omega arith) le lt) ∙ (y.origins at le lt).is_root in
        let sum = sum_by-set weight h.nodes at x unknown lt in
        let one = weight_at_root old is_root ∙ ap (λ (z : Node). 2 ^ z.rank) (y.plain at le lt) in
        let other = weight_at_root x (copy_form_root h (node_at g.nodes (y.origin at)).form x.form form) ∙ ap (λ (z : Node). 2 ^ z.rank) is_plain in
        let weighs = y.weighs in
        omega arith

    copy_set : Copy g with_node (at + 1)
    copy_set = record {
      extends = extends_set g h at x le y.extends;
      outers = λ q less. ap (λ (z : Node). z.is_outer) (elsewhere q (before_at q less)) ∙ y.outers q less;
      ranks = λ q less. ap (λ (z : Node). z.rank) (elsewhere q (before_at q less)) ∙ y.ranks q less;
      plain =
          λ q more less.
          let long = as_long in
          ⊎_elim
          (λ p. subst (λ k. IsPlain (node_at with_node.nodes k)) (sym p.1) (subst IsPlain (sym (get_or-set_same h.nodes at x unknown lt)) is_plain))
          (λ p. subst IsPlain (sym (elsewhere q p.1)) (y.plain q more (omega arith)))
          (eqb_tells q at);
      numbers = subst (λ k. AreNumbers k h.arguments) (sym as_long) y.numbers;
      weighs = weighs_set;
      within = let long = as_long in omega arith;
      origin = y.origin;
      copies =
          λ r less more.
          let long = as_long in
          let is : (node_at with_node.nodes r).copy ≡ (node_at h.nodes r).copy = ap (λ (z : Node). z.copy) (elsewhere r (before_at r less)) in
          let before = y.copies r less (omega arith) in
          let short = before.0 in
          (omega arith, ap y.origin is ∙ before.1);
      origins = λ q more less. let long = as_long in y.origins q more (omega arith);
      pending =
          λ q after more less.
          let long = as_long in
          let apart : q ≢ at = λ e. absurd (omega arith) in
          ap (λ (z : Node). z.form) (elsewhere q apart) ∙ y.pending q (omega arith) more (omega arith);
      done =
          λ q less more.
          ⊎_elim
          (λ p.
          subst (λ k. CopyForm g with_node (node_at g.nodes (y.origin k)).form (node_at with_node.nodes k).form) (sym p.1)
          (subst (λ (z : Node). CopyForm g with_node (node_at g.nodes (y.origin at)).form z.form)
          (sym (get_or-set_same h.nodes at x unknown lt))
          (copy_form_on g well h with_node onward_set (node_at g.nodes (y.origin at)).form x.form form)))
          (λ p.
          subst (λ (z : Node). CopyForm g with_node (node_at g.nodes (y.origin q)).form z.form) (sym (elsewhere q p.1))
          (copy_form_on g well h with_node onward_set (node_at g.nodes (y.origin q)).form (node_at h.nodes q).form
          (y.done q (apart_above at q (λ e. p.1 (sym e)) (omega arith)) more)))
          (eqb_tells q at);
    }

  -- the arguments of one node are copied
  copy_arguments :
      (h : Graph) (at : ℕ) (a : Form) (y : Copy g h at) → at < length h.nodes → length g.nodes ≤ at → (node_at h.nodes at).form ≡ a
      → Further g h (at + 1) (arguments_copied (length g.nodes) at (node_at h.nodes at) h)
  copy_arguments h at Variable y lt le e =
      let of_origin : (node_at g.nodes (y.origin at)).form ≡ Variable = sym (y.pending at (omega arith) le lt) ∙ e in
      rw (e, arguments_copied)
      (record {
        copy = copy_further h at y lt (λ more. subst (λ b. CopyForm g h b (node_at h.nodes at).form) (sym of_origin) e);
        onward = onward_itself g h;
      })
  copy_arguments h at (Link m) y lt le e =
      let is = (y.origins at le lt).is_root in
      let of_origin : (node_at g.nodes (y.origin at)).form ≡ Link m = sym (y.pending at (omega arith) le lt) ∙ e in
      let linked : link_of (node_at g.nodes (y.origin at)).form ≡ Some m = ap link_of of_origin in
      absurd (cc)
  copy_arguments h at (Applied c first count) y lt le e =
      let base = length g.nodes in
      let a = Applied c first count in
      let of_origin : (node_at g.nodes (y.origin at)).form ≡ a = sym (y.pending at (omega arith) le lt) ∙ e in
      let fits : first + count ≤ length g.arguments =
      subst (NamesWhatIsThere base (length g.arguments)) of_origin (well.names (y.origin at)) in
      let ys = part_of g.arguments first count in
      let many : length ys ≡ count = length_of_part g.arguments first count fits in
      let s =
      arguments_stand at c first count fits ys [] count 0 h y refl refl (sym many)
      (each_of_part (λ n. n < base) g.arguments first count well.numbers) in
      let new = forwarded_arguments count base a 0 h in
      let kept = extends_forwarded_arguments h count base a 0 h (extends_itself h) in
      let longer = kept.longer in
      let less : at < length new.nodes = omega arith in
      let of_new : (node_at g.nodes (s.copy.origin at)).form ≡ a =
      sym (s.copy.pending at (omega arith) le less) ∙ kept.forms at lt ∙ e in
      let as_many : length s.standing ≡ count = all_stand_long g new s.standing ys s.stand ∙ many in
      let come : length new.arguments ≡ length (h.arguments ++ s.standing) = ap length s.come in
      let here : part_of new.arguments (length h.arguments) count ≡ s.standing =
      ap (λ (l : List ℕ). part_of l (length h.arguments) count) s.come
      ∙ ap (part_of (h.arguments ++ s.standing) (length h.arguments)) (sym as_many) ∙ part_of_seam h.arguments s.standing in
      let copied_form : CopyForm g new a (Applied c (length h.arguments) count) = (
        length h.arguments,
        refl,
        omega (arith, length-append h.arguments s.standing),
        subst (λ (l : List ℕ). AllStand g new l ys) (sym here) s.stand,
      ) in
      let form = subst (λ b. CopyForm g new b (Applied c (length h.arguments) count)) (sym of_new) copied_form in
      let x : Node = record (node_at h.nodes at) { form = Applied c (length h.arguments) count } in
      let is_plain : IsPlain x = ap (λ (z : Node). let w : Node = record z { form = Applied c (length h.arguments) count } in w) (y.plain at le lt) in
      rw (e, arguments_copied)
      (record {
        copy = copy_set new at x s.copy less le form is_plain;
        onward = onward_twice g h new (set_node at x new) s.onward (onward_set new at x s.copy less le form is_plain);
      })

  copy_to_end :
      (steps at : ℕ) (h : Graph) → Copy g h at → length g.nodes ≤ at → steps + at ≡ 33554432
      → length (copied_from steps (length g.nodes) at h).nodes ≤ 33554432 → Complete g h (copied_from steps (length g.nodes) at h)
  unfolding copied_from
  copy_to_end zero at h y le e room = record { at = at; copy = y; all = omega arith; onward = onward_itself g h }
  copy_to_end (suc steps) at h y le e room =
      let base = length g.nodes in
      let onward : Node → Graph = λ node. copied_from steps base (at + 1) (arguments_copied base at node h) in
      let got = slice_get_cases h.nodes at in
      ⊎_elim
      (λ p.
      let node = node_at h.nodes at in
      let is : node ≡ p.0 = get_or_from_slice_get h.nodes at p.0 unknown p.2 in
      let found : slice_get h.nodes at ≡ Some node = p.2 ∙ ap Some (sym is) in
      let same : copied_from (suc steps) base at h ≡ onward node = ap (λ o. until_last o h onward) found in
      let one = copy_arguments h at node.form y p.1 le refl in
      let mid = arguments_copied base at node h in
      let rest =
      copy_to_end steps (at + 1) mid one.copy (omega arith) (omega arith) (subst (λ (i : Graph). length i.nodes ≤ 33554432) same room) in
      subst (Complete g h) (sym same)
      (record { at = rest.at; copy = rest.copy; all = rest.all; onward = onward_twice g h mid (onward node) one.onward rest.onward }))
      (λ p.
      let same : copied_from (suc steps) base at h ≡ h = ap (λ o. until_last o h onward) p.1 in
      subst (Complete g h) (sym same) (record { at = at; copy = y; all = p.0; onward = onward_itself g h }))
      got.1

  module _ (copyable : IsCopyable g) where
    copy_begins : Copy g g (length g.nodes)
    copy_begins = record {
      extends = extends_itself g;
      outers = λ q lt. refl;
      ranks = λ q lt. refl;
      plain = λ q le lt. absurd (omega arith);
      numbers = well.numbers;
      weighs = well.weighs;
      within = omega arith;
      origin = λ q. 0;
      copies = λ r lt le. let before = copyable.copies_before r lt in absurd (omega arith);
      origins = λ q le lt. absurd (omega arith);
      pending = λ q after le lt. absurd (omega arith);
      done = λ q lt le. absurd (omega arith);
    }

    copy_ends :
        (n : ℕ) → n < length g.nodes → length (copied n g).types.nodes ≤ 33554432 → Finished g (copied n g).types n (copied n g).copy
    copy_ends n lt room =
        let base = length g.nodes in
        let roomy = well.room in
        let d = forwarded_is g well g base n copy_begins lt in
        let c = forwarded base n g in
        let steps : (33554432 - base) + base ≡ 33554432 = omega arith in
        let rest = copy_to_end (33554432 - base) base c.types d.copy (omega arith) steps room in
        record {
          at = rest.at;
          copy = rest.copy;
          all = rest.all;
          stands = stands_on g well c.types (copied n g).types rest.onward c.copy n d.stands;
        }

    pub copy_is_finished :
        (n c : ℕ) (h : Graph) → n < length g.nodes → copied n g ≡ copy_is c h → length h.nodes ≤ 33554432 → Finished g h n c
    copy_is_finished n c h lt e room =
        subst (λ (x : Copied). Finished g x.types n x.copy) e
        (copy_ends n lt (subst (λ (x : Copied). length x.types.nodes ≤ 33554432) (sym e) room))
