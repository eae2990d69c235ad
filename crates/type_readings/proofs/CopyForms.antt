-- A graph with a copy is well formed, and may be copied from again.
use Rattle.std.proofs.Common.{◌≡◌, ℕ, suc, ◌≤◌, ◌<◌, [], ◌++◌, length, Some, None, true, false, refl, sym, ◌∙◌, ap, subst, arith, ⊎_elim}
use Rattle.std.proofs.lemmas.Bool.Decides.{leb_tells}
use Rattle.std.proofs.lemmas.List.{get_or_past, length-append}
use Rattle.type_graph.specs.declared.form.Form.{Form}
use Rattle.type_graph.specs.declared.form.Form.TheVariants.{Variable, Link, Applied}
use Rattle.type_graph.specs.declared.types.Node.{Node}
use Rattle.type_graph.specs.Graph.{Graph, unknown, node_at, root, link_of}
use Rattle.type_readings.specs.WellFormed.{NamesWhatIsThere, IsRoot, Ends, IsOuter, IsWellFormed, IsCopyable}
use Rattle.type_readings.specs.Laws.{CopyKeepsForm, CopyIsNumber, CopyKeepsCopyable}
use Rattle.type_readings.proofs.Rows.{leads_still, leads_within, followed_root}
use Rattle.type_readings.proofs.Forwarding.{CopyForm}
use Rattle.type_readings.proofs.OuterArguments.{outer_arguments_still}
use Rattle.type_readings.proofs.Completing.{Finished, copy_form_root, stands_within, copy_is_finished}

module _ (g : Graph) (well : IsWellFormed g) (h : Graph) (n c : ℕ) (y : Finished g h n c) where
  names_before :
      (a : Form) → NamesWhatIsThere (length g.nodes) (length g.arguments) a → NamesWhatIsThere (length h.nodes) (length h.arguments) a
  names_before Variable names = tt
  names_before (Link m) names = let longer = y.copy.extends.longer in omega arith
  names_before (Applied d first count) names =
      let x = y.copy.extends in
      let longer : length h.arguments ≡ length (g.arguments ++ x.more) = ap length x.arguments in
      omega (arith, length-append g.arguments x.more)

  names_copied : (a b : Form) → CopyForm g h a b → NamesWhatIsThere (length h.nodes) (length h.arguments) b
  names_copied Variable b form = subst (NamesWhatIsThere (length h.nodes) (length h.arguments)) (sym form) tt
  names_copied (Link m) b form = absurd form
  names_copied (Applied d first count) b form = subst (NamesWhatIsThere (length h.nodes) (length h.arguments)) (sym form.1) form.2

  -- what holds of the nodes before, of the new ones, and where there is none
  at_each_copied :
      (P : ℕ → Node → Type 0) → ((q : ℕ) → q < length g.nodes → P q (node_at h.nodes q))
      → ((q : ℕ) → length g.nodes ≤ q → q < length h.nodes → P q (node_at h.nodes q)) → ((q : ℕ) → length h.nodes ≤ q → P q unknown)
      → (q : ℕ) → P q (node_at h.nodes q)
  at_each_copied P old new none q =
      ⊎_elim
      (λ p. old q p.1)
      (λ p.
      ⊎_elim
      (λ l. new q (omega arith) l.1)
      (λ l. subst (P q) (sym (get_or_past h.nodes q unknown (omega arith))) (none q (omega arith)))
      (leb_tells (suc q) (length h.nodes)))
      (leb_tells (suc q) (length g.nodes))

  form_copied :
      (q : ℕ) → length g.nodes ≤ q → q < length h.nodes → CopyForm g h (node_at g.nodes (y.copy.origin q)).form (node_at h.nodes q).form
  form_copied q le lt = let all = y.all in y.copy.done q (omega arith) le

  root_copied : (q : ℕ) → length g.nodes ≤ q → IsRoot h.nodes q
  root_copied q le =
      ⊎_elim
      (λ l. copy_form_root g well h (node_at g.nodes (y.copy.origin q)).form (node_at h.nodes q).form (form_copied q le l.1))
      (λ l. ap (λ (z : Node). link_of z.form) (get_or_past h.nodes q unknown (omega arith)))
      (leb_tells (suc q) (length h.nodes))

  links_before : (q m : ℕ) → link_of (node_at g.nodes q).form ≡ Some m → link_of (node_at h.nodes q).form ≡ Some m
  links_before q m e =
      ⊎_elim
      (λ p. ap link_of (y.copy.extends.forms q p.1) ∙ e)
      (λ p.
      let none : link_of (node_at g.nodes q).form ≡ None = ap (λ (z : Node). link_of z.form) (get_or_past g.nodes q unknown (omega arith)) in
      absurd (cc))
      (leb_tells (suc q) (length g.nodes))

  ends_copied : (q : ℕ) → Ends h.nodes q
  ends_copied q =
      ⊎_elim
      (λ p.
      let e = well.ends q in
      let less : e.end < length g.nodes = leads_within (length g.nodes) (length g.arguments) g.nodes well.names e.links q e.end p.1 e.leads in
      record {
        links = e.links;
        end = e.end;
        leads = leads_still g.nodes h.nodes links_before e.links q e.end e.leads;
        is_root = ap link_of (y.copy.extends.forms e.end less) ∙ e.is_root;
        is_short = subst (λ k. e.links ≤ k) (sym (y.copy.ranks e.end less)) e.is_short;
      })
      (λ p. record { links = 0; end = q; leads = refl; is_root = root_copied q (omega arith); is_short = omega arith })
      (leb_tells (suc q) (length g.nodes))

  well_copied : length h.nodes ≤ 33554432 → length h.arguments ≤ 67108864 → IsWellFormed h
  well_copied room more = record {
    room = room;
    argument_room = more;
    names =
        at_each_copied (λ q (z : Node). NamesWhatIsThere (length h.nodes) (length h.arguments) z.form)
        (λ q lt.
        subst (NamesWhatIsThere (length h.nodes) (length h.arguments)) (sym (y.copy.extends.forms q lt))
        (names_before (node_at g.nodes q).form (well.names q)))
        (λ q le lt. names_copied (node_at g.nodes (y.copy.origin q)).form (node_at h.nodes q).form (form_copied q le lt))
        (λ q le. tt);
    numbers = y.copy.numbers;
    ends = ends_copied;
    weighs = y.copy.weighs;
  }

  new_inner : (m : ℕ) → length g.nodes ≤ m → IsOuter h m → ⊥
  new_inner m le is =
      let at : root h.nodes m ≡ m = followed_root 32 h.nodes m (root_copied m le) in
      let here : (node_at h.nodes m).is_outer ≡ true = ap (λ k. (node_at h.nodes k).is_outer) (sym at) ∙ is in
      ⊎_elim
      (λ l. let no : (node_at h.nodes m).is_outer ≡ false = ap (λ (z : Node). z.is_outer) (y.copy.plain m le l.1) in absurd (cc))
      (λ l.
      let no : (node_at h.nodes m).is_outer ≡ false = ap (λ (z : Node). z.is_outer) (get_or_past h.nodes m unknown (omega arith)) in
      absurd (cc))
      (leb_tells (suc m) (length h.nodes))

  copyable_again : IsCopyable g → IsCopyable h
  copyable_again copyable = record {
    copies_before =
        λ m lt.
        ⊎_elim
        (λ p.
        ⊎_elim
        (λ l. (y.copy.copies m p.1 l.1).0)
        (λ l. let longer = y.copy.extends.longer in omega arith)
        (leb_tells (length g.nodes) (node_at h.nodes m).copy))
        (λ p. let none : (node_at h.nodes m).copy ≡ 0 = ap (λ (z : Node). z.copy) (y.copy.plain m (omega arith) lt) in omega arith)
        (leb_tells (suc m) (length g.nodes));
    outer_arguments =
        λ m is.
        ⊎_elim
        (λ p. outer_arguments_still g well h y.copy.extends y.copy.outers [] tt copyable.outer_arguments m p.1 is)
        (λ p. absurd (new_inner m (omega arith) is))
        (leb_tells (suc m) (length g.nodes));
  }

pub copy_keeps_form_law : CopyKeepsForm
copy_keeps_form_law n c g h well copyable lt e room more =
    well_copied g well h n c (copy_is_finished g well copyable n c h lt e room) room more

pub copy_is_number_law : CopyIsNumber
copy_is_number_law n c g h well copyable lt e room =
    let y = copy_is_finished g well copyable n c h lt e room in
    stands_within g well h y.at c n y.copy y.stands

pub copy_keeps_copyable_law : CopyKeepsCopyable
copy_keeps_copyable_law n c g h well copyable lt e room =
    copyable_again g well h n c (copy_is_finished g well copyable n c h lt e room) copyable
