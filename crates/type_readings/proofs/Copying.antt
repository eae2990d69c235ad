-- What copies leave as it was.
use Rattle.std.proofs.Common.{◌≡◌, ◌≢◌, ℕ, zero, suc, ◌+◌, ◌-◌, ◌≤◌, ◌<◌, List, [], ◌∷◌, ◌++◌, length, Option, Some, None, false, refl, sym, ◌∙◌, ap, subst, arith, ⊎_elim, slice_set, slice_get, nat_le, append_assoc, if◌then◌else◌}
use Rattle.std.proofs.lemmas.Bool.Decides.{leb_tells}
use Rattle.std.proofs.lemmas.List.{append-nil, get_or_append_left, get_or_past, get_or-set_other, length-set, length-append}
use Rattle.type_graph.specs.declared.form.Form.{Form}
use Rattle.type_graph.specs.declared.form.Form.TheVariants.{Variable, Link, Applied}
use Rattle.type_graph.specs.declared.types.Node.{Node}
use Rattle.type_graph.specs.Graph.{Graph, fresh, unknown, node_at, root, argument_of, added, set_node}
use Rattle.type_graph.specs.Copied.{Copied, copy_is, forwarded, with_argument, forwarded_argument, forwarded_arguments, arguments_copied, until_last, copied_from, copied}
use Rattle.type_readings.specs.Readings.{IsOfForm}
use Rattle.type_readings.specs.Laws.{CopyKeepsTypes, CopyKeepsReadings}
use Rattle.type_readings.proofs.Behind.{if_either}
use Rattle.type_readings.proofs.Making.{of_form_more}
use Rattle.type_readings.proofs.Alike.{node_set}

-- what is known of each type stays, types and arguments come behind the others, and nothing is given
pub record Extends (g h : Graph) : Type 0 where
  pub forms : (q : ℕ) → q < length g.nodes → (node_at h.nodes q).form ≡ (node_at g.nodes q).form
  pub longer : length g.nodes ≤ length h.nodes
  pub more : List ℕ
  pub arguments : h.arguments ≡ g.arguments ++ more
  pub given : h.given ≡ g.given

pub extends_itself : (g : Graph) → Extends g g
extends_itself g = record {
  forms = λ q lt. refl;
  longer = omega arith;
  more = [];
  arguments = sym (append-nil g.arguments);
  given = refl;
}

-- a new type of the form of a type, which knows its copy
pub extends_forwarded_new :
    (g h : Graph) (r : ℕ) → Extends g h
    → Extends g (set_node r (record (node_at h.nodes r) { copy = length h.nodes }) (added (fresh (node_at h.nodes r).form false) h))
extends_forwarded_new g h r e =
    let node = node_at h.nodes r in
    let x : Node = record node { copy = length h.nodes } in
    let y = fresh node.form false in
    let longer = e.longer in
    record {
      forms =
          λ q lt.
          node_set (λ (z : Node). z.form ≡ (node_at g.nodes q).form) (h.nodes ++ y ∷ []) r x q
          (λ same. ap (λ k. (node_at h.nodes k).form) (sym same) ∙ e.forms q lt)
          (ap (λ (z : Node). z.form) (get_or_append_left h.nodes (y ∷ []) unknown q (omega arith)) ∙ e.forms q lt);
      longer =
          let long : length (slice_set (h.nodes ++ y ∷ []) r x) ≡ length h.nodes + length (y ∷ []) =
          length-set (h.nodes ++ y ∷ []) r x ∙ length-append h.nodes (y ∷ []) in
          omega arith;
      more = e.more;
      arguments = e.arguments;
      given = e.given;
    }

pub extends_forwarded : (g h : Graph) (base n : ℕ) → Extends g h → Extends g (forwarded base n h).types
extends_forwarded g h base n e =
    let r = root h.nodes n in
    let node = node_at h.nodes r in
    let new = copy_is (length h.nodes) (set_node r (record node { copy = length h.nodes }) (added (fresh node.form false) h)) in
    let P : Copied → Type 0 = λ c. Extends g c.types in
    if_either P node.is_outer (copy_is r h) (if nat_le base node.copy then copy_is node.copy h else new)
    (λ t. e)
    (λ t. if_either P (nat_le base node.copy) (copy_is node.copy h) new (λ u. e) (λ u. extends_forwarded_new g h r e))

pub extends_argument : (g : Graph) (c : Copied) → Extends g c.types → Extends g (with_argument c)
extends_argument g c e = record {
  forms = e.forms;
  longer = e.longer;
  more = e.more ++ c.copy ∷ [];
  arguments = ap (λ (l : List ℕ). l ++ c.copy ∷ []) e.arguments ∙ append_assoc g.arguments e.more (c.copy ∷ []);
  given = e.given;
}

extends_forwarded_argument :
    (g h : Graph) (base : ℕ) (a : Form) (place : ℕ) → Extends g h → Extends g (forwarded_argument base a place h)
extends_forwarded_argument g h base a place e =
    elim (argument_of h.arguments a place)
    as (λ (o : Option ℕ). Extends g (elim o as (λ k. Graph) [ None ↦ h | Some n ↦ with_argument (forwarded base n h) ])) [
      | None ↦ e
      | Some n ↦ extends_argument g (forwarded base n h) (extends_forwarded g h base n e)
    ]

pub extends_forwarded_arguments :
    (g : Graph) (count base : ℕ) (a : Form) (place : ℕ) (h : Graph) → Extends g h → Extends g (forwarded_arguments count base a place h)
unfolding forwarded_arguments
extends_forwarded_arguments g zero base a place h e = e
extends_forwarded_arguments g (suc count) base a place h e =
    extends_forwarded_arguments g count base a (place + 1) (forwarded_argument base a place h)
    (extends_forwarded_argument g h base a place e)

-- a node of the copy is set
pub extends_set : (g h : Graph) (at : ℕ) (x : Node) → length g.nodes ≤ at → Extends g h → Extends g (set_node at x h)
extends_set g h at x le e = record {
  forms =
      λ q lt.
      let apart : q ≢ at = λ same. absurd (omega arith) in
      ap (λ (z : Node). z.form) (get_or-set_other h.nodes at q x unknown apart) ∙ e.forms q lt;
  longer = let long = length-set h.nodes at x in let longer = e.longer in omega arith;
  more = e.more;
  arguments = e.arguments;
  given = e.given;
}

extends_arguments_copied :
    (g : Graph) (base at : ℕ) (a : Form) (node : Node) (h : Graph) → node.form ≡ a → length g.nodes ≤ at → Extends g h
    → Extends g (arguments_copied base at node h)
extends_arguments_copied g base at Variable node h e le x = rw e x
extends_arguments_copied g base at (Link m) node h e le x = rw e x
extends_arguments_copied g base at (Applied c first count) node h e le x =
    rw e
    (extends_set g (forwarded_arguments count base (Applied c first count) 0 h) at
    (record node { form = Applied c (length h.arguments) count }) le
    (extends_forwarded_arguments g count base (Applied c first count) 0 h x))

extends_copied_from :
    (g : Graph) (steps base at : ℕ) (h : Graph) → length g.nodes ≤ at → Extends g h → Extends g (copied_from steps base at h)
unfolding copied_from
extends_copied_from g zero base at h le e = e
extends_copied_from g (suc steps) base at h le e =
    elim (slice_get h.nodes at)
    as (λ (o : Option Node). Extends g (until_last o h (λ node. copied_from steps base (at + 1) (arguments_copied base at node h)))) [
      | None ↦ e
      | Some node ↦
          extends_copied_from g steps base (at + 1) (arguments_copied base at node h) (omega arith)
          (extends_arguments_copied g base at node.form node h refl le e)
    ]

pub extends_copied : (g : Graph) (n : ℕ) → Extends g (copied n g).types
extends_copied g n =
    let base = length g.nodes in
    extends_copied_from g (33554432 - base) base base (forwarded base n g).types (omega arith)
    (extends_forwarded g g base n (extends_itself g))

pub copy_keeps_types_law : CopyKeepsTypes
copy_keeps_types_law n c g h e = (subst (λ (x : Copied). Extends g x.types) e (extends_copied g n)).forms

pub copy_keeps_readings_law : CopyKeepsReadings
copy_keeps_readings_law n c g h f well e reads m =
    let x = subst (λ (y : Copied). Extends g y.types) e (extends_copied g n) in
    ⊎_elim
    (λ p.
    (of_form_more f (length g.nodes) g.arguments x.more (node_at g.nodes m).form (f m) (well.names m)).1
    (subst (λ (l : List ℕ). IsOfForm f l (node_at g.nodes m).form (f m)) x.arguments
    (subst (λ a. IsOfForm f h.arguments a (f m)) (x.forms m p.1) (reads m))))
    (λ p. subst (λ (y : Node). IsOfForm f g.arguments y.form (f m)) (sym (get_or_past g.nodes m unknown (omega arith))) tt)
    (leb_tells (suc m) (length g.nodes))
