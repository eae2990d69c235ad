-- What stays of outer types where types are made or copied.
use Rattle.std.proofs.Common.{◌≡◌, ◌≢◌, ℕ, zero, suc, ◌+◌, ◌-◌, ◌≤◌, ◌<◌, inl, inr, List, [], ◌∷◌, ◌++◌, length, Option, Some, None, true, false, refl, sym, ◌∙◌, ap, subst, arith, ⊎_elim, slice_set, slice_get, nat_le, if◌then◌else◌}
use Rattle.std.proofs.lemmas.Bool.Decides.{leb_tells}
use Rattle.std.proofs.lemmas.List.{get_or_append_left, get_or_past, get_or-set_other, length-set, length-append}
use Rattle.type_graph.specs.declared.form.Form.{Form}
use Rattle.type_graph.specs.declared.form.Form.TheVariants.{Variable, Link, Applied}
use Rattle.type_graph.specs.declared.types.Node.{Node}
use Rattle.type_graph.specs.Graph.{Graph, fresh, unknown, node_at, followed, behind, root, form_of, is_variable, link_of, argument_of, added, set_node}
use Rattle.type_graph.specs.Copied.{Copied, copy_is, forwarded, with_argument, forwarded_argument, forwarded_arguments, arguments_copied, until_last, copied_from, copied}
use Rattle.type_readings.specs.WellFormed.{IsOuter, IsOuterOr, IsWellFormed}
use Rattle.type_readings.specs.SignatureRules.{IsMade}
use Rattle.type_readings.specs.OuterLaws.{FixedStays, OuterStays, VariableKeepsFixed, ApplicationKeepsFixed, ApplicationIsFixed, MadeKeepsFixed, CopyKeepsFixed, VariableKeepsOuter, ApplicationKeepsOuter, MadeKeepsOuter, CopyKeepsOuter, CopyKeepsNumbers}
use Rattle.type_readings.proofs.Rows.{followed_root, link_within, root_is_number}
use Rattle.type_readings.proofs.Behind.{if_either}
use Rattle.type_readings.proofs.Making.{node_before, node_on_top}
use Rattle.type_readings.proofs.Alike.{node_set}
use Rattle.type_readings.proofs.Copying.{Extends, extends_copied}
use Rattle.type_readings.proofs.Forwarding.{behind_same}
use Rattle.type_readings.proofs.Made.{made_is_longer_law, made_keeps_types_law}

-- each type that was there has its form and is outer as it was, and the same was given
record Still (g h : Graph) : Type 0 where
  forms : (q : ℕ) → q < length g.nodes → (node_at h.nodes q).form ≡ (node_at g.nodes q).form
  outers : (q : ℕ) → q < length g.nodes → (node_at h.nodes q).is_outer ≡ (node_at g.nodes q).is_outer
  given : h.given ≡ g.given

module _ (g h : Graph) (well : IsWellFormed g) (still : Still g h) where
  -- then it has its root
  followed_still : (k n : ℕ) → n < length g.nodes → followed k h.nodes n ≡ followed k g.nodes n
  unfolding followed
  followed_still zero n lt = refl
  followed_still (suc k) n lt =
      ap (λ a. behind (link_of a) n (followed k h.nodes)) (still.forms n lt)
      ∙ behind_same (link_of (node_at g.nodes n).form) n (followed k h.nodes) (followed k g.nodes)
      (λ m is. followed_still k m (link_within (length g.nodes) (length g.arguments) (node_at g.nodes n).form m is (well.names n)))

  root_still : (n : ℕ) → n < length g.nodes → root h.nodes n ≡ root g.nodes n
  root_still n lt = followed_still 32 n lt

  outer_still : (n : ℕ) → n < length g.nodes → IsOuter g n → IsOuter h n
  outer_still n lt is =
      ap (λ k. (node_at h.nodes k).is_outer) (root_still n lt) ∙ still.outers (root g.nodes n) (root_is_number g well n lt) ∙ is

  form_still : (n : ℕ) → n < length g.nodes → form_of h.nodes n ≡ form_of g.nodes n
  form_still n lt = ap (λ k. (node_at h.nodes k).form) (root_still n lt) ∙ still.forms (root g.nodes n) (root_is_number g well n lt)

  fixed_still : FixedStays g h
  fixed_still n lt is = (outer_still n lt is.0, ap is_variable (form_still n lt) ∙ is.1)

  -- no type has the root of a number where there is none
  root_of_number : (p n : ℕ) → n < length g.nodes → root g.nodes p ≡ root g.nodes n → length g.nodes ≤ p → ⊥
  root_of_number p n lt e le =
      let there = root_is_number g well n lt in
      let past : node_at g.nodes p ≡ unknown = get_or_past g.nodes p unknown le in
      let at : root g.nodes p ≡ p = followed_root 32 g.nodes p (ap (λ (z : Node). link_of z.form) past) in
      absurd (omega arith)

  or_still : (ps : List ℕ) (n : ℕ) → n < length g.nodes → IsOuterOr g ps n → IsOuterOr h ps n
  or_still [] n lt is = outer_still n lt is
  or_still (p ∷ ps) n lt is =
      ⊎_elim
      (λ e.
      ⊎_elim
      (λ l. inl (root_still p l.1 ∙ e ∙ sym (root_still n lt)))
      (λ l. absurd (root_of_number p n lt e (omega arith)))
      (leb_tells (suc p) (length g.nodes)))
      (λ e. inr (or_still ps n lt e))
      is

  or_given_still : OuterStays g h
  or_given_still n lt is = subst (λ (ps : List ℕ). IsOuterOr h ps n) (sym still.given) (or_still g.given n lt is)

-- a type more
still_added : (g : Graph) (x : Node) (arguments : List ℕ) → Still g (record { nodes = g.nodes ++ x ∷ []; arguments = arguments; given = g.given })
still_added g x arguments = record {
  forms = λ q lt. ap (λ (z : Node). z.form) (node_before g.nodes x q lt);
  outers = λ q lt. ap (λ (z : Node). z.is_outer) (node_before g.nodes x q lt);
  given = refl;
}

still_variable : (g : Graph) → Still g (added unknown g)
still_variable g = still_added g unknown g.arguments

pub variable_keeps_fixed_law : VariableKeepsFixed
variable_keeps_fixed_law g well = fixed_still g (added unknown g) well (still_variable g)

pub variable_keeps_outer_law : VariableKeepsOuter
variable_keeps_outer_law g well = or_given_still g (added unknown g) well (still_variable g)

pub application_keeps_fixed_law : ApplicationKeepsFixed
application_keeps_fixed_law c ns outer g well =
    let x = fresh (Applied c (length g.arguments) (length ns)) outer in
    fixed_still g (record { nodes = g.nodes ++ x ∷ []; arguments = g.arguments ++ ns; given = g.given }) well
    (still_added g x (g.arguments ++ ns))

pub application_keeps_outer_law : ApplicationKeepsOuter
application_keeps_outer_law c ns outer g well =
    let x = fresh (Applied c (length g.arguments) (length ns)) outer in
    or_given_still g (record { nodes = g.nodes ++ x ∷ []; arguments = g.arguments ++ ns; given = g.given }) well
    (still_added g x (g.arguments ++ ns))

pub application_is_fixed_law : ApplicationIsFixed
application_is_fixed_law c ns g well =
    let x = fresh (Applied c (length g.arguments) (length ns)) true in
    let nodes = g.nodes ++ x ∷ [] in
    let base = length g.nodes in
    let top = node_on_top g.nodes x in
    let at : root nodes base ≡ base = followed_root 32 nodes base (ap (λ (z : Node). link_of z.form) top) in
    let node : node_at nodes (root nodes base) ≡ x = ap (node_at nodes) at ∙ top in
    (ap (λ (z : Node). z.is_outer) node, ap (λ (z : Node). is_variable z.form) node)

-- further types
still_made : (g h : Graph) → IsMade g h → Still g h
still_made g h made = record {
  forms = λ q lt. ap (λ (z : Node). z.form) (made_keeps_types_law g h made q lt);
  outers = λ q lt. ap (λ (z : Node). z.is_outer) (made_keeps_types_law g h made q lt);
  given = (made_is_longer_law g h made).2;
}

pub made_keeps_fixed_law : MadeKeepsFixed
made_keeps_fixed_law g h made well = fixed_still g h well (still_made g h made)

pub made_keeps_outer_law : MadeKeepsOuter
made_keeps_outer_law g h made well = or_given_still g h well (still_made g h made)

-- a copy that is being made leaves each type that was there outer as it was, and gives nothing
record Beyond (g h : Graph) : Type 0 where
  outers : (q : ℕ) → q < length g.nodes → (node_at h.nodes q).is_outer ≡ (node_at g.nodes q).is_outer
  longer : length g.nodes ≤ length h.nodes
  given : h.given ≡ g.given

module _ (g : Graph) where
  beyond_itself : Beyond g g
  beyond_itself = record { outers = λ q lt. refl; longer = omega arith; given = refl }

  -- a new type of the form of a type, which knows its copy
  beyond_new :
      (h : Graph) (r : ℕ) → Beyond g h
      → Beyond g (set_node r (record (node_at h.nodes r) { copy = length h.nodes }) (added (fresh (node_at h.nodes r).form false) h))
  beyond_new h r e =
      let node = node_at h.nodes r in
      let x : Node = record node { copy = length h.nodes } in
      let y = fresh node.form false in
      let longer = e.longer in
      record {
        outers =
            λ q lt.
            node_set (λ (z : Node). z.is_outer ≡ (node_at g.nodes q).is_outer) (h.nodes ++ y ∷ []) r x q
            (λ same. ap (λ k. (node_at h.nodes k).is_outer) (sym same) ∙ e.outers q lt)
            (ap (λ (z : Node). z.is_outer) (get_or_append_left h.nodes (y ∷ []) unknown q (omega arith)) ∙ e.outers q lt);
        longer =
            let long : length (slice_set (h.nodes ++ y ∷ []) r x) ≡ length h.nodes + length (y ∷ []) =
            length-set (h.nodes ++ y ∷ []) r x ∙ length-append h.nodes (y ∷ []) in
            omega arith;
        given = e.given;
      }

  beyond_forwarded : (h : Graph) (base n : ℕ) → Beyond g h → Beyond g (forwarded base n h).types
  beyond_forwarded h base n e =
      let r = root h.nodes n in
      let node = node_at h.nodes r in
      let new = copy_is (length h.nodes) (set_node r (record node { copy = length h.nodes }) (added (fresh node.form false) h)) in
      let P : Copied → Type 0 = λ c. Beyond g c.types in
      if_either P node.is_outer (copy_is r h) (if nat_le base node.copy then copy_is node.copy h else new)
      (λ t. e)
      (λ t. if_either P (nat_le base node.copy) (copy_is node.copy h) new (λ u. e) (λ u. beyond_new h r e))

  beyond_argument : (c : Copied) → Beyond g c.types → Beyond g (with_argument c)
  beyond_argument c e = record { outers = e.outers; longer = e.longer; given = e.given }

  beyond_forwarded_argument : (h : Graph) (base : ℕ) (a : Form) (place : ℕ) → Beyond g h → Beyond g (forwarded_argument base a place h)
  beyond_forwarded_argument h base a place e =
      elim (argument_of h.arguments a place)
      as (λ (o : Option ℕ). Beyond g (elim o as (λ k. Graph) [ None ↦ h | Some n ↦ with_argument (forwarded base n h) ])) [
        | None ↦ e
        | Some n ↦ beyond_argument (forwarded base n h) (beyond_forwarded h base n e)
      ]

  beyond_forwarded_arguments :
      (count base : ℕ) (a : Form) (place : ℕ) (h : Graph) → Beyond g h → Beyond g (forwarded_arguments count base a place h)
  unfolding forwarded_arguments
  beyond_forwarded_arguments zero base a place h e = e
  beyond_forwarded_arguments (suc count) base a place h e =
      beyond_forwarded_arguments count base a (place + 1) (forwarded_argument base a place h) (beyond_forwarded_argument h base a place e)

  -- a node of the copy is set
  beyond_set : (h : Graph) (at : ℕ) (x : Node) → length g.nodes ≤ at → Beyond g h → Beyond g (set_node at x h)
  beyond_set h at x le e = record {
    outers =
        λ q lt.
        let apart : q ≢ at = λ same. absurd (omega arith) in
        ap (λ (z : Node). z.is_outer) (get_or-set_other h.nodes at q x unknown apart) ∙ e.outers q lt;
    longer = let long = length-set h.nodes at x in let longer = e.longer in omega arith;
    given = e.given;
  }

  beyond_arguments_copied :
      (base at : ℕ) (a : Form) (node : Node) (h : Graph) → node.form ≡ a → length g.nodes ≤ at → Beyond g h
      → Beyond g (arguments_copied base at node h)
  beyond_arguments_copied base at Variable node h e le x = rw e x
  beyond_arguments_copied base at (Link m) node h e le x = rw e x
  beyond_arguments_copied base at (Applied c first count) node h e le x =
      rw e
      (beyond_set (forwarded_arguments count base (Applied c first count) 0 h) at
      (record node { form = Applied c (length h.arguments) count }) le
      (beyond_forwarded_arguments count base (Applied c first count) 0 h x))

  beyond_copied_from : (steps base at : ℕ) (h : Graph) → length g.nodes ≤ at → Beyond g h → Beyond g (copied_from steps base at h)
  unfolding copied_from
  beyond_copied_from zero base at h le e = e
  beyond_copied_from (suc steps) base at h le e =
      elim (slice_get h.nodes at)
      as (λ (o : Option Node). Beyond g (until_last o h (λ node. copied_from steps base (at + 1) (arguments_copied base at node h)))) [
        | None ↦ e
        | Some node ↦
            beyond_copied_from steps base (at + 1) (arguments_copied base at node h) (omega arith)
            (beyond_arguments_copied base at node.form node h refl le e)
      ]

  beyond_copied : (n : ℕ) → Beyond g (copied n g).types
  beyond_copied n =
      let base = length g.nodes in
      beyond_copied_from (33554432 - base) base base (forwarded base n g).types (omega arith) (beyond_forwarded g base n beyond_itself)

still_copied : (n c : ℕ) (g h : Graph) → copied n g ≡ copy_is c h → Still g h
still_copied n c g h e =
    let x = subst (λ (y : Copied). Extends g y.types) e (extends_copied g n) in
    let y = subst (λ (z : Copied). Beyond g z.types) e (beyond_copied g n) in
    record { forms = x.forms; outers = y.outers; given = y.given }

pub copy_keeps_fixed_law : CopyKeepsFixed
copy_keeps_fixed_law n c g h well e = fixed_still g h well (still_copied n c g h e)

pub copy_keeps_outer_law : CopyKeepsOuter
copy_keeps_outer_law n c g h well e = or_given_still g h well (still_copied n c g h e)

pub copy_keeps_numbers_law : CopyKeepsNumbers
copy_keeps_numbers_law n c g h e =
    let x = subst (λ (y : Copied). Extends g y.types) e (extends_copied g n) in
    let y = subst (λ (z : Copied). Beyond g z.types) e (beyond_copied g n) in
    let longer : length h.arguments ≡ length (g.arguments ++ x.more) = ap length x.arguments in
    (x.longer, omega (arith, length-append g.arguments x.more), y.given)
