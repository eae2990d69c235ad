-- Copies of types, with new variables.
use Rattle.std.specs.Prelude.{ℕ, zero, suc, ◌+◌, ◌-◌, nat_le, false, [], ◌∷◌, ◌++◌, length, slice_get, Option, None, Some, if◌then◌else◌}
use Rattle.type_graph.specs.declared.form.Form.{Form}
use Rattle.type_graph.specs.declared.form.Form.TheVariants as form
use Rattle.type_graph.specs.declared.types.Node.{Node}
use Rattle.type_graph.specs.Graph.{Graph, fresh, node_at, root, argument_of, added, set_node}

-- a copy, and all types behind that
pub record Copied : Type 0 where
  pub copy : ℕ
  pub types : Graph

abbrev pub copy_is : ℕ → Graph → Copied
copy_is n g = record { copy = n; types = g }

-- what stands for a type in the copy whose types begin at this number: itself where it is outer, its copy where it has one, and
-- else a new type of the same form
abbrev pub forwarded : (base n : ℕ) → Graph → Copied
forwarded base n g =
    let r = root g.nodes n in
    let node = node_at g.nodes r in
    let copy = length g.nodes in
    if node.is_outer then copy_is r g
    else if nat_le base node.copy then copy_is node.copy g
    else copy_is copy (set_node r (record node { copy = copy }) (added (fresh node.form false) g))

-- with a further argument
abbrev pub with_argument : Copied → Graph
with_argument c = record c.types { arguments = c.types.arguments ++ c.copy ∷ [] }

-- the argument of a form at a place is copied
abbrev pub forwarded_argument : (base : ℕ) → Form → (place : ℕ) → Graph → Graph
forwarded_argument base f place g =
    elim (argument_of g.arguments f place) [ None ↦ g | Some n ↦ with_argument (forwarded base n g) ]

-- so many arguments of a form are copied, from a place on
unfoldable pub forwarded_arguments : (count base : ℕ) → Form → (place : ℕ) → Graph → Graph
forwarded_arguments zero base f place g = g
forwarded_arguments (suc count) base f place g = forwarded_arguments count base f (place + 1) (forwarded_argument base f place g)

-- a node of the copy with its arguments copied, from the place behind all others on
abbrev pub arguments_copied : (base at : ℕ) → Node → Graph → Graph
arguments_copied base at node g =
    elim node.form as (λ f. Graph) [
      | form.Applied c first count ↦
          set_node at (record node { form = form.Applied c (length g.arguments) count })
          (forwarded_arguments count base (form.Applied c first count) 0 g)
      | _ ↦ g
    ]

-- behind the last node, or from another one on
abbrev pub until_last : Option Node → Graph → (Node → Graph) → Graph
until_last None g onward = g
until_last (Some node) g onward = onward node

-- the arguments of all types of the copy are copied from a number on, in so many steps at the most
unfoldable pub copied_from : (steps base at : ℕ) → Graph → Graph
copied_from zero base at g = g
copied_from (suc steps) base at g =
    until_last (slice_get g.nodes at) g (λ node. copied_from steps base (at + 1) (arguments_copied base at node g))

-- a copy of a type
abbrev pub copied : (n : ℕ) → Graph → Copied
copied n g =
    let base = length g.nodes in
    let c = forwarded base n g in
    copy_is c.copy (copied_from (33554432 - base) base base c.types)
