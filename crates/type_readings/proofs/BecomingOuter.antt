-- What stays of types where types become outer, and that these are outer then.
use Rattle.std.proofs.Common.{◌≡◌, ℕ, zero, suc, ◌+◌, ◌*◌, ◌≤◌, ◌<◌, inl, inr, List, [], ◌∷◌, ◌++◌, length, reverse, true, false, Bool, refl, sym, ◌∙◌, ap, subst, arith, ⊎_elim, slice_index_or, if◌then◌else◌}
use Rattle.std.specs.List.{AllByRecursion, sum_by}
use Rattle.std.proofs.lemmas.List.{get_or-set_same, length-append, length-reverse}
use Rattle.std.proofs.lemmas.List.Sums.{sum_by-le, sum_by-set}
use Rattle.std.proofs.Math.Nat.{mul-le-mul}
use Rattle.type_graph.specs.declared.types.Node.{Node}
use Rattle.type_graph.specs.Graph.{Graph, unknown, node_at, root, form_of, is_variable, link_of, followed, behind, arguments_of, set_node}
use Rattle.type_graph.specs.Outer.{outer, Outward, outward, made_outer, item_ended}
use Rattle.type_readings.specs.WellFormed.{AreNumbers, IsOuter, IsOuterOr, IsWellFormed}
use Rattle.type_readings.specs.OuterLaws.{IsFixed, OuterKeepsFixed, EndKeepsFixed, OuterKeepsOuter, OuterIsOuterStill, TheyBecomeOuter, EndMakesOuter, OuterKeepsNumbers, EndKeepsNumbers}
use Rattle.type_readings.proofs.Lists.{each_appended, each_parted, each_reversed}
use Rattle.type_readings.proofs.Rows.{root_is_number}
use Rattle.type_readings.proofs.Behind.{if_either}
use Rattle.type_readings.proofs.Steps.{numbers_of_form, arguments_not_more}
use Rattle.type_readings.proofs.Alike.{alike_set, node_set, well_outer, outer_keeps}
use Rattle.type_readings.proofs.Forwarding.{behind_same}

-- the same graph, but that more types may be outer
record Raised (g h : Graph) : Type 0 where
  long : length h.nodes ≡ length g.nodes
  arguments : h.arguments ≡ g.arguments
  given : h.given ≡ g.given
  forms : (q : ℕ) → (node_at h.nodes q).form ≡ (node_at g.nodes q).form
  outers : (q : ℕ) → (node_at g.nodes q).is_outer ≡ true → (node_at h.nodes q).is_outer ≡ true

raised_itself : (g : Graph) → Raised g g
raised_itself g = record { long = refl; arguments = refl; given = refl; forms = λ q. refl; outers = λ q is. is }

raised_set : (g h : Graph) (r : ℕ) → Raised g h → Raised g (set_node r (outer (node_at h.nodes r)) h)
raised_set g h r x =
    let y = outer (node_at h.nodes r) in
    let alike = alike_set h.nodes r y refl refl in
    record {
      long = alike.long ∙ x.long;
      arguments = x.arguments;
      given = x.given;
      forms = λ q. alike.forms q ∙ x.forms q;
      outers = λ q is. node_set (λ (z : Node). z.is_outer ≡ true) h.nodes r y q (λ e. refl) (x.outers q is);
    }

raised : (steps : ℕ) (ns : List ℕ) (g : Graph) → Raised g (made_outer steps ns g)
raised steps ns g = outer_keeps (Raised g) (λ h r x. raised_set g h r x) steps ns g (raised_itself g)

module _ (g h : Graph) (x : Raised g h) where
  followed_raised : (k n : ℕ) → followed k h.nodes n ≡ followed k g.nodes n
  unfolding followed
  followed_raised zero n = refl
  followed_raised (suc k) n =
      ap (λ a. behind (link_of a) n (followed k h.nodes)) (x.forms n)
      ∙ behind_same (link_of (node_at g.nodes n).form) n (followed k h.nodes) (followed k g.nodes) (λ m e. followed_raised k m)

  root_raised : (n : ℕ) → root h.nodes n ≡ root g.nodes n
  root_raised n = followed_raised 32 n

  outer_raised : (n : ℕ) → IsOuter g n → IsOuter h n
  outer_raised n is = ap (λ k. (node_at h.nodes k).is_outer) (root_raised n) ∙ x.outers (root g.nodes n) is

  fixed_raised : (n : ℕ) → IsFixed g n → IsFixed h n
  fixed_raised n is =
      let form : form_of h.nodes n ≡ form_of g.nodes n =
      ap (λ k. (node_at h.nodes k).form) (root_raised n) ∙ x.forms (root g.nodes n) in
      (outer_raised n is.0, ap is_variable form ∙ is.1)

  or_raised : (ps : List ℕ) (n : ℕ) → IsOuterOr g ps n → IsOuterOr h ps n
  or_raised [] n is = outer_raised n is
  or_raised (p ∷ ps) n is = ⊎_elim (λ e. inl (root_raised p ∙ e ∙ sym (root_raised n))) (λ e. inr (or_raised ps n e)) is

  -- what is outer, or of one root with what is outer by then, is outer
  or_met : (ps : List ℕ) (n : ℕ) → AllByRecursion (IsOuter h) ps → IsOuterOr g ps n → IsOuter h n
  or_met [] n all is = outer_raised n is
  or_met (p ∷ ps) n all is =
      ⊎_elim
      (λ e. ap (λ k. (node_at h.nodes k).is_outer) (root_raised n ∙ sym e ∙ sym (root_raised p)) ∙ all.0)
      (λ e. or_met ps n all.1 e)
      is

pub outer_is_outer_still_law : OuterIsOuterStill
outer_is_outer_still_law steps ns g n is = outer_raised g (made_outer steps ns g) (raised steps ns g) n is

pub outer_keeps_fixed_law : OuterKeepsFixed
outer_keeps_fixed_law steps ns g n lt is = fixed_raised g (made_outer steps ns g) (raised steps ns g) n is

pub outer_keeps_outer_law : OuterKeepsOuter
outer_keeps_outer_law steps ns g n lt is =
    let h = made_outer steps ns g in
    let x = raised steps ns g in
    subst (λ (ps : List ℕ). IsOuterOr h ps n) (sym x.given) (or_raised g h x g.given n is)

pub outer_keeps_numbers_law : OuterKeepsNumbers
outer_keeps_numbers_law steps ns g = let x = raised steps ns g in (x.long, x.arguments)

-- the graph at the end of an item, before anything becomes outer
abbrev ungiven : Graph → Graph
ungiven g = record { nodes = g.nodes; arguments = g.arguments; given = [] }

ended : (g : Graph) → Raised (ungiven g) (item_ended g)
ended g = raised 18446744073709551615 g.given (ungiven g)

pub end_keeps_fixed_law : EndKeepsFixed
end_keeps_fixed_law g n lt is = fixed_raised (ungiven g) (item_ended g) (ended g) n is

pub end_keeps_numbers_law : EndKeepsNumbers
end_keeps_numbers_law g = let x = ended g in ((x.long, x.arguments), x.given)

-- how many steps a node can take: none when it is outer
abbrev steps_at : ℕ → Node → ℕ
steps_at most node = if node.is_outer then 0 else most

steps_inner : (most : ℕ) (node : Node) → node.is_outer ≡ false → steps_at most node ≡ most
steps_inner most node e = rw e refl

steps_bounded : (most : ℕ) (b : Bool) → (if b then 0 else most) ≤ most
steps_bounded most true = omega arith
steps_bounded most false = omega arith

all_steps_bounded : (most : ℕ) (nodes : List Node) → sum_by (steps_at most) nodes ≤ length nodes * most
all_steps_bounded most nodes =
    sum_by-le (steps_at most) most nodes (λ q d p. steps_bounded most (slice_index_or nodes q d).is_outer)

reversed_long : (xs : List ℕ) → length (reverse xs) ≡ length xs
reversed_long xs = simp length-reverse

-- a root becomes outer, and its arguments are to become so
module _ (g : Graph) (n : ℕ) (ns : List ℕ) (well : IsWellFormed g) (numbers : AreNumbers (length g.nodes) (n ∷ ns)) where
  abbrev at_root : ℕ
  at_root = root g.nodes n

  abbrev its_node : Node
  its_node = node_at g.nodes at_root

  abbrev behind_it : Graph
  behind_it = set_node at_root (outer its_node) g

  abbrev parts : List ℕ
  parts = reverse (arguments_of g.arguments its_node.form)

  is_there : at_root < length g.nodes
  is_there = root_is_number g well n numbers.0

  raised_it : Raised g behind_it
  raised_it = raised_set g g at_root (raised_itself g)

  outer_now : IsOuter behind_it n
  outer_now =
      ap (λ q. (node_at behind_it.nodes q).is_outer) (root_raised g behind_it raised_it n)
      ∙ ap (λ (z : Node). z.is_outer) (get_or-set_same g.nodes at_root (outer its_node) unknown is_there)

  numbers_on : AreNumbers (length behind_it.nodes) (parts ++ ns)
  numbers_on =
      let P : ℕ → Type 0 = λ m. m < length g.nodes in
      subst (λ q. AreNumbers q (parts ++ ns)) (sym raised_it.long)
      (each_appended P parts ns
      (each_reversed P (arguments_of g.arguments its_node.form) (numbers_of_form (length g.nodes) g.arguments its_node.form well.numbers))
      numbers.1)

  fewer_steps :
      its_node.is_outer ≡ false
      → sum_by (steps_at (length g.arguments)) behind_it.nodes + length (parts ++ ns) ≤ sum_by (steps_at (length g.arguments)) g.nodes + length ns
  fewer_steps is =
      let w = steps_at (length g.arguments) in
      let sum = sum_by-set w g.nodes at_root (outer its_node) unknown is_there in
      let old = steps_inner (length g.arguments) its_node is in
      let few = arguments_not_more g.arguments its_node.form in
      let long = length-append parts ns in
      let turned = reversed_long (arguments_of g.arguments its_node.form) in
      omega arith

become :
    (steps : ℕ) (ns : List ℕ) (g : Graph) → IsWellFormed g → AreNumbers (length g.nodes) ns
    → sum_by (steps_at (length g.arguments)) g.nodes + length ns ≤ steps → AllByRecursion (IsOuter (made_outer steps ns g)) ns
unfolding made_outer
become steps [] g well numbers le = tt
become zero (n ∷ ns) g well numbers le = absurd (omega arith)
become (suc steps) (n ∷ ns) g well numbers le =
    let node = its_node g n ns well numbers in
    let qs = parts g n ns well numbers in
    let h = behind_it g n ns well numbers in
    if_either (λ (s : Outward). AllByRecursion (IsOuter (made_outer steps s.pending s.types)) (n ∷ ns)) node.is_outer (outward ns g)
    (outward (qs ++ ns) h)
    (λ e. (outer_is_outer_still_law steps ns g n e, become steps ns g well numbers.1 (omega arith)))
    (λ e.
    let fewer = fewer_steps g n ns well numbers e in
    let rest = become steps (qs ++ ns) h (well_outer g (root g.nodes n) well) (numbers_on g n ns well numbers) (omega arith) in (
      outer_is_outer_still_law steps (qs ++ ns) h n (outer_now g n ns well numbers),
      (each_parted (IsOuter (made_outer steps (qs ++ ns) h)) qs ns rest).1,
    ))

-- there are steps enough
pub they_become_outer_law : TheyBecomeOuter
they_become_outer_law ns g well numbers few =
    let bound = all_steps_bounded (length g.arguments) g.nodes in
    let product : length g.nodes * length g.arguments ≤ 33554432 * 67108864 = mul-le-mul well.room well.argument_room in
    become 18446744073709551615 ns g well numbers (omega arith)

well_ungiven : (g : Graph) → IsWellFormed g → IsWellFormed (ungiven g)
well_ungiven g well = record {
  room = well.room;
  argument_room = well.argument_room;
  names = well.names;
  numbers = well.numbers;
  ends = well.ends;
  weighs = well.weighs;
}

or_ungiven : (g : Graph) (ps : List ℕ) (n : ℕ) → IsOuterOr g ps n → IsOuterOr (ungiven g) ps n
or_ungiven g [] n is = is
or_ungiven g (p ∷ ps) n is = ⊎_elim (λ e. inl e) (λ e. inr (or_ungiven g ps n e)) is

pub end_makes_outer_law : EndMakesOuter
end_makes_outer_law g well n is numbers few =
    or_met (ungiven g) (item_ended g) (ended g) g.given n
    (they_become_outer_law g.given (ungiven g) (well_ungiven g well) numbers few)
    (or_ungiven g g.given n is)
