-- Where types become outer, the arguments of outer types are outer, or given; at the end of an item they are outer.
use Rattle.std.proofs.Common.{◌≡◌, ℕ, zero, suc, ◌+◌, ◌*◌, ◌≤◌, ◌<◌, inl, inr, slice_index_or, List, [], ◌∷◌, ◌++◌, length, reverse, true, false, Bool, refl, sym, ◌∙◌, ap, subst, arith, ⊎_elim, if◌then◌else◌, append_assoc}
use Rattle.std.specs.List.{AllByRecursion, sum_by}
use Rattle.std.proofs.lemmas.Bool.Decides.{eqb_tells}
use Rattle.std.proofs.lemmas.List.{append-nil, get_or-set_same, get_or-set_other, length-append, length-reverse, length-set}
use Rattle.std.proofs.Math.Nat.{mul-le-mul}
use Rattle.std.proofs.lemmas.List.Sums.{count_by-le-length, sum_by-le, sum_by-set}
use Rattle.type_graph.specs.declared.types.Node.{Node}
use Rattle.type_graph.specs.Graph.{Graph, unknown, node_at, root, form_of, link_of, followed, behind, arguments_of, set_node}
use Rattle.type_graph.specs.Outer.{outer, Outward, outward, made_outer}
use Rattle.type_readings.specs.WellFormed.{AreNumbers, IsOuter, IsOuterOr, is_link, link_count, IsWellFormed}
use Rattle.type_readings.specs.Laws.{OuterKeepsCopyable, EndIsCopyable, OuterKeepsGiving}
use Rattle.type_readings.proofs.Lists.{each_so, each_appended, each_parted, each_reversed, each_turned_back}
use Rattle.type_readings.proofs.Rows.{root_is_number}
use Rattle.type_readings.proofs.Steps.{numbers_of_form, arguments_not_more}
use Rattle.type_readings.proofs.OuterOr.{OuterArgumentsOr, or_outer, or_more, all_themselves, or_among}
use Rattle.type_readings.proofs.Alike.{Alike, alike_set, node_set, sum_set, well_outer, outer_keeps}
use Rattle.type_readings.proofs.Behind.{if_either}
use Rattle.type_readings.proofs.Forwarding.{behind_same}

followed_alike : (nodes new : List Node) → Alike nodes new → (k n : ℕ) → followed k new n ≡ followed k nodes n
unfolding followed
followed_alike nodes new alike zero n = refl
followed_alike nodes new alike (suc k) n =
    ap (λ a. behind (link_of a) n (followed k new)) (alike.forms n)
    ∙ behind_same (link_of (node_at nodes n).form) n (followed k new) (followed k nodes) (λ m e. followed_alike nodes new alike k m)

-- how many steps a node can take: none when it is outer
abbrev steps_at : ℕ → Node → ℕ
steps_at most node = if node.is_outer then 0 else most

steps_inner : (most : ℕ) (node : Node) → node.is_outer ≡ false → steps_at most node ≡ most
steps_inner most node e = rw e refl

steps_bounded : (most : ℕ) (b : Bool) → (if b then 0 else most) ≤ most
steps_bounded most true = omega arith
steps_bounded most false = omega arith

all_steps_bounded : (most : ℕ) (nodes : List Node) → sum_by (steps_at most) nodes ≤ length nodes * most
all_steps_bounded most nodes =
    sum_by-le (steps_at most) most nodes (λ q d p. steps_bounded most (slice_index_or nodes q d).is_outer)

-- what is known while types become outer, where others are given still
record Giving (given : List ℕ) (g : Graph) (ns : List ℕ) : Type 0 where
  well : IsWellFormed g
  numbers : AreNumbers (length g.nodes) ns
  before : (n : ℕ) → n < length g.nodes → (node_at g.nodes n).copy < length g.nodes
  arguments_or : OuterArgumentsOr g (ns ++ given)

reversed_long : (xs : List ℕ) → length (reverse xs) ≡ length xs
reversed_long xs = simp length-reverse

-- a root becomes outer, and its arguments are to become so
module _ (given : List ℕ) (g : Graph) (n : ℕ) (ns : List ℕ) (k : Giving given g (n ∷ ns)) where
  abbrev at_root : ℕ
  at_root = root g.nodes n

  abbrev its_node : Node
  its_node = node_at g.nodes at_root

  abbrev behind_it : Graph
  behind_it = set_node at_root (outer its_node) g

  is_there : at_root < length g.nodes
  is_there = root_is_number g k.well n k.numbers.0

  alike_it : Alike g.nodes behind_it.nodes
  alike_it = alike_set g.nodes at_root (outer its_node) refl refl

  root_it : (m : ℕ) → root behind_it.nodes m ≡ root g.nodes m
  root_it m = followed_alike g.nodes behind_it.nodes alike_it 32 m

  outer_kept : (m : ℕ) → IsOuter g m → IsOuter behind_it m
  outer_kept m is =
      ap (λ q. (node_at behind_it.nodes q).is_outer) (root_it m)
      ∙ node_set (λ (z : Node). z.is_outer ≡ true) g.nodes at_root (outer its_node) (root g.nodes m) (λ e. refl) is

  outer_now : (m : ℕ) → root g.nodes m ≡ at_root → IsOuter behind_it m
  outer_now m e =
      ap (λ q. (node_at behind_it.nodes q).is_outer) (root_it m ∙ e)
      ∙ ap (λ (z : Node). z.is_outer) (get_or-set_same g.nodes at_root (outer its_node) unknown is_there)

  or_kept : (ps : List ℕ) (m : ℕ) → IsOuterOr g ps m → IsOuterOr behind_it ps m
  or_kept [] m is = outer_kept m is
  or_kept (p ∷ ps) m is = ⊎_elim (λ e. inl (root_it p ∙ e ∙ sym (root_it m))) (λ e. inr (or_kept ps m e)) is

  abbrev its_arguments : List ℕ
  its_arguments = arguments_of g.arguments its_node.form

  abbrev parts : List ℕ
  parts = reverse its_arguments

  -- what is to be outer or is given, then and now
  abbrev earlier : List ℕ
  earlier = n ∷ (ns ++ given)

  abbrev later : List ℕ
  later = parts ++ (ns ++ given)

  or_now : (m : ℕ) → IsOuterOr g earlier m → IsOuterOr behind_it later m
  or_now m is =
      or_more behind_it parts (ns ++ given) m
      (⊎_elim (λ e. or_outer behind_it (ns ++ given) m (outer_now m (sym e))) (λ e. or_kept (ns ++ given) m e) is)

  form_it : (m : ℕ) → form_of behind_it.nodes m ≡ form_of g.nodes m
  form_it m = ap (λ q. (node_at behind_it.nodes q).form) (root_it m) ∙ alike_it.forms (root g.nodes m)

  -- its arguments are among what is to become outer
  parts_or : AllByRecursion (IsOuterOr behind_it later) its_arguments
  parts_or =
      each_turned_back (IsOuterOr behind_it later) its_arguments
      (each_parted (IsOuterOr behind_it later) parts (ns ++ given) (all_themselves behind_it later)).0

  or_on : OuterArgumentsOr behind_it later
  or_on m is =
      subst (λ a. AllByRecursion (IsOuterOr behind_it later) (arguments_of g.arguments a)) (sym (form_it m))
      (⊎_elim
      (λ p.
      subst (λ q. AllByRecursion (IsOuterOr behind_it later) (arguments_of g.arguments (node_at g.nodes q).form)) (sym p.1)
      parts_or)
      (λ p.
      let same = get_or-set_other g.nodes at_root (root g.nodes m) (outer its_node) unknown p.1 in
      let was : IsOuter g m =
      ap (λ (z : Node). z.is_outer) (sym same) ∙ ap (λ q. (node_at behind_it.nodes q).is_outer) (sym (root_it m)) ∙ is in
      each_so (IsOuterOr g earlier) (IsOuterOr behind_it later) (arguments_of g.arguments (form_of g.nodes m))
      or_now (k.arguments_or m was))
      (eqb_tells (root g.nodes m) at_root))

  giving_on : Giving given behind_it (parts ++ ns)
  giving_on = record {
    well = well_outer g at_root k.well;
    numbers =
        subst (λ q. AreNumbers q (parts ++ ns)) (sym alike_it.long)
        (each_appended (λ m. m < length g.nodes) parts ns
        (each_reversed (λ m. m < length g.nodes) its_arguments
        (numbers_of_form (length g.nodes) g.arguments its_node.form k.well.numbers))
        k.numbers.1);
    before =
        λ m lt.
        let long = alike_it.long in
        let less : m < length g.nodes = omega arith in
        let old = k.before m less in
        let at = k.before at_root is_there in
        node_set (λ (z : Node). z.copy < length behind_it.nodes) g.nodes at_root (outer its_node) m (λ e. omega arith) (omega arith);
    arguments_or = subst (OuterArgumentsOr behind_it) (sym (append_assoc parts ns given)) or_on;
  }

  or_dropped : its_node.is_outer ≡ true → (m : ℕ) → IsOuterOr g earlier m → IsOuterOr g (ns ++ given) m
  or_dropped is m x =
      ⊎_elim (λ e. or_outer g (ns ++ given) m (ap (λ q. (node_at g.nodes q).is_outer) (sym e) ∙ is)) (λ e. e) x

  giving_dropped : its_node.is_outer ≡ true → Giving given g ns
  giving_dropped is = record {
    well = k.well;
    numbers = k.numbers.1;
    before = k.before;
    arguments_or =
        λ m o.
        each_so (IsOuterOr g earlier) (IsOuterOr g (ns ++ given)) (arguments_of g.arguments (form_of g.nodes m)) (or_dropped is)
        (k.arguments_or m o);
  }

  fewer_steps :
      its_node.is_outer ≡ false
      → sum_by (steps_at (length g.arguments)) behind_it.nodes + length (parts ++ ns) ≤ sum_by (steps_at (length g.arguments)) g.nodes + length ns
  fewer_steps is =
      let w = steps_at (length g.arguments) in
      let sum = sum_by-set w g.nodes at_root (outer its_node) unknown is_there in
      let old = steps_inner (length g.arguments) its_node is in
      let few = arguments_not_more g.arguments its_node.form in
      let long = length-append parts ns in
      let turned = reversed_long its_arguments in
      omega arith

outer_closes :
    (given : List ℕ) (steps : ℕ) (ns : List ℕ) (g : Graph) → Giving given g ns
    → sum_by (steps_at (length g.arguments)) g.nodes + length ns ≤ steps → Giving given (made_outer steps ns g) []
unfolding made_outer
outer_closes given steps [] g k le = k
outer_closes given zero (n ∷ ns) g k le = absurd (omega arith)
outer_closes given (suc steps) (n ∷ ns) g k le =
    let node = its_node given g n ns k in
    if_either (λ (s : Outward). Giving given (made_outer steps s.pending s.types) []) node.is_outer (outward ns g)
    (outward (parts given g n ns k ++ ns) (behind_it given g n ns k))
    (λ e. outer_closes given steps ns g (giving_dropped given g n ns k e) (omega arith))
    (λ e.
    let fewer = fewer_steps given g n ns k e in
    outer_closes given steps (parts given g n ns k ++ ns) (behind_it given g n ns k) (giving_on given g n ns k) (omega arith))

-- there are steps enough
closed_at_end :
    (given ns : List ℕ) (g : Graph) → Giving given g ns → length ns ≤ 33554432
    → Giving given (made_outer 18446744073709551615 ns g) []
closed_at_end given ns g giving few =
    let bound = all_steps_bounded (length g.arguments) g.nodes in
    let room = giving.well.room in
    let more = giving.well.argument_room in
    let product : length g.nodes * length g.arguments ≤ 33554432 * 67108864 = mul-le-mul room more in
    outer_closes given 18446744073709551615 ns g giving (omega arith)

pub outer_keeps_copyable_law : OuterKeepsCopyable
outer_keeps_copyable_law ns g well copyable numbers few =
    let giving : Giving [] g ns = record {
      well = well;
      numbers = numbers;
      before = copyable.copies_before;
      arguments_or = or_among g ns [] copyable.outer_arguments;
    } in
    let k = closed_at_end [] ns g giving few in
    record { copies_before = k.before; outer_arguments = k.arguments_or }

-- what the item gave stays given
given_still : (steps : ℕ) (ns : List ℕ) (g : Graph) → (made_outer steps ns g).given ≡ g.given
given_still steps ns g = outer_keeps (λ h. h.given ≡ g.given) (λ h r same. same) steps ns g refl

links_still : (steps : ℕ) (ns : List ℕ) (g : Graph) → link_count (made_outer steps ns g).nodes ≡ link_count g.nodes
links_still steps ns g =
    outer_keeps (λ h. link_count h.nodes ≡ link_count g.nodes)
    (λ h r same. sum_set (λ (z : Node). if is_link z.form then 1 else 0) h.nodes r (outer (node_at h.nodes r)) refl ∙ same)
    steps ns g refl

long_still : (steps : ℕ) (ns : List ℕ) (g : Graph) → length (made_outer steps ns g).nodes ≡ length g.nodes
long_still steps ns g =
    outer_keeps (λ h. length h.nodes ≡ length g.nodes) (λ h r same. length-set h.nodes r (outer (node_at h.nodes r)) ∙ same)
    steps ns g refl

pub outer_keeps_giving_law : OuterKeepsGiving
outer_keeps_giving_law ns g well giving numbers few =
    let h = made_outer 18446744073709551615 ns g in
    let start : Giving g.given g ns = record {
      well = well;
      numbers = numbers;
      before = giving.copies_before;
      arguments_or = or_among g ns g.given giving.arguments_or_given;
    } in
    let k = closed_at_end g.given ns g start few in
    let long = long_still 18446744073709551615 ns g in
    let given = given_still 18446744073709551615 ns g in
    let links = links_still 18446744073709551615 ns g in
    record {
      given_numbers =
          subst (λ n. AreNumbers n h.given) (sym long) (subst (AreNumbers (length g.nodes)) (sym given) giving.given_numbers);
      copies_before = k.before;
      arguments_or_given = subst (OuterArgumentsOr h) (sym given) k.arguments_or;
      given_few = let before = giving.given_few in let same : length h.given ≡ length g.given = ap length given in omega arith;
    }

pub end_is_copyable_law : EndIsCopyable
end_is_copyable_law g well giving =
    let linked = count_by-le-length (λ (z : Node). is_link z.form) g.nodes in
    let room = well.room in
    let few = giving.given_few in
    let others : Graph = record { nodes = g.nodes; arguments = g.arguments; given = [] } in
    let start : Giving [] others g.given = record {
      well = record {
        room = well.room;
        argument_room = well.argument_room;
        names = well.names;
        numbers = well.numbers;
        ends = well.ends;
        weighs = well.weighs;
      };
      numbers = giving.given_numbers;
      before = giving.copies_before;
      arguments_or = subst (OuterArgumentsOr others) (sym (append-nil g.given)) giving.arguments_or_given;
    } in
    let k = closed_at_end [] g.given others start (omega arith) in
    record { copies_before = k.before; outer_arguments = k.arguments_or }
