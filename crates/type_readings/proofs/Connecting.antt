-- While pairs are made equal, the arguments of outer types are connected to what is outer or given.
use Rattle.std.proofs.Common.{◌≡◌, ℕ, suc, ◌≤◌, ◌<◌, ◌⊎◌, inl, inr, List, [], ◌∷◌, length, reverse, zip, None, Bool, true, false, not, ◌&&◌, ◌||◌, refl, sym, ◌∙◌, ap, subst, arith, ⊎_elim, if◌then◌else◌}
use Rattle.std.specs.Prelude.{◌↔◌}
use Rattle.std.specs.List.{AllByRecursion}
use Rattle.std.proofs.lemmas.Bool.Decides.{eqb_tells}
use Rattle.type_graph.specs.declared.form.Form.{Form}
use Rattle.type_graph.specs.declared.form.Form.TheVariants.{Variable, Link, Applied}
use Rattle.type_graph.specs.declared.types.Node.{Node}
use Rattle.type_graph.specs.Graph.{Graph, node_at, root, form_of, link_of, is_variable, arguments_of}
use Rattle.type_graph.specs.Unified.{clash, merged, merged_outer, is_given, argument_pairs, Unified, unified}
use Rattle.type_readings.specs.WellFormed.{NamesWhatIsThere, AreNumbers, IsOuter, IsOuterOr, link_count, IsGiving}
use Rattle.type_readings.specs.Laws.{UnifyKeepsGiving, FixedStay}
use Rattle.type_readings.proofs.Lists.{each_so, each_parted, each_turned_back, length_of_part}
use Rattle.type_readings.proofs.Forms.{one_form, no_clash}
use Rattle.type_readings.proofs.Rows.{root_is_root}
use Rattle.type_readings.proofs.Joining.{root_node, links_and_roots, at_each_root}
use Rattle.type_readings.proofs.Keeping.{Join, unify_keeps}
use Rattle.type_readings.proofs.OuterOr.{or_outer, or_same_root, all_themselves}

-- both or none of each pair
abbrev InPairs : (ℕ → Type 0) → List (ℕ × ℕ) → Type 0
InPairs S ps = AllByRecursion (λ p. S p.0 ↔ S p.1) ps

-- a set of types that holds what is outer or given, and with a type all that is equal to it, or is to be made so
record Holding (S : ℕ → Type 0) (ps : List (ℕ × ℕ)) (g : Graph) : Type 0 where
  outer : (n : ℕ) → IsOuter g n → S n
  given : AllByRecursion S g.given
  roots : (m n : ℕ) → root g.nodes m ≡ root g.nodes n → S m → S n
  in_pairs : InPairs S ps

-- each such set holds the arguments of outer types
abbrev Connected : List (ℕ × ℕ) → Graph → Type 1
Connected ps g =
    (S : ℕ → Type 0) → Holding S ps g → (n : ℕ) → IsOuter g n → AllByRecursion S (arguments_of g.arguments (form_of g.nodes n))

-- what else holds in the midst of an item
record Bounded (g : Graph) : Type 0 where
  given_numbers : AreNumbers (length g.nodes) g.given
  copies_before : (n : ℕ) → n < length g.nodes → (node_at g.nodes n).copy < length g.nodes
  given_few : length g.given ≤ link_count g.nodes

-- what is kept while pairs are left
record Keeps (ps : List (ℕ × ℕ)) (g : Graph) : Type 1 where
  connected : Connected ps g
  bounded : Bounded g

-- it holds at first, whatever the pairs, where the arguments of outer types are outer or given
connected_or :
    (S : ℕ → Type 0) (ps : List (ℕ × ℕ)) (g : Graph) → Holding S ps g → (given : List ℕ) → AllByRecursion S given → (m : ℕ)
    → IsOuterOr g given m → S m
connected_or S ps g holding [] all m is = holding.outer m is
connected_or S ps g holding (q ∷ qs) all m is =
    ⊎_elim (λ e. holding.roots q m e all.0) (λ e. connected_or S ps g holding qs all.1 m e) is

keeps_at_first : (ps : List (ℕ × ℕ)) (g : Graph) → IsGiving g → Keeps ps g
keeps_at_first ps g giving = record {
  connected =
      λ S holding n is.
      each_so (IsOuterOr g g.given) S (arguments_of g.arguments (form_of g.nodes n))
      (connected_or S ps g holding g.given holding.given) (giving.arguments_or_given n is);
  bounded = record { given_numbers = giving.given_numbers; copies_before = giving.copies_before; given_few = giving.given_few };
}

-- and where no pair is left they are so again
giving_at_last : (g : Graph) → Keeps [] g → IsGiving g
giving_at_last g keeps = record {
  given_numbers = keeps.bounded.given_numbers;
  copies_before = keeps.bounded.copies_before;
  arguments_or_given =
      keeps.connected (IsOuterOr g g.given)
      (record {
        outer = or_outer g g.given;
        given = all_themselves g g.given;
        roots = or_same_root g g.given;
        in_pairs = tt;
      });
  given_few = keeps.bounded.given_few;
}

-- what is in pairs with a list's elements, in as many places
each_paired :
    (S : ℕ → Type 0) (xs ys : List ℕ) → length xs ≡ length ys → InPairs S (zip xs ys) → AllByRecursion S ys → AllByRecursion S xs
each_paired S [] ys long both all = tt
each_paired S (x ∷ xs) [] long both all = absurd (omega arith)
each_paired S (x ∷ xs) (y ∷ ys) long both all =
    let shorter : length xs ≡ length ys = omega arith in (both.0.1 all.0, each_paired S xs ys shorter both.1 all.1)

either_is : (o p : Bool) → (o || p) ≡ true → (o ≡ true) ⊎ (p ≡ true)
either_is true p e = inl refl
either_is false p e = inr e

-- whether what two nodes become is outer, where they are variables or not
abbrev outer_of : (v w o p : Bool) → Bool
outer_of v w o p = if v && not w then p else if not v && w then o else o || p

-- a set that holds the arguments of each that is outer, and both or none of each pair, holds those of the one that they become
module _ (S : ℕ → Type 0) (arguments : List ℕ) (types : ℕ) where
  parts_of_one :
      (a b : Form) (o p : Bool) → link_of a ≡ None → link_of b ≡ None → clash a b ≡ false
      → NamesWhatIsThere types (length arguments) a → NamesWhatIsThere types (length arguments) b
      → InPairs S (zip (arguments_of arguments a) (arguments_of arguments b))
      → (o ≡ true → AllByRecursion S (arguments_of arguments a)) → (p ≡ true → AllByRecursion S (arguments_of arguments b))
      → outer_of (is_variable a) (is_variable b) o p ≡ true → AllByRecursion S (arguments_of arguments (one_form a b))
  parts_of_one Variable Variable o p ra rb e ha hb both left right is = tt
  parts_of_one Variable (Link m) o p ra rb e ha hb both left right is = absurd (cc)
  parts_of_one Variable (Applied d second many) o p ra rb e ha hb both left right is = right is
  parts_of_one (Link m) b o p ra rb e ha hb both left right is = absurd (cc)
  parts_of_one (Applied c first count) Variable o p ra rb e ha hb both left right is = left is
  parts_of_one (Applied c first count) (Link m) o p ra rb e ha hb both left right is = absurd (cc)
  parts_of_one (Applied c first count) (Applied d second many) o p ra rb e ha hb both left right is =
      let same = no_clash c d count many e in
      let long = length_of_part arguments first count ha ∙ same.1 ∙ sym (length_of_part arguments second many hb) in
      ⊎_elim left
      (λ q.
      each_paired S (arguments_of arguments (Applied c first count)) (arguments_of arguments (Applied d second many)) long both
      (right q))
      (either_is o p is)

-- what holds of each element, with one before them or without
each_without :
    (S : ℕ → Type 0) (is : Bool) (x : ℕ) (xs : List ℕ) → AllByRecursion S (if is then x ∷ xs else xs) → AllByRecursion S xs
each_without S true x xs all = all.1
each_without S false x xs all = all

each_with :
    (S : ℕ → Type 0) (is : Bool) (x : ℕ) (xs : List ℕ) → S x → AllByRecursion S xs
    → AllByRecursion S (if is then x ∷ xs else xs)
each_with S true x xs one all = (one, all)
each_with S false x xs one all = all

one_more : (is : Bool) (x : ℕ) (xs : List ℕ) → length (if is then x ∷ xs else xs) ≤ suc (length xs)
one_more true x xs = omega arith
one_more false x xs = omega arith

-- what is outer in the one or the other of two nodes stays so, or is given
outer_or_given : (o p is : Bool) → (o ≡ true) ⊎ (p ≡ true) → (is ≡ true) ⊎ (((o || p) && not is) ≡ true)
outer_or_given o p true e = inl refl
outer_or_given true p false e = inr refl
outer_or_given false true false e = inr refl
outer_or_given false false false e = ⊎_elim (λ q. absurd (cc)) (λ q. absurd (cc)) e

-- two roots become one
module _
    (p : ℕ × ℕ) (ps : List (ℕ × ℕ)) (g h : Graph) (join : Join (root g.nodes p.0) (root g.nodes p.1) g h) where
  abbrev x : Node
  x = root_node g p.0

  abbrev y : Node
  y = root_node g p.1

  abbrev zs : List (ℕ × ℕ)
  zs = zip (arguments_of g.arguments x.form) (arguments_of g.arguments y.form)

  abbrev new : List (ℕ × ℕ)
  new = reverse zs

  abbrev next : List (ℕ × ℕ)
  next = argument_pairs g x.form y.form ps

  module _ (S : ℕ → Type 0) (holding : Holding S next h) where
    kept_held : (x.is_outer ≡ true) ⊎ (y.is_outer ≡ true) → S join.one.kept
    kept_held is =
        let kept = join.one.kept in
        ⊎_elim
        (λ e.
        holding.outer kept
        (ap (λ q. (node_at h.nodes q).is_outer) join.one.root_kept ∙ ap (λ (z : Node). z.is_outer) join.one.at_kept ∙ e))
        (λ e.
        let all : AllByRecursion S (kept ∷ g.given) =
        subst (AllByRecursion S) (join.one.given ∙ ap (λ (t : Bool). if t then kept ∷ g.given else g.given) e) holding.given in
        all.0)
        (outer_or_given x.is_outer y.is_outer (merged_outer x y) is)

    held_before : Holding S (p ∷ ps) g
    held_before =
        let one = join.one in
        let a = root g.nodes p.0 in
        let b = root g.nodes p.1 in
        let together : root h.nodes p.0 ≡ root h.nodes p.1 =
        one.root_either p.0 (inl refl) ∙ sym (one.root_either p.1 (inr refl)) in
        let held : (n : ℕ) → (root g.nodes n ≡ a) ⊎ (root g.nodes n ≡ b) → (x.is_outer ≡ true) ⊎ (y.is_outer ≡ true) → S n =
        λ n at is. holding.roots one.kept n (one.root_kept ∙ sym (one.root_either n at)) (kept_held is) in
        record {
          outer =
              λ n is.
              ⊎_elim
              (λ e. held n (inl e.1) (inl (ap (λ q. (node_at g.nodes q).is_outer) (sym e.1) ∙ is)))
              (λ e.
              ⊎_elim
              (λ q. held n (inr q.1) (inr (ap (λ r. (node_at g.nodes r).is_outer) (sym q.1) ∙ is)))
              (λ q. holding.outer n (ap (λ (z : Node). z.is_outer) (one.elsewhere n e.1 q.1) ∙ is))
              (eqb_tells (root g.nodes n) b))
              (eqb_tells (root g.nodes n) a);
          given =
              each_without S (is_given x y) one.kept g.given (subst (AllByRecursion S) one.given holding.given);
          roots = λ m n e. holding.roots m n (one.same_roots m n e);
          in_pairs = (
            (λ s. holding.roots p.0 p.1 together s, λ s. holding.roots p.1 p.0 (sym together) s),
            (each_parted (λ q. S q.0 ↔ S q.1) new ps holding.in_pairs).1,
          );
        }

    arguments_held : Connected (p ∷ ps) g → (n : ℕ) → IsOuter h n → AllByRecursion S (arguments_of h.arguments (form_of h.nodes n))
    arguments_held connected n is =
        let before = connected S held_before in
        let both : InPairs S zs =
        each_turned_back (λ q. S q.0 ↔ S q.1) zs (each_parted (λ q. S q.0 ↔ S q.1) new ps holding.in_pairs).0 in
        let well = join.before in
        let a = root g.nodes p.0 in
        let b = root g.nodes p.1 in
        subst (λ (l : List ℕ). AllByRecursion S (arguments_of l (form_of h.nodes n))) (sym join.behind.same_arguments)
        (at_each_root (λ (z : Node). z.is_outer ≡ true → AllByRecursion S (arguments_of g.arguments z.form)) a b g h join.one n
        (λ at.
        parts_of_one S g.arguments (length g.nodes) x.form y.form x.is_outer y.is_outer (root_is_root g well p.0)
        (root_is_root g well p.1) join.fits (well.names a) (well.names b) both (before p.0) (before p.1))
        (before n) is)

  bounded_on : Bounded g → Bounded h
  bounded_on bounded =
      let one = join.one in
      let long = join.behind.as_many in
      let fewer = join.behind.fewer in
      let few = bounded.given_few in
      let before = links_and_roots g.nodes in
      let after = links_and_roots h.nodes in
      let is = is_given x y in
      let more = one_more is one.kept g.given in
      let given : length h.given ≡ length (if is then one.kept ∷ g.given else g.given) = ap length one.given in
      record {
        given_numbers =
            subst (λ k. AreNumbers k h.given) (sym long)
            (subst (AreNumbers (length g.nodes)) (sym one.given)
            (each_with (λ n. n < length g.nodes) is one.kept g.given one.kept_is bounded.given_numbers));
        copies_before =
            λ n lt.
            let old = bounded.copies_before n (omega arith) in
            ⊎_elim (λ e. omega arith) (λ e. omega arith) (one.copies n);
        given_few = omega arith;
      }

  keeps_on : Keeps (p ∷ ps) g → Keeps next h
  keeps_on keeps = record { connected = λ S holding. arguments_held S holding keeps.connected; bounded = bounded_on keeps.bounded }

-- a pair of one root is left out
held_with :
    (S : ℕ → Type 0) (p : ℕ × ℕ) (ps : List (ℕ × ℕ)) (g : Graph) → root g.nodes p.0 ≡ root g.nodes p.1 → Holding S ps g
    → Holding S (p ∷ ps) g
held_with S p ps g same holding = record {
  outer = holding.outer;
  given = holding.given;
  roots = holding.roots;
  in_pairs = ((λ s. holding.roots p.0 p.1 same s, λ s. holding.roots p.1 p.0 (sym same) s), holding.in_pairs);
}

keeps_without : (p : ℕ × ℕ) (ps : List (ℕ × ℕ)) (g : Graph) → root g.nodes p.0 ≡ root g.nodes p.1 → Keeps (p ∷ ps) g → Keeps ps g
keeps_without p ps g same keeps = record {
  connected = λ S holding. keeps.connected S (held_with S p ps g same holding);
  bounded = keeps.bounded;
}

pub unify_keeps_giving_law : UnifyKeepsGiving
unify_keeps_giving_law steps ps g h well giving numbers e =
    let left = unify_keeps Keeps keeps_without keeps_on steps ps g well numbers (keeps_at_first ps g giving) in
    let all : left.rest ≡ [] = left.none (ap (λ (o : Unified). o.fits) e) in
    let keeps = subst (λ (l : List (ℕ × ℕ)). Keeps l (unified steps ps g).types) all left.holds in
    subst (λ (o : Unified). IsGiving o.types) e (giving_at_last (unified steps ps g).types keeps)

-- outer, and something is known of it
abbrev IsFixed : Node → Type 0
IsFixed z = (z.is_outer ≡ true) × (is_variable z.form ≡ false)

-- then what it becomes with another one is so too
fixed_either :
    (v w o p : Bool) → ((o ≡ true) × (v ≡ false)) ⊎ ((p ≡ true) × (w ≡ false)) → (outer_of v w o p ≡ true) × ((v && w) ≡ false)
fixed_either true true o p is = ⊎_elim (λ e. let no = e.1 in absurd (cc)) (λ e. let no = e.1 in absurd (cc)) is
fixed_either true false o p is = ⊎_elim (λ e. let no = e.1 in absurd (cc)) (λ e. (e.0, refl)) is
fixed_either false true o p is = ⊎_elim (λ e. (e.0, refl)) (λ e. let no = e.1 in absurd (cc)) is
fixed_either false false true p is = (refl, refl)
fixed_either false false false p is = ⊎_elim (λ e. let no = e.0 in absurd (cc)) (λ e. (e.0, refl)) is

variable_of_one : (a b : Form) → is_variable (one_form a b) ≡ (is_variable a && is_variable b)
variable_of_one Variable b = refl
variable_of_one (Link m) b = refl
variable_of_one (Applied c first count) b = refl

fixed_one : (x y : Node) → IsFixed x ⊎ IsFixed y → IsFixed (merged x y)
fixed_one x y is =
    let both = fixed_either (is_variable x.form) (is_variable y.form) x.is_outer y.is_outer is in
    (both.0, variable_of_one x.form y.form ∙ both.1)

fixed_on :
    (n a b : ℕ) (g h : Graph) → Join a b g h → IsFixed (root_node g n) → IsFixed (root_node h n)
fixed_on n a b g h join is =
    let P : ℕ → Type 0 = λ r. IsFixed (node_at g.nodes r) in
    at_each_root IsFixed a b g h join.one n
    (λ at. fixed_one (node_at g.nodes a) (node_at g.nodes b) (⊎_elim (λ e. inl (subst P e is)) (λ e. inr (subst P e is)) at)) is

pub fixed_stay_law : FixedStay
fixed_stay_law steps ps g h fits well numbers e n is known =
    let left =
    unify_keeps (λ qs (i : Graph). IsFixed (root_node i n)) (λ p qs i same fixed. fixed)
    (λ p qs i k join fixed. fixed_on n (root i.nodes p.0) (root i.nodes p.1) i k join fixed) steps ps g well numbers (is, known) in
    subst (λ (o : Unified). IsFixed (root_node o.types n)) e left.holds
