-- Outer types in a graph with further types.
use Rattle.std.proofs.Common.{◌≡◌, ℕ, zero, suc, ◌≤◌, ◌<◌, List, [], ◌∷◌, ◌++◌, length, None, Bool, true, false, inl, inr, if◌then◌else◌, refl, sym, ◌∙◌, ap, subst, arith, ⊎_elim}
use Rattle.std.specs.List.{AllByRecursion}
use Rattle.std.proofs.lemmas.Bool.Decides.{leb_tells, eqb_tells}
use Rattle.std.proofs.lemmas.List.{get_or_past}
use Rattle.std.proofs.lemmas.List.Sums.{sum_by_push}
use Rattle.type_graph.specs.declared.form.Form.{Form}
use Rattle.type_graph.specs.declared.form.Form.TheVariants.{Variable, Link, Applied}
use Rattle.type_graph.specs.declared.types.Node.{Node}
use Rattle.type_graph.specs.Graph.{Graph, fresh, unknown, node_at, root, form_of, link_of, arguments_of, applied, built_in}
use Rattle.type_readings.specs.WellFormed.{NamesWhatIsThere, AreNumbers, IsRoot, IsOuter, IsOuterOr, is_link, IsWellFormed, IsCopyable, IsGiving}
use Rattle.type_readings.specs.Laws.{BuiltInIsCopyable, VariableKeepsCopyable, ApplicationKeepsCopyable, BuiltInIsGiving, VariableKeepsGiving, ApplicationKeepsGiving, CopyableIsGiving}
use Rattle.type_readings.proofs.Lists.{each_so}
use Rattle.type_readings.proofs.Rows.{followed_root, root_is_number}
use Rattle.type_readings.proofs.Making.{numbers_more, graph_made, without_more, apart_above, node_before, node_on_top, one_longer, part_of_more, part_of_seam}
use Rattle.type_readings.proofs.Steps.{numbers_of_form}
use Rattle.type_readings.proofs.OuterOr.{or_outer, OuterArgumentsOr}
use Rattle.type_readings.proofs.Copying.{Extends}
use Rattle.type_readings.proofs.Forwarding.{root_same}

module _
    (g : Graph) (well : IsWellFormed g) (h : Graph) (x : Extends g h)
    (outers : (q : ℕ) → q < length g.nodes → (node_at h.nodes q).is_outer ≡ (node_at g.nodes q).is_outer) where
  -- the same types are outer
  outer_still : (m : ℕ) → m < length g.nodes → IsOuter g m → IsOuter h m
  outer_still m lt is =
      ap (λ k. (node_at h.nodes k).is_outer) (root_same g well h x m lt) ∙ outers (root g.nodes m) (root_is_number g well m lt) ∙ is

  outer_before : (m : ℕ) → m < length g.nodes → IsOuter h m → IsOuter g m
  outer_before m lt is =
      sym (outers (root g.nodes m) (root_is_number g well m lt)) ∙ ap (λ k. (node_at h.nodes k).is_outer) (sym (root_same g well h x m lt))
      ∙ is

  or_still : (ps : List ℕ) → AreNumbers (length g.nodes) ps → (m : ℕ) → m < length g.nodes → IsOuterOr g ps m → IsOuterOr h ps m
  or_still [] given m lt is = outer_still m lt is
  or_still (p ∷ ps) given m lt is =
      ⊎_elim
      (λ e. inl (root_same g well h x p given.0 ∙ e ∙ sym (root_same g well h x m lt)))
      (λ e. inr (or_still ps given.1 m lt e))
      is

  all_or_still :
      (ps : List ℕ) → AreNumbers (length g.nodes) ps → (ns : List ℕ) → AreNumbers (length g.nodes) ns
      → AllByRecursion (IsOuterOr g ps) ns → AllByRecursion (IsOuterOr h ps) ns
  all_or_still ps given [] numbers is = tt
  all_or_still ps given (m ∷ ns) numbers is = (or_still ps given m numbers.0 is.0, all_or_still ps given ns numbers.1 is.1)

  -- a form that was there has the same arguments
  same_arguments : (a : Form) → NamesWhatIsThere (length g.nodes) (length g.arguments) a → arguments_of h.arguments a ≡ arguments_of g.arguments a
  same_arguments Variable names = refl
  same_arguments (Link m) names = refl
  same_arguments (Applied d first count) names =
      ap (λ (l : List ℕ). arguments_of l (Applied d first count)) x.arguments ∙ part_of_more g.arguments x.more first count names

  -- and so are the arguments of those
  pub outer_arguments_still :
      (ps : List ℕ) → AreNumbers (length g.nodes) ps → OuterArgumentsOr g ps → (m : ℕ) → m < length g.nodes → IsOuter h m
      → AllByRecursion (IsOuterOr h ps) (arguments_of h.arguments (form_of h.nodes m))
  outer_arguments_still ps given before m lt is =
      let r = root g.nodes m in
      let a = (node_at g.nodes r).form in
      let same : form_of h.nodes m ≡ a =
      ap (λ k. (node_at h.nodes k).form) (root_same g well h x m lt) ∙ x.forms r (root_is_number g well m lt) in
      subst (λ b. AllByRecursion (IsOuterOr h ps) (arguments_of h.arguments b)) (sym same)
      (subst (AllByRecursion (IsOuterOr h ps)) (sym (same_arguments a (well.names r)))
      (all_or_still ps given (arguments_of g.arguments a) (numbers_of_form (length g.nodes) g.arguments a well.numbers)
      (before m (outer_before m lt is))))

-- where there is no type, none is outer
pub outer_is_there : (g : Graph) (m : ℕ) → IsRoot g.nodes m → length g.nodes ≤ m → IsOuter g m → ⊥
outer_is_there g m is_root le is =
    let at : root g.nodes m ≡ m = followed_root 32 g.nodes m is_root in
    let here : (node_at g.nodes m).is_outer ≡ true = ap (λ k. (node_at g.nodes k).is_outer) (sym at) ∙ is in
    let no : (node_at g.nodes m).is_outer ≡ false = ap (λ (z : Node). z.is_outer) (get_or_past g.nodes m unknown le) in
    absurd (cc)

-- a graph with a further type
module _
    (g : Graph) (well : IsWellFormed g) (ps : List ℕ) (given : AreNumbers (length g.nodes) ps) (before : OuterArgumentsOr g ps)
    (x : Node) (ns : List ℕ) (rx : link_of x.form ≡ None)
    (numbers : AreNumbers (length g.nodes) (arguments_of (g.arguments ++ ns) x.form))
    (all : x.is_outer ≡ true → AllByRecursion (IsOuterOr g ps) (arguments_of (g.arguments ++ ns) x.form)) where
  made_extends : Extends g (graph_made g x ns)
  made_extends = record {
    forms = λ q lt. ap (λ (z : Node). z.form) (node_before g.nodes x q lt);
    longer = let long = one_longer g.nodes x in omega arith;
    more = ns;
    arguments = refl;
    given = refl;
  }

  made_outers : (q : ℕ) → q < length g.nodes → (node_at (graph_made g x ns).nodes q).is_outer ≡ (node_at g.nodes q).is_outer
  made_outers q lt = ap (λ (z : Node). z.is_outer) (node_before g.nodes x q lt)

  outer_on_top :
      IsOuter (graph_made g x ns) (length g.nodes)
      → AllByRecursion (IsOuterOr (graph_made g x ns) ps)
      (arguments_of (g.arguments ++ ns) (form_of (graph_made g x ns).nodes (length g.nodes)))
  outer_on_top is =
      let h = graph_made g x ns in
      let base = length g.nodes in
      let top = node_on_top g.nodes x in
      let at : root h.nodes base ≡ base = followed_root 32 h.nodes base (ap (λ (z : Node). link_of z.form) top ∙ rx) in
      let node : node_at h.nodes (root h.nodes base) ≡ x = ap (λ k. node_at h.nodes k) at ∙ top in
      let outer : x.is_outer ≡ true = ap (λ (z : Node). z.is_outer) (sym node) ∙ is in
      subst (λ (z : Node). AllByRecursion (IsOuterOr h ps) (arguments_of (g.arguments ++ ns) z.form)) (sym node)
      (all_or_still g well h made_extends made_outers ps given (arguments_of (g.arguments ++ ns) x.form) numbers (all outer))

  arguments_made : OuterArgumentsOr (graph_made g x ns) ps
  arguments_made m is =
      let h = graph_made g x ns in
      let base = length g.nodes in
      let long = one_longer g.nodes x in
      ⊎_elim
      (λ p. outer_arguments_still g well h made_extends made_outers ps given before m p.1 is)
      (λ p.
      ⊎_elim
      (λ q.
      subst (λ k. AllByRecursion (IsOuterOr h ps) (arguments_of h.arguments (form_of h.nodes k))) (sym q.1)
      (outer_on_top (subst (IsOuter h) q.1 is)))
      (λ q.
      let above : base < m = apart_above m base q.1 (omega arith) in
      let past : node_at h.nodes m ≡ unknown = get_or_past h.nodes m unknown (omega arith) in
      absurd (outer_is_there h m (ap (λ (z : Node). link_of z.form) past) (omega arith) is))
      (eqb_tells m base))
      (leb_tells (suc m) base)

-- what each type has as its latest copy is there
abbrev CopiesBefore : List Node → Type 0
CopiesBefore nodes = (n : ℕ) → n < length nodes → (node_at nodes n).copy < length nodes

copies_made : (nodes : List Node) (x : Node) → x.copy ≡ 0 → CopiesBefore nodes → CopiesBefore (nodes ++ x ∷ [])
copies_made nodes x uncopied before m lt =
    let base = length nodes in
    let new = nodes ++ x ∷ [] in
    let long = one_longer nodes x in
    ⊎_elim
    (λ p.
    let is : (node_at new m).copy ≡ x.copy = ap (λ k. (node_at new k).copy) p.1 ∙ ap (λ (z : Node). z.copy) (node_on_top nodes x) in
    omega arith)
    (λ p.
    let less : m < base = apart_above base m (λ e. p.1 (sym e)) (omega arith) in
    let is : (node_at new m).copy ≡ (node_at nodes m).copy = ap (λ (z : Node). z.copy) (node_before nodes x m less) in
    let old = before m less in
    omega arith)
    (eqb_tells m base)

-- a graph with a further type, as it is made
module _
    (g : Graph) (well : IsWellFormed g) (x : Node) (ns : List ℕ) (rx : link_of x.form ≡ None) (uncopied : x.copy ≡ 0)
    (numbers : AreNumbers (length g.nodes) (arguments_of (g.arguments ++ ns) x.form))
    (all : x.is_outer ≡ true → AllByRecursion (IsOuter g) (arguments_of (g.arguments ++ ns) x.form)) where
  copyable_made : IsCopyable g → IsCopyable (graph_made g x ns)
  copyable_made copyable = record {
    copies_before = copies_made g.nodes x uncopied copyable.copies_before;
    outer_arguments = arguments_made g well [] tt copyable.outer_arguments x ns rx numbers all;
  }

  giving_made : IsGiving g → IsGiving (graph_made g x ns)
  giving_made giving =
      let few = giving.given_few in
      let push = sum_by_push (λ (z : Node). if is_link z.form then 1 else 0) g.nodes x in
      record {
        given_numbers =
            subst (λ k. AreNumbers k g.given) (sym (one_longer g.nodes x))
            (numbers_more (length g.nodes) g.given giving.given_numbers);
        copies_before = copies_made g.nodes x uncopied giving.copies_before;
        arguments_or_given =
            arguments_made g well g.given giving.given_numbers giving.arguments_or_given x ns rx numbers
            (λ e.
            each_so (IsOuter g) (IsOuterOr g g.given) (arguments_of (g.arguments ++ ns) x.form) (or_outer g g.given) (all e));
        given_few = omega arith;
      }

pub variable_keeps_copyable_law : VariableKeepsCopyable
variable_keeps_copyable_law g well copyable =
    (without_more IsCopyable g unknown).0 (copyable_made g well unknown [] refl refl tt (λ e. absurd (cc)) copyable)

pub variable_keeps_giving_law : VariableKeepsGiving
variable_keeps_giving_law g well giving =
    (without_more IsGiving g unknown).0 (giving_made g well unknown [] refl refl tt (λ e. absurd (cc)) giving)

-- a type constructor with its arguments
application_made :
    (c : ℕ) (ns : List ℕ) (outer : Bool) (g : Graph) → IsWellFormed g → AreNumbers (length g.nodes) ns
    → (outer ≡ true → AllByRecursion (IsOuter g) ns)
    → (IsCopyable g → IsCopyable (applied c ns outer g)) × (IsGiving g → IsGiving (applied c ns outer g))
application_made c ns outer g well numbers outers =
    let x = fresh (Applied c (length g.arguments) (length ns)) outer in
    let same : arguments_of (g.arguments ++ ns) x.form ≡ ns = part_of_seam g.arguments ns in
    let are = subst (AreNumbers (length g.nodes)) (sym same) numbers in
    let all = λ (e : outer ≡ true). subst (AllByRecursion (IsOuter g)) (sym same) (outers e) in
    (copyable_made g well x ns refl refl are all, giving_made g well x ns refl refl are all)

pub application_keeps_copyable_law : ApplicationKeepsCopyable
application_keeps_copyable_law c ns outer g well copyable numbers outers =
    (application_made c ns outer g well numbers outers).0 copyable

pub application_keeps_giving_law : ApplicationKeepsGiving
application_keeps_giving_law c ns outer g well giving numbers outers =
    (application_made c ns outer g well numbers outers).1 giving

-- the built-in types have no arguments
built_in_uncopied : (n : ℕ) → (node_at built_in.nodes n).copy ≡ 0
built_in_uncopied zero = refl
built_in_uncopied (suc zero) = refl
built_in_uncopied (suc (suc zero)) = refl
built_in_uncopied (suc (suc (suc zero))) = refl
built_in_uncopied (suc (suc (suc (suc zero)))) = refl
built_in_uncopied (suc (suc (suc (suc (suc zero))))) = refl
built_in_uncopied (suc (suc (suc (suc (suc (suc n)))))) = refl

built_in_bare : (n : ℕ) → AllByRecursion (IsOuter built_in) (arguments_of [] (node_at built_in.nodes n).form)
built_in_bare zero = tt
built_in_bare (suc zero) = tt
built_in_bare (suc (suc zero)) = tt
built_in_bare (suc (suc (suc zero))) = tt
built_in_bare (suc (suc (suc (suc zero)))) = tt
built_in_bare (suc (suc (suc (suc (suc zero))))) = tt
built_in_bare (suc (suc (suc (suc (suc (suc n)))))) = tt

pub built_in_is_copyable_law : BuiltInIsCopyable
built_in_is_copyable_law = record {
  copies_before = λ n lt. let none = built_in_uncopied n in omega arith;
  outer_arguments = λ n is. built_in_bare (root built_in.nodes n);
}

-- where nothing was given, what is copyable is giving
pub copyable_is_giving_law : CopyableIsGiving
copyable_is_giving_law g copyable none =
    record {
      given_numbers = subst (AreNumbers (length g.nodes)) (sym none) tt;
      copies_before = copyable.copies_before;
      arguments_or_given = subst (OuterArgumentsOr g) (sym none) copyable.outer_arguments;
      given_few = let few : length g.given ≡ 0 = ap length none in omega arith;
    }

pub built_in_is_giving_law : BuiltInIsGiving
built_in_is_giving_law = copyable_is_giving_law built_in built_in_is_copyable_law refl
