-- What the verdict on a program says of the trees that the types of its walk stand for.
use Rattle.std.proofs.Common.{◌≡◌, ℕ, zero, suc, ◌+◌, ◌-◌, ◌≤◌, ◌<◌, ◌⊎◌, inl, inr, min, ◌==◌, ◌||◌, nat_le, List, [], ◌∷◌, length, map, reverse, take, drop, Option, Some, None, Result, Ok, Err, Bool, true, false, refl, sym, ◌∙◌, ap, subst, arith, leb-true, ⊎_elim, if◌then◌else◌}
use Rattle.std.specs.List.{AllByRecursion, Any, list_any}
use Rattle.std.proofs.lemmas.Bool.Decides.{nat_tests, leb_tells}
use Rattle.std.proofs.lemmas.Bool.{and_parts, or_parts}
use Rattle.std.proofs.lemmas.List.{length-drop, length-take-le}
use Rattle.std.proofs.lemmas.List.Elements.{All-from_recursion, recursion_from_All}
use Rattle.std.proofs.lemmas.List.Sorted.{All-permutation, IsPermutation-reverse, list_any-IsPermutation}
use Rattle.fx_base.specs.declared.refusal.Place.{Place}
use Rattle.effect_meaning.specs.Arena.{Parts}
use Rattle.type_terms.specs.declared.base_type.BaseTy.{BaseTy}
use Rattle.type_terms.specs.declared.base_type.BaseTy.TheVariants as base
use Rattle.type_terms.specs.TypeTrees.{Ty, TypeVariable, Constructed, NoTys, size, base_ty, IsBase}
use Rattle.type_graph.specs.declared.form.Form.{Form}
use Rattle.type_graph.specs.declared.form.Form.TheVariants as form
use Rattle.type_graph.specs.declared.sizes.Size.{Size}
use Rattle.type_graph.specs.declared.sizes.Size.TheVariants.{Known}
use Rattle.type_graph.specs.Graph.{Graph, root, form_of, link_of, part_of, has_room}
use Rattle.type_graph.specs.Sized.{Counting, all_counted, is_too_large}
use Rattle.type_readings.specs.Readings.{trees_of, IsOfForm, Reads, LeavesOpen, HasSizes}
use Rattle.type_readings.specs.WellFormed.{NamesWhatIsThere, AreNumbers, IsWellFormed}
use Rattle.type_readings.specs.Laws.{RootIsRoot, RootIsEqual, CountedIsRead, UncountedIsUnread}
use Rattle.ml_infer.specs.declared.inference.Compared.{Compared}
use Rattle.ml_infer.specs.declared.inference.End.{End}
use Rattle.ml_infer.specs.declared.inference.End.TheVariants as ends
use Rattle.ml_infer.specs.declared.inference.Inference.{Inference}
use Rattle.ml_infer.specs.declared.verdict.Fault.{Fault}
use Rattle.ml_infer.specs.declared.verdict.Fault.TheVariants as fault
use Rattle.ml_infer.specs.Verdict.{first_fault, base_row, base_form, base_of, base_before, bases, has_large, unless_large, sized_verdict, ended_verdict, verdict, not_stopped, is_complete}
use Rattle.inference_laws.specs.Whole.{HasRoom}
use Rattle.inference_laws.specs.Laws.{WalkIsWhole}
use Rattle.inference_laws.specs.VerdictLaws.{whole_walk, IsThere, IsAccepted, IsUnread, ComparesOther, HasLarge, WalkIsThere, AcceptedIsRead, RefusedIsUnread, LargeIsRead}

-- the row of each of the five types
row_tree : (c : ℕ) (b : BaseTy) → base_row c ≡ Some b → Constructed c NoTys ≡ base_ty b
row_tree zero b e = let same : base.Int ≡ b = cc in ap base_ty same
row_tree (suc zero) b e = let same : base.Bool ≡ b = cc in ap base_ty same
row_tree (suc (suc zero)) b e = let same : base.Char ≡ b = cc in ap base_ty same
row_tree (suc (suc (suc zero))) b e = let same : base.Str ≡ b = cc in ap base_ty same
row_tree (suc (suc (suc (suc zero)))) b e = let same : base.Unit ≡ b = cc in ap base_ty same
row_tree (suc (suc (suc (suc (suc c))))) b e = absurd (cc)

tree_row : (b : BaseTy) → (c : ℕ) × (base_ty b ≡ Constructed c NoTys) × (base_row c ≡ Some b)
tree_row base.Int = (_, refl, refl)
tree_row base.Bool = (_, refl, refl)
tree_row base.Char = (_, refl, refl)
tree_row base.Unit = (_, refl, refl)
tree_row base.Str = (_, refl, refl)

-- a part is of so many elements, if they are there
part_is : (xs : List ℕ) (first count : ℕ) → first + count ≤ length xs → part_of xs first count ≡ take count (drop first xs)
part_is xs first count h = ⊎_elim (λ p. rw p.0 refl) (λ p. absurd (omega arith)) (leb_tells (first + count) (length xs))

no_part : (xs : List ℕ) (first : ℕ) → part_of xs first 0 ≡ []
no_part xs first =
    elim (nat_le (first + 0) (length xs)) as (λ b. (if b then take 0 (drop first xs) else []) ≡ []) [ true ↦ refl | false ↦ refl ]

-- the tree of a type of which this is known is one of the five types, or none
module _ (f : ℕ → Ty) (arguments : List ℕ) where
  no_trees : (xs : List ℕ) → trees_of f xs ≡ NoTys → xs ≡ []
  no_trees [] e = refl
  no_trees (x ∷ xs) e = absurd (cc)

  some_trees : (first n : ℕ) → first + suc n ≤ length arguments → trees_of f (part_of arguments first (suc n)) ≡ NoTys → ⊥
  some_trees first n fits e =
      let none : take (suc n) (drop first arguments) ≡ [] =
      sym (part_is arguments first (suc n) fits) ∙ no_trees (part_of arguments first (suc n)) e in
      let left : length (drop first arguments) ≡ length arguments - first = length-drop first arguments in
      let many : length (take (suc n) (drop first arguments)) ≡ suc n =
      length-take-le (suc n) (drop first arguments) (omega arith) in
      let few : length (take (suc n) (drop first arguments)) ≡ 0 = ap (λ (xs : List ℕ). length xs) none in
      absurd (omega arith)

  form_at : (a : Form) (t : Ty) (b : BaseTy) → IsOfForm f arguments a t → base_form a ≡ Some b → t ≡ base_ty b
  form_at form.Variable t b h e = absurd (cc)
  form_at (form.Link m) t b h e = absurd (cc)
  form_at (form.Applied c first zero) t b h e =
      h ∙ ap (λ (xs : List ℕ). Constructed c (trees_of f xs)) (no_part arguments first) ∙ row_tree c b e
  form_at (form.Applied c first (suc n)) t b h e = absurd (cc)

  form_other :
      (types : ℕ) (a : Form) (t : Ty) → NamesWhatIsThere types (length arguments) a → link_of a ≡ None
      → (a ≡ form.Variable → (v : ℕ) × (t ≡ TypeVariable v)) → IsOfForm f arguments a t → base_form a ≡ None → IsBase t → ⊥
  form_other types form.Variable t names ends leaves h e is =
      let variable = leaves refl in
      let v = variable.1 in
      let row = tree_row is.0 in
      let same : TypeVariable variable.0 ≡ Constructed row.0 NoTys = sym v ∙ is.1 ∙ row.1 in
      absurd (cc)
  form_other types (form.Link m) t names ends leaves h e is = absurd (cc)
  form_other types (form.Applied c first zero) t names ends leaves h e is =
      let row = tree_row is.0 in
      let trees : Constructed c (trees_of f (part_of arguments first 0)) ≡ Constructed row.0 NoTys = sym h ∙ is.1 ∙ row.1 in
      let same : c ≡ row.0 = cc in
      let some : base_row c ≡ Some is.0 = ap base_row same ∙ row.2 in
      absurd (cc)
  form_other types (form.Applied c first (suc n)) t names ends leaves h e is =
      let row = tree_row is.0 in
      let trees : Constructed c (trees_of f (part_of arguments first (suc n))) ≡ Constructed row.0 NoTys = sym h ∙ is.1 ∙ row.1 in
      some_trees first n names (cc)

-- the type of one comparison before those of others
record Before (o : Option BaseTy) (r : Result (List BaseTy) Place) (bs : List BaseTy) : Type 0 where
  one : BaseTy
  others : List BaseTy
  is_one : o ≡ Some one
  are_others : r ≡ Ok others
  are : bs ≡ one ∷ others

before_ok :
    (o : Option BaseTy) (at : Place) (r : Result (List BaseTy) Place) (bs : List BaseTy) → base_before o at r ≡ Ok bs
    → Before o r bs
before_ok None at r bs e = absurd (cc)
before_ok (Some b) at (Ok others) bs e =
    record { one = b; others = others; is_one = refl; are_others = refl; are = cc }
before_ok (Some b) at (Err other) bs e = absurd (cc)

-- or a fault at its place or at a later one
before_err :
    (o : Option BaseTy) (at : Place) (r : Result (List BaseTy) Place) (place : Place) → base_before o at r ≡ Err place
    → ((o ≡ None) × (at ≡ place)) ⊎ (r ≡ Err place)
before_err None at r place e = inl (refl, cc)
before_err (Some b) at (Ok others) place e = absurd (cc)
before_err (Some b) at (Err other) place e = inr (cc)

module _ {X : Type 0} (P : X → Type 0) (x : X) (xs : List X) where
  any_here : P x → Any P (x ∷ xs)
  any_here h = (0, x, omega arith, refl, h)

  any_later : Any P xs → Any P (x ∷ xs)
  any_later h = let lt = h.2 in (suc h.0, h.1, omega arith, h.3, h.4)

-- the comparisons in a reading
module _ (root_root : RootIsRoot) (equal : RootIsEqual) (f : ℕ → Ty) (g : Graph) (well : IsWellFormed g) (reads : Reads f g) where
  -- the tree of a type is as is known of its root
  read_by_root : (n : ℕ) → IsOfForm f g.arguments (form_of g.nodes n) (f n)
  read_by_root n =
      subst (IsOfForm f g.arguments (form_of g.nodes n)) (sym (equal g f well reads n)) (reads (root g.nodes n))

  at_bases : (cs : List Compared) (bs : List BaseTy) → bases g cs ≡ Ok bs → map (λ c. f c.found) cs ≡ map base_ty bs
  unfolding bases
  at_bases [] bs e =
      let none : [] ≡ bs = cc in
      ap (map base_ty) none
  at_bases (c ∷ cs) bs e =
      let k = before_ok (base_of g c.found) c.place (bases g cs) bs e in
      let one = form_at f g.arguments (form_of g.nodes c.found) (f c.found) k.one (read_by_root c.found) k.is_one in
      ap (λ t. t ∷ map (λ x. f x.found) cs) one
      ∙ ap (λ (ts : List Ty). base_ty k.one ∷ ts) (at_bases cs k.others k.are_others) ∙ ap (map base_ty) (sym k.are)

  -- one that leaves variables open
  module _ (leaves : LeavesOpen f g) where
    at_other : (c : Compared) → base_of g c.found ≡ None → IsBase (f c.found) → ⊥
    at_other c e =
        let r = root g.nodes c.found in
        form_other f g.arguments (length g.nodes) (form_of g.nodes c.found) (f c.found) (well.names r) (root_root g well c.found)
        (λ variable. (r, equal g f well reads c.found ∙ leaves r variable)) (read_by_root c.found) e

    any_other :
        (cs : List Compared) (at : Place) → bases g cs ≡ Err at → Any (λ c. (c.place ≡ at) × (IsBase (f c.found) → ⊥)) cs
    unfolding bases
    any_other [] at e = absurd (cc)
    any_other (c ∷ cs) at e =
        let P = λ (x : Compared). (x.place ≡ at) × (IsBase (f x.found) → ⊥) in
        ⊎_elim (λ p. any_here P c cs (p.1, at_other c p.0)) (λ h. any_later P c cs (any_other cs at h))
        (before_err (base_of g c.found) c.place (bases g cs) at e)

-- a size that is counted as too large is so
large_size : (m : ℕ) → (min m 4097 == 4097) ≡ true → 4097 ≤ m
large_size m e = grind (arith, nat_tests)

small_size : (m : ℕ) → (min m 4097 == 4097) ≡ false → m ≤ 4096
small_size m e = grind (arith, nat_tests)

either_test : (a b : Bool) → (a || b) ≡ true → (a ≡ true) ⊎ (b ≡ true)
either_test true b e = inl refl
either_test false b e = inr e

-- the definitions in a reading whose sizes were counted
module _ (f : ℕ → Ty) (g : Graph) (sizes : Counting) (has : HasSizes f g sizes) where
  abbrev test : ℕ → Bool
  test d = is_too_large sizes (root g.nodes d)

  test_is : (d : ℕ) → d < length g.nodes → test d ≡ (min (size (f d)) 4097 == 4097)
  test_is d lt = ap (λ (k : Size). elim k as (λ x. Bool) [ Known m ↦ m == 4097 | _ ↦ false ]) (has d lt)

  all_small : (ds : List ℕ) → AreNumbers (length g.nodes) ds → list_any test ds ≡ false → AllByRecursion (λ d. size (f d) ≤ 4096) ds
  all_small [] there e = tt
  all_small (d ∷ ds) there e =
      let k = or_parts (test d) (list_any test ds) e in
      (small_size (size (f d)) (sym (test_is d there.0) ∙ k.0), all_small ds there.1 k.1)

  any_large : (ds : List ℕ) → AreNumbers (length g.nodes) ds → list_any test ds ≡ true → Any (λ d. 4097 ≤ size (f d)) ds
  any_large [] there e = absurd (cc)
  any_large (d ∷ ds) there e =
      ⊎_elim (λ h. any_here (λ x. 4097 ≤ size (f x)) d ds (large_size (size (f d)) (sym (test_is d there.0) ∙ h)))
      (λ h. any_later (λ x. 4097 ≤ size (f x)) d ds (any_large ds there.1 h))
      (either_test (test d) (list_any test ds) e)

  -- in whatever order they are tested
  turned : (ds : List ℕ) → list_any test ds ≡ list_any test (reverse ds)
  turned ds = list_any-IsPermutation test ds (reverse ds) (IsPermutation-reverse ds)

-- a walk that is complete ended with a fault, or went to its end, where the sizes decide
module _ (p : Parts) (s : Inference) (order : List Compared) where
  record AtFault (o : Option End) : Type 0 where
    place : Place
    ended : o ≡ Some (ends.Fault place)
    answer : ended_verdict p s order o ≡ Err (fault.IllTyped (first_fault p s.equations place))

  record Sized (o : Option End) : Type 0 where
    ended : o ≡ None
    answer : ended_verdict p s order o ≡ sized_verdict p s order (all_counted s.types)

  by_end : (o : Option End) → not_stopped o ≡ true → AtFault o ⊎ Sized o
  by_end None h = inr (record { ended = refl; answer = refl })
  by_end (Some (ends.Fault at)) h = inl (record { place = at; ended = refl; answer = refl })
  by_end (Some ends.Stopped) h = absurd (cc)

  -- so it did where the verdict is no fault of types
  sized :
      (r : Result (List BaseTy) Fault) → ((at : Place) → r ≡ Err (fault.IllTyped at) → ⊥) → not_stopped s.end ≡ true
      → r ≡ verdict p s order → Sized s.end
  sized r well h e = ⊎_elim (λ k. absurd (well (first_fault p s.equations k.place) (e ∙ k.answer))) (λ k. k) (by_end s.end h)

-- an answer, and what it comes of
unless_ok :
    (r : Result (List BaseTy) Place) (large : Bool) (bs : List BaseTy) → unless_large r large ≡ Ok bs
    → (r ≡ Ok bs) × (large ≡ false)
unless_ok (Err at) large bs e = absurd (cc)
unless_ok (Ok others) true bs e = absurd (cc)
unless_ok (Ok others) false bs e = (cc, refl)

unless_fault :
    (r : Result (List BaseTy) Place) (large : Bool) (at : Place) → unless_large r large ≡ Err (fault.IllTyped at) → r ≡ Err at
unless_fault (Err place) large at e =
    let same : place ≡ at = cc in
    ap (λ x. Err x) same
unless_fault (Ok bs) true at e = absurd (cc)
unless_fault (Ok bs) false at e = absurd (cc)

unless_large_is : (r : Result (List BaseTy) Place) (large : Bool) → unless_large r large ≡ Err fault.TooLarge → large ≡ true
unless_large_is (Err at) large e = absurd (cc)
unless_large_is (Ok bs) true e = refl
unless_large_is (Ok bs) false e = absurd (cc)

-- a complete walk didn't stop, and there is room for its types
complete_so : (s : Inference) → is_complete s ≡ true → (not_stopped s.end ≡ true) × HasRoom s.types
complete_so s e =
    let k = and_parts (not_stopped s.end) (has_room s.types) e in
    let room = and_parts (nat_le (length s.types.nodes) 33554432) (nat_le (length s.types.arguments) 67108864) k.1 in
    (k.0, record { types = leb-true _ _ room.0; arguments = leb-true _ _ room.1 })

-- whatever the verdict is
pub walk_is_there_law : WalkIsWhole → WalkIsThere
walk_is_there_law walk p r v =
    let s = whole_walk p in
    let P = λ (c : Compared). c.found < length s.types.nodes in
    let room = (complete_so s v.complete).1 in
    let whole = walk p 18446744073709551615 room in
    let there = All-from_recursion P s.comparisons whole.numbers.comparisons_there in
    let turned = All-permutation P s.comparisons (reverse s.comparisons) (IsPermutation-reverse s.comparisons) there in
    record {
      room = room;
      whole = whole;
      compared = recursion_from_All P v.order (All-permutation P (reverse s.comparisons) v.order v.elements turned);
    }

-- where the sizes of types are counted, or can't be
module _ (root_root : RootIsRoot) (equal : RootIsEqual) (counted : CountedIsRead) where
  module _ (p : Parts) (s : Inference) (order : List Compared) (there : IsThere s order) where
    abbrev well : IsWellFormed s.types
    well = there.whole.types.well

    abbrev definitions_there : AreNumbers (length s.types.nodes) s.definitions
    definitions_there = there.whole.numbers.definitions_there

    accepted_by :
        (o : Option Counting) (bs : List BaseTy) → s.end ≡ None → all_counted s.types ≡ o → Ok bs ≡ sized_verdict p s order o
        → IsAccepted s order bs
    accepted_by None bs ended is e = absurd (cc)
    accepted_by (Some sizes) bs ended is e =
        let r = counted s.types sizes well is in
        let k = unless_ok (bases s.types order) (has_large s sizes) bs (sym e) in
        record {
          there = there;
          ended = ended;
          compared = λ f reads. at_bases root_root equal f s.types well reads order bs k.0;
          reading = r.0;
          reads = r.1;
          leaves_open = r.2;
          small =
              all_small r.0 s.types sizes r.3 s.definitions definitions_there (turned r.0 s.types sizes r.3 s.definitions ∙ k.1);
        }

    refused_by :
        UncountedIsUnread → (o : Option Counting) (at : Place) → s.end ≡ None → all_counted s.types ≡ o
        → Err (fault.IllTyped at) ≡ sized_verdict p s order o → IsUnread s.types ⊎ ComparesOther s order at
    refused_by uncounted None at ended is e = inl (λ f reads. uncounted s.types f well is reads)
    refused_by uncounted (Some sizes) at ended is e =
        let r = counted s.types sizes well is in
        let other = unless_fault (bases s.types order) (has_large s sizes) at (sym e) in
        inr (record {
          ended = ended;
          reading = r.0;
          reads = r.1;
          leaves_open = r.2;
          compared = any_other root_root equal r.0 s.types well r.1 r.2 order at other;
        })

    large_by :
        (o : Option Counting) → s.end ≡ None → all_counted s.types ≡ o → Err fault.TooLarge ≡ sized_verdict p s order o → HasLarge s
    large_by None ended is e = absurd (cc)
    large_by (Some sizes) ended is e =
        let r = counted s.types sizes well is in
        let large = unless_large_is (bases s.types order) (has_large s sizes) (sym e) in
        record {
          ended = ended;
          reading = r.0;
          reads = r.1;
          leaves_open = r.2;
          large =
              any_large r.0 s.types sizes r.3 s.definitions definitions_there (turned r.0 s.types sizes r.3 s.definitions ∙ large);
        }

  -- the laws
  module _ (walk : WalkIsWhole) where
    pub accepted_is_read_law : AcceptedIsRead
    accepted_is_read_law p bs v =
        let s = whole_walk p in
        let there = walk_is_there_law walk p (Ok bs) v in
        let k = sized p s v.order (Ok bs) (λ at h. absurd (cc)) (complete_so s v.complete).0 v.is in
        accepted_by p s v.order there (all_counted s.types) bs k.ended refl (v.is ∙ k.answer)

    pub refused_is_unread_law : UncountedIsUnread → RefusedIsUnread
    refused_is_unread_law uncounted p at v =
        let s = whole_walk p in
        let there = walk_is_there_law walk p (Err (fault.IllTyped at)) v in
        ⊎_elim (λ k. inl (k.place, k.ended))
        (λ k. inr (refused_by p s v.order there uncounted (all_counted s.types) at k.ended refl (v.is ∙ k.answer)))
        (by_end p s v.order s.end (complete_so s v.complete).0)

    pub large_is_read_law : LargeIsRead
    large_is_read_law p v =
        let s = whole_walk p in
        let there = walk_is_there_law walk p (Err fault.TooLarge) v in
        let k = sized p s v.order (Err fault.TooLarge) (λ at h. absurd (cc)) (complete_so s v.complete).0 v.is in
        large_by p s v.order there (all_counted s.types) k.ended refl (v.is ∙ k.answer)
