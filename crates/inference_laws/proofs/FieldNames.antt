-- A record expression with which the walk goes on names each field of its type once.
use Rattle.std.proofs.Common.{◌≡◌, ℕ, zero, suc, ◌+◌, ◌≤◌, ◌<◌, List, [], ◌∷◌, length, map, Option, Some, None, Bool, true, false, ◌==◌, ◌&&◌, not, cond, min, refl, sym, ◌∙◌, ap, subst, arith, slice_get, ⊎_elim}
use Rattle.std.specs.List.{AllByRecursion, list_all}
use Rattle.std.proofs.lemmas.Bool.Decides.{eqb_tells}
use Rattle.std.proofs.lemmas.List.{length-map}
use Rattle.effect_meaning.specs.declared.core_nodes.FieldPart.{FieldPart}
use Rattle.effect_meaning.specs.declared.core_tables.FieldRow.{FieldRow}
use Rattle.effect_meaning.specs.Arena.{Parts}
use Rattle.effect_meaning.specs.ArenaTrees.{program, fields_of, if_record, numbers_from}
use Rattle.effect_meaning.specs.Scoped.{differ, holds, same}
use Rattle.type_terms.specs.TypeTrees.{Constructed, Tys}
use Rattle.type_terms.specs.Constructors.{NamesEachField}
use Rattle.ml_infer.specs.declared.inference.Inference.{Inference}
use Rattle.ml_infer.specs.Constructors.{field_owner, is_owner}
use Rattle.ml_infer.specs.Inference.{With, begun}
use Rattle.ml_infer.specs.Known.{known, noted}
use Rattle.ml_infer.specs.Members.{belonging, count_of, or_zero}
use Rattle.ml_infer.specs.Terms.{named_each, names_each, names_new, record_counted}
use Rattle.inference_laws.proofs.Booleans.{both_hold}
use Rattle.inference_laws.proofs.Kept.{Kept}
use Rattle.inference_laws.proofs.Fields.{counted_kept}
use Rattle.inference_laws.proofs.Noting.{noted_other, noted_same}
use Rattle.inference_laws.proofs.Trees.{got_there}
use Rattle.inference_laws.proofs.Leading.{SameKnown, same_known_here, same_rest_on}
use Rattle.inference_laws.proofs.Tables.{row_of_type, type_row_is}
use Rattle.inference_laws.proofs.Few.{Among, among_all, as_many_are_all, equals_itself, or_first, or_true, neither, true_both}

-- among the numbers of the elements that pass a test is that of one that does
module _ {X : Type 0} (test : X → Bool) where
  numbers_hold :
      (i n : ℕ) (xs : List X) (x : X) → slice_get xs n ≡ Some x → test x ≡ true → holds (numbers_from i test xs) (i + n) ≡ true
  numbers_hold i n [] x is passes = absurd (cc)
  numbers_hold i zero (y ∷ xs) x is passes =
      let rest = numbers_from (suc i) test xs in
      let same : x ≡ y = cc in
      let here : (i + 0 == i) ≡ true = ap (λ k. k == i) (let e : i + 0 ≡ i = omega arith in e) ∙ equals_itself i in
      subst (λ b. holds (cond b (i ∷ rest) rest) (i + 0) ≡ true) (sym passes ∙ ap test same)
      (or_first (i + 0 == i) (holds rest (i + 0)) here)
  numbers_hold i (suc n) (y ∷ xs) x is passes =
      let rest = numbers_from (suc i) test xs in
      let on : suc i + n ≡ i + suc n = omega arith in
      let later : holds rest (i + suc n) ≡ true = subst (λ k. holds rest k ≡ true) on (numbers_hold (suc i) n xs x is passes) in
      elim (test y) as (λ b. holds (cond b (i ∷ rest) rest) (i + suc n) ≡ true) [
        | true ↦ or_true (i + suc n == i) (holds rest (i + suc n)) later
        | false ↦ later
      ]

module _ (p : Parts) (t : ℕ) where
  -- the type owns a field
  abbrev owns : Option FieldRow → Bool
  owns None = false
  owns (Some row) = row.of_type == t

  owner_owns :
      (o : Option FieldRow) (k : Option ℕ) → k ≡ elim o [ None ↦ None | Some row ↦ Some row.of_type ]
      → elim k [ None ↦ false | Some owner ↦ owner == t ] ≡ true → owns o ≡ true
  owner_owns None None is e = absurd (cc)
  owner_owns None (Some owner) is e = absurd (cc)
  owner_owns (Some row) None is e = absurd (cc)
  owner_owns (Some row) (Some owner) is e = let same : owner ≡ row.of_type = cc in ap (λ k. k == t) (sym same) ∙ e

  -- a field that is owned is one of the type
  owned_so : (n : ℕ) (o : Option FieldRow) → slice_get p.field_rows n ≡ o → owns o ≡ true → holds (fields_of p t) n ≡ true
  owned_so n None is e = absurd (cc)
  owned_so n (Some row) is e =
      let from : 0 + n ≡ n = omega arith in
      subst (λ k. holds (fields_of p t) k ≡ true) from (numbers_hold (λ (r : FieldRow). r.of_type == t) 0 n p.field_rows row is e)

  owned : (n : ℕ) → is_owner p t n ≡ true → holds (fields_of p t) n ≡ true
  owned n e = owned_so n (slice_get p.field_rows n) refl (owner_owns (slice_get p.field_rows n) (field_owner p n) refl e)

  -- what follows where parts name fields of the type that weren't named yet, each of them once
  record NamedOnce (fs : List FieldPart) (r : With Bool) : Type 0 where
    value : r.value ≡ true
    owned_each : Among (fields_of p t) (map (λ (f : FieldPart). f.field) fs)
    new : AllByRecursion (λ (f : FieldPart). known r.state.naming f.field ≡ Some r.state.records → ⊥) fs
    once : differ (map (λ (f : FieldPart). f.field) fs) ≡ true

  -- a name that is none of these
  held_not :
      (x : ℕ) (fs : List FieldPart) → AllByRecursion (λ (f : FieldPart). f.field ≡ x → ⊥) fs
      → holds (map (λ (f : FieldPart). f.field) fs) x ≡ false
  held_not x [] h = refl
  held_not x (f ∷ fs) h =
      ⊎_elim (λ e. absurd (h.0 (sym e.1)))
      (λ e. neither (x == f.field) (holds (map (λ (g : FieldPart). g.field) fs) x) e.0 (held_not x fs h.1)) (eqb_tells x f.field)

  -- it wasn't named yet
  new_so :
      (records : ℕ) (o : Option ℕ) → not (elim o [ None ↦ false | Some last ↦ last == records ]) ≡ true → o ≡ Some records → ⊥
  new_so records None e is = cc
  new_so records (Some last) e is =
      let same : last ≡ records = cc in
      let equal : (last == records) ≡ true = ap (λ k. last == k) (sym same) ∙ equals_itself last in
      cc

  module _ (naming : List (Option ℕ)) (records x : ℕ) where
    -- those that weren't named behind a name weren't named before it, and are others
    new_before :
        (fs : List FieldPart) → AllByRecursion (λ (f : FieldPart). known (noted x records naming) f.field ≡ Some records → ⊥) fs
        → AllByRecursion (λ (f : FieldPart). known naming f.field ≡ Some records → ⊥) fs
    new_before [] h = tt
    new_before (f ∷ fs) h = (
      λ is.
          ⊎_elim (λ e. h.0 (ap (known (noted x records naming)) e.1 ∙ noted_same x records naming))
          (λ e. h.0 (noted_other x f.field records naming e.1 ∙ is)) (eqb_tells f.field x),
      new_before fs h.1,
    )

    other_names :
        (fs : List FieldPart) → AllByRecursion (λ (f : FieldPart). known (noted x records naming) f.field ≡ Some records → ⊥) fs
        → AllByRecursion (λ (f : FieldPart). f.field ≡ x → ⊥) fs
    other_names [] h = tt
    other_names (f ∷ fs) h = (λ e. h.0 (ap (known (noted x records naming)) e ∙ noted_same x records naming), other_names fs h.1)

  named_once : (fs : List FieldPart) (r : With Bool) → (named_each p t fs r).value ≡ true → NamedOnce fs r
  named_once [] r e = record { value = e; owned_each = tt; new = tt; once = refl }
  named_once (f ∷ fs) r e =
      let o = names_new p t f.field r.state in
      let others = named_once fs (record { value = r.value && o.value; state = o.state }) e in
      let both = both_hold r.value o.value others.value in
      let now = both_hold (is_owner p t f.field) _ both.1 in
      record {
        value = both.0;
        owned_each = (owned f.field now.0, others.owned_each);
        new = (
          new_so r.state.records (known r.state.naming f.field) now.1,
          new_before r.state.naming r.state.records f.field fs others.new,
        );
        once =
            true_both (not (holds (map (λ (f : FieldPart). f.field) fs) f.field)) (differ (map (λ (f : FieldPart). f.field) fs))
            (ap not (held_not f.field fs (other_names r.state.naming r.state.records f.field fs others.new))) others.once;
      }

  record_so : (x : ℕ) (xs : List ℕ) → holds xs x ≡ true → if_record xs ≡ Some xs
  record_so x [] h = absurd (cc)
  record_so x (y ∷ xs) h = refl

  -- a record expression names each field of its type once, where as many fields are counted as there are
  pub names_each_field :
      t < length p.type_rows → (f : FieldPart) (fs : List FieldPart) (s : Inference) → count_of s.fields t ≡ length (fields_of p t)
      → (names_each p t (f ∷ fs) s).value ≡ true → (ts : Tys)
      → NamesEachField (program p) (map (λ f. f.field) (f ∷ fs)) (Constructed t ts)
  names_each_field low f fs s counted e ts =
      let c = record_counted s in
      let got = got_there p.type_rows t low in
      let names : List ℕ = map (λ (f : FieldPart). f.field) (f ∷ fs) in
      let all = fields_of p t in
      let h = named_once (f ∷ fs) (record { value = length (f ∷ fs) == count_of s.fields t; state = c }) e in
      let many : length (f ∷ fs) ≡ count_of s.fields t =
      ⊎_elim (λ k. k.1) (λ k. absurd (let yes = h.value in cc)) (eqb_tells (length (f ∷ fs)) (count_of s.fields t)) in
      let as_many : length names ≡ length all = length-map (f ∷ fs) (λ (f : FieldPart). f.field) ∙ many ∙ counted in (
        t,
        ts,
        row_of_type p t got.0,
        all,
        refl,
        type_row_is p t got.0 got.1,
        record_so f.field all h.owned_each.0,
        true_both (differ names) (same names all) h.once
            (true_both (list_all (holds all) names) (list_all (holds names) all) (among_all all names h.owned_each)
            (as_many_are_all names all h.once h.owned_each as_many)),
      )

-- only what was named is noted
module _ (p : Parts) (t : ℕ) where
  same_known_on : (s u v : Inference) → SameKnown s u → SameKnown u v → SameKnown s v
  same_known_on s u v a b = record {
    rest = same_rest_on s u v a.rest b.rest;
    variables = b.variables ∙ a.variables;
    read = b.read ∙ a.read;
  }

  named_same : (fs : List FieldPart) (r : With Bool) → SameKnown r.state (named_each p t fs r).state
  named_same [] r = same_known_here r.state
  named_same (f ∷ fs) r =
      let o = names_new p t f.field r.state in
      let next : With Bool = record { value = r.value && o.value; state = o.state } in
      same_known_on r.state o.state (named_each p t fs next).state
      (record {
        rest = record { same_tasks = refl; same_given = refl; same_names = refl; same_item = refl; same_pattern = refl };
        variables = refl;
        read = refl;
      }) (named_same fs next)

  named_kept : (s0 : Inference) (fs : List FieldPart) (r : With Bool) → Kept s0 r.state → Kept s0 (named_each p t fs r).state
  named_kept s0 [] r kept = kept
  named_kept s0 (f ∷ fs) r kept =
      let o = names_new p t f.field r.state in
      let s = r.state in
      named_kept s0 fs (record { value = r.value && o.value; state = o.state })
      (counted_kept s0 s s.records s.equations s.item (noted f.field s.records s.naming) s.last kept)

-- as many fields are counted as there are, at the begin of a walk
module _ (t : ℕ) where
  numbers_few : {X : Type 0} (test : X → Bool) (i : ℕ) (xs : List X) → length (numbers_from i test xs) ≤ length xs
  numbers_few test i [] = omega arith
  numbers_few test i (x ∷ xs) =
      let rest = numbers_from (suc i) test xs in
      let few = numbers_few test (suc i) xs in
      elim (test x) as (λ b. length (cond b (i ∷ rest) rest) ≤ suc (length xs)) [ true ↦ omega arith | false ↦ omega arith ]

  counted_so :
      {X : Type 0} (of_type : X → ℕ) (row i : ℕ) (xs : List X) → length xs ≤ 4294967295
      → count_of (belonging row (map of_type xs)) t ≡ length (numbers_from i (λ x. of_type x == t) xs)
  unfolding belonging
  counted_so of_type row i [] most = refl
  counted_so of_type row i (x ∷ xs) most =
      let m = belonging (row + 1) (map of_type xs) in
      let others = counted_so of_type (row + 1) (suc i) xs (omega arith) in
      let rest = numbers_from (suc i) (λ x. of_type x == t) xs in
      let few = numbers_few (λ x. of_type x == t) (suc i) xs in
      let more : List (Option ℕ) = noted (of_type x) (min (count_of m (of_type x) + 1) 4294967295) m.counts in
      let P : Bool → Type 0 = λ b. or_zero (known more t) ≡ length (cond b (i ∷ rest) rest) in
      ⊎_elim
      (λ e.
      let now : known more t ≡ Some (min (count_of m (of_type x) + 1) 4294967295) =
      ap (known more) (sym e.1) ∙ noted_same (of_type x) (min (count_of m (of_type x) + 1) 4294967295) m.counts in
      let before : count_of m (of_type x) ≡ length rest = ap (count_of m) e.1 ∙ others in
      let sum : min (count_of m (of_type x) + 1) 4294967295 ≡ suc (length rest) = omega arith in
      subst P (sym e.0) (ap or_zero now ∙ sum))
      (λ e.
      subst P (sym e.0)
      (ap or_zero (noted_other (of_type x) t (min (count_of m (of_type x) + 1) 4294967295) m.counts (λ k. e.1 (sym k))) ∙ others))
      (eqb_tells (of_type x) t)

  pub fields_counted :
      (p : Parts) (most : ℕ) → length p.field_rows ≤ 4294967295 → count_of (begun p most).fields t ≡ length (fields_of p t)
  fields_counted p most few = counted_so (λ (r : FieldRow). r.of_type) 0 0 p.field_rows few
