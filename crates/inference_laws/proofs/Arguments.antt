-- What a written type means, by what its parts mean.
use Rattle.std.proofs.Common.{◌≡◌, ℕ, zero, suc, List, [], ◌∷◌, map, length, Option, Some, None, option_map, Bool, true, false, refl, sym, ◌∙◌, ap, subst, slice_get, ◌||◌, ◌==◌, ◌⊎◌, inl, inr, ⊎_elim}
use Rattle.std.specs.List.{AllByRecursion}
use Rattle.std.proofs.lemmas.Bool.Decides.{eqb_tells}
use Rattle.std.proofs.lemmas.List.{length-map}
use Rattle.effect_meaning.specs.declared.core_nodes.TypeExpression.TheVariants as type
use Rattle.effect_meaning.specs.declared.core_tables.TypeRow.{TypeRow}
use Rattle.effect_meaning.specs.Arena.{Parts, IsArena}
use Rattle.effect_meaning.specs.ArenaTrees.{program, type_at, types_at, types_of, type_rows_from}
use Rattle.type_terms.specs.TypeTrees.{Ty, Constructed, count}
use Rattle.type_terms.specs.WrittenTypes.{parameters_of, Means, AllMean}
use Rattle.type_readings.specs.Readings.{trees_of}
use Rattle.ml_infer.specs.declared.inference.Read.{Read}
use Rattle.ml_infer.specs.Known.{known, noted}
use Rattle.ml_infer.specs.Written.{found_of, read_before, row_takes, takes}
use Rattle.inference_laws.proofs.Noting.{noted_same, noted_other}
use Rattle.inference_laws.proofs.Trees.{type_is_tree}

or_true : (a b : Bool) → (a || b) ≡ true → a ≡ false → b ≡ true
or_true true b h e = absurd (cc)
or_true false b h e = h

-- how many trees there are
count_trees : (f : ℕ → Ty) (ns : List ℕ) → count (trees_of f ns) ≡ length ns
count_trees f [] = refl
count_trees f (n ∷ ns) = ap suc (count_trees f ns)

module _ (p : Parts) where
  -- a type constructor that takes so many arguments has so many parameters, or is the tuple
  row_parameters :
      (i : ℕ) (rows : List TypeRow) (c : ℕ)
      → parameters_of (type_rows_from p i rows) c ≡ option_map (λ (r : TypeRow). length r.parameters) (slice_get rows c)
  row_parameters i [] c = refl
  row_parameters i (r ∷ rs) zero = refl
  row_parameters i (r ∷ rs) (suc c) = row_parameters (suc i) rs c

  arguments_so :
      (c many : ℕ) (o : Option TypeRow) → slice_get p.type_rows c ≡ o → row_takes o c many ≡ true
      → (c ≡ 16) ⊎ (parameters_of (program p).types c ≡ Some many)
  arguments_so c many None is takes = absurd (cc)
  arguments_so c many (Some row) is takes =
      ⊎_elim (λ h. inl h.1)
      (λ h.
      let same : (length row.parameters == many) ≡ true = or_true (c == 16) (length row.parameters == many) takes h.0 in
      let many_are : length row.parameters ≡ many = ⊎_elim (λ k. k.1) (λ k. absurd (cc)) (eqb_tells (length row.parameters) many) in
      inr (row_parameters 0 p.type_rows c ∙ ap (option_map (λ (r : TypeRow). length r.parameters)) is ∙ ap Some many_are))
      (eqb_tells c 16)

  pub has_parameters : (c many : ℕ) → takes p c many ≡ true → (c ≡ 16) ⊎ (parameters_of (program p).types c ≡ Some many)
  has_parameters c many takes = arguments_so c many (slice_get p.type_rows c) refl takes

  module _ (f : ℕ → Ty) where
    -- the written types of these numbers mean what they were read as
    abbrev pub IsMeant : (ℕ → Ty) → List (Option Read) → ℕ → Type 0
    IsMeant vs reads n = Means (program p).types vs (type_at (types_of p) n) (f (found_of reads n))

    all_meant :
        (vs : ℕ → Ty) (reads : List (Option Read)) (ns : List ℕ) → AllByRecursion (IsMeant vs reads) ns
        → AllMean (program p).types vs (types_at (types_of p) ns) (trees_of f (map (found_of reads) ns))
    all_meant vs reads [] h = refl
    all_meant vs reads (n ∷ ns) h =
        (f (found_of reads n), trees_of f (map (found_of reads) ns), refl, h.0, all_meant vs reads ns h.1)

    -- a type constructor with its arguments
    pub applied_meant :
        IsArena p → (n c : ℕ) (ns : List ℕ) → slice_get p.types n ≡ Some (type.Applied c ns) → takes p c (length ns) ≡ true
        → (vs : ℕ → Ty) (reads : List (Option Read)) → AllByRecursion (IsMeant vs reads) ns
        → (t : Ty) → t ≡ Constructed c (trees_of f (map (found_of reads) ns))
        → Means (program p).types vs (type_at (types_of p) n) t
    applied_meant arena n c ns is takes vs reads meant t e =
        let ts = trees_of f (map (found_of reads) ns) in
        let many : count ts ≡ length ns = count_trees f (map (found_of reads) ns) ∙ length-map ns (found_of reads) in
        subst (λ w. Means (program p).types vs w t) (sym (type_is_tree p arena n (type.Applied c ns) is)) (
          ts,
          e,
          ⊎_elim (λ h. inl h) (λ h. inr (h ∙ ap Some (sym many))) (has_parameters c (length ns) takes),
          all_meant vs reads
              ns meant,
        )

    -- what was read and has no variables in it means what it was read as, for all variables
    abbrev pub IsClosedMeant : List (Option Read) → Type 0
    IsClosedMeant reads =
        (n : ℕ) (r : Read) → known reads n ≡ Some r → r.is_closed ≡ true
        → (vs : ℕ → Ty) → Means (program p).types vs (type_at (types_of p) n) (f r.found)

    closed_so :
        (reads : List (Option Read)) → IsClosedMeant reads → (n : ℕ) (o : Option Read) → known reads n ≡ o
        → elim o [ None ↦ false | Some r ↦ r.is_closed ] ≡ true
        → (vs : ℕ → Ty) → Means (program p).types vs (type_at (types_of p) n) (f (elim o [ None ↦ 4 | Some r ↦ r.found ]))
    closed_so reads closed n None is e vs = absurd (cc)
    closed_so reads closed n (Some r) is e vs = closed n r is e vs

    pub closed_is_meant :
        (reads : List (Option Read)) → IsClosedMeant reads → (n : ℕ) → read_before reads n ≡ true → (vs : ℕ → Ty)
        → IsMeant vs reads n
    closed_is_meant reads closed n e vs = closed_so reads closed n (known reads n) refl e vs

    -- what is read now
    module _ (reads : List (Option Read)) (n : ℕ) (r : Read) where
      found_noted : found_of (noted n r reads) n ≡ r.found
      found_noted = ap (λ (o : Option Read). elim o [ None ↦ 4 | Some r ↦ r.found ]) (noted_same n r reads)

      found_before : (m : ℕ) → (m ≡ n → ⊥) → found_of (noted n r reads) m ≡ found_of reads m
      found_before m other = ap (λ (o : Option Read). elim o [ None ↦ 4 | Some r ↦ r.found ]) (noted_other n m r reads other)

      some_same : (a b : Read) → Some a ≡ Some b → a ≡ b
      some_same a b e = cc

      pub closed_noted :
          IsClosedMeant reads
          → (r.is_closed ≡ true → (vs : ℕ → Ty) → Means (program p).types vs (type_at (types_of p) n) (f r.found))
          → IsClosedMeant (noted n r reads)
      closed_noted closed new m k is e vs =
          ⊎_elim
          (λ h.
          let same : r ≡ k = some_same r k (sym (noted_same n r reads) ∙ ap (known (noted n r reads)) (sym h.1) ∙ is) in
          let here : Means (program p).types vs (type_at (types_of p) n) (f r.found) = new
          (ap (λ (a : Read). a.is_closed) same ∙ e) vs in
          subst (λ a. Means (program p).types vs (type_at (types_of p) a) (f k.found)) (sym h.1)
          (subst (λ (a : Read). Means (program p).types vs (type_at (types_of p) n) (f a.found)) same here))
          (λ h. closed m k (sym (noted_other n m r reads h.1) ∙ is) e vs) (eqb_tells m n)

      pub meant_noted :
          (vs : ℕ → Ty) → Means (program p).types vs (type_at (types_of p) n) (f r.found) → (m : ℕ) → (IsMeant vs reads m ⊎ (m ≡ n))
          → IsMeant vs (noted n r reads) m
      meant_noted vs new m old =
          ⊎_elim
          (λ h.
          subst (IsMeant vs (noted n r reads)) (sym h.1)
          (subst (λ t. Means (program p).types vs (type_at (types_of p) n) (f t)) (sym found_noted) new))
          (λ h.
          ⊎_elim
          (λ before. subst (λ t. Means (program p).types vs (type_at (types_of p) m) (f t)) (sym (found_before m h.1)) before)
          (λ same. absurd (h.1 same)) old)
          (eqb_tells m n)
