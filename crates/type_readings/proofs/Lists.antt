-- What holds of each element, and pairs of two lists.
use Rattle.std.proofs.Common.{◌≡◌, ℕ, suc, ◌+◌, ◌≤◌, List, [], ◌∷◌, ◌++◌, length, take, drop, reverse, zip, true, false, refl, sym, ap, subst, arith, if◌then◌else◌, nat_le, ⊎_elim}
use Rattle.std.proofs.lemmas.Bool.Decides.{leb_tells}
use Rattle.std.specs.List.{AllByRecursion}
use Rattle.std.proofs.lemmas.List.{reverse-append, reverse-reverse, length-take, length-take-le, length-drop}
use Rattle.std.proofs.lemmas.List.Elements.{All-from_recursion, recursion_from_All, All-take, All-drop}
use Rattle.type_terms.specs.TypeTrees.{Ty}
use Rattle.type_graph.specs.Graph.{part_of}
use Rattle.type_readings.specs.Readings.{trees_of, AllEqual}
use Rattle.type_readings.specs.WellFormed.{AreNumbers, ArePairs}

-- what is weaker holds of each too
pub each_so : {X : Type 0} (P Q : X → Type 0) (xs : List X) → ((x : X) → P x → Q x) → AllByRecursion P xs → AllByRecursion Q xs
each_so P Q [] so h = tt
each_so P Q (x ∷ xs) so h = (so x h.0, each_so P Q xs so h.1)

module _ {X : Type 0} (P : X → Type 0) where
  pub each_appended : (xs ys : List X) → AllByRecursion P xs → AllByRecursion P ys → AllByRecursion P (xs ++ ys)
  each_appended [] ys h k = k
  each_appended (x ∷ xs) ys h k = (h.0, each_appended xs ys h.1 k)

  pub each_parted : (xs ys : List X) → AllByRecursion P (xs ++ ys) → AllByRecursion P xs × AllByRecursion P ys
  each_parted [] ys h = (tt, h)
  each_parted (x ∷ xs) ys h = let k = each_parted xs ys h.1 in ((h.0, k.0), k.1)

  pub each_reversed : (xs : List X) → AllByRecursion P xs → AllByRecursion P (reverse xs)
  each_reversed [] h = tt
  each_reversed (x ∷ xs) h =
      let one : List X = x ∷ [] in
      subst (AllByRecursion P) (sym (reverse-append one xs)) (each_appended (reverse xs) one (each_reversed xs h.1) (h.0, tt))

  pub each_turned_back : (xs : List X) → AllByRecursion P (reverse xs) → AllByRecursion P xs
  each_turned_back xs h = subst (AllByRecursion P) (reverse-reverse xs) (each_reversed (reverse xs) h)

  pub each_of_part : (xs : List X) (first count : ℕ) → AllByRecursion P xs → AllByRecursion P (part_of xs first count)
  each_of_part xs first count h =
      elim (nat_le (first + count) (length xs)) as (λ b. AllByRecursion P (if b then take count (drop first xs) else [])) [
        | true ↦
            recursion_from_All P (take count (drop first xs)) (All-take P count (drop first xs) (All-drop P first xs (All-from_recursion P xs h)))
        | false ↦ tt
      ]

-- so many elements stand there
pub length_of_part : {X : Type 0} (xs : List X) (first count : ℕ) → first + count ≤ length xs → length (part_of xs first count) ≡ count
length_of_part xs first count h =
    ⊎_elim (λ p. rw p.0 (length-take-le count (drop first xs) (rw length-drop (omega arith)))) (λ p. absurd (omega arith)) (leb_tells (first + count) (length xs))

-- no more than all
pub part_not_longer : {X : Type 0} (xs : List X) (first count : ℕ) → length (part_of xs first count) ≤ length xs
part_not_longer xs first count =
    ⊎_elim (λ p. rw p.0 (rw length-take (omega (arith, length-drop first xs)))) (λ p. rw p.0 (omega arith)) (leb_tells (first + count) (length xs))

module _ (f : ℕ → Ty) where
  -- two lists have the same trees
  pub trees_from_pairs : (xs ys : List ℕ) → length xs ≡ length ys → AllEqual f (zip xs ys) → trees_of f xs ≡ trees_of f ys
  trees_from_pairs [] [] l h = refl
  trees_from_pairs [] (y ∷ ys) l h = absurd (omega arith)
  trees_from_pairs (x ∷ xs) [] l h = absurd (omega arith)
  trees_from_pairs (x ∷ xs) (y ∷ ys) l h =
      let k : length xs ≡ length ys = omega arith in
      let e = h.0 in
      let r = trees_from_pairs xs ys k h.1 in
      cc

  pub pairs_from_trees : (xs ys : List ℕ) → trees_of f xs ≡ trees_of f ys → AllEqual f (zip xs ys)
  pairs_from_trees [] ys e = tt
  pairs_from_trees (x ∷ xs) [] e = tt
  pairs_from_trees (x ∷ xs) (y ∷ ys) e =
      let first : f x ≡ f y = cc in
      let rest : trees_of f xs ≡ trees_of f ys = cc in
      (first, pairs_from_trees xs ys rest)

  -- then they are equally long
  pub trees_as_many : (xs ys : List ℕ) → trees_of f xs ≡ trees_of f ys → length xs ≡ length ys
  trees_as_many [] [] e = refl
  trees_as_many [] (y ∷ ys) e = absurd (cc)
  trees_as_many (x ∷ xs) [] e = absurd (cc)
  trees_as_many (x ∷ xs) (y ∷ ys) e =
      let rest : trees_of f xs ≡ trees_of f ys = cc in
      ap suc (trees_as_many xs ys rest)

-- pairs of numbers of types
pub pairs_of_numbers : (n : ℕ) (xs ys : List ℕ) → AreNumbers n xs → AreNumbers n ys → ArePairs n (zip xs ys)
pairs_of_numbers n [] ys h k = tt
pairs_of_numbers n (x ∷ xs) [] h k = tt
pairs_of_numbers n (x ∷ xs) (y ∷ ys) h k = ((h.0, k.0), pairs_of_numbers n xs ys h.1 k.1)
