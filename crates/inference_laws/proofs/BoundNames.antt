-- Lists of names, and the types of names that a pattern binds.
use Rattle.std.proofs.Common.{◌≡◌, ℕ, List, [], ◌∷◌, ◌++◌, Some, Bool, true, false, ◌||◌, ◌==◌, refl, sym, ◌∙◌, ap, subst, ⊎_elim}
use Rattle.std.specs.Prelude.{IsTrue, MatchBool}
use Rattle.std.specs.List.{AllByRecursion, list_all}
use Rattle.std.proofs.lemmas.Bool.Decides.{eqb_tells}
use Rattle.std.proofs.lemmas.List.{map-append}
use Rattle.std.proofs.lemmas.List.Folds.{list_any-append}
use Rattle.effect_meaning.specs.Scoped.{holds, same}
use Rattle.type_terms.specs.TypeTrees.{Ty}
use Rattle.type_terms.specs.Contexts.{Names, NameHas, SameNames}
use Rattle.ml_infer.specs.declared.inference.Inference.{Inference}
use Rattle.ml_infer.specs.declared.inference.NameType.TheVariants.{One}
use Rattle.inference_laws.proofs.Booleans.{both_hold}
use Rattle.inference_laws.proofs.Each.{each_so}
use Rattle.inference_laws.proofs.Steady.{Steady}
use Rattle.inference_laws.proofs.Grounds.{IsBound, names_of}
use Rattle.effect_meaning.specs.Arena.{Parts}

-- the one test is passed just where the other one is
same_test : (a b : Bool) → (a ≡ true → b ≡ true) → (b ≡ true → a ≡ true) → a ≡ b
same_test true b there back = sym (there refl)
same_test false true there back = back refl
same_test false false there back = refl

pub other_number : (x y : ℕ) → (x == y) ≡ false → x ≡ y → ⊥
other_number x y h is = ⊎_elim (λ k. let t = k.0 in absurd (cc)) (λ k. k.1 is) (eqb_tells x y)

-- a list of names behind another one
pub holds_appended : (xs ys : List ℕ) (x : ℕ) → holds (xs ++ ys) x ≡ (holds xs x || holds ys x)
holds_appended xs ys x = list_any-append (λ y. x == y) xs ys

all_held : (xs ys : List ℕ) → IsTrue (list_all (holds ys) xs) → (x : ℕ) → holds xs x ≡ true → holds ys x ≡ true
all_held [] ys h x there = absurd (cc)
all_held (y ∷ xs) ys h x there =
    let both = both_hold (holds ys y) (list_all (holds ys) xs) h in
    ⊎_elim (λ k. ap (holds ys) k.1 ∙ both.0)
    (λ k. all_held xs ys both.1 x (sym (ap (λ b. b || holds xs x) k.0) ∙ there)) (eqb_tells x y)

-- lists of the same names
pub same_held : (xs ys : List ℕ) → IsTrue (same xs ys) → (x : ℕ) → holds xs x ≡ holds ys x
same_held xs ys h x =
    let both = both_hold (list_all (holds ys) xs) (list_all (holds xs) ys) h in
    same_test (holds xs x) (holds ys x) (all_held xs ys both.0 x) (all_held ys xs both.1 x)

-- the names of two lists of names with their types, where the lists are those of these names
pub keys_same :
    (ns ms : Names) (xs ys : List ℕ) → ((x : ℕ) → holds (names_of ns) x ≡ holds xs x)
    → ((x : ℕ) → holds (names_of ms) x ≡ holds ys x)
    → IsTrue (same xs ys) → (x : ℕ) → holds (names_of ns) x ≡ holds (names_of ms) x
keys_same ns ms xs ys one two are x = one x ∙ same_held xs ys are x ∙ sym (two x)

-- and where the one list stands before the other one
pub keys_appended :
    (ns ms : Names) (xs ys : List ℕ) → ((x : ℕ) → holds (names_of ns) x ≡ holds xs x)
    → ((x : ℕ) → holds (names_of ms) x ≡ holds ys x)
    → (x : ℕ) → holds (names_of (ns ++ ms)) x ≡ holds (xs ++ ys) x
keys_appended ns ms xs ys one two x =
    ap (λ l. holds l x) (map-append (λ n. n.0) ns ms) ∙ holds_appended (names_of ns) (names_of ms) x
    ∙ ap (λ b. b || holds (names_of ms) x) (one x) ∙ ap (λ b. holds xs x || b) (two x) ∙ sym (holds_appended xs ys x)

-- the names of a pattern's parts, and then a further one
or_turned : (a b : Bool) → (a || b) ≡ (b || (a || false))
or_turned true true = refl
or_turned true false = refl
or_turned false true = refl
or_turned false false = refl

pub keys_named :
    (ns : Names) (xs : List ℕ) (y : ℕ) (t : Ty) → ((x : ℕ) → holds (names_of ns) x ≡ holds xs x)
    → (x : ℕ) → holds (names_of ((y, t) ∷ ns)) x ≡ holds (xs ++ y ∷ []) x
keys_named ns xs y t one x =
    ap (λ b. (x == y) || b) (one x) ∙ or_turned (x == y) (holds xs x) ∙ sym (holds_appended xs (y ∷ []) x)

-- names that are bound stay so
pub bound_later :
    (f : ℕ → Ty) (p : Parts) (s e : Inference) → Steady p s e → (ns : Names) → AllByRecursion (IsBound f s) ns
    → AllByRecursion (IsBound f e) ns
bound_later f p s e steady ns all =
    each_so (IsBound f s) (IsBound f e)
    (λ n h. (h.0, steady.bound_stay n.0 h.0 h.1 ∙ h.1 ∙ ap (λ q. Some (One h.0 q)) (sym steady.pattern), h.2)) ns all

-- lists of the same bound names give each name the same type
module _ (f : ℕ → Ty) (e : Inference) (x : ℕ) where
  one_tree : (t u : Ty) → IsBound f e (x, t) → IsBound f e (x, u) → t ≡ u
  one_tree t u a b =
      let v = a.0 in
      let w = b.0 in
      let one = a.1 in
      let two = b.1 in
      let same : v ≡ w = cc in sym a.2 ∙ ap f same ∙ b.2

  has_bound :
      (t : Ty) (ns : Names) → AllByRecursion (IsBound f e) ns → NameHas ns x t ⊥
      → (holds (names_of ns) x ≡ true) × IsBound f e (x, t)
  has_bound t [] all has = absurd has
  has_bound t (n ∷ ns) all has =
      ⊎_elim
      (λ k.
      let is : t ≡ n.1 = subst (λ b. MatchBool b (t ≡ n.1) (NameHas ns x t ⊥)) k.0 has in (
        ap (λ b. b || holds (names_of ns) x) k.0,
        subst (λ u. IsBound f e (x, u)) (sym is) (subst (λ y. IsBound f e (y, n.1)) (sym k.1) all.0),
      ))
      (λ k.
      let more = has_bound t ns all.1 (subst (λ b. MatchBool b (t ≡ n.1) (NameHas ns x t ⊥)) k.0 has) in
      (ap (λ b. b || holds (names_of ns) x) k.0 ∙ more.0, more.1))
      (eqb_tells x n.0)

  bound_has :
      (t : Ty) (ns : Names) → AllByRecursion (IsBound f e) ns → holds (names_of ns) x ≡ true → IsBound f e (x, t)
      → NameHas ns x t ⊥
  bound_has t [] all there is = absurd (cc)
  bound_has t (n ∷ ns) all there is =
      ⊎_elim
      (λ k.
      subst (λ b. MatchBool b (t ≡ n.1) (NameHas ns x t ⊥)) (sym k.0)
      (one_tree t n.1 is (subst (λ y. IsBound f e (y, n.1)) (sym k.1) all.0)))
      (λ k.
      subst (λ b. MatchBool b (t ≡ n.1) (NameHas ns x t ⊥)) (sym k.0)
      (bound_has t ns all.1 (sym (ap (λ b. b || holds (names_of ns) x) k.0) ∙ there) is))
      (eqb_tells x n.0)

  over : (t : Ty) (ns ms : Names) → AllByRecursion (IsBound f e) ns → AllByRecursion (IsBound f e) ms
      → holds (names_of ns) x ≡ holds (names_of ms) x → NameHas ns x t ⊥ → NameHas ms x t ⊥
  over t ns ms all others keys has =
      let k = has_bound t ns all has in bound_has t ms others (sym keys ∙ k.0) k.1

pub same_bound :
    (f : ℕ → Ty) (e : Inference) (ns ms : Names) → AllByRecursion (IsBound f e) ns → AllByRecursion (IsBound f e) ms
    → ((x : ℕ) → holds (names_of ns) x ≡ holds (names_of ms) x) → SameNames ns ms
same_bound f e ns ms all others keys x t =
    (over f e x t ns ms all others (keys x), over f e x t ms ns others all (sym (keys x)))
