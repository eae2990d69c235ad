-- Texts that pass the test differ.
use Rattle.std.proofs.Common.{◌≡◌, refl, ap, ◌∙◌, subst, ℕ, Bool, true, false, cond, ◌&&◌, ◌||◌, not, ◌==◌, List, [], ◌∷◌, ◌++◌, map, filter, arith, append_assoc}
use Rattle.std.specs.Prelude.{bytes_eq}
use Rattle.std.specs.List.{list_any, list_all}
use Rattle.std.proofs.lemmas.List.Folds.{list_any-append}
use Rattle.effect_meaning.specs.Scoped.{same_text, texts_differ}
use Rattle.core_check.specs.Texts.{is_met, told_apart}
use Rattle.core_check.proofs.Lists.{and_true}

-- a truth value is one of the two
pub split : {G : Type 0} (b : Bool) → (b ≡ true → G) → (b ≡ false → G) → G
split true holds_ fails = holds_ refl
split false holds_ fails = fails refl

-- the comparison of a later text with an earlier one
same_turned : (later earlier : List ℕ) → same_text earlier later ≡ bytes_eq later earlier
same_turned [] [] = refl
same_turned [] (c ∷ cs) = refl
same_turned (b ∷ bs) [] = refl
same_turned (b ∷ bs) (c ∷ cs) =
    let rest : same_text cs bs ≡ bytes_eq bs cs = same_turned bs cs in
    let here : (c == b) ≡ (b == c) = grind arith in
    ap (λ k. k && same_text cs bs) here ∙ ap (λ k. (b == c) && k) rest

module _ {X : Type 0} (number : X → ℕ) (text : X → List ℕ) where
  -- a later one is not the same as this one
  abbrev Unlike : ℕ → List ℕ → X → Bool
  Unlike n t x = not ((number x == n) && bytes_eq (text x) t)

  -- none is the same as one that was met before
  unlike_met : (front back : List (ℕ × List ℕ)) (n : ℕ) (t : List ℕ) (xs : List X)
      → told_apart number text (front ++ (n, t) ∷ back) xs ≡ true → list_all (Unlike n t) xs ≡ true
  unlike_met front back n t [] h = refl
  unlike_met front back n t (x ∷ xs) h =
      let met : List (ℕ × List ℕ) = front ++ (n, t) ∷ back in
      let absent : not (is_met met (number x) (text x)) ≡ true = grind arith in
      let others : told_apart number text (met ++ (number x, text x) ∷ []) xs ≡ true = grind arith in
      let parts : is_met met (number x) (text x) ≡ (is_met front (number x) (text x) || is_met ((n, t) ∷ back) (number x) (text x)) =
      list_any-append (λ q. (number x == q.0) && bytes_eq (text x) q.1) front ((n, t) ∷ back) in
      let here : Unlike n t x ≡ true = grind arith in
      let moved : met ++ (number x, text x) ∷ [] ≡ front ++ (n, t) ∷ (back ++ (number x, text x) ∷ []) =
      append_assoc front ((n, t) ∷ back) ((number x, text x) ∷ []) in
      let rest : list_all (Unlike n t) xs ≡ true =
      unlike_met front (back ++ (number x, text x) ∷ []) n t xs (subst (λ m. told_apart number text m xs ≡ true) moved others) in
      and_true {a = Unlike n t x} {b = list_all (Unlike n t) xs} here rest

  -- those behind the first one, which are not the same as it
  unlike_first : (met : List (ℕ × List ℕ)) (x : X) (xs : List X) → told_apart number text met (x ∷ xs) ≡ true
      → list_all (Unlike (number x) (text x)) xs ≡ true
  unlike_first met x xs h =
      let others : told_apart number text (met ++ (number x, text x) ∷ []) xs ≡ true = grind arith in
      unlike_met met [] (number x) (text x) xs others

  -- a text is unlike those with its number that are not the same
  unlike_kept : (n : ℕ) (t : List ℕ) (xs : List X) → list_all (Unlike n t) xs ≡ true
      → list_any (same_text t) (map text (filter (λ x. number x == n) xs)) ≡ false
  unlike_kept n t [] h = refl
  unlike_kept n t (x ∷ xs) h =
      let R : List X = filter (λ x. number x == n) xs in
      let here : Unlike n t x ≡ true = grind arith in
      let others : list_all (Unlike n t) xs ≡ true = grind arith in
      let rest : list_any (same_text t) (map text R) ≡ false = unlike_kept n t xs others in
      split (number x == n)
      (λ e.
      let turned : same_text t (text x) ≡ bytes_eq (text x) t = same_turned (text x) t in
      let apart : same_text t (text x) ≡ false = grind arith in
      let both : (same_text t (text x) || list_any (same_text t) (map text R)) ≡ false = grind arith in
      ap (λ b. list_any (same_text t) (map text (cond b (x ∷ R) R))) e ∙ both)
      (λ e. ap (λ b. list_any (same_text t) (map text (cond b (x ∷ R) R))) e ∙ rest)

  -- the texts of each number differ
  pub apart_each : (n : ℕ) (met : List (ℕ × List ℕ)) (xs : List X) → told_apart number text met xs ≡ true
      → texts_differ (map text (filter (λ x. number x == n) xs)) ≡ true
  apart_each n met [] h = refl
  apart_each n met (x ∷ xs) h =
      let R : List X = filter (λ x. number x == n) xs in
      let others : told_apart number text (met ++ (number x, text x) ∷ []) xs ≡ true = grind arith in
      let rest : texts_differ (map text R) ≡ true = apart_each n (met ++ (number x, text x) ∷ []) xs others in
      split (number x == n)
      (λ e.
      let is : number x ≡ n = grind arith in
      let apart : list_any (same_text (text x)) (map text R) ≡ false =
      unlike_kept n (text x) xs (subst (λ m. list_all (Unlike m (text x)) xs ≡ true) is (unlike_first met x xs h)) in
      ap (λ b. texts_differ (map text (cond b (x ∷ R) R))) e
      ∙ and_true {a = not (list_any (same_text (text x)) (map text R))} {b = texts_differ (map text R)} (ap not apart) rest)
      (λ e. ap (λ b. texts_differ (map text (cond b (x ∷ R) R))) e ∙ rest)

-- all of a list have the number 0
all_kept : {X : Type 0} (xs : List X) → filter (λ x. 0 == 0) xs ≡ xs
all_kept [] = refl
all_kept (x ∷ xs) = ap (λ l. x ∷ l) (all_kept xs)

-- the texts of a list differ that is told apart by them alone
pub apart_all : {X : Type 0} (text : X → List ℕ) (xs : List X) → told_apart (λ x. 0) text [] xs ≡ true → texts_differ (map text xs) ≡ true
apart_all text xs h = subst (λ l. texts_differ (map text l) ≡ true) (all_kept xs) (apart_each (λ x. 0) text 0 [] xs h)

each_itself : {X : Type 0} (xs : List X) → map (λ x. x) xs ≡ xs
each_itself [] = refl
each_itself (x ∷ xs) = ap (λ l. x ∷ l) (each_itself xs)

pub apart_texts : (ts : List (List ℕ)) → told_apart (λ t. 0) (λ t. t) [] ts ≡ true → texts_differ ts ≡ true
apart_texts ts h = subst (λ l. texts_differ l ≡ true) (each_itself ts) (apart_all (λ t. t) ts h)

-- whether an element passes a test behind a map
pub any_mapped : {A B : Type 0} (p : B → Bool) (f : A → B) (xs : List A) → list_any p (map f xs) ≡ list_any (λ x. p (f x)) xs
any_mapped p f [] = refl
any_mapped p f (x ∷ xs) = ap (λ b. p (f x) || b) (any_mapped p f xs)
