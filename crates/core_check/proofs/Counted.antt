-- Rows that are declared in order are new, and those below their count are in scope.
use Rattle.std.proofs.Common.{◌≡◌, refl, ap, ◌∙◌, subst, ℕ, zero, suc, ◌+◌, ◌<◌, ◌≤◌, Bool, true, false, cond, ◌||◌, not, ◌==◌, nat_lt, nat_le, List, [], ◌∷◌, ◌++◌, flat_map, drop, length, slice_get, Some, arith}
use Rattle.std.specs.List.{list_all}
use Rattle.std.proofs.lemmas.List.Folds.{list_any-append}
use Rattle.effect_meaning.specs.ArenaTrees.{numbers_from}
use Rattle.effect_meaning.specs.Scoped.{holds, differ, go_up, rows_new, below}
use Rattle.core_check.specs.Declares.{front, is_between}
use Rattle.core_check.proofs.Lists.{and_true}
use Rattle.core_check.proofs.Apart.{split}

-- the numbers that go up from one
pub up_within : (i n : ℕ) (xs : List ℕ) → go_up i xs ≡ true → i ≤ n → n < i + length xs → holds xs n ≡ true
up_within i n [] h low high = absurd (omega (arith, low, high))
up_within i n (x ∷ xs) h low high =
    let is : (x == i) ≡ true = grind arith in
    let others : go_up (suc i) xs ≡ true = grind arith in
    split (n == x)
    (λ e. ap (λ b. b || holds xs n) e)
    (λ e.
    let behind : suc i ≤ n = grind arith in
    let less : n < suc i + length xs = omega (arith, high) in
    let there : holds xs n ≡ true = up_within (suc i) n xs others behind less in
    grind arith)

pub up_below : (i n : ℕ) (xs : List ℕ) → go_up i xs ≡ true → n < i → holds xs n ≡ false
up_below i n [] h low = refl
up_below i n (x ∷ xs) h low =
    let is : (x == i) ≡ true = grind arith in
    let others : go_up (suc i) xs ≡ true = grind arith in
    let less : n < suc i = omega (arith, low) in
    let rest : holds xs n ≡ false = up_below (suc i) n xs others less in
    let here : (n == x) ≡ false = grind arith in
    grind arith

pub up_behind : (i n : ℕ) (xs : List ℕ) → go_up i xs ≡ true → i + length xs ≤ n → holds xs n ≡ false
up_behind i n [] h high = refl
up_behind i n (x ∷ xs) h high =
    let is : (x == i) ≡ true = grind arith in
    let others : go_up (suc i) xs ≡ true = grind arith in
    let more : suc i + length xs ≤ n = omega (arith, high) in
    let rest : holds xs n ≡ false = up_behind (suc i) n xs others more in
    let first : i < n = omega (arith, high) in
    let here : (n == x) ≡ false = grind arith in
    grind arith

up_differ : (i : ℕ) (xs : List ℕ) → go_up i xs ≡ true → differ xs ≡ true
up_differ i [] h = refl
up_differ i (x ∷ xs) h =
    let is : x ≡ i = grind arith in
    let others : go_up (suc i) xs ≡ true = grind arith in
    let less : x < suc i = omega (arith, is) in
    let apart : holds xs x ≡ false = up_below (suc i) x xs others less in
    and_true {a = not (holds xs x)} {b = differ xs} (ap not apart) (up_differ (suc i) xs others)

up_new : (m i : ℕ) (declared xs : List ℕ) → ((n : ℕ) → nat_le m n ≡ true → holds declared n ≡ false) → go_up i xs ≡ true → m ≤ i
    → list_all (λ r. not (holds declared r)) xs ≡ true
up_new m i declared [] none h low = refl
up_new m i declared (x ∷ xs) none h low =
    let is : (x == i) ≡ true = grind arith in
    let others : go_up (suc i) xs ≡ true = grind arith in
    let there : nat_le m x ≡ true = grind arith in
    let more : m ≤ suc i = omega (arith, low) in
    and_true {a = not (holds declared x)} {b = list_all (λ r. not (holds declared r)) xs} (ap not (none x there))
    (up_new m (suc i) declared xs none others more)

-- the rows behind all that are declared are new
pub rows_new_behind : (m : ℕ) (declared xs : List ℕ) → ((n : ℕ) → nat_le m n ≡ true → holds declared n ≡ false) → go_up m xs ≡ true
    → rows_new declared xs ≡ true
rows_new_behind m declared xs none h =
    and_true {a = differ xs} {b = list_all (λ r. not (holds declared r)) xs} (up_differ m xs h) (up_new m m declared xs none h (omega arith))

-- what is in scope then
pub within_behind : (m : ℕ) (declared xs : List ℕ) → ((n : ℕ) → nat_lt n m ≡ true → holds declared n ≡ true) → go_up m xs ≡ true
    → (n : ℕ) → nat_lt n (m + length xs) ≡ true → holds (xs ++ declared) n ≡ true
within_behind m declared xs all h n less =
    let parts : holds (xs ++ declared) n ≡ (holds xs n || holds declared n) = list_any-append (λ y. n == y) xs declared in
    split (nat_lt n m)
    (λ e. let old : holds declared n ≡ true = all n e in grind arith)
    (λ e.
    let low : m ≤ n = grind arith in
    let high : n < m + length xs = grind arith in
    let new : holds xs n ≡ true = up_within m n xs h low high in
    grind arith)

pub none_behind : (m : ℕ) (declared xs : List ℕ) → ((n : ℕ) → nat_le m n ≡ true → holds declared n ≡ false) → go_up m xs ≡ true
    → (n : ℕ) → nat_le (m + length xs) n ≡ true → holds (xs ++ declared) n ≡ false
none_behind m declared xs none h n more =
    let parts : holds (xs ++ declared) n ≡ (holds xs n || holds declared n) = list_any-append (λ y. n == y) xs declared in
    let high : m + length xs ≤ n = grind arith in
    let low : nat_le m n ≡ true = grind arith in
    let old : holds declared n ≡ false = none n low in
    let new : holds xs n ≡ false = up_behind m n xs h high in
    grind arith

-- the numbers below one
pub holds_below : (m n : ℕ) → holds (below m) n ≡ nat_lt n m
holds_below zero n = grind arith
holds_below (suc m) n =
    let rest : holds (below m) n ≡ nat_lt n m = holds_below m n in
    grind arith

-- the element of a number in front of those that fail a test passes it
pub in_front : {X : Type 0} (test : X → Bool) (first j : ℕ) (xs : List X) → first ≤ j → j < first + front test (drop first xs)
    → (x : X) × (test x ≡ true) × (slice_get xs j ≡ Some x)
in_front test zero j [] low high = absurd (omega (arith, high))
in_front test zero zero (x ∷ xs) low high =
    split (test x)
    (λ e. (x, e, refl))
    (λ e. let none : front test (x ∷ xs) ≡ 0 = ap (λ b. cond b (suc (front test xs)) 0) e in absurd (omega (arith, high, none)))
in_front test zero (suc j) (x ∷ xs) low high =
    split (test x)
    (λ e.
    let more : front test (x ∷ xs) ≡ suc (front test xs) = ap (λ b. cond b (suc (front test xs)) 0) e in
    in_front test zero j xs (omega arith) (omega (arith, high, more)))
    (λ e. let none : front test (x ∷ xs) ≡ 0 = ap (λ b. cond b (suc (front test xs)) 0) e in absurd (omega (arith, high, none)))
in_front test (suc first) j [] low high = absurd (omega (arith, low, high))
in_front test (suc first) zero (x ∷ xs) low high = absurd (omega (arith, low))
in_front test (suc first) (suc j) (x ∷ xs) low high = in_front test first j xs (omega (arith, low)) (omega (arith, high))

-- the number of an element that passes a test is one of those
pub numbered : {X : Type 0} (test : X → Bool) (i j : ℕ) (xs : List X) (x : X) → slice_get xs j ≡ Some x → test x ≡ true
    → holds (numbers_from i test xs) (i + j) ≡ true
numbered test i j [] x is h = absurd (grind arith)
numbered test i zero (y ∷ ys) x is h =
    let same : y ≡ x = grind arith in
    let passes : test y ≡ true = ap test same ∙ h in
    let R : List ℕ = numbers_from (suc i) test ys in
    let here : (i + 0 == i) ≡ true = grind arith in
    ap (λ b. holds (cond b (i ∷ R) R) (i + 0)) passes ∙ ap (λ b. b || holds R (i + 0)) here
numbered test i (suc j) (y ∷ ys) x is h =
    let R : List ℕ = numbers_from (suc i) test ys in
    let there : holds R (suc i + j) ≡ true = numbered test (suc i) j ys x is h in
    let moved : suc i + j ≡ i + suc j = omega arith in
    let held : holds R (i + suc j) ≡ true = subst (λ n. holds R n ≡ true) moved there in
    split (test y)
    (λ e.
    let both : ((i + suc j == i) || holds R (i + suc j)) ≡ true = grind arith in
    ap (λ b. holds (cond b (i ∷ R) R) (i + suc j)) e ∙ both)
    (λ e. ap (λ b. holds (cond b (i ∷ R) R) (i + suc j)) e ∙ held)

-- what one of the lists holds
pub held_flat : (f : ℕ → List ℕ) (t n : ℕ) (ts : List ℕ) → holds ts t ≡ true → holds (f t) n ≡ true → holds (flat_map f ts) n ≡ true
held_flat f t n [] h g = absurd (grind arith)
held_flat f t n (u ∷ us) h g =
    let parts : holds (f u ++ flat_map f us) n ≡ (holds (f u) n || holds (flat_map f us) n) = list_any-append (λ y. n == y) (f u) (flat_map f us) in
    split (t == u)
    (λ e.
    let same : t ≡ u = grind arith in
    let here : holds (f u) n ≡ true = subst (λ v. holds (f v) n ≡ true) same g in
    grind arith)
    (λ e.
    let later : holds us t ≡ true = grind arith in
    let there : holds (flat_map f us) n ≡ true = held_flat f t n us later g in
    grind arith)

-- constructors or fields of the types of an item that stand behind those in scope come into scope
pub owned_behind : {X : Type 0} (of : X → ℕ) (rows : List X) (count low : ℕ) (ts declared : List ℕ)
    → ((n : ℕ) → nat_lt n count ≡ true → holds declared n ≡ true)
    → go_up low ts ≡ true
    → (n : ℕ) → nat_lt n (count + front (λ r. is_between low (low + length ts) (of r)) (drop count rows)) ≡ true
    → holds (flat_map (λ t. numbers_from 0 (λ r. of r == t) rows) ts ++ declared) n ≡ true
owned_behind of rows count low ts declared all up n less =
    let F : List ℕ = flat_map (λ t. numbers_from 0 (λ r. of r == t) rows) ts in
    let parts : holds (F ++ declared) n ≡ (holds F n || holds declared n) = list_any-append (λ y. n == y) F declared in
    split (nat_lt n count)
    (λ e. let old : holds declared n ≡ true = all n e in grind arith)
    (λ e.
    let behind : count ≤ n = grind arith in
    let inside : n < count + front (λ r. is_between low (low + length ts) (of r)) (drop count rows) = grind arith in
    let r = in_front (λ r. is_between low (low + length ts) (of r)) count n rows behind inside in
    let between : is_between low (low + length ts) (of r.0) ≡ true = r.1 in
    let least : low ≤ of r.0 = grind arith in
    let most : of r.0 < low + length ts = grind arith in
    let type : holds ts (of r.0) ≡ true = up_within low (of r.0) ts up least most in
    let itself : (of r.0 == of r.0) ≡ true = grind arith in
    let one : holds (numbers_from 0 (λ x. of x == of r.0) rows) (0 + n) ≡ true =
    numbered (λ x. of x == of r.0) 0 n rows r.0 r.2 itself in
    let zero_on : 0 + n ≡ n = omega arith in
    let new : holds F n ≡ true =
    held_flat (λ t. numbers_from 0 (λ x. of x == t) rows) (of r.0) n ts type (subst (λ m. holds (numbers_from 0 (λ x. of x == of r.0) rows) m ≡ true) zero_on one) in
    grind arith)
