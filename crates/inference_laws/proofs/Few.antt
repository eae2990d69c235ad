-- Numbers that differ and stand among others are no more than these; if they are as many, the others stand among them.
use Rattle.std.proofs.Common.{◌≡◌, ℕ, suc, ◌≤◌, List, [], ◌∷◌, length, Bool, true, false, ◌==◌, ◌||◌, ◌&&◌, not, if◌then◌else◌, refl, sym, ◌∙◌, ap, subst, arith, ⊎_elim}
use Rattle.std.specs.List.{AllByRecursion, list_all}
use Rattle.std.proofs.lemmas.Bool.Decides.{eqb_tells}
use Rattle.effect_meaning.specs.Scoped.{holds, differ}
use Rattle.inference_laws.proofs.Booleans.{both_fail, both_hold}

pub true_both : (a b : Bool) → a ≡ true → b ≡ true → (a && b) ≡ true
true_both true b e h = h
true_both false b e h = absurd (cc)

not_true : (a : Bool) → not a ≡ true → a ≡ false
not_true true e = absurd (cc)
not_true false e = refl

or_second : (a b : Bool) → (a || b) ≡ true → a ≡ false → b ≡ true
or_second true b e h = absurd (cc)
or_second false b e h = e

pub neither : (a b : Bool) → a ≡ false → b ≡ false → (a || b) ≡ false
neither true b e h = absurd (cc)
neither false b e h = h

pub or_true : (a b : Bool) → b ≡ true → (a || b) ≡ true
or_true true b e = refl
or_true false b e = e

pub or_first : (a b : Bool) → a ≡ true → (a || b) ≡ true
or_first true b e = refl
or_first false b e = absurd (cc)

-- a number equals itself
pub equals_itself : (n : ℕ) → (n == n) ≡ true
equals_itself n = ⊎_elim (λ h. h.0) (λ h. absurd (h.1 refl)) (eqb_tells n n)

-- each of some numbers stands among others
abbrev pub Among : List ℕ → List ℕ → Type 0
Among ys xs = AllByRecursion (λ x. holds ys x ≡ true) xs

-- without a number, where it stands first
removed : ℕ → List ℕ → List ℕ
removed x [] = []
removed x (y ∷ ys) = if x == y then ys else y ∷ removed x ys

removed_length : (x : ℕ) (ys : List ℕ) → holds ys x ≡ true → length ys ≡ suc (length (removed x ys))
unfolding removed
removed_length x [] h = absurd (cc)
removed_length x (y ∷ ys) h =
    let P : Bool → Type 0 = λ b. suc (length ys) ≡ suc (length (if b then ys else y ∷ removed x ys)) in
    ⊎_elim (λ k. subst P (sym k.0) refl)
    (λ k. subst P (sym k.0) (ap suc (removed_length x ys (or_second (x == y) (holds ys x) h k.0)))) (eqb_tells x y)

removed_holds : (x z : ℕ) (ys : List ℕ) → holds ys z ≡ true → (z == x) ≡ false → holds (removed x ys) z ≡ true
unfolding removed
removed_holds x z [] h other = h
removed_holds x z (y ∷ ys) h other =
    let P : Bool → Type 0 = λ b. holds (if b then ys else y ∷ removed x ys) z ≡ true in
    ⊎_elim (λ k. subst P (sym k.0) (or_second (z == y) (holds ys z) h (ap (λ m. z == m) (sym k.1) ∙ other)))
    (λ k.
    subst P (sym k.0)
    (⊎_elim (λ e. or_first (z == y) (holds (removed x ys) z) e.0)
    (λ e.
    or_true (z == y) (holds (removed x ys) z) (removed_holds x z ys (or_second (z == y) (holds ys z) h e.0) other))
    (eqb_tells z y)))
    (eqb_tells x y)

differ_back : (a b : ℕ) → (a == b) ≡ false → (b == a) ≡ false
differ_back a b e =
    ⊎_elim
    (λ k. let same : (a == a) ≡ false = ap (λ m. a == m) (sym k.1) ∙ e in absurd (let itself = equals_itself a in cc)) (λ k. k.0)
    (eqb_tells b a)

among_removed : (x : ℕ) (ys xs : List ℕ) → holds xs x ≡ false → Among ys xs → Among (removed x ys) xs
among_removed x ys [] none h = tt
among_removed x ys (z ∷ xs) none h =
    let neither = both_fail (x == z) (holds xs x) none in
    (removed_holds x z ys h.0 (differ_back x z neither.0), among_removed x ys xs neither.1 h.1)

-- they are no more
few : (xs ys : List ℕ) → differ xs ≡ true → Among ys xs → length xs ≤ length ys
few [] ys d h = omega arith
few (x ∷ xs) ys d h =
    let both = both_hold (not (holds xs x)) (differ xs) d in
    let long = removed_length x ys h.0 in
    let others = few xs (removed x ys) both.1 (among_removed x ys xs (not_true (holds xs x) both.0) h.1) in
    omega arith

-- and, if they are as many, they are all
all_held :
    (xs ys zs : List ℕ) → differ xs ≡ true → Among ys xs → length xs ≡ length ys → Among ys zs → list_all (holds xs) zs ≡ true
all_held xs ys [] d h many among = refl
all_held xs ys (z ∷ zs) d h many among =
    true_both (holds xs z) (list_all (holds xs) zs) (held (holds xs z) refl) (all_held xs ys zs d h many among.1)
  where
    held : (b : Bool) → holds xs z ≡ b → b ≡ true
    held true e = refl
    held false e =
        let more = few (z ∷ xs) ys (true_both (not (holds xs z)) (differ xs) (ap not e) d) (among.0, h) in absurd (omega arith)

-- a number stands among those that it stands with
among_more : (y : ℕ) (ys xs : List ℕ) → Among ys xs → Among (y ∷ ys) xs
among_more y ys [] h = tt
among_more y ys (x ∷ xs) h = (or_true (x == y) (holds ys x) h.0, among_more y ys xs h.1)

among_itself : (ys : List ℕ) → Among ys ys
among_itself [] = tt
among_itself (y ∷ ys) = (or_first (y == y) (holds ys y) (equals_itself y), among_more y ys ys (among_itself ys))

pub as_many_are_all : (xs ys : List ℕ) → differ xs ≡ true → Among ys xs → length xs ≡ length ys → list_all (holds xs) ys ≡ true
as_many_are_all xs ys d h many = all_held xs ys ys d h many (among_itself ys)

pub among_all : (ys xs : List ℕ) → Among ys xs → list_all (holds ys) xs ≡ true
among_all ys [] h = refl
among_all ys (x ∷ xs) h = true_both (holds ys x) (list_all (holds ys) xs) h.0 (among_all ys xs h.1)
