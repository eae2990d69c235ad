-- Lists of names.
use Rattle.std.proofs.Common.{◌≡◌, refl, sym, ap, ◌∙◌, subst, ℕ, ◌-◌, ◌≤◌, Bool, true, false, if◌then◌else◌, ◌==◌, ◌&&◌, ◌||◌, not, nat_eq, List, [], ◌∷◌, ◌++◌, length, take, drop, reverse, arith, length-append, append_assoc}
use Rattle.std.specs.List.{list_any, list_all}
use Rattle.std.proofs.lemmas.List.{reverse-append, reverse-reverse, take-append-drop, length-reverse, length-drop}
use Rattle.std.proofs.lemmas.List.Sorted.{IsPermutation-reverse, list_any-IsPermutation}
use Rattle.std.proofs.Math.Seq.{drop-append_seam, take-append_seam, take-length}
use Rattle.indexmap.specs.IndexSet.{insert_key}
use Rattle.std.proofs.lemmas.List.Folds.{list_any-append, list_all-append}
use Rattle.effect_meaning.specs.Scoped.{holds}
use Rattle.core_check.specs.Walk.{none_held, all_held, bound_behind, Exchanged}

-- a list turned round holds the same names
pub holds_reverse : (xs : List ℕ) (x : ℕ) → holds (reverse xs) x ≡ holds xs x
holds_reverse xs x = sym (list_any-IsPermutation (λ y. x == y) xs (reverse xs) (IsPermutation-reverse xs))

-- a new name goes last
pub bound_key : (ks new : List ℕ) (x : ℕ) → new ≡ insert_key nat_eq ks x → holds (reverse ks) x ≡ false → reverse new ≡ x ∷ reverse ks
bound_key ks new x is absent =
    let none : list_any (nat_eq x) ks ≡ false = sym (holds_reverse ks x) ∙ absent in
    let last : insert_key nat_eq ks x ≡ ks ++ x ∷ [] = ap (λ b. if b then ks else ks ++ x ∷ []) none in
    ap reverse (is ∙ last) ∙ reverse-append ks (x ∷ [])

-- what stands behind a list is left when so many go
pub left : (xs ys : List ℕ) → drop (length (xs ++ ys) - length ys) (xs ++ ys) ≡ ys
left xs ys =
    let many : length xs ≡ length (xs ++ ys) - length ys = omega (arith, length-append xs ys) in
    subst (λ n. drop n (xs ++ ys) ≡ ys) many (drop-append_seam xs ys)

-- the first ones of a list are the last ones of the list turned round
pub reverse_take : (n : ℕ) (xs : List ℕ) → reverse (take n xs) ≡ drop (length (reverse xs) - n) (reverse xs)
reverse_take n xs =
    let whole : reverse xs ≡ reverse (drop n xs) ++ reverse (take n xs) =
    ap reverse (sym (take-append-drop n xs)) ∙ reverse-append (take n xs) (drop n xs) in
    let many : length (reverse (drop n xs)) ≡ length (reverse xs) - n =
    omega (arith, length-reverse xs, length-reverse (drop n xs), length-drop n xs) in
    sym (subst (λ k. drop k (reverse xs) ≡ reverse (take n xs)) many
    (ap (drop (length (reverse (drop n xs)))) whole ∙ drop-append_seam (reverse (drop n xs)) (reverse (take n xs))))

-- what goes then
pub gone : (xs ys : List ℕ) → take (length (xs ++ ys) - length ys) (xs ++ ys) ≡ xs
gone xs ys =
    let many : length xs ≡ length (xs ++ ys) - length ys = omega (arith, length-append xs ys) in
    subst (λ n. take n (xs ++ ys) ≡ xs) many (take-append_seam xs ys)

pub and_true : {a b : Bool} → a ≡ true → b ≡ true → (a && b) ≡ true
and_true {a} {b} h g = grind arith

pub and_left : (a b : Bool) → (a && b) ≡ true → a ≡ true
and_left a b h = grind arith

pub and_right : (a b : Bool) → (a && b) ≡ true → b ≡ true
and_right a b h = grind arith

-- the names behind the first ones, the earliest first
pub reverse_take_back : (n : ℕ) (xs : List ℕ) → n ≤ length xs → reverse (take (length (reverse xs) - n) (reverse xs)) ≡ take (length xs - n) (drop n xs)
reverse_take_back n xs h =
    let whole : reverse xs ≡ reverse (drop n xs) ++ reverse (take n xs) =
    ap reverse (sym (take-append-drop n xs)) ∙ reverse-append (take n xs) (drop n xs) in
    let many : length (reverse (drop n xs)) ≡ length (reverse xs) - n =
    omega (arith, length-reverse xs, length-reverse (drop n xs), length-drop n xs) in
    let front : take (length (reverse xs) - n) (reverse xs) ≡ reverse (drop n xs) =
    subst (λ k. take k (reverse xs) ≡ reverse (drop n xs)) many
    (ap (take (length (reverse (drop n xs)))) whole ∙ take-append_seam (reverse (drop n xs)) (reverse (take n xs))) in
    let all : take (length xs - n) (drop n xs) ≡ drop n xs =
    subst (λ k. take k (drop n xs) ≡ drop n xs) (length-drop n xs) (take-length (drop n xs)) in
    ap reverse front ∙ reverse-reverse (drop n xs) ∙ sym all

bound_is : (names xs : List ℕ) → bound_behind names xs ≡ reverse xs ++ names
bound_is names [] = refl
bound_is names (x ∷ xs) =
    bound_is (x ∷ names) xs ∙ sym (append_assoc (reverse xs) (x ∷ []) names) ∙ ap (λ l. l ++ names) (sym (reverse-append (x ∷ []) xs))

-- what is held, and isn't held behind, is held in front
all_front : (front back xs : List ℕ) → all_held (front ++ back) xs ≡ true → none_held back xs ≡ true → list_all (holds front) xs ≡ true
all_front front back [] h g = refl
all_front front back (x ∷ xs) h g =
    let one : holds (front ++ back) x ≡ (holds front x || holds back x) = list_any-append (λ y. x == y) front back in
    let held : holds (front ++ back) x ≡ true = grind arith in
    let absent : not (holds back x) ≡ true = grind arith in
    let others : all_held (front ++ back) xs ≡ true = grind arith in
    let none : none_held back xs ≡ true = grind arith in
    let here : holds front x ≡ true = grind arith in
    and_true {a = holds front x} {b = list_all (holds front) xs} here (all_front front back xs others none)

all_reversed : (p : ℕ → Bool) (xs : List ℕ) → list_all p xs ≡ true → list_all p (reverse xs) ≡ true
all_reversed p [] h = refl
all_reversed p (x ∷ xs) h =
    let here : p x ≡ true = grind arith in
    let others : list_all p xs ≡ true = grind arith in
    let both : list_all p (reverse xs ++ x ∷ []) ≡ (list_all p (reverse xs) && (p x && true)) = list_all-append p (reverse xs) (x ∷ []) in
    let rest : list_all p (reverse xs) ≡ true = all_reversed p xs others in
    let all : list_all p (reverse xs ++ x ∷ []) ≡ true = grind arith in
    ap (list_all p) (reverse-append (x ∷ []) xs) ∙ all

pub exchanged : (list right now later : List ℕ) (n : ℕ)
    → right ≡ reverse (take (length now - n) now)
    → all_held now list ≡ true
    → none_held (drop (length now - n) now) list ≡ true
    → none_held (drop (length now - n) now) right ≡ true
    → later ≡ bound_behind (drop (length now - n) now) list
    → all_held later right ≡ true
    → Exchanged list n now later
exchanged list right now later n is held none none_right bound held_right =
    let F : List ℕ = take (length now - n) now in
    let B : List ℕ = drop (length now - n) now in
    let whole : now ≡ F ++ B = sym (take-append-drop (length now - n) now) in
    let made : later ≡ reverse list ++ B = bound ∙ bound_is B list in
    let one : list_all (holds F) list ≡ true = all_front F B list (subst (λ l. all_held l list ≡ true) whole held) none in
    let two : list_all (holds (reverse list)) right ≡ true =
    all_front (reverse list) B right (subst (λ l. all_held l right ≡ true) made held_right) none_right in
    let back : reverse right ≡ F = ap reverse is ∙ reverse-reverse F in
    let three : list_all (holds (reverse list)) F ≡ true =
    subst (λ l. list_all (holds (reverse list)) l ≡ true) back (all_reversed (holds (reverse list)) right two) in
    (and_true {a = list_all (holds F) (reverse list)} {b = list_all (holds (reverse list)) F} (all_reversed (holds F) list one) three, made)
