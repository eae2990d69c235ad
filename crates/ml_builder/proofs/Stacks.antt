-- The top of a stack, where the stack is a list the other way round.
use Rattle.std.proofs.Common.{◌≡◌, ℕ, ◌-◌, ◌≤◌, List, ◌++◌, length, take, drop, reverse, sym, ◌∙◌, ap, subst, arith, length-drop}
use Rattle.std.proofs.lemmas.List.{reverse-append, reverse-reverse, length-reverse, take-append-drop}
use Rattle.std.proofs.Math.Seq.{take-append_seam, drop-append_seam}
use Rattle.ml_builder.specs.Stack.{top}

-- values that are pushed one by one are the top, in the order of the pushes
pub top_pushed : {A : Type 0} (values below : List A) → top (length values) (reverse values ++ below) ≡ values
top_pushed values below =
    let e : length values ≡ length (reverse values) = sym (length-reverse values)
    in rw e (ap reverse (take-append_seam (reverse values) below) ∙ reverse-reverse values)

-- what is below them is left
pub below_pushed : {A : Type 0} (values below : List A) → drop (length values) (reverse values ++ below) ≡ below
below_pushed values below =
    let e : length values ≡ length (reverse values) = sym (length-reverse values)
    in rw e (drop-append_seam (reverse values) below)

pub last_of_items : {A : Type 0} (n : ℕ) (xs : List A) → n ≤ length xs → drop (length xs - n) xs ≡ top n (reverse xs)
last_of_items n xs h =
    let i : ℕ = length xs - n
    in let e : length (drop i xs) ≡ n = omega (arith, length-drop i xs)
    in let k : reverse xs ≡ reverse (drop i xs) ++ reverse (take i xs) =
    ap reverse (sym (take-append-drop i xs)) ∙ reverse-append (take i xs) (drop i xs)
    in let t : top (length (drop i xs)) (reverse (drop i xs) ++ reverse (take i xs)) ≡ drop i xs = top_pushed (drop i xs) (reverse (take i xs))
    in sym (subst (λ m. top m (reverse xs) ≡ drop i xs) e (subst (λ ys. top (length (drop i xs)) ys ≡ drop i xs) (sym k) t))

pub first_of_items : {A : Type 0} (n : ℕ) (xs : List A) → n ≤ length xs → reverse (take (length xs - n) xs) ≡ drop n (reverse xs)
first_of_items n xs h =
    let i : ℕ = length xs - n
    in let e : length (drop i xs) ≡ n = omega (arith, length-drop i xs)
    in let k : reverse xs ≡ reverse (drop i xs) ++ reverse (take i xs) =
    ap reverse (sym (take-append-drop i xs)) ∙ reverse-append (take i xs) (drop i xs)
    in let t : drop (length (drop i xs)) (reverse (drop i xs) ++ reverse (take i xs)) ≡ reverse (take i xs) = below_pushed (drop i xs) (reverse (take i xs))
    in sym (subst (λ m. drop m (reverse xs) ≡ reverse (take i xs)) e (subst (λ ys. drop (length (drop i xs)) ys ≡ reverse (take i xs)) (sym k) t))
