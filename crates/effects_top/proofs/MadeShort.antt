-- Made programs are short.
use Rattle.std.proofs.Common.{ℕ, zero, suc, ◌+◌, ◌*◌, ◌≤◌, List, ◌++◌, length, le_refl, arith, lit<}
use Rattle.std.specs.Prelude.{codes}
use Rattle.std.specs.Fmt.{decimal}
use Rattle.std.proofs.lemmas.Fmt.{length-decimal-le}
use Rattle.std.proofs.lemmas.List.{length-append}
use Rattle.prelude_ml.specs.MadeText.{function_name, next_line, functions, last_line, made_text}

together : (a b : List ℕ) (m n : ℕ) → length a ≤ m → length b ≤ n → length (a ++ b) ≤ m + n
together a b m n first second = let e = length-append a b in omega (arith, e, first, second)

digits : (n : ℕ) → n ≤ 501 → length (decimal n) ≤ 3
digits n le = length-decimal-le 3 n (lit< tt) (omega (arith, le)) (omega (arith, le))

name_short : (n : ℕ) → n ≤ 501 → length (function_name n) ≤ 4
name_short n le = together (codes "f") (decimal n) 1 3 (le_refl 1) (digits n le)

next_short : (i : ℕ) → i ≤ 500 → length (next_line i) ≤ 44
next_short i le =
    let next : i + 1 ≤ 501 = omega (arith, le) in
    let this : i ≤ 501 = omega (arith, le) in
    together (codes "let ") (function_name (i + 1) ++ (codes " x = (2 * " ++ (function_name i ++ (codes " x + " ++ (decimal (i + 1) ++ codes ") mod 1000000\n"))))) 4 40 (le_refl 4)
    (together (function_name (i + 1)) (codes " x = (2 * " ++ (function_name i ++ (codes " x + " ++ (decimal (i + 1) ++ codes ") mod 1000000\n")))) 4 36 (name_short (i + 1) next)
    (together (codes " x = (2 * ") (function_name i ++ (codes " x + " ++ (decimal (i + 1) ++ codes ") mod 1000000\n"))) 10 26 (le_refl 10)
    (together (function_name i) (codes " x + " ++ (decimal (i + 1) ++ codes ") mod 1000000\n")) 4 22 (name_short i this)
    (together (codes " x + ") (decimal (i + 1) ++ codes ") mod 1000000\n") 5 17 (le_refl 5)
    (together (decimal (i + 1)) (codes ") mod 1000000\n") 3 14 (digits (i + 1) next) (le_refl 14))))))

functions_short : (n : ℕ) → n ≤ 500 → length (functions n) ≤ 13 + 44 * n
functions_short zero le = le_refl 13
functions_short (suc i) le =
    let before = functions_short i (omega (arith, le)) in
    let line = next_short i (omega (arith, le)) in
    let both = together (functions i) (next_line i) (13 + 44 * i) 44 before line in
    omega (arith, both)

pub made_short : (n : ℕ) → n ≤ 500 → length (made_text n) ≤ 16777216
made_short n le =
    let last = together (codes "let () = print_int (") (function_name n ++ codes " 1)\n") 20 8 (le_refl 20) (together (function_name n) (codes " 1)\n") 4 4 (name_short n (omega (arith, le))) (le_refl 4)) in
    let all = together (functions n) (last_line n) (13 + 44 * n) 28 (functions_short n le) last in
    omega (arith, all, le)
