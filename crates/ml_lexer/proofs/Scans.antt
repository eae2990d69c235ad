use Rattle.std.proofs.Common.{◌≡◌, ℕ, suc, ◌≤◌, ◌⊎◌, inl, inr, Bool, true, false, ◌&&◌, ◌||◌, List, [], ◌∷◌, ◌++◌, length, take, drop, Option, Some, None, refl, sym, ◌∙◌, ap, subst, arith}
use Rattle.std.specs.Prelude.{◌==◌, if◌then◌else◌, option_map, unwrap_or, bytes_eq}
use Rattle.std.specs.Option.{is_some}
use Rattle.std.proofs.lemmas.Bool.{eqb-true}
use Rattle.std.proofs.lemmas.List.{length-append, take-append-drop, length-take-le}
use Rattle.std.proofs.lemmas.Slice.Eq.{bytes_eq-Decides}
use Rattle.ml_lexer.specs.Bytes as bytes
use Rattle.ml_lexer.specs.declared.bytes.Class.{Class}
use Rattle.ml_lexer.specs.declared.bytes.Class.TheVariants.{Blank, Letter, Digit, Quote, Apostrophe, Mark}
use Rattle.ml_lexer.specs.declared.token.TokenKind.{TokenKind}
use Rattle.ml_lexer.specs.Bytes.{class, continues_name, begins_lower, is_digit, in_base, is_plain, is_plain_character, is_escaped, is_escaped_in_string, is_hexadecimal, is_decimal_code, is_code, is_blank}
use Rattle.ml_lexer.specs.Tables.{kind_in, single_symbols, double_symbols}
use Rattle.ml_lexer.specs.declared.form.Form.{Form}
use Rattle.ml_lexer.specs.declared.form.Form.TheVariants.{Word, Number, Character, Variable, Text, Symbol}
use Rattle.ml_lexer.specs.Forms.{AllPass, or_underscore, Parts, close, plain, short, code, IsDecimal, IsBased, is_plain_literal, is_short_literal, is_coded_literal, is_character, IsVariable, HasForm, IsFront, IsLongest}
use Rattle.ml_lexer.specs.Scan.{run, scan_word, scan_number, scan_character, scan_variable, scan_quoted, scan_symbol, after_one, after_two, after_four, scan_parts, scan_string, of_form, scan_class, scan}

-- a run is the longest front that passes
run_greatest : (p : ℕ → Bool) (u s : List ℕ) → AllPass p u → length u ≤ run p (u ++ s)
run_greatest p [] s h = omega arith
run_greatest p (b ∷ u) s h = rw h.0 (omega (arith, run_greatest p u s h.1))

record Runs (p : ℕ → Bool) (bs : List ℕ) (n : ℕ) : Type 0 where
  pass : AllPass p (take n bs)
  within : n ≤ length bs

run_runs : (p : ℕ → Bool) (bs : List ℕ) → Runs p bs (run p bs)
run_runs p [] = record { pass = tt; within = omega arith }
run_runs p (b ∷ bs) = by_test (p b) refl (run_runs p bs)
  where
    by_test : (v : Bool) → p b ≡ v → Runs p bs (run p bs) → Runs p (b ∷ bs) (if v then suc (run p bs) else 0)
    by_test true e r = record { pass = (e, r.pass); within = omega (arith, r.within) }
    by_test false e r = record { pass = tt; within = omega arith }

-- what a scan finds: a lexeme of the form, as long as any that stands there
pub record Scanned (f : Form) (bs : List ℕ) (n : ℕ) : Type 0 where
  pub form : IsFront f (take n bs) (drop n bs)
  pub within : n ≤ length bs
  pub greatest : (u s : List ℕ) → bs ≡ u ++ s → IsFront f u s → length u ≤ n

scanned_word : (b : ℕ) (bs : List ℕ) → class b ≡ Letter → Scanned Word (b ∷ bs) (scan_word (b ∷ bs))
scanned_word b bs h = let r = run_runs continues_name bs in record {
  form = (h, r.pass);
  within = omega (arith, r.within);
  greatest = word_greatest bs b;
}
  where
    word_greatest : (bs : List ℕ) (b : ℕ) (u s : List ℕ) → b ∷ bs ≡ u ++ s → HasForm Word u → length u ≤ suc (run continues_name bs)
    word_greatest bs b [] s e k = omega arith
    word_greatest bs b (c ∷ u) s e k = let t : bs ≡ u ++ s = cc in rw t (omega (arith, run_greatest continues_name u s k.1))

-- both tests
pub both : (a b : Bool) → (a && b) ≡ true → (a ≡ true) × (b ≡ true)
both true b h = (refl, h)
both false b h = absurd (cc)

-- the letter of a base is no digit and no `_`
pub base_letter : (x d : ℕ) → in_base x d ≡ true → or_underscore is_digit x ≡ false
base_letter x d h = first (x == 120) refl h
  where
    third : (v : Bool) → (x == 98) ≡ v → (v && bytes.is_binary d) ≡ true → or_underscore is_digit x ≡ false
    third true e k = rw (eqb-true x 98 e) refl
    third false e k = absurd (cc)

    second : (v : Bool) → (x == 111) ≡ v → (if v then bytes.is_octal d else ((x == 98) && bytes.is_binary d)) ≡ true → or_underscore is_digit x ≡ false
    second true e k = rw (eqb-true x 111 e) refl
    second false e k = third (x == 98) refl k

    first : (v : Bool) → (x == 120) ≡ v → (if v then is_hexadecimal d else (if x == 111 then bytes.is_octal d else ((x == 98) && bytes.is_binary d))) ≡ true → or_underscore is_digit x ≡ false
    first true e k = rw (eqb-true x 120 e) refl
    first false e k = second (x == 111) refl k

-- no decimal number is longer than its run
decimal_greatest : (b : ℕ) (bs u s : List ℕ) → b ∷ bs ≡ u ++ s → IsDecimal u → length u ≤ suc (run (or_underscore is_digit) bs)
decimal_greatest b bs [] s e k = absurd k
decimal_greatest b bs (c ∷ u) s e k = let t : bs ≡ u ++ s = cc in rw t (omega (arith, run_greatest (or_underscore is_digit) u s k.1))

based_length : (u : List ℕ) → IsBased u → 3 ≤ length u
based_length (z ∷ x ∷ d ∷ u) h = omega arith
based_length (z ∷ x ∷ []) h = absurd h
based_length (z ∷ []) h = absurd h
based_length [] h = absurd h

number_of : (u : List ℕ) → HasForm Number u → IsDecimal u ⊎ IsBased u
number_of [] h = absurd h
number_of (b ∷ u) h = h

scanned_decimal : (b : ℕ) (bs : List ℕ) → class b ≡ Digit → ((u s : List ℕ) → b ∷ bs ≡ u ++ s → IsBased u → ⊥) → Scanned Number (b ∷ bs) (suc (run (or_underscore is_digit) bs))
scanned_decimal b bs h none = let r = run_runs (or_underscore is_digit) bs in record {
  form = inl (h, r.pass);
  within = omega (arith, r.within);
  greatest = λ u s e k. elim (number_of u k) [ inl j ↦ decimal_greatest b bs u s e j | inr j ↦ absurd (none u s e j) ];
}

based_greatest : (z x d : ℕ) (bs u s : List ℕ) → z ∷ x ∷ d ∷ bs ≡ u ++ s → in_base x d ≡ true → HasForm Number u → length u ≤ suc (suc (suc (run (or_underscore (in_base x)) bs)))
based_greatest z x d bs u s e i k = elim (number_of u k) [ inl j ↦ decimal u e j | inr j ↦ based u e j ]
  where
    decimal : (u : List ℕ) → z ∷ x ∷ d ∷ bs ≡ u ++ s → IsDecimal u → length u ≤ suc (suc (suc (run (or_underscore (in_base x)) bs)))
    decimal [] e j = omega arith
    decimal (c ∷ []) e j = omega arith
    decimal (c ∷ y ∷ u) e j =
        let is : x ≡ y = cc in
        let no : or_underscore is_digit y ≡ false = subst (λ y. or_underscore is_digit y ≡ false) is (base_letter x d i) in absurd (cc (j.1.0))

    based : (u : List ℕ) → z ∷ x ∷ d ∷ bs ≡ u ++ s → IsBased u → length u ≤ suc (suc (suc (run (or_underscore (in_base x)) bs)))
    based (w ∷ y ∷ c ∷ u) e j =
        let is : x ≡ y = cc in
        let t : bs ≡ u ++ s = cc in rw (is, t) (omega (arith, run_greatest (or_underscore (in_base y)) u s j.2))
    based (w ∷ y ∷ []) e j = absurd j
    based (w ∷ []) e j = absurd j
    based [] e j = absurd j

length_front : (bs u s : List ℕ) → bs ≡ u ++ s → length u ≤ length bs
length_front bs u s e = rw e (omega (arith, length-append u s))

scanned_number : (b : ℕ) (bs : List ℕ) → class b ≡ Digit → Scanned Number (b ∷ bs) (scan_number (b ∷ bs))
scanned_number b [] h = scanned_decimal b [] h (λ u s e k. omega (arith, length_front (b ∷ []) u s e, based_length u k))
scanned_number b (a ∷ []) h = scanned_decimal b (a ∷ []) h (λ u s e k. omega (arith, length_front (b ∷ a ∷ []) u s e, based_length u k))
scanned_number z (x ∷ d ∷ bs) h = by_test ((z == 48) && in_base x d) refl
  where
    not_based : (u s : List ℕ) → z ∷ x ∷ d ∷ bs ≡ u ++ s → IsBased u → ((z == 48) && in_base x d) ≡ true
    not_based (w ∷ y ∷ c ∷ u) s e j = let p : z ≡ w = cc in let q : x ≡ y = cc in let r : d ≡ c = cc in rw (p, q, r, j.0, j.1) refl
    not_based (w ∷ y ∷ []) s e j = absurd j
    not_based (w ∷ []) s e j = absurd j
    not_based [] s e j = absurd j

    by_test : (v : Bool) → ((z == 48) && in_base x d) ≡ v → Scanned Number (z ∷ x ∷ d ∷ bs) (if v then suc (suc (suc (run (or_underscore (in_base x)) bs))) else suc (run (or_underscore is_digit) (x ∷ d ∷ bs)))
    by_test true e = let t = both (z == 48) (in_base x d) e in let r = run_runs (or_underscore (in_base x)) bs in record {
      form = inr (t.0, t.1, r.pass);
      within = omega (arith, r.within);
      greatest = λ u s p k. based_greatest z x d bs u s p t.1 k;
    }
    by_test false e = scanned_decimal z (x ∷ d ∷ bs) h (λ u s p k. absurd (cc (not_based u s p k)))

-- one step of the parts of a string, whatever follows
close_step : (e : ℕ) (bs : List ℕ) → (e == 34) ≡ true → scan_parts (e ∷ bs) ≡ Some 1
close_step e [] h = rw h refl
close_step e (a ∷ []) h = rw h refl
close_step e (a ∷ b ∷ []) h = rw h refl
close_step e (a ∷ b ∷ c ∷ bs) h = rw h refl

plain_step : (e : ℕ) (bs : List ℕ) → (e == 34) ≡ false → (e == 92) ≡ false → scan_parts (e ∷ bs) ≡ after_one (scan_parts bs)
plain_step e [] h k = rw h refl
plain_step e (a ∷ []) h k = rw (h, k) refl
plain_step e (a ∷ b ∷ []) h k = rw (h, k) refl
plain_step e (a ∷ b ∷ c ∷ bs) h k = rw (h, k) refl

short_step : (e a : ℕ) (bs : List ℕ) → (e == 34) ≡ false → (e == 92) ≡ true → is_escaped_in_string a ≡ true → scan_parts (e ∷ a ∷ bs) ≡ after_two (scan_parts bs)
short_step e a [] h k p = rw (h, k) refl
short_step e a (b ∷ []) h k p = rw (h, k, p) refl
short_step e a (b ∷ c ∷ bs) h k p = rw (h, k, p) refl

code_step : (e a b c : ℕ) (bs : List ℕ) → (e == 34) ≡ false → (e == 92) ≡ true → is_escaped_in_string a ≡ false → is_code a b c ≡ true → scan_parts (e ∷ a ∷ b ∷ c ∷ bs) ≡ after_four (scan_parts bs)
code_step e a b c bs h k p q = rw (h, k, p, q) refl

backslash : (e : ℕ) → (e == 92) ≡ true → (e == 34) ≡ false
backslash e h = rw (eqb-true e 92 h) refl

plain_byte : (b : ℕ) → is_plain b ≡ true → ((b == 34) ≡ false) × ((b == 92) ≡ false)
plain_byte b h = first (b == 34) refl h
  where
    second : (v : Bool) → (b == 92) ≡ v → (if v then false else true) ≡ true → (b == 92) ≡ false
    second true e k = absurd (cc)
    second false e k = e

    first : (v : Bool) → (b == 34) ≡ v → (if v then false else (if b == 92 then false else true)) ≡ true → ((b == 34) ≡ false) × ((b == 92) ≡ false)
    first true e k = absurd (cc)
    first false e k = (e, second (b == 92) refl k)

-- a digit is none of the bytes that are none
digit_not : (a k : ℕ) → is_digit a ≡ true → is_digit k ≡ false → (a == k) ≡ false
digit_not a k h n = by_test (a == k) refl
  where
    by_test : (v : Bool) → (a == k) ≡ v → v ≡ false
    by_test true e = absurd (let i : a ≡ k = eqb-true a k e in let j : is_digit k ≡ true = subst (λ x. is_digit x ≡ true) i h in cc)
    by_test false e = refl

digit_not_short : (a : ℕ) → is_digit a ≡ true → is_escaped_in_string a ≡ false
digit_not_short a h =
    let p0 = digit_not a 92 h refl in let p1 = digit_not a 34 h refl in let p2 = digit_not a 39 h refl in let p3 = digit_not a 110 h refl in
    let p4 = digit_not a 116 h refl in let p5 = digit_not a 114 h refl in let p6 = digit_not a 98 h refl in let p7 = digit_not a 32 h refl in let p8 = digit_not a 10 h refl in
    rw (p0, p1, p2, p3, p4, p5, p6, p7, p8) refl

code_digit : (a b c : ℕ) → is_decimal_code a b c ≡ true → is_digit a ≡ true
code_digit a b c h = (both (is_digit a) _ ((both (is_digit a && is_digit b) _ ((both (is_digit a && is_digit b && is_digit c) _ h).0)).0)).0

-- what begins a code may not stand behind a `\` alone
pub code_not_short : (a b c : ℕ) → is_code a b c ≡ true → is_escaped_in_string a ≡ false
code_not_short a b c h = by_test (is_decimal_code a b c) refl h
  where
    by_test : (v : Bool) → is_decimal_code a b c ≡ v → (v || ((a == 120) && (is_hexadecimal b && is_hexadecimal c))) ≡ true → is_escaped_in_string a ≡ false
    by_test true e k = digit_not_short a (code_digit a b c e)
    by_test false e k = let x = both (a == 120) _ k in rw (eqb-true a 120 x.0) refl

-- a string is scanned to its end, whatever follows
pub parts_scanned : (t s : List ℕ) → Parts t → scan_parts (t ++ s) ≡ Some (length t)
parts_scanned [] s h = elim h [ ]
parts_scanned (q ∷ []) s (close h) = close_step q s h
parts_scanned (b ∷ t) s (plain h r) = let p = plain_byte b h in plain_step b (t ++ s) p.0 p.1 ∙ ap after_one (parts_scanned t s r)
parts_scanned (e ∷ c ∷ t) s (short h k r) = short_step e c (t ++ s) (backslash e h) h k ∙ ap after_two (parts_scanned t s r)
parts_scanned (e ∷ a ∷ b ∷ c ∷ t) s (code h k r) =
    code_step e a b c (t ++ s) (backslash e h) h (code_not_short a b c k) k ∙ ap after_four (parts_scanned t s r)

-- what a scan finds are the parts of a string
pub record Ended (bs : List ℕ) (n : ℕ) : Type 0 where
  pub parts : Parts (take n bs)
  pub within : n ≤ length bs

abbrev pub On : {A : Type 0} → Option A → (A → Type 0) → Type 0
On None P = Unit {0}
On (Some x) P = P x

if_on : (P : ℕ → Type 0) (v : Bool) (x y : Option ℕ) → (v ≡ true → On x P) → (v ≡ false → On y P) → On (if v then x else y) P
if_on P true x y h k = h refl
if_on P false x y h k = k refl

on_one : (o : Option ℕ) (b : ℕ) (bs : List ℕ) → is_plain b ≡ true → On o (Ended bs) → On (after_one o) (Ended (b ∷ bs))
on_one None b bs h k = tt
on_one (Some n) b bs h k = record { parts = plain h k.parts; within = omega (arith, k.within) }

on_two : (o : Option ℕ) (e c : ℕ) (bs : List ℕ) → (e == 92) ≡ true → is_escaped_in_string c ≡ true → On o (Ended bs) → On (after_two o) (Ended (e ∷ c ∷ bs))
on_two None e c bs h p k = tt
on_two (Some n) e c bs h p k = record { parts = short h p k.parts; within = omega (arith, k.within) }

on_four : (o : Option ℕ) (e a b c : ℕ) (bs : List ℕ) → ((t : List ℕ) → Parts t → Parts (e ∷ a ∷ b ∷ c ∷ t)) → On o (Ended bs) → On (after_four o) (Ended (e ∷ a ∷ b ∷ c ∷ bs))
on_four None e a b c bs h k = tt
on_four (Some n) e a b c bs h k = record { parts = h (take n bs) k.parts; within = omega (arith, k.within) }

plain_of : (b : ℕ) → (b == 34) ≡ false → (b == 92) ≡ false → is_plain b ≡ true
plain_of b h k = rw (h, k) refl

ends_here : (e : ℕ) (bs : List ℕ) → (e == 34) ≡ true → Ended (e ∷ bs) 1
ends_here e bs h = record { parts = close h; within = omega arith }

pub parts_found : (bs : List ℕ) → On (scan_parts bs) (Ended bs)
parts_found [] = tt
parts_found (e ∷ []) = if_on (Ended (e ∷ [])) (e == 34) (Some 1) None (ends_here e []) (λ h. tt)
parts_found (e ∷ a ∷ []) =
    let later = parts_found (a ∷ []) in
    if_on (Ended (e ∷ a ∷ [])) (e == 34) (Some 1) (if e == 92 then None else after_one (scan_parts (a ∷ []))) (ends_here e (a ∷ []))
    (λ h. if_on (Ended (e ∷ a ∷ [])) (e == 92) None (after_one (scan_parts (a ∷ []))) (λ k. tt) (λ k. on_one (scan_parts (a ∷ [])) e (a ∷ []) (plain_of e h k) later))
parts_found (e ∷ a ∷ b ∷ []) =
    let one = parts_found (a ∷ b ∷ []) in
    let two = parts_found (b ∷ []) in
    if_on (Ended (e ∷ a ∷ b ∷ [])) (e == 34) (Some 1) (if e == 92 then (if is_escaped_in_string a then after_two (scan_parts (b ∷ [])) else None) else after_one (scan_parts (a ∷ b ∷ []))) (ends_here e (a ∷ b ∷ []))
    (λ h. if_on (Ended (e ∷ a ∷ b ∷ [])) (e == 92) (if is_escaped_in_string a then after_two (scan_parts (b ∷ [])) else None) (after_one (scan_parts (a ∷ b ∷ [])))
    (λ k. if_on (Ended (e ∷ a ∷ b ∷ [])) (is_escaped_in_string a) (after_two (scan_parts (b ∷ []))) None (λ p. on_two (scan_parts (b ∷ [])) e a (b ∷ []) k p two) (λ p. tt))
    (λ k. on_one (scan_parts (a ∷ b ∷ [])) e (a ∷ b ∷ []) (plain_of e h k) one))
parts_found (e ∷ a ∷ b ∷ c ∷ bs) =
    let one = parts_found (a ∷ b ∷ c ∷ bs) in
    let two = parts_found (b ∷ c ∷ bs) in
    let four = parts_found bs in
    let P = Ended (e ∷ a ∷ b ∷ c ∷ bs) in
    let in_code = if is_code a b c then after_four (scan_parts bs) else None in
    let escaped = if is_escaped_in_string a then after_two (scan_parts (b ∷ c ∷ bs)) else in_code in
    if_on P (e == 34) (Some 1) (if e == 92 then escaped else after_one (scan_parts (a ∷ b ∷ c ∷ bs))) (ends_here e (a ∷ b ∷ c ∷ bs))
    (λ h. if_on P (e == 92) escaped (after_one (scan_parts (a ∷ b ∷ c ∷ bs)))
    (λ k. if_on P (is_escaped_in_string a) (after_two (scan_parts (b ∷ c ∷ bs))) in_code (λ p. on_two (scan_parts (b ∷ c ∷ bs)) e a (b ∷ c ∷ bs) k p two)
    (λ p. if_on P (is_code a b c) (after_four (scan_parts bs)) None (λ q. on_four (scan_parts bs) e a b c bs (λ t r. code k q r) four) (λ r. tt)))
    (λ k. on_one (scan_parts (a ∷ b ∷ c ∷ bs)) e (a ∷ b ∷ c ∷ bs) (plain_of e h k) one))

scanned_string : (b : ℕ) (bs : List ℕ) → class b ≡ Quote → On (scan_string (b ∷ bs)) (Scanned Text (b ∷ bs))
scanned_string b bs h = on_parts (scan_parts bs) refl (parts_found bs)
  where
    on_parts : (o : Option ℕ) → scan_parts bs ≡ o → On o (Ended bs) → On (after_one o) (Scanned Text (b ∷ bs))
    on_parts None e k = tt
    on_parts (Some n) e k = record { form = (h, k.parts); within = omega (arith, k.within); greatest = string_greatest }
      where
        string_greatest : (u s : List ℕ) → b ∷ bs ≡ u ++ s → HasForm Text u → length u ≤ suc n
        string_greatest [] s p j = omega arith
        string_greatest (c ∷ u) s p j =
            let t : bs ≡ u ++ s = cc in
            let same : Some n ≡ Some (length u) = sym e ∙ ap scan_parts t ∙ parts_scanned u s j.1 in
            let is : n ≡ length u = cc in omega arith

-- what holds of each entry of a table holds of a text that it has
abbrev pub all_texts : (List ℕ → Bool) → List (List ℕ × TokenKind) → Bool
all_texts p [] = true
all_texts p (e ∷ es) = p e.0 && all_texts p es

pub table_rule : (p : List ℕ → Bool) (es : List (List ℕ × TokenKind)) (t : List ℕ) → all_texts p es ≡ true → is_some (kind_in es t) ≡ true → p t ≡ true
table_rule p [] t h k = absurd (cc)
table_rule p (e ∷ es) t h k = let r = both (p e.0) (all_texts p es) h in by_test (table_rule p es t r.1) r.0 (bytes_eq t e.0) refl k
  where
    by_test : (is_some (kind_in es t) ≡ true → p t ≡ true) → p e.0 ≡ true → (v : Bool) → bytes_eq t e.0 ≡ v → is_some (if v then Some e.1 else kind_in es t) ≡ true → p t ≡ true
    by_test again q true j i = subst (λ u. p u ≡ true) (sym ((bytes_eq-Decides t e.0).0 j)) q
    by_test again q false j i = again i

abbrev pub is_mark : Class → Bool
is_mark Mark = true
is_mark _ = false

mark_of : (c : Class) → is_mark c ≡ true → c ≡ Mark
mark_of Mark h = refl
mark_of Blank h = absurd (cc)
mark_of Letter h = absurd (cc)
mark_of Digit h = absurd (cc)
mark_of Quote h = absurd (cc)
mark_of Apostrophe h = absurd (cc)

abbrev begins_mark : List ℕ → Bool
begins_mark [] = false
begins_mark (b ∷ bs) = is_mark (class b)

pub single_class : (a : ℕ) → is_some (kind_in single_symbols (a ∷ [])) ≡ true → class a ≡ Mark
single_class a h = mark_of (class a) (table_rule begins_mark single_symbols (a ∷ []) refl h)

pub double_class : (a b : ℕ) → is_some (kind_in double_symbols (a ∷ b ∷ [])) ≡ true → class a ≡ Mark
double_class a b h = mark_of (class a) (table_rule begins_mark double_symbols (a ∷ b ∷ []) refl h)

no_pair_longer : (u : List ℕ) → HasForm Symbol u → length u ≤ 2
no_pair_longer [] h = absurd h
no_pair_longer (a ∷ []) h = omega arith
no_pair_longer (a ∷ b ∷ []) h = omega arith
no_pair_longer (a ∷ b ∷ c ∷ u) h = absurd h

scanned_symbol : (b : ℕ) (bs : List ℕ) → On (scan_symbol (b ∷ bs)) (Scanned Symbol (b ∷ bs))
scanned_symbol b [] = if_on (Scanned Symbol (b ∷ [])) (is_some (kind_in single_symbols (b ∷ []))) (Some 1) None (λ e. record { form = e; within = omega arith; greatest = λ u s p k. length_front (b ∷ []) u s p }) (λ e. tt)
scanned_symbol a (b ∷ bs) =
    if_on (Scanned Symbol (a ∷ b ∷ bs)) (is_some (kind_in double_symbols (a ∷ b ∷ []))) (Some 2) (if is_some (kind_in single_symbols (a ∷ [])) then Some 1 else None)
    (λ e. record { form = e; within = omega arith; greatest = λ u s p k. no_pair_longer u k })
    (λ no-pair. if_on (Scanned Symbol (a ∷ b ∷ bs)) (is_some (kind_in single_symbols (a ∷ []))) (Some 1) None (λ e. record { form = e; within = omega arith; greatest = shorter no-pair }) (λ e. tt))
  where
    shorter : is_some (kind_in double_symbols (a ∷ b ∷ [])) ≡ false → (u s : List ℕ) → a ∷ b ∷ bs ≡ u ++ s → HasForm Symbol u → length u ≤ 1
    shorter n [] s p k = absurd k
    shorter n (c ∷ []) s p k = omega arith
    shorter n (c ∷ d ∷ []) s p k = absurd (let x : a ≡ c = cc in let y : b ≡ d = cc in let z : is_some (kind_in double_symbols (a ∷ b ∷ [])) ≡ true = rw (x, y) k in cc)
    shorter n (c ∷ d ∷ e ∷ u) s p k = absurd k

-- character literals
or_nothing : (a : Bool) → (a || false || false) ≡ true → a ≡ true
or_nothing true h = refl
or_nothing false h = absurd (cc)

or_last : (a : Bool) → (a || false) ≡ true → a ≡ true
or_last true h = refl
or_last false h = absurd (cc)

four : (a b c d : Bool) → (a && b && c && d) ≡ true → (a ≡ true) × (b ≡ true) × (c ≡ true) × (d ≡ true)
four a b c d h = let x = both (a && b && c) d h in let y = both (a && b) c x.0 in let z = both a b y.0 in (z.0, z.1, y.1, x.1)

not_plain : (q e r : ℕ) → (e == 92) ≡ true → is_plain_literal (q ∷ e ∷ r ∷ []) ≡ false
not_plain q e r h = by_test (q == 39)
  where
    no_byte : is_plain_character e ≡ false
    no_byte = rw (eqb-true e 92 h) refl

    by_test : (v : Bool) → (v && is_plain_character e && (r == 39)) ≡ false
    by_test true = rw no_byte refl
    by_test false = refl

not_short : (q e c r : ℕ) → is_escaped c ≡ false → is_short_literal (q ∷ e ∷ c ∷ r ∷ []) ≡ false
not_short q e c r h = by_test ((q == 39) && (e == 92))
  where
    by_test : (v : Bool) → (v && is_escaped c && (r == 39)) ≡ false
    by_test true = rw h refl
    by_test false = refl

string_escape : (c : ℕ) → is_escaped_in_string c ≡ false → is_escaped c ≡ false
string_escape c h = by_test (is_escaped c) refl h
  where
    by_test : (v : Bool) → is_escaped c ≡ v → (v || (c == 10)) ≡ false → is_escaped c ≡ false
    by_test true e k = absurd (cc)
    by_test false e k = e

-- a character literal is scanned, whatever follows
pub character_scanned : (u s : List ℕ) → is_character u ≡ true → scan_character (u ++ s) ≡ Some (length u)
character_scanned [] s h = absurd (cc)
character_scanned (a ∷ []) s h = absurd (cc)
character_scanned (a ∷ b ∷ []) s h = absurd (cc)
character_scanned (q ∷ b ∷ r ∷ []) s h = let p : is_plain_literal (q ∷ b ∷ r ∷ []) ≡ true = or_nothing _ h in rw p refl
character_scanned (q ∷ e ∷ c ∷ r ∷ []) s h =
    let p : is_short_literal (q ∷ e ∷ c ∷ r ∷ []) ≡ true = or_last _ h in
    let parts = four (q == 39) (e == 92) (is_escaped c) (r == 39) p in
    let n : is_plain_literal (q ∷ e ∷ c ∷ []) ≡ false = not_plain q e c parts.1 in rw (n, p) refl
character_scanned (a ∷ b ∷ c ∷ d ∷ e ∷ []) s h = absurd (cc)
character_scanned (q ∷ e ∷ a ∷ b ∷ c ∷ r ∷ []) s h =
    let parts = four (q == 39) (e == 92) (is_code a b c) (r == 39) h in
    let n : is_plain_literal (q ∷ e ∷ a ∷ []) ≡ false = not_plain q e a parts.1 in
    let m : is_short_literal (q ∷ e ∷ a ∷ b ∷ []) ≡ false = not_short q e a b (string_escape a (code_not_short a b c parts.2)) in rw (n, m, h) refl
character_scanned (a ∷ b ∷ c ∷ d ∷ e ∷ f ∷ g ∷ u) s h = absurd (cc)

-- what is scanned as a character literal is one
pub record IsLiteral (bs : List ℕ) (n : ℕ) : Type 0 where
  pub character : is_character (take n bs) ≡ true
  pub within : n ≤ length bs

pub character_found : (bs : List ℕ) → On (scan_character bs) (IsLiteral bs)
character_found [] = tt
character_found (a ∷ []) = tt
character_found (a ∷ b ∷ []) = tt
character_found (a ∷ b ∷ c ∷ []) = if_on (IsLiteral (a ∷ b ∷ c ∷ [])) (is_plain_literal (a ∷ b ∷ c ∷ [])) (Some 3) None (λ h. record { character = rw h refl; within = omega arith }) (λ h. tt)
character_found (a ∷ b ∷ c ∷ d ∷ []) =
    let P = IsLiteral (a ∷ b ∷ c ∷ d ∷ []) in
    if_on P (is_plain_literal (a ∷ b ∷ c ∷ [])) (Some 3) (if is_short_literal (a ∷ b ∷ c ∷ d ∷ []) then Some 4 else None) (λ h. record { character = rw h refl; within = omega arith })
    (λ n. if_on P (is_short_literal (a ∷ b ∷ c ∷ d ∷ [])) (Some 4) None (λ h. record { character = rw h refl; within = omega arith }) (λ h. tt))
character_found (a ∷ b ∷ c ∷ d ∷ e ∷ []) =
    let P = IsLiteral (a ∷ b ∷ c ∷ d ∷ e ∷ []) in
    if_on P (is_plain_literal (a ∷ b ∷ c ∷ [])) (Some 3) (if is_short_literal (a ∷ b ∷ c ∷ d ∷ []) then Some 4 else None) (λ h. record { character = rw h refl; within = omega arith })
    (λ n. if_on P (is_short_literal (a ∷ b ∷ c ∷ d ∷ [])) (Some 4) None (λ h. record { character = rw h refl; within = omega arith }) (λ h. tt))
character_found (a ∷ b ∷ c ∷ d ∷ e ∷ f ∷ bs) =
    let P = IsLiteral (a ∷ b ∷ c ∷ d ∷ e ∷ f ∷ bs) in
    let six = a ∷ b ∷ c ∷ d ∷ e ∷ f ∷ [] in
    if_on P (is_plain_literal (a ∷ b ∷ c ∷ [])) (Some 3) (if is_short_literal (a ∷ b ∷ c ∷ d ∷ []) then Some 4 else (if is_coded_literal six then Some 6 else None)) (λ h. record { character = rw h refl; within = omega arith })
    (λ n. if_on P (is_short_literal (a ∷ b ∷ c ∷ d ∷ [])) (Some 4) (if is_coded_literal six then Some 6 else None) (λ h. record { character = rw h refl; within = omega arith })
    (λ m. if_on P (is_coded_literal six) (Some 6) None (λ h. record { character = rw h refl; within = omega arith }) (λ h. tt)))

pub character_of : (u : List ℕ) → HasForm Character u → is_character u ≡ true
character_of [] h = absurd h
character_of (b ∷ u) h = h

pub character_form : (u : List ℕ) → is_character u ≡ true → HasForm Character u
character_form [] h = absurd (cc)
character_form (b ∷ u) h = h

-- where no character literal is scanned, none stands
pub none_scanned : (bs : List ℕ) → scan_character bs ≡ None → (c after : List ℕ) → bs ≡ c ++ after → HasForm Character c → ⊥
none_scanned bs h c after e k = let some : scan_character bs ≡ Some (length c) = ap scan_character e ∙ character_scanned c after (character_of c k) in cc

-- where none stands, none is scanned
pub none_stands : (bs : List ℕ) → ((c after : List ℕ) → bs ≡ c ++ after → HasForm Character c → ⊥) → scan_character bs ≡ None
none_stands bs h = by_option (scan_character bs) (character_found bs)
  where
    by_option : (o : Option ℕ) → On o (IsLiteral bs) → o ≡ None
    by_option None k = refl
    by_option (Some n) k = absurd (h (take n bs) (drop n bs) (sym (take-append-drop n bs)) (character_form (take n bs) k.character))

pub apostrophe_class : (b : ℕ) → (b == 39) ≡ true → class b ≡ Apostrophe
apostrophe_class b h = rw (eqb-true b 39 h) refl

pub literal_class : (b : ℕ) (u : List ℕ) → is_character (b ∷ u) ≡ true → class b ≡ Apostrophe
literal_class b [] h = absurd (cc)
literal_class b (c ∷ []) h = absurd (cc)
literal_class q (b ∷ r ∷ []) h = let p : is_plain_literal (q ∷ b ∷ r ∷ []) ≡ true = or_nothing _ h in apostrophe_class q (both (q == 39) _ (both ((q == 39) && is_plain_character b) (r == 39) p).0).0
literal_class q (e ∷ c ∷ r ∷ []) h = apostrophe_class q (four (q == 39) (e == 92) (is_escaped c) (r == 39) (or_last _ h)).0
literal_class a (b ∷ c ∷ d ∷ e ∷ []) h = absurd (cc)
literal_class q (e ∷ a ∷ b ∷ c ∷ r ∷ []) h = apostrophe_class q (four (q == 39) (e == 92) (is_code a b c) (r == 39) h).0
literal_class a (b ∷ c ∷ d ∷ e ∷ f ∷ g ∷ u) h = absurd (cc)

scanned_character : (bs : List ℕ) (n : ℕ) → scan_character bs ≡ Some n → IsLiteral bs n → Scanned Character bs n
scanned_character bs n e k = record {
  form = character_form (take n bs) k.character;
  within = k.within;
  greatest = λ u s p j.
      let same : Some n ≡ Some (length u) = sym e ∙ ap scan_character p ∙ character_scanned u s (character_of u j) in
      let is : n ≡ length u = cc in omega arith;
}

variable_greatest : (q b : ℕ) (bs u s : List ℕ) → q ∷ b ∷ bs ≡ u ++ s → IsVariable u → length u ≤ suc (suc (run continues_name bs))
variable_greatest q b bs [] s e k = omega arith
variable_greatest q b bs (c ∷ []) s e k = omega arith
variable_greatest q b bs (c ∷ d ∷ u) s e k = let t : bs ≡ u ++ s = cc in rw t (omega (arith, run_greatest continues_name u s k.2))

scanned_variable : (bs : List ℕ) → scan_character bs ≡ None → On (scan_variable bs) (Scanned Variable bs)
scanned_variable [] h = tt
scanned_variable (q ∷ []) h = tt
scanned_variable (q ∷ b ∷ bs) h = if_on (Scanned Variable (q ∷ b ∷ bs)) ((q == 39) && begins_lower b) (Some (suc (suc (run continues_name bs)))) None
    (λ e.
    let t = both (q == 39) (begins_lower b) e in
    let r = run_runs continues_name bs in
    let n = suc (suc (run continues_name bs)) in
    record {
      form = ((t.0, t.1, r.pass), λ c after p. none_scanned (q ∷ b ∷ bs) h c after (sym (take-append-drop n (q ∷ b ∷ bs)) ∙ p));
      within = omega (arith, r.within);
      greatest = λ u s p k. variable_greatest q b bs u s p k.0;
    })
    (λ e. tt)

-- what a scan finds is as long as any lexeme that stands there
pub scanned : (bs : List ℕ) → On (scan bs) (λ p. Scanned p.0 bs p.1)
scanned [] = tt
scanned (b ∷ bs) = by_class (class b) refl
  where
    named : (f : Form) (o : Option ℕ) → On o (Scanned f (b ∷ bs)) → On (of_form f o) (λ (p : Form × ℕ). Scanned p.0 (b ∷ bs) p.1)
    named f None h = tt
    named f (Some n) h = h

    quoted : (o : Option ℕ) → scan_character (b ∷ bs) ≡ o → On o (IsLiteral (b ∷ bs)) → On (scan_quoted o (b ∷ bs)) (λ (p : Form × ℕ). Scanned p.0 (b ∷ bs) p.1)
    quoted None e h = named Variable (scan_variable (b ∷ bs)) (scanned_variable (b ∷ bs) e)
    quoted (Some n) e h = scanned_character (b ∷ bs) n e h

    by_class : (c : Class) → class b ≡ c → On (scan_class c (b ∷ bs)) (λ (p : Form × ℕ). Scanned p.0 (b ∷ bs) p.1)
    by_class Blank e = tt
    by_class Letter e = scanned_word b bs e
    by_class Digit e = scanned_number b bs e
    by_class Quote e = named Text (scan_string (b ∷ bs)) (scanned_string b bs e)
    by_class Apostrophe e = quoted (scan_character (b ∷ bs)) refl (character_found (b ∷ bs))
    by_class Mark e = named Symbol (scan_symbol (b ∷ bs)) (scanned_symbol b bs)

-- where a lexeme of a form stands, the scan finds one of this form
record Found (f : Form) (bs : List ℕ) : Type 0 where
  length_is : ℕ
  is : scan bs ≡ Some (f, length_is)

based_class : (u : List ℕ) (b : ℕ) → IsBased (b ∷ u) → class b ≡ Digit
based_class (x ∷ d ∷ u) b h = rw (eqb-true b 48 h.0) refl
based_class (x ∷ []) b h = absurd h
based_class [] b h = absurd h

found_variable : (u s : List ℕ) → IsFront Variable u s → Found Variable (u ++ s)
found_variable [] s h = absurd h.0
found_variable (q ∷ []) s h = absurd h.0
found_variable (q ∷ b ∷ u) s h =
    let none : scan_character (q ∷ b ∷ u ++ s) ≡ None = none_stands (q ∷ b ∷ u ++ s) h.1 in
    let c : class q ≡ Apostrophe = apostrophe_class q h.0.0 in
    let v : scan_variable (q ∷ b ∷ u ++ s) ≡ Some (suc (suc (run continues_name (u ++ s)))) = rw (h.0.0, h.0.1) refl in
    record {
      length_is = suc (suc (run continues_name (u ++ s)));
      is = ap (λ k. scan_class k (q ∷ b ∷ u ++ s)) c ∙ ap (λ o. scan_quoted o (q ∷ b ∷ u ++ s)) none ∙ ap (of_form Variable) v;
    }

found_symbol : (u s : List ℕ) → HasForm Symbol u → Found Symbol (u ++ s)
found_symbol [] s h = absurd h
found_symbol (a ∷ []) [] h = record { length_is = 1; is = rw (single_class a h, h) refl }
found_symbol (a ∷ []) (c ∷ s) h = by_test (is_some (kind_in double_symbols (a ∷ c ∷ []))) refl
  where
    by_test : (v : Bool) → is_some (kind_in double_symbols (a ∷ c ∷ [])) ≡ v → Found Symbol (a ∷ c ∷ s)
    by_test true e = record { length_is = 2; is = rw (single_class a h, e) refl }
    by_test false e = record { length_is = 1; is = rw (single_class a h, e, h) refl }
found_symbol (a ∷ b ∷ []) s h = record { length_is = 2; is = rw (double_class a b h, h) refl }
found_symbol (a ∷ b ∷ c ∷ u) s h = absurd h

found : (f : Form) (u s : List ℕ) → IsFront f u s → Found f (u ++ s)
found Word (b ∷ u) s h = record { length_is = scan_word (b ∷ u ++ s); is = rw h.0 refl }
found Number (b ∷ u) s h =
    let is_digit_class : class b ≡ Digit = elim h [ inl k ↦ k.0 | inr k ↦ based_class u b k ] in
    record { length_is = scan_number ((b ∷ u) ++ s); is = rw is_digit_class refl }
found Text (b ∷ u) s h = record { length_is = suc (length u); is = rw (h.0, parts_scanned u s h.1) refl }
found Character (b ∷ u) s h =
    let c : class b ≡ Apostrophe = literal_class b u h in
    record {
      length_is = suc (length u);
      is = ap (λ k. scan_class k (b ∷ u ++ s)) c ∙ ap (λ o. scan_quoted o (b ∷ u ++ s)) (character_scanned (b ∷ u) s h);
    }
found Variable u s h = found_variable u s h
found Symbol u s h = found_symbol u s h
found Word [] s h = absurd h
found Number [] s h = absurd h
found Character [] s h = absurd h
found Text [] s h = absurd h

pub scanned_at : (bs : List ℕ) (f : Form) (n : ℕ) → scan bs ≡ Some (f, n) → Scanned f bs n
scanned_at bs f n e = subst (λ o. On o (λ (p : Form × ℕ). Scanned p.0 bs p.1)) e (scanned bs)

-- what the scan finds is the longest lexeme
pub scan_longest : (bs : List ℕ) (f : Form) (n : ℕ) → scan bs ≡ Some (f, n) → IsLongest f (take n bs) (drop n bs)
scan_longest bs f n e =
    let s = scanned_at bs f n e in
    let whole : take n bs ++ drop n bs ≡ bs = take-append-drop n bs in
    record {
      form = s.form;
      longest = λ g other after p k.
          let q : bs ≡ other ++ after = sym whole ∙ p in
          let o = found g other after k in
          let r : scan bs ≡ Some (g, o.length_is) = ap scan q ∙ o.is in
          let one : Some (f, n) ≡ Some (g, o.length_is) = sym e ∙ r in
          let lengths : n ≡ o.length_is = ap (λ x. unwrap_or (option_map (λ (p : Form × ℕ). p.1) x) 0) one in
          let t = scanned_at bs g o.length_is r in
          omega (arith, t.greatest other after q k, length-take-le n bs s.within);
    }

-- the longest lexeme is what the scan finds
pub longest_scanned : (f : Form) (t r : List ℕ) → IsLongest f t r → scan (t ++ r) ≡ Some (f, length t)
longest_scanned f t r h =
    let o = found f t r h.form in
    let s = scanned_at (t ++ r) f o.length_is o.is in
    let most : length (take o.length_is (t ++ r)) ≤ length t = h.longest f (take o.length_is (t ++ r)) (drop o.length_is (t ++ r)) (sym (take-append-drop o.length_is (t ++ r))) s.form in
    let same : o.length_is ≡ length t = omega (arith, most, s.greatest t r refl h.form, length-take-le o.length_is (t ++ r) s.within) in
    o.is ∙ ap (λ n. Some (f, n)) same
