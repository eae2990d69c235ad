use Rattle.std.proofs.Common.{◌≡◌, ℕ, suc, inl, inr, Bool, true, false, ◌&&◌, ◌||◌, List, [], ◌∷◌, ◌++◌, length, take, drop, Some, None, refl, sym, ◌∙◌, ap, subst}
use Rattle.std.specs.Prelude.{◌==◌, if◌then◌else◌}
use Rattle.std.specs.Option.{is_some}
use Rattle.std.proofs.lemmas.Bool.{eqb-true}
use Rattle.std.proofs.Math.Seq.{take-append_seam, drop-append_seam}
use Rattle.ml_lexer.specs.declared.bytes.Class.{Class}
use Rattle.ml_lexer.specs.declared.bytes.Class.TheVariants.{Letter, Digit, Quote, Apostrophe, Mark}
use Rattle.ml_lexer.specs.declared.form.Form.{Form}
use Rattle.ml_lexer.specs.declared.form.Form.TheVariants.{Word, Number, Character, Variable, Text, Symbol}
use Rattle.ml_lexer.specs.declared.token.TokenKind.{TokenKind}
use Rattle.ml_lexer.specs.Bytes as bytes
use Rattle.ml_lexer.specs.Bytes.{class, continues_name, begins_lower, is_digit, in_base, is_blank, is_escaped, is_code, is_plain_character}
use Rattle.ml_lexer.specs.Tables.{kind_in, double_symbols}
use Rattle.ml_lexer.specs.Forms.{AllPass, or_underscore, is_plain_literal, is_short_literal, is_coded_literal, HasForm, IsFront, IsLongest}
use Rattle.ml_lexer.specs.Comments.{opens_comment}
use Rattle.ml_lexer.specs.Lexes.{IsLexeme, kind_of}
use Rattle.ml_lexer.specs.Scan.{run, scan_number, scan_character, scan_variable, scan_quoted, of_form, scan_class, scan}
use Rattle.ml_lexer.proofs.Scans.{is_mark, base_letter, parts_scanned, scan_longest, table_rule, single_class, double_class, character_scanned, literal_class, apostrophe_class}

-- a byte that ends each lexeme but strings and characters
record Ends (b : ℕ) : Type 0 where
  name : continues_name b ≡ false
  digit : or_underscore is_digit b ≡ false
  letter : (c : ℕ) → in_base b c ≡ false
  based : (a : ℕ) → in_base a b ≡ false
  pair : (a : ℕ) → is_some (kind_in double_symbols (a ∷ b ∷ [])) ≡ false
  apostrophe : (b == 39) ≡ false
  star : (b == 42) ≡ false
  bracket : (b == 40) ≡ false

and_false : (a b : Bool) → b ≡ false → (a && b) ≡ false
and_false true b h = h
and_false false b h = refl

-- what holds of each blank
by_blank : (P : ℕ → Type 0) → P 32 → P 9 → P 13 → P 12 → P 10 → (b : ℕ) → is_blank b ≡ true → P b
by_blank P space tab return feed newline b h = first (b == 32) refl h
  where
    fifth : (v : Bool) → (b == 10) ≡ v → v ≡ true → P b
    fifth true e k = subst P (sym (eqb-true b 10 e)) newline
    fifth false e k = absurd (cc)

    fourth : (v : Bool) → (b == 12) ≡ v → (v || (b == 10)) ≡ true → P b
    fourth true e k = subst P (sym (eqb-true b 12 e)) feed
    fourth false e k = fifth (b == 10) refl k

    third : (v : Bool) → (b == 13) ≡ v → (v || (b == 12) || (b == 10)) ≡ true → P b
    third true e k = subst P (sym (eqb-true b 13 e)) return
    third false e k = fourth (b == 12) refl k

    second : (v : Bool) → (b == 9) ≡ v → (v || (b == 13) || (b == 12) || (b == 10)) ≡ true → P b
    second true e k = subst P (sym (eqb-true b 9 e)) tab
    second false e k = third (b == 13) refl k

    first : (v : Bool) → (b == 32) ≡ v → (v || (b == 9) || (b == 13) || (b == 12) || (b == 10)) ≡ true → P b
    first true e k = subst P (sym (eqb-true b 32 e)) space
    first false e k = second (b == 9) refl k

-- no symbol of two bytes ends with a blank
abbrev ends_dark : List ℕ → Bool
ends_dark (a ∷ b ∷ []) = if is_blank b then false else true
ends_dark _ = false

no_pair : (b : ℕ) → is_blank b ≡ true → (a : ℕ) → is_some (kind_in double_symbols (a ∷ b ∷ [])) ≡ false
no_pair b h a = by_test (is_some (kind_in double_symbols (a ∷ b ∷ []))) refl
  where
    by_test : (v : Bool) → is_some (kind_in double_symbols (a ∷ b ∷ [])) ≡ v → v ≡ false
    by_test false e = refl
    by_test true e = absurd (let dark : (if is_blank b then false else true) ≡ true = table_rule ends_dark double_symbols (a ∷ b ∷ []) refl e in let light : (if is_blank b then false else true) ≡ false = rw h refl in cc)

-- whether a byte is a digit of no base
abbrev IsBaseless : ℕ → Type 0
IsBaseless b = (a : ℕ) → in_base a b ≡ false

baseless : (b : ℕ) → bytes.is_hexadecimal b ≡ false → bytes.is_octal b ≡ false → bytes.is_binary b ≡ false → IsBaseless b
baseless b h o i a = first (a == 120)
  where
    third : (v : Bool) → (v && bytes.is_binary b) ≡ false
    third v = and_false v (bytes.is_binary b) i

    second : (v : Bool) → (if v then bytes.is_octal b else ((a == 98) && bytes.is_binary b)) ≡ false
    second true = o
    second false = third (a == 98)

    first : (v : Bool) → (if v then bytes.is_hexadecimal b else (if a == 111 then bytes.is_octal b else ((a == 98) && bytes.is_binary b))) ≡ false
    first true = h
    first false = second (a == 111)

-- what the bytes of a blank say
record Bare (b : ℕ) : Type 0 where
  name : continues_name b ≡ false
  digit : or_underscore is_digit b ≡ false
  letter : (c : ℕ) → in_base b c ≡ false
  hexadecimal : bytes.is_hexadecimal b ≡ false
  octal : bytes.is_octal b ≡ false
  binary : bytes.is_binary b ≡ false
  apostrophe : (b == 39) ≡ false
  star : (b == 42) ≡ false
  bracket : (b == 40) ≡ false

bare : (b : ℕ) → is_blank b ≡ true → Bare b
bare = by_blank Bare
    (record { name = refl; digit = refl; letter = λ c. refl; hexadecimal = refl; octal = refl; binary = refl; apostrophe = refl; star = refl; bracket = refl })
    (record { name = refl; digit = refl; letter = λ c. refl; hexadecimal = refl; octal = refl; binary = refl; apostrophe = refl; star = refl; bracket = refl })
    (record { name = refl; digit = refl; letter = λ c. refl; hexadecimal = refl; octal = refl; binary = refl; apostrophe = refl; star = refl; bracket = refl })
    (record { name = refl; digit = refl; letter = λ c. refl; hexadecimal = refl; octal = refl; binary = refl; apostrophe = refl; star = refl; bracket = refl })
    (record { name = refl; digit = refl; letter = λ c. refl; hexadecimal = refl; octal = refl; binary = refl; apostrophe = refl; star = refl; bracket = refl })

blank_ends : (b : ℕ) → is_blank b ≡ true → Ends b
blank_ends b h = let r = bare b h in record {
  name = r.name;
  digit = r.digit;
  letter = r.letter;
  based = baseless b r.hexadecimal r.octal r.binary;
  pair = no_pair b h;
  apostrophe = r.apostrophe;
  star = r.star;
  bracket = r.bracket;
}

-- a run ends at a byte that doesn't pass
run_stops : (p : ℕ → Bool) (b : ℕ) (u s : List ℕ) → p b ≡ false → AllPass p u → run p (u ++ b ∷ s) ≡ length u
run_stops p b [] s h k = rw h refl
run_stops p b (c ∷ u) s h k = rw k.0 (ap suc (run_stops p b u s h k.1))

no_base : (a c : ℕ) → or_underscore is_digit a ≡ true → in_base a c ≡ false
no_base a c h = by_test (in_base a c) refl
  where
    by_test : (v : Bool) → in_base a c ≡ v → v ≡ false
    by_test false e = refl
    by_test true e = absurd (let n = base_letter a c e in cc)

decimal_spaced : (b d : ℕ) (u s : List ℕ) → Ends b → AllPass (or_underscore is_digit) u → scan_number (d ∷ u ++ b ∷ s) ≡ suc (length u)
decimal_spaced b d [] [] e h = rw e.digit refl
decimal_spaced b d [] (c ∷ s) e h = rw (and_false (d == 48) (in_base b c) (e.letter c), e.digit) refl
decimal_spaced b d (a ∷ []) s e h = rw (and_false (d == 48) (in_base a b) (e.based a)) (ap suc (run_stops (or_underscore is_digit) b (a ∷ []) s e.digit h))
decimal_spaced b d (a ∷ c ∷ u) s e h = rw (and_false (d == 48) (in_base a c) (no_base a c h.0)) (ap suc (run_stops (or_underscore is_digit) b (a ∷ c ∷ u) s e.digit h))

base_ends : (b x : ℕ) → Ends b → or_underscore (in_base x) b ≡ false
base_ends b x e = by_score (b == 95) refl
  where
    by_score : (v : Bool) → (b == 95) ≡ v → or_underscore (in_base x) b ≡ false
    by_score true k = absurd (let w : continues_name b ≡ true = rw (eqb-true b 95 k) refl in let n = e.name in cc)
    by_score false k = rw k (e.based x)

based_spaced : (b z x d : ℕ) (u s : List ℕ) → Ends b → (z == 48) ≡ true → in_base x d ≡ true → AllPass (or_underscore (in_base x)) u → scan_number (z ∷ x ∷ d ∷ u ++ b ∷ s) ≡ suc (suc (suc (length u)))
based_spaced b z x d u s e h k p = rw (h, k) (ap (λ n. suc (suc (suc n))) (run_stops (or_underscore (in_base x)) b u s (base_ends b x e) p))

-- a type variable begins no character literal with an escape
lower_byte : (c : ℕ) → begins_lower c ≡ true → (c == 92) ≡ false
lower_byte c h = by_test (c == 92) refl
  where
    by_test : (v : Bool) → (c == 92) ≡ v → v ≡ false
    by_test false e = refl
    by_test true e = absurd (let n : begins_lower c ≡ false = rw (eqb-true c 92 e) refl in cc)

second_false : (a b c d : Bool) → b ≡ false → (a && b && c && d) ≡ false
second_false true b c d h = rw h refl
second_false false b c d h = refl

no_short : (q c : ℕ) (xs : List ℕ) → (c == 92) ≡ false → is_short_literal (take 4 (q ∷ c ∷ xs)) ≡ false
no_short q c [] h = refl
no_short q c (x ∷ []) h = refl
no_short q c (x ∷ y ∷ xs) h = second_false (q == 39) (c == 92) (is_escaped x) (y == 39) h

no_coded : (q c : ℕ) (xs : List ℕ) → (c == 92) ≡ false → is_coded_literal (take 6 (q ∷ c ∷ xs)) ≡ false
no_coded q c [] h = refl
no_coded q c (x ∷ []) h = refl
no_coded q c (x ∷ y ∷ []) h = refl
no_coded q c (x ∷ y ∷ z ∷ []) h = refl
no_coded q c (x ∷ y ∷ z ∷ w ∷ xs) h = second_false (q == 39) (c == 92) (is_code x y z) (w == 39) h

plain_spaced : (b q c : ℕ) (u rest s : List ℕ) → Ends b → ((l after : List ℕ) → q ∷ c ∷ u ++ rest ≡ l ++ after → HasForm Character l → ⊥) → is_plain_literal (take 3 (q ∷ c ∷ u ++ b ∷ s)) ≡ false
plain_spaced b q c [] rest s e h = and_false ((q == 39) && is_plain_character c) (b == 39) e.apostrophe
plain_spaced b q c (r ∷ u) rest s e h = by_test (is_plain_literal (q ∷ c ∷ r ∷ [])) refl
  where
    by_test : (v : Bool) → is_plain_literal (q ∷ c ∷ r ∷ []) ≡ v → v ≡ false
    by_test false k = refl
    by_test true k = absurd (h (q ∷ c ∷ r ∷ []) (u ++ rest) refl (rw k refl))

variable_spaced : (b : ℕ) (t rest s : List ℕ) → Ends b → IsFront Variable t rest → scan (t ++ b ∷ s) ≡ Some (Variable, length t)
variable_spaced b [] rest s e h = absurd h.0
variable_spaced b (q ∷ []) rest s e h = absurd h.0
variable_spaced b (q ∷ c ∷ u) rest s e h =
    let escape : (c == 92) ≡ false = lower_byte c h.0.1 in
    let none : scan_character (q ∷ c ∷ u ++ b ∷ s) ≡ None = rw (plain_spaced b q c u rest s e h.1, no_short q c (u ++ b ∷ s) escape, no_coded q c (u ++ b ∷ s) escape) refl in
    let found : scan_variable (q ∷ c ∷ u ++ b ∷ s) ≡ Some (suc (suc (length u))) = rw (h.0.0, h.0.1) (ap (λ n. Some (suc (suc n))) (run_stops continues_name b u s e.name h.0.2)) in
    ap (λ k. scan_class k (q ∷ c ∷ u ++ b ∷ s)) (apostrophe_class q h.0.0) ∙ ap (λ o. scan_quoted o (q ∷ c ∷ u ++ b ∷ s)) none ∙ ap (of_form Variable) found

-- a lexeme before a blank is scanned alone
scan_spaced : (b : ℕ) (f : Form) (t rest s : List ℕ) → Ends b → IsFront f t rest → scan (t ++ b ∷ s) ≡ Some (f, length t)
scan_spaced b Word [] rest s e h = absurd h
scan_spaced b Number [] rest s e h = absurd h
scan_spaced b Character [] rest s e h = absurd h
scan_spaced b Text [] rest s e h = absurd h
scan_spaced b Symbol [] rest s e h = absurd h
scan_spaced b Word (c ∷ u) rest s e h = rw h.0 (ap (λ n. Some (Word, suc n)) (run_stops continues_name b u s e.name h.1))
scan_spaced b Number (c ∷ u) rest s e (inl h) = rw h.0 (ap (λ n. Some (Number, n)) (decimal_spaced b c u s e h.1))
scan_spaced b Number (z ∷ x ∷ d ∷ u) rest s e (inr h) =
    let c : class z ≡ Digit = rw (eqb-true z 48 h.0) refl in rw c (ap (λ n. Some (Number, n)) (based_spaced b z x d u s e h.0 h.1 h.2))
scan_spaced b Number (z ∷ x ∷ []) rest s e (inr h) = absurd h
scan_spaced b Number (z ∷ []) rest s e (inr h) = absurd h
scan_spaced b Character (c ∷ u) rest s e h =
    ap (λ k. scan_class k (c ∷ u ++ b ∷ s)) (literal_class c u h) ∙ ap (λ o. scan_quoted o (c ∷ u ++ b ∷ s)) (character_scanned (c ∷ u) (b ∷ s) h)
scan_spaced b Variable t rest s e h = variable_spaced b t rest s e h
scan_spaced b Text (c ∷ u) rest s e h = rw (h.0, parts_scanned u (b ∷ s) h.1) refl
scan_spaced b Symbol (a ∷ []) rest s e h = rw (single_class a h, e.pair a, h) refl
scan_spaced b Symbol (a ∷ c ∷ []) rest s e h = rw (double_class a c h, h) refl
scan_spaced b Symbol (a ∷ c ∷ d ∷ u) rest s e h = absurd h

bracket_class : (a : ℕ) (c : Class) → class a ≡ c → (is_mark c ≡ false) → (a == 40) ≡ false
bracket_class a c h n = by_test (a == 40) refl
  where
    by_test : (v : Bool) → (a == 40) ≡ v → v ≡ false
    by_test false e = refl
    by_test true e = absurd (let m : class a ≡ Mark = rw (eqb-true a 40 e) refl in let i : is_mark c ≡ true = ap is_mark (sym h ∙ m) in cc)

false_and : (a b : Bool) → a ≡ false → (a && b) ≡ false
false_and true b h = absurd (cc)
false_and false b h = refl

-- no symbol of two bytes begins a comment
abbrev begins_none : List ℕ → Bool
begins_none (a ∷ b ∷ []) = if (a == 40) && (b == 42) then false else true
begins_none _ = true

no_opening : (a c : ℕ) → is_some (kind_in double_symbols (a ∷ c ∷ [])) ≡ true → ((a == 40) && (c == 42)) ≡ false
no_opening a c h = by_test ((a == 40) && (c == 42)) refl (table_rule begins_none double_symbols (a ∷ c ∷ []) refl h)
  where
    by_test : (v : Bool) → ((a == 40) && (c == 42)) ≡ v → (if v then false else true) ≡ true → v ≡ false
    by_test false e k = refl
    by_test true e k = absurd (cc)

-- no lexeme of two bytes or more begins a comment
front_opens : (f : Form) (a c : ℕ) (u rest : List ℕ) → IsFront f (a ∷ c ∷ u) rest → ((a == 40) && (c == 42)) ≡ false
front_opens Word a c u rest h = false_and (a == 40) (c == 42) (bracket_class a Letter h.0 refl)
front_opens Number a c u rest (inl h) = false_and (a == 40) (c == 42) (bracket_class a Digit h.0 refl)
front_opens Number a c [] rest (inr h) = absurd h
front_opens Number a c (d ∷ u) rest (inr h) = false_and (a == 40) (c == 42) (rw (eqb-true a 48 h.0) refl)
front_opens Character a c u rest h = false_and (a == 40) (c == 42) (bracket_class a Apostrophe (literal_class a (c ∷ u) h) refl)
front_opens Variable a c u rest h = false_and (a == 40) (c == 42) (rw (eqb-true a 39 h.0.0) refl)
front_opens Text a c u rest h = false_and (a == 40) (c == 42) (bracket_class a Quote h.0 refl)
front_opens Symbol a c [] rest h = no_opening a c h
front_opens Symbol a c (d ∷ u) rest h = absurd h

front_comment : (b : ℕ) (f : Form) (t rest s : List ℕ) → Ends b → IsFront f t rest → opens_comment (t ++ b ∷ s) ≡ false
front_comment b f [] rest [] e h = refl
front_comment b f [] rest (c ∷ s) e h = rw e.bracket refl
front_comment b f (a ∷ []) rest s e h = and_false (a == 40) (b == 42) e.star
front_comment b f (a ∷ c ∷ t) rest s e h = front_opens f a c t rest h

-- what has a form and a kind is a token before a blank
pub formed_spaced : (f : Form) (k : TokenKind) (t rest s : List ℕ) (b : ℕ) → IsFront f t rest → kind_of f t ≡ Some k → is_blank b ≡ true → IsLexeme k t (b ∷ s)
formed_spaced f k t rest s b h i e =
    let ends = blank_ends b e in
    let longest : IsLongest f t (b ∷ s) =
    subst (λ u. IsLongest f t u) (drop-append_seam t (b ∷ s)) (subst (λ u. IsLongest f u (drop (length t) (t ++ b ∷ s))) (take-append_seam t (b ∷ s)) (scan_longest (t ++ b ∷ s) f (length t) (scan_spaced b f t rest s ends h))) in
    record { form = f; longest = longest; kind = i; outside = front_comment b f t rest s ends h }

-- a token before a blank is one, whatever follows
pub lexeme_spaced : (k : TokenKind) (t rest s : List ℕ) (b : ℕ) → IsLexeme k t rest → is_blank b ≡ true → IsLexeme k t (b ∷ s)
lexeme_spaced k t rest s b h e = formed_spaced h.form k t rest s b h.longest.form h.kind e
