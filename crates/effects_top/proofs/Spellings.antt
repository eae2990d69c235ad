-- A text spells its tokens in one way: piece by piece.
use Rattle.std.proofs.Common.{◌≡◌, ℕ, suc, ◌+◌, ◌-◌, ◌*◌, ◌<◌, ◌≤◌, Bool, true, false, ◌&&◌, ◌||◌, List, [], ◌∷◌, ◌++◌, length, take, drop, get_or, Option, Some, None, refl, sym, ap, subst, ◌∙◌, append_assoc, arith}
use Rattle.std.specs.Prelude.{if◌then◌else◌, option_map, codes, nat_le, ◌==◌}
use Rattle.std.specs.Str.{bytes_eq}
use Rattle.std.proofs.lemmas.Bool.{le-leb, lt-leb, leb-true, eqb-true}
use Rattle.std.proofs.lemmas.Slice.Eq.{bytes_eq-Decides}
use Rattle.std.proofs.lemmas.List.{take-append-drop, append-nil}
use Rattle.std.proofs.Math.Seq.{take-append_seam, drop-cons}
use Rattle.effects_top.specs.declared.token.Token.{Token}
use Rattle.effects_top.specs.declared.token.Token.TheVariants.{Let, PrintInt, Open, Close, Equals, Plus, Minus, Times, Literal}
use Rattle.effects_top.specs.Spelling.{is_blank, is_digit, is_word, are_digits, value_from, IsSpelling, begins_word, Spells, ended, blank, spelled}
use Rattle.effects_top.specs.Pieces.{word_length, piece_length, decimal_of, word_of, token_read}

-- the tokens so far, and those of the rest, are those of the text
pub record SpellsOn (text rest : List ℕ) (front : List Token) : Type 0 where
  pub forth : (ts : List Token) → Spells rest ts → Spells text (front ++ ts)
  pub back : (ts : List Token) → Spells text ts → (us : List Token) × (ts ≡ front ++ us) × Spells rest us

pub nothing_yet : (text : List ℕ) → SpellsOn text text []
nothing_yet text = record { forth = λ ts d. d; back = λ ts d. (ts, refl, d) }

-- both tests
both : (a b : Bool) → (a && b) ≡ true → (a ≡ true) × (b ≡ true)
both true b h = (refl, h)
both false b h = absurd (cc)

-- a token begins with no blank
first-plain : (text rest bs : List ℕ) (b : ℕ) (t : Token) → IsSpelling text t → b ∷ bs ≡ text ++ rest → is_blank b ≡ true → ⊥
first-plain text rest bs b Let s e h = let f : b ≡ 108 = (let p : b ∷ bs ≡ codes "let" ++ rest = e ∙ ap (λ (l : List ℕ). l ++ rest) s in cc) in let p : is_blank 108 ≡ true = subst (λ (x : ℕ). is_blank x ≡ true) f h in cc
first-plain text rest bs b PrintInt s e h = let f : b ≡ 112 = (let p : b ∷ bs ≡ codes "print_int" ++ rest = e ∙ ap (λ (l : List ℕ). l ++ rest) s in cc) in let p : is_blank 112 ≡ true = subst (λ (x : ℕ). is_blank x ≡ true) f h in cc
first-plain text rest bs b Open s e h = let f : b ≡ 40 = (let p : b ∷ bs ≡ codes "(" ++ rest = e ∙ ap (λ (l : List ℕ). l ++ rest) s in cc) in let p : is_blank 40 ≡ true = subst (λ (x : ℕ). is_blank x ≡ true) f h in cc
first-plain text rest bs b Close s e h = let f : b ≡ 41 = (let p : b ∷ bs ≡ codes ")" ++ rest = e ∙ ap (λ (l : List ℕ). l ++ rest) s in cc) in let p : is_blank 41 ≡ true = subst (λ (x : ℕ). is_blank x ≡ true) f h in cc
first-plain text rest bs b Equals s e h = let f : b ≡ 61 = (let p : b ∷ bs ≡ codes "=" ++ rest = e ∙ ap (λ (l : List ℕ). l ++ rest) s in cc) in let p : is_blank 61 ≡ true = subst (λ (x : ℕ). is_blank x ≡ true) f h in cc
first-plain text rest bs b Plus s e h = let f : b ≡ 43 = (let p : b ∷ bs ≡ codes "+" ++ rest = e ∙ ap (λ (l : List ℕ). l ++ rest) s in cc) in let p : is_blank 43 ≡ true = subst (λ (x : ℕ). is_blank x ≡ true) f h in cc
first-plain text rest bs b Minus s e h = let f : b ≡ 45 = (let p : b ∷ bs ≡ codes "-" ++ rest = e ∙ ap (λ (l : List ℕ). l ++ rest) s in cc) in let p : is_blank 45 ≡ true = subst (λ (x : ℕ). is_blank x ≡ true) f h in cc
first-plain text rest bs b Times s e h = let f : b ≡ 42 = (let p : b ∷ bs ≡ codes "*" ++ rest = e ∙ ap (λ (l : List ℕ). l ++ rest) s in cc) in let p : is_blank 42 ≡ true = subst (λ (x : ℕ). is_blank x ≡ true) f h in cc
first-plain [] rest bs b (Literal n) s e h = s
first-plain (d ∷ ds) rest bs b (Literal n) s e h =
    let f : b ≡ d = cc in
    let p : (is_digit d ≡ true) × (are_digits ds ≡ true) = both (is_digit d) (are_digits ds) s.0 in
    let q : 48 ≤ d = leb-true 48 d (both (nat_le 48 d) (nat_le d 57) p.0).0 in
    not_blank d q (subst (λ (x : ℕ). is_blank x ≡ true) f h)
  where
    not_blank : (d : ℕ) → 48 ≤ d → is_blank d ≡ true → ⊥
    not_blank d q h = by_test (d == 32) (d == 9) (d == 10) refl refl refl h
      where
        by_test : (u v w : Bool) → (d == 32) ≡ u → (d == 9) ≡ v → (d == 10) ≡ w → ((u || v) || w) ≡ true → ⊥
        by_test true v w e f g h = let k : d ≡ 32 = eqb-true d 32 e in omega arith
        by_test false true w e f g h = let k : d ≡ 9 = eqb-true d 9 f in omega arith
        by_test false false true e f g h = let k : d ≡ 10 = eqb-true d 10 g in omega arith
        by_test false false false e f g h = cc

-- what stands behind a blank
pub past_blank : (text rest others : List ℕ) (b : ℕ) (front : List Token) → rest ≡ b ∷ others → is_blank b ≡ true → SpellsOn text rest front → SpellsOn text others front
past_blank text rest others b front is h on = record {
  forth = λ ts d. on.forth ts (let P : List ℕ → Type 0 = λ l. Spells l ts in subst P (sym is) (blank h d));
  back = λ ts d. let u = on.back ts d in (u.0, u.1, behind u.2 is);
}
  where
    behind : {rest : List ℕ} {us : List Token} → Spells rest us → rest ≡ b ∷ others → Spells others us
    behind ended e = absurd (cc)
    behind (blank {bs = bs} {ts = ts} g d) e = let P : List ℕ → Type 0 = λ l. Spells l ts in let q : bs ≡ others = cc in subst P q d
    behind (spelled {bytes = bytes} {rest = after} {t = t} text e s a d) f = absurd (first-plain text after others b t s (sym f ∙ e) h)

second-fails : (a b : Bool) → a ≡ true → (a && b) ≡ false → b ≡ false
second-fails true b h k = k
second-fails false b h k = absurd (cc)

digit-word : (d : ℕ) → is_digit d ≡ true → is_word d ≡ true
digit-word d h = last (nat_le 97 d && nat_le d 122) (nat_le 65 d && nat_le d 90) (is_digit d) (d == 95) h
  where
    last : (a b c e : Bool) → c ≡ true → (((a || b) || c) || e) ≡ true
    last true b c e h = refl
    last false true c e h = refl
    last false false true e h = refl
    last false false false e h = absurd (cc)

word-none : (rest : List ℕ) → begins_word rest ≡ false → word_length rest ≡ 0
word-none [] h = refl
word-none (b ∷ bs) h = rw h refl

digits-run : (ds rest : List ℕ) → are_digits ds ≡ true → word_length rest ≡ 0 → word_length (ds ++ rest) ≡ length ds
digits-run [] rest h k = k
digits-run (d ∷ ds) rest h k =
    let p : (is_digit d ≡ true) × (are_digits ds ≡ true) = both (is_digit d) (are_digits ds) h in
    rw (digit-word d p.0) (ap suc (digits-run ds rest p.1 k))

worded : (text rest : List ℕ) (b : ℕ) (bs : List ℕ) → text ≡ b ∷ bs → is_word b ≡ true → (word_length rest ≡ 0 → word_length (bs ++ rest) ≡ length bs)
    → (begins_word text && begins_word rest) ≡ false → piece_length (text ++ rest) ≡ length text
worded text rest b bs e w f a =
    let P : List ℕ → Type 0 = λ l. (begins_word l && begins_word rest) ≡ false in
    let Q : List ℕ → Type 0 = λ l. piece_length (l ++ rest) ≡ length l in
    subst Q (sym e) (rw w (ap suc (f (word-none rest (second-fails (is_word b) (begins_word rest) w (subst P e a))))))

alone : (text rest : List ℕ) (b : ℕ) → text ≡ b ∷ [] → is_word b ≡ false → piece_length (text ++ rest) ≡ length text
alone text rest b e w = let Q : List ℕ → Type 0 = λ l. piece_length (l ++ rest) ≡ length l in subst Q (sym e) (rw w refl)

-- the piece of a token that is spelled is all of its spelling
piece-whole : (text rest : List ℕ) (t : Token) → IsSpelling text t → (begins_word text && begins_word rest) ≡ false → piece_length (text ++ rest) ≡ length text
piece-whole text rest Let s a = worded text rest 108 (codes "et") s refl (λ k. rw k refl) a
piece-whole text rest PrintInt s a = worded text rest 112 (codes "rint_int") s refl (λ k. rw k refl) a
piece-whole text rest Open s a = alone text rest 40 s refl
piece-whole text rest Close s a = alone text rest 41 s refl
piece-whole text rest Equals s a = alone text rest 61 s refl
piece-whole text rest Plus s a = alone text rest 43 s refl
piece-whole text rest Minus s a = alone text rest 45 s refl
piece-whole text rest Times s a = alone text rest 42 s refl
piece-whole [] rest (Literal n) s a = absurd s
piece-whole (d ∷ ds) rest (Literal n) s a =
    let p : (is_digit d ≡ true) × (are_digits ds ≡ true) = both (is_digit d) (are_digits ds) s.0 in
    worded (d ∷ ds) rest d ds refl (digit-word d p.0) (λ k. digits-run ds rest p.1 k) a

read-spelling : (text : List ℕ) (t : Token) → IsSpelling text t → token_read text ≡ Some t
read-spelling text Let s = ap token_read s
read-spelling text PrintInt s = ap token_read s
read-spelling text Open s = ap token_read s
read-spelling text Close s = ap token_read s
read-spelling text Equals s = ap token_read s
read-spelling text Plus s = ap token_read s
read-spelling text Minus s = ap token_read s
read-spelling text Times s = ap token_read s
read-spelling [] (Literal n) s = absurd s
read-spelling (d ∷ ds) (Literal n) s =
    let p : (is_digit d ≡ true) × (are_digits ds ≡ true) = both (is_digit d) (are_digits ds) s.0 in
    let q : nat_le (value_from 0 (d ∷ ds)) 4611686018427387903 ≡ true = le-leb _ _ (omega (arith, s.1, s.2)) in
    rw (p.0, p.1, q) (ap (λ (k : ℕ). Some (Literal k)) s.1)

-- one word of the table, or a later one
chosen : (text word : List ℕ) (t u : Token) (o : Option Token) → (text ≡ word → IsSpelling text t) → (o ≡ Some u → IsSpelling text u)
    → (if bytes_eq text word then Some t else o) ≡ Some u → IsSpelling text u
chosen text word t u o f g e = by_test (bytes_eq text word) refl e
  where
    by_test : (v : Bool) → bytes_eq text word ≡ v → (if v then Some t else o) ≡ Some u → IsSpelling text u
    by_test true k e = let q : t ≡ u = cc in let P : Token → Type 0 = λ x. IsSpelling text x in subst P q (f ((bytes_eq-Decides text word).0 k))
    by_test false k e = g e

spelling-read : (text : List ℕ) (t : Token) → token_read text ≡ Some t → IsSpelling text t
spelling-read [] t e = absurd (cc)
spelling-read (b ∷ bs) t e = by_digit (is_digit b) refl e
  where
    in_range : (v : Bool) → (are_digits (b ∷ bs) && nat_le (value_from 0 (b ∷ bs)) 4611686018427387903) ≡ v → option_map Literal (if v then Some (value_from 0 (b ∷ bs)) else None) ≡ Some t → IsSpelling (b ∷ bs) t
    in_range true k e =
        let p : (are_digits (b ∷ bs) ≡ true) × (nat_le (value_from 0 (b ∷ bs)) 4611686018427387903 ≡ true) = both (are_digits (b ∷ bs)) _ k in
        let P : Token → Type 0 = λ x. IsSpelling (b ∷ bs) x in
        subst P (let q : Literal (value_from 0 (b ∷ bs)) ≡ t = cc in q) (p.0, refl, leb-true _ _ p.1)
    in_range false k e = absurd (cc)

    by_digit : (v : Bool) → is_digit b ≡ v → (if v then option_map Literal (decimal_of 4611686018427387903 (b ∷ bs)) else word_of (b ∷ bs)) ≡ Some t → IsSpelling (b ∷ bs) t
    by_digit true k e = in_range _ refl e
    by_digit false k e =
        chosen (b ∷ bs) (codes "print_int") PrintInt t _ (λ s. s) (chosen (b ∷ bs) (codes "let") Let t _ (λ s. s) (chosen (b ∷ bs) (codes "(") Open t _ (λ s. s)
        (chosen (b ∷ bs) (codes ")") Close t _ (λ s. s) (chosen (b ∷ bs) (codes "=") Equals t _ (λ s. s) (chosen (b ∷ bs) (codes "+") Plus t _ (λ s. s)
        (chosen (b ∷ bs) (codes "-") Minus t _ (λ s. s) (chosen (b ∷ bs) (codes "*") Times t _ (λ s. s) (λ n. absurd (cc))))))))) e

-- a piece doesn't go on as a word
piece-apart : (bytes : List ℕ) → (begins_word (take (piece_length bytes) bytes) && begins_word (drop (piece_length bytes) bytes)) ≡ false
piece-apart [] = refl
piece-apart (b ∷ bs) = by_test (is_word b) refl
  where
    run_ends : (bs : List ℕ) → begins_word (drop (word_length bs) bs) ≡ false
    run_ends [] = refl
    run_ends (c ∷ cs) = by_test (is_word c) refl (run_ends cs)
      where
        by_test : (v : Bool) → is_word c ≡ v → begins_word (drop (word_length cs) cs) ≡ false → begins_word (drop (if v then suc (word_length cs) else 0) (c ∷ cs)) ≡ false
        by_test true k r = r
        by_test false k r = k

    by_test : (v : Bool) → is_word b ≡ v → (begins_word (take (if v then suc (word_length bs) else 1) (b ∷ bs)) && begins_word (drop (if v then suc (word_length bs) else 1) (b ∷ bs))) ≡ false
    by_test true k = rw k (run_ends bs)
    by_test false k = rw k refl

drop-seam : (xs ys : List ℕ) → drop (length xs) (xs ++ ys) ≡ ys
drop-seam [] ys = refl
drop-seam (x ∷ xs) ys = drop-seam xs ys

-- the token at the front of a text that doesn't begin with a blank
token-first : (bytes : List ℕ) (b : ℕ) (bs : List ℕ) (us : List Token) → bytes ≡ b ∷ bs → is_blank b ≡ false → Spells bytes us
    → (t : Token) × (ts : List Token) × (us ≡ t ∷ ts) × (token_read (take (piece_length bytes) bytes) ≡ Some t) × Spells (drop (piece_length bytes) bytes) ts
token-first bytes b bs us is h d = first d is
  where
    first : {bytes : List ℕ} {us : List Token} → Spells bytes us → bytes ≡ b ∷ bs
        → (t : Token) × (ts : List Token) × (us ≡ t ∷ ts) × (token_read (take (piece_length bytes) bytes) ≡ Some t) × Spells (drop (piece_length bytes) bytes) ts
    first ended e = absurd (cc)
    first (blank {b = b'} g d) e = absurd (let q : b' ≡ b = cc in let r : is_blank b' ≡ is_blank b = ap is_blank q in cc)
    first (spelled {bytes = bytes} {rest = rest} {t = t} {ts = ts} text e s a d) f =
        let n : piece_length bytes ≡ length text = ap piece_length e ∙ piece-whole text rest t s a in (
          t,
          ts,
          refl,
          ap token_read (ap (λ (k : ℕ). take k bytes) n ∙ ap (take (length text)) e ∙ take-append_seam text rest) ∙ read-spelling text t s,
          let P : List ℕ → Type 0 = λ l. Spells l ts in subst P (sym (ap (λ (k : ℕ). drop k bytes) n ∙ ap (drop (length text)) e ∙ drop-seam text rest)) d,
        )

pub past_token : (text rest others piece after : List ℕ) (b : ℕ) (t : Token) (front front' : List Token) → rest ≡ b ∷ others → is_blank b ≡ false
    → piece ≡ take (piece_length rest) rest → after ≡ drop (piece_length rest) rest → Some t ≡ token_read piece → front' ≡ front ++ t ∷ [] → SpellsOn text rest front → SpellsOn text after front'
past_token text rest others piece after b t front front' is h p q r pushed on = record {
  forth = λ ts d.
      let whole : rest ≡ piece ++ after = sym (ap (λ (l : List ℕ). l ++ after) p ∙ ap (λ (l : List ℕ). take (piece_length rest) rest ++ l) q ∙ take-append-drop (piece_length rest) rest) in
      let apart : (begins_word piece && begins_word after) ≡ false = rw (p, q) (piece-apart rest) in
      let P : List Token → Type 0 = λ l. Spells text l in
      subst P (sym (ap (λ (l : List Token). l ++ ts) pushed ∙ append_assoc front (t ∷ []) ts)) (on.forth (t ∷ ts) (spelled piece whole (spelling-read piece t (sym r)) apart d));
  back = λ ts d.
      let u = on.back ts d in
      let f = token-first rest b others u.0 is h u.2 in
      let same : f.0 ≡ t = (let g : Some f.0 ≡ Some t = sym f.3 ∙ ap token_read (sym p) ∙ sym r in cc) in
      let P : List ℕ → Type 0 = λ l. Spells l f.1 in
      (f.1, u.1 ∙ ap (λ (l : List Token). front ++ l) (f.2 ∙ ap (λ (x : Token). x ∷ f.1) same) ∙ sym (ap (λ (l : List Token). l ++ f.1) pushed ∙ append_assoc front (t ∷ []) f.1), subst P (sym q) f.4);
}

-- after another piece no tokens are spelled
pub past_none : (text rest others piece : List ℕ) (b : ℕ) (front : List Token) → rest ≡ b ∷ others → is_blank b ≡ false → piece ≡ take (piece_length rest) rest → None ≡ token_read piece
    → SpellsOn text rest front → (tokens : List Token) → Spells text tokens → ⊥
past_none text rest others piece b front is h p r on tokens d =
    let u = on.back tokens d in
    let f = token-first rest b others u.0 is h u.2 in
    let g : None ≡ Some f.0 = r ∙ ap token_read p ∙ f.3 in cc

empty : (xs : List ℕ) → length xs ≡ 0 → xs ≡ []
empty [] e = refl
empty (x ∷ xs) e = absurd (omega arith)

-- nothing is left
pub spelled_all : (text rest : List ℕ) (front : List Token) → length rest ≡ 0 → SpellsOn text rest front → Spells text front
spelled_all text rest front is on =
    let P : List ℕ → Type 0 = λ l. Spells l [] in
    let Q : List Token → Type 0 = λ l. Spells text l in
    subst Q (append-nil front) (on.forth [] (subst P (sym (empty rest is)) ended))

pub spelled_only : (text rest : List ℕ) (front : List Token) → length rest ≡ 0 → SpellsOn text rest front → (other : List Token) → Spells text other → other ≡ front
spelled_only text rest front is on other d = let u = on.back other d in u.1 ∙ ap (λ (l : List Token). front ++ l) (none u.2 (empty rest is)) ∙ append-nil front
  where
    none : {rest : List ℕ} {us : List Token} → Spells rest us → rest ≡ [] → us ≡ []
    none ended e = refl
    none (blank g d) e = absurd (cc)
    none (spelled {rest = after} {t = t} text e s a d) f = absurd (no_text text after t s (sym f ∙ e))
      where
        no_text : (text after : List ℕ) (t : Token) → IsSpelling text t → [] ≡ text ++ after → ⊥
        no_text (c ∷ cs) after t s e = cc
        no_text [] after t s e = let r = read-spelling [] t s in cc

-- more digits make no value less
values_grow : (n : ℕ) (ds : List ℕ) → n ≤ value_from n ds
values_grow n [] = omega arith
values_grow n (d ∷ ds) = omega (arith, values_grow (n * 10 + (d - 48)) ds)

-- digits whose front has too large a value have one
pub too_large : (greatest : ℕ) (digits : List ℕ) (value after i : ℕ) → i < length digits → after ≡ value * 10 + (get_or digits i 0 - 48) → greatest < after
    → value_from 0 digits ≡ value_from value (drop i digits) → None ≡ decimal_of greatest digits
too_large greatest digits value after i h e l p = none (are_digits digits) _ (lt-leb (value_from 0 digits) greatest (rw (p, more) (omega (arith, values_grow after (drop (suc i) digits)))))
  where
    more : value_from value (drop i digits) ≡ value_from after (drop (suc i) digits)
    more = ap (value_from value) (drop-cons digits i 0 h) ∙ ap (λ (v : ℕ). value_from v (drop (suc i) digits)) (sym e)

    none : (a b : Bool) → b ≡ false → None ≡ (if a && b then Some (value_from 0 digits) else None)
    none true b k = rw k refl
    none false b k = refl
