-- The log's bytes, word by word.
use Rattle.std.proofs.Common.{◌≡◌, ℕ, zero, suc, ◌+◌, ◌-◌, ◌*◌, ◌/◌, ◌%◌, ◌^◌, ◌<◌, ◌≤◌, ◌∷◌, ◌++◌, refl, sym, ap, ◌∙◌, arith, ⊎_elim}
use Rattle.std.proofs.Math.Nat.{pow-suc, div-div-eq-div-mul}
use Rattle.std.proofs.lemmas.Bool.{cases_lt}
use Rattle.rv_model.specs.Machine.{Words}
use Rattle.rv_model.specs.Layout.{byte_at, bytes_from, log}
use Rattle.effects_top.proofs.Digits.{low_bytes, room}

byte_in : (w : Words) (p j : ℕ) → j < 8 → byte_at w (8 * p + j) ≡ w p / 256 ^ j % 256
byte_in w p j h =
    let d : (8 * p + j) / 8 ≡ p = omega arith in
    let m : (8 * p + j) % 8 ≡ j = omega arith in
    ap (λ x. w x / 256 ^ ((8 * p + j) % 8) % 256) d ∙ ap (λ x. w p / 256 ^ x % 256) m

next_byte : (x j : ℕ) → x / 256 ^ suc j ≡ x / 256 ^ j / 256
next_byte x j = ap (λ y. x / y) (pow-suc 256 j) ∙ sym (div-div-eq-div-mul x (256 ^ j) 256)

pub word_bytes : (w : Words) (p j n : ℕ) → j + n ≤ 8 → bytes_from w (8 * p + j) n ≡ low_bytes n (w p / 256 ^ j)
unfolding low_bytes
word_bytes w p j zero h = refl
word_bytes w p j (suc n) h =
    let e : 8 * p + j + 1 ≡ 8 * p + suc j = omega arith in
    let ih = word_bytes w p (suc j) n (omega arith) in
    ap (λ b. b ∷ bytes_from w (8 * p + j + 1) n) (byte_in w p j (omega arith))
    ∙ ap (λ a. (w p / 256 ^ j % 256) ∷ bytes_from w a n) e
    ∙ ap (λ l. (w p / 256 ^ j % 256) ∷ l) (ih ∙ ap (low_bytes n) (next_byte (w p) j))

bytes_split : (w : Words) (a n m : ℕ) → bytes_from w a (n + m) ≡ bytes_from w a n ++ bytes_from w (a + n) m
bytes_split w a zero m =
    let e : zero + m ≡ m = omega arith in
    let f : a ≡ a + zero = omega arith in
    ap (bytes_from w a) e ∙ ap (λ x. bytes_from w x m) f
bytes_split w a (suc n) m =
    let e : suc n + m ≡ suc (n + m) = omega arith in
    let f : a + 1 + n ≡ a + suc n = omega arith in
    ap (bytes_from w a) e ∙ ap (λ l. byte_at w a ∷ l) (bytes_split w (a + 1) n m ∙ ap (λ x. bytes_from w (a + 1) n ++ bytes_from w x m) f)

low_split : (n m x z : ℕ) → x < room n → low_bytes (n + m) (x + room n * z) ≡ low_bytes n x ++ low_bytes m z
unfolding low_bytes room
low_split zero m x z h =
    let e : zero + m ≡ m = omega arith in
    let f : x + 1 * z ≡ z = omega arith in
    ap (λ k. low_bytes k (x + 1 * z)) e ∙ ap (low_bytes m) f
low_split (suc n) m x z h =
    let e : suc n + m ≡ suc (n + m) = omega arith in
    let f : (x + 256 * room n * z) % 256 ≡ x % 256 = omega arith in
    let g : (x + 256 * room n * z) / 256 ≡ x / 256 + room n * z = omega arith in
    ap (λ k. low_bytes k (x + 256 * room n * z)) e
    ∙ ap (λ b. b ∷ low_bytes (n + m) ((x + 256 * room n * z) / 256)) f
    ∙ ap (λ y. x % 256 ∷ low_bytes (n + m) y) g
    ∙ ap (λ l. x % 256 ∷ l) (low_split n m (x / 256) z (omega arith))

low_front : (n x z : ℕ) → low_bytes n (x + room n * z) ≡ low_bytes n x
unfolding low_bytes room
low_front zero x z = refl
low_front (suc n) x z =
    let f : (x + 256 * room n * z) % 256 ≡ x % 256 = omega arith in
    let g : (x + 256 * room n * z) / 256 ≡ x / 256 + room n * z = omega arith in
    ap (λ b. b ∷ low_bytes n ((x + 256 * room n * z) / 256)) f
    ∙ ap (λ y. x % 256 ∷ low_bytes n y) g
    ∙ ap (λ l. x % 256 ∷ l) (low_front n (x / 256) z)

room_add : (n m : ℕ) → room (n + m) ≡ room n * room m
unfolding room
room_add zero m = let e : zero + m ≡ m = omega arith in ap room e ∙ omega arith
room_add (suc n) m =
    let e : suc n + m ≡ suc (n + m) = omega arith in
    let ih = room_add n m in
    ap room e ∙ ap (λ x. 256 * x) ih ∙ omega arith

low_word : (n x z : ℕ) → n ≤ 8 → low_bytes n (x + 2 ^ 64 * z) ≡ low_bytes n x
unfolding room
low_word n x z h =
    let e : n + (8 - n) ≡ 8 = omega arith in
    let r : room n * room (8 - n) ≡ 2 ^ 64 = sym (room_add n (8 - n)) ∙ ap room e in
    ap (λ y. low_bytes n (x + y * z)) (sym r) ∙ (let s : room n * room (8 - n) * z ≡ room n * (room (8 - n) * z) = omega arith in ap (λ y. low_bytes n (x + y)) s) ∙ low_front n x (room (8 - n) * z)

-- several words as one number
abbrev pub big : Words → ℕ → ℕ → ℕ
big w p zero = 0
big w p (suc q) = w p + 2 ^ 64 * big w (p + 1) q

-- the words are words
abbrev pub AreWords : Words → ℕ → ℕ → Type 0
AreWords w p zero = Unit {0}
AreWords w p (suc q) = (w p < 2 ^ 64) × AreWords w (p + 1) q

pub words_bytes : (q : ℕ) (w : Words) (p n : ℕ) → AreWords w p q → n ≤ 8 * q → bytes_from w (8 * p) n ≡ low_bytes n (big w p q)
unfolding low_bytes room
words_bytes zero w p n small h = let e : n ≡ 0 = omega arith in ap (bytes_from w (8 * p)) e ∙ sym (ap (λ x. low_bytes x 0) e)
words_bytes (suc q) w p n small h = ⊎_elim (λ lt. long lt (words_bytes q w (p + 1) (n - 8) small.1 (omega arith))) short (cases_lt 8 n)
  where
    zero_at : 8 * p ≡ 8 * p + 0
    zero_at = omega arith

    by_one : w p / 256 ^ 0 ≡ w p
    by_one = omega arith

    short : n ≤ 8 → bytes_from w (8 * p) n ≡ low_bytes n (big w p (suc q))
    short le = ap (λ a. bytes_from w a n) zero_at ∙ word_bytes w p 0 n (omega arith) ∙ ap (low_bytes n) by_one ∙ sym (low_word n (w p) (big w (p + 1) q) le)

    long : 8 < n → bytes_from w (8 * (p + 1)) (n - 8) ≡ low_bytes (n - 8) (big w (p + 1) q) → bytes_from w (8 * p) n ≡ low_bytes n (big w p (suc q))
    long lt ih =
        let e : n ≡ 8 + (n - 8) = omega arith in
        let a : 8 * p + 8 ≡ 8 * (p + 1) = omega arith in
        let fits : w p < 2 ^ 64 = small.0 in
        let one = ap (λ a. bytes_from w a 8) zero_at ∙ word_bytes w p 0 8 (omega arith) ∙ ap (low_bytes 8) by_one in
        ap (bytes_from w (8 * p)) e
        ∙ bytes_split w (8 * p) 8 (n - 8)
        ∙ ap (λ l. l ++ bytes_from w (8 * p + 8) (n - 8)) one
        ∙ ap (λ x. low_bytes 8 (w p) ++ bytes_from w x (n - 8)) a
        ∙ ap (λ l. low_bytes 8 (w p) ++ l) ih
        ∙ sym (low_split 8 (n - 8) (w p) (big w (p + 1) q) fits)
        ∙ ap (λ x. low_bytes x (big w p (suc q))) (sym e)

pub log_text : (w : Words) (len y : ℕ) → w 6 ≡ len → len ≤ 24 → w 144 < 2 ^ 64 → w 145 < 2 ^ 64 → w 146 < 2 ^ 64 → w 144 + 2 ^ 64 * w 145 + 2 ^ 128 * w 146 ≡ y → log w ≡ low_bytes len y
log_text w len y el le a b c e =
    let f : big w 144 3 ≡ y = omega arith in
    ap (bytes_from w 1152) el ∙ words_bytes 3 w 144 len (a, (b, (c, tt))) le ∙ ap (low_bytes len) f
