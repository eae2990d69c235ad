-- A listing tells its image.
use Rattle.std.proofs.Common.{◌≡◌, ◌≢◌, ℕ, suc, ◌+◌, ◌*◌, ◌/◌, ◌%◌, ◌^◌, ◌<◌, ◌≤◌, List, [], ◌∷◌, ◌++◌, Bool, true, false, Some, length, drop, refl, sym, ap, ◌∙◌, arith, append_assoc}
use Rattle.std.specs.Prelude.{slice_get, nat_lt, if◌then◌else◌, codes}
use Rattle.std.specs.Char.{digit_value}
use Rattle.std.specs.Str.Parse.{AllDigits}
use Rattle.std.specs.Coded.{le_prop}
use Rattle.std.specs.Fmt.{decimal}
use Rattle.std.specs.Int.{w32, w64, to_be_bytes, from_be_bytes}
use Rattle.std.proofs.lemmas.Fmt.{decimal_is_IsNumeral, decimal_injective}
use Rattle.std.proofs.lemmas.Nat.{from_be_bytes-to_be_bytes_4, from_be_bytes-to_be_bytes_8}
use mathlib.Core.HLevel.{is_prop→PathP}
use Rattle.fx_base.specs.declared.settings.Settings.{Settings}
use Rattle.rv_model.specs.declared.instr.Instr.{Instr}
use Rattle.rv_model.specs.declared.image.Image.{Image}
use Rattle.rv_model.specs.declared.image.StartWord.{StartWord}
use Rattle.rv_model.specs.Start.{AreRising, AreNotZero, AreBelow}
use Rattle.rv_model.specs.Table.{IsWellFormed, AreWellFormed, bits_of, decoded}
use Rattle.rv_model.proofs.Decoding.{bits_of-below, decoded-bits_of}
use Rattle.rv_model.proofs.WellFormed.{well_formed_at}
use Rattle.rv_asm.specs.Text.{hex_digit, hex_bytes, hex_8, hex_16, text_of}
use Rattle.rv_asm.specs.Listing.{head_line, code_line, code_lines, word_line, word_lines, listed, IsKept}

-- equal parts make equal records

settings_same : (a b : Settings) → a.heap ≡ b.heap → a.stack ≡ b.stack → a.out ≡ b.out → a.budget ≡ b.budget → a.domains ≡ b.domains → a ≡ b
settings_same a b h s o u d = λ i. record {
  heap = h i;
  stack = s i;
  out = o i;
  budget = u i;
  domains = d i;
  heap_in_range = is_prop→PathP (λ j. (16384 ≤ h j) × (h j ≤ 16777216)) (λ j. hlevel le_prop) a.heap_in_range b.heap_in_range i;
  stack_in_range = is_prop→PathP (λ j. (256 ≤ s j) × (s j ≤ 1048576)) (λ j. hlevel le_prop) a.stack_in_range b.stack_in_range i;
  out_in_range = is_prop→PathP (λ j. (1024 ≤ o j) × (o j ≤ 67108864)) (λ j. hlevel le_prop) a.out_in_range b.out_in_range i;
  budget_in_range = is_prop→PathP (λ j. (1 ≤ u j) × (u j ≤ 4294967295)) (λ j. hlevel le_prop) a.budget_in_range b.budget_in_range i;
  domains_in_range = is_prop→PathP (λ j. (1 ≤ d j) × (d j ≤ 8)) (λ j. hlevel le_prop) a.domains_in_range b.domains_in_range i;
}

image_same : (a b : Image) → a.settings ≡ b.settings → a.code ≡ b.code → a.start ≡ b.start → a.size ≡ b.size → a ≡ b
image_same a b s c w n = λ i. record {
  settings = s i;
  code = c i;
  start = w i;
  size = n i;
  rising = is_prop→PathP (λ j. AreRising (w j)) (λ j. hlevel le_prop) a.rising b.rising i;
  not_zero = is_prop→PathP (λ j. AreNotZero (w j)) (λ j. hlevel le_prop) a.not_zero b.not_zero i;
  below = is_prop→PathP (λ j. AreBelow (n j) (w j)) (λ j. hlevel le_prop) a.below b.below i;
}

-- lists that begin alike

cons_head : {A : Type 0} (x y : A) (xs ys : List A) → x ∷ xs ≡ y ∷ ys → x ≡ y
cons_head x y xs ys e = cc

cons_tail : {A : Type 0} (x y : A) (xs ys : List A) → x ∷ xs ≡ y ∷ ys → xs ≡ ys
cons_tail x y xs ys e = cc

some_same : {A : Type 0} (a b : A) → Some a ≡ Some b → a ≡ b
some_same a b e = cc

same_front : (a xs ys : List ℕ) → a ++ xs ≡ a ++ ys → xs ≡ ys
same_front [] xs ys e = e
same_front (x ∷ a) xs ys e = same_front a xs ys (cons_tail x x (a ++ xs) (a ++ ys) e)

-- a byte that isn't in a list
Without : ℕ → List ℕ → Type 0
Without s [] = Unit {0}
Without s (x ∷ xs) = (x ≢ s) × Without s xs

-- what stands before the first such byte
split_at : (s : ℕ) (a b xs ys : List ℕ) → Without s a → Without s b → a ++ s ∷ xs ≡ b ++ s ∷ ys → (a ≡ b) × (xs ≡ ys)
unfolding Without
split_at s [] [] xs ys h k e = (refl, cons_tail s s xs ys e)
split_at s [] (y ∷ b) xs ys h k e = absurd (k.0 (sym (cons_head s y xs (b ++ s ∷ ys) e)))
split_at s (x ∷ a) [] xs ys h k e = absurd (h.0 (cons_head x s (a ++ s ∷ xs) ys e))
split_at s (x ∷ a) (y ∷ b) xs ys h k e =
    let r = split_at s a b xs ys h.1 k.1 (cons_tail x y (a ++ s ∷ xs) (b ++ s ∷ ys) e) in
    let f = cons_head x y (a ++ s ∷ xs) (b ++ s ∷ ys) e in
    (ap (λ n. n ∷ a) f ∙ ap (λ l. y ∷ l) r.0, r.1)

digits_without : (s : ℕ) (ds : List ℕ) → 10 ≤ digit_value s → AllDigits 10 ds → Without s ds
unfolding Without
digits_without s [] h all = tt
digits_without s (d ∷ ds) h all = ((λ e. let v : digit_value d ≡ digit_value s = ap digit_value e in absurd (omega (arith, h, all.0, v))), digits_without s ds h all.1)

-- a number in decimal, and what stands behind it
number_tells : (s m n : ℕ) (xs ys more others : List ℕ) → 10 ≤ digit_value s → m < 2 ^ 64 → n < 2 ^ 64 → (decimal m ++ s ∷ xs) ++ more ≡ (decimal n ++ s ∷ ys) ++ others → (m ≡ n) × (xs ++ more ≡ ys ++ others)
number_tells s m n xs ys more others h small small' e =
    let e' = sym (append_assoc (decimal m) (s ∷ xs) more) ∙ e ∙ append_assoc (decimal n) (s ∷ ys) others in
    let a = digits_without s (decimal m) h (decimal_is_IsNumeral m small).0.1 in
    let b = digits_without s (decimal n) h (decimal_is_IsNumeral n small').0.1 in
    let r = split_at s (decimal m) (decimal n) (xs ++ more) (ys ++ others) a b e' in
    (decimal_injective m n small small' r.0, r.1)

-- hexadecimal digits

digit_tells : (d e : ℕ) → d < 16 → e < 16 → hex_digit d ≡ hex_digit e → d ≡ e
digit_tells d e h k same = by (nat_lt d 10) refl (nat_lt e 10) refl same
  where
    by : (a : Bool) → nat_lt d 10 ≡ a → (b : Bool) → nat_lt e 10 ≡ b → (if a then 48 + d else 87 + d) ≡ (if b then 48 + e else 87 + e) → d ≡ e
    by true p true q s = omega (arith, s)
    by true p false q s = omega (arith, s)
    by false p true q s = omega (arith, s)
    by false p false q s = omega (arith, s)

digit_small : (d : ℕ) → d < 16 → hex_digit d < 119
digit_small d h = by (nat_lt d 10)
  where
    by : (a : Bool) → (if a then 48 + d else 87 + d) < 119
    by true = omega arith
    by false = omega arith

AreBytes : List ℕ → Type 0
AreBytes [] = Unit {0}
AreBytes (b ∷ bs) = (b < 256) × AreBytes bs

hex_tells : (cs bs xs ys : List ℕ) → length cs ≡ length bs → AreBytes cs → AreBytes bs → hex_bytes cs ++ xs ≡ hex_bytes bs ++ ys → (cs ≡ bs) × (xs ≡ ys)
unfolding AreBytes hex_bytes
hex_tells [] [] xs ys n h k e = (refl, e)
hex_tells [] (b ∷ bs) xs ys n h k e = absurd (omega (arith, n))
hex_tells (a ∷ cs) [] xs ys n h k e = absurd (omega (arith, n))
hex_tells (a ∷ cs) (b ∷ bs) xs ys n h k e =
    let e1 = cons_tail _ _ _ _ e in
    let r = hex_tells cs bs xs ys (omega (arith, n)) h.1 k.1 (cons_tail _ _ _ _ e1) in
    let high = digit_tells (a / 16) (b / 16) (omega (arith, h.0)) (omega (arith, k.0)) (cons_head _ _ _ _ e) in
    let low = digit_tells (a % 16) (b % 16) (omega arith) (omega arith) (cons_head _ _ _ _ e1) in
    let same : a ≡ b = omega (arith, high, low) in
    (ap (λ n. n ∷ cs) same ∙ ap (λ l. b ∷ l) r.0, r.1)

hex_8-tells : (m n : ℕ) (xs ys : List ℕ) → m < 2 ^ 32 → n < 2 ^ 32 → hex_8 m ++ xs ≡ hex_8 n ++ ys → (m ≡ n) × (xs ≡ ys)
unfolding AreBytes
hex_8-tells m n xs ys h k e =
    let r = hex_tells (to_be_bytes w32 m) (to_be_bytes w32 n) xs ys refl (omega arith, (omega arith, (omega arith, (omega arith, tt)))) (omega arith, (omega arith, (omega arith, (omega arith, tt)))) e in
    (sym (from_be_bytes-to_be_bytes_4 m h) ∙ ap (from_be_bytes w32) r.0 ∙ from_be_bytes-to_be_bytes_4 n k, r.1)

hex_16-tells : (m n : ℕ) (xs ys : List ℕ) → m < 2 ^ 64 → n < 2 ^ 64 → hex_16 m ++ xs ≡ hex_16 n ++ ys → (m ≡ n) × (xs ≡ ys)
unfolding AreBytes
hex_16-tells m n xs ys h k e =
    let r = hex_tells (to_be_bytes w64 m) (to_be_bytes w64 n) xs ys refl (omega arith, (omega arith, (omega arith, (omega arith, (omega arith, (omega arith, (omega arith, (omega arith, tt)))))))) (omega arith, (omega arith, (omega arith, (omega arith, (omega arith, (omega arith, (omega arith, (omega arith, tt)))))))) e in
    (sym (from_be_bytes-to_be_bytes_8 m h) ∙ ap (from_be_bytes w64) r.0 ∙ from_be_bytes-to_be_bytes_8 n k, r.1)

-- instructions

-- what stands behind the word
rest_of : Instr → List ℕ
rest_of i = codes " " ++ (text_of i ++ codes "\n")

line_tells : (pc : ℕ) (i j : Instr) (xs ys : List ℕ) → IsWellFormed i → IsWellFormed j → code_line pc i ++ xs ≡ code_line pc j ++ ys → (i ≡ j) × (xs ≡ ys)
unfolding code_line rest_of
line_tells pc i j xs ys h k e =
    let behind : Instr → List ℕ = λ x. codes " " ++ (hex_8 (bits_of x) ++ rest_of x) in
    let e1 = sym (append_assoc (hex_8 pc) (behind i) xs) ∙ e ∙ append_assoc (hex_8 pc) (behind j) ys in
    let e2 = same_front (hex_8 pc) (behind i ++ xs) (behind j ++ ys) e1 in
    let e3 : (hex_8 (bits_of i) ++ rest_of i) ++ xs ≡ (hex_8 (bits_of j) ++ rest_of j) ++ ys = cons_tail 32 32 _ _ e2 in
    let e4 = sym (append_assoc (hex_8 (bits_of i)) (rest_of i) xs) ∙ e3 ∙ append_assoc (hex_8 (bits_of j)) (rest_of j) ys in
    let r = hex_8-tells (bits_of i) (bits_of j) (rest_of i ++ xs) (rest_of j ++ ys) (bits_of-below i h.0 h.1 h.2) (bits_of-below j k.0 k.1 k.2) e4 in
    let same : i ≡ j = some_same i j (sym (decoded-bits_of i h) ∙ ap decoded r.0 ∙ decoded-bits_of j k) in
    (same, same_front (rest_of j) xs ys (ap (λ x. rest_of x ++ xs) (sym same) ∙ r.1))

formed_tail : (i : Instr) (is : List Instr) → AreWellFormed (i ∷ is) → AreWellFormed is
unfolding AreWellFormed
formed_tail i is all = λ k. all (suc k)

-- a line of code is no line of a word
code_no_word : (k : ℕ) (i : Instr) (is : List Instr) (xs : List ℕ) (ws : List StartWord) → code_lines k (i ∷ is) ++ xs ≡ word_lines ws → ⊥
unfolding code_lines code_line word_lines word_line hex_bytes
code_no_word k i is xs [] e = cc
code_no_word k i is xs (w ∷ ws) e =
    let first = cons_head _ _ _ _ e in
    let small = digit_small ((4 * k) / 256 ^ 3 % 256 / 16) (omega arith) in
    omega (arith, first, small)

code_none : (k : ℕ) (xs : List ℕ) → code_lines k [] ++ xs ≡ xs
unfolding code_lines
code_none k xs = refl

code_cons : (k : ℕ) (i : Instr) (is : List Instr) (xs : List ℕ) → code_lines k (i ∷ is) ++ xs ≡ code_line (4 * k) i ++ (code_lines (suc k) is ++ xs)
unfolding code_lines
code_cons k i is xs = append_assoc (code_line (4 * k) i) (code_lines (suc k) is) xs

code_tells : (k : ℕ) (is js : List Instr) (ws vs : List StartWord) → AreWellFormed is → AreWellFormed js → code_lines k is ++ word_lines ws ≡ code_lines k js ++ word_lines vs → (is ≡ js) × (word_lines ws ≡ word_lines vs)
code_tells k [] [] ws vs h h' e = (refl, sym (code_none k (word_lines ws)) ∙ e ∙ code_none k (word_lines vs))
code_tells k [] (j ∷ js) ws vs h h' e = absurd (code_no_word k j js (word_lines vs) ws (sym e ∙ code_none k (word_lines ws)))
code_tells k (i ∷ is) [] ws vs h h' e = absurd (code_no_word k i is (word_lines ws) vs (e ∙ code_none k (word_lines vs)))
code_tells k (i ∷ is) (j ∷ js) ws vs h h' e =
    let e1 = sym (code_cons k i is (word_lines ws)) ∙ e ∙ code_cons k j js (word_lines vs) in
    let r = line_tells (4 * k) i j (code_lines (suc k) is ++ word_lines ws) (code_lines (suc k) js ++ word_lines vs) (well_formed_at (i ∷ is) h 0 i refl) (well_formed_at (j ∷ js) h' 0 j refl) e1 in
    let q = code_tells (suc k) is js ws vs (formed_tail i is h) (formed_tail j js h') r.1 in
    (ap (λ x. x ∷ is) r.0 ∙ ap (λ l. j ∷ l) q.0, q.1)

-- words

AreWords : List StartWord → Type 0
AreWords words = (k : ℕ) (w : StartWord) → slice_get words k ≡ Some w → (w.at < 2 ^ 64) × (w.value < 2 ^ 64)

word_same : (a b : StartWord) → a.at ≡ b.at → a.value ≡ b.value → a ≡ b
word_same a b e f = λ i. record { at = e i; value = f i }

word_tells : (a b : StartWord) (xs ys : List ℕ) → (a.at < 2 ^ 64) × (a.value < 2 ^ 64) → (b.at < 2 ^ 64) × (b.value < 2 ^ 64) → word_line a ++ xs ≡ word_line b ++ ys → (a ≡ b) × (xs ≡ ys)
unfolding word_line
word_tells a b xs ys h k e =
    let e1 : (decimal a.at ++ 32 ∷ (hex_16 a.value ++ codes "\n")) ++ xs ≡ (decimal b.at ++ 32 ∷ (hex_16 b.value ++ codes "\n")) ++ ys = ap (drop 5) e in
    let r = number_tells 32 a.at b.at (hex_16 a.value ++ codes "\n") (hex_16 b.value ++ codes "\n") xs ys (omega arith) h.0 k.0 e1 in
    let e2 = sym (append_assoc (hex_16 a.value) (codes "\n") xs) ∙ r.1 ∙ append_assoc (hex_16 b.value) (codes "\n") ys in
    let q = hex_16-tells a.value b.value (codes "\n" ++ xs) (codes "\n" ++ ys) h.1 k.1 e2 in
    (word_same a b r.0 q.0, cons_tail 10 10 xs ys q.1)

word_some : (v : StartWord) (xs : List ℕ) → word_line v ++ xs ≡ [] → ⊥
unfolding word_line
word_some v xs e = cc

words_tell : (ws vs : List StartWord) → AreWords ws → AreWords vs → word_lines ws ≡ word_lines vs → ws ≡ vs
unfolding AreWords word_lines
words_tell [] [] h k e = refl
words_tell [] (v ∷ vs) h k e = absurd (word_some v (word_lines vs) (sym e))
words_tell (w ∷ ws) [] h k e = absurd (word_some w (word_lines ws) e)
words_tell (w ∷ ws) (v ∷ vs) h k e =
    let r = word_tells w v (word_lines ws) (word_lines vs) (h 0 w refl) (k 0 v refl) e in
    ap (λ x. x ∷ ws) r.0 ∙ ap (λ l. v ∷ l) (words_tell ws vs (λ j. h (suc j)) (λ j. k (suc j)) r.1)

-- the first line

head_tells : (a b : Image) (xs ys : List ℕ) → a.size < 2 ^ 64 → b.size < 2 ^ 64 → head_line a ++ xs ≡ head_line b ++ ys → (a.settings ≡ b.settings) × (a.size ≡ b.size) × (xs ≡ ys)
unfolding head_line
head_tells a b xs ys small small' e =
    let s = a.settings in
    let t = b.settings in
    let heap = number_tells 32 s.heap t.heap _ _ xs ys (omega arith) (omega (arith, s.heap_in_range)) (omega (arith, t.heap_in_range)) (ap (drop 6) e) in
    let stack = number_tells 32 s.stack t.stack _ _ xs ys (omega arith) (omega (arith, s.stack_in_range)) (omega (arith, t.stack_in_range)) heap.1 in
    let out = number_tells 32 s.out t.out _ _ xs ys (omega arith) (omega (arith, s.out_in_range)) (omega (arith, t.out_in_range)) stack.1 in
    let budget = number_tells 32 s.budget t.budget _ _ xs ys (omega arith) (omega (arith, s.budget_in_range)) (omega (arith, t.budget_in_range)) out.1 in
    let domains = number_tells 32 s.domains t.domains _ _ xs ys (omega arith) (omega (arith, s.domains_in_range)) (omega (arith, t.domains_in_range)) budget.1 in
    let size = number_tells 10 a.size b.size [] [] xs ys (omega arith) small small' domains.1 in
    (settings_same s t heap.0 stack.0 out.0 budget.0 domains.0, size.0, size.1)

are_words : (image : Image) → IsKept image → AreWords image.start
unfolding AreWords
are_words image kept = λ k w at. (omega (arith, image.below k w at, kept.size), kept.start k w at)

-- two images with the same listing are equal
pub listing_tells : (a b : Image) → IsKept a → IsKept b → listed a ≡ listed b → a ≡ b
listing_tells a b h k e =
    let head = head_tells a b (code_lines 0 a.code ++ word_lines a.start) (code_lines 0 b.code ++ word_lines b.start) h.size k.size e in
    let code = code_tells 0 a.code b.code a.start b.start h.code k.code head.2 in
    let words = words_tell a.start b.start (are_words a h) (are_words b k) code.1 in
    image_same a b head.0 code.0 words head.1
