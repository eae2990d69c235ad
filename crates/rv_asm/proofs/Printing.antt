-- Lines of a listing, one more at a time.
use Rattle.std.proofs.Common.{◌≡◌, ℕ, zero, suc, ◌+◌, ◌*◌, ◌/◌, ◌%◌, List, [], ◌∷◌, ◌++◌, Some, take, refl, sym, ap, ◌∙◌, arith, append_assoc}
use Rattle.std.specs.Prelude.{slice_get}
use Rattle.std.proofs.lemmas.List.{append-nil}
use Rattle.rv_model.specs.declared.instr.Instr.{Instr}
use Rattle.rv_model.specs.declared.image.StartWord.{StartWord}
use Rattle.rv_asm.specs.Text.{hex_digit, hex_bytes}
use Rattle.rv_asm.specs.Listing.{code_line, code_lines, word_line, word_lines}

some_same : {A : Type 0} (a b : A) → Some a ≡ Some b → a ≡ b
some_same a b e = cc

pub hex_none : hex_bytes [] ≡ []
unfolding hex_bytes
hex_none = refl

hex_on : (bs : List ℕ) (k b : ℕ) → slice_get bs k ≡ Some b → hex_bytes (take (suc k) bs) ≡ hex_bytes (take k bs) ++ hex_digit (b / 16) ∷ hex_digit (b % 16) ∷ []
unfolding hex_bytes
hex_on [] k b e = absurd (cc)
hex_on (x ∷ xs) zero b e = ap (λ n. hex_digit (n / 16) ∷ hex_digit (n % 16) ∷ []) (some_same x b e)
hex_on (x ∷ xs) (suc k) b e = ap (λ l. hex_digit (x / 16) ∷ hex_digit (x % 16) ∷ l) (hex_on xs k b e)

-- one more byte, digit by digit
pub hex_more : (bs text before : List ℕ) (k b : ℕ) → slice_get bs k ≡ Some b → text ≡ before ++ hex_bytes (take k bs) → (text ++ hex_digit (b / 16) ∷ []) ++ hex_digit (b % 16) ∷ [] ≡ before ++ hex_bytes (take (k + 1) bs)
hex_more bs text before k b e so_far =
    let this : suc k ≡ k + 1 = omega arith in
    append_assoc text (hex_digit (b / 16) ∷ []) (hex_digit (b % 16) ∷ [])
    ∙ ap (λ l. l ++ hex_digit (b / 16) ∷ hex_digit (b % 16) ∷ []) so_far
    ∙ append_assoc before (hex_bytes (take k bs)) (hex_digit (b / 16) ∷ hex_digit (b % 16) ∷ [])
    ∙ ap (λ l. before ++ l) (sym (hex_on bs k b e)) ∙ ap (λ n. before ++ hex_bytes (take n bs)) this

pub code_none : (j : ℕ) → code_lines j [] ≡ []
unfolding code_lines
code_none j = refl

code_on : (j k : ℕ) (is : List Instr) (i : Instr) → slice_get is k ≡ Some i → code_lines j (take (suc k) is) ≡ code_lines j (take k is) ++ code_line (4 * (j + k)) i
unfolding code_lines
code_on j k [] i e = absurd (cc)
code_on j zero (x ∷ xs) i e =
    let z : j ≡ j + 0 = omega arith in
    append-nil (code_line (4 * j) x) ∙ ap (code_line (4 * j)) (some_same x i e) ∙ ap (λ n. code_line (4 * n) i) z
code_on j (suc k) (x ∷ xs) i e =
    let z : suc j + k ≡ j + suc k = omega arith in
    ap (λ l. code_line (4 * j) x ++ l) (code_on (suc j) k xs i e)
    ∙ sym (append_assoc (code_line (4 * j) x) (code_lines (suc j) (take k xs)) (code_line (4 * (suc j + k)) i))
    ∙ ap (λ n. (code_line (4 * j) x ++ code_lines (suc j) (take k xs)) ++ code_line (4 * n) i) z

-- one more instruction
pub code_more : (is : List Instr) (text before : List ℕ) (k : ℕ) (i : Instr) → slice_get is k ≡ Some i → text ≡ before ++ code_lines 0 (take k is) → text ++ code_line (4 * k) i ≡ before ++ code_lines 0 (take (k + 1) is)
code_more is text before k i e so_far =
    let this : suc k ≡ k + 1 = omega arith in
    let z : k ≡ 0 + k = omega arith in
    ap (λ l. l ++ code_line (4 * k) i) so_far ∙ append_assoc before (code_lines 0 (take k is)) (code_line (4 * k) i)
    ∙ ap (λ n. before ++ (code_lines 0 (take k is) ++ code_line (4 * n) i)) z
    ∙ ap (λ l. before ++ l) (sym (code_on 0 k is i e)) ∙ ap (λ n. before ++ code_lines 0 (take n is)) this

pub words_none : word_lines [] ≡ []
unfolding word_lines
words_none = refl

words_on : (k : ℕ) (ws : List StartWord) (w : StartWord) → slice_get ws k ≡ Some w → word_lines (take (suc k) ws) ≡ word_lines (take k ws) ++ word_line w
unfolding word_lines
words_on k [] w e = absurd (cc)
words_on zero (x ∷ xs) w e = append-nil (word_line x) ∙ ap word_line (some_same x w e)
words_on (suc k) (x ∷ xs) w e = ap (λ l. word_line x ++ l) (words_on k xs w e) ∙ sym (append_assoc (word_line x) (word_lines (take k xs)) (word_line w))

-- one more word
pub words_more : (ws : List StartWord) (text before : List ℕ) (k : ℕ) (w : StartWord) → slice_get ws k ≡ Some w → text ≡ before ++ word_lines (take k ws) → text ++ word_line w ≡ before ++ word_lines (take (k + 1) ws)
words_more ws text before k w e so_far =
    let this : suc k ≡ k + 1 = omega arith in
    ap (λ l. l ++ word_line w) so_far ∙ append_assoc before (word_lines (take k ws)) (word_line w)
    ∙ ap (λ l. before ++ l) (sym (words_on k ws w e)) ∙ ap (λ n. before ++ word_lines (take n ws)) this

-- nothing yet
pub before_all : (before more : List ℕ) → more ≡ [] → before ≡ before ++ more
before_all before more e = sym (append-nil before) ∙ ap (λ l. before ++ l) (sym e)
