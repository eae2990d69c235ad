-- The line that defines a label, as far as one has looked.
use Rattle.std.proofs.Common.{◌≡◌, ℕ, zero, suc, ◌+◌, List, [], ◌∷◌, Bool, true, false, cond, not, Option, Some, None, length, take, refl, sym, ap, ◌∙◌, arith}
use Rattle.std.specs.Prelude.{slice_get, unwrap_or, ◌==◌}
use Rattle.std.specs.List.{position_from, position_or_len}
use Rattle.rv_model.specs.declared.line.Line.{Line}
use Rattle.rv_model.specs.declared.line.Line.TheVariants.{Label, Plain, Branch, Jump, Const, CodeOf}
use Rattle.rv_asm.specs.Layout.{is_label, line_of}

-- the line of a label among these lines, where there is one
abbrev pub found_in : List Line → ℕ → Option ℕ
found_in lines l = position_from (is_label l) 0 lines

abbrev pub or_else : Option ℕ → Option ℕ → Option ℕ
or_else None o = o
or_else (Some n) o = Some n

some_same : {A : Type 0} (a b : A) → Some a ≡ Some b → a ≡ b
some_same a b e = cc

position_more : (p : Line → Bool) (j k : ℕ) (lines : List Line) (line : Line) → slice_get lines k ≡ Some line → position_from p j (take (suc k) lines) ≡ or_else (position_from p j (take k lines)) (cond (p line) (Some (j + k)) None)
position_more p j k [] line at = absurd (cc)
position_more p j zero (x ∷ xs) line at =
    let e : j + 0 ≡ j = omega arith in
    ap (λ y. cond (p y) (Some j) None) (some_same x line at) ∙ ap (λ n. cond (p line) (Some n) None) (sym e)
position_more p j (suc k) (x ∷ xs) line at =
    let e : j + 1 + k ≡ j + suc k = omega arith in
    by (position_more p (j + 1) k xs line at ∙ ap (λ n. or_else (position_from p (j + 1) (take k xs)) (cond (p line) (Some n) None)) e) (p x)
  where
    by : position_from p (j + 1) (take (suc k) xs) ≡ or_else (position_from p (j + 1) (take k xs)) (cond (p line) (Some (j + suc k)) None) → (b : Bool) → cond b (Some j) (position_from p (j + 1) (take (suc k) xs)) ≡ or_else (cond b (Some j) (position_from p (j + 1) (take k xs))) (cond (p line) (Some (j + suc k)) None)
    by rest true = refl
    by rest false = rest

-- one more line
pub found_more : (lines : List Line) (l k : ℕ) (line : Line) → slice_get lines k ≡ Some line → found_in (take (k + 1) lines) l ≡ or_else (found_in (take k lines) l) (cond (is_label l line) (Some k) None)
found_more lines l k line at =
    let e : k + 1 ≡ suc k = omega arith in
    let z : 0 + k ≡ k = omega arith in
    ap (λ n. found_in (take n lines) l) e ∙ position_more (is_label l) 0 k lines line at ∙ ap (λ n. or_else (found_in (take k lines) l) (cond (is_label l line) (Some n) None)) z

-- a line that defines a label
pub found_label : (lines : List Line) (l k m : ℕ) (line : Line) → slice_get lines k ≡ Some line → line ≡ Label m → found_in (take (k + 1) lines) l ≡ or_else (found_in (take k lines) l) (cond (m == l) (Some k) None)
found_label lines l k m line at is = found_more lines l k line at ∙ ap (λ x. or_else (found_in (take k lines) l) (cond (is_label l x) (Some k) None)) is

-- a line that defines none
pub found_other : (lines : List Line) (l k : ℕ) (line : Line) → slice_get lines k ≡ Some line → ((m : ℕ) → line ≡ Label m → ⊥) → found_in (take (k + 1) lines) l ≡ found_in (take k lines) l
found_other lines l k line at not_label =
    found_more lines l k line at ∙ ap (λ b. or_else (found_in (take k lines) l) (cond b (Some k) None)) (no_label line not_label) ∙ or_none (found_in (take k lines) l)
  where
    no_label : (line : Line) → ((m : ℕ) → line ≡ Label m → ⊥) → is_label l line ≡ false
    no_label (Label m) h = absurd (h m refl)
    no_label (Plain i) h = refl
    no_label (Branch op rs1 rs2 to) h = refl
    no_label (Jump rd to) h = refl
    no_label (Const rd v) h = refl
    no_label (CodeOf rd m) h = refl

    or_none : (o : Option ℕ) → or_else o None ≡ o
    or_none None = refl
    or_none (Some n) = refl

position_whole : (p : Line → Bool) (j : ℕ) (lines : List Line) → unwrap_or (position_from p j lines) (j + length lines) ≡ j + position_or_len p lines
position_whole p j [] = refl
position_whole p j (x ∷ xs) =
    let e : j + suc (length xs) ≡ j + 1 + length xs = omega arith in
    by (ap (unwrap_or (position_from p (j + 1) xs)) e ∙ position_whole p (j + 1) xs ∙ omega arith) (p x)
  where
    by : unwrap_or (position_from p (j + 1) xs) (j + suc (length xs)) ≡ j + (1 + position_or_len p xs) → (b : Bool) → unwrap_or (cond b (Some j) (position_from p (j + 1) xs)) (j + suc (length xs)) ≡ j + cond (not b) (1 + position_or_len p xs) 0
    by rest true = omega arith
    by rest false = rest

-- all lines
pub found_all : (lines : List Line) (l : ℕ) → unwrap_or (found_in lines l) (length lines) ≡ line_of lines l
found_all lines l =
    let a : 0 + length lines ≡ length lines = omega arith in
    let b : 0 + line_of lines l ≡ line_of lines l = omega arith in
    ap (unwrap_or (found_in lines l)) (sym a) ∙ position_whole (is_label l) 0 lines ∙ b
