-- Where lines begin.
use Rattle.std.proofs.Common.{◌≡◌, ℕ, zero, suc, ◌+◌, ◌*◌, ◌%◌, ◌^◌, ◌<◌, ◌≤◌, List, [], ◌∷◌, Bool, true, false, Option, Some, None, length, get_or, take, ◌≢◌, ⊎_elim, refl, sym, ap, ◌∙◌, subst, arith}
use Rattle.std.proofs.lemmas.List.{take_all, get_or-set_same, get_or-set_other}
use Rattle.std.proofs.lemmas.Bool.{cases_lt}
use Rattle.std.specs.Prelude.{slice_get, slice_set, slice_index, if◌then◌else◌}
use Rattle.rv_model.specs.declared.line.Line.{Line}
use Rattle.rv_model.specs.declared.line.Line.TheVariants.{Label, Plain, Branch, Jump, Const, CodeOf}
use Rattle.rv_model.specs.declared.instr.Op.TheVariants.{Addi}
use Rattle.rv_model.specs.Format.{plain, signed}
use Rattle.rv_asm.specs.Constant.{is_small, is_middle, pair, large_constant}
use Rattle.rv_asm.specs.Lines.{size_of}
use Rattle.rv_asm.specs.Layout.{Layout, count_from, start_of}

some_same : {A : Type 0} (a b : A) → Some a ≡ Some b → a ≡ b
some_same a b e = cc

count_more : (long : Layout) (j k : ℕ) (lines : List Line) (line : Line) → slice_get lines k ≡ Some line → count_from long j (take (suc k) lines) ≡ count_from long j (take k lines) + size_of (long (j + k)) line
count_more long j k [] line at = absurd (cc)
count_more long j zero (x ∷ xs) line at =
    let e : j + 0 ≡ j = omega arith in
    let s : size_of (long (j + 0)) line ≡ size_of (long j) x = ap (λ n. size_of (long n) line) e ∙ ap (size_of (long j)) (sym (some_same x line at)) in
    omega (arith, s)
count_more long j (suc k) (x ∷ xs) line at =
    let e : suc j + k ≡ j + suc k = omega arith in
    let s = count_more long (suc j) k xs line at in
    let t : size_of (long (suc j + k)) line ≡ size_of (long (j + suc k)) line = ap (λ n. size_of (long n) line) e in
    omega (arith, s, t)

-- the line after this one
pub start_more : (long : Layout) (lines : List Line) (k : ℕ) (line : Line) → slice_get lines k ≡ Some line → start_of long lines (k + 1) ≡ start_of long lines k + size_of (long k) line
start_more long lines k line at =
    let e : k + 1 ≡ suc k = omega arith in
    let z : 0 + k ≡ k = omega arith in
    ap (start_of long lines) e ∙ count_more long 0 k lines line at ∙ ap (λ n. start_of long lines k + size_of (long n) line) z

-- a line stands for eight instructions at most
pub size-few : (long : Bool) (line : Line) → size_of long line ≤ 8
size-few long (Label l) = omega arith
size-few long (Plain i) = omega arith
size-few true (Branch op rs1 rs2 to) = omega arith
size-few false (Branch op rs1 rs2 to) = omega arith
size-few long (Jump rd to) = omega arith
size-few long (Const rd v) = by (is_small v) (is_middle v)
  where
    by : (a b : Bool) → length (if a then plain Addi rd 0 0 (signed 12 (v % 2 ^ 12)) ∷ [] else if b then pair rd v else large_constant rd v) ≤ 8
    by true b = omega arith
    by false true = omega arith
    by false false = omega arith
size-few long (CodeOf rd l) = omega arith

-- more long branches make a line no shorter
pub size-grows : (a b : Bool) (line : Line) → (a ≡ true → b ≡ true) → size_of a line ≤ size_of b line
size-grows a b (Label l) h = omega arith
size-grows a b (Plain i) h = omega arith
size-grows true b (Branch op rs1 rs2 to) h = let e : b ≡ true = h refl in subst (λ c. 2 ≤ (if c then 2 else 1)) (sym e) (omega arith)
size-grows false true (Branch op rs1 rs2 to) h = omega arith
size-grows false false (Branch op rs1 rs2 to) h = omega arith
size-grows a b (Jump rd to) h = omega arith
size-grows a b (Const rd v) h = omega arith
size-grows a b (CodeOf rd l) h = omega arith

slice_get_none : (lines : List Line) (k : ℕ) → slice_get lines k ≡ None → length lines ≤ k
slice_get_none [] k at = omega arith
slice_get_none (x ∷ xs) zero at = absurd (cc)
slice_get_none (x ∷ xs) (suc k) at = let le = slice_get_none xs k at in omega (arith, le)

-- past the last line
start_past : (long : Layout) (lines : List Line) (k : ℕ) → slice_get lines k ≡ None → start_of long lines (k + 1) ≡ start_of long lines k
start_past long lines k at =
    let le : length lines ≤ k = slice_get_none lines k at in
    ap (count_from long 0) (take_all (k + 1) lines (omega (arith, le)) ∙ sym (take_all k lines le))

-- the same lines in two layouts, of which the second has the long branches of the first: between two lines there are no fewer instructions
module _ (lines : List Line) (long other : Layout) (within : (k : ℕ) → long k ≡ true → other k ≡ true) where
  step_grows : (k : ℕ) → start_of long lines (k + 1) + start_of other lines k ≤ start_of other lines (k + 1) + start_of long lines k
  step_grows k = by (slice_get lines k) refl
    where
      by : (o : Option Line) → slice_get lines k ≡ o → start_of long lines (k + 1) + start_of other lines k ≤ start_of other lines (k + 1) + start_of long lines k
      by None at = omega (arith, start_past long lines k at, start_past other lines k at)
      by (Some line) at = omega (arith, start_more long lines k line at, start_more other lines k line at, size-grows (long k) (other k) line (within k))

  pub between_grows : (k d : ℕ) → start_of long lines (k + d) + start_of other lines k ≤ start_of other lines (k + d) + start_of long lines k
  between_grows k zero = let e : k + 0 ≡ k = omega arith in subst (λ n. start_of long lines n + start_of other lines k ≤ start_of other lines n + start_of long lines k) (sym e) (omega arith)
  between_grows k (suc d) =
      let e : k + suc d ≡ k + d + 1 = omega arith in
      let before = between_grows k d in
      let here = step_grows (k + d) in
      subst (λ n. start_of long lines n + start_of other lines k ≤ start_of other lines n + start_of long lines k) (sym e) (omega (arith, before, here))

-- a later line begins no earlier
start_up : (long : Layout) (lines : List Line) (k : ℕ) → start_of long lines k ≤ start_of long lines (k + 1)
start_up long lines k = by (slice_get lines k) refl
  where
    by : (o : Option Line) → slice_get lines k ≡ o → start_of long lines k ≤ start_of long lines (k + 1)
    by None at = omega (arith, start_past long lines k at)
    by (Some line) at = omega (arith, start_more long lines k line at)

pub start_rises : (long : Layout) (lines : List Line) (k d : ℕ) → start_of long lines k ≤ start_of long lines (k + d)
start_rises long lines k zero = let e : k + 0 ≡ k = omega arith in subst (λ n. start_of long lines k ≤ start_of long lines n) (sym e) (omega arith)
start_rises long lines k (suc d) =
    let e : k + suc d ≡ k + d + 1 = omega arith in
    subst (λ n. start_of long lines k ≤ start_of long lines n) (sym e) (omega (arith, start_rises long lines k d, start_up long lines (k + d)))

count-few : (long : Layout) (j k : ℕ) (lines : List Line) → count_from long j (take k lines) ≤ 8 * k
count-few long j zero lines = omega arith
count-few long j (suc k) [] = omega arith
count-few long j (suc k) (x ∷ xs) = omega (arith, size-few (long j) x, count-few long (suc j) k xs)

-- eight instructions a line at most
pub start-few : (long : Layout) (lines : List Line) (k : ℕ) → start_of long lines k ≤ 8 * k
start-few long lines k = count-few long 0 k lines

-- one more start
pub starts_more : (long : Layout) (lines : List Line) (starts : List ℕ) (k v : ℕ) (line : Line) → slice_get lines k ≡ Some line → k + 1 < length starts → v ≡ slice_index starts k + size_of (long k) line → ((j : ℕ) → j ≤ k → slice_index starts j ≡ start_of long lines j) → (j : ℕ) → j ≤ k + 1 → slice_index (slice_set starts (k + 1) v) j ≡ start_of long lines j
starts_more long lines starts k v line at room is so_far j le = ⊎_elim earlier here (cases_lt j (k + 1))
  where
    earlier : j < k + 1 → slice_index (slice_set starts (k + 1) v) j ≡ start_of long lines j
    earlier lt = let ne : j ≢ k + 1 = omega arith in get_or-set_other starts (k + 1) j v 0 ne ∙ so_far j (omega arith)

    here : k + 1 ≤ j → slice_index (slice_set starts (k + 1) v) j ≡ start_of long lines j
    here ge =
        let e : j ≡ k + 1 = omega arith in
        ap (λ n. get_or (slice_set starts (k + 1) v) n 0) e ∙ get_or-set_same starts (k + 1) v 0 room ∙ is
        ∙ ap (λ n. n + size_of (long k) line) (so_far k (omega arith)) ∙ sym (start_more long lines k line at) ∙ ap (start_of long lines) (sym e)
