-- The code and the table of places, line by line.
use Rattle.std.proofs.Common.{◌≡◌, ℕ, zero, suc, ◌+◌, ◌-◌, ◌*◌, ◌≤◌, List, [], ◌∷◌, ◌++◌, Bool, true, false, Some, length, take, refl, sym, ap, ◌∙◌, subst, arith, append_assoc, length-append}
use Rattle.std.specs.Prelude.{slice_get}
use Rattle.std.proofs.lemmas.List.{append-nil, take_all}
use Rattle.rv_model.specs.declared.instr.Instr.{Instr}
use Rattle.rv_model.specs.declared.line.Line.{Line}
use Rattle.rv_model.specs.declared.line.Line.TheVariants.{Label, Plain, Branch, Jump, Const, CodeOf}
use Rattle.rv_asm.specs.declared.assembled.LabelPlace.{LabelPlace}
use Rattle.rv_asm.specs.Lines.{size_of, line_code}
use Rattle.rv_asm.specs.Layout.{Layout, count_from, count_of, start_of, place_of, code_from, line_place, places_from, target_of}
use Rattle.rv_asm.proofs.Starts.{start_rises}

some_same : {A : Type 0} (a b : A) → Some a ≡ Some b → a ≡ b
some_same a b e = cc

-- no line begins behind the end
pub start_within : (long : Layout) (lines : List Line) (k : ℕ) → k ≤ length lines → start_of long lines k ≤ count_of long lines
start_within long lines k le =
    let e : k + (length lines - k) ≡ length lines = omega (arith, le) in
    let up = subst (λ n. start_of long lines k ≤ start_of long lines n) e (start_rises long lines k (length lines - k)) in
    subst (λ l. start_of long lines k ≤ count_of long l) (take_all (length lines) lines (omega arith)) up

-- a line's code is as long as its size
line_code-length : (at to : ℕ) (long : Bool) (line : Line) → length (line_code at to long line) ≡ size_of long line
line_code-length at to long (Label l) = refl
line_code-length at to long (Plain i) = refl
line_code-length at to true (Branch op rs1 rs2 l) = refl
line_code-length at to false (Branch op rs1 rs2 l) = refl
line_code-length at to long (Jump rd l) = refl
line_code-length at to long (Const rd v) = refl
line_code-length at to long (CodeOf rd l) = refl

module _ (place : ℕ → ℕ) (long : Layout) where
  -- the code is as long as the count
  pub code-length : (j at : ℕ) (lines : List Line) → length (code_from place long j at lines) ≡ count_from long j lines
  code-length j at [] = refl
  code-length j at (x ∷ xs) =
      let a = length-append (line_code at (place (target_of x)) (long j) x) (code_from place long (suc j) (at + size_of (long j) x) xs) in
      let b = line_code-length at (place (target_of x)) (long j) x in
      let c = code-length (suc j) (at + size_of (long j) x) xs in
      omega (arith, a, b, c)

  -- one more line
  code_on : (j at k : ℕ) (lines : List Line) (line : Line) → slice_get lines k ≡ Some line → code_from place long j at (take (suc k) lines) ≡ code_from place long j at (take k lines) ++ line_code (at + count_from long j (take k lines)) (place (target_of line)) (long (j + k)) line
  code_on j at k [] line e = absurd (cc)
  code_on j at zero (x ∷ xs) line e =
      let here : at + 0 ≡ at = omega arith in
      let this : j + 0 ≡ j = omega arith in
      append-nil (line_code at (place (target_of x)) (long j) x)
      ∙ ap (λ l. line_code at (place (target_of l)) (long j) l) (some_same x line e)
      ∙ ap (λ n. line_code n (place (target_of line)) (long j) line) (sym here)
      ∙ ap (λ n. line_code (at + 0) (place (target_of line)) (long n) line) (sym this)
  code_on j at (suc k) (x ∷ xs) line e =
      let first = line_code at (place (target_of x)) (long j) x in
      let next = at + size_of (long j) x in
      let here : next + count_from long (suc j) (take k xs) ≡ at + (size_of (long j) x + count_from long (suc j) (take k xs)) = omega arith in
      let this : suc j + k ≡ j + suc k = omega arith in
      ap (λ l. first ++ l) (code_on (suc j) next k xs line e)
      ∙ sym (append_assoc first (code_from place long (suc j) next (take k xs)) (line_code (next + count_from long (suc j) (take k xs)) (place (target_of line)) (long (suc j + k)) line))
      ∙ ap (λ n. (first ++ code_from place long (suc j) next (take k xs)) ++ line_code n (place (target_of line)) (long (suc j + k)) line) here
      ∙ ap (λ n. (first ++ code_from place long (suc j) next (take k xs)) ++ line_code (at + (size_of (long j) x + count_from long (suc j) (take k xs))) (place (target_of line)) (long n) line) this

  pub code_more : (lines : List Line) (k : ℕ) (line : Line) → slice_get lines k ≡ Some line → code_from place long 0 0 (take (k + 1) lines) ≡ code_from place long 0 0 (take k lines) ++ line_code (start_of long lines k) (place (target_of line)) (long k) line
  code_more lines k line e =
      let this : k + 1 ≡ suc k = omega arith in
      let here : 0 + start_of long lines k ≡ start_of long lines k = omega arith in
      let zero_on : 0 + k ≡ k = omega arith in
      ap (λ n. code_from place long 0 0 (take n lines)) this ∙ code_on 0 0 k lines line e
      ∙ ap (λ n. code_from place long 0 0 (take k lines) ++ line_code n (place (target_of line)) (long (0 + k)) line) here
      ∙ ap (λ n. code_from place long 0 0 (take k lines) ++ line_code (start_of long lines k) (place (target_of line)) (long n) line) zero_on

module _ (long : Layout) where
  places_on : (j at k : ℕ) (lines : List Line) (line : Line) → slice_get lines k ≡ Some line → places_from long j at (take (suc k) lines) ≡ places_from long j at (take k lines) ++ line_place (at + count_from long j (take k lines)) line
  places_on j at k [] line e = absurd (cc)
  places_on j at zero (x ∷ xs) line e =
      let here : at + 0 ≡ at = omega arith in
      append-nil (line_place at x) ∙ ap (line_place at) (some_same x line e) ∙ ap (λ n. line_place n line) (sym here)
  places_on j at (suc k) (x ∷ xs) line e =
      let next = at + size_of (long j) x in
      let here : next + count_from long (suc j) (take k xs) ≡ at + (size_of (long j) x + count_from long (suc j) (take k xs)) = omega arith in
      ap (λ l. line_place at x ++ l) (places_on (suc j) next k xs line e)
      ∙ sym (append_assoc (line_place at x) (places_from long (suc j) next (take k xs)) (line_place (next + count_from long (suc j) (take k xs)) line))
      ∙ ap (λ n. (line_place at x ++ places_from long (suc j) next (take k xs)) ++ line_place n line) here

  pub places_more : (lines : List Line) (k : ℕ) (line : Line) → slice_get lines k ≡ Some line → places_from long 0 0 (take (k + 1) lines) ≡ places_from long 0 0 (take k lines) ++ line_place (start_of long lines k) line
  places_more lines k line e =
      let this : k + 1 ≡ suc k = omega arith in
      let here : 0 + start_of long lines k ≡ start_of long lines k = omega arith in
      ap (λ n. places_from long 0 0 (take n lines)) this ∙ places_on 0 0 k lines line e
      ∙ ap (λ n. places_from long 0 0 (take k lines) ++ line_place n line) here

  -- a line that defines no label
  pub place-none : (at : ℕ) (line : Line) → ((l : ℕ) → line ≡ Label l → ⊥) → line_place at line ≡ []
  place-none at (Label l) h = absurd (h l refl)
  place-none at (Plain i) h = refl
  place-none at (Branch op rs1 rs2 to) h = refl
  place-none at (Jump rd to) h = refl
  place-none at (Const rd v) h = refl
  place-none at (CodeOf rd l) h = refl

-- one more line, by what was found of it
pub emit_more : (long : Layout) (lines : List Line) (code : List Instr) (k at to : ℕ) (b : Bool) (line : Line) → slice_get lines k ≡ Some line → code ≡ code_from (place_of long lines) long 0 0 (take k lines) → at ≡ start_of long lines k → to ≡ place_of long lines (target_of line) → b ≡ long k → code ++ line_code at to b line ≡ code_from (place_of long lines) long 0 0 (take (k + 1) lines)
emit_more long lines code k at to b line e so_far from there is =
    ap (λ l. l ++ line_code at to b line) so_far
    ∙ ap (λ n. code_from (place_of long lines) long 0 0 (take k lines) ++ line_code n to b line) from
    ∙ ap (λ n. code_from (place_of long lines) long 0 0 (take k lines) ++ line_code (start_of long lines k) n b line) there
    ∙ ap (λ n. code_from (place_of long lines) long 0 0 (take k lines) ++ line_code (start_of long lines k) (place_of long lines (target_of line)) n line) is
    ∙ sym (code_more (place_of long lines) long lines k line e)

-- one more label
pub label_more : (long : Layout) (lines : List Line) (places : List LabelPlace) (k at l : ℕ) (line : Line) → slice_get lines k ≡ Some line → line ≡ Label l → places ≡ places_from long 0 0 (take k lines) → at ≡ start_of long lines k → places ++ record { label = l; pc = 4 * at } ∷ [] ≡ places_from long 0 0 (take (k + 1) lines)
label_more long lines places k at l line e is so_far from =
    ap (λ p. p ++ record { label = l; pc = 4 * at } ∷ []) so_far
    ∙ ap (λ n. places_from long 0 0 (take k lines) ++ record { label = l; pc = 4 * n } ∷ []) from
    ∙ ap (λ x. places_from long 0 0 (take k lines) ++ line_place (start_of long lines k) x) (sym is)
    ∙ sym (places_more long lines k line e)

-- a line without a label
pub other_more : (long : Layout) (lines : List Line) (places : List LabelPlace) (k : ℕ) (line : Line) → slice_get lines k ≡ Some line → ((l : ℕ) → line ≡ Label l → ⊥) → places ≡ places_from long 0 0 (take k lines) → places ≡ places_from long 0 0 (take (k + 1) lines)
other_more long lines places k line e not_label so_far =
    so_far ∙ sym (append-nil (places_from long 0 0 (take k lines)))
    ∙ ap (λ p. places_from long 0 0 (take k lines) ++ p) (sym (place-none long (start_of long lines k) line not_label))
    ∙ sym (places_more long lines k line e)
