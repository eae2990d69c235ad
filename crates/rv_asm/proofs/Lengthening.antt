-- One round: the branches whose labels are out of reach become long.
use Rattle.std.proofs.Common.{◌≡◌, ◌≢◌, ℕ, zero, suc, ◌+◌, ◌<◌, ◌≤◌, List, [], ◌∷◌, Bool, true, false, ◌||◌, Some, map, length, get_or, ⊎_elim, refl, sym, ap, ◌∙◌, arith}
use Rattle.std.specs.Prelude.{slice_get, slice_index, slice_set, if◌then◌else◌}
use Rattle.std.proofs.lemmas.Bool.{cases_lt}
use Rattle.std.proofs.lemmas.List.{get_or-map, get_or-set_same, get_or-set_other}
use Rattle.std.proofs.lemmas.List.Sums.{prefix_len-le-length}
use Rattle.std.proofs.lemmas.Option.{slice_get-get_or, slice_get_within, get_or_from_slice_get}
use Rattle.rv_model.specs.declared.line.Line.{Line}
use Rattle.rv_model.specs.declared.line.Line.TheVariants.{Label, Plain, Branch, Jump, Const, CodeOf}
use Rattle.rv_asm.specs.Layout.{Layout, target_of, start_of, place_of}
use Rattle.rv_asm.specs.Found.{layout_of, line_named, is_far, is_far_if, is_far_at, grown, short_count, AreStarts}

-- the lines below k are done, and the others are as they were
pub record Lengthened (lines : List Line) (before long : List Bool) (grew : Bool) (k : ℕ) : Type 0 where
  pub done : (j : ℕ) → j < k → layout_of long j ≡ grown lines (layout_of before) j
  pub rest : (j : ℕ) → k ≤ j → layout_of long j ≡ layout_of before j
  pub none : grew ≡ false → (j : ℕ) → j < k → is_far_at (layout_of before) lines j ≡ false
  pub same : grew ≡ false → long ≡ before
  pub few : short_count long ≤ short_count before
  pub fewer : grew ≡ true → short_count long < short_count before

pub lengthened_none : (lines : List Line) (long : List Bool) → Lengthened lines long long false 0
lengthened_none lines long = record {
  done = λ j lt. absurd (omega (arith, lt));
  rest = λ j le. refl;
  none = λ e j lt. absurd (omega (arith, lt));
  same = λ e. refl;
  few = omega arith;
  fewer = λ e. absurd (cc);
}

short_count-set : (long : List Bool) (k : ℕ) → k < length long → layout_of long k ≡ false → short_count (slice_set long k true) + 1 ≡ short_count long
short_count-set [] k lt e = absurd (omega (arith, lt))
short_count-set (b ∷ bs) zero lt e =
    let one : Bool → ℕ = λ c. if c then 0 else 1 in
    let n : one b ≡ 1 = ap one e in omega (arith, n)
short_count-set (b ∷ bs) (suc k) lt e = omega (arith, short_count-set bs k (omega (arith, lt)) e)

or_true : (a : Bool) → (a || true) ≡ true
or_true true = refl
or_true false = refl

or_false : (a : Bool) → (a || false) ≡ a
or_false true = refl
or_false false = refl

-- a branch becomes long
pub lengthened_far : (lines : List Line) (before long : List Bool) (grew : Bool) (k : ℕ) → Lengthened lines before long grew k → k < length long → layout_of long k ≡ false → is_far_at (layout_of before) lines k ≡ true → Lengthened lines before (slice_set long k true) true (k + 1)
lengthened_far lines before long grew k h within short far = record {
  done = λ j lt. ⊎_elim (earlier j) (here j lt) (cases_lt j k);
  rest = λ j le. let ne : j ≢ k = omega (arith, le) in get_or-set_other long k j true false ne ∙ h.rest j (omega (arith, le));
  none = λ e. absurd (cc);
  same = λ e. absurd (cc);
  few = omega (arith, h.few, short_count-set long k within short);
  fewer = λ e. omega (arith, h.few, short_count-set long k within short);
}
  where
    earlier : (j : ℕ) → j < k → layout_of (slice_set long k true) j ≡ grown lines (layout_of before) j
    earlier j lt = let ne : j ≢ k = omega (arith, lt) in get_or-set_other long k j true false ne ∙ h.done j lt

    here : (j : ℕ) → j < k + 1 → k ≤ j → layout_of (slice_set long k true) j ≡ grown lines (layout_of before) j
    here j lt le =
        let e : j ≡ k = omega (arith, lt, le) in
        ap (layout_of (slice_set long k true)) e ∙ get_or-set_same long k true false within
        ∙ sym (or_true (layout_of before k)) ∙ ap (λ b. layout_of before k || b) (sym far) ∙ ap (grown lines (layout_of before)) (sym e)

-- a line stays as it is
pub lengthened_near : (lines : List Line) (before long : List Bool) (grew : Bool) (k : ℕ) → Lengthened lines before long grew k → is_far_at (layout_of before) lines k ≡ false → Lengthened lines before long grew (k + 1)
lengthened_near lines before long grew k h near = record {
  done = λ j lt. ⊎_elim (h.done j) (here j lt) (cases_lt j k);
  rest = λ j le. h.rest j (omega (arith, le));
  none = λ e j lt. ⊎_elim (h.none e j) (not_far j lt) (cases_lt j k);
  same = h.same;
  few = h.few;
  fewer = h.fewer;
}
  where
    here : (j : ℕ) → j < k + 1 → k ≤ j → layout_of long j ≡ grown lines (layout_of before) j
    here j lt le =
        let e : j ≡ k = omega (arith, lt, le) in
        h.rest j le ∙ sym (or_false (layout_of before j)) ∙ ap (λ b. layout_of before j || b) (sym near) ∙ ap (λ n. layout_of before j || is_far_at (layout_of before) lines n) (sym e)

    not_far : (j : ℕ) → j < k + 1 → k ≤ j → is_far_at (layout_of before) lines j ≡ false
    not_far j lt le = let e : j ≡ k = omega (arith, lt, le) in ap (is_far_at (layout_of before) lines) e ∙ near

-- the number of the line of a line's label
pub named_at : (lines : List Line) (named : List ℕ) (k : ℕ) (line : Line) → named ≡ map (line_named lines) lines → slice_get lines k ≡ Some line → slice_index named k ≡ line_named lines line
named_at lines named k line e at =
    ap (λ xs. slice_index xs k) e ∙ get_or-map (line_named lines) lines k (Label 0) 0 (slice_get_within lines k line at)
    ∙ ap (line_named lines) (get_or_from_slice_get lines k line (Label 0) at)

named_within : (lines : List Line) (line : Line) → line_named lines line ≤ length lines
named_within lines line = prefix_len-le-length _ lines

pub named_below : (lines : List Line) (named : List ℕ) (k : ℕ) → named ≡ map (line_named lines) lines → k < length lines → slice_index named k ≤ length lines
named_below lines named k e lt =
    let line = get_or lines k (Label 0) in
    let is = named_at lines named k line e (slice_get-get_or lines k (Label 0) lt) in
    omega (arith, is, named_within lines line)

-- the instruction at a line's label
pub place_found : (lines : List Line) (long : Layout) (starts named : List ℕ) (k : ℕ) (line : Line) → AreStarts long lines starts → named ≡ map (line_named lines) lines → slice_get lines k ≡ Some line → slice_index starts (slice_index named k) ≡ place_of long lines (target_of line)
place_found lines long starts named k line are e at =
    ap (slice_index starts) (named_at lines named k line e at) ∙ are (line_named lines line) (named_within lines line)

-- whether a branch is far is seen in what was found
pub far_found : (lines : List Line) (before long : List Bool) (starts named : List ℕ) (k : ℕ) (line : Line) → AreStarts (layout_of before) lines starts → named ≡ map (line_named lines) lines → slice_get lines k ≡ Some line → layout_of long k ≡ layout_of before k → is_far line (layout_of long k) (slice_index starts k) (slice_index starts (slice_index named k)) ≡ is_far_at (layout_of before) lines k
far_found lines before long starts named k line are e at same =
    ap (λ b. is_far line b (slice_index starts k) (slice_index starts (slice_index named k))) same
    ∙ ap (λ n. is_far line (layout_of before k) n (slice_index starts (slice_index named k))) (are k (omega (arith, slice_get_within lines k line at)))
    ∙ ap (λ n. is_far line (layout_of before k) (start_of (layout_of before) lines k) n) (place_found lines (layout_of before) starts named k line are e at)
    ∙ ap (is_far_if (layout_of before) lines k) (sym at)

-- a far branch isn't long
pub far_short : (line : Line) (long : Bool) (from to : ℕ) → is_far line long from to ≡ true → long ≡ false
far_short (Label l) long from to h = absurd (cc)
far_short (Plain i) long from to h = absurd (cc)
far_short (Branch op rs1 rs2 l) true from to h = absurd (cc)
far_short (Branch op rs1 rs2 l) false from to h = refl
far_short (Jump rd l) long from to h = absurd (cc)
far_short (Const rd v) long from to h = absurd (cc)
far_short (CodeOf rd l) long from to h = absurd (cc)
