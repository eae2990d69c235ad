-- Rounds until no branch is out of reach.
use Rattle.std.proofs.Common.{◌≡◌, ℕ, zero, suc, ◌*◌, ◌^◌, ◌<◌, ◌≤◌, List, [], ◌∷◌, ◌++◌, Bool, true, false, length, take, drop, replicate, ⊎_elim, refl, sym, ap, ◌∙◌, subst, arith}
use Rattle.std.specs.Prelude.{slice_index}
use Rattle.std.proofs.lemmas.Bool.{cases_lt}
use Rattle.std.proofs.lemmas.List.{get_or_past, length-replicate}
use Rattle.std.proofs.lemmas.Option.{slice_get_past}
use Rattle.rv_model.specs.declared.line.Line.{Line}
use Rattle.rv_asm.specs.Layout.{Layout, Fits, IsLeast}
use Rattle.rv_asm.specs.Found.{layout_of, is_far_if, is_far_at, grown, AreStarts, AreSettled}
use Rattle.rv_asm.proofs.Starts.{start-few}
use Rattle.rv_asm.proofs.Least.{grown-within, none_far-fits}

-- a slice of all elements, written back
pub put_back : {A : Type 0} (n : ℕ) (new old : List A) → length new ≡ n → take n (new ++ drop (length new) old) ≡ new
put_back n new old e = ap (λ m. take m (new ++ drop (length new) old)) (sym e) ∙ front new (drop (length new) old)
  where
    front : {A : Type 0} (a b : List A) → take (length a) (a ++ b) ≡ a
    front [] b = refl
    front (x ∷ a) b = ap (λ l. x ∷ l) (front a b)

pub starts_small : (lines : List Line) (long : Layout) (starts : List ℕ) → AreStarts long lines starts → length starts ≡ suc (length lines) → 8 * length lines < 2 ^ 63 → (k : ℕ) → slice_index starts k < 2 ^ 63
starts_small lines long starts are room small k = ⊎_elim past within (cases_lt (length lines) k)
  where
    within : k ≤ length lines → slice_index starts k < 2 ^ 63
    within le = omega (arith, are k le, start-few long lines k)

    past : length lines < k → slice_index starts k < 2 ^ 63
    past lt = let e : slice_index starts k ≡ 0 = get_or_past starts k 0 (omega (arith, lt, room)) in omega (arith, e)

-- another round keeps within each layout that fits
pub least_on : (lines : List Line) (before long : List Bool) → length long ≡ length lines → ((k : ℕ) → k < length lines → layout_of long k ≡ grown lines (layout_of before) k) → ((other : Layout) → Fits lines other → (k : ℕ) → layout_of before k ≡ true → other k ≡ true) → (other : Layout) → Fits lines other → (k : ℕ) → layout_of long k ≡ true → other k ≡ true
least_on lines before long all is so_far other fits k h = ⊎_elim within past (cases_lt k (length lines))
  where
    within : k < length lines → other k ≡ true
    within lt = grown-within lines (layout_of before) other fits (so_far other fits) k (sym (is k lt) ∙ h)

    past : length lines ≤ k → other k ≡ true
    past le =
        let e : layout_of long k ≡ false = get_or_past long k false (omega (arith, le, all)) in
        let no : false ≡ true = sym e ∙ h in
        absurd (cc)

-- where no branch is far the layout is the least
pub least_found : (lines : List Line) (long : List Bool) → ((k : ℕ) → k < length lines → is_far_at (layout_of long) lines k ≡ false) → ((other : Layout) → Fits lines other → (k : ℕ) → layout_of long k ≡ true → other k ≡ true) → IsLeast lines (layout_of long)
least_found lines long none least = record {
  fits = none_far-fits lines (layout_of long) (λ k. ⊎_elim (none k) (past k) (cases_lt k (length lines)));
  least = least;
}
  where
    past : (k : ℕ) → length lines ≤ k → is_far_at (layout_of long) lines k ≡ false
    past k le = ap (is_far_if (layout_of long) lines k) (slice_get_past lines k le)

-- the starts are those of the layout so far, which has no long branch that a layout which fits does without
pub record InRounds (lines : List Line) (long : List Bool) (starts : List ℕ) : Type 0 where
  pub all : length long ≡ length lines
  pub room : length starts ≡ suc (length lines)
  pub first : slice_index starts 0 ≡ 0
  pub are_starts : AreStarts (layout_of long) lines starts
  pub least : (other : Layout) → Fits lines other → (k : ℕ) → layout_of long k ≡ true → other k ≡ true

-- at first no branch is long
pub rounds_none : (lines : List Line) (n : ℕ) (long : List Bool) (starts : List ℕ) → long ≡ replicate n false → n ≡ length lines → length starts ≡ suc (length lines) → slice_index starts 0 ≡ 0 → AreStarts (layout_of long) lines starts → InRounds lines long starts
rounds_none lines n long starts e is room first are = record {
  all = ap length e ∙ length-replicate n false ∙ is;
  room = room;
  first = first;
  are_starts = are;
  least = λ other fits k h. let no : false ≡ true = sym (short k n) ∙ ap (λ l. layout_of l k) (sym e) ∙ h in absurd (cc);
}
  where
    short : (k n : ℕ) → layout_of (replicate n false) k ≡ false
    short k zero = refl
    short zero (suc n) = refl
    short (suc k) (suc n) = short k n

-- one more round
pub rounds_more : (lines : List Line) (long long' before after : List Bool) (starts starts' : List ℕ) → InRounds lines long starts → before ≡ long → after ≡ long' → length long' ≡ length lines → length starts' ≡ suc (length lines) → slice_index starts' 0 ≡ 0 → ((k : ℕ) → k < length lines → layout_of long' k ≡ grown lines (layout_of before) k) → AreStarts (layout_of after) lines starts' → InRounds lines long' starts'
rounds_more lines long long' before after starts starts' h same now all room first is are = record {
  all = all;
  room = room;
  first = first;
  are_starts = subst (λ l. AreStarts (layout_of l) lines starts') now are;
  least = least_on lines long long' all (λ k lt. is k lt ∙ ap (λ l. grown lines (layout_of l) k) same) h.least;
}

-- the last round
pub rounds_end : (lines : List Line) (long before : List Bool) (starts : List ℕ) → InRounds lines long starts → before ≡ long → ((k : ℕ) → k < length lines → is_far_at (layout_of before) lines k ≡ false) → AreSettled lines long starts
rounds_end lines long before starts h same none = record {
  least = least_found lines long (λ k lt. ap (λ l. is_far_at (layout_of l) lines k) (sym same) ∙ none k lt) h.least;
  are_starts = h.are_starts;
  all = h.all;
  room = h.room;
}
