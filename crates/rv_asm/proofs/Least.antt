-- Making branches long whose labels are out of reach never passes a layout that fits.
use Rattle.std.proofs.Common.{◌≡◌, ℕ, ◌+◌, ◌-◌, ◌<◌, ◌≤◌, List, Bool, true, false, not, ◌&&◌, ◌||◌, Option, Some, None, ⊎_elim, refl, sym, ap, ◌∙◌, subst, arith}
use Rattle.std.specs.Prelude.{slice_get, nat_le}
use Rattle.std.proofs.lemmas.Bool.{and_parts, and_from, cases_lt}
use Rattle.rv_model.specs.declared.line.Line.{Line}
use Rattle.rv_model.specs.declared.line.Line.TheVariants.{Label, Plain, Branch, Jump, Const, CodeOf}
use Rattle.rv_asm.specs.Layout.{Layout, Fits, start_of, place_of, line_of, is_near}
use Rattle.rv_asm.specs.Found.{is_far_if, is_far_at, grown}
use Rattle.rv_asm.proofs.Starts.{between_grows, start_rises}

le_true : (a b : ℕ) → nat_le a b ≡ true → a ≤ b
le_true a b h = grind arith

true_le : (a b : ℕ) → a ≤ b → nat_le a b ≡ true
true_le a b h = grind arith

-- what reach says
pub near_is : (a b : ℕ) → is_near a b ≡ true → (b ≤ a + 1023) × (a ≤ b + 1024)
near_is a b h = let p = and_parts (nat_le b (a + 1023)) _ h in (le_true b (a + 1023) p.0, le_true a (b + 1024) p.1)

is_near-from : (a b : ℕ) → b ≤ a + 1023 → a ≤ b + 1024 → is_near a b ≡ true
is_near-from a b h k = and_from _ _ (true_le b (a + 1023) h) (true_le a (b + 1024) k)

-- with fewer long branches what was in reach is in reach
near_stays : (lines : List Line) (long other : Layout) → ((k : ℕ) → long k ≡ true → other k ≡ true) → (k j : ℕ) → is_near (start_of other lines k) (start_of other lines j) ≡ true → is_near (start_of long lines k) (start_of long lines j) ≡ true
near_stays lines long other within k j h = ⊎_elim ahead behind (cases_lt k j)
  where
    near : (start_of other lines j ≤ start_of other lines k + 1023) × (start_of other lines k ≤ start_of other lines j + 1024)
    near = near_is _ _ h

    ahead : k < j → is_near (start_of long lines k) (start_of long lines j) ≡ true
    ahead lt =
        let e : k + (j - k) ≡ j = omega arith in
        let more = subst (λ n. start_of long lines n + start_of other lines k ≤ start_of other lines n + start_of long lines k) e (between_grows lines long other within k (j - k)) in
        let up = subst (λ n. start_of long lines k ≤ start_of long lines n) e (start_rises long lines k (j - k)) in
        is_near-from (start_of long lines k) (start_of long lines j) (omega (arith, more, near.0)) (omega (arith, up))

    behind : j ≤ k → is_near (start_of long lines k) (start_of long lines j) ≡ true
    behind le =
        let e : j + (k - j) ≡ k = omega arith in
        let more = subst (λ n. start_of long lines n + start_of other lines j ≤ start_of other lines n + start_of long lines j) e (between_grows lines long other within j (k - j)) in
        let up = subst (λ n. start_of long lines j ≤ start_of long lines n) e (start_rises long lines j (k - j)) in
        is_near-from (start_of long lines k) (start_of long lines j) (omega (arith, up)) (omega (arith, more, near.1))

-- a branch whose label is out of reach is long in each layout that fits and has the long branches so far
pub far-long : (lines : List Line) (long other : Layout) → Fits lines other → ((k : ℕ) → long k ≡ true → other k ≡ true) → (k : ℕ) → is_far_at long lines k ≡ true → other k ≡ true
far-long lines long other fits within k = by (slice_get lines k) refl
  where
    by_branch : (op : _) (rs1 rs2 to : ℕ) → slice_get lines k ≡ Some (Branch op rs1 rs2 to) → (b : Bool) → other k ≡ b → is_far_if long lines k (Some (Branch op rs1 rs2 to)) ≡ true → b ≡ true
    by_branch op rs1 rs2 to at true e far = refl
    by_branch op rs1 rs2 to at false e far =
        let near = near_stays lines long other within k (line_of lines to) (fits k op rs1 rs2 to at e) in
        let p = and_parts (not (long k)) _ far in
        let q : not true ≡ true = ap not (sym near) ∙ p.1 in
        absurd (cc)

    by : (o : Option Line) → slice_get lines k ≡ o → is_far_if long lines k o ≡ true → other k ≡ true
    by None at far = absurd (cc)
    by (Some (Label l)) at far = absurd (cc)
    by (Some (Plain i)) at far = absurd (cc)
    by (Some (Branch op rs1 rs2 to)) at far = by_branch op rs1 rs2 to at (other k) refl far
    by (Some (Jump rd to)) at far = absurd (cc)
    by (Some (Const rd v)) at far = absurd (cc)
    by (Some (CodeOf rd l)) at far = absurd (cc)

-- where no branch is far, the layout fits
pub none_far-fits : (lines : List Line) (long : Layout) → ((k : ℕ) → is_far_at long lines k ≡ false) → Fits lines long
none_far-fits lines long none k op rs1 rs2 to at short =
    by (is_near (start_of long lines k) (place_of long lines to)) refl
  where
    far : (not (long k) && not (is_near (start_of long lines k) (place_of long lines to))) ≡ false
    far = ap (is_far_if long lines k) (sym at) ∙ none k

    by : (b : Bool) → is_near (start_of long lines k) (place_of long lines to) ≡ b → b ≡ true
    by true e = refl
    by false e =
        let h : (not false && not false) ≡ false = ap (λ b. not b && not false) (sym short) ∙ ap (λ b. not (long k) && not b) (sym e) ∙ far in
        absurd (cc)

-- the next layout is still within each one that fits
pub grown-within : (lines : List Line) (long other : Layout) → Fits lines other → ((k : ℕ) → long k ≡ true → other k ≡ true) → (k : ℕ) → grown lines long k ≡ true → other k ≡ true
grown-within lines long other fits within k h = by (long k) refl h
  where
    by : (b : Bool) → long k ≡ b → (b || is_far_at long lines k) ≡ true → other k ≡ true
    by true e h = within k e
    by false e h = far-long lines long other fits within k h
