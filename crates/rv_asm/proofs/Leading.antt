-- Instructions lead from one line to the next, or to a label.
use Rattle.std.proofs.Common.{◌≡◌, ℕ, zero, suc, ◌+◌, ◌-◌, ◌*◌, ◌/◌, ◌%◌, ◌<◌, ◌≤◌, pos, negsuc, List, [], ◌∷◌, length, Bool, true, false, not, Some, None, refl, sym, ap, ◌∙◌, subst, arith}
use Rattle.std.specs.Prelude.{slice_get, ◌==◌, nat_lt, nat_le, if◌then◌else◌}
use Rattle.std.proofs.lemmas.Bool.{leb-true, leb-false}
use Rattle.std.proofs.lemmas.Option.{slice_get_within}
use Rattle.rv_model.specs.declared.instr.Op.{Op}
use Rattle.rv_model.specs.declared.instr.Op.TheVariants.{Jal, Beq, Bne, Blt, Bge, Bltu, Bgeu}
use Rattle.rv_model.specs.declared.instr.Instr.{Instr}
use Rattle.rv_model.specs.Word.{wrap, word_of, less}
use Rattle.rv_model.specs.Format.{plain}
use Rattle.rv_model.specs.Table.{Effect, Sets, AddsPc, Branches, Links, LinksTo, Loads, LoadsByte, Stores, Swaps, Adds, Masks, Exchanges, Calls, effect}
use Rattle.rv_model.specs.Machine.{Regs, put, get, Hart, Moves, plan, planned, planned_if, fetch, effect_of}
use Rattle.rv_model.specs.Block.{with_sets, block}
use Rattle.rv_model.specs.Run.{IsLed}
use Rattle.rv_asm.specs.Lines.{IsBranch, offset, opposite}
use Rattle.rv_asm.specs.Doing.{hart_at, Leads, takes, is_taken}

-- the instructions stand in the code at this place
abbrev pub HasAt : List Instr → ℕ → List Instr → Type 0
HasAt code k [] = Unit {0}
HasAt code k (i ∷ is) = (slice_get code k ≡ Some i) × HasAt code (k + 1) is

fetch_at : (code : List Instr) (k : ℕ) → fetch code (4 * k) ≡ slice_get code k
fetch_at code k =
    let e : (4 * k) % 4 ≡ 0 = omega arith in
    let d : (4 * k) / 4 ≡ k = omega arith in
    ap (λ x. if x == 0 then slice_get code ((4 * k) / 4) else None) e ∙ ap (λ x. slice_get code x) d

plan_at : (size : ℕ) (code : List Instr) (k c : ℕ) (r : Regs) (i : Instr) → slice_get code k ≡ Some i → plan size code (hart_at k r c) ≡ planned size i.rd (effect_of i r) (hart_at k r c)
plan_at size code k c r i has = ap (λ o. planned_if size o (hart_at k r c)) (fetch_at code k ∙ has)

module _ (size budget : ℕ) (code : List Instr) (short : length code ≤ 262144) where
  -- one instruction
  led_one : (k c to : ℕ) (r r' : Regs) (i : Instr) (at : ℕ) → slice_get code k ≡ Some i → planned size i.rd (effect_of i r) (hart_at k r c) ≡ Moves at r' → at ≡ 4 * to → c < budget → IsLed size code budget 1 (hart_at k r c) (hart_at to r' (c + 1))
  led_one k c to r r' i at has is e lt =
      (hart_at k r c, at, r', refl, plan_at size code k c r i has ∙ is, lt, ap (λ p. record { pc = p; regs = r'; retired = c + 1 }) e)

  -- one after the other
  led_on : (m n : ℕ) (h h' h'' : Hart) → IsLed size code budget m h h' → IsLed size code budget n h' h'' → IsLed size code budget (n + m) h h''
  led_on m zero h h' h'' a b = let e : zero + m ≡ m = omega arith in subst (λ n. IsLed size code budget n h h'') (sym e) (subst (IsLed size code budget m h) b a)
  led_on m (suc n) h h' h'' a (g, to, r, before, is, lt, end) =
      let e : suc n + m ≡ suc (n + m) = omega arith in
      subst (λ n. IsLed size code budget n h h'') (sym e) (g, to, r, led_on m n h h' g a before, is, lt, end)

  next_is : (k : ℕ) (i : Instr) → slice_get code k ≡ Some i → wrap (4 * k + 4) ≡ 4 * (k + 1)
  next_is k i has = let lt = slice_get_within code k i has in omega (arith, lt, short)

  -- instructions that only set registers
  led_block : (is : List Instr) (k c : ℕ) (r r' : Regs) → HasAt code k is → block is r ≡ Some r' → c + length is ≤ budget → IsLed size code budget (length is) (hart_at k r c) (hart_at (k + length is) r' (c + length is))
  led_block [] k c r r' has b room =
      let same : r ≡ r' = cc in
      let ek : k ≡ k + 0 = omega arith in
      let ec : c ≡ c + 0 = omega arith in
      λ j. record { pc = 4 * ek j; regs = same j; retired = ec j }
  led_block (i ∷ is) k c r r' has b room = by (effect_of i r) refl b (λ v e. led_block is (k + 1) (c + 1) (put r i.rd v) r' has.1 e (omega (arith, room)))
    where
      step : (v : ℕ) → effect_of i r ≡ Sets v → IsLed size code budget (length is) (hart_at (k + 1) (put r i.rd v) (c + 1)) (hart_at (k + 1 + length is) r' (c + 1 + length is)) → IsLed size code budget (length (i ∷ is)) (hart_at k r c) (hart_at (k + length (i ∷ is)) r' (c + length (i ∷ is)))
      step v e rest =
          let first = led_one k c (k + 1) r (put r i.rd v) i (wrap (4 * k + 4)) has.0 (ap (λ x. planned size i.rd x (hart_at k r c)) e) (next_is k i has.0) (omega (arith, room)) in
          let all = led_on 1 (length is) (hart_at k r c) (hart_at (k + 1) (put r i.rd v) (c + 1)) (hart_at (k + 1 + length is) r' (c + 1 + length is)) first rest in
          let en : length is + 1 ≡ suc (length is) = omega arith in
          let ek : k + 1 + length is ≡ k + suc (length is) = omega arith in
          let ec : c + 1 + length is ≡ c + suc (length is) = omega arith in
          subst (λ n. IsLed size code budget n (hart_at k r c) (hart_at (k + suc (length is)) r' (c + suc (length is)))) en
          (subst (λ n. IsLed size code budget (length is + 1) (hart_at k r c) (hart_at (k + suc (length is)) r' n)) ec
          (subst (λ n. IsLed size code budget (length is + 1) (hart_at k r c) (hart_at n r' (c + 1 + length is))) ek all))

      by : (x : Effect) → effect_of i r ≡ x → with_sets x (λ v. block is (put r i.rd v)) ≡ Some r' → ((v : ℕ) → block is (put r i.rd v) ≡ Some r' → IsLed size code budget (length is) (hart_at (k + 1) (put r i.rd v) (c + 1)) (hart_at (k + 1 + length is) r' (c + 1 + length is))) → IsLed size code budget (length (i ∷ is)) (hart_at k r c) (hart_at (k + length (i ∷ is)) r' (c + length (i ∷ is)))
      by (Sets v) e b rest = step v e (rest v b)
      by (AddsPc v) e b rest = absurd (cc)
      by (Branches t o) e b rest = absurd (cc)
      by (Links o) e b rest = absurd (cc)
      by (LinksTo o) e b rest = absurd (cc)
      by (Loads o) e b rest = absurd (cc)
      by (LoadsByte o) e b rest = absurd (cc)
      by (Stores o v) e b rest = absurd (cc)
      by (Swaps o v) e b rest = absurd (cc)
      by (Adds o v) e b rest = absurd (cc)
      by (Masks o v) e b rest = absurd (cc)
      by (Exchanges o u v) e b rest = absurd (cc)
      by Calls e b rest = absurd (cc)

-- branches

not_not : (b : Bool) → not (not b) ≡ b
not_not true = refl
not_not false = refl

branch_effect : (op : Op) (a b d i : ℕ) → IsBranch op → effect op a b d i ≡ Branches (is_taken (effect op a b 0 0)) i
branch_effect Beq a b d i h = refl
branch_effect Bne a b d i h = refl
branch_effect Blt a b d i h = refl
branch_effect Bge a b d i h = refl
branch_effect Bltu a b d i h = refl
branch_effect Bgeu a b d i h = refl
branch_effect op a b d i h = let e = h.2 in absurd (cc)

opposite_taken : (op : Op) (a b d i : ℕ) → IsBranch op → effect (opposite op) a b d i ≡ Branches (not (is_taken (effect op a b 0 0))) i
opposite_taken Beq a b d i h = refl
opposite_taken Bne a b d i h = ap (λ t. Branches t i) (sym (not_not (a == b)))
opposite_taken Blt a b d i h = refl
opposite_taken Bge a b d i h = ap (λ t. Branches t i) (sym (not_not (less a b)))
opposite_taken Bltu a b d i h = refl
opposite_taken Bgeu a b d i h = ap (λ t. Branches t i) (sym (not_not (nat_lt a b)))
opposite_taken op a b d i h = let e = h.2 in absurd (cc)

-- an offset leads to its instruction
offset_lands : (from to : ℕ) → from ≤ 262144 → to ≤ 262144 → wrap (4 * from + word_of (offset from to)) ≡ 4 * to
offset_lands from to h k = by (nat_le from to) refl
  where
    by : (b : Bool) → nat_le from to ≡ b → wrap (4 * from + word_of (if b then pos (4 * (to - from)) else negsuc (4 * (from - to) - 1))) ≡ 4 * to
    by true e = let le = leb-true from to e in omega (arith, h, k, le)
    by false e = let lt = leb-false from to e in omega (arith, h, k, lt)

module _ (code : List Instr) (short : length code ≤ 262144) where
  pub leads_block : (is : List Instr) (k : ℕ) (r r' : Regs) → HasAt code k is → block is r ≡ Some r' → length is ≤ 8 → Leads code k r (k + length is) r'
  leads_block is k r r' has b few size budget c room = (length is, few, led_block size budget code short is k c r r' has b (omega (arith, few, room)))

  -- a branch that is one instruction
  pub leads_branch : (op : Op) (rs1 rs2 k to : ℕ) (r : Regs) → IsBranch op → to ≤ 262144 → HasAt code k (plain op 0 rs1 rs2 (offset k to) ∷ []) → Leads code k r (if takes op r rs1 rs2 then to else k + 1) r
  leads_branch op rs1 rs2 k to r is in_range has size budget c room =
      let i = plain op 0 rs1 rs2 (offset k to) in
      let t = takes op r rs1 rs2 in
      let within = slice_get_within code k i has.0 in
      let e = branch_effect op (get r rs1) (get r rs2) (get r 0) (word_of (offset k to)) is in
      (1, omega arith, led_one size budget code short k c (if t then to else k + 1) r r i (if t then wrap (4 * k + word_of (offset k to)) else wrap (4 * k + 4)) has.0 (ap (λ x. planned size 0 x (hart_at k r c)) e) (lands t (omega (arith, within, short)) (next_is size budget code short k i has.0)) (omega (arith, room)))
    where
      lands : (t : Bool) → k ≤ 262144 → wrap (4 * k + 4) ≡ 4 * (k + 1) → (if t then wrap (4 * k + word_of (offset k to)) else wrap (4 * k + 4)) ≡ 4 * (if t then to else k + 1)
      lands true le n = offset_lands k to le in_range
      lands false le n = n

  -- a jump
  pub leads_jump : (rd k to : ℕ) (r : Regs) → to ≤ 262144 → HasAt code k (plain Jal rd 0 0 (offset k to) ∷ []) → Leads code k r to (put r rd (4 * (k + 1)))
  leads_jump rd k to r in_range has size budget c room =
      let i = plain Jal rd 0 0 (offset k to) in
      let within = slice_get_within code k i has.0 in
      let n = next_is size budget code short k i has.0 in
      (1, omega arith, led_one size budget code short k c to r (put r rd (4 * (k + 1))) i (wrap (4 * k + word_of (offset k to))) has.0 (ap (λ v. Moves (wrap (4 * k + word_of (offset k to))) (put r rd v)) n) (offset_lands k to (omega (arith, within, short)) in_range) (omega (arith, room)))

  -- the opposite branch over a jump
  pub leads_long : (op : Op) (rs1 rs2 k to : ℕ) (r : Regs) → IsBranch op → to ≤ 262144 → HasAt code k (plain (opposite op) 0 rs1 rs2 (pos 8) ∷ plain Jal 0 0 0 (offset (k + 1) to) ∷ []) → Leads code k r (if takes op r rs1 rs2 then to else k + 2) r
  leads_long op rs1 rs2 k to r is in_range has size budget c room = by (takes op r rs1 rs2) (opposite_taken op (get r rs1) (get r rs2) (get r 0) 8 is)
    where
      within : k < length code
      within = slice_get_within code k (plain (opposite op) 0 rs1 rs2 (pos 8)) has.0

      by : (t : Bool) → effect (opposite op) (get r rs1) (get r rs2) (get r 0) 8 ≡ Branches (not t) 8 → (n : ℕ) × (n ≤ 8) × IsLed size code budget n (hart_at k r c) (hart_at (if t then to else k + 2) r (c + n))
      by true e =
          let i = plain (opposite op) 0 rs1 rs2 (pos 8) in
          let j = plain Jal 0 0 0 (offset (k + 1) to) in
          let within' = slice_get_within code (k + 1) j has.1.0 in
          let first = led_one size budget code short k c (k + 1) r r i (wrap (4 * k + 4)) has.0 (ap (λ x. planned size 0 x (hart_at k r c)) e) (next_is size budget code short k i has.0) (omega (arith, room)) in
          let second = led_one size budget code short (k + 1) (c + 1) to r r j (wrap (4 * (k + 1) + word_of (offset (k + 1) to))) has.1.0 refl (offset_lands (k + 1) to (omega (arith, within', short)) in_range) (omega (arith, room)) in
          let both = led_on size budget code short 1 1 (hart_at k r c) (hart_at (k + 1) r (c + 1)) (hart_at to r (c + 1 + 1)) first second in
          let ec : c + 1 + 1 ≡ c + 2 = omega arith in
          (2, omega arith, subst (λ n. IsLed size code budget 2 (hart_at k r c) (hart_at to r n)) ec both)
      by false e =
          let i = plain (opposite op) 0 rs1 rs2 (pos 8) in
          (1, omega arith, led_one size budget code short k c (k + 2) r r i (wrap (4 * k + 8)) has.0 (ap (λ x. planned size 0 x (hart_at k r c)) e) (omega (arith, within, short)) (omega (arith, room)))
