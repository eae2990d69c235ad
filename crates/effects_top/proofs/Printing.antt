-- The code that prints an integer, whole: its sign, its digits, its minus, and the end.
use Rattle.std.proofs.Common.{◌≡◌, ℕ, zero, suc, ◌+◌, ◌-◌, ◌*◌, ◌/◌, ◌^◌, ◌<◌, ◌≤◌, List, [], ◌∷◌, ◌++◌, length, Bool, true, false, refl, sym, ap, ◌∙◌, subst, arith, ⊎_elim, pos, negsuc, neg_ℤ}
use Rattle.std.specs.Prelude.{not, ◌==◌, if◌then◌else◌}
use Rattle.std.proofs.lemmas.Bool.{lt-leb, lt-ltb, cases_lt}
use Rattle.std.proofs.Math.Dec.{eqb-suc-zero}
use Rattle.effect_meaning.specs.Terms.{Place}
use Rattle.effect_meaning.specs.Numbers.{of_bits}
use Rattle.effect_meaning.specs.Texts.{decimal, digits_onto}
use Rattle.rv_model.specs.declared.instr.Op.TheVariants.{Addi, Srai, Sub, Bge, Ld}
use Rattle.rv_model.specs.declared.instr.Instr.{Instr}
use Rattle.rv_model.specs.Format.{plain}
use Rattle.rv_model.specs.Word.{wrap, shifted_signed, less}
use Rattle.rv_model.specs.Table.{Branches, Loads}
use Rattle.rv_model.specs.Machine.{Regs, put, Words}
use Rattle.effects_top.specs.Compiled.{prepend_code, digits_code, minus_code, end_code, print_code}
use Rattle.effects_top.specs.Expression.{Expression, AreIntegers}
use Rattle.effects_top.proofs.Instructions.{HasAt, has_front, has_back, at, Good}
use Rattle.effects_top.proofs.Blocks.{run_block, load_one, branch_taken, branch_not}
use Rattle.effects_top.proofs.Stacking.{IsFresh}
use Rattle.effects_top.proofs.Digits.{digits, low_bytes, low_bytes_before, room, room_small, HasText, Prepends, prepend_block}
use Rattle.effects_top.proofs.DigitLoop.{tens, loop_good}
use Rattle.effects_top.proofs.Ending.{Ok, Over, fresh_ok, end_good}
use Rattle.effects_top.proofs.Evaluates.{printed, value_bits, value_is, value_bits_small}

abbrev magnitude_code : List Instr
magnitude_code = plain Srai 5 10 0 (pos 1) ∷ plain Addi 9 0 0 (pos 0) ∷ []

abbrev negate_code : List Instr
negate_code = plain Sub 5 0 5 (pos 0) ∷ plain Addi 9 0 0 (pos 1) ∷ []

abbrev empty_text_code : List Instr
empty_text_code = plain Addi 6 0 0 (pos 0) ∷ plain Addi 7 0 0 (pos 0) ∷ plain Addi 8 0 0 (pos 0) ∷ plain Addi 11 0 0 (pos 0) ∷ plain Addi 12 0 0 (pos 10) ∷ []

-- from the empty text on
abbrev text_code : List Instr
text_code = empty_text_code ++ (digits_code ++ (minus_code ++ end_code))

-- behind the load
abbrev shown_code : List Instr
shown_code = magnitude_code ++ (plain Bge 0 5 0 (pos 12) ∷ (negate_code ++ text_code))

pub print_is : print_code ≡ plain Ld 10 2 0 (negsuc 7) ∷ shown_code
unfolding print_code
print_is = refl

plus_sign : (v : ℕ) → v < 2 ^ 62 → (shifted_signed (2 * v + 1) 1 ≡ v) × (less v 0 ≡ false)
plus_sign v h =
    let e : (2 * v + 1) / 2 ≡ v = omega arith in (
      ap (λ (b : Bool). if b then (2 * v + 1) / 2 + (2 ^ 64 - 2 ^ 63) else (2 * v + 1) / 2) (lt-leb (2 ^ 63) (2 * v + 1) (omega arith)) ∙ e,
      lt-leb (suc (wrap (v + 2 ^ 63))) (2 ^ 63) (omega arith),
    )

minus_sign : (v : ℕ) → 2 ^ 62 ≤ v → v < 2 ^ 63 → (shifted_signed (2 * v + 1) 1 ≡ v + 2 ^ 63) × (less (v + 2 ^ 63) 0 ≡ true)
minus_sign v h l =
    let e : (2 * v + 1) / 2 + (2 ^ 64 - 2 ^ 63) ≡ v + 2 ^ 63 = omega arith in (
      ap (λ (b : Bool). if b then (2 * v + 1) / 2 + (2 ^ 64 - 2 ^ 63) else (2 * v + 1) / 2) (lt-ltb (2 ^ 63 - 1) (2 * v + 1) (omega arith)) ∙ e,
      lt-ltb (wrap (v + 2 ^ 63 + 2 ^ 63)) (2 ^ 63) (omega arith),
    )

few_digits : (x : ℕ) → x < 2 ^ 63 → x < tens 20
unfolding tens
few_digits x h = omega arith

no_bytes : low_bytes 0 0 ≡ []
unfolding low_bytes
no_bytes = refl

no_room : 0 < room 0
unfolding room
no_room = omega arith

-- the text by the sign
abbrev signed : ℕ → ℕ → List ℕ
signed zero x = digits 20 x []
signed (suc s) x = 45 ∷ digits 20 x []

plus_text : (v : ℕ) → v < 2 ^ 62 → signed 0 v ≡ decimal (of_bits v)
unfolding digits
plus_text v h = sym (ap (λ (b : Bool). decimal (if b then pos v else neg_ℤ (pos (2 ^ 63 - v)))) (lt-ltb v (2 ^ 62) h))

minus_text : (v : ℕ) → 2 ^ 62 ≤ v → v < 2 ^ 63 → signed 1 (2 ^ 63 - v) ≡ decimal (of_bits v)
unfolding digits
minus_text v h l =
    let s : 2 ^ 63 - v ≡ suc (2 ^ 63 - v - 1) = omega (arith, l) in
    let t : 2 ^ 63 - v ≡ 2 ^ 63 - v - 1 + 1 = omega (arith, l) in
    sym (ap (λ (b : Bool). decimal (if b then pos v else neg_ℤ (pos (2 ^ 63 - v)))) (lt-leb (suc v) (2 ^ 62) (omega (arith, h)))
    ∙ ap (λ k. decimal (neg_ℤ (pos k))) s
    ∙ ap (λ k. 45 ∷ digits_onto 20 k []) (sym t))

module _ (size : ℕ) (code : List Instr) (short : length code ≤ 262144) (file : List ℕ) (place : Place) (e : Expression) (h out : ℕ) where
  abbrev Goes : ℕ → ℕ → Regs → ℕ → Words → Type 0
  Goes n k r c w = Good size code (Ok file place e h out) Over n (at k r c) w 0

  ok : (c : ℕ) (w : Words) → IsFresh w → c < 40000 → Ok file place e h out 0 c w
  ok c w fresh l = fresh_ok size code short file place e h out c w fresh l

  -- the minus, if there is one, and the end
  minus_good : (s n k c x y len : ℕ) (r : Regs) (w : Words) → HasAt code k (minus_code ++ end_code) → k < 2 ^ 40 → s ≤ 1 → 147 ≤ size → 24 ≤ out → HasText r y len → y < room len → len ≤ 20 → low_bytes len y ≡ digits 20 x [] → signed s x ≡ printed file place e h → IsFresh w → r 17 ≡ 0 → r 9 ≡ s → c + 100 < 40000 → Goes n k r c w
  minus_good zero n k c x y len r w has near one big room' t small few text sign fresh e17 e9 count =
      let to : wrap (4 * k + 44) ≡ 4 * (k + 11) = omega arith in
      let f = has_back code (k + 1) (plain Addi 13 0 0 (pos 45) ∷ prepend_code) end_code has.1 in
      let ek : k + 1 + 10 ≡ k + 11 = omega arith in
      branch_taken size code short (Ok file place e h out) Over n k (k + 11) c 0 44 r w _ has.0 (ap (λ z. Branches (z == 0) 44) e9) to (ok c w fresh (omega arith))
      (end_good size code short file place e h out n (k + 11) (c + 1) y len r w (subst (λ z. HasAt code z end_code) ek f) big room' t (omega arith) (text ∙ sign) fresh e17 (omega arith))
  minus_good (suc s) n k c x y len r w has near one big room' t small few text sign fresh e17 e9 count =
      branch_not size code short (Ok file place e h out) Over n k c 0 44 r w _ has.0 (ap (λ z. Branches (z == 0) 44) e9 ∙ ap (λ (z : Bool). Branches z 44) (eqb-suc-zero s)) (ok c w fresh (omega arith))
      (run_block size code short (Ok file place e h out) Over (plain Addi 13 0 0 (pos 45) ∷ []) n (k + 1) (c + 1) 0 r r1 w (has.1.0, tt) refl (λ j l. ok (c + 1 + j) w fresh (omega arith))
      (run_block size code short (Ok file place e h out) Over prepend_code n (k + 1 + 1) (c + 1 + 1) 0 r1 d.0 w (has_front code (k + 1 + 1) prepend_code end_code has.1.1) d.1 (λ j l. ok (c + 1 + 1 + j) w fresh (omega arith))
      (end_good size code short file place e h out n (k + 1 + 1 + 9) (c + 1 + 1 + 9) (y * 256 + 45) (len + 1) d.0 w (has_back code (k + 1 + 1) prepend_code end_code has.1.1) big room' d.2 (omega arith) (minus ∙ sign) fresh (d.3.3 ∙ e17) (omega arith))))
    where
      r1 : Regs
      r1 = put r 13 45

      small' : y < 2 ^ 168
      small' = let a = room_small len (omega arith) in omega arith

      t1 : HasText r1 y len
      t1 = record { first = t.first; second = t.second; third = t.third; whole = t.whole; count = t.count }

      d : Prepends r1 y len 45
      d = prepend_block r1 y len 45 t1 small' (omega arith) refl (omega arith)

      minus : low_bytes (len + 1) (y * 256 + 45) ≡ 45 ∷ digits 20 x []
      minus =
          let q : len + 1 ≡ suc len = omega arith in
          ap (λ z. low_bytes z (y * 256 + 45)) q ∙ low_bytes_before len y 45 (omega arith) ∙ ap (λ l. 45 ∷ l) text

  -- from the magnitude and the sign
  text_good : (s n k c x : ℕ) (r : Regs) (w : Words) → HasAt code k text_code → k < 2 ^ 39 → s ≤ 1 → 147 ≤ size → 24 ≤ out → x < 2 ^ 63 → signed s x ≡ printed file place e h → r 5 ≡ x → IsFresh w → r 17 ≡ 0 → r 9 ≡ s → c + 500 < 40000 → Goes n k r c w
  text_good s n k c x r w has near one big room' lt sign e5 fresh e17 e9 count =
      let r1 : Regs = put (put (put (put (put r 6 0) 7 0) 8 0) 11 0) 12 10 in
      let rest = minus_code ++ end_code in
      let h2 = has_back code k empty_text_code (digits_code ++ (minus_code ++ end_code)) has in
      let t1 : HasText r1 0 0 = record { first = omega arith; second = omega arith; third = omega arith; whole = refl; count = refl } in
      run_block size code short (Ok file place e h out) Over empty_text_code n k c 0 r r1 w (has_front code k empty_text_code (digits_code ++ (minus_code ++ end_code)) has) refl (λ j l. ok (c + j) w fresh (omega arith))
      (loop_good size code short (Ok file place e h out) Over 20 x 0 0 n (k + 5) (c + 5) r1 w ok (has_front code (k + 5) digits_code (minus_code ++ end_code) h2) (omega arith) (few_digits x lt) lt (omega arith) e5 refl t1 no_room (omega arith) fresh (omega arith)
      (λ c' y len r' t small few text f9 f17 count'.
      minus_good s n (k + 5 + 13) c' x y len r' w (has_back code (k + 5) digits_code (minus_code ++ end_code) h2) (omega arith) one big room' t small (omega arith) (text ∙ ap (digits 20 x) no_bytes) sign fresh (f17 ∙ e17) (f9 ∙ e9) (omega arith)))

  shown_good : (n k c v : ℕ) (r : Regs) (w : Words) → HasAt code k shown_code → k < 2 ^ 30 → 147 ≤ size → 24 ≤ out → v < 2 ^ 63 → decimal (of_bits v) ≡ printed file place e h → r 10 ≡ 2 * v + 1 → IsFresh w → r 17 ≡ 0 → c + 600 < 40000 → Goes n k r c w
  shown_good n k c v r w has near big room' lt is e10 fresh e17 count =
      run_block size code short (Ok file place e h out) Over magnitude_code n k c 0 r r1 w (has_front code k magnitude_code (plain Bge 0 5 0 (pos 12) ∷ (negate_code ++ text_code)) has) refl (λ j l. ok (c + j) w fresh (omega arith))
      (⊎_elim plus minus (cases_lt v (2 ^ 62)))
    where
      r1 : Regs
      r1 = put (put r 5 (shifted_signed (r 10) 1)) 9 0

      h2 : HasAt code (k + 2) (plain Bge 0 5 0 (pos 12) ∷ (negate_code ++ text_code))
      h2 = has_back code k magnitude_code (plain Bge 0 5 0 (pos 12) ∷ (negate_code ++ text_code)) has

      h5 : HasAt code (k + 2 + 1 + 2) text_code
      h5 = has_back code (k + 2 + 1) negate_code text_code h2.1

      plus : v < 2 ^ 62 → Goes n (k + 2) r1 (c + 2) w
      plus l =
          let s = plus_sign v l in
          let e5 : r1 5 ≡ v = ap (λ z. shifted_signed z 1) e10 ∙ s.0 in
          let to : wrap (4 * (k + 2) + 12) ≡ 4 * (k + 2 + 1 + 2) = omega arith in
          branch_taken size code short (Ok file place e h out) Over n (k + 2) (k + 2 + 1 + 2) (c + 2) 0 12 r1 w _ h2.0 (ap (λ z. Branches (not (less z 0)) 12) e5 ∙ ap (λ (z : Bool). Branches (not z) 12) s.1) to (ok (c + 2) w fresh (omega arith))
          (text_good 0 n (k + 2 + 1 + 2) (c + 2 + 1) v r1 w h5 (omega arith) (omega arith) big room' (omega arith) (plus_text v l ∙ is) e5 fresh e17 refl (omega arith))

      minus : 2 ^ 62 ≤ v → Goes n (k + 2) r1 (c + 2) w
      minus l =
          let s = minus_sign v l lt in
          let e5 : r1 5 ≡ v + 2 ^ 63 = ap (λ z. shifted_signed z 1) e10 ∙ s.0 in
          let r2 : Regs = put (put r1 5 (wrap (0 + (2 ^ 64 - r1 5)))) 9 1 in
          let e5' : wrap (0 + (2 ^ 64 - r1 5)) ≡ 2 ^ 63 - v = ap (λ z. wrap (0 + (2 ^ 64 - z))) e5 ∙ omega arith in
          branch_not size code short (Ok file place e h out) Over n (k + 2) (c + 2) 0 12 r1 w _ h2.0 (ap (λ z. Branches (not (less z 0)) 12) e5 ∙ ap (λ (z : Bool). Branches (not z) 12) s.1) (ok (c + 2) w fresh (omega arith))
          (run_block size code short (Ok file place e h out) Over negate_code n (k + 2 + 1) (c + 2 + 1) 0 r1 r2 w (has_front code (k + 2 + 1) negate_code text_code h2.1) refl (λ j q. ok (c + 2 + 1 + j) w fresh (omega arith))
          (text_good 1 n (k + 2 + 1 + 2) (c + 2 + 1 + 2) (2 ^ 63 - v) r2 w h5 (omega arith) (omega arith) big room' (omega arith) (minus_text v l lt ∙ is) e5' fresh e17 refl (omega arith)))

  -- prints the last word of the stack, which is that of the expression's value
  pub print_good : (n k c p : ℕ) (r : Regs) (w : Words) → AreIntegers e → HasAt code k print_code → k < 2 ^ 29 → 147 ≤ size → size ≤ 2 ^ 60 → 24 ≤ out → p < size → r 2 ≡ 8 * (p + 1) → w p ≡ 2 * value_bits e + 1 → IsFresh w → r 17 ≡ 0 → c + 700 < 40000 → Goes n k r c w
  print_good n k c p r w small has near big few room' lt e2 ew fresh e17 count =
      let has' : HasAt code k (plain Ld 10 2 0 (negsuc 7) ∷ shown_code) = subst (HasAt code k) print_is has in
      let ea : wrap (r 2 + (2 ^ 64 - 8)) ≡ 8 * p = omega (arith, e2, lt, few) in
      load_one size code short (Ok file place e h out) Over n k c 0 p r w _ has'.0 (ap Loads ea) lt (ok c w fresh (omega (arith, count)))
      (shown_good n (k + 1) (c + 1) (value_bits e) (put r 10 (w p)) w has'.1 (omega (arith, near)) big room' (value_bits_small e small) (ap decimal (sym (value_is e small).0)) ew fresh e17 (omega (arith, count)))
