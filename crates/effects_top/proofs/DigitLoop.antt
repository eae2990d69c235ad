-- The loop over the digits of a number.
use Rattle.std.proofs.Common.{◌≡◌, ℕ, zero, suc, ◌+◌, ◌-◌, ◌*◌, ◌/◌, ◌%◌, ◌^◌, ◌<◌, ◌≤◌, List, [], ◌∷◌, ◌++◌, length, Some, Bool, true, false, refl, sym, ap, ◌∙◌, subst, arith, negsuc}
use Rattle.std.specs.Prelude.{not, slice_get, ◌==◌}
use Rattle.std.proofs.lemmas.Bool.{eqb-false}
use Rattle.rv_model.specs.declared.instr.Op.TheVariants.{Bne}
use Rattle.rv_model.specs.declared.instr.Instr.{Instr}
use Rattle.rv_model.specs.Format.{plain}
use Rattle.rv_model.specs.Word.{wrap}
use Rattle.rv_model.specs.Table.{Branches}
use Rattle.rv_model.specs.Machine.{Regs, Words}
use Rattle.effects_top.specs.Compiled.{prepend_code, digits_code}
use Rattle.effects_top.proofs.Instructions.{HasAt, has_front, has_back, at, Good}
use Rattle.effects_top.proofs.Blocks.{run_block, at_place, branch_taken, branch_not}
use Rattle.effects_top.proofs.Stacking.{IsFresh, OkFresh}
use Rattle.effects_top.proofs.Digits.{digits, low_bytes, low_bytes_before, room, room_small, HasText, Prepends, Divides, prepend_block, divide_code, divide_block, digits_last, digits_more}

-- ten to a power
unfoldable pub tens : ℕ → ℕ
tens zero = 1
tens (suc n) = 10 * tens n

tens_less : (f x : ℕ) → x < tens (suc f) → x / 10 < tens f
unfolding tens
tens_less f x h = omega arith

no_tens : (x : ℕ) → x < tens zero → x ≡ 0
unfolding tens
no_tens x h = omega arith

left_over : (f x : ℕ) → x < tens (suc f) → (x / 10 ≡ 0 → ⊥) → 0 < f
left_over zero x h ne = let a = no_tens (x / 10) (tens_less zero x h) in absurd (ne a)
left_over (suc f) x h ne = omega arith

room_suc : (n : ℕ) → room (suc n) ≡ 256 * room n
unfolding room
room_suc n = refl

module _ (size : ℕ) (code : List Instr) (short : length code ≤ 262144) (Ok : ℕ → ℕ → Words → Type 0) (Done : ℕ → Words → Type 0) where
  -- what comes after the digits
  abbrev pub AfterDigits : ℕ → ℕ → ℕ → ℕ → Regs → Words → ℕ → List ℕ → Type 0
  AfterDigits n k c f r w len text =
      (c' y' len' : ℕ) (r' : Regs) → HasText r' y' len' → y' < room len' → len' ≤ len + f → low_bytes len' y' ≡ text → r' 9 ≡ r 9 → r' 17 ≡ r 17 → c' ≤ c + 13 * f → Good size code Ok Done n (at (k + 13) r' c') w 0

  pub loop_good : (f x y len n k c : ℕ) (r : Regs) (w : Words) → OkFresh size code short Ok Done → HasAt code k digits_code → k < 2 ^ 40 → x < tens f → x < 2 ^ 63 → 0 < f → r 5 ≡ x → r 12 ≡ 10 → HasText r y len → y < room len → len + f ≤ 20 → IsFresh w → c + 13 * f < 40000 → AfterDigits n k c f r w len (digits f x (low_bytes len y)) → Good size code Ok Done n (at k r c) w 0
  loop_good zero x y len n k c r w okf has near lt ltw some e5 e12 t small fit fresh count go = absurd (omega arith)
  loop_good (suc f) x y len n k c r w okf has near lt ltw some e5 e12 t small fit fresh count go =
      run_block size code short Ok Done divide_code n k c 0 r d.0 w (has_front code k divide_code (prepend_code ++ (plain Bne 0 5 0 (negsuc 47) ∷ [])) has) d.1 (λ j h. ok (c + j) (omega arith))
      (run_block size code short Ok Done prepend_code n (k + 3) (c + 3) 0 d.0 s.0 w (has_front code (k + 3) prepend_code (plain Bne 0 5 0 (negsuc 47) ∷ []) h3) s.1 (λ j h. ok (c + 3 + j) (omega arith))
      (at_place size code short Ok Done n (k + 12) (k + 3 + 9) (c + 3 + 9) 0 s.0 w (omega arith)
      (choose (x / 10 == 0) refl (λ e.
      let more : 0 < f = left_over f x lt (eqb-false (x / 10) 0 e) in
      loop_good f (x / 10) (y * 256 + (48 + x % 10)) (len + 1) n k (c + 13) s.0 w okf has near (tens_less f x lt) (omega arith) more five (s.3.2 ∙ d.4) s.2 small2 (omega arith) fresh (omega arith)
      (λ c' y' len' r' t' small3 fit' text' e9 e17 count'.
      go c' y' len' r' t' small3 (omega arith) (text' ∙ ap (digits f (x / 10)) text ∙ sym (digits_more f x (low_bytes len y) e)) (e9 ∙ s.3.1 ∙ d.5) (e17 ∙ s.3.3 ∙ d.6) (omega arith))))))
    where
      ok : (c' : ℕ) → c' < 40000 → Ok 0 c' w
      ok c' h = okf c' w fresh h

      d : Divides r x y len
      d = divide_block r x y len e5 ltw e12 t

      small' : y < 2 ^ 168
      small' = let a = room_small len (omega arith) in omega arith

      s : Prepends d.0 y len (48 + x % 10)
      s = prepend_block d.0 y len (48 + x % 10) d.7 small' (omega arith) d.3 (omega arith)

      h3 : HasAt code (k + 3) (prepend_code ++ (plain Bne 0 5 0 (negsuc 47) ∷ []))
      h3 = has_back code k divide_code (prepend_code ++ (plain Bne 0 5 0 (negsuc 47) ∷ [])) has

      h12 : slice_get code (k + 12) ≡ Some (plain Bne 0 5 0 (negsuc 47))
      h12 = let e : k + 3 + 9 ≡ k + 12 = omega arith in subst (λ z. slice_get code z ≡ Some (plain Bne 0 5 0 (negsuc 47))) e (has_back code (k + 3) prepend_code (plain Bne 0 5 0 (negsuc 47) ∷ []) h3).0

      five : s.0 5 ≡ x / 10
      five = s.3.0 ∙ d.2

      small2 : y * 256 + (48 + x % 10) < room (len + 1)
      small2 = let e : len + 1 ≡ suc len = omega arith in subst (λ z. y * 256 + (48 + x % 10) < room z) (sym e) (let g = room_suc len in omega arith)

      text : low_bytes (len + 1) (y * 256 + (48 + x % 10)) ≡ (48 + x % 10) ∷ low_bytes len y
      text = let e : len + 1 ≡ suc len = omega arith in subst (λ z. low_bytes z (y * 256 + (48 + x % 10)) ≡ (48 + x % 10) ∷ low_bytes len y) (sym e) (low_bytes_before len y (48 + x % 10) (omega arith))

      choose : (b : Bool) → (x / 10 == 0) ≡ b → ((x / 10 == 0) ≡ false → Good size code Ok Done n (at k s.0 (c + 13)) w 0) → Good size code Ok Done n (at (k + 12) s.0 (c + 3 + 9)) w 0
      choose true e again =
          branch_not size code short Ok Done n (k + 12) (c + 3 + 9) 0 (2 ^ 64 - 48) s.0 w (plain Bne 0 5 0 (negsuc 47)) h12 (ap (λ z. Branches (not (z == 0)) (2 ^ 64 - 48)) five ∙ ap (λ (z : Bool). Branches (not z) (2 ^ 64 - 48)) e) (ok (c + 3 + 9) (omega arith))
          (at_place size code short Ok Done n (k + 13) (k + 12 + 1) (c + 3 + 9 + 1) 0 s.0 w (omega arith)
          (go (c + 3 + 9 + 1) (y * 256 + (48 + x % 10)) (len + 1) s.0 s.2 small2 (omega arith) (text ∙ sym (digits_last f x (low_bytes len y) e)) (s.3.1 ∙ d.5) (s.3.3 ∙ d.6) (omega arith)))
      choose false e again =
          let to : wrap (4 * (k + 12) + (2 ^ 64 - 48)) ≡ 4 * k = omega arith in
          let ec : c + 13 ≡ c + 3 + 9 + 1 = omega arith in
          branch_taken size code short Ok Done n (k + 12) k (c + 3 + 9) 0 (2 ^ 64 - 48) s.0 w (plain Bne 0 5 0 (negsuc 47)) h12 (ap (λ z. Branches (not (z == 0)) (2 ^ 64 - 48)) five ∙ ap (λ (z : Bool). Branches (not z) (2 ^ 64 - 48)) e) to (ok (c + 3 + 9) (omega arith))
          (subst (λ z. Good size code Ok Done n (at k s.0 z) w 0) ec (again e))
