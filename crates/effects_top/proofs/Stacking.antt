-- The code of an expression puts the word of its value on the stack.
use Rattle.std.proofs.Common.{◌≡◌, ℕ, ◌+◌, ◌-◌, ◌*◌, ◌^◌, ◌<◌, ◌≤◌, List, [], ◌∷◌, ◌++◌, length, Some, None, refl, sym, ap, ◌∙◌, subst, arith, append_assoc, length-append, pos, negsuc, le_refl}
use Rattle.std.proofs.lemmas.List.{append-nil}
use Rattle.rv_model.specs.declared.instr.Op.TheVariants.{Addi}
use Rattle.rv_model.specs.declared.instr.Instr.{Instr}
use Rattle.rv_model.specs.declared.report.RunEnd.{RunEnd}
use Rattle.rv_model.specs.Format.{plain}
use Rattle.rv_model.specs.Word.{wrap}
use Rattle.rv_model.specs.Table.{Loads, Stores}
use Rattle.rv_model.specs.Machine.{Regs, put, Words, set_word}
use Rattle.rv_model.specs.Layout.{Keeps, log, end, end_of, bytes_from}
use Rattle.effects_top.specs.declared.reader.Arith.{Arith}
use Rattle.effects_top.specs.declared.reader.Arith.TheVariants.{Plus, Minus, Times}
use Rattle.effects_top.specs.declared.reader.Postfix.{Postfix}
use Rattle.effects_top.specs.declared.reader.Postfix.TheVariants.{Literal, Apply}
use Rattle.effects_top.specs.Compiled.{tagged, constant_code, push_code, operands_code, arith_code, replace_code, postfix_code, expression_code}
use Rattle.effects_top.specs.Expression.{Expression, Number, Binary, AreIntegers, postfix_of}
use Rattle.effects_top.proofs.Instructions.{HasAt, has_front, has_back, at, Good}
use Rattle.rv_model.specs.Block.{block}
use Rattle.effects_top.proofs.Blocks.{run_block, at_place, load_one, store_one}
use Rattle.effects_top.proofs.Integers.{on_bits}
use Rattle.effects_top.proofs.Values.{Loaded, constant_value, arith_value, word_here, IsSame, same_set}
use Rattle.effects_top.proofs.Evaluates.{value_bits, value_bits_small}

-- nothing is printed and nothing has ended
abbrev pub IsFresh : Words → Type 0
IsFresh w = (w 6 ≡ 0) × (w 1 ≡ 0) × (w 2 ≡ 0)

pub fresh_same : (w w' : Words) (p : ℕ) → 6 < p → IsSame p w w' → IsFresh w → IsFresh w'
fresh_same w w' p h same f = (same 6 h ∙ f.0, same 1 (omega arith) ∙ f.1, same 2 (omega arith) ∙ f.2)

pub fresh_log : (w : Words) → IsFresh w → log w ≡ []
fresh_log w f = ap (bytes_from w 1152) f.0

pub fresh_end : (w : Words) → IsFresh w → end w ≡ None
fresh_end w f = ap (λ k. end_of k w) f.1

-- words of which nothing is printed keep whatever follows
pub fresh_keeps : (w w' : Words) → IsFresh w → Keeps w w'
fresh_keeps w w' f = record {
  grows = (log w', ap (λ l. l ++ log w') (sym (fresh_log w f)));
  ends = λ e h. none e (sym (fresh_end w f) ∙ h);
  stays = λ e h. none e (sym (fresh_end w f) ∙ h);
}
  where
    none : {A : Type 0} (e : RunEnd) → None ≡ Some e → A
    none e h = absurd (cc)

-- the code by the expression
abbrev pub code_of : Expression → List Instr
code_of (Number n) = postfix_code (Literal n)
code_of (Binary operation a b) = code_of a ++ (code_of b ++ postfix_code (Apply operation))

code_append : (a b : List Postfix) → expression_code (a ++ b) ≡ expression_code a ++ expression_code b
unfolding expression_code
code_append [] b = refl
code_append (p ∷ a) b = ap (λ l. postfix_code p ++ l) (code_append a b) ∙ sym (append_assoc (postfix_code p) (expression_code a) (expression_code b))

code_one : (p : Postfix) → expression_code (p ∷ []) ≡ postfix_code p
unfolding expression_code
code_one p = append-nil (postfix_code p)

pub code_is : (e : Expression) → expression_code (postfix_of e) ≡ code_of e
code_is (Number n) = code_one (Literal n)
code_is (Binary operation a b) =
    code_append (postfix_of a) (postfix_of b ++ Apply operation ∷ [])
    ∙ ap (λ l. l ++ expression_code (postfix_of b ++ Apply operation ∷ [])) (code_is a)
    ∙ ap (λ l. code_of a ++ l) (code_append (postfix_of b) (Apply operation ∷ []) ∙ ap (λ l. l ++ expression_code (Apply operation ∷ [])) (code_is b) ∙ ap (λ l. code_of b ++ l) (code_one (Apply operation)))

-- how many literals and operations
abbrev pub parts_of : Expression → ℕ
parts_of (Number n) = 1
parts_of (Binary operation a b) = parts_of a + parts_of b + 1

pub parts_length : (e : Expression) → length (postfix_of e) ≡ parts_of e
parts_length (Number n) = refl
parts_length (Binary operation a b) =
    omega (arith, length-append (postfix_of a) (postfix_of b ++ Apply operation ∷ []), length-append (postfix_of b) (Apply operation ∷ []), parts_length a, parts_length b)

pub parts_some : (e : Expression) → 0 < parts_of e
parts_some (Number n) = omega arith
parts_some (Binary operation a b) = omega arith

arith_few : (operation : Arith) → length (arith_code operation) ≤ 4
arith_few Plus = omega arith
arith_few Minus = omega arith
arith_few Times = omega arith

-- the code isn't long
pub code_few : (e : Expression) → length (code_of e) ≤ 13 * parts_of e
code_few (Number n) = le_refl 13
code_few (Binary operation a b) =
    omega (arith, length-append (code_of a) (code_of b ++ postfix_code (Apply operation)), length-append (code_of b) (postfix_code (Apply operation)), length-append (arith_code operation) replace_code, arith_few operation, code_few a, code_few b)

module _ (size : ℕ) (code : List Instr) (short : length code ≤ 262144) (Ok : ℕ → ℕ → Words → Type 0) (Done : ℕ → Words → Type 0) where
  -- while nothing is printed and few instructions are carried out
  abbrev pub OkFresh : Type 0
  OkFresh = (c : ℕ) (w : Words) → IsFresh w → c < 40000 → Ok 0 c w

  -- what comes after the value
  abbrev pub GoesOn : ℕ → ℕ → ℕ → Regs → Words → ℕ → ℕ → ℕ → Type 0
  GoesOn n k c r w p v most =
      (c' : ℕ) (r' : Regs) (w' : Words) → c' ≤ c + most → w' p ≡ 2 * v + 1 → r' 2 ≡ 8 * (p + 1) → r' 17 ≡ r 17 → IsSame p w w' → Good size code Ok Done n (at k r' c') w' 0

  -- the word in register 10 goes on the stack
  push_good : (n k c p : ℕ) (r : Regs) (w : Words) → OkFresh → HasAt code k push_code → size ≤ 2 ^ 60 → p < size → 6 < p → r 2 ≡ 8 * p → IsFresh w → c + 2 < 40000 → ((r' : Regs) → r' 2 ≡ 8 * (p + 1) → r' 17 ≡ r 17 → Good size code Ok Done n (at (k + 2) r' (c + 2)) (set_word w p (r 10)) 0) → Good size code Ok Done n (at k r c) w 0
  push_good n k c p r w okf has big lt low e2 fresh count go =
      let w' : Words = set_word w p (r 10) in
      let fresh' = fresh_same w w' p low (same_set w p (r 10)) fresh in
      let ea : wrap (r 2 + 0) ≡ 8 * p = omega arith in
      let r' : Regs = put r 2 (wrap (r 2 + 8)) in
      let e2' : wrap (r 2 + 8) ≡ 8 * (p + 1) = omega arith in
      let g = at_place size code short Ok Done n (k + 2) (k + 1 + 1) (c + 2) 0 r' w' (omega arith) (go r' e2' refl) in
      let ec : c + 2 ≡ c + 1 + 1 = omega arith in
      let g' = subst (λ x. Good size code Ok Done n (at (k + 1 + 1) r' x) w' 0) ec g in
      store_one size code short Ok Done n k c 0 0 p (r 10) r w _ has.0 (ap (λ x. Stores x (r 10)) ea) lt (okf c w fresh (omega arith)) (le_refl 0) (fresh_keeps w w' fresh)
      (run_block size code short Ok Done (plain Addi 2 2 0 (pos 8) ∷ []) n (k + 1) (c + 1) 0 r r' w' (has.1.0, tt) refl (λ j h. okf (c + 1 + j) w' fresh' (omega arith)) g')

  number_good : (x n k c p : ℕ) (r : Regs) (w : Words) → OkFresh → HasAt code k (constant_code (tagged x) ++ push_code) → size ≤ 2 ^ 60 → p < size → 6 < p → x < 2 ^ 62 → r 2 ≡ 8 * p → IsFresh w → c + 13 < 40000 → GoesOn n (k + 13) c r w p x 13 → Good size code Ok Done n (at k r c) w 0
  number_good x n k c p r w okf has big lt low small e2 fresh count go =
      run_block size code short Ok Done (constant_code (tagged x)) n k c 0 r b.0 w (has_front code k (constant_code (tagged x)) push_code has) b.1 (λ j h. okf (c + j) w fresh (omega arith))
      (push_good n (k + 11) (c + 11) p b.0 w okf (has_back code k (constant_code (tagged x)) push_code has) big lt low (b.3 ∙ e2) fresh (omega arith)
      (λ r' f2 f17. at_place size code short Ok Done n (k + 13) (k + 11 + 2) (c + 11 + 2) 0 r' (set_word w p (b.0 10)) (omega arith)
      (go (c + 11 + 2) r' (set_word w p (b.0 10)) (omega arith) (word_here w p (b.0 10) ∙ b.2 ∙ tag) f2 (f17 ∙ b.4) (same_set w p (b.0 10)))))
    where
      b : Loaded (tagged x) r
      b = constant_value (tagged x) r (omega arith)

      tag : tagged x ≡ 2 * x + 1
      tag = omega (arith, small)

  -- the last two words of the stack give way to the result
  apply_good : (operation : Arith) (a b n k c p : ℕ) (r : Regs) (w : Words) → OkFresh → HasAt code k (operands_code ++ (arith_code operation ++ replace_code)) → size ≤ 2 ^ 60 → p + 1 < size → 6 < p → a < 2 ^ 63 → b < 2 ^ 63 → r 2 ≡ 8 * (p + 1 + 1) → w p ≡ 2 * a + 1 → w (p + 1) ≡ 2 * b + 1 → IsFresh w → c + 13 < 40000 → GoesOn n (k + length (operands_code ++ (arith_code operation ++ replace_code))) c r w p (on_bits operation a b) 13 → Good size code Ok Done n (at k r c) w 0
  apply_good operation a b n k c p r w okf has big lt low ha hb e2 ea eb fresh count go =
      load_one size code short Ok Done n k c 0 p r w _ has.0 (ap Loads first) (omega arith) (okf c w fresh (omega arith))
      (load_one size code short Ok Done n (k + 1) (c + 1) 0 (p + 1) r1 w _ has.1.0 (ap Loads second) lt (okf (c + 1) w fresh (omega arith))
      (run_block size code short Ok Done (arith_code operation) n (k + 1 + 1) (c + 1 + 1) 0 r2 x.0 w (has_front code (k + 1 + 1) (arith_code operation) replace_code has.1.1) x.1 (λ j h. okf (c + 1 + 1 + j) w fresh (omega (arith, few)))
      (store_one size code short Ok Done n k3 c3 0 0 p (x.0 10) x.0 w _ back.0 (ap (λ y. Stores y (x.0 10)) third) (omega arith) (okf c3 w fresh (omega (arith, few))) (le_refl 0) (fresh_keeps w w' fresh)
      (run_block size code short Ok Done (plain Addi 2 2 0 (negsuc 7) ∷ []) n (k3 + 1) (c3 + 1) 0 x.0 r4 w' (back.1.0, tt) refl (λ j h. okf (c3 + 1 + j) w' fresh' (omega (arith, few)))
      (at_place size code short Ok Done n (k + length (operands_code ++ (arith_code operation ++ replace_code))) (k3 + 1 + 1) (c3 + 1 + 1) 0 r4 w' (omega (arith, length-append (arith_code operation) replace_code))
      (go (c3 + 1 + 1) r4 w' (omega (arith, few)) (word_here w p (x.0 10) ∙ x.2) fourth x.4 (same_set w p (x.0 10))))))))
    where
      r1 : Regs
      r1 = put r 10 (w p)

      r2 : Regs
      r2 = put r1 11 (w (p + 1))

      first : wrap (r 2 + (2 ^ 64 - 16)) ≡ 8 * p
      first = omega arith

      second : wrap (r 2 + (2 ^ 64 - 8)) ≡ 8 * (p + 1)
      second = omega arith

      x : (r' : Regs) × (block (arith_code operation) r2 ≡ Some r') × (r' 10 ≡ 2 * on_bits operation a b + 1) × (r' 2 ≡ r2 2) × (r' 17 ≡ r2 17)
      x = arith_value operation a b r2 ha hb ea eb

      few : length (arith_code operation) ≤ 4
      few = arith_few operation

      k3 : ℕ
      k3 = k + 1 + 1 + length (arith_code operation)

      c3 : ℕ
      c3 = c + 1 + 1 + length (arith_code operation)

      back : HasAt code k3 replace_code
      back = has_back code (k + 1 + 1) (arith_code operation) replace_code has.1.1

      w' : Words
      w' = set_word w p (x.0 10)

      fresh' : IsFresh w'
      fresh' = fresh_same w w' p low (same_set w p (x.0 10)) fresh

      two : x.0 2 ≡ 8 * (p + 1 + 1)
      two = x.3 ∙ e2

      third : wrap (x.0 2 + (2 ^ 64 - 16)) ≡ 8 * p
      third = let e = two in omega arith

      r4 : Regs
      r4 = put x.0 2 (wrap (x.0 2 + (2 ^ 64 - 8)))

      fourth : wrap (x.0 2 + (2 ^ 64 - 8)) ≡ 8 * (p + 1)
      fourth = let e = two in omega arith

  pub expression_good : (e : Expression) (n k c p : ℕ) (r : Regs) (w : Words) → OkFresh → HasAt code k (code_of e) → size ≤ 2 ^ 60 → AreIntegers e → 6 < p → p + parts_of e ≤ size → r 2 ≡ 8 * p → IsFresh w → c + 13 * parts_of e < 40000 → GoesOn n (k + length (code_of e)) c r w p (value_bits e) (13 * parts_of e) → Good size code Ok Done n (at k r c) w 0
  expression_good (Number x) n k c p r w okf has big small low room e2 fresh count go =
      number_good x n k c p r w okf has big (omega arith) low small e2 fresh (omega arith) go
  expression_good (Binary operation a b) n k c p r w okf has big small low room e2 fresh count go =
      let ca = code_of a in
      let cb = code_of b in
      let co = postfix_code (Apply operation) in
      let ha = has_front code k ca (cb ++ co) has in
      let h1 = has_back code k ca (cb ++ co) has in
      let hb = has_front code (k + length ca) cb co h1 in
      let h2 = has_back code (k + length ca) cb co h1 in
      let some_a = parts_some a in
      let some_b = parts_some b in
      let len : k + length (ca ++ (cb ++ co)) ≡ k + length ca + length cb + length co = omega (arith, length-append ca (cb ++ co), length-append cb co) in
      expression_good a n k c p r w okf ha big small.0 low (omega (arith, room)) e2 fresh (omega (arith, count))
      (λ c1 r1 w1 n1 v1 f2 f17 same1.
      let fresh1 = fresh_same w w1 p low same1 fresh in
      expression_good b n (k + length ca) c1 (p + 1) r1 w1 okf hb big small.1 (omega (arith, low)) (omega (arith, room, some_a)) f2 fresh1 (omega (arith, count, n1))
      (λ c2 r2 w2 n2 v2 g2 g17 same2.
      let fresh2 = fresh_same w1 w2 (p + 1) (omega (arith, low)) same2 fresh1 in
      apply_good operation (value_bits a) (value_bits b) n (k + length ca + length cb) c2 p r2 w2 okf h2 big (omega (arith, room, some_a, some_b)) low (value_bits_small a small.0) (value_bits_small b small.1) g2 (same2 p (omega arith) ∙ v1) v2 fresh2 (omega (arith, count, n1, n2))
      (λ c3 r3 w3 n3 v3 i2 i17 same3.
      at_place size code short Ok Done n (k + length (ca ++ (cb ++ co))) (k + length ca + length cb + length co) c3 0 r3 w3 (sym len)
      (go c3 r3 w3 (omega (arith, n1, n2, n3)) v3 i2 (i17 ∙ g17 ∙ f17) (λ j h. same3 j h ∙ (same2 j (omega (arith, h)) ∙ same1 j h))))))
