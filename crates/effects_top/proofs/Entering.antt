-- The whole code of an image keeps what it must from the start.
use Rattle.std.proofs.Common.{◌≡◌, ℕ, ◌+◌, ◌*◌, ◌^◌, ◌<◌, ◌≤◌, List, [], ◌++◌, length, refl, ap, ◌∙◌, subst, arith}
use Rattle.fx_base.specs.declared.settings.Settings.{Settings}
use Rattle.effect_meaning.specs.Terms.{Place}
use Rattle.rv_model.specs.declared.instr.Instr.{Instr}
use Rattle.rv_model.specs.Word.{wrap}
use Rattle.rv_model.specs.Machine.{Regs, regs_of, put, Words, hart_of}
use Rattle.rv_model.specs.Start.{first_hart, start_words}
use Rattle.effects_top.specs.Compiled.{start_code, constant_code, set_stack_code, entry_code, print_code, stack_word_of, stack_words, start_words_of, whole_code}
use Rattle.effects_top.specs.Expression.{Expression, AreIntegers, postfix_of}
use Rattle.effects_top.proofs.Fitting.{whole_short}
use Rattle.effects_top.proofs.Instructions.{HasAt, has_all, has_front, has_back, Good}
use Rattle.effects_top.proofs.Blocks.{run_block, branch_taken}
use Rattle.effects_top.proofs.Values.{Loaded, constant_value}
use Rattle.effects_top.proofs.Stacking.{IsFresh, fresh_same, code_of, code_is, parts_of, parts_length, code_few, expression_good}
use Rattle.effects_top.proofs.Ending.{Ok, Over, fresh_ok}
use Rattle.effects_top.proofs.Printing.{print_good}

-- behind the code of the start
abbrev pub rest_code : ℕ → Expression → List Instr
rest_code stack e = constant_code stack ++ (set_stack_code ++ (code_of e ++ print_code))

pub whole_is : (out : ℕ) (e : Expression) → whole_code out (postfix_of e) ≡ start_code ++ rest_code (8 * stack_word_of out) e
unfolding whole_code entry_code
whole_is out e = ap (λ l. start_code ++ (constant_code (8 * stack_word_of out) ++ (set_stack_code ++ (l ++ print_code)))) (code_is e)

-- the first two instructions, at which the other harts stop
pub has_start : (out : ℕ) (e : Expression) → HasAt (whole_code out (postfix_of e)) 0 (start_code ++ rest_code (8 * stack_word_of out) e)
has_start out e = subst (HasAt (whole_code out (postfix_of e)) 0) (whole_is out e) (has_all (whole_code out (postfix_of e)) [])

module _ (s : Settings) (file : List ℕ) (place : Place) (e : Expression) where
  abbrev code : List Instr
  code = whole_code s.out (postfix_of e)

  abbrev size : ℕ
  size = stack_word_of s.out + stack_words

  pub start_good : (h n : ℕ) → AreIntegers e → length (postfix_of e) < 2000 → Good (stack_word_of s.out + stack_words) (whole_code s.out (postfix_of e)) (Ok file place e h s.out) Over n (hart_of (first_hart 0)) (start_words (start_words_of s)) 0
  start_good h n small few =
      branch_taken size code short (Ok file place e h s.out) Over n 0 2 0 0 8 r w _ has.0 refl refl (ok 0 (omega arith))
      (run_block size code short (Ok file place e h s.out) Over (constant_code (8 * stack)) n 2 1 0 r c.0 w (has_front code 2 (constant_code (8 * stack)) (set_stack_code ++ (code_of e ++ print_code)) has.1.1) c.1 (λ j l. ok (1 + j) (omega (arith, l)))
      (run_block size code short (Ok file place e h s.out) Over set_stack_code n 13 12 0 c.0 r2 w (has13.0, tt) refl (λ j l. ok (12 + j) (omega (arith, l)))
      (expression_good size code short (Ok file place e h s.out) Over e n 14 13 stack r2 w (fresh_ok size code short file place e h s.out) (has_front code 14 (code_of e) print_code has13.1) big small low fits e2 fresh counted
      (λ c' r' w' most top f2 f17 same.
      print_good size code short file place e h s.out n (14 + length (code_of e)) c' stack r' w' small (has_back code 14 (code_of e) print_code has13.1) near wide big logs within f2 top (fresh_same w w' stack low same fresh) (f17 ∙ c.4) (omega (arith, most, parts))))))
    where
      short : length code ≤ 262144
      short = whole_short s.out (postfix_of e) few

      stack : ℕ
      stack = stack_word_of s.out

      parts : parts_of e < 2000
      parts = omega (arith, parts_length e, few)

      r : Regs
      r = regs_of (first_hart 0).regs

      w : Words
      w = start_words (start_words_of s)

      has : HasAt code 0 (start_code ++ rest_code (8 * stack) e)
      has = has_start s.out e

      has13 : HasAt code 13 (set_stack_code ++ (code_of e ++ print_code))
      has13 = has_back code 2 (constant_code (8 * stack)) (set_stack_code ++ (code_of e ++ print_code)) has.1.1

      fresh : IsFresh w
      fresh = (refl, refl, refl)

      ok : (c : ℕ) → c < 40000 → Ok file place e h s.out 0 c w
      ok c l = fresh_ok size code short file place e h s.out c w fresh l

      most_out : s.out ≤ 67108864
      most_out = s.out_in_range.1

      least_out : 1024 ≤ s.out
      least_out = s.out_in_range.0

      stack_small : stack ≤ 8388753
      stack_small = omega (arith, most_out)

      low : 6 < stack
      low = omega arith

      logs : 24 ≤ s.out
      logs = omega (arith, least_out)

      big : size ≤ 2 ^ 60
      big = omega (arith, stack_small)

      fits : stack + parts_of e ≤ size
      fits = omega (arith, parts_length e, few)

      within : stack < size
      within = omega arith

      wide : 147 ≤ size
      wide = omega (arith, least_out)

      counted : 13 + 13 * parts_of e < 40000
      counted = omega (arith, parts)

      c : Loaded (8 * stack) r
      c = constant_value (8 * stack) r (omega (arith, stack_small))

      r2 : Regs
      r2 = put c.0 2 (wrap (c.0 10 + 0))

      e2 : r2 2 ≡ 8 * stack
      e2 = let d : wrap (8 * stack + 0) ≡ 8 * stack = omega (arith, stack_small) in ap (λ x. wrap (x + 0)) c.2 ∙ d

      near : 14 + length (code_of e) < 2 ^ 29
      near = omega (arith, code_few e, parts)
