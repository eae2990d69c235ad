-- The program keeps the log, the end and its own place, whatever the other harts do.
use Rattle.std.proofs.Common.{◌≡◌, ℕ, zero, suc, ◌+◌, ◌*◌, ◌/◌, ◌<◌, ◌≤◌, List, [], ◌∷◌, ◌++◌, map, Some, Bool, true, false, ◌&&◌, not, refl, sym, ap, ◌∙◌, subst, lit<, lit≤, arith}
use Rattle.std.specs.Prelude.{slice_get, ◌==◌, nat_lt, IsTrue, if◌then◌else◌}
use Rattle.std.proofs.lemmas.Bool.{eqb-true}
use Rattle.rv_model.specs.declared.image.Image.{Image}
use Rattle.rv_model.specs.declared.image.StartWord.{StartWord}
use Rattle.rv_model.specs.declared.instr.Instr.{Instr}
use Rattle.rv_model.specs.declared.report.RunEnd.{RunEnd}
use Rattle.rv_model.specs.declared.report.RunEnd.TheVariants.{Exited}
use Rattle.rv_model.specs.Machine.{Regs, Words, Hart, Plan, Awaits, Stops, Faults, Goes, Waits, plan, answered, word_at, words_after, step, set_word, moved, put, hart_of, asks}
use Rattle.rv_model.specs.Layout.{Keeps, IsSound, log, log_words, end, end_of, bytes_from}
use Rattle.rv_model.specs.Start.{first_harts, start_words}
use Rattle.rv_model.specs.Run.{Runs}
use Rattle.rv_model.proofs.Keeping.{Leaves, invariant_runs}
use Rattle.runner_bench.specs.Program.{bench_code, start_of}

-- what the registers have at instruction k
abbrev sits : ℕ → Regs → Bool
sits k r =
    if nat_lt k 10 then true
    else if nat_lt k 12 then r 10 == 144
    else if k == 12 then (r 10 == 144) && (r 17 == 1)
    else if k == 14 then r 14 == 1
    else if k == 16 then r 17 == 0
    else true

abbrev at : ℕ → Regs → ℕ → Hart
at k r c = record { pc = 4 * k; regs = r; retired = c }

-- a hart stands at an instruction of the program, with what its registers have there
abbrev OfHart : Hart → Type 0
OfHart h = (k : ℕ) × (r : Regs) × (c : ℕ) × (k < 17) × IsTrue (sits k r) × (h ≡ at k r c)

-- no end has a detail, and nothing is printed
abbrev OfWords : Words → Type 0
OfWords w = (w 1 ≤ 1) × (w 2 ≡ 0) × (w 6 ≡ 0)

abbrev Keeping : Words → Words → Type 0
Keeping w w' = OfWords w' × (w 1 ≡ 1 → w' 1 ≡ 1)

end_is : (w : Words) → OfWords w → (e : RunEnd) → end w ≡ Some e → w 1 ≡ 1
end_is w of e is = by (w 1) of.0 is
  where
    by : (n : ℕ) → n ≤ 1 → end_of n w ≡ Some e → n ≡ 1
    by zero le x = absurd (cc)
    by (suc zero) le x = refl
    by (suc (suc n)) le x = absurd (omega (arith, le))

keeps : (w w' : Words) → OfWords w → Keeping w w' → Keeps w w'
keeps w w' of after = record {
  grows = ([], same_log ∙ nil (log w));
  ends = λ e is. let one = end_is w of e is in same_end one ∙ is;
  stays = λ e is. same_log;
}
  where
    nil : (l : List ℕ) → l ≡ l ++ []
    nil [] = refl
    nil (x ∷ l) = ap (λ m. x ∷ m) (nil l)

    none : (v : Words) → v 6 ≡ 0 → log v ≡ []
    none v e = ap (λ n. bytes_from v 1152 n) e

    same_log : log w' ≡ log w
    same_log = none w' after.0.2 ∙ sym (none w of.2)

    same_end : w 1 ≡ 1 → end w' ≡ end w
    same_end one =
        ap (λ n. end_of n w') (after.1 one)
        ∙ ap (λ n. Some (Exited n)) (after.0.1 ∙ sym of.1)
        ∙ sym (ap (λ n. end_of n w) one)

-- instruction k does what is wanted
abbrev Does : ℕ → Type 0
Does k = (r : Regs) (c : ℕ) (w : Words) → IsTrue (sits k r) → OfWords w → Leaves OfHart OfWords (step 272 bench_code (at k r c) w) w (words_after (plan 272 bench_code (at k r c)) w)

unchanged : (w : Words) → OfWords w → Keeps w w
unchanged w of = keeps w w of (of, λ e. e)

does_0 : Does 0
does_0 r c w sit of = ((1, _, _, lit< tt, refl, refl), of, unchanged w of)

does_1 : Does 1
does_1 r c w sit of = ((2, _, _, lit< tt, refl, refl), of, unchanged w of)

does_2 : Does 2
does_2 r c w sit of = ((3, _, _, lit< tt, refl, refl), of, unchanged w of)

does_3 : Does 3
does_3 r c w sit of = ((4, _, _, lit< tt, refl, refl), of, unchanged w of)

does_5 : Does 5
does_5 r c w sit of = ((6, _, _, lit< tt, refl, refl), of, unchanged w of)

does_6 : Does 6
does_6 r c w sit of = ((7, _, _, lit< tt, refl, refl), of, unchanged w of)

does_7 : Does 7
does_7 r c w sit of = ((8, _, _, lit< tt, refl, refl), of, unchanged w of)

does_9 : Does 9
does_9 r c w sit of = ((10, _, _, lit< tt, refl, refl), of, unchanged w of)

does_10 : Does 10
does_10 r c w sit of = ((11, _, _, lit< tt, sit, refl), of, unchanged w of)

does_11 : Does 11
does_11 r c w sit of = ((12, _, _, lit< tt, ap (λ b. b && true) sit, refl), of, unchanged w of)

does_13 : Does 13
does_13 r c w sit of = ((14, _, _, lit< tt, refl, refl), of, unchanged w of)

does_15 : Does 15
does_15 r c w sit of = ((16, _, _, lit< tt, refl, refl), of, unchanged w of)

does_4 : Does 4
does_4 r c w sit of = ((5, _, _, lit< tt, refl, refl), of, keeps w (set_word w 16 (r 9)) of (of, λ e. e))

does_8 : Does 8
does_8 r c w sit of = by (not (r 6 == r 5))
  where
    by : (taken : Bool) → Leaves OfHart OfWords (Goes (moved (at 8 r c) (if taken then 4 else 36) r)) w w
    by true = ((1, _, _, lit< tt, refl, refl), of, unchanged w of)
    by false = ((9, _, _, lit< tt, refl, refl), of, unchanged w of)

both : (a b : Bool) → IsTrue (a && b) → IsTrue a × IsTrue b
both true b t = (refl, t)
both false b t = absurd (cc)

-- what ECALL asks for, by x10 and x17
abbrev call : Regs → ℕ → ℕ → Plan
call r a b = if b == 0 then Stops else if b == 1 then asks 272 a (Awaits (a / 8) (r 11)) else Faults

does_12 : Does 12
does_12 r c w sit of =
    let parts = both (r 10 == 144) (r 17 == 1) sit in
    let place = eqb-true (r 10) 144 parts.0 in
    let number = eqb-true (r 17) 1 parts.1 in
    subst (λ (p : ℕ × ℕ). Leaves OfHart OfWords (answered (at 12 r c) (call r p.0 p.1) (word_at (call r p.0 p.1) w)) w (words_after (call r p.0 p.1) w)) (λ j. (sym place j, sym number j)) (by (w 18 == r 11))
  where
    by : (waits : Bool) → Leaves OfHart OfWords (if waits then Waits else Goes (moved (at 12 r c) 52 (put r 10 (w 18)))) w w
    by true = tt
    by false = ((13, _, _, lit< tt, refl, refl), of, unchanged w of)

does_14 : Does 14
does_14 r c w sit of =
    let one = eqb-true (r 14) 1 sit in
    let after : OfWords (set_word w 1 (r 14)) = (omega (arith, one), of.1, of.2) in
    ((15, _, _, lit< tt, refl, refl), after, keeps w (set_word w 1 (r 14)) of (after, λ e. one))

does_16 : Does 16
does_16 r c w sit of =
    let number = eqb-true (r 17) 0 sit in
    subst (λ n. Leaves OfHart OfWords (answered (at 16 r c) (call r (r 10) n) (word_at (call r (r 10) n) w)) w (words_after (call r (r 10) n) w)) (sym number) tt

does : (k : ℕ) → k < 17 → Does k
does zero lt = does_0
does (suc zero) lt = does_1
does (suc (suc zero)) lt = does_2
does (suc (suc (suc zero))) lt = does_3
does (suc (suc (suc (suc zero)))) lt = does_4
does (suc (suc (suc (suc (suc zero))))) lt = does_5
does (suc (suc (suc (suc (suc (suc zero)))))) lt = does_6
does (suc (suc (suc (suc (suc (suc (suc zero))))))) lt = does_7
does (suc (suc (suc (suc (suc (suc (suc (suc zero)))))))) lt = does_8
does (suc (suc (suc (suc (suc (suc (suc (suc (suc zero))))))))) lt = does_9
does (suc (suc (suc (suc (suc (suc (suc (suc (suc (suc zero)))))))))) lt = does_10
does (suc (suc (suc (suc (suc (suc (suc (suc (suc (suc (suc zero))))))))))) lt = does_11
does (suc (suc (suc (suc (suc (suc (suc (suc (suc (suc (suc (suc zero)))))))))))) lt = does_12
does (suc (suc (suc (suc (suc (suc (suc (suc (suc (suc (suc (suc (suc zero))))))))))))) lt = does_13
does (suc (suc (suc (suc (suc (suc (suc (suc (suc (suc (suc (suc (suc (suc zero)))))))))))))) lt = does_14
does (suc (suc (suc (suc (suc (suc (suc (suc (suc (suc (suc (suc (suc (suc (suc zero))))))))))))))) lt = does_15
does (suc (suc (suc (suc (suc (suc (suc (suc (suc (suc (suc (suc (suc (suc (suc (suc zero)))))))))))))))) lt = does_16
does (suc (suc (suc (suc (suc (suc (suc (suc (suc (suc (suc (suc (suc (suc (suc (suc (suc k))))))))))))))))) lt = absurd (omega (arith, lt))

-- a hart at the start
first_of : (i n k : ℕ) (h : Hart) → slice_get (map hart_of (first_harts i n)) k ≡ Some h → OfHart h
first_of i zero k h e = absurd (cc)
first_of i (suc n) zero h e = (0, _, 0, lit< tt, refl, sym (some_is _ h e))
  where
    some_is : (x y : Hart) → Some x ≡ Some y → x ≡ y
    some_is x y s = cc
first_of i (suc n) (suc k) h e = first_of (suc i) n k h e

sound : (out : ℕ) (w : Words) → OfWords w → IsSound out w
sound out w of =
    let low = of.0 in
    let none = of.1 in
    let empty = of.2 in
    record {
      kind = omega (arith, low);
      status = λ e. omega (arith, none);
      text = λ e. omega (arith, none);
      active = λ e. omega (arith, none);
      cursor = omega (arith, empty);
    }

pub bench_runs : (image : Image) (count gate : ℕ) → image.code ≡ bench_code → image.size ≡ 272 → image.settings.out ≡ 1024 → image.start ≡ start_of count gate → Runs image
bench_runs image count gate code size out start = invariant_runs OfHart OfWords image (record {
  room = subst (λ (p : ℕ × ℕ). 144 + log_words p.0 ≤ p.1) (λ j. (sym out j, sym size j)) (lit≤ tt);
  harts = first_of 0 image.settings.domains;
  words = subst (λ (s : List StartWord). OfWords (start_words s)) (sym start) (lit≤ tt, refl, refl);
  sound = sound image.settings.out;
  step = λ h w stands of. subst (λ (p : ℕ × List Instr × Hart). Leaves OfHart OfWords (step p.0 p.1 p.2 w) w (words_after (plan p.0 p.1 p.2) w)) (λ j. (sym size j, sym code j, sym stands.5 j)) (does stands.0 stands.3 stands.1 stands.2 w stands.4 of);
})
