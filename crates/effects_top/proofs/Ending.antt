-- What each instruction keeps, and the code that ends a run: the text goes into the log, the cursor moves, the end is told.
use Rattle.std.proofs.Common.{◌≡◌, ℕ, ◌+◌, ◌*◌, ◌/◌, ◌^◌, ◌<◌, ◌≤◌, List, [], ◌∷◌, length, Some, None, ◌⊎◌, inl, inr, refl, sym, ap, ◌∙◌, arith, pos, le_refl}
use Rattle.std.specs.Prelude.{◌==◌, if◌then◌else◌}
use Rattle.std.proofs.lemmas.List.{append-nil}
use Rattle.effect_meaning.specs.Terms.{Place}
use Rattle.effect_meaning.specs.Config.{Running, Exited, Config}
use Rattle.effect_meaning.specs.Run.{start}
use Rattle.rv_model.specs.declared.instr.Op.TheVariants.{Addi}
use Rattle.rv_model.specs.declared.instr.Instr.{Instr}
use Rattle.rv_model.specs.declared.report.RunEnd.{RunEnd}
use Rattle.rv_model.specs.declared.report.RunEnd.TheVariants.{Exited as HasExited}
use Rattle.rv_model.specs.Format.{plain}
use Rattle.rv_model.specs.Machine.{Regs, put, Words, set_word, Stops, Faults, asks, Awaits}
use Rattle.rv_model.specs.Layout.{Keeps, IsSound, log, end, end_of}
use Rattle.effects_top.specs.Compiled.{end_code}
use Rattle.effects_top.specs.Expression.{Expression}
use Rattle.effects_top.proofs.Instructions.{HasAt, at, Good, stops}
use Rattle.effects_top.proofs.Blocks.{run_block, store_one}
use Rattle.effects_top.proofs.Stacking.{IsFresh, fresh_log, fresh_end, fresh_keeps}
use Rattle.effects_top.proofs.Digits.{low_bytes, HasText}
use Rattle.effects_top.proofs.LogBytes.{log_text}
use Rattle.effects_top.proofs.Evaluates.{Leads, leads_none, leads_on, program, printed, after_print, after_end, print_leads, end_leads}

-- neither the words nor the run has an end, or both ended by an exit with 0
abbrev pub AgreeOnEnd : Words → Config → Type 0
AgreeOnEnd w c = ((end w ≡ None) × (c.end ≡ Running)) ⊎ ((end w ≡ Some (HasExited 0)) × (c.end ≡ Exited 0))

-- after m steps of the program and c instructions the words show the run
pub record Ok (file : List ℕ) (place : Place) (e : Expression) (h out m c : ℕ) (w : Words) : Type 0 where
  pub config : Config
  pub leads : Leads (program file place e h) m (start (program file place e h) h) config
  pub output : log w ≡ config.output
  pub ended : AgreeOnEnd w config
  pub sound : IsSound out w
  pub count : c < 40000

-- hart 0 stops only after the end
abbrev pub Over : ℕ → Words → Type 0
Over m w = end w ≡ Some (HasExited 0)

-- words with at most the first end are sound
sound_by : (out : ℕ) (w : Words) → w 1 ≤ 1 → w 2 ≡ 0 → w 6 ≤ out → IsSound out w
sound_by out w one detail cursor =
    let kind : w 1 ≤ 6 = omega (arith, one) in
    let small : w 2 ≤ 255 = omega (arith, detail) in
    let short : w 2 ≤ 1024 = omega (arith, detail) in
    record { kind = kind; status = λ x. small; text = λ x. short; active = λ x. small; cursor = cursor }

-- an end that only comes keeps the words
ends_keeps : (w w' : Words) → end w ≡ None → log w' ≡ log w → Keeps w w'
ends_keeps w w' e same = record {
  grows = ([], same ∙ sym (append-nil (log w)));
  ends = λ x h. absurd (none x (sym e ∙ h));
  stays = λ x h. same;
}
  where
    none : (x : RunEnd) → None ≡ Some x → ⊥
    none x h = cc

module _ (size : ℕ) (code : List Instr) (short : length code ≤ 262144) (file : List ℕ) (place : Place) (e : Expression) (h out : ℕ) where
  pub fresh_ok : (c : ℕ) (w : Words) → IsFresh w → c < 40000 → Ok file place e h out 0 c w
  fresh_ok c w f lt = record {
    config = start (program file place e h) h;
    leads = leads_none (program file place e h) (start (program file place e h) h);
    output = fresh_log w f;
    ended = inl (fresh_end w f, refl);
    sound = sound_by out w (let q = f.1 in omega (arith, q)) f.2 (let q = f.0 in omega (arith, q));
    count = lt;
  }

  abbrev GoodHere : ℕ → ℕ → Regs → ℕ → Words → ℕ → Type 0
  GoodHere n k r c w m = Good size code (Ok file place e h out) Over n (at k r c) w m

  pub end_good : (n k c y len : ℕ) (r : Regs) (w : Words) → HasAt code k end_code → 147 ≤ size → 24 ≤ out → HasText r y len → len ≤ 24 → low_bytes len y ≡ printed file place e h → IsFresh w → r 17 ≡ 0 → c + 50 < 40000 → GoodHere n k r c w 0
  end_good n k c y len r w has big room x few text fresh e17 count =
      store_one size code short (Ok file place e h out) Over n k c 0 0 144 (r 6) r w _ has.0 refl (omega (arith, big)) (fresh_ok c w fresh (omega (arith, count))) (le_refl 0) (fresh_keeps w w1 fresh)
      (store_one size code short (Ok file place e h out) Over n (k + 1) (c + 1) 0 0 145 (r 7) r w1 _ has.1.0 refl (omega (arith, big)) (fresh_ok (c + 1) w1 fresh (omega (arith, count))) (le_refl 0) (fresh_keeps w1 w2 fresh)
      (store_one size code short (Ok file place e h out) Over n (k + 1 + 1) (c + 1 + 1) 0 0 146 (r 8) r w2 _ has.1.1.0 refl (omega (arith, big)) (fresh_ok (c + 1 + 1) w2 fresh (omega (arith, count))) (le_refl 0) (fresh_keeps w2 w3 fresh)
      (store_one size code short (Ok file place e h out) Over n (k + 1 + 1 + 1) (c + 1 + 1 + 1) 0 m1 6 (r 11) r w3 _ has.1.1.1.0 refl (omega (arith, big)) (fresh_ok (c + 1 + 1 + 1) w3 fresh (omega (arith, count))) (omega arith) (fresh_keeps w3 w4 fresh)
      (run_block size code short (Ok file place e h out) Over (plain Addi 5 0 0 (pos 1) ∷ []) n (k + 1 + 1 + 1 + 1) (c + 1 + 1 + 1 + 1) m1 r r5 w4 (has.1.1.1.1.0, tt) refl (λ j l. ok4 (c + 1 + 1 + 1 + 1 + j) (omega (arith, count, l)))
      (store_one size code short (Ok file place e h out) Over n (k + 1 + 1 + 1 + 1 + 1) (c + 1 + 1 + 1 + 1 + 1) m1 (m1 + 5) 1 1 r5 w4 _ has.1.1.1.1.1.0 refl (omega (arith, big)) (ok4 (c + 1 + 1 + 1 + 1 + 1) (omega (arith, count))) (omega arith) (ends_keeps w4 w5 end4 (log5 ∙ sym log4))
      (stops size code (Ok file place e h out) Over n (k + 1 + 1 + 1 + 1 + 1 + 1) (c + 1 + 1 + 1 + 1 + 1 + 1) (m1 + 5) r5 w5 _ has.1.1.1.1.1.1.0 stop ok5 end5))))))
    where
      w1 : Words
      w1 = set_word w 144 (r 6)

      w2 : Words
      w2 = set_word w1 145 (r 7)

      w3 : Words
      w3 = set_word w2 146 (r 8)

      w4 : Words
      w4 = set_word w3 6 (r 11)

      r5 : Regs
      r5 = put r 5 1

      w5 : Words
      w5 = set_word w4 1 1

      m1 : ℕ
      m1 = (print_leads file place e h).0

      leads1 : Leads (program file place e h) m1 (start (program file place e h) h) (after_print file place e h)
      leads1 = (print_leads file place e h).1

      whole : r 6 + 2 ^ 64 * r 7 + 2 ^ 128 * r 8 ≡ y
      whole = x.whole

      log4 : log w4 ≡ printed file place e h
      log4 = log_text w4 len y x.count few x.first x.second x.third whole ∙ text

      log5 : log w5 ≡ printed file place e h
      log5 = log_text w5 len y x.count few x.first x.second x.third whole ∙ text

      end4 : end w4 ≡ None
      end4 = ap (λ k. end_of k w4) fresh.1

      end5 : end w5 ≡ Some (HasExited 0)
      end5 = ap (λ k. Some (HasExited k)) fresh.2

      stop : (if r 17 == 0 then Stops else if r 17 == 1 then asks size (r 10) (Awaits (r 10 / 8) (r 11)) else Faults) ≡ Stops
      stop = ap (λ z. if z == 0 then Stops else if z == 1 then asks size (r 10) (Awaits (r 10 / 8) (r 11)) else Faults) e17

      within : r 11 ≤ out
      within = let f = x.count in omega (arith, f, few, room)

      none_yet : w 1 ≤ 1
      none_yet = let f = fresh.1 in omega (arith, f)

      ok4 : (c' : ℕ) → c' < 40000 → Ok file place e h out m1 c' w4
      ok4 c' l = record {
        config = after_print file place e h;
        leads = leads1;
        output = log4;
        ended = inl (end4, refl);
        sound = sound_by out w4 none_yet fresh.2 within;
        count = l;
      }

      ok5 : Ok file place e h out (m1 + 5) (c + 1 + 1 + 1 + 1 + 1 + 1) w5
      ok5 = record {
        config = after_end file place e h;
        leads = leads_on (program file place e h) m1 5 (start (program file place e h) h) (after_print file place e h) (after_end file place e h) leads1 (end_leads file place e h);
        output = log5;
        ended = inr (end5, refl);
        sound = sound_by out w5 (le_refl 1) fresh.2 within;
        count = omega (arith, count);
      }
