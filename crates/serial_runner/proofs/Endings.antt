-- Bytes of the words, and harts that have spent their budget.
use Rattle.std.proofs.Common.{◌≡◌, ℕ, zero, suc, ◌+◌, ◌<◌, List, [], ◌∷◌, ◌++◌, length, take, drop, get_or, refl, sym, ap, ◌∙◌, arith}
use Rattle.std.specs.Prelude.{slice_set, if◌then◌else◌}
use Rattle.rv_model.specs.declared.hart.Hart.{Hart}
use Rattle.rv_model.specs.declared.report.RunEnd.TheVariants.{BudgetSpent}
use Rattle.rv_model.specs.Machine.{Words}
use Rattle.rv_model.specs.Layout.{byte_at, bytes_from}
use Rattle.serial_runner.specs.Turns.{is_spent}
use Rattle.serial_runner.specs.Ending.{unfinished}

-- one byte more
bytes_more : (w : Words) (at k : ℕ) → bytes_from w at (suc k) ≡ bytes_from w at k ++ byte_at w (at + k) ∷ []
bytes_more w at zero = ap (λ j. byte_at w j ∷ []) (let e : at ≡ at + 0 = omega arith in e)
bytes_more w at (suc k) = ap (λ l. byte_at w at ∷ l) (bytes_more w (at + 1) k ∙ ap (λ j. bytes_from w (at + 1) k ++ byte_at w j ∷ []) (let e : at + 1 + k ≡ at + suc k = omega arith in e))

take_set : (l : List ℕ) (k b : ℕ) → k < length l → take (suc k) (slice_set l k b) ≡ take k l ++ b ∷ []
take_set [] k b lt = absurd (omega (arith, lt))
take_set (x ∷ l) zero b lt = refl
take_set (x ∷ l) (suc k) b lt = ap (λ m. x ∷ m) (take_set l k b (omega (arith, lt)))

pub filled : (w : Words) (at k b : ℕ) (l : List ℕ) → k < length l → b ≡ byte_at w (at + k) → take k l ≡ bytes_from w at k → take (k + 1) (slice_set l k b) ≡ bytes_from w at (k + 1)
filled w at k b l lt is before =
    let up : k + 1 ≡ suc k = omega arith in
    ap (λ n. take n (slice_set l k b)) up ∙ take_set l k b lt ∙ ap (λ m. m ++ b ∷ []) before
    ∙ ap (λ x. bytes_from w at k ++ x ∷ []) is
    ∙ sym (bytes_more w at k)
    ∙ ap (bytes_from w at) (sym up)

-- the next hart has spent its budget, or one after it
pub unfinished_next : (budget i k : ℕ) (l : List Hart) (d : Hart) → k < length l → unfinished budget i (drop k l) ≡ (if is_spent budget (get_or l k d) then BudgetSpent i budget else unfinished budget (suc i) (drop (suc k) l))
unfinished_next budget i k [] d lt = absurd (omega (arith, lt))
unfinished_next budget i zero (h ∷ l) d lt = refl
unfinished_next budget i (suc k) (h ∷ l) d lt = unfinished_next budget i k l d (omega (arith, lt))
