-- When the words tell an end.
use Rattle.std.proofs.Common.{◌≡◌, ◌≢◌, ℕ, zero, suc, ◌≤◌, Some, None, refl, sym, ap, ◌∙◌, arith}
use Rattle.rv_model.specs.declared.layout.TheConstants.{END_WORD}
use Rattle.rv_model.specs.declared.image.Image.{Image}
use Rattle.rv_model.specs.declared.report.RunEnd.{RunEnd}
use Rattle.rv_model.specs.Machine.{Words}
use Rattle.rv_model.specs.Layout.{end, end_of}
use Rattle.rv_model.specs.Run.{Machine, Runs, Reaches}
use Rattle.rv_model.proofs.Reaching.{Grows, grows_keeps, reaches_sound}

kinds : (kind : ℕ) (w : Words) → kind ≢ 0 → kind ≤ 6 → (e : RunEnd) × (end_of kind w ≡ Some e)
kinds zero w n le = absurd (n refl)
kinds (suc zero) w n le = (_, refl)
kinds (suc (suc zero)) w n le = (_, refl)
kinds (suc (suc (suc zero))) w n le = (_, refl)
kinds (suc (suc (suc (suc zero)))) w n le = (_, refl)
kinds (suc (suc (suc (suc (suc zero))))) w n le = (_, refl)
kinds (suc (suc (suc (suc (suc (suc zero)))))) w n le = (_, refl)
kinds (suc (suc (suc (suc (suc (suc (suc k))))))) w n le = absurd (omega (arith, le))

-- an end word that isn't 0 tells an end
pub end-over : (w : Words) → w END_WORD ≢ 0 → w END_WORD ≤ 6 → (e : RunEnd) × (end w ≡ Some e)
end-over w n le = kinds (w END_WORD) w n le

-- an end word that is 0 tells none
pub end-running : (w : Words) → w END_WORD ≡ 0 → end w ≡ None
end-running w e = ap (λ kind. end_of kind w) e

-- a run that is over stays so
pub grows_over : (image : Image) (a b : Machine) → Runs image → Grows image a b → Reaches image a → a.words END_WORD ≢ 0 → b.words END_WORD ≢ 0
grows_over image a b runs f r n zero_then =
    let told = end-over a.words n (reaches_sound image a runs r).kind in
    let after = (grows_keeps image a b runs f r).ends told.0 told.1 in
    let none = end-running b.words zero_then in
    differ told.0 (sym none ∙ after)
  where
    differ : (e : RunEnd) → None ≡ Some e → ⊥
    differ e h = cc
