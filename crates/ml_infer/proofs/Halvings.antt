-- Halvings, one by one.
use Rattle.std.proofs.Common.{◌≡◌, ℕ, suc, refl}
use Rattle.effect_meaning.specs.Arena.{Parts}
use Rattle.ml_infer.specs.declared.verdict.Span.{Span}
use Rattle.ml_infer.specs.Verdict.{halved, halvings}

-- none is left
pub halved_none : (k : ℕ) (p : Parts) (s : Span) → k ≡ 0 → halvings k p s ≡ s
unfolding halvings
halved_none k p s e = rw e refl

-- one more
pub halved_once : (k j : ℕ) (p : Parts) (s : Span) → k ≡ suc j → halvings j p (halved p s) ≡ halvings k p s
unfolding halvings
halved_once k j p s e = rw e refl
