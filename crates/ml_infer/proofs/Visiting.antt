-- Steps of reading written types, one by one.
use Rattle.std.proofs.Common.{◌≡◌, ℕ, suc, List, [], ◌∷◌, refl, ap, sym}
use Rattle.fx_base.specs.declared.refusal.Place.{Place}
use Rattle.effect_meaning.specs.Arena.{Parts}
use Rattle.ml_infer.specs.declared.inference.Inference.{Inference}
use Rattle.ml_infer.specs.declared.written.Variables.{Variables}
use Rattle.ml_infer.specs.declared.written.Visit.{Visit}
use Rattle.ml_infer.specs.Written.{Reading, reading, visited_one, visited}

-- none is left
pub visited_done : (k : ℕ) (p : Parts) (vars : Variables) (at : Place) (s : Inference) → visited k p vars at [] s ≡ s
unfolding visited
visited_done k p vars at s = refl

-- one more
pub visited_once : (k j : ℕ) (p : Parts) (vars : Variables) (at : Place) (v : Visit) (vs ws : List Visit) (s t : Inference) → k ≡ suc j
    → visited_one p vars at v vs s ≡ reading ws t → visited j p vars at ws t ≡ visited k p vars at (v ∷ vs) s
unfolding visited
visited_once k j p vars at v vs ws s t e h =
    rw e (sym (ap (λ (r : Reading). visited j p vars at r.visits r.state) h))
