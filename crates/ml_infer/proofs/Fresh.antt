-- New types, one by one.
use Rattle.std.proofs.Common.{◌≡◌, ℕ, suc, List, [], ◌∷◌, ◌++◌, sym, ap, ◌∙◌, append_assoc}
use Rattle.std.proofs.lemmas.List.{append-nil}
use Rattle.ml_infer.specs.declared.inference.Inference.{Inference}
use Rattle.ml_infer.specs.Inference.{With, valued, Gives, gives, new_variable}
use Rattle.ml_infer.specs.Constructors.{with_first, new_variables}

-- types before others
abbrev pub behind : List ℕ → With (List ℕ) → With (List ℕ)
behind ts r = valued (ts ++ r.value) r.state

-- none is left
pub none_fresh : (k : ℕ) (ts : List ℕ) (s : Inference) → k ≡ 0 → behind ts (new_variables k s) ≡ valued ts s
unfolding new_variables
none_fresh k ts s e = rw e (ap (λ (us : List ℕ). valued us s) (append-nil ts))

-- one more
pub one_fresh : (k j : ℕ) (ts : List ℕ) (s t : Inference) (n : ℕ) → k ≡ suc j → new_variable s ≡ gives n t
    → behind (ts ++ n ∷ []) (new_variables j t) ≡ behind ts (new_variables k s)
unfolding new_variables
one_fresh k j ts s t n e h =
    rw e
    (ap (λ (us : List ℕ). valued us (new_variables j t).state) (append_assoc ts (n ∷ []) (new_variables j t).value)
    ∙ sym (ap (λ (v : Gives). behind ts (with_first v.found (new_variables j v.state))) h))
