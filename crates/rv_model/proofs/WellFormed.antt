-- Code whose instructions are well-formed.
use Rattle.std.proofs.Common.{◌≡◌, ℕ, zero, suc, List, [], ◌∷◌, ◌++◌, Some, refl, subst}
use Rattle.std.specs.Prelude.{slice_get}
use Rattle.rv_model.specs.declared.instr.Instr.{Instr}
use Rattle.rv_model.specs.Table.{IsWellFormed, AreWellFormed}

-- each instruction of well-formed code
pub well_formed_at : (code : List Instr) → AreWellFormed code → (k : ℕ) (i : Instr) → slice_get code k ≡ Some i → IsWellFormed i
unfolding AreWellFormed
well_formed_at code all = all

pub well_formed-none : AreWellFormed []
unfolding AreWellFormed
well_formed-none k i e = absurd (cc)

pub well_formed-first : (i : Instr) (code : List Instr) → IsWellFormed i → AreWellFormed code → AreWellFormed (i ∷ code)
unfolding AreWellFormed
well_formed-first i code one all zero j e = subst IsWellFormed (some_is i j e) one
  where
    some_is : (i j : Instr) → Some i ≡ Some j → i ≡ j
    some_is i j e = cc
well_formed-first i code one all (suc k) j e = all k j e

pub well_formed-append : (a b : List Instr) → AreWellFormed a → AreWellFormed b → AreWellFormed (a ++ b)
unfolding AreWellFormed
well_formed-append [] b f g = g
well_formed-append (i ∷ a) b f g = well_formed-first i (a ++ b) (f 0 i refl) (well_formed-append a b (λ k. f (suc k)) g)

-- one more instruction at the end
pub well_formed-push : (code : List Instr) (i : Instr) → AreWellFormed code → IsWellFormed i → AreWellFormed (code ++ i ∷ [])
well_formed-push code i all one = well_formed-append code (i ∷ []) all (well_formed-first i [] one well_formed-none)
