-- One more form that ends before a token.
use Rattle.std.proofs.Common.{◌≡◌, ◌<◌, ℕ, suc, List, [], ◌∷◌, ◌++◌, length, Option, Some, None, ap, sym, ◌∙◌, subst, arith}
use Rattle.std.proofs.lemmas.Option.{none-some}
use Rattle.ml_syntax.specs.declared.role.Role.{Role}
use Rattle.ml_builder.specs.declared.reduction.Rule.{Rule}
use Rattle.ml_builder.specs.declared.reduction.Reduction.{Reduction}
use Rattle.ml_parser.specs.declared.frames.Frame.{Frame}
use Rattle.ml_moves.specs.declared.moves.Change.TheVariants as changes
use Rattle.ml_moves.specs.Level.{made_before}
use Rattle.ml_parser.specs.Frames.{innermost}
use Rattle.ml_parser.specs.Changed.{State, state, reduction, changed, changed_frame}
use Rattle.ml_parser.specs.Settled.{last_made, unless_made, settled}

-- the forms that end behind a change
abbrev settled_behind : Role → Option State → State
settled_behind role None = state [] []
settled_behind role (Some s) = settled role s.frames s.reductions

-- the innermost form ends, and then the others
pub settled_once : (role : Role) (fs : List Frame) (rs : List Reduction) (r : Rule) (s : State) → made_before role (innermost fs) (last_made rs) ≡ Some r → changed (changes.Close r) 0 fs rs ≡ Some s → settled role s.frames s.reductions ≡ settled role fs rs
unfolding settled changed changed_frame
settled_once role [] rs r s m h = absurd (none-some s h)
settled_once role (f ∷ fs) rs r s m h =
    sym (ap (λ (o : Option Rule). unless_made (state (f ∷ fs) rs) o (λ q. settled role fs (rs ++ reduction q f.token f.parts ∷ []))) m
    ∙ ap (settled_behind role) h)

-- no form ends
pub settled_none : (role : Role) (fs : List Frame) (rs : List Reduction) → made_before role (innermost fs) (last_made rs) ≡ None → settled role fs rs ≡ state fs rs
unfolding settled
settled_none role [] rs m = cc
settled_none role (f ∷ fs) rs m =
    ap (λ (o : Option Rule). unless_made (state (f ∷ fs) rs) o (λ q. settled role fs (rs ++ reduction q f.token f.parts ∷ []))) m

abbrev frames_of : Option State → List Frame
frames_of None = []
frames_of (Some s) = s.frames

-- fewer forms are open then
pub fewer : (fs : List Frame) (rs : List Reduction) (r : Rule) (s : State) → changed (changes.Close r) 0 fs rs ≡ Some s → length s.frames < length fs
unfolding changed changed_frame
fewer [] rs r s h = absurd (none-some s h)
fewer (f ∷ fs) rs r s h = subst (λ (gs : List Frame). length gs < length (f ∷ fs)) (ap frames_of h) (omega arith)
