-- Changes of the open forms and of the reductions.
use Rattle.std.specs.Prelude.{ℕ, ◌+◌, ◌-◌, List, [], ◌∷◌, ◌++◌, Option, Some, None}
use Rattle.ml_builder.specs.declared.reduction.Rule.{Rule}
use Rattle.ml_builder.specs.declared.reduction.Rule.TheVariants as rules
use Rattle.ml_builder.specs.declared.reduction.Reduction.{Reduction}
use Rattle.ml_moves.specs.declared.form.Form.{Form}
use Rattle.ml_parser.specs.declared.frames.Frame.{Frame}
use Rattle.ml_moves.specs.declared.moves.Change.{Change}
use Rattle.ml_moves.specs.declared.moves.Change.TheVariants as changes

-- the open forms, the innermost first, and the reductions so far
pub record State : Type 0 where
  pub frames : List Frame
  pub reductions : List Reduction

abbrev pub state : List Frame → List Reduction → State
state fs rs = record { frames = fs; reductions = rs }

abbrev pub frame : Form → ℕ → ℕ → Frame
frame form token parts = record { form = form; token = token; parts = parts }

abbrev pub reduction : Rule → ℕ → ℕ → Reduction
reduction rule token count = record { rule = rule; token = token; count = count }

-- a change of the innermost form, at a token; the others are given
unfoldable pub changed_frame : Change → ℕ → Frame → List Frame → List Reduction → Option State
changed_frame (changes.OpenOver form) t f fs rs = Some (state (frame form f.token f.parts ∷ f ∷ fs) rs)
changed_frame (changes.Become form) t f fs rs = Some (state (frame form f.token f.parts ∷ fs) rs)
changed_frame (changes.Count form) t f fs rs = Some (state (frame form f.token (f.parts + 1) ∷ fs) rs)
changed_frame (changes.Restart form) t f fs rs = Some (state (frame form t f.parts ∷ fs) rs)
changed_frame (changes.RestartBefore form) t f fs rs = Some (state (frame form (t - 1) f.parts ∷ fs) rs)
changed_frame (changes.Close rule) t f fs rs = Some (state fs (rs ++ reduction rule f.token f.parts ∷ []))
changed_frame (changes.Empty rule) t f fs rs = Some (state fs (rs ++ reduction rule f.token 0 ∷ []))
changed_frame (changes.Turn rule form) t f fs rs =
    Some (state (frame form f.token f.parts ∷ fs) (rs ++ reduction rule f.token f.parts ∷ []))
changed_frame changes.Withdraw t f fs rs = Some (state fs rs)
changed_frame _ t f fs rs = None

-- a change of an open form
abbrev pub changed_top : Change → ℕ → List Frame → List Reduction → Option State
changed_top change t [] rs = None
changed_top change t (f ∷ fs) rs = changed_frame change t f fs rs

-- a change at a token
unfoldable pub changed : Change → ℕ → List Frame → List Reduction → Option State
changed changes.Nothing t fs rs = Some (state fs rs)
changed (changes.Leaf rule) t fs rs = Some (state fs (rs ++ reduction rule t 0 ∷ []))
changed (changes.LeafBefore rule) t fs rs = Some (state fs (rs ++ reduction rule (t - 1) 0 ∷ []))
changed (changes.Name rule) t fs rs = Some (state fs ((rs ++ reduction rules.Word t 0 ∷ []) ++ reduction rule t 1 ∷ []))
changed (changes.Open form parts) t fs rs = Some (state (frame form t parts ∷ fs) rs)
changed (changes.OpenBefore form) t fs rs = Some (state (frame form (t - 1) 1 ∷ fs) rs)
changed change t fs rs = changed_top change t fs rs
