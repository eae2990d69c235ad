-- The stack of open forms, the innermost first.
use Rattle.std.specs.Prelude.{ℕ, List, get_or}
use Rattle.ml_moves.specs.declared.form.Form.{Form}
use Rattle.ml_moves.specs.declared.form.Form.TheVariants as forms
use Rattle.ml_parser.specs.declared.frames.Frame.{Frame}

-- what stands for the whole text
abbrev pub whole_text : Frame
whole_text = record { form = forms.Program; token = 0; parts = 0 }

-- the form that so many others stand in
abbrev pub frame_at : List Frame → ℕ → Frame
frame_at fs inner = get_or fs inner whole_text

abbrev pub innermost : List Frame → Form
innermost fs = (frame_at fs 0).form

-- the form round the innermost one
abbrev pub around : List Frame → Form
around fs = (frame_at fs 1).form

-- how many parts of the innermost form have begun
abbrev pub parts_of : List Frame → ℕ
parts_of fs = (frame_at fs 0).parts
