-- The names that a handler asks for.
use Rattle.std.specs.Prelude.{ℕ, ◌+◌, ◌-◌, ◌^◌, min, Bool, List, [], get_or, bytes_eq, codes, if◌then◌else◌}
use Rattle.ml_lexer.specs.Lexeme.{Lexeme, texts}
use Rattle.ml_syntax.specs.declared.role.Role.{Role}
use Rattle.ml_syntax.specs.declared.role.Role.TheVariants as roles
use Rattle.ml_moves.specs.declared.form.Form.TheVariants as forms
use Rattle.ml_moves.specs.declared.form.Form.{Form}
use Rattle.ml_parser.specs.declared.frames.Frame.{Frame}
use Rattle.ml_moves.specs.declared.awaits.Awaits.{Awaits}
use Rattle.ml_moves.specs.declared.awaits.Awaits.TheVariants as waits
use Rattle.ml_moves.specs.declared.handlers.Sign.{Sign}
use Rattle.ml_moves.specs.declared.handlers.Sign.TheVariants as signs
use Rattle.ml_parser.specs.Frames.{frame_at}

-- what the name of a field is
unfoldable pub field_text_sign : List ℕ → Sign
field_text_sign t =
    if bytes_eq t (codes "retc") then signs.Retc
    else (if bytes_eq t (codes "exnc") then signs.Exnc else (if bytes_eq t (codes "effc") then signs.Effc else signs.Other))

-- what a token is where the name of a field comes
unfoldable pub field_sign : Role → List ℕ → Sign
field_sign roles.Lower t = field_text_sign t
field_sign _ t = signs.Other

-- what an upper name is that may be an answer
unfoldable pub answer_text_sign : List ℕ → Sign
answer_text_sign t = if bytes_eq t (codes "Some") then signs.Some else (if bytes_eq t (codes "None") then signs.None else signs.Other)

-- what a token is where an answer comes
unfoldable pub answer_sign : Role → List ℕ → Sign
answer_sign roles.Upper t = answer_text_sign t
answer_sign _ t = signs.Other

-- what a token is where the parameter of `effc` comes again
unfoldable pub subject_sign : Role → List ℕ → List ℕ → Sign
subject_sign roles.Lower t parameter = if bytes_eq t parameter then signs.Parameter else signs.Other
subject_sign _ t parameter = signs.Other

-- the number of the token that is the name of a parameter of `effc`: behind a bracket the one after it
unfoldable pub parameter_in : Form → ℕ → ℕ
parameter_in forms.EffectAnnotated n = min (n + 1) (2 ^ 64 - 1)
parameter_in _ n = n

unfoldable pub parameter_of : Frame → ℕ
parameter_of f = parameter_in f.form f.token

-- the name of the parameter of `effc`, where this is the innermost form
abbrev pub parameter_text : List Lexeme → List Frame → List ℕ
parameter_text all fs = get_or (texts all) (parameter_of (frame_at fs 0)) []

-- what a token is to a handler, where this is awaited
unfoldable pub sign_at : List Lexeme → Awaits → List Frame → Role → List ℕ → Sign
sign_at all waits.HandlerField fs role text = field_sign role text
sign_at all waits.Answer fs role text = answer_sign role text
sign_at all waits.LastAnswer fs role text = answer_sign role text
sign_at all waits.Subject fs role text = subject_sign role text (parameter_text all fs)
sign_at all _ fs role text = signs.Other
