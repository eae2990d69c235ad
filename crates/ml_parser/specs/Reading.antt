-- What the tokens of a text are read as.
use Rattle.std.specs.Prelude.{ℕ, ◌+◌, List, [], ◌∷◌, length, Option, Some, None, Result, Ok, Err}
use Rattle.std.specs.Option.{option_map, option_and_then}
use Rattle.fx_base.specs.declared.refusal.Place.{Place}
use Rattle.ml_lexer.specs.Lexeme.{Lexeme, LexedText}
use Rattle.ml_syntax.specs.declared.role.Role.{Role}
use Rattle.ml_syntax.specs.declared.role.Role.TheVariants as roles
use Rattle.ml_syntax.specs.Role.{role}
use Rattle.ml_builder.specs.declared.reduction.Reduction.{Reduction}
use Rattle.ml_parser.specs.declared.frames.Frame.{Frame}
use Rattle.ml_moves.specs.declared.awaits.Awaits.{Awaits}
use Rattle.ml_moves.specs.declared.awaits.Awaits.TheVariants as waits
use Rattle.ml_moves.specs.declared.handlers.Sign.{Sign}
use Rattle.ml_moves.specs.declared.handlers.Sign.TheVariants as signs
use Rattle.ml_moves.specs.declared.moves.Move.{Move}
use Rattle.ml_parser.specs.Frames.{innermost, around, parts_of}
use Rattle.ml_parser.specs.Changed.{State, changed}
use Rattle.ml_parser.specs.Settled.{last_made, settled}
use Rattle.ml_parser.specs.Signs.{sign_at}
use Rattle.ml_moves.specs.Completing.{complete, join, join_dot}
use Rattle.ml_moves.specs.Taking.{take}

-- what may come next, the open forms and the reductions so far
pub record Situation : Type 0 where
  pub awaits : Awaits
  pub frames : List Frame
  pub reductions : List Reduction

abbrev pub situation : Awaits → List Frame → List Reduction → Situation
situation a fs rs = record { awaits = a; frames = fs; reductions = rs }

-- the three changes of a move at a token, if there is one
abbrev pub stepped : Option Move → ℕ → List Frame → List Reduction → Option Situation
stepped None n fs rs = None
stepped (Some m) n fs rs =
    option_map (λ s. situation m.next s.frames s.reductions)
    (option_and_then (λ s. changed m.third n s.frames s.reductions)
    (option_and_then (λ s. changed m.second n s.frames s.reductions) (changed m.first n fs rs)))

-- behind a whole part the forms end that end before a token, and a further part may begin
unfoldable pub joined : Awaits → Role → ℕ → List Frame → List Reduction → Option Situation
joined waits.After r n fs rs =
    let s = settled r fs rs in stepped (join r (innermost s.frames) (last_made s.reductions)) n s.frames s.reductions
joined waits.AfterDot r n fs rs = let s = settled roles.Dot fs rs in stepped join_dot n s.frames s.reductions
joined a r n fs rs = Some (situation a fs rs)

-- the token is taken
abbrev pub taken : Role → Sign → ℕ → Situation → Option Situation
taken r sign n s =
    stepped (take s.awaits r sign (innermost s.frames) (around s.frames) (last_made s.reductions)) n s.frames s.reductions

-- a token is read: first it shows what stands before it, then it is taken
abbrev pub token_read : Role → Sign → ℕ → Awaits → List Frame → List Reduction → Option Situation
token_read r sign n a fs rs =
    option_and_then (taken r sign n)
    (option_and_then (λ s. joined s.awaits r n s.frames s.reductions)
    (stepped (complete a r (innermost fs) (around fs) (parts_of fs)) n fs rs))

abbrev pub ended_by : Place → Option Situation → Result (List Reduction) Place
ended_by end None = Err end
ended_by end (Some s) = Ok s.reductions

-- the end of the text is as a `;;`
abbrev pub ended : ℕ → Place → Awaits → List Frame → List Reduction → Result (List Reduction) Place
ended n end a fs rs = ended_by end (token_read roles.DoubleSemicolon signs.Other n a fs rs)

abbrev pub ongoing : Place → Option Situation → (Situation → Result (List Reduction) Place) → Result (List Reduction) Place
ongoing place None again = Err place
ongoing place (Some s) again = again s

-- the reductions of the tokens from this number on, or the place of the first one with which no program can go on
abbrev pub reads : LexedText → ℕ → List Lexeme → Awaits → List Frame → List Reduction → Result (List Reduction) Place
reads text n [] a fs rs = ended n text.ending a fs rs
reads text n (t ∷ ts) a fs rs =
    ongoing t.place (token_read (role t) (sign_at text.lexemes a fs (role t) t.text) n a fs rs)
    (λ s. reads text (n + 1) ts s.awaits s.frames s.reductions)

-- the reductions of a text, or the place of its first fault
abbrev pub reading : LexedText → Result (List Reduction) Place
reading text = reads text 0 text.lexemes waits.FirstItem [] []
