-- A token with its bytes, and where its kind and place come from.
use Rattle.std.specs.Prelude.{ℕ, ◌≤◌, ◌-◌, List, length, take, drop, map}
use Rattle.fx_base.specs.declared.refusal.Place.{Place}
use Rattle.ml_lexer.specs.declared.token.TokenKind.{TokenKind}
use Rattle.ml_lexer.specs.declared.token.Token.{Token}

-- a token with its bytes
pub record Lexeme : Type 0 where
  pub kind : TokenKind
  pub text : List ℕ
  pub place : Place

-- the bytes that a token of this source spans, with its kind and place
abbrev pub lexeme_at : List ℕ → Token → Lexeme
lexeme_at source t = record { kind = t.kind; text = take (t.to - t.from) (drop t.from source); place = t.place }

-- a token that spans bytes of the source
pub record LiesIn (source : List ℕ) (t : Token) : Type 0 where
  pub ordered : t.from ≤ t.to
  pub within : t.to ≤ length source

-- the tokens of a text, and the place behind its last byte
pub record LexedText : Type 0 where
  pub lexemes : List Lexeme
  pub ending : Place

-- the tokens of this source, which ends at a place
abbrev pub lexed_text : List ℕ → List Token → Place → LexedText
lexed_text source items ending = record { lexemes = map (lexeme_at source) items; ending = ending }

-- the bytes of each token
abbrev pub texts : List Lexeme → List (List ℕ)
texts ls = map (λ l. l.text) ls
