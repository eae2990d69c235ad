-- What is read of a text, piece by piece.
use Rattle.std.specs.Prelude.{ℕ, zero, ◌+◌, List, [], ◌∷◌, ◌++◌, length, Result, Ok, Err}
use Rattle.fx_base.specs.declared.refusal.Place.{Place}
use Rattle.ml_lexer.specs.declared.piece.Sort.{Sort}
use Rattle.ml_lexer.specs.declared.piece.Sort.TheVariants as sorts
use Rattle.ml_lexer.specs.declared.token.Token.{Token}
use Rattle.ml_lexer.specs.Lexeme.{Lexeme}
use Rattle.ml_lexer.specs.Lexes.{Piece, blank, comment, lexeme, bytes_of, joined, place_after, lexemes_of}
use Rattle.ml_lexer.specs.Scan.{cut_from}

-- what a piece is
abbrev pub found : Piece → Sort
found (blank b) = sorts.Blank
found (comment c) = sorts.Comment
found (lexeme k t) = sorts.Lexeme k

-- what a piece is, and how many bytes it takes
abbrev pub found_of : Piece → Sort × ℕ
found_of p = (found p, length (bytes_of p))

-- the token of a piece, if it is one
abbrev pub made : Sort → ℕ → ℕ → Place → List Token
made (sorts.Lexeme k) at n p = record { kind = k; from = at; to = at + n; place = p } ∷ []
made _ at n p = []

-- the lexemes of pieces that begin at a place, or the place behind them where bytes are left
abbrev pub outcome : Place → List Piece → List ℕ → Result (List Lexeme) Place
outcome p ps [] = Ok (lexemes_of p ps)
outcome p ps (b ∷ bs) = Err (place_after p (joined ps))

-- what is read from here on
abbrev pub read_from : Place → List ℕ → Result (List Lexeme) Place
read_from p bs = let c = cut_from zero bs in outcome p c.0 c.1

-- lexemes, and what is read behind them
abbrev pub behind : List Lexeme → Result (List Lexeme) Place → Result (List Lexeme) Place
behind ls (Ok more) = Ok (ls ++ more)
behind ls (Err p) = Err p
