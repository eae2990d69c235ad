-- What a view of a token shows.
use Rattle.ml_lexer.specs.Lexeme.{Lexeme}
use Rattle.ml_lexer.specs.declared.token.TokenView.{TokenView}

-- the token that a view shows
abbrev pub seen : TokenView → Lexeme
seen v = record { kind = v.kind; text = v.text.now; place = v.place }
