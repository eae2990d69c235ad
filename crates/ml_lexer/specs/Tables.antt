-- The fixed words and symbols, each with its kind.
use Rattle.std.specs.Prelude.{ℕ, List, [], ◌∷◌, ◌++◌, Option, Some, None, bytes_eq, codes, if◌then◌else◌}
use Rattle.ml_lexer.specs.declared.token.TokenKind.{TokenKind}
use Rattle.ml_lexer.specs.declared.token.TokenKind.TheVariants as kinds

-- the kind that a table has for a text
abbrev pub kind_in : List (List ℕ × TokenKind) → List ℕ → Option TokenKind
kind_in [] t = None
kind_in (e ∷ es) t = if bytes_eq t e.0 then Some e.1 else kind_in es t

-- the keywords of two bytes
abbrev pub words_of_two : List (List ℕ × TokenKind)
words_of_two =
    (codes "as", kinds.As) ∷ (codes "do", kinds.Do) ∷ (codes "if", kinds.If)
    ∷ (codes "in", kinds.In) ∷ (codes "of", kinds.Of) ∷ (codes "or", kinds.Or)
    ∷ (codes "to", kinds.To) ∷ []

-- the keywords of three bytes
abbrev pub words_of_three : List (List ℕ × TokenKind)
words_of_three =
    (codes "and", kinds.And) ∷ (codes "asr", kinds.Asr) ∷ (codes "end", kinds.End)
    ∷ (codes "for", kinds.For) ∷ (codes "fun", kinds.Fun) ∷ (codes "let", kinds.Let)
    ∷ (codes "lor", kinds.Lor) ∷ (codes "lsl", kinds.Lsl) ∷ (codes "lsr", kinds.Lsr)
    ∷ (codes "mod", kinds.Mod) ∷ (codes "new", kinds.New) ∷ (codes "rec", kinds.Rec)
    ∷ (codes "sig", kinds.Sig) ∷ (codes "try", kinds.Try) ∷ (codes "val", kinds.Val) ∷ []

-- the keywords of four bytes
abbrev pub words_of_four : List (List ℕ × TokenKind)
words_of_four =
    (codes "done", kinds.Done) ∷ (codes "else", kinds.Else) ∷ (codes "land", kinds.Land)
    ∷ (codes "lazy", kinds.Lazy) ∷ (codes "lxor", kinds.Lxor) ∷ (codes "open", kinds.Open)
    ∷ (codes "then", kinds.Then) ∷ (codes "true", kinds.True) ∷ (codes "type", kinds.Type)
    ∷ (codes "when", kinds.When) ∷ (codes "with", kinds.With) ∷ []

-- the keywords of five bytes
abbrev pub words_of_five : List (List ℕ × TokenKind)
words_of_five =
    (codes "begin", kinds.Begin) ∷ (codes "class", kinds.Class) ∷ (codes "false", kinds.False)
    ∷ (codes "match", kinds.Match) ∷ (codes "while", kinds.While) ∷ []

-- the keywords of six bytes
abbrev pub words_of_six : List (List ℕ × TokenKind)
words_of_six =
    (codes "assert", kinds.Assert) ∷ (codes "downto", kinds.Downto) ∷ (codes "effect", kinds.Effect)
    ∷ (codes "method", kinds.Method) ∷ (codes "module", kinds.Module)
    ∷ (codes "nonrec", kinds.Nonrec) ∷ (codes "object", kinds.Object)
    ∷ (codes "struct", kinds.Struct) ∷ []

-- the keywords of seven bytes
abbrev pub words_of_seven : List (List ℕ × TokenKind)
words_of_seven =
    (codes "functor", kinds.Functor) ∷ (codes "include", kinds.Include)
    ∷ (codes "inherit", kinds.Inherit) ∷ (codes "mutable", kinds.Mutable)
    ∷ (codes "private", kinds.Private) ∷ (codes "virtual", kinds.Virtual) ∷ []

-- the keywords of eight bytes and more
abbrev pub words_of_more : List (List ℕ × TokenKind)
words_of_more =
    (codes "constraint", kinds.Constraint) ∷ (codes "exception", kinds.Exception)
    ∷ (codes "external", kinds.External) ∷ (codes "function", kinds.Function)
    ∷ (codes "initializer", kinds.Initializer) ∷ []

-- the keywords
abbrev pub keywords : List (List ℕ × TokenKind)
keywords = words_of_two ++ words_of_three ++ words_of_four ++ words_of_five ++ words_of_six ++ words_of_seven ++ words_of_more

-- the symbols of one byte
abbrev pub single_symbols : List (List ℕ × TokenKind)
single_symbols =
    (codes "(", kinds.LeftParenthesis) ∷ (codes ")", kinds.RightParenthesis)
    ∷ (codes "[", kinds.LeftBracket) ∷ (codes "]", kinds.RightBracket)
    ∷ (codes "{", kinds.LeftBrace) ∷ (codes "}", kinds.RightBrace) ∷ (codes ",", kinds.Comma)
    ∷ (codes ";", kinds.Semicolon) ∷ (codes ":", kinds.Colon) ∷ (codes ".", kinds.Dot)
    ∷ (codes "=", kinds.Equals) ∷ (codes "<", kinds.Less) ∷ (codes ">", kinds.Greater)
    ∷ (codes "+", kinds.Plus) ∷ (codes "-", kinds.Minus) ∷ (codes "*", kinds.Star)
    ∷ (codes "/", kinds.Slash) ∷ (codes "^", kinds.Caret) ∷ (codes "@", kinds.At)
    ∷ (codes "!", kinds.Bang) ∷ (codes "|", kinds.Bar) ∷ []

-- the symbols of two bytes
abbrev pub double_symbols : List (List ℕ × TokenKind)
double_symbols =
    (codes "[|", kinds.LeftArrayBracket) ∷ (codes "|]", kinds.RightArrayBracket)
    ∷ (codes ";;", kinds.DoubleSemicolon) ∷ (codes "::", kinds.DoubleColon)
    ∷ (codes "->", kinds.RightArrow) ∷ (codes "<-", kinds.LeftArrow)
    ∷ (codes ":=", kinds.ColonEquals) ∷ (codes "<>", kinds.LessGreater)
    ∷ (codes "==", kinds.DoubleEquals) ∷ (codes "!=", kinds.BangEquals)
    ∷ (codes "<=", kinds.LessEquals) ∷ (codes ">=", kinds.GreaterEquals)
    ∷ (codes "@@", kinds.DoubleAt) ∷ (codes "|>", kinds.BarGreater)
    ∷ (codes "&&", kinds.DoubleAmpersand) ∷ (codes "||", kinds.DoubleBar)
    ∷ (codes "+=", kinds.PlusEquals) ∷ []
