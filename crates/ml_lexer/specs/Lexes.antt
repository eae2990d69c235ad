-- The lexemes of a text, and the place of its first fault.
use Rattle.std.specs.Prelude.{◌≡◌, ◌≢◌, ℕ, ◌+◌, true, false, ◌==◌, List, [], ◌∷◌, ◌++◌, Option, Some, None, option_map, if◌then◌else◌}
use Rattle.fx_base.specs.declared.refusal.Place.{Place}
use Rattle.ml_lexer.specs.declared.form.Form.{Form}
use Rattle.ml_lexer.specs.declared.form.Form.TheVariants as forms
use Rattle.ml_lexer.specs.declared.token.TokenKind.{TokenKind}
use Rattle.ml_lexer.specs.declared.token.TokenKind.TheVariants as kinds
use Rattle.ml_lexer.specs.Bytes.{is_blank, is_upper}
use Rattle.ml_lexer.specs.Tables.{kind_in, keywords, single_symbols, double_symbols}
use Rattle.ml_lexer.specs.Forms.{IsLongest}
use Rattle.ml_lexer.specs.Values.{value_of_integer}
use Rattle.ml_lexer.specs.Comments.{opens_comment, IsComment}
use Rattle.ml_lexer.specs.Lexeme.{Lexeme}

-- a name that is no keyword, by its first byte
abbrev pub name_kind : List ℕ → TokenKind
name_kind [] = kinds.LowerName
name_kind (b ∷ []) = if b == 95 then kinds.Underscore else (if is_upper b then kinds.UpperName else kinds.LowerName)
name_kind (b ∷ bs) = if is_upper b then kinds.UpperName else kinds.LowerName

-- a keyword, `_`, or a name
abbrev pub word_kind : List ℕ → TokenKind
word_kind t = keyword_or (kind_in keywords t)
  where
    keyword_or : Option TokenKind → TokenKind
    keyword_or (Some k) = k
    keyword_or None = name_kind t

-- a type variable is named by a lower name
abbrev pub variable_kind : TokenKind → Option TokenKind
variable_kind kinds.LowerName = Some kinds.TypeVariable
variable_kind _ = None

abbrev pub symbol_kind : List ℕ → Option TokenKind
symbol_kind (a ∷ []) = kind_in single_symbols (a ∷ [])
symbol_kind (a ∷ b ∷ []) = kind_in double_symbols (a ∷ b ∷ [])
symbol_kind _ = None

-- the kind of a lexeme; an integer above the range has none, and no type variable that isn't named by a lower name
abbrev pub kind_of : Form → List ℕ → Option TokenKind
kind_of forms.Word t = Some (word_kind t)
kind_of forms.Number t = option_map (λ n. kinds.Integer) (value_of_integer t)
kind_of forms.Character t = Some kinds.Character
kind_of forms.Variable [] = None
kind_of forms.Variable (q ∷ name) = variable_kind (word_kind name)
kind_of forms.Text t = Some kinds.Text
kind_of forms.Symbol t = symbol_kind t

-- a piece of a text
pub data Piece : Type 0 where
  blank : ℕ → Piece
  comment : List ℕ → Piece
  lexeme : TokenKind → List ℕ → Piece

abbrev pub bytes_of : Piece → List ℕ
bytes_of (blank b) = b ∷ []
bytes_of (comment c) = c
bytes_of (lexeme k t) = t

-- the bytes of the pieces, one after another
abbrev pub joined : List Piece → List ℕ
joined [] = []
joined (p ∷ ps) = bytes_of p ++ joined ps

-- the longest lexeme at the front of the text that it and the rest make, where no comment begins
pub record IsLexeme (k : TokenKind) (t rest : List ℕ) : Type 0 where
  pub form : Form
  pub longest : IsLongest form t rest
  pub kind : kind_of form t ≡ Some k
  pub outside : opens_comment (t ++ rest) ≡ false

-- the piece stands at the front of the text that it and the rest make
abbrev pub IsPiece : Piece → List ℕ → Type 0
IsPiece (blank b) rest = is_blank b ≡ true
IsPiece (comment c) rest = IsComment c rest
IsPiece (lexeme k t) rest = IsLexeme k t rest

-- each piece stands before the others and the rest
abbrev pub AreCut : List Piece → List ℕ → Type 0
AreCut [] rest = Unit {0}
AreCut (p ∷ ps) rest = IsPiece p (joined ps ++ rest) × AreCut ps rest

-- the place behind bytes: a newline begins a line, and each other byte is a column
abbrev pub place_after : Place → List ℕ → Place
place_after p [] = p
place_after p (b ∷ bs) = place_after (if b == 10 then record { line = p.line + 1; column = 1 } else record { line = p.line; column = p.column + 1 }) bs

abbrev pub first_place : Place
first_place = record { line = 1; column = 1 }

-- the lexemes of pieces that begin at a place
abbrev pub lexemes_of : Place → List Piece → List Lexeme
lexemes_of p [] = []
lexemes_of p (lexeme k t ∷ ps) = record { kind = k; text = t; place = p } ∷ lexemes_of (place_after p t) ps
lexemes_of p (blank b ∷ ps) = lexemes_of (place_after p (b ∷ [])) ps
lexemes_of p (comment c ∷ ps) = lexemes_of (place_after p c) ps

-- the lexemes of a text: those of pieces that make it
pub record Lexes (bytes : List ℕ) (lexemes : List Lexeme) : Type 0 where
  pub pieces : List Piece
  pub spelled : joined pieces ≡ bytes
  pub cut : AreCut pieces []
  pub lexemes_are : lexemes ≡ lexemes_of first_place pieces

-- no piece begins a text
abbrev pub BeginsNoPiece : List ℕ → Type 0
BeginsNoPiece rest = (p : Piece) (after : List ℕ) → rest ≡ bytes_of p ++ after → IsPiece p after → ⊥

-- the first fault of a text: behind pieces, at a byte that no piece begins with
pub record FaultsAt (bytes : List ℕ) (place : Place) : Type 0 where
  pub pieces : List Piece
  pub rest : List ℕ
  pub spelled : joined pieces ++ rest ≡ bytes
  pub cut : AreCut pieces rest
  pub more : rest ≢ []
  pub stuck : BeginsNoPiece rest
  pub place_is : place ≡ place_after first_place (joined pieces)
