-- How a text is cut, byte by byte.
use Rattle.std.specs.Prelude.{ℕ, zero, suc, ◌-◌, Bool, ◌==◌, ◌&&◌, List, [], ◌∷◌, length, take, if◌then◌else◌, Option, Some, None, option_map, option_and_then}
use Rattle.std.specs.Option.{is_some}
use Rattle.ml_lexer.specs.declared.bytes.Class.{Class}
use Rattle.ml_lexer.specs.declared.bytes.Class.TheVariants.{Blank, Letter, Digit, Quote, Apostrophe, Mark}
use Rattle.ml_lexer.specs.declared.form.Form.{Form}
use Rattle.ml_lexer.specs.declared.form.Form.TheVariants.{Word, Number, Character, Variable, Text, Symbol}
use Rattle.ml_lexer.specs.declared.token.TokenKind.{TokenKind}
use Rattle.ml_lexer.specs.Bytes.{class, continues_name, begins_lower, is_digit, in_base, is_escaped_in_string, is_code, is_blank}
use Rattle.ml_lexer.specs.Tables.{kind_in, single_symbols, double_symbols}
use Rattle.ml_lexer.specs.Forms.{or_underscore, is_plain_literal, is_short_literal, is_coded_literal}
use Rattle.ml_lexer.specs.Comments.{opens_comment, closes_comment}
use Rattle.ml_lexer.specs.Lexes.{Piece, blank, comment, lexeme, kind_of, bytes_of}

-- how many bytes at the front pass
abbrev pub run : (ℕ → Bool) → List ℕ → ℕ
run p [] = 0
run p (b ∷ bs) = if p b then suc (run p bs) else 0

-- the length of the word that begins with the first byte
abbrev pub scan_word : List ℕ → ℕ
scan_word [] = 0
scan_word (b ∷ bs) = suc (run continues_name bs)

-- a number is based where its letter and a digit of its base stand behind a 0
abbrev pub scan_number : List ℕ → ℕ
scan_number [] = 0
scan_number (d ∷ []) = 1
scan_number (d ∷ a ∷ []) = suc (run (or_underscore is_digit) (a ∷ []))
scan_number (z ∷ x ∷ d ∷ bs) =
    if (z == 48) && in_base x d then suc (suc (suc (run (or_underscore (in_base x)) bs))) else suc (run (or_underscore is_digit) (x ∷ d ∷ bs))

-- the length of the character literal at the front
abbrev pub scan_character : List ℕ → Option ℕ
scan_character bs =
    if is_plain_literal (take 3 bs) then Some 3 else (
    if is_short_literal (take 4 bs) then Some 4 else (
    if is_coded_literal (take 6 bs) then Some 6 else None))

-- the length of the type variable at the front
abbrev pub scan_variable : List ℕ → Option ℕ
scan_variable (q ∷ b ∷ bs) = if (q == 39) && begins_lower b then Some (suc (suc (run continues_name bs))) else None
scan_variable _ = None

abbrev pub scan_symbol : List ℕ → Option ℕ
scan_symbol [] = None
scan_symbol (a ∷ []) = if is_some (kind_in single_symbols (a ∷ [])) then Some 1 else None
scan_symbol (a ∷ b ∷ bs) =
    if is_some (kind_in double_symbols (a ∷ b ∷ [])) then Some 2 else (
    if is_some (kind_in single_symbols (a ∷ [])) then Some 1 else None)

abbrev pub after_one : Option ℕ → Option ℕ
after_one None = None
after_one (Some n) = Some (suc n)

abbrev pub after_two : Option ℕ → Option ℕ
after_two None = None
after_two (Some n) = Some (suc (suc n))

abbrev pub after_four : Option ℕ → Option ℕ
after_four None = None
after_four (Some n) = Some (suc (suc (suc (suc n))))

-- the length of the parts of a string and its end
abbrev pub scan_parts : List ℕ → Option ℕ
scan_parts [] = None
scan_parts (e ∷ []) = if e == 34 then Some 1 else None
scan_parts (e ∷ a ∷ []) = if e == 34 then Some 1 else (if e == 92 then None else after_one (scan_parts (a ∷ [])))
scan_parts (e ∷ a ∷ b ∷ []) = if e == 34 then Some 1 else (
    if e == 92 then (if is_escaped_in_string a then after_two (scan_parts (b ∷ [])) else None) else after_one (scan_parts (a ∷ b ∷ [])))
scan_parts (e ∷ a ∷ b ∷ c ∷ bs) = if e == 34 then Some 1 else (
    if e == 92 then (
    if is_escaped_in_string a then after_two (scan_parts (b ∷ c ∷ bs)) else (
    if is_code a b c then after_four (scan_parts bs) else None))
    else after_one (scan_parts (a ∷ b ∷ c ∷ bs)))

abbrev pub scan_string : List ℕ → Option ℕ
scan_string [] = None
scan_string (b ∷ bs) = after_one (scan_parts bs)

-- a lexeme of this form, if there is a length
abbrev pub of_form : Form → Option ℕ → Option (Form × ℕ)
of_form f None = None
of_form f (Some n) = Some (f, n)

-- a character literal is tried first
abbrev pub scan_quoted : Option ℕ → List ℕ → Option (Form × ℕ)
scan_quoted (Some n) bs = Some (Character, n)
scan_quoted None bs = of_form Variable (scan_variable bs)

-- the length of the longest lexeme at the front, with its form
abbrev pub scan_class : Class → List ℕ → Option (Form × ℕ)
scan_class Blank bs = None
scan_class Letter bs = Some (Word, scan_word bs)
scan_class Digit bs = Some (Number, scan_number bs)
scan_class Quote bs = of_form Text (scan_string bs)
scan_class Apostrophe bs = scan_quoted (scan_character bs) bs
scan_class Mark bs = of_form Symbol (scan_symbol bs)

abbrev pub scan : List ℕ → Option (Form × ℕ)
scan [] = None
scan (b ∷ bs) = scan_class (class b) (b ∷ bs)

-- how many bytes a part of a comment has that begins no comment, ends none and begins no string
abbrev pub or_one : Option ℕ → ℕ
or_one None = 1
or_one (Some n) = n

-- the bytes up to the end of a comment that is so deep, behind so many that are passed
abbrev pub inside : ℕ → ℕ → List ℕ → Option ℕ
inside zero zero bs = Some 0
inside d k [] = None
inside d (suc k) (b ∷ bs) = after_one (inside d k bs)
inside (suc d) zero (b ∷ bs) =
    if opens_comment (b ∷ bs) then after_one (inside (suc (suc d)) 1 bs) else (
    if closes_comment (b ∷ bs) then after_one (inside d 1 bs) else (
    if b == 34 then option_and_then (λ m. after_one (inside (suc d) m bs)) (scan_parts bs) else
    after_one (inside (suc d) (or_one (scan_character (b ∷ bs)) - 1) bs)))

-- the lexeme at the front, if its form has a kind
abbrev pub of_kind : Option TokenKind → List ℕ → Option Piece
of_kind None t = None
of_kind (Some k) t = Some (lexeme k t)

-- the piece at the front
abbrev pub first_piece : List ℕ → Option Piece
first_piece [] = None
first_piece (b ∷ bs) =
    if is_blank b then Some (blank b) else (
    if opens_comment (b ∷ bs) then option_map (λ n. comment (take (suc n) (b ∷ bs))) (inside 1 1 bs) else
    option_and_then (λ (p : Form × ℕ). let t = take p.1 (b ∷ bs) in of_kind (kind_of p.0 t) t) (scan (b ∷ bs)))

-- a piece and those behind it, or none before these bytes
abbrev pub cut_at : List ℕ → (ℕ → List Piece × List ℕ) → Option Piece → List Piece × List ℕ
cut_at bs next None = ([], bs)
cut_at bs next (Some p) = let c = next (length (bytes_of p) - 1) in (p ∷ c.0, c.1)

-- the pieces behind so many bytes that are passed, up to where none begins, and the bytes from there on
abbrev pub cut_from : ℕ → List ℕ → List Piece × List ℕ
cut_from k [] = ([], [])
cut_from (suc k) (b ∷ bs) = cut_from k bs
cut_from zero (b ∷ bs) = cut_at (b ∷ bs) (λ k. cut_from k bs) (first_piece (b ∷ bs))
