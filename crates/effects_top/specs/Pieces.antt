-- The piece at the front of a text, and the token that it is.
use Rattle.std.specs.Prelude.{ℕ, suc, ◌&&◌, nat_le, List, [], ◌∷◌, Option, Some, None, option_map, if◌then◌else◌, codes}
use Rattle.std.specs.Str.{bytes_eq}
use Rattle.effects_top.specs.declared.token.Token.{Token}
use Rattle.effects_top.specs.declared.token.Token.TheVariants.{Let, PrintInt, Open, Close, Equals, Plus, Minus, Times, Literal}
use Rattle.effects_top.specs.Spelling.{is_digit, is_word, are_digits, value_from}

-- how many bytes at the front are of a word
abbrev pub word_length : List ℕ → ℕ
word_length [] = 0
word_length (b ∷ bs) = if is_word b then suc (word_length bs) else 0

-- the length of the whole word at the front, or of one other byte
abbrev pub piece_length : List ℕ → ℕ
piece_length [] = 0
piece_length (b ∷ bs) = if is_word b then suc (word_length bs) else 1

-- the value of decimal digits, where it is at most the greatest
abbrev pub decimal_of : ℕ → List ℕ → Option ℕ
decimal_of greatest digits = if are_digits digits && nat_le (value_from 0 digits) greatest then Some (value_from 0 digits) else None

-- the token of a piece that is no literal
abbrev pub word_of : List ℕ → Option Token
word_of piece =
    if bytes_eq piece (codes "print_int") then Some PrintInt else (
    if bytes_eq piece (codes "let") then Some Let else (
    if bytes_eq piece (codes "(") then Some Open else (
    if bytes_eq piece (codes ")") then Some Close else (
    if bytes_eq piece (codes "=") then Some Equals else (
    if bytes_eq piece (codes "+") then Some Plus else (
    if bytes_eq piece (codes "-") then Some Minus else (
    if bytes_eq piece (codes "*") then Some Times else None)))))))

-- the token that a piece is
abbrev pub token_read : List ℕ → Option Token
token_read [] = None
token_read (b ∷ bs) = if is_digit b then option_map Literal (decimal_of 4611686018427387903 (b ∷ bs)) else word_of (b ∷ bs)
