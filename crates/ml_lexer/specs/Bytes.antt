-- The classes of bytes, and what an escape may hold.
use Rattle.std.specs.Prelude.{ℕ, Bool, true, false, ◌&&◌, ◌||◌, nat_le, ◌==◌, ◌+◌, ◌*◌, ◌-◌, if◌then◌else◌}
use Rattle.ml_lexer.specs.declared.bytes.Class.{Class}
use Rattle.ml_lexer.specs.declared.bytes.Class.TheVariants.{Blank, Letter, Digit, Quote, Apostrophe, Mark}

abbrev pub is_between : ℕ → ℕ → ℕ → Bool
is_between low high b = nat_le low b && nat_le b high

-- a space, tab, carriage return, form feed or newline
abbrev pub is_blank : ℕ → Bool
is_blank b = (b == 32) || (b == 9) || (b == 13) || (b == 12) || (b == 10)

abbrev pub is_lower : ℕ → Bool
is_lower b = is_between 97 122 b

abbrev pub is_upper : ℕ → Bool
is_upper b = is_between 65 90 b

abbrev pub is_digit : ℕ → Bool
is_digit b = is_between 48 57 b

-- what a byte begins; a letter is one of a name, so `_` is one too
abbrev pub class : ℕ → Class
class b =
    if is_blank b then Blank else (
    if is_lower b || is_upper b || (b == 95) then Letter else (
    if is_digit b then Digit else (
    if b == 34 then Quote else (
    if b == 39 then Apostrophe else Mark))))

-- a letter, a digit, `_` or `'`
abbrev pub continues_name : ℕ → Bool
continues_name b = is_lower b || is_upper b || is_digit b || (b == 95) || (b == 39)

-- a lower-case letter or `_`
abbrev pub begins_lower : ℕ → Bool
begins_lower b = is_lower b || (b == 95)

abbrev pub is_octal : ℕ → Bool
is_octal b = is_between 48 55 b

abbrev pub is_binary : ℕ → Bool
is_binary b = is_between 48 49 b

abbrev pub is_hexadecimal : ℕ → Bool
is_hexadecimal b = is_digit b || is_between 97 102 b || is_between 65 70 b

-- a digit of the base that the letter behind a 0 stands for: x, o or b
abbrev pub in_base : ℕ → ℕ → Bool
in_base letter b = if letter == 120 then is_hexadecimal b else (if letter == 111 then is_octal b else ((letter == 98) && is_binary b))

-- a byte of a string but `"` and `\`
abbrev pub is_plain : ℕ → Bool
is_plain b = if b == 34 then false else (if b == 92 then false else true)

-- a byte of a character literal but `'`, `\` and newline
abbrev pub is_plain_character : ℕ → Bool
is_plain_character b = if b == 39 then false else (if b == 92 then false else (if b == 10 then false else true))

-- what may stand behind a `\` alone: \ " ' n t r b and a space
abbrev pub is_escaped : ℕ → Bool
is_escaped b = (b == 92) || (b == 34) || (b == 39) || (b == 110) || (b == 116) || (b == 114) || (b == 98) || (b == 32)

-- what may stand behind a `\` alone in a string: a newline too
abbrev pub is_escaped_in_string : ℕ → Bool
is_escaped_in_string b = is_escaped b || (b == 10)

-- three decimal digits, at most 255
abbrev pub is_decimal_code : ℕ → ℕ → ℕ → Bool
is_decimal_code a b c = is_digit a && is_digit b && is_digit c && nat_le ((a - 48) * 100 + (b - 48) * 10 + (c - 48)) 255

-- what may stand behind a `\` and has three bytes: a decimal code, or x and two hexadecimal digits
abbrev pub is_code : ℕ → ℕ → ℕ → Bool
is_code a b c = is_decimal_code a b c || ((a == 120) && (is_hexadecimal b && is_hexadecimal c))
