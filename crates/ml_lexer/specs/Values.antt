-- What literals stand for.
use Rattle.std.specs.Prelude.{ℕ, zero, suc, ◌+◌, ◌-◌, ◌*◌, nat_le, ◌==◌, ◌&&◌, ◌||◌, List, [], ◌∷◌, length, take, drop, Option, Some, None, if◌then◌else◌}
use Rattle.ml_lexer.specs.Bytes.{is_digit, in_base, is_code}
use Rattle.ml_lexer.specs.Forms.{is_character}

-- the value of a digit
abbrev pub digit_value : ℕ → ℕ
digit_value b = if is_digit b then b - 48 else (if nat_le 97 b then b - 87 else b - 55)

-- the value of digits, without the `_` between them
abbrev pub digits_value : ℕ → ℕ → List ℕ → ℕ
digits_value base value [] = value
digits_value base value (b ∷ bs) = digits_value base (if b == 95 then value else value * base + digit_value b) bs

-- the base that the letter behind a 0 stands for
abbrev pub base_of : ℕ → ℕ
base_of letter = if letter == 120 then 16 else (if letter == 111 then 8 else 2)

-- the value of an integer literal
abbrev pub number_value : List ℕ → ℕ
number_value (z ∷ x ∷ d ∷ bs) = if (z == 48) && in_base x d then digits_value (base_of x) 0 (d ∷ bs) else digits_value 10 0 (z ∷ x ∷ d ∷ bs)
number_value bs = digits_value 10 0 bs

-- no integer is above 2 ^ 62
abbrev pub in_range : ℕ → Option ℕ
in_range n = if nat_le n 4611686018427387904 then Some n else None

-- the value of an integer literal, if it is in range
abbrev pub value_of_integer : List ℕ → Option ℕ
value_of_integer t = in_range (number_value t)

-- the byte that a `\` and this byte stand for
abbrev pub escaped_byte : ℕ → ℕ
escaped_byte c = if c == 110 then 10 else (if c == 116 then 9 else (if c == 114 then 13 else (if c == 98 then 8 else c)))

-- the byte that a `\` and these three bytes stand for
abbrev pub coded_byte : ℕ → ℕ → ℕ → ℕ
coded_byte a b c = if a == 120 then digit_value b * 16 + digit_value c else (a - 48) * 100 + (b - 48) * 10 + (c - 48)

-- the byte that a character literal stands for
abbrev pub byte_of_character : List ℕ → Option ℕ
byte_of_character t = if is_character t then Some (byte_within t) else None
  where
    byte_within : List ℕ → ℕ
    byte_within (q ∷ b ∷ r ∷ []) = b
    byte_within (q ∷ e ∷ c ∷ r ∷ []) = escaped_byte c
    byte_within (q ∷ e ∷ a ∷ b ∷ c ∷ r ∷ []) = coded_byte a b c
    byte_within _ = 0

-- how many spaces and tabs stand at the front
abbrev pub indent : List ℕ → ℕ
indent [] = 0
indent (b ∷ bs) = if (b == 32) || (b == 9) then suc (indent bs) else 0

-- the part of a string at the front: the byte that it stands for, if any, and how many bytes it takes
abbrev pub part : List ℕ → Option ℕ × ℕ
part (e ∷ a ∷ b ∷ c ∷ bs) =
    if e == 92 then (
    if a == 10 then (None, suc (suc (indent (b ∷ c ∷ bs)))) else (
    if is_code a b c then (Some (coded_byte a b c), 4) else (Some (escaped_byte a), 2)))
    else (Some e, 1)
part (e ∷ a ∷ bs) = if e == 92 then (if a == 10 then (None, suc (suc (indent bs))) else (Some (escaped_byte a), 2)) else (Some e, 1)
part (e ∷ []) = (Some e, 1)
part [] = (None, 1)

abbrev pub before : Option ℕ → List ℕ → List ℕ
before None bs = bs
before (Some b) bs = b ∷ bs

-- the bytes that parts stand for, behind so many bytes that are passed
abbrev pub parts_bytes : ℕ → List ℕ → List ℕ
parts_bytes k [] = []
parts_bytes (suc k) (b ∷ bs) = parts_bytes k bs
parts_bytes zero (b ∷ bs) = let p = part (b ∷ bs) in before p.0 (parts_bytes (p.1 - 1) bs)

-- the bytes that a string literal stands for: those of its parts, between the quotation marks
abbrev pub bytes_of_string : List ℕ → List ℕ
bytes_of_string t = parts_bytes zero (take (length t - 2) (drop 1 t))
