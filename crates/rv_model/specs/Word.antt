-- Arithmetic on numbers of 64 bits. A number from 2 ^ 63 on is read as negative where signs matter.
use Rattle.std.specs.Prelude.{ℕ, ◌+◌, ◌-◌, ◌*◌, ◌/◌, ◌%◌, ◌^◌, ℤ, pos, negsuc, Bool, nat_lt, nat_le, ◌==◌, if◌then◌else◌}

-- the low 64 bits
abbrev pub wrap : ℕ → ℕ
wrap n = n % 2 ^ 64

-- an integer in two's complement
abbrev pub word_of : ℤ → ℕ
word_of (pos n) = wrap n
word_of (negsuc n) = wrap (2 ^ 64 - 1 - n)

-- 1 for true, 0 for false
abbrev pub bit : Bool → ℕ
bit b = if b then 1 else 0

abbrev pub is_negative : ℕ → Bool
is_negative a = nat_le (2 ^ 63) a

abbrev pub negated : ℕ → ℕ
negated a = wrap (2 ^ 64 - a)

-- the absolute value
abbrev pub magnitude : ℕ → ℕ
magnitude a = if is_negative a then negated a else a

-- the signed order: that of the numbers shifted by half the range
abbrev pub less : ℕ → ℕ → Bool
less a b = nat_lt (wrap (a + 2 ^ 63)) (wrap (b + 2 ^ 63))

-- the low 32 bits, their sign extended to 64
abbrev pub word_32 : ℕ → ℕ
word_32 a = if nat_lt (a % 2 ^ 32) (2 ^ 31) then a % 2 ^ 32 else a % 2 ^ 32 + (2 ^ 64 - 2 ^ 32)

-- the sign extended from 64 to 128 bits
abbrev pub widened : ℕ → ℕ
widened a = if is_negative a then a + (2 ^ 128 - 2 ^ 64) else a

-- the upper half of the 128 bits of a product
abbrev pub high : ℕ → ℕ → ℕ
high a b = a * b % 2 ^ 128 / 2 ^ 64

-- the signed quotient, rounded towards zero; all ones where the divisor is 0
abbrev pub quotient : ℕ → ℕ → ℕ
quotient a b =
    if b == 0 then 2 ^ 64 - 1
    else if is_negative a
    then (if is_negative b then negated a / negated b else negated (negated a / b))
    else (if is_negative b then negated (a / negated b) else a / b)

-- the signed remainder, with the dividend's sign; the dividend where the divisor is 0
abbrev pub remainder : ℕ → ℕ → ℕ
remainder a b =
    if b == 0 then a
    else if is_negative a then negated (negated a % magnitude b) else a % magnitude b

-- a shift to the right that copies the sign
abbrev pub shifted_signed : ℕ → ℕ → ℕ
shifted_signed a n = if is_negative a then a / 2 ^ n + (2 ^ 64 - 2 ^ (64 - n)) else a / 2 ^ n
