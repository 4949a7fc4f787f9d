-- The numbers that texts say.
use Rattle.std.specs.Prelude.{◌==◌, ◌&&◌, ◌*◌, ◌+◌, ◌-◌, ◌^◌, ℕ, ℤ, pos, neg_ℤ, nat_lt, nat_le, int_lt, int_le, Bool}
use Rattle.std.specs.Prelude.{true, false, if◌then◌else◌, List, [], ◌∷◌, length, Option, Some, None, option_and_then}
use Rattle.std.specs.Str.{all_ascii_digits}

-- what decimal digits say after a number, the first one first
abbrev pub read_on : ℕ → List ℕ → ℕ
read_on n [] = n
read_on n (c ∷ cs) = read_on (n * 10 + (c - 48)) cs

-- digits of which the first is no zero, or one digit
abbrev pub are_plain_digits : List ℕ → Bool
are_plain_digits [] = false
are_plain_digits (c ∷ cs) = all_ascii_digits (c ∷ cs) && (if c == 48 then length cs == 0 else true)

-- the number of digits after a minus, which is not 0
abbrev pub minus_of : List ℕ → Option ℤ
minus_of cs =
    if are_plain_digits cs && nat_lt 0 (read_on 0 cs) && nat_le (read_on 0 cs) (2 ^ 63)
    then Some (neg_ℤ (pos (read_on 0 cs))) else None

-- the number of digits alone
abbrev pub plain_of : List ℕ → Option ℤ
plain_of cs = if are_plain_digits cs && nat_lt (read_on 0 cs) (2 ^ 63) then Some (pos (read_on 0 cs)) else None

-- the number of a number text: an optional `-` and decimal digits, no leading zero, no `-0`, 64 bits with sign
abbrev pub number_of : List ℕ → Option ℤ
number_of [] = None
number_of (c ∷ cs) = if c == 45 then minus_of cs else plain_of (c ∷ cs)

-- a number of 64 bits with sign
abbrev pub is_i64 : ℤ → Bool
is_i64 v = int_le (neg_ℤ (pos (2 ^ 63))) v && int_lt v (pos (2 ^ 63))

-- the same number where it has 32 bits with sign
abbrev pub small_of : ℤ → Option ℤ
small_of v = if int_le (neg_ℤ (pos (2 ^ 31))) v && int_lt v (pos (2 ^ 31)) then Some v else None

-- the number of a number text, where it has 32 bits
abbrev pub small_number_of : List ℕ → Option ℤ
small_number_of bs = option_and_then small_of (number_of bs)
