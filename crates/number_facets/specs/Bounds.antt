-- Numbers from and up to others, where there are such.
use Rattle.std.specs.Prelude.{◌&&◌, ℤ, int_le, Bool, false, Option, Some, None}

abbrev pub is_from : Option ℤ → ℤ → Bool
is_from None v = false
is_from (Some first) v = int_le first v

abbrev pub is_up_to : Option ℤ → ℤ → Bool
is_up_to None v = false
is_up_to (Some last) v = int_le v last

-- the number is one from the first to the last
abbrev pub is_within : ℤ × ℤ → ℤ → Bool
is_within b v = int_le b.0 v && int_le v b.1
