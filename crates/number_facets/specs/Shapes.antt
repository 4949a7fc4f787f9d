-- Texts with the form of a number, of any size.
use Rattle.std.specs.Prelude.{◌==◌, ◌&&◌, not, ℕ, Bool, false, if◌then◌else◌, List, [], ◌∷◌, slice_index_or}
use Rattle.number_facets.specs.Numbers.{are_plain_digits}

-- an optional `-` and plain digits, which are not 0 after it
abbrev pub is_number_shaped : List ℕ → Bool
is_number_shaped [] = false
is_number_shaped (c ∷ cs) =
    if c == 45 then are_plain_digits cs && not (slice_index_or cs 0 0 == 48) else are_plain_digits (c ∷ cs)
