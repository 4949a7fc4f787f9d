-- Which records of a segment are live, as bits.
use Rattle.std.specs.Prelude.{ℕ, ◌+◌, ◌-◌, ◌*◌, ◌/◌, ◌%◌, ◌^◌, ◌==◌, ◌&&◌, not, nat_lt, Bool, List, map, filter, length}
use Rattle.std.specs.Prelude.{slice_index, if◌then◌else◌}
use Rattle.std.specs.Int.{bit_at}
use Rattle.std.specs.List.{list_all, range_with_len, sum_by}
use Rattle.facet_model.specs.Stored.{is_dead}

-- how many bytes the bits of so many records take
abbrev pub bits_len : ℕ → ℕ
bits_len documents = (documents + 7) / 8

-- ---- the bits of the records

-- the bit of a record is set if it is live; no bit past the last record is set
abbrev pub live_bit : ℕ → List ℕ → ℕ → ℕ
live_bit documents dead k = if nat_lt k documents && not (is_dead dead k) then 1 else 0

-- Record i is bit i mod 8 of byte i div 8. Bit 0 is the lowest.
abbrev pub byte_at : ℕ → List ℕ → ℕ → ℕ
byte_at documents dead j = sum_by (λ i. live_bit documents dead (8 * j + i) * 2 ^ i) (range_with_len 0 8)

abbrev pub bits_of : ℕ → List ℕ → List ℕ
bits_of documents dead = map (byte_at documents dead) (range_with_len 0 (bits_len documents))

-- ---- the records of bits

-- the bit of a record is set
abbrev pub is_set : List ℕ → ℕ → Bool
is_set bits k = bit_at (slice_index bits (k / 8)) (k % 8) == 1

-- the records whose bit is not set
abbrev pub dead_in : ℕ → List ℕ → List ℕ
dead_in documents bits = filter (λ k. not (is_set bits k)) (range_with_len 0 documents)

-- no bit past the last record is set
abbrev pub none_past : ℕ → List ℕ → Bool
none_past documents bits = list_all (λ k. not (is_set bits k)) (range_with_len documents (8 * length bits - documents))

-- as many bits are set as records are live, and none past the last record
abbrev pub are_bits : ℕ → ℕ → List ℕ → Bool
are_bits documents live bits = length (dead_in documents bits) + live == documents && none_past documents bits
