-- The only spelling of each number and text.
use Rattle.std.specs.Prelude.{ℕ, zero, suc, ◌+◌, ◌*◌, ◌/◌, ◌%◌, List, [], ◌∷◌, ◌++◌, length, nat_lt, if◌then◌else◌}
use Rattle.std.specs.Int.{w32, w64, to_be_bytes}

-- a number below 256
abbrev pub one_byte : ℕ → List ℕ
one_byte n = n ∷ []

-- a number below 2^32 as four bytes, big-endian
abbrev pub be32 : ℕ → List ℕ
be32 n = to_be_bytes w32 n

-- a number below 2^64 as eight bytes, big-endian
abbrev pub be64 : ℕ → List ℕ
be64 n = to_be_bytes w64 n

-- seven bits per byte, low group first, the high bit set on every byte except the last; at most k bytes
unfoldable pub groups : ℕ → ℕ → List ℕ
groups zero n = []
groups (suc k) n = if nat_lt n 128 then n ∷ [] else (n % 128 + 128) ∷ groups k (n / 128)

-- a number below 2^32 in groups of seven bits, as few as it needs
abbrev pub vint : ℕ → List ℕ
vint n = groups 5 n

-- the bound of the groups of a number below 2^32, if so many may follow the first of them and none follow those
abbrev pub bound : ℕ → ℕ
bound zero = 16
bound (suc more) = 128 * bound more

-- the length, then the bytes
abbrev pub text : List ℕ → List ℕ
text bytes = vint (length bytes) ++ bytes
