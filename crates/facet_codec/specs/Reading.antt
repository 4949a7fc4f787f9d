-- Reading from left to right, with the first fault. A fault's place is where the value begins.
use Rattle.std.specs.Prelude.{◌≡◌, ℕ, zero, suc, ◌+◌, ◌-◌, ◌*◌, List, [], ◌∷◌, length, take, Result, Ok, Err, nat_lt}
use Rattle.std.specs.Prelude.{◌==◌, if◌then◌else◌}
use Rattle.std.specs.Int.{Width, w32, w64, byte_len, from_be_bytes}
use Rattle.std.specs.Str.{is_utf8}
use Rattle.facet_codec.specs.declared.fault.CodecFault.{CodecFault}
use Rattle.facet_codec.specs.declared.fault.CodecFault.TheVariants.{Short, LongSpelling, NotUtf8, OutOfRange}
use Rattle.facet_codec.specs.Places.{Place, skip}

-- what comes next, unless there was a fault
infixl 10 ◌>>=◌
abbrev pub ◌>>=◌ : {A B F : Type 0} → Result A F → (A → Result B F) → Result B F
(Ok x) >>= f = f x
(Err e) >>= f = Err e

-- A cursor's call returned what reading at its place gives, and is after that; after a fault it has not moved.
abbrev pub Reads : {X Y : Type 0} → (X → Y) → Result X CodecFault → Place → Place → Result (Y × Place) CodecFault
    → Type 0
Reads view (Ok x) old new read = read ≡ Ok (view x, new)
Reads view (Err e) old new read = (read ≡ Err e) × (new ≡ old)

-- What a function over bytes returned is what reading gives.
abbrev pub Gives : {X Y : Type 0} → (X → Y) → Result X CodecFault → Result Y CodecFault → Type 0
Gives view (Ok x) read = read ≡ Ok (view x)
Gives view (Err e) read = read ≡ Err e

-- the first of these bytes, which begin at `at`
abbrev pub u8_from : ℕ → List ℕ → Result (ℕ × Place) CodecFault
u8_from at [] = Err (Short at)
u8_from at (b ∷ rest) = Ok (b, record { at = at + 1; rest = rest })

-- one byte
abbrev pub u8_at : Place → Result (ℕ × Place) CodecFault
u8_at p = u8_from p.at p.rest

-- a number of a fixed width, big-endian
abbrev pub number_at : Width → Place → Result (ℕ × Place) CodecFault
number_at w p =
    if nat_lt (length p.rest) (byte_len w) then Err (Short p.at)
    else Ok (from_be_bytes w (take (byte_len w) p.rest), skip (byte_len w) p)

-- four bytes
abbrev pub u32_at : Place → Result (ℕ × Place) CodecFault
u32_at p = number_at w32 p

-- eight bytes
abbrev pub u64_at : Place → Result (ℕ × Place) CodecFault
u64_at p = number_at w64 p

-- so many bytes
abbrev pub bytes_at : ℕ → Place → Result (List ℕ × Place) CodecFault
bytes_at n p = if nat_lt (length p.rest) n then Err (Short p.at) else Ok (take n p.rest, skip n p)

-- The groups of a number after its first one, with at most so many after the next; the number began at `start`.
-- The fifth byte of all is at most 15, the bytes do not end before the last group, and the last group is not 0.
unfoldable pub groups_at : ℕ → ℕ → ℕ → List ℕ → Result (ℕ × Place) CodecFault
groups_at start more at [] = Err (Short start)
groups_at start zero at (b ∷ rest) = if nat_lt 15 b then Err (OutOfRange start)
    else (if b == 0 then Err (LongSpelling start) else Ok (b, record { at = at + 1; rest = rest }))
groups_at start (suc more) at (b ∷ rest) =
    if nat_lt b 128 then (if b == 0 then Err (LongSpelling start) else Ok (b, record { at = at + 1; rest = rest }))
    else (groups_at start more (at + 1) rest >>= λ n. Ok (b - 128 + 128 * n.0, n.1))

-- the vInt at the beginning of these bytes, which begin at `at`
unfoldable pub vint_from : ℕ → List ℕ → Result (ℕ × Place) CodecFault
vint_from at [] = Err (Short at)
vint_from at (b ∷ rest) = if nat_lt b 128 then Ok (b, record { at = at + 1; rest = rest })
    else (groups_at at 3 (at + 1) rest >>= λ n. Ok (b - 128 + 128 * n.0, n.1))

-- one to five groups of seven bits
abbrev pub vint_at : Place → Result (ℕ × Place) CodecFault
vint_at p = vint_from p.at p.rest

-- A length, at most max, and a text of that length. The faults of the length come first; then that it is above max,
-- that the bytes end,
-- and that they are not UTF-8.
unfoldable pub text_at : ℕ → Place → Result (List ℕ × Place) CodecFault
text_at max p = do
  n ← vint_at p
  if nat_lt max n.0 then Err (OutOfRange p.at) else
      (if nat_lt (length n.1.rest) n.0 then Err (Short p.at) else
      (if is_utf8 (take n.0 n.1.rest) then Ok (take n.0 n.1.rest, skip n.0 n.1) else Err (NotUtf8 p.at)))
