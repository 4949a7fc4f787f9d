-- Reading a segment from left to right, with the first fault.
use Rattle.std.specs.Prelude.{◌≡◌, ℕ, zero, suc, ◌+◌, ◌^◌, ◌||◌, List, [], ◌∷◌, length, Option, Some, None, Result, Ok}
use Rattle.std.specs.Prelude.{Err, nat_lt, nat_le, ◌==◌, if◌then◌else◌}
use Rattle.facet_codec.specs.declared.fault.CodecFault.{CodecFault}
use Rattle.facet_codec.specs.Places.{Place}
use Rattle.facet_codec.specs.Faults.{fault_at, told_as}
use Rattle.facet_codec.specs.Reading.{◌>>=◌, u32_at, vint_at, text_at}
use Rattle.facet_codec.specs.Lists.{list_at}
use Rattle.facet_model.specs.Stored.{Stored, Records}
use Rattle.seg_grammar.specs.declared.fault.SegFault.{SegFault}
use Rattle.seg_grammar.specs.declared.fault.SegFault.TheVariants.{BadMagic, BadVersion, Codec, Disorder, NoMemory}
use Rattle.seg_grammar.specs.Spelling.{front_bytes, comes_after}

-- ---- what a call returns

-- Unless memory ran out, the fault is that of reading.
abbrev pub Fails : {Y : Type 0} → SegFault → Result Y SegFault → Type 0
Fails BadMagic read = read ≡ Err BadMagic
Fails (BadVersion v) read = read ≡ Err (BadVersion v)
Fails (Codec at) read = read ≡ Err (Codec at)
Fails (Disorder at) read = read ≡ Err (Disorder at)
Fails NoMemory read = Unit {0}

-- A call read a value, and its cursor is after it.
abbrev pub Reads : {X Y : Type 0} → (X → Y) → Result X SegFault → Place → Result (Y × Place) SegFault → Type 0
Reads view (Ok x) new read = read ≡ Ok (view x, new)
Reads view (Err e) new read = Fails e read

-- A call passed a value, which it does not return.
abbrev pub Passes : {X Y : Type 0} → Result X SegFault → Place → Result (Y × Place) SegFault → Type 0
Passes {X} {Y} (Ok x) new read = (y : Y) × (read ≡ Ok (y, new))
Passes (Err e) new read = Fails e read

-- A call passed a record, and returned where its counted ordinals begin.
abbrev pub PassesRecord : Result ℕ SegFault → Place → Place → Result (Stored × Place) SegFault → Type 0
PassesRecord (Ok at) old new read = (r : Stored) × (read ≡ Ok (r, new)) × (at ≡ old.at + length (front_bytes r))
PassesRecord (Err e) old new read = Fails e read

-- A call passed a term, and returned its text.
abbrev pub PassesTerm : {X : Type 0} → (X → List ℕ) → Result X SegFault → Place
    → Result ((List ℕ × List ℕ) × Place) SegFault → Type 0
PassesTerm view (Ok x) new read = (t : List ℕ × List ℕ) × (read ≡ Ok (t, new)) × (t.0 ≡ view x)
PassesTerm view (Err e) new read = Fails e read

-- A call passed the first bytes.
abbrev pub PassesHead : {X : Type 0} → Result X SegFault → Place → Result Place SegFault → Type 0
PassesHead (Ok x) new read = read ≡ Ok new
PassesHead (Err e) new read = Fails e read

-- ---- numbers and texts

-- a value of the codec; its fault is reported by its place
abbrev pub codec : {A : Type 0} → Result A CodecFault → Result A SegFault
codec read = told_as (λ e. Codec (fault_at e)) read

-- four bytes
abbrev pub number_at : Place → Result (ℕ × Place) SegFault
number_at p = codec (u32_at p)

-- a vInt of at most max
unfoldable pub count_at : ℕ → Place → Result (ℕ × Place) SegFault
count_at max p = do
  n ← codec (vint_at p)
  if nat_lt max n.0 then Err (Codec p.at) else Ok n

-- a number that is not 0
unfoldable pub some_at : Place → Result (ℕ × Place) SegFault
some_at p = do
  n ← number_at p
  if n.0 == 0 then Err (Disorder p.at) else Ok n

-- so many numbers, the first at least low, each above the one before, and all below high
unfoldable pub rising_at : ℕ → ℕ → ℕ → Place → Result (List ℕ × Place) SegFault
rising_at zero low high p = Ok ([], p)
rising_at (suc n) low high p = do
  first ← number_at p
  if nat_lt first.0 low || nat_le high first.0 then Err (Disorder p.at) else
      (rising_at n (first.0 + 1) high first.1 >>= λ others. Ok (first.0 ∷ others.0, others.1))

-- ---- records

-- a text that is not empty, of at most 256 bytes
unfoldable pub id_at : Place → Result (List ℕ × Place) SegFault
id_at p = do
  id ← codec (text_at 256 p)
  if length id.0 == 0 then Err (Disorder p.at) else Ok id

-- at most 256 numbers
unfoldable pub leaves_at : Place → Result (List ℕ × Place) SegFault
leaves_at p = do
  n ← count_at 256 p
  list_at number_at n.0 n.1

-- at most 8,192 rising numbers
unfoldable pub counted_at : Place → Result (List ℕ × Place) SegFault
counted_at p = do
  n ← count_at 8192 p
  rising_at n.0 0 (2 ^ 32) n.1

-- a record
unfoldable pub record_at : Place → Result (Stored × Place) SegFault
record_at p = do
  id ← id_at p
  text ← codec (text_at 65536 id.1)
  leaves ← leaves_at text.1
  counted ← counted_at leaves.1
  Ok (record { id = id.0; text = text.0; leaves = leaves.0; counted = counted.0 }, counted.1)

-- ---- terms

-- a text that is greater than the one before it
unfoldable pub key_at : Option (List ℕ) → Place → Result (List ℕ × Place) SegFault
key_at previous p = do
  key ← codec (text_at 65568 p)
  if comes_after previous key.0 then Ok key else Err (Disorder p.at)

-- at least one place, rising, below the number of documents
unfoldable pub places_at : ℕ → Place → Result (List ℕ × Place) SegFault
places_at docs p = do
  n ← some_at p
  rising_at n.0 0 docs n.1

-- a term and its places
unfoldable pub term_at : Option (List ℕ) → ℕ → Place → Result ((List ℕ × List ℕ) × Place) SegFault
term_at previous docs p = do
  key ← key_at previous p
  places ← places_at docs key.1
  Ok ((key.0, places.0), places.1)

-- so many terms, each greater than the one before it
unfoldable pub terms_at : ℕ → Option (List ℕ) → ℕ → Place → Result (List (List ℕ × List ℕ) × Place) SegFault
terms_at zero previous docs p = Ok ([], p)
terms_at (suc n) previous docs p = do
  first ← term_at previous docs p
  others ← terms_at n (Some first.0.0) docs first.1
  Ok (first.0 ∷ others.0, others.1)

-- ---- all of it

-- the first bytes are those of a segment
abbrev pub magic_of : Result (ℕ × Place) CodecFault → Result Place SegFault
magic_of (Ok x) = if x.0 == 0x46534547 then Ok x.1 else Err BadMagic
magic_of (Err e) = Err BadMagic

-- `FSEG` and the version
unfoldable pub head_at : Place → Result Place SegFault
head_at p = do
  magic ← magic_of (u32_at p)
  version ← number_at magic
  if version.0 == 1 then Ok version.1 else Err (BadVersion version.0)

-- the number of documents, 1 to 1,000,000
unfoldable pub docs_at : Place → Result (ℕ × Place) SegFault
docs_at p = do
  n ← number_at p
  if n.0 == 0 then Err (Disorder p.at) else (if nat_lt 1000000 n.0 then Err (Codec p.at) else Ok n)

-- the records and terms in the bytes, or the first fault
unfoldable pub segment_at : List ℕ → Result Records SegFault
segment_at bytes = do
  start ← head_at (record { at = 0; rest = bytes })
  docs ← docs_at start
  records ← list_at record_at docs.0 docs.1
  n ← number_at records.1
  terms ← terms_at n.0 None docs.0 n.1
  if length terms.1.rest == 0 then Ok (record {
    records =
        records.0;
    terms = terms.0;
    dead = [];
  }) else Err (Disorder terms.1.at)
