-- Reading commit files from left to right, with the first fault.
use Rattle.std.specs.Prelude.{◌≡◌, ◌==◌, ◌+◌, ◌-◌, ◌/◌, ◌%◌, ◌&&◌, ◌||◌, ℕ, zero, suc, not, nat_lt, nat_le, List, []}
use Rattle.std.specs.Prelude.{◌∷◌, length, take, drop, Result, Ok, Err, if◌then◌else◌}
use Rattle.std.specs.Ordering.{is_lt}
use Rattle.std.specs.Str.{bytes_eq}
use Rattle.sha2.specs.Sha256.{sha256}
use Rattle.facet_codec.specs.declared.fault.CodecFault.{CodecFault}
use Rattle.facet_codec.specs.Places.{Place}
use Rattle.facet_codec.specs.Faults.{fault_at, told_as}
use Rattle.facet_codec.specs.Reading.{◌>>=◌, u8_at, u32_at, u64_at, vint_at, bytes_at, text_at}
use Rattle.facet_model.specs.declared.flags.DimFlags.{DimFlags}
use Rattle.facet_model.specs.Flags.{Config}
use Rattle.facet_model.specs.Words.{word_cmp}
use Rattle.commit_file.specs.declared.fault.FileFault.{FileFault}
use Rattle.commit_file.specs.declared.fault.FileFault.TheVariants.{Damaged, Malformed, NoMemory}
use Rattle.commit_file.specs.declared.taxonomy.LabelPart.{LabelPart}
use Rattle.commit_file.specs.LiveParts.{LivePart, with_live}
use Rattle.commit_file.specs.Commits.{TaxonomyListing, IndexListing, end_of}
use Rattle.commit_file.specs.LiveBits.{bits_len, dead_in, are_bits}

-- ---- what a call returns

-- Unless memory ran out, the fault is the one that reading meets.
abbrev pub Fails : {Y : Type 0} → FileFault → Result Y FileFault → Type 0
Fails (Damaged kept found) read = read ≡ Err (Damaged kept found)
Fails (Malformed at) read = read ≡ Err (Malformed at)
Fails NoMemory read = Unit {0}

-- A call read a value, and its cursor is after it.
abbrev pub Reads : {X Y : Type 0} → (X → Y) → Result X FileFault → Place → Result (Y × Place) FileFault → Type 0
Reads view (Ok x) new read = read ≡ Ok (view x, new)
Reads view (Err e) new read = Fails e read

-- A call passed bytes that have to be here, and its cursor is after them.
abbrev pub Passes : {X : Type 0} → Result X FileFault → Place → Result Place FileFault → Type 0
Passes (Ok x) new read = read ≡ Ok new
Passes (Err e) new read = Fails e read

-- A call over bytes returned what reading them gives.
abbrev pub Gives : {X Y : Type 0} → (X → Y) → Result X FileFault → Result Y FileFault → Type 0
Gives view (Ok x) read = read ≡ Ok (view x)
Gives view (Err e) read = Fails e read

-- ---- parts of every commit

-- a value of the codec; its fault is reported by its place
abbrev pub told : {A : Type 0} → Result A CodecFault → Result A FileFault
told read = told_as (λ e. Malformed (fault_at e)) read

-- this number, in four bytes
unfoldable pub word_at : ℕ → Place → Result Place FileFault
word_at wanted p = do
  n ← told (u32_at p)
  if n.0 == wanted then Ok n.1 else Err (Malformed p.at)

-- the number of the file's name, which is not 0
unfoldable pub number_at : ℕ → Place → Result Place FileFault
number_at number p = do
  n ← told (u64_at p)
  if n.0 == 0 || not (n.0 == number) then Err (Malformed p.at) else Ok n.1

-- a version from 1 to the newest one
unfoldable pub version_at : ℕ → Place → Result (ℕ × Place) FileFault
version_at newest p = do
  n ← told (u32_at p)
  if n.0 == 0 || nat_lt newest n.0 then Err (Malformed p.at) else Ok n

-- the kind of the file, its version, and the number of the file's name; the value is the version
unfoldable pub head_at : ℕ → ℕ → ℕ → Place → Result (ℕ × Place) FileFault
head_at kind newest number p = do
  magic ← word_at kind p
  version ← version_at newest magic
  start ← number_at number version.1
  Ok (version.0, start)

-- a number that is not 0
unfoldable pub some_at : Place → Result (ℕ × Place) FileFault
some_at p = do
  n ← told (u32_at p)
  if n.0 == 0 then Err (Malformed p.at) else Ok n

-- the digest of a segment
abbrev pub digest_at : Place → Result (List ℕ × Place) FileFault
digest_at p = told (bytes_at 32 p)

-- So many values. Each is read given how many come after it, and a sum of those before it.
unfoldable pub each_at : {A S : Type 0} → (ℕ → S → Place → Result (A × Place) FileFault) → (S → A → S) → ℕ → S → Place
    → Result (List A × Place) FileFault
each_at read next zero state p = Ok ([], p)
each_at read next (suc n) state p = do
  first ← read n state p
  others ← each_at read next n (next state first.0) first.1
  Ok (first.0 ∷ others.0, others.1)

-- no byte is left over
abbrev pub ended : {A : Type 0} → A → Place → Result A FileFault
ended x p = if length p.rest == 0 then Ok x else Err (Malformed p.at)

-- the bytes before the digest, and the digest, which is 32 bytes long
abbrev pub body_of : List ℕ → List ℕ
body_of bytes = take (length bytes - 32) bytes

abbrev pub digest_in : List ℕ → List ℕ
digest_in bytes = drop (length bytes - 32) bytes

-- the bytes before the digest, if they have that digest
unfoldable pub unsealed : List ℕ → Result (List ℕ) FileFault
unsealed bytes = if nat_lt (length bytes) 32 then Err (Malformed (length bytes)) else
    (if bytes_eq (digest_in bytes) (sha256 (body_of bytes)) then Ok (body_of bytes)
    else Err (Damaged (digest_in bytes) (sha256 (body_of bytes))))

-- ---- a taxonomy commit

-- how many labels there are, at most 1,000,000
unfoldable pub labels_at : Place → Result (ℕ × Place) FileFault
labels_at p = do
  n ← told (u32_at p)
  if nat_lt 1000000 n.0 then Err (Malformed p.at) else Ok n

-- the ordinal at which a segment has to begin
unfoldable pub first_at : ℕ → Place → Result (ℕ × Place) FileFault
first_at start p = do
  n ← told (u32_at p)
  if n.0 == start then Ok n else Err (Malformed p.at)

-- how many labels a segment has that begins at `start`; the last one ends with the last label
unfoldable pub count_at : ℕ → ℕ → ℕ → Place → Result (ℕ × Place) FileFault
count_at labels behind start p = do
  n ← told (u32_at p)
  if behind == 0 && not (start + n.0 == labels) then Err (Malformed p.at) else Ok n

-- a segment of labels that begins at `start`, with so many segments after it
unfoldable pub label_part_at : ℕ → ℕ → ℕ → Place → Result (LabelPart × Place) FileFault
label_part_at labels behind start p = do
  number ← told (u64_at p)
  first ← first_at start number.1
  count ← count_at labels behind first.0 first.1
  digest ← digest_at count.1
  Ok (record { number = number.0; first = first.0; count = count.0; digest = digest.0 }, digest.1)

-- so many segments of labels; the first begins at ordinal 1, each next one where the one before it ends
abbrev pub label_parts_at : ℕ → ℕ → Place → Result (List LabelPart × Place) FileFault
label_parts_at labels n p = each_at (label_part_at labels) (λ _ part. end_of part) n 1 p

-- what precedes the digest of a taxonomy commit
unfoldable pub taxonomy_at : ℕ → List ℕ → Result TaxonomyListing FileFault
taxonomy_at number bytes = do
  start ← head_at 0x4654434d 1 number (record { at = 0; rest = bytes })
  labels ← labels_at start.1
  n ← some_at labels.1
  parts ← label_parts_at labels.0 n.0 n.1
  ended (record { labels = labels.0; parts = parts.0 }) parts.1

-- the taxonomy commit of this number that the bytes are, or the first fault
unfoldable pub taxonomy_commit : ℕ → List ℕ → Result TaxonomyListing FileFault
taxonomy_commit number bytes = do
  body ← unsealed bytes
  taxonomy_at number body

-- ---- an index commit

-- the flags in a number
abbrev pub flags_of : ℕ → DimFlags
flags_of n = record { hierarchical = n % 2 == 1; multi_valued = n / 2 % 2 == 1; require_dim_count = nat_le 4 n }

-- flags in one byte, at least one of them set
unfoldable pub flags_at : Place → Result (DimFlags × Place) FileFault
flags_at p = do
  n ← told (u8_at p)
  if n.0 == 0 || nat_lt 7 n.0 then Err (Malformed p.at) else Ok (flags_of n.0, n.1)

-- a dimension of at most 1,024 bytes, greater than the one before it; the first one is greater than the empty text
unfoldable pub dim_at : List ℕ → Place → Result (List ℕ × Place) FileFault
dim_at before p = do
  dim ← told (text_at 1024 p)
  if is_lt (word_cmp before dim.0) then Ok dim else Err (Malformed p.at)

-- a declaration
unfoldable pub declaration_at : List ℕ → Place → Result ((List ℕ × DimFlags) × Place) FileFault
declaration_at before p = do
  dim ← dim_at before p
  flags ← flags_at dim.1
  Ok ((dim.0, flags.0), flags.1)

-- so many declarations; each dimension is greater than the one before it
abbrev pub declarations_at : ℕ → Place → Result (Config × Place) FileFault
declarations_at n p = each_at (λ _. declaration_at) (λ _ d. d.0) n [] p

-- how many segments of documents there are; in version 1 at least one
unfoldable pub part_count_at : ℕ → Place → Result (ℕ × Place) FileFault
part_count_at version p = if version == 1 then some_at p else told (u32_at p)

-- how many documents a segment has; in version 1 they are at most 1,000,000 with the `before` ones of the segments
-- before it
unfoldable pub documents_at : ℕ → ℕ → Place → Result (ℕ × Place) FileFault
documents_at version before p = do
  n ← told (u32_at p)
  if version == 1 && nat_lt 1000000 (before + n.0) then Err (Malformed p.at) else Ok n

-- the bits of so many records, of which so many are live; the value is the records that are not
unfoldable pub bits_at : ℕ → ℕ → Place → Result (List ℕ × Place) FileFault
bits_at documents live p = do
  bits ← told (bytes_at (bits_len documents) p)
  if are_bits documents live bits.0 then Ok (dead_in documents bits.0, bits.1) else Err (Malformed p.at)

-- how many of so many records are live: at least one, and at most 1,000,000 with the `before` ones of the segments
-- before it
unfoldable pub live_at : ℕ → ℕ → Place → Result (ℕ × Place) FileFault
live_at documents before p = do
  n ← told (u32_at p)
  if n.0 == 0 || (nat_lt documents n.0 || nat_lt 1000000 (before + n.0)) then Err (Malformed p.at) else Ok n

-- how many of so many records are live, and the bits if these are not all; the value is the records that are not
unfoldable pub live_records_at : ℕ → ℕ → Place → Result (List ℕ × Place) FileFault
live_records_at documents before p = do
  live ← live_at documents before p
  if live.0 == documents then Ok ([], live.1) else bits_at documents live.0 live.1

-- the records that are not live, of so many after `before` live ones of other segments; in version 1 there are none
unfoldable pub dead_at : ℕ → ℕ → ℕ → Place → Result (List ℕ × Place) FileFault
dead_at version documents before p = if version == 1 then Ok ([], p) else live_records_at documents before p

-- a segment of documents after so many live documents
unfoldable pub part_at : ℕ → ℕ → Place → Result (LivePart × Place) FileFault
part_at version before p = do
  number ← told (u64_at p)
  documents ← documents_at version before number.1
  digest ← digest_at documents.1
  dead ← dead_at version documents.0 before digest.1
  Ok (
    record {
      part = record { number = number.0; documents = documents.0; digest = digest.0 };
      dead = dead.0;
    },
    dead.1,
  )

-- so many segments of documents
abbrev pub parts_at : ℕ → ℕ → Place → Result (List LivePart × Place) FileFault
parts_at version n p = each_at (λ _. part_at version) with_live n 0 p

-- what precedes the digest of an index commit
unfoldable pub index_at : ℕ → List ℕ → Result IndexListing FileFault
index_at number bytes = do
  start ← head_at 0x4649434d 2 number (record { at = 0; rest = bytes })
  needs ← told (u32_at start.1)
  declarations ← told (vint_at needs.1)
  kept ← declarations_at declarations.0 declarations.1
  n ← part_count_at start.0 kept.1
  parts ← parts_at start.0 n.0 n.1
  ended (record { needs = needs.0; kept = kept.0; parts = parts.0 }) parts.1

-- the index commit of this number that the bytes are, or the first fault
unfoldable pub index_commit : ℕ → List ℕ → Result IndexListing FileFault
index_commit number bytes = do
  body ← unsealed bytes
  index_at number body
