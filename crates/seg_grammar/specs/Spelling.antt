-- A segment, format 1: records and terms, their only spelling, and the limits of the format.
use Rattle.std.specs.Prelude.{◌≡◌, ℕ, ◌<◌, ◌≤◌, ◌^◌, Bool, true, List, [], ◌∷◌, ◌++◌, length, Option, Some, None}
use Rattle.std.specs.List.{flat_map, AllByRecursion}
use Rattle.std.specs.Ordering.{is_lt, nat_cmp}
use Rattle.std.specs.Cmp.Lexicographic.{slice_cmp}
use Rattle.facet_codec.specs.Spelling.{be32, vint, text}
use Rattle.facet_codec.specs.Laws.{IsBelow, IsText}
use Rattle.seg_postings.specs.Rising.{IsRising}
use Rattle.facet_model.specs.Stored.{Stored, Records}

-- ---- the spelling

-- how many numbers there are, and the numbers
abbrev pub list_bytes : List ℕ → List ℕ
list_bytes ns = vint (length ns) ++ flat_map be32 ns

-- what precedes a record's counted ordinals: its id, its text and its leaves
unfoldable pub front_bytes : Stored → List ℕ
front_bytes r = text r.id ++ (text r.text ++ list_bytes r.leaves)

-- a record
unfoldable pub record_bytes : Stored → List ℕ
record_bytes r = front_bytes r ++ list_bytes r.counted

-- how many places there are, and the places
abbrev pub places_bytes : List ℕ → List ℕ
places_bytes places = be32 (length places) ++ flat_map be32 places

-- a term and its places
unfoldable pub term_bytes : List ℕ × List ℕ → List ℕ
term_bytes t = text t.0 ++ places_bytes t.1

-- `FSEG`, the version, how many records there are, the records, how many terms there are, and the terms
unfoldable pub seg_bytes : Records → List ℕ
seg_bytes r = be32 0x46534547 ++ (be32 1 ++ (be32 (length r.records) ++ (flat_map record_bytes r.records
    ++ (be32 (length r.terms) ++ flat_map term_bytes r.terms))))

-- ---- the limits

-- an id of 1 to 256 bytes
pub record IsId (id : List ℕ) : Type 0 where
  pub some : 1 ≤ length id
  pub text : IsText 256 id

-- at most 256 leaves
pub record AreLeaves (leaves : List ℕ) : Type 0 where
  pub few : length leaves ≤ 256
  pub fit : AllByRecursion (IsBelow (2 ^ 32)) leaves

-- at most 8,192 counted ordinals, strictly rising
pub record AreCounted (counted : List ℕ) : Type 0 where
  pub few : length counted ≤ 8192
  pub fit : AllByRecursion (IsBelow (2 ^ 32)) counted
  pub rise : IsRising counted

-- what can be stored of a document
pub record IsRecord (r : Stored) : Type 0 where
  pub id : IsId r.id
  pub text : IsText 65536 r.text
  pub leaves : AreLeaves r.leaves
  pub counted : AreCounted r.counted

-- at least one place, strictly rising, below the number of documents
pub record ArePlacesBelow (docs : ℕ) (places : List ℕ) : Type 0 where
  pub some : 1 ≤ length places
  pub below : AllByRecursion (IsBelow docs) places
  pub rise : IsRising places

-- a term with its places
pub record IsTerm (docs : ℕ) (t : List ℕ × List ℕ) : Type 0 where
  pub text : IsText 65568 t.0
  pub places : ArePlacesBelow docs t.1

-- a text is greater than the one before it, if there is one, by its bytes
abbrev pub comes_after : Option (List ℕ) → List ℕ → Bool
comes_after None t = true
comes_after (Some u) t = is_lt (slice_cmp nat_cmp u t)

-- each term is greater than the one before it
abbrev pub TermsRise : Option (List ℕ) → List (List ℕ × List ℕ) → Type 0
TermsRise previous [] = Unit {0}
TermsRise previous (t ∷ ts) = (comes_after previous t.0 ≡ true) × TermsRise (Some t.0) ts

-- The bytes are the segment of these records and terms, which are within every limit of the format. All records are
-- live.
pub record IsSegment (bytes : List ℕ) (r : Records) : Type 0 where
  pub spelled : bytes ≡ seg_bytes r
  pub some : 1 ≤ length r.records
  pub few : length r.records ≤ 1000000
  pub records : AllByRecursion IsRecord r.records
  pub terms_count : length r.terms < 2 ^ 32
  pub terms : AllByRecursion (IsTerm (length r.records)) r.terms
  pub rise : TermsRise None r.terms
  pub live : r.dead ≡ []

-- the same records and terms, and all records are live
abbrev pub all_live : Records → Records
all_live r = record { records = r.records; terms = r.terms; dead = [] }
