-- What is at the front of bytes.
use Rattle.std.specs.Prelude.{◌≡◌, ℕ, ◌<◌, ◌^◌, true, List, ◌++◌, length}
use Rattle.std.specs.List.{AllByRecursion}
use Rattle.std.specs.Str.{is_utf8}
use Rattle.facet_codec.specs.Spelling.{text}
use Rattle.facet_codec.specs.Laws.{IsBelow}
use Rattle.seg_postings.specs.Rising.{IsRising}
use Rattle.facet_model.specs.Stored.{Stored}
use Rattle.seg_grammar.specs.Spelling.{list_bytes, record_bytes, places_bytes, term_bytes, IsRecord, IsTerm}

-- a text, with its length before it
pub record BeginsText (bytes t tail : List ℕ) : Type 0 where
  pub is : bytes ≡ text t ++ tail
  pub short : length t < 2 ^ 32
  pub utf8 : is_utf8 t ≡ true

-- numbers, with their count before them
pub record BeginsList (bytes ns tail : List ℕ) : Type 0 where
  pub is : bytes ≡ list_bytes ns ++ tail
  pub few : length ns < 2 ^ 32
  pub fit : AllByRecursion (IsBelow (2 ^ 32)) ns

-- rising places, with their count before them
pub record BeginsPlaces (bytes places tail : List ℕ) : Type 0 where
  pub is : bytes ≡ places_bytes places ++ tail
  pub few : length places < 2 ^ 32
  pub fit : AllByRecursion (IsBelow (2 ^ 32)) places
  pub rise : IsRising places

-- a record
pub record BeginsRecord (bytes : List ℕ) (r : Stored) : Type 0 where
  pub tail : List ℕ
  pub is : bytes ≡ record_bytes r ++ tail
  pub fits : IsRecord r

-- the counted ordinals of a record
pub record BeginsCounted (bytes : List ℕ) (r : Stored) : Type 0 where
  pub tail : List ℕ
  pub begins : BeginsList bytes r.counted tail

-- a term of a segment of so many documents, which are few
pub record BeginsTerm (docs : ℕ) (bytes : List ℕ) (t : List ℕ × List ℕ) : Type 0 where
  pub tail : List ℕ
  pub is : bytes ≡ term_bytes t ++ tail
  pub fits : IsTerm docs t
  pub few : docs < 2 ^ 32
