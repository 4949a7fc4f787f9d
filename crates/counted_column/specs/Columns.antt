-- The ordinals of documents, kept as sets of documents and as lists.
use Rattle.std.specs.Prelude.{◌≡◌, ◌<◌, ◌≤◌, ◌+◌, ◌-◌, ◌/◌, ℕ, true, false, List, [], ◌∷◌, length, map, take, drop}
use Rattle.std.specs.Prelude.{slice_index_or, if◌then◌else◌}
use Rattle.std.specs.List.{range_with_len}
use Rattle.seg_postings.specs.Rising.{IsRising, is_in}
use Rattle.seg_postings.specs.Sets.{either}
use Rattle.place_bits.specs.Misses.{HaveWords}
use Rattle.place_bits.specs.Words.{Marked}

-- What a column stores: how many documents there are, the dense ordinals with the set of documents of each, and the
-- sparse ordinals,
-- document after document, with where those of each document start.
pub record Parts : Type 0 where
  pub docs : ℕ
  pub dense : List ℕ
  pub maps : List Marked
  pub starts : List ℕ
  pub ords : List ℕ

-- the ordinals whose sets have the document
abbrev pub dense_at : List ℕ → List Marked → ℕ → List ℕ
dense_at [] maps n = []
dense_at (ord ∷ ords) [] n = []
dense_at (ord ∷ ords) (map ∷ maps) n = if is_in n map.places then ord ∷ dense_at ords maps n else dense_at ords maps n

-- the ordinals from where those of the document start to where those of the next one do
unfoldable pub sparse_at : List ℕ → List ℕ → ℕ → List ℕ
sparse_at starts ords n = take (slice_index_or starts (n
    + 1) 0 - slice_index_or starts n 0) (drop (slice_index_or starts n 0) ords)

-- all ordinals of a document
abbrev pub list_at : Parts → ℕ → List ℕ
list_at p n = either (dense_at p.dense p.maps n) (sparse_at p.starts p.ords n)

-- those of all documents
abbrev pub lists_of : Parts → List (List ℕ)
lists_of p = map (list_at p) (range_with_len 0 p.docs)

-- The dense ordinals rise, and each has a set with a bit for each document. A document's sparse ordinals rise too.
-- Without sparse ordinals there
-- may be no starts.
pub record IsColumn (p : Parts) : Type 0 where
  pub few : p.docs ≤ 1000000
  pub rising : IsRising p.dense
  pub sets : length p.maps ≡ length p.dense
  pub rooms : HaveWords ((p.docs + 63) / 64) p.maps
  pub starts : 0 < length p.starts → length p.starts ≡ p.docs + 1
  pub none : length p.starts ≡ 0 → p.ords ≡ []
  pub ordered : (n : ℕ) → n < p.docs → slice_index_or p.starts n 0 ≤ slice_index_or p.starts (n + 1) 0
  pub within : (n : ℕ) → n < p.docs → slice_index_or p.starts (n + 1) 0 ≤ length p.ords
  pub sparse : (n : ℕ) → n < p.docs → IsRising (sparse_at p.starts p.ords n)
  pub apart : (n ord : ℕ) → n < p.docs → is_in ord (sparse_at p.starts p.ords n) ≡ true → is_in ord p.dense ≡ false
