-- What counting documents keeps.
use Rattle.std.specs.Prelude.{◌≡◌, ◌+◌, ◌&&◌, ◌==◌, ◌<◌, ◌≤◌, not, if◌then◌else◌, ℕ, zero, suc, Bool, List, length}
use Rattle.std.specs.Prelude.{slice_index_or, count_by}
use Rattle.std.specs.List.{list_any}
use Rattle.value_facets.specs.Marking.{Marked, is_in_row, is_marked}

-- The number was added to each counter that the test names and that had not counted this hit, and the hit was noted.
pub record IsNoted (test : ℕ → Bool) (hit number : ℕ) (counts last counts' last' : List ℕ) : Type 0 where
  pub as_many : length counts' ≡ length counts
  pub as_long : length last' ≡ length last
  pub counted : (k : ℕ) → k < length counts → slice_index_or counts' k 0
      ≡ slice_index_or counts k 0 + (if test k && not (slice_index_or last k 0 == hit) then number else 0)
  pub noted : (k : ℕ) → k < length counts → slice_index_or last' k 0
      ≡ (if test k then hit else slice_index_or last k 0)

-- how often each counter has counted, how often each row of counters has, and how many documents there were
pub record Tallied : Type 0 where
  pub counts : List ℕ
  pub rows : List ℕ
  pub hits : ℕ

-- A counter has counted no more than all documents, and noted none that is to come. So it is with a row.
pub record IsTally (counts last rows : List ℕ) (hits : ℕ) : Type 0 where
  pub as_long : length last ≡ length counts
  pub few : (k : ℕ) → k < length counts → slice_index_or counts k 0 ≤ hits
  pub past : (k : ℕ) → k < length counts → slice_index_or last k 0 ≤ hits
  pub rows_few : (slot : ℕ) → slice_index_or rows slot 0 ≤ hits
  pub most : hits ≤ 1000000

-- how often the first n rows have counted for a counter
unfoldable pub rows_to : List (List ℕ) → List ℕ → ℕ → ℕ → ℕ
rows_to rows numbers k zero = 0
rows_to rows numbers k (suc n) = rows_to rows numbers k n
    + (if is_in_row rows k n then slice_index_or numbers n 0 else 0)

-- how often a counter has counted, by itself and by its rows
abbrev pub total_of : Marked → Tallied → ℕ → ℕ
total_of marks tally k = slice_index_or tally.counts k 0 + rows_to marks.rows tally.rows k (length marks.rows)

-- These documents were counted, each by the counters that one of its labels counts for.
abbrev pub HasCounted : Marked → List (List ℕ) → Tallied → Type 0
HasCounted marks lists tally = (k : ℕ) → k < length tally.counts
    → total_of marks tally k ≡ count_by (list_any (is_marked marks k)) lists
