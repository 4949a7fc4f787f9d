-- What holds while a column is made.
use Rattle.std.specs.Prelude.{◌≡◌, ◌==◌, ◌<◌, ◌≤◌, ◌+◌, ◌++◌, ◌/◌, ◌&&◌, ◌||◌, ℕ, Bool, false, nat_lt, List, [], length}
use Rattle.std.specs.Prelude.{filter, slice_index_or}
use Rattle.std.specs.List.{list_any}
use Rattle.seg_postings.specs.Rising.{IsRising, is_in}
use Rattle.place_bits.specs.Words.{Marked, empty_set}
use Rattle.counted_column.specs.Columns.{sparse_at}

-- A slot is an ordinal's place among the dense ones, from 1 on, or 0 if it is not dense. The dense ordinals rise.
pub record AreSlots (slots dense : List ℕ) : Type 0 where
  pub rising : IsRising dense
  pub none : (ord : ℕ) → slice_index_or slots ord 0 ≡ 0 → is_in ord dense ≡ false
  pub some : (ord k : ℕ) → slice_index_or slots ord 0 ≡ k + 1 → (k < length dense) × (slice_index_or dense k 0 ≡ ord)

-- one of the ordinals has the slot
abbrev pub has_slot : List ℕ → ℕ → List ℕ → Bool
has_slot slots j ords = list_any (λ ord. slice_index_or slots ord 0 == j + 1) ords

-- the ordinals that have no slot
abbrev pub without_slot : List ℕ → List ℕ → List ℕ
without_slot slots ords = filter (λ ord. slice_index_or slots ord 0 == 0) ords

-- A document with these ordinals was added to the sets of their slots, and its ordinals without a slot were added after
-- the others.
pub record AreAdded (slots : List ℕ) (doc : ℕ) (list : List ℕ) (old new : List Marked)
    (before after : List ℕ) : Type 0 where
  pub len : length new ≡ length old
  pub words : (j : ℕ) → j < length old → (slice_index_or new j (empty_set 0)).words
      ≡ (slice_index_or old j (empty_set 0)).words
  pub members : (j n : ℕ) → j < length old → is_in n (slice_index_or new j (empty_set 0)).places
      ≡ (is_in n (slice_index_or old j (empty_set 0)).places || (n == doc && has_slot slots j list))
  pub others : after ≡ before ++ without_slot slots list

-- The first documents were stored: each set has those whose ordinals have its slot, and the ordinals without a slot
-- follow document after document.
pub record AreNoted (lists : List (List ℕ)) (slots : List ℕ) (number docs : ℕ) (maps : List Marked)
    (starts ords : List ℕ) : Type 0 where
  pub sets : length maps ≡ number
  pub words : (j : ℕ) → j < number → (slice_index_or maps j (empty_set 0)).words ≡ (length lists + 63) / 64
  pub members : (j n : ℕ) → j < number → is_in n (slice_index_or maps j (empty_set 0)).places
      ≡ (nat_lt n docs && has_slot slots j (slice_index_or lists n []))
  pub long : length starts ≡ docs + 1
  pub last : slice_index_or starts docs 0 ≡ length ords
  pub ordered : (n : ℕ) → n < docs → slice_index_or starts n 0 ≤ slice_index_or starts (n + 1) 0
  pub within : (n : ℕ) → n < docs → slice_index_or starts (n + 1) 0 ≤ length ords
  pub sparse : (n : ℕ) → n < docs → sparse_at starts ords n ≡ without_slot slots (slice_index_or lists n [])
