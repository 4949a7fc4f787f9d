-- The contents of a stripe of the cache, and its invariant.
use Rattle.std.specs.Prelude.{◌≡◌, ◌<◌, ◌≤◌, ℕ, true, false, List, Contains, length, Option, Some, None}
use Rattle.atomic_table.specs.Seated.{TableId}
use Rattle.chronicle.specs.Shown.{Shown}
use Rattle.facet_names.specs.Labels.{place}
use Rattle.taxo_cache.specs.Seen.{labels_of, SeesLabels}
use Rattle.taxo_cache.specs.declared.looked.Looked.{Looked}
use Rattle.taxo_cache.specs.declared.looked.Looked.TheVariants.{Hit, Miss}

-- the entries, the most recent one first, the capacity, and what its note has seen of the labels
pub record Striped : Type 0 where
  pub entries : List (List (List ℕ) × ℕ)
  pub room : ℕ
  pub seen : List (ℕ × List (List ℕ))

-- each entry's path is in the labels at its ordinal
abbrev pub AreAt : List (List (List ℕ)) → List (List (List ℕ) × ℕ) → Type 0
AreAt labels entries = (e : List (List ℕ) × ℕ) → Contains entries e → place labels e.0 ≡ Some e.1

-- The note is of this chronicle of labels. What it has seen is a label list, which has the entries' paths, each at its
-- ordinal.
-- There are no more entries than the capacity.
pub record IsStripe (labels : TableId) (note : Shown (List (List ℕ))) (entries : List (List (List ℕ)
    × ℕ)) (room : ℕ) : Type 0 where
  pub named : note.identity ≡ labels
  pub is_note : note.is_note ≡ true
  pub idle : note.holds_turn ≡ false
  pub list : SeesLabels note
  pub at : AreAt (labels_of note.seen) entries
  pub some : 0 < room
  pub few : length entries ≤ room

-- the result of a look-up that found this
abbrev pub looked : Option ℕ → Looked
looked (Some ord) = Hit ord
looked None = Miss
