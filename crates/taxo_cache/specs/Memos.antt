-- The contents of a memo of paths, and its invariant.
use Rattle.std.specs.Prelude.{◌≡◌, ℕ, true, false, List, Contains, map, Some}
use Rattle.atomic_table.specs.Seated.{TableId}
use Rattle.chronicle.specs.Shown.{Shown}
use Rattle.facet_names.specs.Labels.{place, prefixes}
use Rattle.taxo_cache.specs.Seen.{labels_of, SeesLabels}

-- these are the ordinals of the path's prefixes, the dimension's first
abbrev pub HasOrdinals : List (List (List ℕ)) → List (List ℕ) → List ℕ → Type 0
HasOrdinals labels path ords = map (place labels) (prefixes path) ≡ map Some ords

-- the entries, the most recent one first, the capacity, and what its note has seen of the labels
pub record Noted : Type 0 where
  pub entries : List (List (List ℕ) × List ℕ)
  pub room : ℕ
  pub seen : List (ℕ × List (List ℕ))

-- each entry's path has the ordinals of its prefixes
abbrev pub HaveEach : List (List (List ℕ)) → List (List (List ℕ) × List ℕ) → Type 0
HaveEach labels entries = (e : List (List ℕ) × List ℕ) → Contains entries e → HasOrdinals labels e.0 e.1

-- The note is of this chronicle of labels. What it has seen is a label list, in which the prefixes of the entries'
-- paths have these ordinals.
pub record IsMemo (labels : TableId) (note : Shown (List (List ℕ))) (entries : List (List (List ℕ)
    × List ℕ)) : Type 0 where
  pub named : note.identity ≡ labels
  pub is_note : note.is_note ≡ true
  pub idle : note.holds_turn ≡ false
  pub list : SeesLabels note
  pub have : HaveEach (labels_of note.seen) entries
