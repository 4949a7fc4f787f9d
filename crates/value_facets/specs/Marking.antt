-- Which counters a label counts for.
use Rattle.std.specs.Prelude.{◌≡◌, ◌<◌, ◌≤◌, ◌==◌, ◌||◌, if◌then◌else◌, ℕ, ℤ, nat_eq, All, Bool, List, []}
use Rattle.std.specs.Prelude.{length, map, slice_index_or, Option, Some, None, MatchOption}
use Rattle.std.specs.List.{list_any}
use Rattle.std.specs.declared.alloc.Global.{Global}
use Rattle.std.specs.declared.vec.Vec.{Vec}
use Rattle.number_facets.specs.Values.{value_at}
use Rattle.value_facets.specs.Cuts.{AreRising, AreRows, HasCuts, IsRank}

-- the slot of each label, and in each slot the counters of the label
pub record Marked : Type 0 where
  pub slots : List ℕ
  pub rows : List (List ℕ)

abbrev pub counters_of : Marked → ℕ → List ℕ
counters_of marks ord = slice_index_or marks.rows (slice_index_or marks.slots ord 0) []

abbrev pub is_marked : Marked → ℕ → ℕ → Bool
is_marked marks k ord = list_any (nat_eq k) (counters_of marks ord)

-- a counter is in the row of a slot
abbrev pub is_in_row : List (List ℕ) → ℕ → ℕ → Bool
is_in_row rows k slot = list_any (nat_eq k) (slice_index_or rows slot [])

-- the slot of both, if one of them is the first slot or they are equal
abbrev pub joined_slot : ℕ → ℕ → Option ℕ
joined_slot one other = if one == 0 || one == other then Some other else (if other == 0 then Some one else None)

-- The row of the slot has the counters that one of these labels counts for.
pub record IsSlotOfAll (marks : Marked) (leaves : List ℕ) (slot : ℕ) : Type 0 where
  pub within : slot < length marks.rows
  pub same : (k : ℕ) → list_any (is_marked marks k) leaves ≡ is_in_row marks.rows k slot

abbrev pub marked_of : List ℕ → List (Vec ℕ Global) → Marked
marked_of slots rows = record { slots = slots; rows = map (λ (row : Vec ℕ Global). row.items) rows }

-- The slot of a label is the rank of its number, and the first one if it has none.
abbrev pub IsSlot : List (List (List ℕ)) → List ℕ → List ℤ → ℕ → ℕ → Type 0
IsSlot labels dim cuts ord slot = MatchOption (value_at dim (slice_index_or labels ord [])) (slot ≡ 0)
    (λ number. IsRank cuts number slot)

-- Each label has its slot.
pub record AreSlots (labels : List (List (List ℕ))) (dim : List ℕ) (cuts : List ℤ) (slots : List ℕ) : Type 0 where
  pub as_many : length slots ≡ length labels
  pub each : (ord : ℕ) → ord < length labels → IsSlot labels dim cuts ord (slice_index_or slots ord 0)
  pub within : All (λ slot. slot ≤ length cuts) slots

-- The counters of a label are the bounds that have its number.
pub record AreMarks (labels : List (List (List ℕ))) (dim : List ℕ) (bounds : List (ℤ × ℤ)) (marks : Marked)
    : Type 0 where
  pub cuts : List ℤ
  pub rows : List (Vec ℕ Global)
  pub rising : AreRising cuts
  pub has : All (HasCuts cuts) bounds
  pub are : AreRows bounds cuts rows
  pub slots : AreSlots labels dim cuts marks.slots
  pub same : marks ≡ marked_of marks.slots rows
