-- What a counter and counts keep true of their fields.
use Rattle.std.specs.Prelude.{◌≡◌, ◌<◌, ◌≤◌, ℕ, Bool, false, List, length, slice_index_or}
use Rattle.facet_names.specs.Labels.{IsLabelList}
use Rattle.taxo_list.specs.DimLists.{dims_of}
use Rattle.facet_counts.specs.Lists.{is_rolled}
use Rattle.facet_counts.specs.Tallies.{Tally, HasAdded, Totals}

-- There is a number for each label, and a mark for each dimension whose counts are rolled up. Some lists were added, at
-- most a million.
pub record IsCounter (tally : Tally) (rolled : List Bool) : Type 0 where
  pub list : IsLabelList tally.labels
  pub few : length tally.labels ≤ 1000000
  pub sized : length tally.own ≡ length tally.labels
  pub as_many_marks : length rolled ≡ length (dims_of tally.labels)
  pub marks : (n : ℕ) → n < length (dims_of tally.labels)
      → slice_index_or rolled n false ≡ is_rolled tally.config tally.labels (slice_index_or (dims_of tally.labels) n 0)
  pub some : (lists : List (List ℕ)) × HasAdded tally lists
  pub at_most : tally.added ≤ 1000000

-- There is a count for each label, at most a million.
pub record IsTotals (counts : Totals) : Type 0 where
  pub list : IsLabelList counts.labels
  pub few : length counts.labels ≤ 1000000
  pub sized : length counts.totals ≡ length counts.labels
  pub small : (ord : ℕ) → 0 < ord → ord < length counts.labels → slice_index_or counts.totals ord 0 ≤ 1000000
