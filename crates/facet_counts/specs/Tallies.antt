-- What a counter and its counts hold of the lists that were added.
use Rattle.std.specs.Prelude.{◌≡◌, ◌<◌, ℕ, List, length, slice_index_or, count_by, nat_eq, All}
use Rattle.std.specs.List.{list_any}
use Rattle.facet_model.specs.Flags.{Config}
use Rattle.facet_counts.specs.Lists.{IsCounted, lists_at}

-- how often each ordinal was added, in how many lists
pub record Tally : Type 0 where
  pub labels : List (List (List ℕ))
  pub config : Config
  pub own : List ℕ
  pub added : ℕ

-- These lists were added: each may be counted, and each ordinal was added by as many of them as have it.
pub record HasAdded (tally : Tally) (lists : List (List ℕ)) : Type 0 where
  pub each : All (IsCounted tally.config tally.labels) lists
  pub number : tally.added ≡ length lists
  pub own : (ord : ℕ) → ord < length tally.labels → slice_index_or tally.own ord 0
      ≡ count_by (list_any (nat_eq ord)) lists

-- the count of each ordinal
pub record Totals : Type 0 where
  pub labels : List (List (List ℕ))
  pub config : Config
  pub totals : List ℕ

-- These are the counts of these lists, at each ordinal but the root's.
abbrev pub AreCounts : Totals → List (List ℕ) → Type 0
AreCounts counts lists = (ord : ℕ) → 0 < ord → ord < length counts.labels
    → slice_index_or counts.totals ord 0 ≡ lists_at counts.config counts.labels lists ord
