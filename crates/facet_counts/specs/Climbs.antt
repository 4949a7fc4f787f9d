-- The rolling up, step by step, over ordinals and what each one's count goes to.
use Rattle.std.specs.Prelude.{◌<◌, ◌&&◌, ◌||◌, ℕ, zero, suc, Bool, false, nat_eq, nat_le, if◌then◌else◌, List, length}
use Rattle.std.specs.Prelude.{Option, Some, None, option_and_then, count_by, slice_index_or, ◌≡◌}
use Rattle.std.specs.List.{list_any}
use Rattle.std.specs.Option.{option_map_or}
use Rattle.facet_names.specs.Arrays.{parent_at}
use Rattle.facet_model.specs.Flags.{Config}
use Rattle.facet_counts.specs.Lists.{is_rolled}
use Rattle.facet_counts.specs.Tallies.{Tally, HasAdded}

-- the parent, unless it is the root
abbrev pub below_root : ℕ → Option ℕ
below_root zero = None
below_root (suc n) = Some (suc n)

-- what a count goes to, where it is marked to be rolled up, from the parent
abbrev pub up_from : Bool → Option ℕ → Option ℕ
up_from mark parent = if mark then option_and_then below_root parent else None

-- what an ordinal's count goes to
abbrev pub next_of : Bool → List (List (List ℕ)) → ℕ → Option ℕ
next_of mark labels ord = up_from mark (parent_at labels ord)

abbrev pub goes_to : Config → List (List (List ℕ)) → ℕ → Option ℕ
goes_to config labels ord = next_of (is_rolled config labels ord) labels ord

-- the count of other reaches ord by steps from ordinals that are not below first
abbrev pub climbs : (ℕ → Option ℕ) → ℕ → ℕ → ℕ → ℕ → Bool
climbs up first zero ord other = nat_eq ord other
climbs up first (suc steps) ord other = nat_eq ord other || (nat_le first other
    && option_map_or (climbs up first steps ord) (up other) false)

-- how many lists have an ordinal that reaches ord so
abbrev pub climbed : (ℕ → Option ℕ) → ℕ → List (List ℕ) → ℕ → ℕ
climbed up first lists ord = count_by (list_any (λ other. climbs up first other ord other)) lists

-- The counts with those that are not below first rolled up, whatever lists were added.
pub record IsRolledTo (tally : Tally) (first : ℕ) (counts : List ℕ) : Type 0 where
  pub sized : length counts ≡ length tally.labels
  pub each : (lists : List (List ℕ)) → HasAdded tally lists → (ord : ℕ) → 0 < ord → ord < length tally.labels
      → slice_index_or counts ord 0 ≡ climbed (goes_to tally.config tally.labels) first lists ord
