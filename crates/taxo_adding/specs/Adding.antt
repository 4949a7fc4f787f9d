-- What resolving a path returns, and what it adds to the labels.
use Rattle.std.specs.Prelude.{◌≡◌, ◌≢◌, ◌≤◌, ◌++◌, [], ℕ, false, not, List, length, map, filter, Some}
use Rattle.std.specs.List.{list_all}
use mathlib.Core.List.{IsPrefix}
use Rattle.chronicle.specs.History.{numbered}
use Rattle.chronicle.specs.Shown.{Shown, mine}
use Rattle.facet_names.specs.Labels.{place, prefixes, stands}
use Rattle.taxo_list.specs.declared.fault.TaxoFault.{TaxoFault}
use Rattle.taxo_list.specs.declared.fault.TaxoFault.TheVariants.{LabelsFull}
use Rattle.taxo_cache.specs.Seen.{labels_of}

-- each of the paths has its ordinal in the labels
abbrev pub HaveOrdinals : List (List (List ℕ)) → List (List (List ℕ)) → List ℕ → Type 0
HaveOrdinals labels paths ords = map (place labels) paths ≡ map Some ords

-- those of the paths that are not labels
abbrev pub lacking : List (List (List ℕ)) → List (List (List ℕ)) → List (List (List ℕ))
lacking labels paths = filter (λ p. not (stands labels p)) paths

-- the prefixes of a path that are not labels, the shortest first
abbrev pub missing : List (List (List ℕ)) → List (List ℕ) → List (List (List ℕ))
missing labels path = lacking labels (prefixes path)

-- The token entered, while it held the lock once, the first of the prefixes that were missing then: none of them, some
-- or all.
pub record Adds (path : List (List ℕ)) (limit : ℕ) (old new : Shown (List (List ℕ))) : Type 0 where
  -- the history before them
  pub before : List (ℕ × List (List ℕ))
  pub added : List (List (List ℕ))
  pub since : IsPrefix old.seen before
  pub seen : new.seen ≡ before ++ numbered new.number added
  pub own : mine new ≡ mine old ++ numbered new.number added
  pub first : IsPrefix added (missing (labels_of before) path)
  pub below : added ≢ [] → length (labels_of new.seen) ≤ limit

-- the fault has the size of the list, which is full, and the path is not in it
abbrev pub HasNoRoom : TaxoFault → ℕ → List (List (List ℕ)) → List (List ℕ) → Type 0
HasNoRoom fault limit labels path = (fault ≡ LabelsFull (length labels)) × (limit ≤ length labels)
    × (stands labels path ≡ false)

-- The fault has the size of the list, which is full, and a prefix of the path is not in it.
pub record IsFull (fault : TaxoFault) (limit : ℕ) (labels : List (List (List ℕ))) (path : List (List ℕ)) : Type 0 where
  pub size : fault ≡ LabelsFull (length labels)
  pub full : limit ≤ length labels
  pub lacks : list_all (stands labels) (prefixes path) ≡ false
