-- What resolving several paths adds to the labels.
use Rattle.std.specs.Prelude.{◌≡◌, ◌≤◌, ◌<◌, ◌+◌, ℕ, List, length, take, slice_get, Some, Contains, IsTrue}
use Rattle.std.specs.List.{AllZip}
use Rattle.chronicle.specs.Shown.{Shown}
use Rattle.facet_names.specs.Labels.{prefixes, stands, skips_none}
use Rattle.taxo_list.specs.declared.fault.TaxoFault.{TaxoFault}
use Rattle.taxo_cache.specs.Seen.{labels_of}
use Rattle.taxo_adding.specs.Adding.{HaveOrdinals, IsFull}

-- each entry under this number after the old ones satisfies this, given its place
abbrev pub EachNew : {A : Type 0} → ℕ → (ℕ → A → Type 0) → List (ℕ × A) → List (ℕ × A) → Type 0
EachNew {A} n P old new = (i : ℕ) (x : A) → length old ≤ i → slice_get new i ≡ Some (n, x) → P i x

-- A label that was entered, given its place after the root. It is one of the paths, and below the limit.
-- Each of the paths before it is an earlier label, so none was skipped.
abbrev pub IsInTurn : ℕ → List (List (List ℕ)) → List (List (List ℕ)) → ℕ → List (List ℕ) → Type 0
IsInTurn limit labels paths i path = IsTrue (stands paths path) × (i + 1 < limit)
    × IsTrue (skips_none (take (i + 1) labels) paths path)

-- The token entered some of the paths, each after those before it.
abbrev pub AddsInTurn : List (List (List ℕ)) → ℕ → Shown (List (List ℕ)) → Shown (List (List ℕ)) → Type 0
AddsInTurn paths limit old new = EachNew old.number (IsInTurn limit (labels_of new.seen) paths) old.seen new.seen

-- the list is full for one of the paths
abbrev pub IsFullForOne : TaxoFault → ℕ → List (List (List ℕ)) → List (List (List ℕ)) → Type 0
IsFullForOne fault limit labels paths = (path : List (List ℕ)) × Contains paths path × IsFull fault limit labels path

-- each path has the ordinals of all its prefixes
abbrev pub EachHaveOrdinals : List (List (List ℕ)) → List (List (List ℕ)) → List (List ℕ) → Type 0
EachHaveOrdinals labels paths resolved = AllZip (λ path ords. HaveOrdinals labels (prefixes path) ords) paths resolved

-- each path has the ordinals of its first prefixes: of none, some or all
abbrev pub EachHaveFirst : List (List (List ℕ)) → List (List (List ℕ)) → List (List ℕ) → Type 0
EachHaveFirst labels paths found = AllZip (λ path ords. HaveOrdinals labels
    (take (length ords) (prefixes path)) ords) paths found
