-- The labels that a token or a note of the labels chronicle has seen.
use Rattle.std.specs.Prelude.{◌≡◌, ℕ, List, [], ◌∷◌, Some}
use mathlib.Core.List.{IsPrefix}
use Rattle.facet_names.specs.Labels.{IsLabelList, place}
use Rattle.chronicle.specs.History.{entries}
use Rattle.chronicle.specs.Shown.{Shown}

-- the root, and then the entries
abbrev pub labels_of : List (ℕ × List (List ℕ)) → List (List (List ℕ))
labels_of seen = [] ∷ entries seen

-- these are a label list
abbrev pub SeesLabels : Shown (List (List ℕ)) → Type 0
SeesLabels token = IsLabelList (labels_of token.seen)

-- a path that has an ordinal keeps it in all that is seen later
abbrev pub OrdinalsStay : Type 0
OrdinalsStay = (old new : List (ℕ × List (List ℕ))) (path : List (List ℕ)) (ord : ℕ) → IsPrefix old new
    → place (labels_of old) path ≡ Some ord → place (labels_of new) path ≡ Some ord
