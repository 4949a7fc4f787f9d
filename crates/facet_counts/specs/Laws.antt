-- What follows from the definitions alone.
use Rattle.std.specs.Prelude.{◌≡◌, ℕ, List, None}
use Rattle.std.specs.List.{AllZip}
use Rattle.facet_names.specs.Labels.{IsLabelList, place}
use Rattle.facet_model.specs.Documents.{Doc, count}
use Rattle.facet_model.specs.Flags.{Config}
use Rattle.facet_model.specs.Results.{Listed, IsTop, AreAllDims}
use Rattle.facet_counts.specs.Lists.{IsCounted, IsListOf}

-- the list of a document may be counted
abbrev pub MayBeCounted : Type 0
MayBeCounted = (config : Config) (labels : List (List (List ℕ))) (list : List ℕ) (doc : Doc) → IsLabelList labels
    → IsListOf config labels list doc
    → IsCounted config labels list

-- no document has a path that is no label
abbrev pub NoneElsewhere : Type 0
NoneElsewhere =
    (config : Config) (labels : List (List (List ℕ))) (lists : List (List ℕ)) (docs : List Doc) (path : List (List ℕ))
    → IsLabelList labels
    → AllZip (IsListOf config labels) lists docs → place labels path ≡ None → count docs path ≡ 0

-- a path that is no label has no result
abbrev pub NoResultElsewhere : Type 0
NoResultElsewhere =
    (config : Config) (labels : List (List (List ℕ))) (lists : List (List ℕ)) (docs : List Doc) (path : List (List ℕ))
    (n : ℕ)
    → IsLabelList labels → AllZip (IsListOf config labels) lists docs → place labels path ≡ None
    → IsTop config docs path n None

-- two lists of all dimensions' results are equal
abbrev pub OneAllDims : Type 0
OneAllDims = (config : Config) (docs_of : List ℕ → List Doc) (n : ℕ) (xs ys : List Listed)
    → AreAllDims config docs_of n xs → AreAllDims config docs_of n ys
    → xs ≡ ys
