-- Which segments can be merged, and what the merged segment represents.
use Rattle.std.specs.Prelude.{List, ℕ, [], ◌∷◌, ◌++◌}
use Rattle.std.specs.List.{AllZip}
use Rattle.facet_model.specs.Documents.{Doc}
use Rattle.facet_model.specs.Flags.{Config}
use Rattle.facet_model.specs.Stored.{Records, Decodes}
use Rattle.seg_terms.specs.declared.entry.Entry.{Entry}
use Rattle.seg_merge.specs.Merged.{HaveTerms, IsMergeOf, IsOfEntries}

-- segments that were built of entries have the terms of documents
abbrev pub BuiltHaveTerms : Type 0
BuiltHaveTerms = (segments : List Records) (entries : List (List Entry)) → AllZip IsOfEntries segments entries
    → (pieces : List (List Doc)) × HaveTerms segments pieces

-- and so have segments that decode
abbrev pub DecodedHaveTerms : Type 0
DecodedHaveTerms = (known : List (List (List ℕ))) (config : Config) (segments : List Records) (docs : List Doc)
    → Decodes known config segments docs
    → (pieces : List (List Doc)) × HaveTerms segments pieces

-- what segments decode to, their merge decodes to
abbrev pub HasTheDocuments : Type 0
HasTheDocuments = (known : List (List (List ℕ))) (config : Config) (segments : List Records) (docs : List Doc)
    (merged : Records)
    → Decodes known config segments docs → IsMergeOf segments merged → Decodes known config (merged ∷ []) docs

-- where neighbours among segments are replaced by their merge, all decode to the same documents
abbrev pub StandsInTheirPlace : Type 0
StandsInTheirPlace = (known : List (List (List ℕ))) (config : Config) (before range after : List Records)
    (docs : List Doc) (merged : Records)
    → Decodes known config (before ++ (range ++ after)) docs → IsMergeOf range merged
    → Decodes known config (before ++ merged ∷ after) docs
