-- Segments of records, each of which decodes to its documents.
use Rattle.std.proofs.Common.{ℕ, List, [], ◌∷◌, ◌++◌, map, refl, subst, sym}
use Rattle.std.specs.List.{AllZip}
use Rattle.std.proofs.lemmas.List.{map_push}
use Rattle.std.proofs.lemmas.Slice.Zip.{all_zipped_more}
use Rattle.facet_model.specs.Documents.{Doc}
use Rattle.facet_model.specs.Flags.{Config}
use Rattle.facet_model.specs.Stored.{Decodes, IsSegmentOf, Records, live_docs}
use Rattle.seg_documents.specs.Decoding.{doc_in}

-- the documents of its records
abbrev pub piece : List (List (List ℕ)) → Records → List Doc
piece known s = map (doc_in known) s.records

abbrev pub AreStored : List (List (List ℕ)) → Config → List Records → Type 0
AreStored known config segments = AllZip (IsSegmentOf known config) segments (map (piece known) segments)

pub stored_more : (known : List (List (List ℕ))) (config : Config) (ss : List Records) (s : Records) → AreStored known config ss → IsSegmentOf known config s (piece known s)
    → AreStored known config (ss ++ s ∷ [])
stored_more known config ss s are is = subst (λ ps. AllZip (IsSegmentOf known config) (ss ++ s ∷ []) ps) (sym (map_push (piece known) ss s)) (all_zipped_more (IsSegmentOf known config) ss (map (piece known) ss) s (piece known s) are is)

pub decoded : (known : List (List (List ℕ))) (config : Config) (ss : List Records) → AreStored known config ss → (docs : List Doc) × Decodes known config ss docs
decoded known config ss are = (live_docs ss (map (piece known) ss), (map (piece known) ss, are, refl))
