-- The documents that segments represent, under a list of labels.
use Rattle.std.specs.Prelude.{ℕ, List, [], ◌∷◌, ◌++◌, map, flat_map, slice_index_or}
use Rattle.facet_model.specs.Documents.{Doc}
use Rattle.facet_model.specs.Stored.{Stored, Records, alive}
use Rattle.seg_terms.specs.Entries.{segment_of}
use Rattle.seg_terms.specs.declared.entry.Entry.{Entry}

-- the document of a record: its labels are those at the leaves
abbrev pub doc_in : List (List (List ℕ)) → Stored → Doc
doc_in known r = record { id = r.id; text = r.text; labels = map (λ leaf. slice_index_or known leaf []) r.leaves }

-- all live records, in order
abbrev pub records_in : List Records → List Stored
records_in segments = flat_map (λ s. alive s.dead s.records) segments

-- the live record at a place, if it is there
abbrev pub record_at : List Records → ℕ → Stored
record_at segments at = slice_index_or (records_in segments) at (record {
  id = [];
  text = [];
  leaves = [];
  counted = [];
})

-- the documents of all live records, in order
abbrev pub docs_in : List (List (List ℕ)) → List Records → List Doc
docs_in known segments = map (doc_in known) (records_in segments)

-- the segments with one more, of these entries, if there are any
abbrev pub flushed : List Records → List Entry → List Records
flushed segments [] = segments
flushed segments (e ∷ es) = segments ++ segment_of (e ∷ es) ∷ []
