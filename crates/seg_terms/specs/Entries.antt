-- What is stored of documents.
use Rattle.std.specs.Prelude.{List, [], map}
use Rattle.facet_model.specs.Stored.{Stored, Records}
use Rattle.facet_model.specs.Terms.{terms_of}
use Rattle.seg_terms.specs.declared.entry.Entry.{Entry}

-- for one document: its id and its text, the leaves in the order given and the counted ordinals
abbrev pub stored_of : Entry → Stored
stored_of e = record { id = e.doc.id; text = e.doc.text; leaves = e.leaves.items; counted = e.counted }

-- the segment of documents, all of them live: what is stored of each, in order, and their terms
abbrev pub segment_of : List Entry → Records
segment_of entries = record { records = map stored_of entries; terms = terms_of (map (λ e. e.doc) entries); dead = [] }
