-- What adding a document does to the tokens of a session.
use Rattle.std.specs.Prelude.{◌-◌, ℕ, List, IsTrue, length, slice_index_or, Result, Ok, Err}
use Rattle.chronicle.specs.Shown.{SeesOn}
use Rattle.facet_model.specs.CountedPaths.{AreResolved}
use Rattle.facet_model.specs.Documents.{Doc}
use Rattle.facet_model.specs.Flags.{Config}
use Rattle.facet_model.specs.Histories.{Change, knows}
use Rattle.facet_names.specs.Labels.{IsLabelList}
use Rattle.pair_manager.specs.declared.pass.Pass.{Pass}
use Rattle.pair_manager.specs.Appended.{HasNoRoom, IsPlaced}
use Rattle.seg_documents.specs.Entries.{IsEntry}
use Rattle.seg_terms.specs.declared.entry.Entry.{Entry}
use Rattle.taxo_cache.specs.Seen.{labels_of}
use Rattle.taxo_list.specs.declared.fault.TaxoFault.TheVariants.{LabelsFull as ListFull}
use Rattle.taxo_adding.specs.Several.{IsFullForOne}
use Rattle.facet_adding.specs.declared.adding.AddFault.{AddFault}
use Rattle.facet_adding.specs.declared.adding.AddFault.TheVariants as adds

-- the last of the ordinals of a path's prefixes, which is the path's own
abbrev pub leaf_of : List ℕ → ℕ
leaf_of ords = slice_index_or ords (length ords - 1) 0

-- Under any labels in which the prefixes of its document's labels have these ordinals, the entry is one of its
-- document.
abbrev pub IsEntryWhere : Config → List (List ℕ) → Entry → Type 0
IsEntryWhere config resolved e = (labels : List (List (List ℕ))) → IsLabelList labels
    → AreResolved labels e.doc.labels resolved → IsEntry config labels e

-- every prefix of every label of the document is among the labels that were seen
abbrev pub SeesLabelsOf : Pass → Doc → Type 0
SeesLabelsOf pass doc = IsTrue (knows (labels_of pass.labels.seen) doc)

-- What a session's change did that adds this document, which the config accepts, by its result.
abbrev pub HasTried : ℕ → ℕ → Change → Doc → Pass → Pass → Result ℕ AddFault → Type 0
HasTried limit session change doc old new (Ok at) = SeesLabelsOf new doc
    × IsPlaced at (record { session = session; change = change }) old.operations new.operations
HasTried limit session change doc old new (Err (adds.Broken fault)) = ⊥
HasTried limit session change doc old new (Err (adds.LabelsFull size)) = SeesOn old.operations new.operations
    × IsFullForOne (ListFull size) limit (labels_of new.labels.seen) doc.labels
HasTried limit session change doc old new (Err (adds.DocsFull count)) = SeesOn old.operations new.operations
    × SeesLabelsOf new doc × HasNoRoom change count new.operations
HasTried limit session change doc old new (Err adds.NoMemory) = SeesOn old.operations new.operations
