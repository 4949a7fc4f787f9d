-- Documents with their ordinals, before they are stored.
use Rattle.std.specs.Prelude.{ℕ, ◌<◌, ◌≤◌, List, length, map, IsTrue}
use Rattle.std.specs.List.{AllByRecursion}
use Rattle.facet_model.specs.Documents.{Doc}
use Rattle.facet_model.specs.Flags.{Config}
use Rattle.facet_model.specs.Histories.{knows}
use Rattle.facet_model.specs.Stored.{IsRecordOf}
use Rattle.seg_terms.specs.Entries.{stored_of}
use Rattle.seg_terms.specs.declared.entry.Entry.{Entry}

-- a path has a component, and at most 32
abbrev pub IsShort : List (List ℕ) → Type 0
IsShort path = (0 < length path) × (length path ≤ 32)

-- the documents
abbrev pub docs_of : List Entry → List Doc
docs_of entries = map (λ e. e.doc) entries

-- The entry's ordinals are those of its document under these labels, which have all its prefixes.
pub record IsEntry (config : Config) (labels : List (List (List ℕ))) (e : Entry) : Type 0 where
  pub known : IsTrue (knows labels e.doc)
  pub stored : IsRecordOf labels config (stored_of e) e.doc

-- each is one
abbrev pub AreEntries : Config → List (List (List ℕ)) → List Entry → Type 0
AreEntries config labels entries = AllByRecursion (IsEntry config labels) entries
