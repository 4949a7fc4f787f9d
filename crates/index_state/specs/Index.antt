-- The index as contracts see it, and the history that it represents.
use Rattle.std.specs.Prelude.{◌≡◌, ◌++◌, ◌+◌, ℕ, nat_lt, if◌then◌else◌, List, [], ◌∷◌, length, map, IsTrue}
use Rattle.std.specs.List.{list_all}
use mathlib.Core.List.{IsPrefix}
use Rattle.facet_model.specs.Documents.{Doc}
use Rattle.facet_model.specs.Flags.{Config}
use Rattle.facet_model.specs.Histories.{Operation, add, docs, brought, knows, is_add}
use Rattle.facet_model.specs.Stored.{Records, Decodes}
use Rattle.seg_terms.specs.declared.entry.Entry.{Entry}
use Rattle.seg_documents.specs.Decoding.{docs_in}
use Rattle.seg_documents.specs.Entries.{docs_of}
use Rattle.chronicle.specs.Shown.{Shown, SameToken, SeesOn}
use Rattle.taxo_cache.specs.Seen.{labels_of}

pub record Index : Type 0 where
  -- the documents in segments, and how many wait to become one
  pub segments : List Records
  pub waiting : ℕ
  -- the documents of the segments and then those that wait
  pub docs : List Doc
  -- the session of each operation
  pub sessions : List ℕ
  pub config : Config
  -- how many documents there may be
  pub max_docs : ℕ
  -- the note of the labels, under which the segments decode
  pub labels : Shown (List (List ℕ))

-- the documents of segments under the labels that were seen
abbrev pub docs_under : Shown (List (List ℕ)) → List Records → List Doc
docs_under labels segments = docs_in (labels_of labels.seen) segments

-- segments decode to these documents under the labels that were seen
abbrev pub DecodeUnder : Shown (List (List ℕ)) → Config → List Records → Type 0
DecodeUnder labels config segments = Decodes (labels_of labels.seen) config segments (docs_under labels segments)

-- the index of these segments and of these documents that wait
abbrev pub index_of : List Records → List Entry → List ℕ → Config → ℕ → Shown (List (List ℕ)) → Index
index_of segments waiting sessions config max_docs labels = record {
  segments = segments;
  waiting = length waiting;
  docs = docs_under labels segments ++ docs_of waiting;
  sessions = sessions;
  config = config;
  max_docs = max_docs;
  labels = labels;
}

-- Its documents and its sessions are those of the operations, and it has noted the labels of each change's document.
-- The operations are adds.
pub record StandsFor (index : Index) (history : List Operation) : Type 0 where
  pub documents : index.docs ≡ docs history
  pub numbers : index.sessions ≡ map (λ o. o.session) history
  pub known : IsTrue (list_all (knows (labels_of index.labels.seen)) (brought history))
  pub adds : IsTrue (list_all (λ o. is_add o.change) history)

-- it represents one operation more
abbrev pub StandsForMore : ℕ → Doc → Index → Index → Type 0
StandsForMore session doc old new = (history : List Operation) → StandsFor old history
    → StandsFor new (history ++ record { session = session; change = add doc } ∷ [])

-- one document more waits, of this session, and what is noted of the labels goes on
pub record IsAppended (session : ℕ) (doc : Doc) (old new : Index) : Type 0 where
  pub rest : new ≡ record old {
    waiting = old.waiting + 1;
    docs = old.docs ++ doc ∷ [];
    sessions = old.sessions ++ session ∷ [];
    labels = new.labels;
  }
  pub same : SameToken old.labels new.labels
  pub more : SeesOn old.labels new.labels

-- the documents that waited, if there were any, are one segment more
pub record IsFlushed (old new : Index) : Type 0 where
  pub rest : new ≡ record old { segments = new.segments; waiting = 0 }
  pub count : length new.segments ≡ length old.segments + (if nat_lt 0 old.waiting then 1 else 0)
  pub on : IsPrefix old.segments new.segments
