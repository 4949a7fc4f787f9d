-- What an index keeps true of its fields.
use Rattle.std.specs.Prelude.{◌≡◌, ◌≤◌, ◌+◌, ℕ, true, false, List, length, take}
use Rattle.facet_model.specs.Flags.{Config}
use Rattle.facet_model.specs.Stored.{Records}
use Rattle.seg_terms.specs.declared.entry.Entry.{Entry}
use Rattle.seg_documents.specs.Entries.{AreEntries}
use Rattle.seg_documents.specs.Storing.{AreStored}
use Rattle.chronicle.specs.Shown.{Shown}
use Rattle.taxo_cache.specs.Seen.{labels_of, SeesLabels}
use Rattle.index_state.specs.Index.{DecodeUnder, docs_under}

-- The segments decode under the noted labels, each of them may be stored, and each document that waits has its ordinals
-- under these labels. There is a session for each document.
pub record IsKept (config : Config) (labels : Shown (List (List ℕ))) (segments : List Records) (waiting : List Entry)
    (sessions : List ℕ)
    (max_docs : ℕ) : Type 0 where
  pub note : (labels.is_note ≡ true) × (labels.holds_turn ≡ false)
  pub list : SeesLabels labels
  pub decoded : DecodeUnder labels config segments
  pub own : AreStored segments
  pub entries : AreEntries config (labels_of labels.seen) waiting
  pub each : length sessions ≡ length (docs_under labels segments) + length waiting
  pub few : length sessions ≤ 1000000
  pub most : max_docs ≤ 1000000

-- these are the first of all segments
abbrev pub IsFirst : List Records → List Records → Type 0
IsFirst some all = some ≡ take (length some) all
