-- What pairs keep true of their fields.
use Rattle.std.specs.Prelude.{◌≡◌, ◌≤◌, ℕ, true, false, List, length, IsTrue}
use Rattle.std.specs.List.{list_all}
use Rattle.facet_model.specs.Flags.{Config}
use Rattle.facet_model.specs.Histories.{Operation, docs, brought, knows}
use Rattle.facet_model.specs.Stored.{Records, Decodes}
use Rattle.seg_documents.specs.Decoding.{records_in}
use Rattle.chronicle.specs.History.{entries}
use Rattle.chronicle.specs.Shown.{Shown}
use Rattle.taxo_cache.specs.Seen.{labels_of, SeesLabels}
use Rattle.pair_manager.specs.Published.{Published}

abbrev pub IsNote : {E : Type 0} → Shown E → Type 0
IsNote t = (t.is_note ≡ true) × (t.holds_turn ≡ false)

-- segments decode, under the labels that were seen, to the documents of the operations that were seen
abbrev pub DecodesTo : Shown (List (List ℕ)) → Config → List Records → Shown Operation → Type 0
DecodesTo labels config segments history = Decodes (labels_of labels.seen) config segments (docs (entries history.seen))

-- the labels that were seen cover the document of each change that was seen
abbrev pub CoversAll : Shown (List (List ℕ)) → Shown Operation → Type 0
CoversAll labels history = IsTrue (list_all (knows (labels_of labels.seen)) (brought (entries history.seen)))

-- The segments decode under the labels to the documents of the history, and the labels cover the document of each
-- change.
pub record IsPair (p : Published) : Type 0 where
  pub notes : IsNote p.history × IsNote p.labels
  pub list : SeesLabels p.labels
  pub decoded : DecodesTo p.labels p.config p.segments p.history
  pub known : CoversAll p.labels p.history
  pub few : length (records_in p.segments) ≤ 1000000

-- Likewise, where the view and the numbers of operations and of documents are these.
pub record IsKept (p : Published) (view : List (List (List ℕ))) (operations documents : ℕ) : Type 0 where
  pub pair : IsPair p
  pub viewed : view ≡ labels_of p.labels.seen
  pub counted : operations ≡ length p.history.seen
  pub held : documents ≡ length (docs (entries p.history.seen))

-- it is a note that says what the other token has seen
abbrev pub SaysAs : {E : Type 0} → Shown E → Shown E → Type 0
SaysAs note other = IsNote note × (note.seen ≡ other.seen) × (note.identity ≡ other.identity)

-- The notes of the last pair are kept a second time, next to it.
pub record IsBeside (p : Published) (history : Shown Operation) (labels : Shown (List (List ℕ))) : Type 0 where
  pub pair : IsPair p
  pub operations : SaysAs history p.history
  pub known : SaysAs labels p.labels
