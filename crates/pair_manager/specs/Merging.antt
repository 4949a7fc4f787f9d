-- A merge, in three parts: under the lock of the operations segments are shared, without it they are merged, and under
-- the lock again the merged segment replaces them.
use Rattle.std.specs.Prelude.{◌≡◌, ◌<◌, ◌≤◌, ◌⊎◌, ℕ, List, [], ◌∷◌, length}
use mathlib.Core.List.{IsPrefix}
use Rattle.atomic_table.specs.Seated.{TableId}
use Rattle.facet_model.specs.ConfigTexts.{config_texts}
use Rattle.facet_model.specs.Flags.{Config}
use Rattle.facet_model.specs.Histories.{Operation, docs}
use Rattle.facet_model.specs.Stored.{Records}
use Rattle.seg_documents.specs.Decoding.{records_in}
use Rattle.seg_merge.specs.Merged.{IsMergeOf}
use Rattle.merge_policy.specs.Tiers.{first_small}
use Rattle.chronicle.specs.History.{entries}
use Rattle.chronicle.specs.Shown.{Shown}
use Rattle.taxo_cache.specs.Seen.{SeesLabels}
use Rattle.index_state.specs.Index.{Index, StandsFor, DecodeUnder, docs_under}
use Rattle.index_state.specs.Merging.{live_sizes, ComeAfter, IsRangeOf, IsInstalled, HasNoPlace}
use Rattle.pair_manager.specs.declared.merging.MergeScope.{MergeScope}
use Rattle.pair_manager.specs.declared.merging.MergeScope.TheVariants.{All, Policy}

-- Segments decode, under a note of these labels and the config of the operations, to documents of the operations that a
-- token has seen, after so many others.
pub record AreShared (labels : TableId) (token : Shown Operation) (note : Shown (List (List ℕ))) (before : ℕ)
    (segments : List Records) : Type 0 where
  pub own : note.identity ≡ labels
  pub list : SeesLabels note
  pub config : Config
  pub texts : config_texts config ≡ token.frame.texts
  pub decoded : DecodeUnder note config segments
  pub after : ComeAfter before (docs_under note segments) (docs (entries token.seen))

-- the first segment that becomes one with all segments after it: the first of all, or the one that the policy names
abbrev pub first_in : MergeScope → List Records → ℕ
first_in All segments = 0
first_in Policy segments = first_small (live_sizes segments)

-- They are the segments of an index from the scope's first one on. Its operations are those that the token has seen,
-- and none of its documents waits.
pub record AreFrom (scope : MergeScope) (token : Shown Operation) (note : Shown (List (List ℕ))) (before : ℕ)
    (segments : List Records) : Type 0 where
  pub index : Index
  pub represents : StandsFor index (entries token.seen)
  pub waits : index.waiting ≡ 0
  pub range : IsRangeOf index (first_in scope index.segments) note before segments

-- where the segments were replaced by others in between: all are merged, or the list stays
abbrev pub IsLeft : MergeScope → Index → Index → Type 0
IsLeft All old new = (new.waiting ≡ 0) × (length new.segments ≤ 1)
IsLeft Policy old new = new.segments ≡ old.segments

-- the merged segment replaced the neighbours that have as many documents, with so many before theirs, or there are none
abbrev pub IsReplaced : MergeScope → ℕ → Records → Index → Index → Type 0
IsReplaced scope before merged old new =
    IsInstalled before merged old.segments new.segments
    ⊎ (HasNoPlace before (length (records_in (merged ∷ []))) old.segments × IsLeft scope old new)

-- it replaced them in an index of these operations
abbrev pub IsReplacedIn : MergeScope → ℕ → Records → List Operation → Type 0
IsReplacedIn scope before merged history = (old : Index) × (new : Index) × StandsFor old history
    × StandsFor new history × IsReplaced scope before merged old new

-- Segments were shared when a token had seen what it shows first. They are fewer than two, or their merge replaced them
-- when it had seen what it shows then.
pub record IsMerged (scope : MergeScope) (token : Shown Operation) : Type 0 where
  pub earlier : Shown Operation
  pub sees_on : IsPrefix earlier.seen token.seen
  pub note : Shown (List (List ℕ))
  pub before : ℕ
  pub segments : List Records
  pub from : AreFrom scope earlier note before segments
  pub done : (length segments < 2) ⊎ ((merged : Records) × IsMergeOf segments merged
      × IsReplacedIn scope before merged (entries token.seen))
