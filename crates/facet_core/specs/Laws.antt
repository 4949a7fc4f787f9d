-- What no list of events breaks, in terms of documents and labels.
use Rattle.std.specs.Prelude.{◌≡◌, ◌≤◌, ◌<◌, ℕ, List, length, take, All, IsTrue, fold, slice_index_or}
use Rattle.facet_names.specs.Labels.{stands, prefixes}
use Rattle.facet_model.specs.Histories.{docs}
use Rattle.facet_model.specs.Core.{State, CoreEvent, crash, step}
use Rattle.facet_model.specs.CoreStates.{Valid}

-- the core after these events
abbrev pub ran : State → List CoreEvent → State
ran s events = fold step s events

-- whatever happens to a valid core, it stays valid
abbrev pub EveryRunIsValid : Type 0
EveryRunIsValid = (s : State) (events : List CoreEvent) → Valid s → Valid (ran s events)

-- The core t has a prefix of the labels and a prefix of the operations of s, and all that was acknowledged to commits
-- of s.
pub record Keeps (s t : State) : Type 0 where
  pub labels : t.labels ≡ take (length t.labels) s.labels
  pub operations : t.history ≡ take (length t.history) s.history
  pub acknowledged : All (λ p. p.0 ≤ length t.history × p.1 ≤ length t.labels) s.acknowledged

-- a crash at any time after any events, from any valid core on
abbrev pub CrashesKeepAcknowledged : Type 0
CrashesKeepAcknowledged = (start : State) (events : List CoreEvent) (keep : ℕ) → Valid start
    → let s = ran start events in Keeps s (step s (crash keep))

-- A pair of n operations and m labels has no label outside its list: each prefix of each label of its documents is
-- among the first m labels.
abbrev pub NamesItsLabels : State → ℕ × ℕ → Type 0
NamesItsLabels s p = p.0 ≤ length s.history × p.1 ≤ length s.labels
    × All (λ doc. All (λ label. All (λ path. IsTrue (stands (take p.1 s.labels) path)) (prefixes label)) doc.labels)
    (docs (take p.0 s.history))

-- every published pair is such a pair
abbrev pub PublishedLabelsStand : Type 0
PublishedLabelsStand = (start : State) (events : List CoreEvent) → Valid start
    → let s = ran start events in All (NamesItsLabels s) s.published

-- a later publication has no fewer operations and no fewer labels
abbrev pub PublicationsNeverFall : Type 0
PublicationsNeverFall = (start : State) (events : List CoreEvent) → Valid start → let s = ran start events in
    (i k : ℕ) (d : ℕ × ℕ) → i ≤ k → k < length s.published → ((slice_index_or s.published i d).0
    ≤ (slice_index_or s.published k d).0) × ((slice_index_or s.published i d).1
    ≤ (slice_index_or s.published k d).1)
