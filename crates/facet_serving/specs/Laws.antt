-- Laws over runs.
use Rattle.std.specs.Prelude.{◌≡◌, ◌≤◌, ℕ, length, take, List, None, Some, Ok, All}
use Rattle.commit_turns.specs.Points.{last_of}
use Rattle.facet_disk.specs.Images.{Told}
use Rattle.facet_disk.specs.declared.disk.Disk.{Ghosts}
use Rattle.facet_engine.specs.declared.ending.Trace.{Trace}
use Rattle.facet_model.specs.Histories.{docs}
use Rattle.facet_names.specs.Labels.{GoesOn}
use Rattle.facet_output.specs.Output.{Opened}
use Rattle.facet_output.specs.Seen.{Seen, history_of, labels_of}
use Rattle.facet_words.specs.Commands.{Settings, Order}
use Rattle.store_opening.specs.Files.{Found, files}
use Rattle.store_opening.specs.Settled.{IsSettled}
use Rattle.facet_serving.specs.Sessions.{Ran}
use Rattle.facet_serving.specs.Stores.{points_of}

-- ---- one run after another

-- What a run left is opened: the first of its labels, and what the first of its operations leave, at least those of
-- each commit that was acknowledged; where none failed on the disk, just those of the last one.
pub record IsReopened (last : Seen) (next : Opened) : Type 0 where
  pub labels : GoesOn next.labels (labels_of last)
  pub operations : ℕ
  pub within : operations ≤ length (history_of last)
  pub documents : next.docs ≡ docs (take operations (history_of last))
  pub all : All (λ p. (p.labels ≤ length next.labels) × (p.operations ≤ operations)) (points_of last.commits)
  pub exact : (last_of (points_of last.commits)).failed ≡ None
      → (length next.labels ≡ (last_of (points_of last.commits)).labels)
      × (next.docs ≡ docs (take (last_of (points_of last.commits)).operations (history_of last)))

-- what a run acknowledged, the next one under the same flags opens
abbrev pub AcknowledgedIsReopened : {D : Type 0} → Ghosts D → Type 0
AcknowledgedIsReopened {D} ghosts = (settings again : Settings) (phases later : List (List Order)) (trace more : Trace)
    (start between end : D) (t : Told)
    → ghosts.told start ≡ Some t → IsSettled ghosts settings.config t start → again.config ≡ settings.config
    → (first : Ran ghosts settings phases trace start between) → (second : Ran ghosts again later more between end)
    → IsReopened first.last second.opened

-- and the files that it left are a store under these flags, so that no later run finds a fault in them
abbrev pub LeavesStore : {D : Type 0} → Ghosts D → Type 0
LeavesStore {D} ghosts = (settings : Settings) (phases : List (List Order)) (trace : Trace) (start between : D)
    (t u : Told) → ghosts.told start ≡ Some t
    → IsSettled ghosts settings.config t start → Ran ghosts settings phases trace start between
    → ghosts.told between ≡ Some u
    → (f : Found) × (files settings.config u.files ≡ Ok f)
