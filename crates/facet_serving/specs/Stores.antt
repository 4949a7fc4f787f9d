-- The store of a run: what it had when it was opened, and what its disk keeps.
use Rattle.std.specs.Prelude.{◌≡◌, ◌≤◌, ℕ, List, length, map, Some, Ok, All}
use Rattle.commit_turns.specs.Ending.{FailsWith, Lasts}
use Rattle.commit_turns.specs.Points.{count_after, last_of}
use Rattle.commit_turns.specs.Recovery.{docs_found}
use Rattle.facet_disk.specs.declared.disk.Disk.{Ghosts}
use Rattle.facet_disk.specs.Images.{Told}
use Rattle.facet_io.specs.Faults.{Rose}
use Rattle.facet_model.specs.Flags.{Config}
use Rattle.facet_model.specs.Stored.{Records, Decodes}
use Rattle.facet_names.specs.Labels.{IsLabelList}
use Rattle.facet_output.specs.Output.{Opened}
use Rattle.facet_output.specs.Seen.{CommitPoint as Point, Entries, Seen, history_of, labels_of}
use Rattle.pair_manager.specs.declared.point.CommitPoint.{CommitPoint}
use Rattle.store_opening.specs.Files.{Found, files}
use Rattle.store_opening.specs.Quiet.{IsQuiet}
use Rattle.store_opening.specs.Settled.{IsSettled}

-- A store was opened: a list of labels, and the documents that segments decode to. Where its disk reports the files, it
-- is what these represent.
pub record Opens {D : Type 0} (ghosts : Ghosts D) (config : Config) (disk : D) (opened : Opened) : Type 0 where
  pub list : IsLabelList opened.labels
  pub decodes : (segments : List Records) × Decodes opened.labels config segments opened.docs
  pub stored : (t : Told) → ghosts.told disk ≡ Some t
      → (f : Found) × (files config t.files ≡ Ok f) × (opened.labels ≡ f.labels) × (opened.docs ≡ docs_found f)

-- a disk reports its files where it reported them before
abbrev pub StillTells : {D : Type 0} → Ghosts D → D → D → Type 0
StillTells ghosts old new = (t : Told) → ghosts.told old ≡ Some t → (u : Told) × (ghosts.told new ≡ Some u)

-- a commit that failed on the disk counted a fault of it since then, which is at most the count now
abbrev pub CountsFault : {D : Type 0} → Ghosts D → D → D → CommitPoint → Type 0
CountsFault ghosts old new point =
    (count : ℕ) → point.failed ≡ Some count → Rose (ghosts.faults old) count × (count ≤ ghosts.faults new)

-- the points of commits, as those who commit see them
abbrev pub points_of : Entries Point → List CommitPoint
points_of commits = map (λ e. record { operations = e.1.operations; labels = e.1.labels; failed = e.1.failed }) commits

-- What the disk keeps of the labels, the operations and the commits that there are at the end. Its count of faults is
-- what the last commit learned, where that failed on it, and else as it was. It reports its files where it reported
-- them; there the device failed exactly where a commit did. Where it was settled too, what was committed lasts. Where
-- no commit was acknowledged or failed on it, so that there is just the opened point, nothing was written to it.
pub record Keeps {D : Type 0} (ghosts : Ghosts D) (config : Config) (last : Seen) (old new : D) : Type 0 where
  pub counted : All (CountsFault ghosts old new) (points_of last.commits)
  pub exact : ghosts.faults new ≡ count_after (ghosts.faults old) (last_of (points_of last.commits)).failed
  pub tells : StillTells ghosts old new
  pub failed : (t : Told) → ghosts.told old ≡ Some t
      → FailsWith ghosts (ghosts.failures old) (last_of (points_of last.commits)).failed new
  pub lasts : (t : Told) → ghosts.told old ≡ Some t → IsSettled ghosts config t old
      → Lasts ghosts config (ghosts.moment old) (labels_of last) (history_of last) (points_of last.commits) new
  pub untouched : length (points_of last.commits) ≤ 1 → IsQuiet ghosts old new
