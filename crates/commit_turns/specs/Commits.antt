-- Which points the value of the commits chronicle represents.
use Rattle.std.specs.Prelude.{◌≡◌, ◌≤◌, ◌+◌, ◌*◌, ℕ, List, [], ◌∷◌, ◌++◌, All, Some, None, length, take}
use Rattle.facet_disk.specs.Calls.{Rose}
use Rattle.facet_disk.specs.Images.{Image, Told}
use Rattle.facet_disk.specs.declared.disk.Disk.{Ghosts}
use Rattle.facet_model.specs.Histories.{Operation, docs}
use Rattle.facet_model.specs.Stored.{Records, Decodes}
use Rattle.facet_names.specs.Labels.{GoesOn, IsLabelList}
use Rattle.seg_documents.specs.Decoding.{docs_in}
use Rattle.commit_calls.specs.Held.{Below}
use Rattle.commit_calls.specs.Moments.{LeavesOnly}
use Rattle.store_opening.specs.Newest.{AreListed}
use Rattle.commit_plan.specs.Committed.{Committed}
use Rattle.commit_store.specs.Committers.{CommitterView}
use Rattle.commit_store.specs.Promised.{HasNamed, IsHere}
use Rattle.commit_turns.specs.DiskStates.{DiskState, state_of}
use Rattle.commit_turns.specs.Points.{count_after, first_of}
use Rattle.commit_turns.specs.Recovery.{Holds}
use Rattle.commit_turns.specs.Surviving.{Survive}
use Rattle.pair_manager.specs.declared.point.CommitPoint.{CommitPoint}

-- Points of commits: no point but the last has failed, no failed count is above the disk's, and no number is above the
-- last point's, nor that above what was noted.
pub record ArePoints (faults labels operations : ℕ) (last : CommitPoint) (es : List CommitPoint) : Type 0 where
  pub before : List CommitPoint
  pub ends : es ≡ before ++ last ∷ []
  pub unfailed : All (λ p. p.failed ≡ None) before
  pub counts : (count : ℕ) → last.failed ≡ Some count → count ≤ faults
  pub most : All (λ p. (p.labels ≤ last.labels) × (p.operations ≤ last.operations)) es
  pub within : (last.labels ≤ labels) × (last.operations ≤ operations)

-- what is known of the files is true of these
pub record IsTrueOf (state : Committed) (files : Image) : Type 0 where
  pub listed : AreListed files state.listed
  pub named : HasNamed files state
  pub fresh : Below state.next files

-- What the value has: the disk when opening began and what was found on it, the committer, the last point, and the
-- labels and the operations that were noted.
pub record CommitState (D : Type 0) : Type 0 where
  pub start : D
  pub begun : Committed
  pub committer : CommitterView D
  pub last : CommitPoint
  pub labels : List (List (List ℕ))
  pub history : List Operation

module _ {D : Type 0} (disk : Ghosts D) where
  -- What was committed last is the first of the labels and what the first of the operations leave, as many as the point
  -- says; every image now has just that.
  pub record IsLast (committer : CommitterView D) (p : CommitPoint) (labels : List (List (List ℕ)))
      (history : List Operation) : Type 0 where
    pub known : List (List (List ℕ))
    pub segments : List Records
    pub tells : (s : Told) × (disk.told committer.disk ≡ Some s)
    pub here : IsHere disk committer.config committer known segments
    pub list : IsLabelList known
    pub goes_on : GoesOn known labels
    pub many : length known ≡ p.labels
    pub decodes : Decodes known committer.config segments (docs_in known segments)
    pub within : p.operations ≤ length history
    pub just : docs_in known segments ≡ docs (take p.operations history)

  -- At each moment since opening began every image opens as the first of what was noted, no less than the opened point.
  -- Now it holds each point, and so it did at each moment since the point was entered.
  pub record Keeps (start : D) (committer : CommitterView D) (labels : List (List (List ℕ))) (history : List Operation)
      (es : List CommitPoint) (marks : List (D × CommitPoint)) : Type 0 where
    pub moments : LeavesOnly disk start committer.disk (Holds committer.config labels history (first_of es))
    pub now : All (λ p. (c : Image) → disk.may_leave committer.disk c → Holds committer.config labels history p c) es
    pub survive : Survive disk committer.config labels history es marks committer.disk

  -- While no commit has failed on the disk, what is known of the files is true of those that it reports, and the device
  -- has not failed. Where one has, the device failed.
  pub record IsFollowed (start : D) (committer : CommitterView D) : Type 0 where
    pub told : committer.closed ≡ None → (s : Told) → disk.told committer.disk ≡ Some s
        → IsTrueOf committer.state s.files
    pub unfailed : committer.closed ≡ None → disk.failures committer.disk ≡ disk.failures start
    pub failed : (count : ℕ) → committer.closed ≡ Some count → Rose (disk.failures start) (disk.failures committer.disk)

  -- The value represents these points, the first of them the opened one, with the disk as it was when each was
  -- entered. A commit takes at most 1,000,003 file numbers. Where there is no other point, the disk is as it was when
  -- opening began.
  pub record Stands (told settled : Type 0) (quiet : DiskState → Type 0) (v : CommitState D)
      (es : List CommitPoint) (marks : List (D × CommitPoint)) : Type 0 where
    pub points : ArePoints (disk.faults v.committer.disk) (length v.labels) (length v.history) v.last es
    pub closed : v.last.failed ≡ v.committer.closed
    pub counted : disk.faults v.start ≤ disk.faults v.committer.disk
    pub exact : disk.faults v.committer.disk ≡ count_after (disk.faults v.start) v.last.failed
    pub rose : (count : ℕ) → v.last.failed ≡ Some count → Rose (disk.faults v.start) count
    pub numbers : v.committer.state.next + 1000003 ≤ v.begun.next + 1000003 * length es
    pub tells : told → (s : Told) × (disk.told v.committer.disk ≡ Some s)
    pub followed : told → IsFollowed v.start v.committer
    pub keeps : settled → Keeps v.start v.committer v.labels v.history es marks
    pub committed : settled → v.committer.closed ≡ None → IsLast v.committer v.last v.labels v.history
    pub untouched : length es ≤ 1 → quiet (state_of disk v.committer.disk)
