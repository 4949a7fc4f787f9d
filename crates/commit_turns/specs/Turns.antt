-- The value of the commits chronicle, by its fields.
use Rattle.std.specs.Prelude.{◌≡◌, ◌++◌, List}
use Rattle.chronicle.specs.Frame.{Frame}
use Rattle.chronicle.specs.History.{entries}
use Rattle.facet_disk.specs.declared.disk.Disk.{Ghosts as Disks}
use Rattle.commit_turns.specs.Commits.{CommitState, Stands}
use Rattle.commit_turns.specs.Frames.{commits_frame}
use Rattle.taxo_cache.specs.Seen.{labels_of}
use Rattle.commit_turns.specs.Surviving.{marks_of}
use Rattle.commit_turns.specs.declared.start.Start.{Ghosts as Names}
use Rattle.pair_manager.specs.declared.point.CommitPoint.{CommitPoint}
use Rattle.commit_turns.specs.declared.turn.CommitTurn.{CommitTurn}

module _ {D N : Type 0} {d : Disks D} {n : Names N} where
  -- its fields, by what contracts see of them
  abbrev pub state_in : CommitTurn D N d n → CommitState D
  state_in v = record {
    start = v.start.value;
    begun = v.begun.value.state;
    committer = v.committer;
    last = v.last;
    labels = labels_of v.labels.seen;
    history = entries v.operations.seen;
  }

  -- the value represents these points, each of which was entered on such a disk
  abbrev pub StandsWith : CommitTurn D N d n → List CommitPoint → List (D × CommitPoint) → Type 0
  StandsWith v es marks = Stands d n.told n.settled n.quiet (state_in v) es marks

  -- it represents these points more, which are entered on the disk as it is now; those before stay marked as they were
  abbrev pub StandsOn : CommitTurn D N d n → CommitTurn D N d n → List CommitPoint → Type 0
  StandsOn old new ps = (es : List CommitPoint) (marks : List (D × CommitPoint)) → StandsWith old es marks
      → StandsWith new (es ++ ps) (marks ++ marks_of new.committer.disk ps)

  -- what never changes of it
  abbrev pub frame_of : CommitTurn D N d n → Frame
  frame_of v = commits_frame v.begun.value.state.next (d.moment v.start.value) (d.faults v.start.value)
      (d.failures v.start.value) v.committer.config
      v.operations.identity v.labels.identity

  -- what its frame is made of stays
  abbrev pub KeepsFrame : CommitTurn D N d n → CommitTurn D N d n → Type 0
  KeepsFrame old new = (new.start ≡ old.start) × (new.begun ≡ old.begun) × (new.committer.config ≡ old.committer.config)

-- the value represents these points
pub record StandsFor {D N : Type 0} {d : Disks D} {n : Names N} (v : CommitTurn D N d n)
    (es : List CommitPoint) : Type 0 where
  pub marks : List (D × CommitPoint)
  pub stands : StandsWith v es marks
