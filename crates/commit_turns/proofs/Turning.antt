-- What the value stands for after a commit.
use Rattle.std.proofs.Common.{List, [], ◌++◌, subst}
use Rattle.std.proofs.lemmas.List.{append-nil}
use Rattle.facet_disk.specs.declared.disk.Disk.{Ghosts as Disks}
use Rattle.commit_turns.specs.Surviving.{marks_of}
use Rattle.commit_turns.specs.Turns.{StandsFor, StandsOn}
use Rattle.commit_turns.specs.declared.start.Start.{Ghosts as Names}
use Rattle.commit_turns.specs.declared.turn.CommitTurn.{CommitTurn}
use Rattle.pair_manager.specs.declared.point.CommitPoint.{CommitPoint}

module _ {D N : Type 0} {d : Disks D} {n : Names N} (old new : CommitTurn D N d n) (es : List CommitPoint) where
  pub stands_on : (ps : List CommitPoint) → StandsOn old new ps → StandsFor old es → StandsFor new (es ++ ps)
  stands_on ps on st = record { marks = st.marks ++ marks_of new.committer.disk ps; stands = on es st.marks st.stands }

  pub stands_still : StandsOn old new [] → StandsFor old es → StandsFor new es
  stands_still on st = subst (λ (l : List CommitPoint). StandsFor new l) (append-nil es) (stands_on [] on st)
