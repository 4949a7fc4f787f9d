-- What a crash leaves of each commit, from the moment on at which its point was entered.
use Rattle.std.specs.Prelude.{◌≡◌, ◌≤◌, ◌++◌, ◌∷◌, [], ℕ, List, map, None, All, AllPairs}
use Rattle.facet_disk.specs.Images.{Image}
use Rattle.facet_disk.specs.declared.disk.Disk.{Ghosts}
use Rattle.facet_model.specs.Flags.{Config}
use Rattle.facet_model.specs.Histories.{Operation}
use Rattle.commit_calls.specs.Moments.{LeavesOnly}
use Rattle.commit_turns.specs.Points.{last_of}
use Rattle.commit_turns.specs.Recovery.{Holds, HoldsJust}
use Rattle.pair_manager.specs.declared.point.CommitPoint.{CommitPoint}

-- points that are entered now, each with the disk as it is
abbrev pub marks_of : {D : Type 0} → D → List CommitPoint → List (D × CommitPoint)
marks_of now points = map (λ p. (now, p)) points

module _ {D : Type 0} (disk : Ghosts D) where
  -- of a point and the disk as it was then: where no commit failed, every image then had just what the point has
  abbrev pub HadJust : Config → List (List (List ℕ)) → List Operation → D × CommitPoint → Type 0
  HadJust config labels history m =
      m.1.failed ≡ None → (c : Image) → disk.may_leave m.0 c → HoldsJust config labels history m.1 c

  -- at each moment from then until now every image has at least what the point has
  abbrev pub HasSince : Config → List (List (List ℕ)) → List Operation → D → D × CommitPoint → Type 0
  HasSince config labels history now m = LeavesOnly disk m.0 now (Holds config labels history m.1)

  -- Each point is marked with the disk as it was when the point was entered: the first one as it was when opening had
  -- ended, the last one as it is now. The moments of these disks do not fall. Every image then had just what the point
  -- has, and at each moment since every image has at least that.
  pub record Survive (config : Config) (labels : List (List (List ℕ))) (history : List Operation)
      (points : List CommitPoint) (marks : List (D × CommitPoint)) (now : D) : Type 0 where
    pub are : map (λ (m : D × CommitPoint). m.1) marks ≡ points
    pub before : List (D × CommitPoint)
    pub ends : marks ≡ before ++ (now, last_of points) ∷ []
    pub rise : AllPairs (λ (a b : D × CommitPoint). disk.moment a.0 ≤ disk.moment b.0) marks
    pub just : All (HadJust config labels history) marks
    pub since : All (HasSince config labels history now) marks
