-- What the commits of a run have left when it ends.
use Rattle.std.specs.Prelude.{◌≡◌, ℕ, List, Option, Some, None, All}
use Rattle.facet_disk.specs.Calls.{Rose}
use Rattle.facet_disk.specs.Images.{Image, Told}
use Rattle.facet_disk.specs.declared.disk.Disk.{Ghosts}
use Rattle.facet_model.specs.Flags.{Config}
use Rattle.facet_model.specs.Histories.{Operation}
use Rattle.store_opening.specs.Settled.{IsSettled}
use Rattle.commit_turns.specs.Points.{first_of, last_of}
use Rattle.commit_turns.specs.Recovery.{Holds, HoldsJust}
use Rattle.commit_turns.specs.Surviving.{Survive}
use Rattle.pair_manager.specs.declared.point.CommitPoint.{CommitPoint}

module _ {D : Type 0} (disk : Ghosts D) where
  -- At each moment since this one every image opens as the first of the labels and what the first of the operations
  -- leave, no fewer of both than were opened. At each moment since a point was entered every image has at least what
  -- the point has. Now every image has all of each commit that was acknowledged; where none failed on the disk, just
  -- what was committed last, and the disk is settled.
  pub record Lasts (config : Config) (moment : ℕ) (labels : List (List (List ℕ))) (history : List Operation)
      (points : List CommitPoint) (now : D) : Type 0 where
    pub opened : (c : Image) → disk.left_since now moment c → Holds config labels history (first_of points) c
    pub marks : List (D × CommitPoint)
    pub moments : Survive disk config labels history points marks now
    pub exit : All (λ p. (c : Image) → disk.may_leave now c → Holds config labels history p c) points
    pub exact : (last_of points).failed ≡ None → (c : Image) → disk.may_leave now c
        → HoldsJust config labels history (last_of points) c
    pub settled : (last_of points).failed ≡ None → (s : Told) → disk.told now ≡ Some s → IsSettled disk config s now

  -- the device failed, from such a count on, exactly where a commit has failed on the disk
  pub record FailsWith (failures : ℕ) (failed : Option ℕ) (now : D) : Type 0 where
    pub unfailed : failed ≡ None → disk.failures now ≡ failures
    pub rose : (count : ℕ) → failed ≡ Some count → Rose failures (disk.failures now)
