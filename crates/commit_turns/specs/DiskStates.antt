-- What is known of a disk at a moment.
use Rattle.std.specs.Prelude.{ℕ, Option}
use Rattle.facet_disk.specs.Images.{Image, Told}
use Rattle.facet_disk.specs.declared.disk.Disk.{Ghosts}

-- what it reports, its moment, the images that a crash may leave, those that one might have left since a moment, and
-- its count of faults
pub record DiskState : Type 1 where
  pub told : Option Told
  pub moment : ℕ
  pub may_leave : Image → Type 0
  pub left_since : ℕ → Image → Type 0
  pub faults : ℕ

abbrev pub state_of : {D : Type 0} → Ghosts D → D → DiskState
state_of disk d = record {
  told = disk.told d;
  moment = disk.moment d;
  may_leave = disk.may_leave d;
  left_since = disk.left_since d;
  faults = disk.faults d;
}
