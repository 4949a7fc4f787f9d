-- A disk in the state of one to which nothing was written.
use Rattle.std.specs.Prelude.{◌≡◌, ◌≤◌, ◌⊎◌, ℕ}
use Rattle.commit_turns.specs.DiskStates.{DiskState, state_of}
use Rattle.facet_disk.specs.Crashes.{Follows, Within}
use Rattle.facet_disk.specs.declared.disk.Disk.{Ghosts}
use Rattle.facet_disk.specs.Images.{Image}
use Rattle.store_opening.specs.Quiet.{IsQuiet, IsUnchanged}

-- what IsQuiet says of a disk, in terms of what is known of it
pub record IsLeftQuiet {D : Type 0} (disk : Ghosts D) (start : D) (state : DiskState) : Type 0 where
  pub same : state.told ≡ disk.told start
  pub moment : disk.moment start ≤ state.moment
  pub since : (t : ℕ) (c : Image) → t ≤ disk.moment start → state.left_since t c → disk.left_since start t c ⊎ ((d : Image) × disk.may_leave start d × IsUnchanged d c)
  pub now : Follows IsUnchanged (disk.may_leave start) state.may_leave
  pub keeps : Within state.may_leave (disk.may_leave start)
  pub faults : disk.faults start ≤ state.faults

pub left_quiet : {D : Type 0} (disk : Ghosts D) (start k : D) → IsQuiet disk start k → IsLeftQuiet disk start (state_of disk k)
left_quiet disk start k quiet = record {
  same = quiet.same;
  moment = quiet.passes.later;
  since = quiet.passes.since;
  now = quiet.passes.now;
  keeps = quiet.keeps;
  faults = quiet.later;
}

pub is_quiet : {D : Type 0} (disk : Ghosts D) (start d : D) → IsLeftQuiet disk start (state_of disk d) → IsQuiet disk start d
is_quiet disk start d left = record {
  same = left.same;
  passes = record { later = left.moment; since = left.since; now = left.now };
  keeps = left.keeps;
  later = left.faults;
}
