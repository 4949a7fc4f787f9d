-- A disk to which nothing was done.
use Rattle.std.proofs.Common.{refl, inl, le_refl}
use Rattle.facet_disk.specs.declared.disk.Disk.{Ghosts}
use Rattle.store_opening.specs.Quiet.{IsQuiet}

-- a disk of which no call was made
pub quiet_still : {D : Type 0} (disk : Ghosts D) (d : D) → IsQuiet disk d d
quiet_still disk d = record {
  same = refl;
  passes = record { later = le_refl (disk.moment d); since = λ t c le left. inl left; now = λ c left. (c, left, refl) };
  keeps = λ c left. left;
  later = le_refl (disk.faults d);
}
