-- Calls that write nothing.
use Rattle.std.specs.Prelude.{◌≡◌, ◌≢◌, ◌≤◌, ℕ, List, Some, Result, OnOk, IfErr, IsErrOf}
use Rattle.facet_disk.specs.declared.disk.Disk.{Ghosts}
use Rattle.facet_disk.specs.declared.name.FileName.{FileName}
use Rattle.facet_disk.specs.Images.{Image, Told}
use Rattle.facet_disk.specs.Crashes.{Within}
use Rattle.facet_disk.specs.Calls.{Rose}
use Rattle.commit_calls.specs.Moments.{Passes}
use Rattle.store_opening.specs.declared.fault.OpenFault.{OpenFault}
use Rattle.store_opening.specs.declared.fault.OpenFault.TheVariants.{Disk, NoMemory}
use Rattle.store_opening.specs.Faults.{IsSound}
use Rattle.store_opening.specs.Newest.{AreListed}

-- nothing is changed
abbrev pub IsUnchanged : Image → Image → Type 0
IsUnchanged old new = new ≡ old

-- What is read stays. The images, now and at each moment of the calls, are those of before. The count of faults does
-- not fall.
pub record IsQuiet {D : Type 0} (disk : Ghosts D) (old new : D) : Type 0 where
  pub same : disk.told new ≡ disk.told old
  pub passes : Passes disk IsUnchanged old new
  pub keeps : Within (disk.may_leave new) (disk.may_leave old)
  pub later : disk.faults old ≤ disk.faults new

-- a count of faults stays, unless a disk call failed
pub record IsStill {T : Type 0} (before now : ℕ) (result : Result T OpenFault) : Type 0 where
  pub ok : OnOk result (now ≡ before)
  pub err : IfErr result (λ e. e ≢ Disk → now ≡ before)

-- What reading guarantees of the disk, whatever it returns: nothing is changed; a fault was counted if the result is
-- one of the disk, and none otherwise; and what its fault means by itself.
pub record IsRead {D T : Type 0} (disk : Ghosts D) (old new : D) (result : Result T OpenFault) : Type 0 where
  pub quiet : IsQuiet disk old new
  pub counted : IsErrOf result Disk → Rose (disk.faults old) (disk.faults new)
  pub still : IsStill (disk.faults old) (disk.faults new) result
  pub unfailed : IsStill (disk.failures old) (disk.failures new) result
  pub sound : IfErr result IsSound

-- if this is true of the files on the disk, a fault of the disk is an I/O error
abbrev pub FailsOnly : {D T : Type 0} → Ghosts D → (Image → Type 0) → D → D → Result T OpenFault → Type 0
FailsOnly disk known old new result = (s : Told) → disk.told old ≡ Some s → known s.files → IsErrOf result Disk
    → Rose (disk.failures old) (disk.failures new)

-- ---- what it found

-- it holds of the files on the disk, if these are their names
abbrev pub OfListed : {D : Type 0} → Ghosts D → List FileName → D → (Image → Type 0) → Type 0
OfListed disk listed now holds = (s : Told) → disk.told now ≡ Some s → AreListed s.files listed → holds s.files

-- it holds of a fault of the files, which is neither out of memory nor a failed disk call
abbrev pub OfFiles : {T : Type 0} → Result T OpenFault → (OpenFault → Type 0) → Type 0
OfFiles result holds = IfErr result (λ e. e ≢ NoMemory → e ≢ Disk → holds e)
