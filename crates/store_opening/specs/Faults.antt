-- Faults of the parts of a store as faults of opening it.
use Rattle.std.specs.Prelude.{◌≢◌, ◌<◌, ◌≤◌, ◌^◌}
use Rattle.facet_disk.specs.declared.fault.DiskFault.{DiskFault}
use Rattle.facet_disk.specs.declared.fault.DiskFault.TheVariants as disks
use Rattle.facet_disk.specs.declared.name.FileName.{FileName}
use Rattle.label_file.specs.declared.fault.LabelsFault.{LabelsFault}
use Rattle.label_file.specs.declared.fault.LabelsFault.TheVariants as labels
use Rattle.seg_decoding.specs.declared.fault.StoredFault.{StoredFault}
use Rattle.seg_decoding.specs.declared.fault.StoredFault.TheVariants as segments
use Rattle.store_opening.specs.declared.fault.OpenFault.{OpenFault}
use Rattle.store_opening.specs.declared.fault.OpenFault.TheVariants.{Disk, Missing, Damaged, Malformed, Uncovered}
use Rattle.store_opening.specs.declared.fault.OpenFault.TheVariants.{NumbersSpent, OtherConfig, NoMemory}

-- the fault of a disk call
abbrev pub of_disk : DiskFault → OpenFault
of_disk disks.Failed = Disk
of_disk (disks.Absent name) = Disk
of_disk (disks.Present name) = Disk
of_disk disks.NoMemory = NoMemory

-- the fault of a segment of labels, with its name
abbrev pub of_labels : FileName → LabelsFault → OpenFault
of_labels name (labels.Malformed at) = Malformed name at
of_labels name labels.NoMemory = NoMemory

-- the fault of a segment of documents, with its name
abbrev pub of_segment : FileName → StoredFault → OpenFault
of_segment name (segments.Malformed at) = Malformed name at
of_segment name segments.NoMemory = NoMemory

-- What a fault means by itself, whatever the disk returns: a digest differs from the one that was stored, there are
-- fewer labels than needed, or a number is 2^63 or more.
abbrev pub IsSound : OpenFault → Type 0
IsSound Disk = Unit {0}
IsSound (Missing name) = Unit {0}
IsSound (Damaged name kept digest) = kept ≢ digest
IsSound (Malformed name at) = Unit {0}
IsSound (Uncovered needs has) = has < needs
IsSound (NumbersSpent number) = 2 ^ 63 ≤ number
IsSound (OtherConfig dim) = Unit {0}
IsSound NoMemory = Unit {0}
