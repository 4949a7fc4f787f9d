-- The statuses of a run: their numbers, and the lines that report faults.
use Rattle.std.specs.Prelude.{◌≡◌, ◌⊎◌, ℕ, List, [], ◌∷◌, ◌++◌, codes}
use Rattle.facet_disk.specs.FileNames.{name_text}
use Rattle.facet_replies.specs.NamedFaults.{text_field, number_field, digest_field, named_fault_line}
use Rattle.store_opening.specs.declared.fault.OpenFault.{OpenFault}
use Rattle.store_opening.specs.declared.fault.OpenFault.TheVariants as faults
use Rattle.facet_serving.specs.declared.status.Status.{Status}
use Rattle.facet_serving.specs.declared.status.Status.TheVariants.{Done, BadWords, ReadFault, WriteFault, BadScript}
use Rattle.facet_serving.specs.declared.status.Status.TheVariants.{DiskFault, BadStore, NoMemory, TooLong, OtherConfig}

-- the exit status of the program
abbrev pub exit_code : Status → ℕ
exit_code Done = 0
exit_code BadWords = 2
exit_code ReadFault = 3
exit_code WriteFault = 4
exit_code BadScript = 5
exit_code DiskFault = 6
exit_code BadStore = 7
exit_code NoMemory = 8
exit_code TooLong = 9
exit_code OtherConfig = 10

-- the line that reports a fault; none at an end without one, nor where the line names more than the status
abbrev pub status_line : Status → List ℕ
status_line Done = []
status_line WriteFault = []
status_line BadScript = []
status_line BadStore = []
status_line OtherConfig = []
status_line BadWords = codes "{\"fault\":\"bad_words\"}" ++ 10 ∷ []
status_line ReadFault = codes "{\"fault\":\"read_fault\"}" ++ 10 ∷ []
status_line DiskFault = codes "{\"fault\":\"disk_fault\"}" ++ 10 ∷ []
status_line NoMemory = codes "{\"fault\":\"no_memory\"}" ++ 10 ∷ []
status_line TooLong = codes "{\"fault\":\"too_long\"}" ++ 10 ∷ []

-- how a run ends whose store was not opened
abbrev pub fault_status : OpenFault → Status
fault_status faults.Disk = DiskFault
fault_status (faults.Missing name) = BadStore
fault_status (faults.Damaged name kept digest) = BadStore
fault_status (faults.Malformed name at) = BadStore
fault_status (faults.Uncovered needs has) = BadStore
fault_status (faults.NumbersSpent greatest) = BadStore
fault_status (faults.OtherConfig dim) = OtherConfig
fault_status faults.NoMemory = NoMemory

-- the line that says that another process has the store
abbrev pub in_use_line : List ℕ
in_use_line = codes "{\"fault\":\"in_use\"}" ++ 10 ∷ []

-- the line that says why a store was not opened
abbrev pub open_line : OpenFault → List ℕ
open_line faults.Disk = status_line DiskFault
open_line (faults.Missing name) = named_fault_line (codes "missing") (text_field (codes "file") (name_text name) ∷ [])
open_line (faults.Damaged name kept digest) =
    named_fault_line (codes "damaged")
    (text_field (codes "file") (name_text name) ∷ digest_field (codes "kept") kept
    ∷ digest_field (codes "found") digest ∷ [])
open_line (faults.Malformed name at) = named_fault_line (codes "malformed")
    (text_field (codes "file") (name_text name) ∷ number_field (codes "at") at ∷ [])
open_line (faults.Uncovered needs has) =
    named_fault_line (codes "uncovered") (number_field (codes "needs") needs ∷ number_field (codes "has") has ∷ [])
open_line (faults.NumbersSpent greatest) =
    named_fault_line (codes "numbers_spent") (number_field (codes "number") greatest ∷ [])
open_line (faults.OtherConfig dim) = named_fault_line (codes "other_config") (text_field (codes "dim") dim ∷ [])
open_line faults.NoMemory = status_line NoMemory

-- a line that says so: where the disk failed, maybe that another process has the store
abbrev pub IsOpenLine : OpenFault → List ℕ → Type 0
IsOpenLine faults.Disk line = (line ≡ status_line DiskFault) ⊎ (line ≡ in_use_line)
IsOpenLine fault line = line ≡ open_line fault
