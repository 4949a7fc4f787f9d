-- What a commit guarantees, given the committer before it and after it.
use Rattle.std.specs.Prelude.{◌≡◌, ◌≢◌, ◌≤◌, ◌<◌, ◌+◌, ◌^◌, ℕ, List, Some, None, Result, IfErr, OnOk, Contains}
use Rattle.facet_disk.specs.declared.disk.Disk.{Ghosts}
use Rattle.facet_disk.specs.declared.name.FileName.{FileName}
use Rattle.facet_disk.specs.Images.{Image, Told}
use Rattle.facet_disk.specs.Calls.{Rose}
use Rattle.facet_model.specs.Flags.{Config}
use Rattle.facet_model.specs.Stored.{Records}
use Rattle.facet_names.specs.Labels.{GoesOn}
use Rattle.commit_calls.specs.Held.{Below}
use Rattle.commit_calls.specs.Moments.{LeavesOnly}
use Rattle.store_opening.specs.Newest.{AreListed}
use Rattle.store_opening.specs.Settled.{IsSettled}
use Rattle.commit_plan.specs.declared.fault.CommitFault.{CommitFault}
use Rattle.commit_plan.specs.declared.fault.CommitFault.TheVariants.{NumbersSpent, NoMemory}
use Rattle.commit_plan.specs.Committed.{Committed}
use Rattle.commit_store.specs.Committers.{CommitterView}
use Rattle.commit_store.specs.Committing.{HasOneOfThree}
use Rattle.commit_plan.specs.Drafts.{last_number, named_files}
use Rattle.commit_plan.specs.Plannings.{IsCommittedAt}
use Rattle.commit_plan.specs.Results.{committed_told, IsCutShort}

-- ---- the state before a commit

-- whatever a crash leaves, the files are those of these labels and segments, and the committer knows them
abbrev pub IsHere : {D : Type 0} → Ghosts D → Config → CommitterView D → List (List (List ℕ)) → List Records → Type 0
IsHere disk config committer labels segments = IsCommittedAt disk config committer.state committer.disk labels segments

-- it holds for the labels and segments of a disk whose files are known, if the given labels continue its labels
abbrev pub FromPair : {D : Type 0} → Ghosts D → CommitterView D → List (List (List ℕ))
    → (List (List (List ℕ)) → List Records → Type 0) → Type 0
FromPair disk old view holds = (s : Told) (labels : List (List (List ℕ))) (segments : List Records)
    → disk.told old.disk ≡ Some s
    → IsHere disk old.config old labels segments → GoesOn labels view → holds labels segments

-- it holds for the files of the disk before and after
abbrev pub OfBoth : {D : Type 0} → Ghosts D → D → D → (Told → Told → Type 0) → Type 0
OfBoth disk old new holds = (s u : Told) → disk.told old ≡ Some s → disk.told new ≡ Some u → holds s u

-- ---- what a crash leaves

-- at each moment, each image has the files of the pair before, of the old segments under the new labels, or of the pair
-- after
abbrev pub PassesThree : {D : Type 0} → Ghosts D → CommitterView D → CommitterView D → List (List (List ℕ))
    → List Records → Type 0
PassesThree disk old new view segments = FromPair disk old view (λ labels old_segments.
    LeavesOnly disk old.disk new.disk (HasOneOfThree old.config labels old_segments view segments))

-- so has each image at the end
abbrev pub LeavesThree : {D : Type 0} → Ghosts D → CommitterView D → CommitterView D → List (List (List ℕ))
    → List Records → Type 0
LeavesThree disk old new view segments = FromPair disk old view (λ labels old_segments.
    (c : Image) → disk.may_leave new.disk c → HasOneOfThree old.config labels old_segments view segments c)

-- each image has the files of the pair after
abbrev pub Acknowledges : {D : Type 0} → Ghosts D → CommitterView D → CommitterView D → List (List (List ℕ))
    → List Records → Type 0
Acknowledges disk old new view segments = FromPair disk old view (λ labels old_segments.
    IsHere disk new.config new view segments)

-- the disk is settled, which the next opening may require
abbrev pub Settles : {D : Type 0} → Ghosts D → CommitterView D → CommitterView D → List (List (List ℕ)) → List Records
    → Type 0
Settles disk old new view segments = (s u : Told) (labels : List (List (List ℕ))) (old_segments : List Records)
    → disk.told old.disk ≡ Some s → disk.told new.disk ≡ Some u
    → IsHere disk old.config old labels old_segments → GoesOn labels view → IsSettled disk new.config u new.disk

-- ---- what the disk reads

-- it reads as before, with the files of the commit made, its pending files renamed and its strays removed
abbrev pub TellsCommit : {D : Type 0} → Ghosts D → CommitterView D → CommitterView D → List (List (List ℕ))
    → List Records → Type 0
TellsCommit disk old new view segments = (s : Told) → disk.told old.disk ≡ Some s
    → disk.told new.disk ≡ Some (committed_told old.config old.state view segments s)

-- each file is one of these
abbrev pub AreAmong : Image → List FileName → Type 0
AreAmong c names = (n : FileName) → c n ≢ None → Contains names n

-- each newest commit file, and each segment that it names, is there
abbrev pub HasNamed : Image → Committed → Type 0
HasNamed c s = (n : FileName) → Contains (named_files s.taxonomy s.label_parts s.index s.kept) n → c n ≢ None

-- if these were there, and the files before were those listed, the files after are those listed
abbrev pub StaysListed : {D : Type 0} → Ghosts D → CommitterView D → CommitterView D → Type 0
StaysListed disk old new = OfBoth disk old.disk new.disk (λ s u.
    HasNamed s.files old.state → AreListed s.files old.state.listed → AreListed u.files new.state.listed)

-- if a fault ends it: the removed strays are the first ones, and none was removed before all else was done
abbrev pub CutsShort : {D : Type 0} → Ghosts D → CommitterView D → CommitterView D → List (List (List ℕ))
    → List Records → Type 0
CutsShort disk old new view segments = (s : Told) → disk.told old.disk ≡ Some s
    → IsCutShort old.config old.state view segments s (disk.told new.disk)

-- ---- faults

-- a fault of the disk was counted, and the committer is closed with that count
abbrev pub ClosesAt : {D : Type 0} → Ghosts D → CommitterView D → CommitterView D → ℕ → Type 0
ClosesAt disk old new count = Rose (disk.faults old.disk) (disk.faults new.disk) × (count ≡ disk.faults new.disk)
    × (new.closed ≡ Some count)

-- if what is known of the files is true of those on the disk, an I/O error happened
abbrev pub FailsDevice : {D : Type 0} → Ghosts D → CommitterView D → CommitterView D → Type 0
FailsDevice disk old new = (s : Told) → disk.told old.disk ≡ Some s → AreListed s.files old.state.listed
    → Below old.state.next s.files
    → Rose (disk.failures old.disk) (disk.failures new.disk)

-- the last number that a commit takes
abbrev pub last_of : {D : Type 0} → CommitterView D → List (List (List ℕ)) → List Records → ℕ
last_of old view segments = last_number old.config old.state view segments

-- it is too great, and at most a little above the next one
abbrev pub IsSpentAt : ℕ → ℕ → ℕ → Type 0
IsSpentAt next last number = (number ≡ last) × (2 ^ 63 ≤ number) × (number < next + 1000003)

-- if it is too great, the commit fails: with the number, or out of memory
abbrev pub IsRefusedAt : {T : Type 0} → ℕ → Result T CommitFault → Type 0
IsRefusedAt last result = 2 ^ 63 ≤ last → IfErr result (λ e. e ≢ NoMemory → e ≡ NumbersSpent last) × OnOk result ⊥
