-- The ends of a run whose words and script were read.
use Rattle.std.proofs.Common.{◌≡◌, ◌∙◌, ℕ, List, length, Option, Some, None, Ok, refl, sym, ap, subst, inl, inr, ◌⊎◌, ⊎_elim}
use Rattle.std.specs.Prelude.{◌≢◌, ◌≤◌}
use Rattle.std.specs.Io.KnownBytes.{Consumes, IsAtEnd}
use Rattle.facet_disk.specs.Calls as disk
use Rattle.facet_disk.specs.declared.disk.Disk.{Ghosts}
use Rattle.facet_engine.specs.declared.ending.Trace.{Trace}
use Rattle.facet_io.specs.Faults.{Rose}
use Rattle.facet_io.specs.declared.sink.Sink.{Ghosts as SinkGhosts}
use Rattle.facet_io.specs.declared.source.Source.{Ghosts as SourceGhosts}
use Rattle.facet_words.specs.Commands.{Script}
use Rattle.facet_words.specs.Scripts.{script}
use Rattle.store_opening.specs.declared.fault.OpenFault.{OpenFault}
use Rattle.store_opening.specs.declared.fault.OpenFault.TheVariants as faults
use Rattle.facet_serving.specs.Ends.{EndsBefore, EndsPartly, EndsShort, EndsWhole, RunsSessions, TellsOfStore}
use Rattle.facet_serving.specs.Reading.{ReadsScript, ReadsWhole, script_limit}
use Rattle.facet_serving.specs.Writing.{WritesLine}
use Rattle.facet_serving.specs.Serving.{EndsAs, Serves, StaysShut}
use Rattle.facet_serving.specs.Statuses.{IsOpenLine, fault_status, in_use_line, open_line, status_line}
use Rattle.facet_serving.specs.declared.status.Status.{Status}
use Rattle.facet_serving.specs.declared.status.Status.TheVariants.{Done, WriteFault, DiskFault, BadScript, BadStore, NoMemory, OtherConfig}

-- what was read, as it was taken
pub read_whole : {S : Type 0} (source : SourceGhosts S) (from to : S) (items input : List ℕ) → input ≡ items → Consumes (source.left from) (source.left to) items → IsAtEnd (source.left to) → length items ≤ script_limit
    → ReadsWhole source from to input
read_whole source from to items input same read end fits = subst (λ (bytes : List ℕ). ReadsWhole source from to bytes) (sym same) (record { read = read; end = end; fits = fits })

-- the files have this fault
abbrev pub IsOfFiles : OpenFault → Type 0
IsOfFiles fault = (fault ≢ faults.Disk) × (fault ≢ faults.NoMemory) × ((fault_status fault ≡ BadStore) ⊎ (fault_status fault ≡ OtherConfig))

-- a fault is the disk's, want of memory, or one of the files
pub kind_of : (fault : OpenFault) → (fault ≡ faults.Disk) ⊎ (fault ≡ faults.NoMemory) ⊎ IsOfFiles fault
kind_of faults.Disk = inl refl
kind_of faults.NoMemory = inr (inl refl)
kind_of (faults.Missing name) = inr (inr ((λ e. cc e), (λ e. cc e), inl refl))
kind_of (faults.Damaged name kept digest) = inr (inr ((λ e. cc e), (λ e. cc e), inl refl))
kind_of (faults.Malformed name at) = inr (inr ((λ e. cc e), (λ e. cc e), inl refl))
kind_of (faults.Uncovered needs has) = inr (inr ((λ e. cc e), (λ e. cc e), inl refl))
kind_of (faults.NumbersSpent greatest) = inr (inr ((λ e. cc e), (λ e. cc e), inl refl))
kind_of (faults.OtherConfig dim) = inr (inr ((λ e. cc e), (λ e. cc e), inr refl))

-- only the disk's fault ends so
disk_of : (fault : OpenFault) → fault_status fault ≡ DiskFault → (fault ≡ faults.Disk) ⊎ (fault ≡ faults.NoMemory) ⊎ IsOfFiles fault → fault ≡ faults.Disk
disk_of fault ends (inl is) = is
disk_of fault ends (inr (inl is)) = absurd (let e : NoMemory ≡ DiskFault = sym (ap fault_status is) ∙ ends in cc e)
disk_of fault ends (inr (inr of_files)) = absurd (⊎_elim (λ is. cc (sym is ∙ ends)) (λ is. cc (sym is ∙ ends)) of_files.2)

-- only a fault of the files ends so
files_of : (fault : OpenFault) (status : Status) → fault_status fault ≡ status → (status ≡ BadStore) ⊎ (status ≡ OtherConfig) → (fault ≡ faults.Disk) ⊎ (fault ≡ faults.NoMemory) ⊎ IsOfFiles fault → IsOfFiles fault
files_of fault status ends which (inl is) = absurd (let e : DiskFault ≡ status = sym (ap fault_status is) ∙ ends in ⊎_elim (λ w. cc (e ∙ w)) (λ w. cc (e ∙ w)) which)
files_of fault status ends which (inr (inl is)) = absurd (let e : NoMemory ≡ status = sym (ap fault_status is) ∙ ends in ⊎_elim (λ w. cc (e ∙ w)) (λ w. cc (e ∙ w)) which)
files_of fault status ends which (inr (inr of_files)) = of_files

-- the line of a fault of the files is its own
line_is : (fault : OpenFault) (line : List ℕ) → IsOfFiles fault → IsOpenLine fault line → line ≡ open_line fault
line_is faults.Disk line of_files is = absurd (of_files.0 refl)
line_is faults.NoMemory line of_files is = absurd (of_files.1 refl)
line_is (faults.Missing name) line of_files is = is
line_is (faults.Damaged name kept digest) line of_files is = is
line_is (faults.Malformed name at) line of_files is = is
line_is (faults.Uncovered needs has) line of_files is = is
line_is (faults.NumbersSpent greatest) line of_files is = is
line_is (faults.OtherConfig dim) line of_files is = is

shut_apart : (fault : OpenFault) → (fault ≡ faults.Disk) ⊎ (fault ≡ faults.NoMemory) ⊎ IsOfFiles fault → (status : Status) → (status ≡ Done) ⊎ (status ≡ WriteFault) → fault_status fault ≡ status → ⊥
shut_apart fault (inl same) status which ends = let is : DiskFault ≡ status = sym (ap fault_status same) ∙ ends in ⊎_elim (λ w. cc (is ∙ w)) (λ w. cc (is ∙ w)) which
shut_apart fault (inr (inl same)) status which ends = let is : NoMemory ≡ status = sym (ap fault_status same) ∙ ends in ⊎_elim (λ w. cc (is ∙ w)) (λ w. cc (is ∙ w)) which
shut_apart fault (inr (inr of_files)) status which ends = ⊎_elim
    (λ same. let is : BadStore ≡ status = sym same ∙ ends in ⊎_elim (λ w. cc (is ∙ w)) (λ w. cc (is ∙ w)) which)
    (λ same. let is : OtherConfig ≡ status = sym same ∙ ends in ⊎_elim (λ w. cc (is ∙ w)) (λ w. cc (is ∙ w)) which) of_files.2

-- ---- how its sessions end

module _ {D S K : Type 0} (ghosts : Ghosts D) (s : Script) (input : List ℕ) (source : SourceGhosts S) (from to : S) (old new : D)
    (sink : SinkGhosts K) (before now : K) (left : Option Trace) (status : Status) where
  abbrev End : Type 0
  End = Serves ghosts s old new sink before now left status ⊎ StaysShut ghosts s old new sink before now left status

  abbrev As : Trace → Status → Type 0
  As trace t = EndsAs ghosts s old new sink before now trace t

  -- the sessions end in one of three ways
  which_of : (trace : Trace) (t : Status) → As trace t → (t ≡ Done) ⊎ (t ≡ WriteFault) ⊎ (t ≡ NoMemory)
  which_of trace Done e = inl refl
  which_of trace WriteFault e = inr (inl refl)
  which_of trace NoMemory e = inr (inr refl)
  which_of trace _ e = absurd e

  as_now : (e : Serves ghosts s old new sink before now left status) (t : Status) → status ≡ t → As e.trace t
  as_now e t ends = subst (λ (u : Status). As e.trace u) ends e.ended

  -- it ended without sessions
  shut_not : StaysShut ghosts s old new sink before now left status → (status ≡ Done) ⊎ (status ≡ WriteFault) → ⊥
  shut_not e which = ⊎_elim (λ c. shut_apart c.0 (kind_of c.0) status which c.1)
      (λ c. ⊎_elim (λ w. let is : NoMemory ≡ Done = sym c.0 ∙ w in cc is) (λ w. let is : NoMemory ≡ WriteFault = sym c.0 ∙ w in cc is) which) e.cause

  -- of a store that was opened
  not_shut : Serves ghosts s old new sink before now left status → (status ≡ DiskFault) ⊎ (status ≡ BadStore) ⊎ (status ≡ OtherConfig) → ⊥
  not_shut e which = ⊎_elim (λ d. as_now e DiskFault d) (λ more. ⊎_elim (λ b. as_now e BadStore b) (λ o. as_now e OtherConfig o) more) which

  module _ (read : ReadsWhole source from to input) (is : script input ≡ Ok s) where
    runs : (ends : Script → Trace → Type 0) (e : Serves ghosts s old new sink before now left status) → ends s e.trace → RunsSessions source from to left ends
    runs ends e ended = record { input = input; read = read; is = s; script_is = is; trace = e.trace; trace_is = e.trace_is; ended = ended }

    pub done : End → status ≡ Done → RunsSessions source from to left (λ s trace. EndsWhole ghosts s trace old new sink before now)
    done (inl e) ends = runs (λ s trace. EndsWhole ghosts s trace old new sink before now) e (as_now e Done ends)
    done (inr e) ends = absurd (shut_not e (inl ends))

    pub write_fault : End → status ≡ WriteFault → RunsSessions source from to left (λ s trace. EndsPartly ghosts s trace old new sink before now)
    write_fault (inl e) ends = runs (λ s trace. EndsPartly ghosts s trace old new sink before now) e (as_now e WriteFault ends)
    write_fault (inr e) ends = absurd (shut_not e (inr ends))

    pub no_memory : End → status ≡ NoMemory → RunsSessions source from to left (λ s trace. EndsShort ghosts s trace old new sink before now) ⊎ EndsBefore ghosts old new left
    no_memory (inl e) ends = inl (runs (λ s trace. EndsShort ghosts s trace old new sink before now) e (as_now e NoMemory ends))
    no_memory (inr e) ends = inr (e.no_trace, e.quiet)

    pub quiet : End → (status ≡ Done) ⊎ (status ≡ WriteFault) ⊎ (status ≡ NoMemory) ⊎ EndsBefore ghosts old new left
    quiet (inl e) = ⊎_elim (λ d. inl d) (λ more. ⊎_elim (λ w. inr (inl w)) (λ n. inr (inr (inl n))) more) (which_of e.trace status e.ended)
    quiet (inr e) = inr (inr (inr (e.no_trace, e.quiet)))

    pub not_opened : End → (status ≡ BadStore) ⊎ (status ≡ OtherConfig) → TellsOfStore ghosts source from to sink before now old status
    not_opened (inl e) which = absurd (not_shut e (inr which))
    not_opened (inr e) which = ⊎_elim
        (λ c.
        let files = files_of c.0 status c.1 which (kind_of c.0) in
        record { input = input; read = read; is = s; script_is = is; fault = c.0; ends = c.1; sound = c.2.3; stored = c.2.1 files.1 files.0; written = subst (λ (l : List ℕ). WritesLine sink before now l) (line_is c.0 c.3.line files c.3.is) c.3.written })
        (λ c. absurd (⊎_elim (λ b. let is : NoMemory ≡ BadStore = sym c.0 ∙ b in cc is) (λ o. let is : NoMemory ≡ OtherConfig = sym c.0 ∙ o in cc is) which)) e.cause

    -- the line of the status, or that another process has the store
    abbrev TellsStatus : Type 0
    TellsStatus = (status ≡ BadScript) ⊎ (status ≡ BadStore) ⊎ (status ≡ OtherConfig) ⊎ WritesLine sink before now (status_line status) ⊎ ((status ≡ DiskFault) × WritesLine sink before now in_use_line)

    -- it is written
    written_as : (line own : List ℕ) → line ≡ own → WritesLine sink before now line → WritesLine sink before now own
    written_as line own is written = subst (λ (l : List ℕ). WritesLine sink before now l) is written

    -- the line of a fault that ends so
    line_of : (fault : OpenFault) (line : List ℕ) → fault_status fault ≡ status → IsOpenLine fault line → WritesLine sink before now line → (fault ≡ faults.Disk) ⊎ (fault ≡ faults.NoMemory) ⊎ IsOfFiles fault → TellsStatus
    line_of fault line ends which written (inl same) =
        let of_disk : DiskFault ≡ status = sym (ap fault_status same) ∙ ends in
        ⊎_elim (λ own. inr (inr (inr (inl (written_as line (status_line status) (own ∙ ap status_line of_disk) written)))))
        (λ busy. inr (inr (inr (inr (sym of_disk, written_as line in_use_line busy written)))))
        (subst (λ (f : OpenFault). IsOpenLine f line) same which)
    line_of fault line ends which written (inr (inl same)) =
        let own : line ≡ status_line NoMemory = subst (λ (f : OpenFault). IsOpenLine f line) same which in
        inr (inr (inr (inl (written_as line (status_line status) (own ∙ ap status_line (sym (ap fault_status same) ∙ ends)) written))))
    line_of fault line ends which written (inr (inr of_files)) = ⊎_elim (λ b. inr (inl (sym ends ∙ b))) (λ o. inr (inr (inl (sym ends ∙ o)))) of_files.2

    pub told : End → left ≡ None → TellsStatus
    told (inl e) none = absurd (let both : Some e.trace ≡ None = sym e.trace_is ∙ none in cc both)
    told (inr e) none = ⊎_elim (λ c. line_of c.0 c.3.line c.1 c.3.is c.3.written (kind_of c.0))
        (λ c. inr (inr (inr (inl (subst (λ (l : List ℕ). WritesLine sink before now l) (ap status_line (sym c.0)) c.1))))) e.cause

    pub write_failed : End → status ≡ WriteFault → Rose (sink.faults before) (sink.faults now)
    write_failed (inl e) ends = (as_now e WriteFault ends).0
    write_failed (inr e) ends = absurd (shut_not e (inr ends))

    pub sink_still : End → status ≡ Done → sink.faults now ≡ sink.faults before
    sink_still (inl e) ends = (as_now e Done ends).2
    sink_still (inr e) ends = absurd (shut_not e (inl ends))

    -- the count of a disk stays where its store is not opened, unless it failed
    abbrev IsStill : Type 0
    IsStill = (status ≡ Done) ⊎ (status ≡ WriteFault) ⊎ (status ≡ NoMemory) ⊎ (status ≡ DiskFault) ⊎ (ghosts.faults new ≡ ghosts.faults old)

    shut_still : (fault : OpenFault) → fault_status fault ≡ status → (fault ≢ faults.Disk → ghosts.faults new ≡ ghosts.faults old) → (fault ≡ faults.Disk) ⊎ (fault ≡ faults.NoMemory) ⊎ IsOfFiles fault → IsStill
    shut_still fault ends still (inl same) = inr (inr (inr (inl (sym ends ∙ ap fault_status same))))
    shut_still fault ends still (inr (inl same)) = inr (inr (inl (sym ends ∙ ap fault_status same)))
    shut_still fault ends still (inr (inr of_files)) = inr (inr (inr (inr (still of_files.0))))

    pub disk_still : End → IsStill
    disk_still (inl e) = ⊎_elim (λ d. inl d) (λ more. ⊎_elim (λ w. inr (inl w)) (λ n. inr (inr (inl n))) more) (which_of e.trace status e.ended)
    disk_still (inr e) = ⊎_elim (λ c. shut_still c.0 c.1 c.2.2 (kind_of c.0)) (λ c. inr (inr (inl c.0))) e.cause

    pub disk_failed : End → status ≡ DiskFault → ReadsScript source from to × disk.Rose (ghosts.faults old) (ghosts.faults new)
    disk_failed (inl e) ends = absurd (as_now e DiskFault ends)
    disk_failed (inr e) ends = ⊎_elim (λ c. ((input, s, read, is), c.2.0 (disk_of c.0 (c.1 ∙ ends) (kind_of c.0)))) (λ c. absurd (let is : NoMemory ≡ DiskFault = sym c.0 ∙ ends in cc is)) e.cause
