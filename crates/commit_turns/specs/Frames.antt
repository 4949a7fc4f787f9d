-- What never changes of the commits chronicle's value.
use Rattle.std.specs.Prelude.{◌≡◌, ℕ, [], ◌∷◌}
use Rattle.atomic_table.specs.Seated.{TableId}
use Rattle.chronicle.specs.Frame.{Frame}
use Rattle.facet_disk.specs.declared.disk.Disk.{Ghosts}
use Rattle.facet_model.specs.Flags.{Config}
use Rattle.commit_store.specs.Committers.{CommitterView}
use Rattle.facet_model.specs.ConfigTexts.{config_texts}

-- the first file number that a commit may take, the disk's moment and its counts of faults and of failures when opening
-- began, the config, and the other two chronicles
abbrev pub commits_frame : ℕ → ℕ → ℕ → ℕ → Config → TableId → TableId → Frame
commits_frame first moment faults failures config operations labels = record {
  numbers = first ∷ moment ∷ faults ∷ failures ∷ [];
  texts = config_texts config;
  identities = operations ∷ labels ∷ [];
}

-- these are the first file number that a commit may take, and the moment and the counts when opening began
abbrev pub HasNumbers : ℕ → ℕ → ℕ → ℕ → Frame → Type 0
HasNumbers first moment faults failures frame = frame.numbers ≡ first ∷ moment ∷ faults ∷ failures ∷ []

-- the frame over a committer that was opened, with the disk as it was when opening began
abbrev pub begun_frame : {D : Type 0} → Ghosts D → D → CommitterView D → TableId → TableId → Frame
begun_frame disk start begun operations labels = commits_frame begun.state.next (disk.moment start) (disk.faults start)
    (disk.failures start) begun.config operations labels
