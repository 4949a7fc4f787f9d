-- What a disk reads after a commit.
use Rattle.std.specs.Prelude.{ℕ, List, Option}
use Rattle.facet_disk.specs.Images.{Told}
use Rattle.facet_model.specs.Flags.{Config}
use Rattle.facet_model.specs.Stored.{Records}
use Rattle.commit_calls.specs.Outcomes.{parts_told, cleared_told, EndsEarly}
use Rattle.commit_plan.specs.Committed.{Committed}
use Rattle.commit_plan.specs.Drafts.{drafted, labels_number, index_number, strays_after}

-- the files of a commit were written, and its pending files became the newest commit files: the taxonomy's, then the
-- index's
abbrev pub published_by : Config → Committed → List (List (List ℕ)) → List Records → Told → Told
published_by config old view segments = parts_told (drafted config old view segments).files (labels_number old view)
    (index_number old view segments)

-- last, its strays were removed
abbrev pub committed_told : Config → Committed → List (List (List ℕ)) → List Records → Told → Told
committed_told config old view segments s = cleared_told (strays_after config old view segments)
    (published_by config old view segments s)

-- A commit that ended early: the files of before are untouched; or all else is done, and the first k strays are
-- removed.
abbrev pub IsCutShort : Config → Committed → List (List (List ℕ)) → List Records → Told → Option Told → Type 0
IsCutShort config old view segments s now = EndsEarly old.next (strays_after config old view segments)
    (published_by config old view segments s) s now
