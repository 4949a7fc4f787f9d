-- Where a plan leads.
use Rattle.std.specs.Prelude.{◌≡◌, Some}
use Rattle.facet_disk.specs.declared.disk.Disk.{Ghosts}
use Rattle.facet_disk.specs.Images.{Told}
use Rattle.commit_calls.specs.declared.plan.Plan.{Plan}
use Rattle.commit_calls.specs.Held.{Held}
use Rattle.commit_calls.specs.Moments.{IsAt}
use Rattle.commit_calls.specs.Plans.{Leads}

-- This holds for a disk whose files are known and whose images all represent a taxonomy and an index, and for a
-- taxonomy and an index that the plan leads to.
abbrev pub WhereItLeads : {D : Type 0} → Ghosts D → Plan → D → (Held → Held → Held → Held → Type 0) → Type 0
WhereItLeads disk p old holds = (s : Told) (t i t' i' : Held) → disk.told old ≡ Some s → Leads p t i t' i'
    → IsAt disk.may_leave p.from t i old → holds t i t' i'
