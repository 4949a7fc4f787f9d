-- The plain data of events and of the core's parts.
use Rattle.std.specs.Prelude.{ℕ, ◌*◌, ◌/◌, ◌%◌, nat_lt, if◌then◌else◌, length, slice_index, slice_index_or, Option}
use Rattle.std.specs.Prelude.{Some, None}
use Rattle.facet_model.specs.Core as plain
use Rattle.facet_model.specs.Histories as histories
use Rattle.facet_model.specs.ChangeViews.{change_view}
use Rattle.facet_core.specs.declared.event.Event.{Event}
use Rattle.facet_core.specs.declared.event.Event.TheVariants.{Label, Append, TakeIndex, TakeLabels, Publish}
use Rattle.facet_core.specs.declared.event.Event.TheVariants.{DropRefresh, BeginCommit, DropCommit, Device, Crash}
use Rattle.facet_core.specs.declared.parts.Publication.{Publication}
use Rattle.facet_core.specs.declared.parts.Operation.{Operation}
use Rattle.facet_core.specs.declared.parts.Refresh.{Refresh}
use Rattle.facet_core.specs.declared.parts.Commit.{Commit}

abbrev pub event_view : Event → plain.CoreEvent
event_view (Label session path) = plain.label session path
event_view (Append session change) = plain.append session (change_view change)
event_view (TakeIndex session) = plain.take_index session
event_view (TakeLabels session) = plain.take_labels session
event_view (Publish session) = plain.publish session
event_view (DropRefresh session) = plain.drop_refresh session
event_view (BeginCommit session) = plain.begin_commit session
event_view DropCommit = plain.drop_commit
event_view (Device done) = plain.device done
event_view (Crash keep) = plain.crash keep

abbrev pub pair : Publication → ℕ × ℕ
pair p = (p.operations, p.labels)

abbrev pub operation_view : Operation → histories.Operation
operation_view o = record { session = o.session; change = change_view o.change }

abbrev pub refresh_view : Refresh → plain.Refresh
refresh_view r = record { session = r.session; operations = r.operations; labels = r.labels }

abbrev pub commit_view : Commit → plain.Commit
commit_view c = record { operations = c.operations; labels = c.labels; calls = c.calls }

-- what a crash keeps of the labels and of the operations, if its number is one of the choices
abbrev pub kept_by : plain.State → ℕ → Option (ℕ × (ℕ × ℕ))
kept_by s keep = let l = length s.idx_may in
    if nat_lt keep (length s.tax_may * l)
    then Some (slice_index s.tax_may (keep / l), slice_index_or s.idx_may (keep % l) s.idx_read) else None
