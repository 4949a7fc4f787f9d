-- Every event keeps the core valid, and so does every list of events.
use Rattle.std.proofs.Common.{List, [], ◌∷◌, refl}
use Rattle.std.specs.Prelude.{fold}
use Rattle.facet_model.specs.Core.{State, empty_core, CoreEvent, label, append, take_index, take_labels, publish, drop_refresh, begin_commit, drop_commit, device, crash, step}
use Rattle.facet_model.specs.CoreStates.{Valid}
use Rattle.facet_core.proofs.Kept.{keeps_take_index, keeps_take_labels, keeps_publish, keeps_drop_refresh, keeps_begin_commit, keeps_drop_commit}
use Rattle.facet_core.proofs.KeptLabels.{keeps_label}
use Rattle.facet_core.proofs.KeptOperations.{keeps_append}
use Rattle.facet_core.proofs.KeptDevice.{keeps_device}
use Rattle.facet_core.proofs.KeptCrash.{keeps_crash}

pub keeps_step : (s : State) (e : CoreEvent) → Valid s → Valid (step s e)
keeps_step s (label session path) v = keeps_label s path v
keeps_step s (append session change) v = keeps_append s session change v
keeps_step s (take_index session) v = keeps_take_index s session s.refresh v
keeps_step s (take_labels session) v = keeps_take_labels s session s.refresh refl v
keeps_step s (publish session) v = keeps_publish s session s.refresh refl v
keeps_step s (drop_refresh session) v = keeps_drop_refresh s session s.refresh v
keeps_step s (begin_commit session) v = keeps_begin_commit s v
keeps_step s drop_commit v = keeps_drop_commit s s.commit v
keeps_step s (device done) v = keeps_device s done s.commit refl v
keeps_step s (crash keep) v = keeps_crash s keep v

pub keeps_run : (s : State) (events : List CoreEvent) → Valid s → Valid (fold step s events)
keeps_run s [] v = v
keeps_run s (e ∷ events) v = keeps_run (step s e) events (keeps_step s e v)

pub valid_from_empty : (events : List CoreEvent) → Valid (fold step empty_core events)
valid_from_empty events = keeps_run empty_core events (record { labels = refl; known = refl; published = refl; refresh = refl; commit = refl; calls = refl; renamed = refl; tax_may = refl; idx_may = refl; kept = refl; tax_read = refl; idx_read = refl })
