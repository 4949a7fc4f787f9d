-- An event that is not possible changes nothing.
use Rattle.std.proofs.Common.{◌≡◌, ℕ, Bool, true, false, Option, Some, None, refl}
use Rattle.std.specs.Prelude.{◌==◌, ◌&&◌, is_none, not}
use Rattle.std.specs.Option.{option_map_or}
use Rattle.facet_model.specs.Core.{State, CoreEvent, Refresh, Commit, label, append, take_index, take_labels, publish, drop_refresh, begin_commit, drop_commit, device, crash, step, with_device, with_index, with_labels_taken, with_publication, without_commit, without_refresh}
use Rattle.core_runs.specs.Possible.{is_possible}

no_index : (s : State) (session : ℕ) (r : Option Refresh) → is_none r ≡ false → with_index s session r ≡ s
no_index s session None e = absurd cc
no_index s session (Some r) e = refl

no_labels : (s : State) (session : ℕ) (r : Option Refresh) → option_map_or (λ r. r.session == session && is_none r.labels) r false ≡ false → with_labels_taken s session r ≡ s
no_labels s session None e = refl
no_labels s session (Some r) e = rw e refl

no_publication : (s : State) (session : ℕ) (r : Option Refresh) → option_map_or (λ r. r.session == session && not (is_none r.labels)) r false ≡ false → with_publication s session r ≡ s
no_publication s session None e = refl
no_publication s session (Some r) e = by (r.session == session) refl r.labels refl e
  where
    by : (b : Bool) → (r.session == session) ≡ b → (m : Option ℕ) → r.labels ≡ m → (b && not (is_none m)) ≡ false → with_publication s session (Some r) ≡ s
    by false f m g e = rw f refl
    by true f None g e = rw (f, g) refl
    by true f (Some m) g e = absurd cc

no_drop : (s : State) (session : ℕ) (r : Option Refresh) → option_map_or (λ r. r.session == session) r false ≡ false → without_refresh s session r ≡ s
no_drop s session None e = refl
no_drop s session (Some r) e = rw e refl

no_drop_commit : (s : State) (c : Option Commit) → option_map_or (λ c. c.calls == 0) c false ≡ false → without_commit s c ≡ s
no_drop_commit s None e = refl
no_drop_commit s (Some c) e = rw e refl

no_device : (s : State) (done : Bool) (c : Option Commit) → not (is_none c) ≡ false → with_device s done c ≡ s
no_device s true None e = refl
no_device s false None e = refl
no_device s done (Some c) e = absurd cc

pub changes_nothing : (s : State) (event : CoreEvent) → is_possible s event ≡ false → step s event ≡ s
changes_nothing s (label session path) e = rw e refl
changes_nothing s (append session change) e = rw e refl
changes_nothing s (take_index session) e = no_index s session s.refresh e
changes_nothing s (take_labels session) e = no_labels s session s.refresh e
changes_nothing s (publish session) e = no_publication s session s.refresh e
changes_nothing s (drop_refresh session) e = no_drop s session s.refresh e
changes_nothing s (begin_commit session) e = rw e refl
changes_nothing s drop_commit e = no_drop_commit s s.commit e
changes_nothing s (device done) e = no_device s done s.commit e
changes_nothing s (crash keep) e = rw e refl
