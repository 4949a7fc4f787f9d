-- Where an event of the core is possible.
use Rattle.std.specs.Prelude.{◌≡◌, ◌==◌, ◌*◌, ◌&&◌, nat_lt, not, Bool, true, false, List, [], ◌∷◌, length, is_none}
use Rattle.std.specs.Option.{option_map_or}
use Rattle.facet_names.specs.Labels.{stands, above}
use Rattle.facet_model.specs.Core.{State, CoreEvent, label, append, take_index, take_labels, publish, drop_refresh}
use Rattle.facet_model.specs.Core.{begin_commit, drop_commit, device, crash, step}
use Rattle.facet_model.specs.Histories.{labels_stand}

-- The condition that the definition of the core gives for each event. Where it does not hold, the event changes
-- nothing.
abbrev pub is_possible : State → CoreEvent → Bool
is_possible s (label session path) = not (stands s.labels path) && stands s.labels (above path)
is_possible s (append session change) = labels_stand s.labels change
is_possible s (take_index session) = is_none s.refresh
is_possible s (take_labels session) = option_map_or (λ r. r.session == session && is_none r.labels) s.refresh false
is_possible s (publish session) = option_map_or (λ r. r.session == session && not (is_none r.labels)) s.refresh false
is_possible s (drop_refresh session) = option_map_or (λ r. r.session == session) s.refresh false
is_possible s (begin_commit session) = is_none s.commit && not s.closed
is_possible s drop_commit = option_map_or (λ c. c.calls == 0) s.commit false
is_possible s (device done) = not (is_none s.commit)
is_possible s (crash keep) = nat_lt keep (length s.tax_may * length s.idx_may)

-- each event is possible where it comes
abbrev pub are_possible : State → List CoreEvent → Bool
are_possible s [] = true
are_possible s (event ∷ events) = is_possible s event && are_possible (step s event) events

-- an event that is not possible changes nothing
abbrev pub ImpossibleChangesNothing : Type 0
ImpossibleChangesNothing = (s : State) (event : CoreEvent) → is_possible s event ≡ false → step s event ≡ s
