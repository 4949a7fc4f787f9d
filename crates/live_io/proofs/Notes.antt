-- Events that are kept with the newest last.
use Rattle.std.proofs.Common.{◌≡◌, List, [], ◌∷◌, ◌++◌, map, reverse, ap, ◌∙◌}
use Rattle.std.proofs.lemmas.List.{reverse-append}
use Rattle.live_io.specs.Events.{Event}
use Rattle.live_io.specs.EventViews.{event_view, events_view}
use Rattle.live_io.specs.declared.memory.DuplexEvent.{DuplexEvent}

pub one_more : (old new : List DuplexEvent) (e : Event) → map event_view new ≡ map event_view old ++ e ∷ [] → events_view new ≡ e ∷ events_view old
one_more old new e is = ap reverse is ∙ reverse-append (map event_view old) (e ∷ [])
