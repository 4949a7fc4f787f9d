-- The plain data of events that are kept in memory.
use Rattle.std.specs.Prelude.{List, map, reverse}
use Rattle.live_io.specs.Events.{Event, got, put, flushed}
use Rattle.live_io.specs.declared.memory.DuplexEvent.{DuplexEvent}
use Rattle.live_io.specs.declared.memory.DuplexEvent.TheVariants.{Got, Put, Flushed}

abbrev pub event_view : DuplexEvent → Event
event_view (Got bytes) = got bytes.items
event_view (Put bytes) = put bytes.items
event_view Flushed = flushed

-- those of a list with the newest last
abbrev pub events_view : List DuplexEvent → List Event
events_view events = reverse (map event_view events)
