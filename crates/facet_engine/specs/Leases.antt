-- Leases under their names, as contracts see them.
use Rattle.std.specs.Prelude.{List, map, string_bytes}
use Rattle.facet_engine.specs.declared.held.Held.{Held}
use Rattle.facet_engine.specs.HeldPairs.{HeldPair}

abbrev pub pairs_in : List Held → List HeldPair
pairs_in items = map (λ h. record { name = string_bytes h.name; pair = h.lease }) items
