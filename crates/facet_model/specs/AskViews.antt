-- The plain data of asks.
use Rattle.facet_model.specs.declared.ask.Ask.{Ask}
use Rattle.facet_model.specs.declared.ask.Ask.TheVariants as asks
use Rattle.facet_model.specs.Asks.{Asked, top, one_value, all_dims}

abbrev pub ask_view : Ask → Asked
ask_view (asks.Top path n) = top path n
ask_view (asks.Specific path) = one_value path
ask_view (asks.AllDims n) = all_dims n
