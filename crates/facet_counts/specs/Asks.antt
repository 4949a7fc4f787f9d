-- Why an ask is refused, as the definition says it.
use Rattle.std.specs.Prelude.{Option, Some, None, Result, Ok, Err}
use Rattle.facet_model.specs.Asks as asks
use Rattle.facet_counts.specs.declared.ask.AskFault.{AskFault}
use Rattle.facet_counts.specs.declared.ask.AskFault.TheVariants as faults

abbrev pub fault_view : AskFault → asks.AskFault
fault_view faults.TopZero = asks.top_of_none
fault_view faults.DimValueNotKept = asks.value_not_kept

-- what a check refused
abbrev pub refused : Result (Unit {0}) AskFault → Option asks.AskFault
refused (Ok u) = None
refused (Err e) = Some (fault_view e)
