use Rattle.std.proofs.Common.{◌≤◌, ◌-◌, length}
use Rattle.seg_postings.specs.Steps.{IsFirstFrom}
use Rattle.seg_postings.specs.Bytes.{places_of}
use Rattle.seg_postings.proofs.search.reach.Given as goal

abbrev pub invariant-loop-step : goal.invariant-loop-step
invariant-loop-step l = record { first : IsFirstFrom l.place (places_of l.places) l.low (length l.places); low : l.low ≤ length l.places; step : 1 ≤ l.step }

abbrev pub decreases-loop-step : goal.decreases-loop-step
decreases-loop-step l = length l.initial.places - l.low
