use Rattle.std.proofs.Common.{◌≡◌, take, map}
use Rattle.std.specs.Prelude.{flat_map}
use Rattle.live_lines.specs.FaultLines.{line_fault_line}
use Rattle.live_lines.specs.Views.{line_fault_view}
use Rattle.live_serving.proofs.line_phases.lines_of_faults.Given as goal

abbrev pub invariant-loop-fault : goal.invariant-loop-fault
invariant-loop-fault l = l.lines.items ≡ flat_map line_fault_line (map line_fault_view (take l.fault-index l.faults))
