use Rattle.facet_disk.specs.declared.fault.DiskFault.{DiskFault}
use Rattle.std.proofs.Common.{subst, ap}
use Rattle.facet_disk.specs.Memory.{MemoryState, DidNothing}
use Rattle.facet_disk.specs.CallCounts.{counted, with_failure}
use Rattle.facet_disk.proofs.Noting.{begun_time, counting_time}
use Rattle.facet_disk.proofs.memory.MemoryDiskDisk.read.Goals as goal

pub returns-in_err-begin-clause-time : goal.returns-in_err-begin-clause-time
returns-in_err-begin-clause-time c = begun_time c.args.self.now c.begin.new.self (with_failure (counted c.args.self.now.calls))
    (subst (λ (f : DiskFault). DidNothing c.args.self.now c.begin.new.self f) c.in_err-begin.ensures.kind c.in_err-begin.ensures.err)

pub returns-after-to_vec-clause-time : goal.returns-after-to_vec-clause-time
returns-after-to_vec-clause-time c = begun_time c.args.self.now c.begin.new.self (counted c.args.self.now.calls) c.in_ok-begin.ensures.ok

pub returns-in-None-clause-time : goal.returns-in-None-clause-time
returns-in-None-clause-time c =
    let new : MemoryState = record { start = c.self.inside.start.items; changes = c.self.inside.changes.items; calls = c.count_fault.new.self; clock = c.self.inside.clock } in
    counting_time c.args.self.now c.begin.new.self (counted c.args.self.now.calls) c.in_ok-begin.ensures.ok new
    (ap (λ (d : MemoryState). d.start) c.self.view_is) (ap (λ (d : MemoryState). d.changes) c.self.view_is) (ap (λ (d : MemoryState). d.clock) c.self.view_is)
