use Rattle.facet_disk.specs.declared.fault.DiskFault.{DiskFault}
use Rattle.std.proofs.Common.{subst}
use Rattle.facet_disk.specs.Memory.{DidNothing}
use Rattle.facet_disk.specs.CallCounts.{counted, with_failure}
use Rattle.facet_disk.proofs.Noting.{begun_time}
use Rattle.facet_disk.proofs.memory.MemoryDiskDisk.list.Goals as goal

pub returns-in_err-begin-clause-time : goal.returns-in_err-begin-clause-time
returns-in_err-begin-clause-time c = begun_time c.args.self.now c.begin.new.self (with_failure (counted c.args.self.now.calls))
    (subst (λ (f : DiskFault). DidNothing c.args.self.now c.begin.new.self f) c.in_err-begin.ensures.kind c.in_err-begin.ensures.err)

pub returns-clause-time : goal.returns-clause-time
returns-clause-time c = begun_time c.args.self.now c.begin.new.self (counted c.args.self.now.calls) c.in_ok-begin.ensures.ok
