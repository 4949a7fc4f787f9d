use Rattle.facet_disk.specs.declared.fault.DiskFault.{DiskFault}
use Rattle.std.proofs.Common.{subst, ap}
use Rattle.facet_disk.specs.Memory.{MemoryState, DidNothing}
use Rattle.facet_disk.specs.declared.change.Change.TheVariants.{Synced}
use Rattle.facet_disk.specs.CallCounts.{counted, with_failure}
use Rattle.facet_disk.proofs.Noting.{begun_time, counting_time, counted_noted, noted_time}
use Rattle.facet_disk.proofs.memory.MemoryDiskDisk.sync.Goals as goal

pub returns-in_err-begin-clause-time : goal.returns-in_err-begin-clause-time
returns-in_err-begin-clause-time c = begun_time c.args.self.now c.begin.new.self (with_failure (counted c.args.self.now.calls))
    (subst (λ (f : DiskFault). DidNothing c.args.self.now c.begin.new.self f) c.in_err-begin.ensures.kind c.in_err-begin.ensures.err)

pub returns-in-Some-clause-time : goal.returns-in-Some-clause-time
returns-in-Some-clause-time c =
    let new : MemoryState = record { start = c.self.inside.start.items; changes = c.self.inside.changes.items; calls = c.count_fault.new.self; clock = c.self.inside.clock } in
    counting_time c.args.self.now c.begin.new.self (counted c.args.self.now.calls) c.in_ok-begin.ensures.ok new
    (ap (λ (d : MemoryState). d.start) c.self.view_is) (ap (λ (d : MemoryState). d.changes) c.self.view_is) (ap (λ (d : MemoryState). d.clock) c.self.view_is)

pub returns-clause-time : goal.returns-clause-time
returns-clause-time c = noted_time (Synced c.args.name) c.args.self.now c.begin.new.self c.note.new.self c.note.result c.in_ok-begin.ensures.ok (λ is. cc (c.in_ok-begin.ensures.fails.1 is))
    (record {
      calls = c.note.ensures.calls;
      start = c.note.ensures.start;
      clock = c.note.ensures.clock;
      noted = c.note.ensures.noted;
      err = c.note.ensures.err;
      kind = c.note.ensures.kind;
    })

pub returns-clause-call : goal.returns-clause-call
returns-clause-call c = counted_noted (Synced c.args.name) c.args.self.now c.begin.new.self c.note.new.self c.note.result c.in_ok-begin.ensures.ok (λ is. cc (c.in_ok-begin.ensures.fails.1 is))
    (record {
      calls = c.note.ensures.calls;
      start = c.note.ensures.start;
      clock = c.note.ensures.clock;
      noted = c.note.ensures.noted;
      err = c.note.ensures.err;
      kind = c.note.ensures.kind;
    })
