use Rattle.std.proofs.Common.{refl, ap, sym, Err, rules}
use Rattle.live_serving.proofs.Reading.{WasFilled, WasFlushed, fill_fails, got_fails, got_goes_on, read_fails}
use Rattle.live_serving.proofs.Steps.{flush_fails}
use Rattle.live_serving.proofs.line_phases.LinePhases.read_on.Goals as goal

pub returns-in-Ok-fill-clause-ok : goal.returns-in-Ok-fill-clause-ok
returns-in-Ok-fill-clause-ok g c =
    let e = c.in-Ok.ensures in
    let f = c.in-Ok-fill.ensures in
    let flushed : WasFlushed g.X.Duplex c.args.io.now c.flush.new.self = record { events = e.notes; keeps = e.same_written; left = e.same_left; reads = e.same_faults; writes = e.cause.still (λ no. absurd cc) } in
    let filled : WasFilled g.X.Duplex c.in-Ok-fill.count c.args.self.now.reader c.fill.new.self c.flush.new.self c.fill.new.io = record { fills = f.ok; written = f.same_written; reads = f.cause.still (λ no. absurd cc); writes = f.same_faults } in
    got_goes_on g.X.Duplex c.args.self.now c.args.io.now c.flush.new.self c.fill.new.io c.take_got.new.self (record c.args.self.now { reader = c.fill.new.self }) c.in-Ok-fill.count c.take_got.result flushed filled c.requires refl refl refl
    c.take_got.ensures.only_reads c.take_got.ensures.ok

pub returns-in-Ok-fill-clause-failed : goal.returns-in-Ok-fill-clause-failed
returns-in-Ok-fill-clause-failed g c =
    let e = c.in-Ok.ensures in
    let f = c.in-Ok-fill.ensures in
    let flushed : WasFlushed g.X.Duplex c.args.io.now c.flush.new.self = record { events = e.notes; keeps = e.same_written; left = e.same_left; reads = e.same_faults; writes = e.cause.still (λ no. absurd cc) } in
    let filled : WasFilled g.X.Duplex c.in-Ok-fill.count c.args.self.now.reader c.fill.new.self c.flush.new.self c.fill.new.io = record { fills = f.ok; written = f.same_written; reads = f.cause.still (λ no. absurd cc); writes = f.same_faults } in
    got_fails g.X.Duplex c.args.self.now c.args.io.now c.flush.new.self c.fill.new.io c.take_got.new.self (record c.args.self.now { reader = c.fill.new.self }) c.in-Ok-fill.count c.take_got.result flushed filled c.requires refl c.take_got.ensures.err

pub returns-in-Err-Failed-clause-failed : goal.returns-in-Err-Failed-clause-failed
returns-in-Err-Failed-clause-failed g c =
    let e = c.in-Ok.ensures in
    let f = c.in-Err-Failed.ensures in
    let flushed : WasFlushed g.X.Duplex c.args.io.now c.flush.new.self = record { events = e.notes; keeps = e.same_written; left = e.same_left; reads = e.same_faults; writes = e.cause.still (λ no. absurd cc) } in
    read_fails g.X.Duplex c.args.self.now c.args.io.now c.flush.new.self c.fill.new.io c.args.self.now flushed f.same_events f.same_written f.same_left f.same_faults (f.cause.cause (ap Err c.in-Err-Failed.field-0-is)) c.requires

pub returns-in-Err-NoMemory-clause-failed : goal.returns-in-Err-NoMemory-clause-failed
returns-in-Err-NoMemory-clause-failed g c =
    let e = c.in-Ok.ensures in
    let f = c.in-Err-NoMemory.ensures in
    let flushed : WasFlushed g.X.Duplex c.args.io.now c.flush.new.self = record { events = e.notes; keeps = e.same_written; left = e.same_left; reads = e.same_faults; writes = e.cause.still (λ no. absurd cc) } in
    fill_fails g.X.Duplex c.args.self.now c.args.io.now c.flush.new.self c.fill.new.io c.args.self.now flushed f.same_events f.same_written f.same_left f.same_faults (f.cause.still (λ is. let other = c.in-Err-NoMemory.field-0-is in absurd cc))

pub returns-in-Err-clause-failed : goal.returns-in-Err-clause-failed
returns-in-Err-clause-failed g c = λ b items replies l going.
    let e = c.in-Err.ensures in
    flush_fails g.X.Duplex b c.args.self.now c.args.io.now c.flush.new.self items replies l going c.requires e.notes e.same_written e.same_left e.same_faults (e.cause.cause refl)
