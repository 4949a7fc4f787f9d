use Rattle.std.proofs.Common.{refl, ap, Err, sym, subst, ◌≡◌, None}
use Rattle.live_io.specs.Unread.{Unread, first_feed}
use Rattle.live_serving.specs.FirstLine.{GoesOnReading}
use Rattle.live_serving.specs.declared.first_line.FirstFault.TheVariants.{Read}
use Rattle.live_serving.proofs.First.{fails_read, fails_room, finds}
use Rattle.live_serving.proofs.Reading.{WasFilled}
use Rattle.live_serving.proofs.first_line.read_piece.Goals as goal

pub returns-in-Ok : goal.returns-in-Ok
returns-in-Ok g c = λ before going.
    let f = c.in-Ok.ensures in
    let filled : WasFilled g.X.Duplex c.in-Ok.count c.args.reader.now c.fill.new.self c.args.io.now c.fill.new.io = record { fills = f.ok; written = f.same_written; reads = f.cause.still (λ no. absurd cc); writes = f.same_faults } in
    finds g.X.Duplex before c.args.io.now c.fill.new.io c.args.reader.now c.fill.new.self c.in-Ok.count c.look.result filled c.look.ensures going

pub returns-in-Err-Failed : goal.returns-in-Err-Failed
returns-in-Err-Failed g c = λ before going.
    let f = c.in-Err-Failed.ensures in
    fails_read g.X.Duplex before c.args.io.now c.fill.new.io c.fill.new.self (subst (λ (u : Unread). GoesOnReading g.X.Duplex before c.args.io.now u) (sym f.same) going) f.same_events f.same_written f.same_faults f.same_left (f.cause.cause (ap Err c.in-Err-Failed.field-0-is))

pub returns-in-Err-NoMemory : goal.returns-in-Err-NoMemory
returns-in-Err-NoMemory g c = λ before going.
    let f = c.in-Err-NoMemory.ensures in
    fails_room g.X.Duplex before c.args.io.now c.fill.new.io c.fill.new.self (subst (λ (u : Unread). GoesOnReading g.X.Duplex before c.args.io.now u) (sym f.same) going) f.same_events f.same_written f.same_faults f.same_left (f.cause.still (λ is. let other = c.in-Err-NoMemory.field-0-is in absurd cc))
