use Rattle.live_serving.proofs.Early.{end_empty, end_long, end_room, end_unread}
use Rattle.live_serving.proofs.serving.leave_at_first.Goals as goal

pub returns-in-Read : goal.returns-in-Read
returns-in-Read g c = λ o from u f.
    let r = c.leave_with.result in
    let e = c.leave_with.ensures in
    end_unread g.X.Duplex g.D.Disk o from c.args.io r.io c.args.disk r.disk r.trace r.status e.disk e.trace u c.args.fault c.in-Read.is f e.status e.puts

pub returns-in-TooLong : goal.returns-in-TooLong
returns-in-TooLong g c = λ o from u f.
    let r = c.leave_with-in-TooLong.result in
    let e = c.leave_with-in-TooLong.ensures in
    end_long g.X.Duplex g.D.Disk o from c.args.io r.io c.args.disk r.disk r.trace r.status e.disk e.trace u c.args.fault c.in-TooLong.is f e.status e.puts

pub returns-in-NoLine : goal.returns-in-NoLine
returns-in-NoLine g c = λ o from u f.
    let r = c.leave_at_line.result in
    let e = c.leave_at_line.ensures in
    end_empty g.X.Duplex g.D.Disk o from c.args.io r.io c.args.disk r.disk r.trace r.status e.disk e.trace u c.args.fault c.in-NoLine.is f e.told

pub returns-in-NoMemory : goal.returns-in-NoMemory
returns-in-NoMemory g c = λ o from u f.
    let r = c.leave_with-in-NoMemory.result in
    let e = c.leave_with-in-NoMemory.ensures in
    end_room g.X.Duplex g.D.Disk o from c.args.io r.io c.args.disk r.disk r.trace r.status e.disk e.trace u c.args.fault c.in-NoMemory.is f e.status e.puts
