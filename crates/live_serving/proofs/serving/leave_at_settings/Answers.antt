use Rattle.live_serving.proofs.Early.{end_config, end_config_room}
use Rattle.live_serving.proofs.serving.leave_at_settings.Goals as goal

pub returns-in-NoMemory : goal.returns-in-NoMemory
returns-in-NoMemory g c = λ o from u line h bad.
    let r = c.leave_with.result in
    let e = c.leave_with.ensures in
    end_config_room g.X.Duplex g.D.Disk o from c.args.io r.io c.args.disk r.disk r.trace r.status e.disk e.trace u line h e.status e.puts

pub returns-in_default : goal.returns-in_default
returns-in_default g c = λ o from u line h bad.
    let r = c.leave_at_line.result in
    let e = c.leave_at_line.ensures in
    end_config g.X.Duplex g.D.Disk o from c.args.io r.io c.args.disk r.disk r.trace r.status e.disk e.trace u line h c.args.fault (bad (λ is. c.in_default.not-NoMemory is)) e.told
