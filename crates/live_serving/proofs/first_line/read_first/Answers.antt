use Rattle.live_serving.proofs.First.{begins_reading}
use Rattle.live_serving.proofs.first_line.read_first.Goals as goal

pub reading-init : goal.reading-init
reading-init g c = begins_reading g.X.Duplex c.args.io.now c.args.reader.now c.requires
