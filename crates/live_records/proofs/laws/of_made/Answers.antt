use Rattle.live_records.proofs.Alive.{map_alive}
use Rattle.live_records.proofs.laws.of_made.Goals as goal

pub returns : goal.returns
returns g c = λ f dead xs. map_alive dead f xs
