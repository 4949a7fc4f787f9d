use Rattle.pair_fixture.proofs.Differing.{labels_apart}
use Rattle.pair_fixture.proofs.names.labels_differ.Goals as goal

pub returns : goal.returns
returns c = labels_apart
