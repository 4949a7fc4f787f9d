use Rattle.store_opening.proofs.Thinned.{thinned_is}
use Rattle.store_opening.proofs.index.thinned.Goals as goal

pub returns : goal.returns
returns c =
    let left = c.in_ok-left.ensures in
    thinned_is c.args.stored.now c.in_ok-left.left c.args.dead.now c.requires.live left.records left.terms left.dead left.rise c.requires.rise
