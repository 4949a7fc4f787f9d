use Rattle.std.proofs.Common.{refl}
use Rattle.chronicle.specs.History.{entries}
use Rattle.chronicle.proofs.Prefixes.{prefix_self}
use Rattle.pair_manager.proofs.Going.{same_self}
use Rattle.pair_manager.proofs.Publishing.{still_right}
use Rattle.pair_manager.proofs.manager.Manager.keep_few.Goals as goal

pub invariant_of-pass-clause-right : goal.invariant_of-pass-clause-right
invariant_of-pass-clause-right g c =
    let pass = c.args.pass.now in
    still_right pass.labels.seen pass.labels.seen pass.operations.seen c.merge_few.new.token.seen (prefix_self pass.labels.seen) c.merge_few.ensures.more.0 (entries pass.pairs.seen) pass.right

pub returns : goal.returns
returns g c =
    let pass = c.args.pass.now in
    record {
      same = record { labels = same_self pass.labels; operations = c.merge_few.ensures.token.0; pairs = same_self pass.pairs; commits = same_self pass.commits };
      operations = c.merge_few.ensures.more;
      labels = refl;
      pairs = refl;
      commits = refl;
    }
