use Rattle.std.proofs.Common.{rules, ◌≡◌, ◌+◌, refl}
use Rattle.std.specs.Option.{option_or}
use Rattle.generator.proofs.Joined.{joined}
use Rattle.generator.proofs.tally.Tally.join.Goals as goal

pub returns : goal.returns
returns c first second of_first of_second =
    let added : c.in-Some.added ≡ c.args.self.now.added + c.args.later.added = search rules in
    let sizes : c.or-self.result ≡ option_or c.args.self.now.sizes c.args.later.sizes = search rules in
    let counts : c.or.result ≡ option_or c.args.self.now.counts c.args.later.counts = search rules in
    joined first second c.args.self.now c.args.later _ of_first of_second added refl refl sizes counts
