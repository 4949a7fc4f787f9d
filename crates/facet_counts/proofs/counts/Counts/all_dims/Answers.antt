use Rattle.std.proofs.Common.{true}
use Rattle.std.proofs.lemmas.Bool.{true≢false}
use Rattle.facet_counts.proofs.counts.Counts.all_dims.Goals as goal

pub returns : goal.returns
returns c = λ docs lists are all. c.order_dims.ensures (λ _. true) c.args.self.now.config (λ _. docs) c.args.n (λ dim e. absurd (true≢false e)) (c.in_ok-results.ensures docs lists are all)
