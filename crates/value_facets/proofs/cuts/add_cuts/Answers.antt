use Rattle.std.proofs.Common.{rules, arith, FitsSigned, to_z-of_z, w64}
use Rattle.std.proofs.lemmas.Int.{ints}
use Rattle.value_facets.proofs.Ranks.{cuts_added}
use Rattle.value_facets.proofs.cuts.add_cuts.Goals as goal

pub returns-in_ok-push-2-clause-has : goal.returns-in_ok-push-2-clause-has
returns-in_ok-push-2-clause-has c =
    let first : FitsSigned w64 c.args.bound.0 = search rules in
    let last : FitsSigned w64 c.args.bound.1 = search rules in
    cuts_added c.args.cuts.now.items c.push.new.self.items c.push-then-last-lt9223372036854775807.new.self.items c.args.bound _ _ (to_z-of_z first) (omega (arith, ints, last, c.if-last-lt9223372036854775807.true)) c.in_ok-push.ensures.items c.in_ok-push-2.ensures.items
