use Rattle.std.proofs.Common.{◌∙◌, refl, subst}
use Rattle.facet_output.specs.Seen.{Seen}
use Rattle.facet_engine.specs.Exchange.{Meets}
use Rattle.facet_engine.proofs.SeenPairs.{all_still_seen, still_named}
use Rattle.facet_engine.proofs.system.System.tell.Goals as goal

pub invariant_of-to-clause-numbers : goal.invariant_of-to-clause-numbers
invariant_of-to-clause-numbers g c =
    let to = c.args.to.now in
    let same = (c.meet_all.ensures.told to.number to.numbers).0.same in
    (same.labels.0 ∙ to.numbers.0, same.operations.0 ∙ to.numbers.1, same.pairs.0 ∙ to.numbers.2, same.commits.0 ∙ to.numbers.3)

pub invariant_of-to-clause-own : goal.invariant_of-to-clause-own
invariant_of-to-clause-own g c =
    let to = c.args.to.now in
    still_named to.number to.pass c.meet_all.new.pass (c.meet_all.ensures.told to.number to.numbers).0.on.1.1 to.own

pub invariant_of-to-clause-seen : goal.invariant_of-to-clause-seen
invariant_of-to-clause-seen g c =
    let to = c.args.to.now in
    let met = (c.meet_all.ensures.told to.number to.numbers).0 in
    all_still_seen to.pass c.meet_all.new.pass to.held met.same met.on.1.0 met.on.0.0 to.seen

pub returns-clause-same : goal.returns-clause-same
returns-clause-same g c =
    let to = c.args.to.now in
    (refl, (c.meet_all.ensures.told to.number to.numbers).0.same)

pub returns-clause-told : goal.returns-clause-told
returns-clause-told g c =
    let to = c.args.to.now in
    subst (λ (s : Seen). Meets to.number to.pass c.meet_all.new.pass s) c.notes-notes.ensures.seen (c.meet_all.ensures.told to.number to.numbers).0
