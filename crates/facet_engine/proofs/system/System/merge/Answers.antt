use Rattle.facet_engine.proofs.Merged.{merge_step}
use Rattle.facet_engine.proofs.SeenPairs.{all_still_seen, still_named}
use Rattle.facet_engine.specs.HeldPairs.{numbers_held}
use Rattle.facet_adding.proofs.Tried.{same_sees_on}
use Rattle.facet_engine.proofs.system.System.merge.Goals as goal

pub invariant_of-session-clause-own : goal.invariant_of-session-clause-own
invariant_of-session-clause-own g c =
    let e = c.merge_index.ensures in
    let session = c.args.session.now in
    still_named session.number session.pass c.merge_index.new.pass e.operations.1 session.own

pub invariant_of-session-clause-seen : goal.invariant_of-session-clause-seen
invariant_of-session-clause-seen g c =
    let e = c.merge_index.ensures in
    let session = c.args.session.now in
    let labels = same_sees_on session.pass.labels c.merge_index.new.pass.labels e.rest.0 in
    all_still_seen session.pass c.merge_index.new.pass session.held e.same e.operations.0 labels.0 session.seen

pub returns-clause-step : goal.returns-clause-step
returns-clause-step g c settings phase line is =
    let e = c.merge_index.ensures in
    let session = c.args.session.now in
    merge_step settings (numbers_held session.held) phase line session.number session.pass c.merge_index.new.pass session.numbers e.same e.operations e.rest.0 e.rest.1 e.rest.2 c.merge_index.result
