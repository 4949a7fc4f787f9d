use Rattle.std.proofs.Common.{◌∙◌, ap, refl, sym}
use Rattle.facet_model.specs.Accepts.{first_broken}
use Rattle.facet_model.specs.Flags.{Config}
use Rattle.facet_model.specs.Histories as histories
use Rattle.facet_engine.proofs.Added.{begins_on, broken_step, named, tried_step}
use Rattle.facet_engine.proofs.SeenPairs.{all_still_seen, same_pass, sees_self}
use Rattle.facet_engine.specs.HeldPairs.{numbers_held}
use Rattle.facet_engine.specs.Systems.{Engine}
use Rattle.facet_engine.proofs.system.System.add.Goals as goal

pub invariant_of-session-clause-own : goal.invariant_of-session-clause-own
invariant_of-session-clause-own g c =
    let session = c.args.session.now in
    let e = c.add_to.ensures in
    named session.number c.self.inside.manager.writer.limit (histories.add c.args.doc) c.args.doc session.pass c.add_to.new.pass e.same session.own c.add_to.result e.tried

pub invariant_of-session-clause-seen : goal.invariant_of-session-clause-seen
invariant_of-session-clause-seen g c =
    let session = c.args.session.now in
    let e = c.add_to.ensures in
    all_still_seen session.pass c.add_to.new.pass session.held e.same (begins_on c.self.inside.manager.writer.limit session.number (histories.add c.args.doc) c.args.doc session.pass c.add_to.new.pass c.add_to.result e.tried) e.more session.seen

pub returns-in-Ok-clause-step : goal.returns-in-Ok-clause-step
returns-in-Ok-clause-step g c settings phase line is =
    let session = c.args.session.now in
    let e = c.add_to.ensures in
    tried_step settings (numbers_held session.held) phase line session.number session.pass c.add_to.new.pass session.numbers e.same e.rest.0 e.rest.1 c.args.doc c.self.inside.manager.writer.limit (is.max_labels ∙ sym (ap (λ (e : Engine). e.manager.writer.limit) c.self.view_is))
    (ap (λ (x : Config). first_broken x c.args.doc) (is.config ∙ sym (ap (λ (e : Engine). e.config) c.self.view_is) ∙ sym c.deref.ensures) ∙ sym c.in-Ok.ensures) is.max_docs e.more e.adds session.number c.add_to.result e.tried

pub returns-in-Err-clause-step : goal.returns-in-Err-clause-step
returns-in-Err-clause-step g c settings phase line is =
    let session = c.args.session.now in
    let pass = session.pass in
    broken_step settings (numbers_held session.held) phase line session.number pass pass session.numbers (same_pass pass) refl refl c.args.doc (sees_self pass.labels) (sees_self pass.operations) c.in-Err.fault (ap (λ (x : Config). first_broken x c.args.doc) (is.config ∙ sym (ap (λ (e : Engine). e.config) c.self.view_is) ∙ sym c.deref.ensures) ∙ sym c.in-Err.ensures)
