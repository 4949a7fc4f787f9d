use Rattle.std.proofs.Common.{◌∙◌, ℕ, List, Option, Ok, Err, length, refl, sym, ap, subst}
use Rattle.chronicle.specs.History.{entries}
use Rattle.facet_model.specs.Histories.{docs}
use Rattle.pair_manager.specs.Published.{Published}
use Rattle.taxo_cache.specs.Seen.{labels_of}
use Rattle.facet_engine.specs.declared.holding.NotHeld.{NotHeld}
use Rattle.facet_engine.specs.Sessions.{HasSeen}
use Rattle.facet_output.specs.Steps.{IsStep}
use Rattle.facet_engine.specs.HeldPairs.{numbers_held}
use Rattle.facet_names.specs.Texts.{text_in}
use Rattle.facet_engine.specs.Steps.{counted}
use Rattle.facet_engine.proofs.Naming.{all_under}
use Rattle.facet_engine.proofs.PairReplies.{stats_last, stats_under, stats_not_held}
use Rattle.facet_engine.proofs.SeenPairs.{all_still_seen, same_pass, sees_self, still_named}
use Rattle.facet_engine.proofs.system.System.stats.Goals as goal

pub invariant_of-session-clause-own : goal.invariant_of-session-clause-own
invariant_of-session-clause-own g c =
    let e = c.stats.ensures in
    let session = c.args.session.now in
    still_named session.number session.pass c.stats.new.pass e.operations.1 session.own

pub invariant_of-session-clause-seen : goal.invariant_of-session-clause-seen
invariant_of-session-clause-seen g c =
    let e = c.stats.ensures in
    let session = c.args.session.now in
    all_still_seen session.pass c.stats.new.pass session.held e.same e.operations.0 e.labels.0 session.seen

pub returns-in-Some-find-clause-step : goal.returns-in-Some-find-clause-step
returns-in-Some-find-clause-step g c settings phase line is =
    let session = c.args.session.now in
    let pass = session.pass in
    let pair = c.in-Some-find.lease.now in
    let seen = all_under (HasSeen pass) session.held c.in-Some.name.now pair session.seen c.in-Some-find.ensures in
    subst (λ (on : Option (List ℕ)). IsStep settings (numbers_held session.held) (counted {E = NotHeld} on session.pass c.args.session.now.pass (Ok (record { operations = c.operations.result; labels = c.size.result; documents = c.documents.result })) phase line)) (sym (ap text_in c.in-Some.is))
    (stats_under settings session.held phase line session.number pass pass session.numbers (same_pass pass) (sees_self pass.labels) (sees_self pass.operations) (sees_self pass.pairs) refl pair seen NotHeld
    c.in-Some.name.now (record { operations = c.operations.result; labels = c.size.result; documents = c.documents.result }) c.in-Some-find.ensures
    (c.operations.ensures ∙ ap (λ (p : Published). length p.history.seen) c.pair-pair.ensures)
    (c.size.ensures.size ∙ ap length c.view.ensures ∙ ap (λ (p : Published). length (labels_of p.labels.seen)) c.pair-pair.ensures)
    (c.documents.ensures ∙ ap (λ (p : Published). length (docs (entries p.history.seen))) c.pair-pair.ensures))

pub returns-in-None-find-clause-step : goal.returns-in-None-find-clause-step
returns-in-None-find-clause-step g c settings phase line is =
    let session = c.args.session.now in
    let fault : NotHeld = record {} in
    let pass = session.pass in
    subst (λ (on : Option (List ℕ)). IsStep settings (numbers_held session.held) (counted {E = NotHeld} on session.pass c.args.session.now.pass (Err fault) phase line)) (sym (ap text_in c.in-Some.is))
    (stats_not_held settings session.held phase line session.number pass pass session.numbers (same_pass pass) (sees_self pass.labels) (sees_self pass.operations) (sees_self pass.pairs) refl c.in-Some.name.now fault c.in-None-find.ensures)

pub returns-in-None-clause-step : goal.returns-in-None-clause-step
returns-in-None-clause-step g c settings phase line is =
    let session = c.args.session.now in
    let e = c.stats.ensures in
    subst (λ (on : Option (List ℕ)). IsStep settings (numbers_held session.held) (counted {E = NotHeld} on session.pass c.stats.new.pass (Ok c.stats.result) phase line)) (sym (ap text_in c.in-None.is))
    (stats_last settings session.held phase line session.number session.pass c.stats.new.pass session.numbers e.same e.labels e.operations e.pairs e.commits NotHeld c.stats.result e.last e.documents e.told.0 e.told.1)
