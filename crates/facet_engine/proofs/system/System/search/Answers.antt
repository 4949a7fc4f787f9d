use Rattle.std.proofs.Common.{◌∙◌, ℕ, List, Option, None, Err, refl, sym, ap, subst}
use Rattle.pair_manager.specs.Published.{Published}
use Rattle.chronicle.specs.Frame.{Frame}
use Rattle.pair_search.specs.Replies.{search_reply}
use Rattle.pair_search.specs.Searches.{IsFoundIn, search_view}
use Rattle.facet_engine.specs.Sessions.{HasSeen}
use Rattle.facet_output.specs.Steps.{IsStep}
use Rattle.facet_engine.specs.HeldPairs.{numbers_held}
use Rattle.facet_names.specs.Texts.{text_in}
use Rattle.pair_search.specs.declared.searching.SearchFault.TheVariants as searches
use Rattle.facet_engine.specs.Steps.{searched}
use Rattle.facet_engine.proofs.Naming.{all_under}
use Rattle.facet_engine.proofs.PairReplies.{search_last, search_under, search_not_held, search_without_memory}
use Rattle.facet_engine.proofs.SeenPairs.{acquired, all_still_seen, config_of, same_pass, sees_self, still_named}
use Rattle.facet_engine.proofs.system.System.search.Goals as goal

pub invariant_of-session-clause-own : goal.invariant_of-session-clause-own
invariant_of-session-clause-own g c =
    let e = c.acquire.ensures in
    let session = c.args.session.now in
    still_named session.number session.pass c.acquire.new.pass e.operations.1 session.own

pub invariant_of-session-clause-seen : goal.invariant_of-session-clause-seen
invariant_of-session-clause-seen g c =
    let e = c.acquire.ensures in
    let session = c.args.session.now in
    all_still_seen session.pass c.acquire.new.pass session.held e.same e.operations.0 e.labels.0 session.seen

pub returns-in-Some-find-clause-step : goal.returns-in-Some-find-clause-step
returns-in-Some-find-clause-step g c settings phase line is =
    let session = c.args.session.now in
    let pass = session.pass in
    let pair = c.in-Some-find.lease.now in
    let seen = all_under (HasSeen pass) session.held c.in-Some.name.now pair session.seen c.in-Some-find.ensures in
    let config = is.config ∙ config_of pass pair c.args.self.now.config c.requires.own.config seen in
    subst (λ (on : Option (List ℕ)). IsStep settings (numbers_held session.held) (searched on (search_view c.args.ask.now) session.pass c.args.session.now.pass c.search_pair.result phase line)) (sym (ap text_in c.in-Some.is))
    (search_under settings session.held phase line session.number pass pass session.numbers (same_pass pass) (sees_self pass.labels) (sees_self pass.operations) (sees_self pass.pairs) refl pair seen
    c.in-Some.name.now (search_view c.args.ask.now) config c.in-Some-find.ensures c.search_pair.result
    (λ other. subst (λ (p : Published). IsFoundIn p (search_view c.args.ask.now) (search_reply c.search_pair.result)) c.pair-pair.ensures (c.search_pair.ensures.found other)))

pub returns-in-None-find-clause-step : goal.returns-in-None-find-clause-step
returns-in-None-find-clause-step g c settings phase line is =
    let session = c.args.session.now in
    let pass = session.pass in
    subst (λ (on : Option (List ℕ)). IsStep settings (numbers_held session.held) (searched on (search_view c.args.ask.now) session.pass c.args.session.now.pass (Err searches.NotHeld) phase line)) (sym (ap text_in c.in-Some.is))
    (search_not_held settings session.held phase line session.number pass pass session.numbers (same_pass pass) (sees_self pass.labels) (sees_self pass.operations) (sees_self pass.pairs) refl
    c.in-Some.name.now (search_view c.args.ask.now) c.in-None-find.ensures)

pub returns-in-Ok-clause-step : goal.returns-in-Ok-clause-step
returns-in-Ok-clause-step g c settings phase line is =
    let session = c.args.session.now in
    let old = session.pass in
    let new = c.acquire.new.pass in
    let e = c.in-Ok.ensures in
    let pair = c.in-Ok.lease in
    let seen = acquired old new pair e.same e.told.0 e.told.1 e.frame in
    let config = is.config ∙ config_of new pair c.args.self.now.config (c.requires.own.config ∙ ap (λ (f : Frame). f.texts) (sym e.same.operations.4)) seen in
    subst (λ (on : Option (List ℕ)). IsStep settings (numbers_held session.held) (searched on (search_view c.args.ask.now) session.pass c.acquire.new.pass c.search_pair-in-Ok.result phase line)) (sym (ap text_in c.in-None.is))
    (search_last settings session.held phase line session.number old new session.numbers e.same e.labels e.operations e.pairs e.commits pair seen (search_view c.args.ask.now) config e.last c.search_pair-in-Ok.result
    (λ other. subst (λ (p : Published). IsFoundIn p (search_view c.args.ask.now) (search_reply c.search_pair-in-Ok.result)) c.pair-pair-in-Ok.ensures (c.search_pair-in-Ok.ensures.found other)))

pub returns-in-Err-clause-step : goal.returns-in-Err-clause-step
returns-in-Err-clause-step g c settings phase line is =
    let session = c.args.session.now in
    let e = c.in-Err.ensures in
    subst (λ (on : Option (List ℕ)). IsStep settings (numbers_held session.held) (searched on (search_view c.args.ask.now) session.pass c.acquire.new.pass (Err searches.NoMemory) phase line)) (sym (ap text_in c.in-None.is))
    (search_without_memory settings session.held phase line session.number session.pass c.acquire.new.pass session.numbers e.same e.labels e.operations e.pairs e.commits None (search_view c.args.ask.now))
