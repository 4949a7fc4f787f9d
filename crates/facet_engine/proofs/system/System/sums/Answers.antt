use Rattle.std.proofs.Common.{ℕ, List, Option, Some, None, Err, refl, sym, ap, subst}
use Rattle.pair_manager.specs.Published.{Published}
use Rattle.facet_model.specs.QueryViews.{query_view}
use Rattle.facet_names.specs.Texts.{text_in}
use Rattle.facet_output.specs.Steps.{IsStep}
use Rattle.facet_words.specs.Commands.{Counted, sums}
use Rattle.pair_search.specs.Numbers.{IsSummedIn}
use Rattle.pair_search.specs.Replies.{sums_reply}
use Rattle.pair_search.specs.declared.summing.SumsFault.TheVariants as faults
use Rattle.facet_engine.specs.HeldPairs.{numbers_held}
use Rattle.facet_engine.specs.Sessions.{HasSeen}
use Rattle.facet_engine.specs.Steps.{summed}
use Rattle.facet_engine.proofs.Looks.{look_not_held, look_without_memory, sums_last, sums_under}
use Rattle.facet_engine.proofs.Naming.{all_under}
use Rattle.facet_engine.proofs.SeenPairs.{acquired, all_still_seen, same_pass, sees_self, still_named}
use Rattle.facet_engine.proofs.system.System.sums.Goals as goal

pub invariant_of-session-clause-own : goal.invariant_of-session-clause-own
invariant_of-session-clause-own g c =
    let e = c.acquire.ensures in
    let session = c.args.session.now in
    still_named session.number session.pass c.acquire.new.pass e.operations.1 session.own

pub invariant_of-session-clause-seen : goal.invariant_of-session-clause-seen
invariant_of-session-clause-seen g c =
    let e = c.acquire.ensures in
    let session = c.args.session.now in
    all_still_seen session.pass c.acquire.new.pass session.held e.same e.operations.0 e.labels.0 session.seen

pub returns-in-Some-find-clause-step : goal.returns-in-Some-find-clause-step
returns-in-Some-find-clause-step g c settings phase line is =
    let session = c.args.session.now in
    let pass = session.pass in
    let pair = c.in-Some-find.lease.now in
    let counted : Counted = record { query = query_view c.args.query.now; drill = c.args.drill.now; dim = c.args.dim.now } in
    let seen = all_under (HasSeen pass) session.held c.in-Some.name.now pair session.seen c.in-Some-find.ensures in
    subst (λ (on : Option (List ℕ)). IsStep settings (numbers_held session.held) (summed on counted c.args.n session.pass c.args.session.now.pass c.sums_pair.result phase line)) (sym (ap text_in c.in-Some.is))
    (sums_under settings session.held phase line session.number pass pass session.numbers (same_pass pass) (sees_self pass.labels) (sees_self pass.operations) (sees_self pass.pairs) refl pair seen counted c.args.n
    c.in-Some.name.now c.in-Some-find.ensures c.sums_pair.result
    (λ other. subst (λ (p : Published). IsSummedIn p counted c.args.n (sums_reply c.sums_pair.result)) c.pair.ensures (c.sums_pair.ensures other)))

pub returns-in-None-find-clause-step : goal.returns-in-None-find-clause-step
returns-in-None-find-clause-step g c settings phase line is =
    let session = c.args.session.now in
    let pass = session.pass in
    let counted : Counted = record { query = query_view c.args.query.now; drill = c.args.drill.now; dim = c.args.dim.now } in
    subst (λ (on : Option (List ℕ)). IsStep settings (numbers_held session.held) (summed on counted c.args.n session.pass c.args.session.now.pass (Err faults.NotHeld) phase line)) (sym (ap text_in c.in-Some.is))
    (look_not_held settings session.held phase line session.number pass pass session.numbers (same_pass pass) (sees_self pass.labels) (sees_self pass.operations) (sees_self pass.pairs) refl
    c.in-Some.name.now (sums (Some c.in-Some.name.now) counted c.args.n) refl c.in-None-find.ensures)

pub returns-in-Ok-clause-step : goal.returns-in-Ok-clause-step
returns-in-Ok-clause-step g c settings phase line is =
    let session = c.args.session.now in
    let old = session.pass in
    let new = c.acquire.new.pass in
    let e = c.in-Ok.ensures in
    let pair = c.in-Ok.lease in
    let counted : Counted = record { query = query_view c.args.query.now; drill = c.args.drill.now; dim = c.args.dim.now } in
    let seen = acquired old new pair e.same e.told.0 e.told.1 e.frame in
    subst (λ (on : Option (List ℕ)). IsStep settings (numbers_held session.held) (summed on counted c.args.n session.pass c.acquire.new.pass c.sums_pair-in-Ok.result phase line)) (sym (ap text_in c.in-None.is))
    (sums_last settings session.held phase line session.number old new session.numbers e.same e.labels e.operations e.pairs e.commits pair seen counted c.args.n e.last c.sums_pair-in-Ok.result
    (λ other. subst (λ (p : Published). IsSummedIn p counted c.args.n (sums_reply c.sums_pair-in-Ok.result)) c.pair-in-Ok.ensures (c.sums_pair-in-Ok.ensures other)))

pub returns-in-Err-clause-step : goal.returns-in-Err-clause-step
returns-in-Err-clause-step g c settings phase line is =
    let session = c.args.session.now in
    let e = c.in-Err.ensures in
    let counted : Counted = record { query = query_view c.args.query.now; drill = c.args.drill.now; dim = c.args.dim.now } in
    subst (λ (on : Option (List ℕ)). IsStep settings (numbers_held session.held) (summed on counted c.args.n session.pass c.acquire.new.pass (Err faults.NoMemory) phase line)) (sym (ap text_in c.in-None.is))
    (look_without_memory settings session.held phase line session.number session.pass c.acquire.new.pass session.numbers e.same e.labels e.operations e.pairs e.commits None (sums None counted c.args.n) refl refl)
