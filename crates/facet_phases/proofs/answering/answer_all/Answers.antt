use Rattle.std.proofs.Common.{rules, ◌≡◌, ◌∷◌, ◌++◌, [], List, length, refl, subst}
use Rattle.facet_output.specs.Answered.{Answered}
use Rattle.facet_engine.specs.declared.session.Session.{Session}
use Rattle.facet_replies.specs.ReplyViews.{reply_view}
use Rattle.facet_engine.specs.Systems.{Engine}
use Rattle.facet_words.specs.declared.command.Order.{Order}
use Rattle.facet_phases.proofs.Belonging.{session_then}
use Rattle.facet_phases.proofs.Going.{IsGoing, going_none, going_more, answers_all, answers_some}
use Rattle.facet_phases.proofs.Taken.{one_of_all, taken_one, taken_first, none_left, turned_round}
use Rattle.facet_phases.proofs.answering.answer_all.Goals as goal
use Rattle.facet_engine.proofs.SeenPairs.{same_pass, still_belongs}

pub loop-order-init : goal.loop-order-init
loop-order-init g c = record {
  own = c.requires.own;
  same = (refl, same_pass c.args.session.now.pass);
  going = ([], turned_round c.args.orders.items c.reverse.new.self.items c.reverse.ensures.items, going_none c.args.system.now c.args.session.now (λ answered. g.C.Collector.holds answered c.new-replies.result) c.new-replies.ensures);
}

pub loop-order-preserved : goal.loop-order-preserved
loop-order-preserved g c =
    let o : Order = c.in-Some.order in
    let engine : Engine = c.args.system.now in
    let old : Session = c.args.session.now in
    let now : Session = c.loop-order.session in
    let new : Session = c.execute-reply.new.session in
    let loop = c.loop-order.invariant in
    let y : List Order = loop.going.0 in
    let left : List Order = c.loop-order.left.items in
    let rest : List Order = c.take_last.new.orders.items in
    let last : left ≡ rest ++ o ∷ [] = search rules in
    let done = c.execute-reply.ensures in
    record {
      own = still_belongs engine now.pass new.pass done.same.1 loop.own;
      same = session_then old now new loop.same done.same;
      going = (
        y ++ o ∷ [],
        taken_one c.args.orders.items left rest y o loop.going.1 last,
        going_more engine old now new y o (reply_view c.execute-reply.result) (λ answered. g.C.Collector.holds answered c.loop-order.replies) (λ answered. g.C.Collector.holds answered c.add.new.self) loop.same
            (one_of_all c.args.orders.items left rest y o loop.going.1 last (λ (p : Order). p.session ≡ old.number) c.requires.orders) loop.going.2 done c.in_ok-add.ensures,
      );
    }

pub returns-in_err-add : goal.returns-in_err-add
returns-in_err-add g c =
    let o : Order = c.in-Some.order in
    let engine : Engine = c.args.system.now in
    let old : Session = c.args.session.now in
    let now : Session = c.loop-order.session in
    let new : Session = c.execute-reply.new.session in
    let loop = c.loop-order.invariant in
    let all : List Order = c.args.orders.items in
    let y : List Order = loop.going.0 in
    let left : List Order = c.loop-order.left.items in
    let rest : List Order = c.take_last.new.orders.items in
    let last : left ≡ rest ++ o ∷ [] = search rules in
    let done = c.execute-reply.ensures in
    let Kept : List Answered → Type 0 = λ answered. Unit {0} in
    answers_some g.C.Collector.holds engine old new all (y ++ o ∷ []) (length (y ++ o ∷ [])) Kept c.from_residual.result (search rules)
    (taken_first all rest (y ++ o ∷ []) (taken_one all left rest y o loop.going.1 last)) (session_then old now new loop.same done.same)
    (going_more engine old now new y o (reply_view c.execute-reply.result) (λ answered. g.C.Collector.holds answered c.loop-order.replies) Kept loop.same
    (one_of_all all left rest y o loop.going.1 last (λ (p : Order). p.session ≡ old.number) c.requires.orders) loop.going.2 done (λ answered a kept own line reply. tt))

pub returns : goal.returns
returns g c =
    let loop = c.loop-order.invariant in
    let none : c.loop-order.left.items ≡ [] = search rules in
    let all : loop.going.0 ≡ c.args.orders.items = none_left c.args.orders.items c.loop-order.left.items loop.going.0 loop.going.1 none in
    answers_all g.C.Collector.holds c.args.system.now c.args.session.now c.loop-order.session c.args.orders.items c.loop-order.replies loop.same
    (subst (λ (l : List Order). IsGoing c.args.system.now c.args.session.now c.loop-order.session l (λ answered. g.C.Collector.holds answered c.loop-order.replies)) all loop.going.2)
