use Rattle.std.proofs.Common.{◌≡◌, ◌∙◌, ◌<◌, ◌++◌, ◌∷◌, [], List, length, map, get_or, ap, subst, arith}
use Rattle.std.specs.List.{AllZip}
use Rattle.std.proofs.lemmas.List.{length-map, map_push, take_all}
use Rattle.std.proofs.lemmas.Option.{slice_get-get_or}
use Rattle.facet_model.specs.Asks.{Asked, all_dims}
use Rattle.facet_model.specs.AskViews.{ask_view}
use Rattle.facet_model.specs.ResultViews.{answer_view}
use Rattle.facet_model.specs.Results.{IsAnswer}
use Rattle.sideways.specs.Questions.{docs_of}
use Rattle.sideways.specs.Searches.{question}
use Rattle.pair_search.proofs.Searched.{asks_more}
use Rattle.pair_search.proofs.searching.answers.Goals as goal

pub loop-at-preserved : goal.loop-at-preserved
loop-at-preserved c docs has =
    let asks : List Asked = map ask_view c.args.answer.now.ask.asks.items in
    let lt : c.loop-at.at < length asks = omega (arith, length-map c.args.answer.now.ask.asks.items ask_view, c.requires) in
    let pushed : map answer_view c.push.new.self.items ≡ map answer_view c.loop-at.found.items ++ answer_view c.in_ok-one.one ∷ [] = ap (map answer_view) c.in_ok-push.ensures.items ∙ map_push answer_view c.loop-at.found.items c.in_ok-one.one in
    asks_more (IsAnswer c.args.answer.now.config docs (docs_of (question c.args.answer.now) docs)) asks c.loop-at.at (all_dims 0) (map answer_view c.loop-at.found.items) (map answer_view c.push.new.self.items) (answer_view c.in_ok-one.one) lt pushed (c.loop-at.invariant docs has) (c.in_ok-one.ensures docs (get_or asks c.loop-at.at (all_dims 0)) has (slice_get-get_or asks c.loop-at.at (all_dims 0) lt))

pub returns : goal.returns
returns c docs has =
    let asks : List Asked = map ask_view c.args.answer.now.ask.asks.items in
    subst (λ (l : List Asked). AllZip (IsAnswer c.args.answer.now.config docs (docs_of (question c.args.answer.now) docs)) l (map answer_view c.loop-at.found.items)) (take_all c.loop-at.at asks (omega (arith, length-map c.args.answer.now.ask.asks.items ask_view, c.requires))) (c.loop-at.invariant docs has)
