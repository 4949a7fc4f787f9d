use Rattle.std.proofs.Common.{◌≡◌, ◌<◌, None, List, length, map, get_or, option_map, ap, sym, subst, refl, arith}
use Rattle.std.proofs.lemmas.List.{length-map}
use Rattle.std.proofs.lemmas.Result.{IfOk-weaker}
use Rattle.facet_model.specs.AskViews.{ask_view}
use Rattle.facet_model.specs.Asks.{ask_fault, top_of_none}
use Rattle.facet_model.specs.ResultViews.{answer_view, result_view}
use Rattle.facet_model.specs.Results.{IsAnswer, top_answer}
use Rattle.facet_model.specs.declared.ask.Ask.{Ask}
use Rattle.sideways.specs.Questions.{docs_of}
use Rattle.sideways.specs.Searches.{Search, question}
use Rattle.sideways.proofs.Refused.{asked_at, fits_at, same_asked, some_asked}
use Rattle.sideways.proofs.answer.SidewaysAnswer.answer.Goals as goal

pub top_of-requires : goal.top_of-requires
top_of-requires c =
    let asks : List Ask = c.self.inside.ask.now.asks.items in
    let lt : c.args.ask < length asks = omega (arith, c.requires, ap (λ (s : Search). length (map ask_view s.ask.asks.items)) c.self.view_is, length-map asks ask_view) in
    let fit : ask_fault c.self.inside.config.now (ask_view c.index.result.now) ≡ None = fits_at c.self.inside.config.now (map ask_view asks) 0 c.args.ask (ask_view c.index.result.now) c.self.invariant.fit (asked_at asks c.args.ask c.index.result.now lt c.index.ensures) in
    some_asked top_of_none c.in-Top.n (subst (λ a. ask_fault c.self.inside.config.now (ask_view a) ≡ None) c.in-Top.is fit)

pub value_of-requires : goal.value_of-requires
value_of-requires c =
    let asks : List Ask = c.self.inside.ask.now.asks.items in
    let lt : c.args.ask < length asks = omega (arith, c.requires, ap (λ (s : Search). length (map ask_view s.ask.asks.items)) c.self.view_is, length-map asks ask_view) in
    let fit : ask_fault c.self.inside.config.now (ask_view c.index.result.now) ≡ None = fits_at c.self.inside.config.now (map ask_view asks) 0 c.args.ask (ask_view c.index.result.now) c.self.invariant.fit (asked_at asks c.args.ask c.index.result.now lt c.index.ensures) in
    subst (λ a. ask_fault c.args.self.now.config (ask_view a) ≡ None) c.in-Specific.is (subst (λ (s : Search). ask_fault s.config (ask_view c.index.result.now) ≡ None) c.self.view_is fit)

pub all_dims-requires : goal.all_dims-requires
all_dims-requires c =
    let asks : List Ask = c.self.inside.ask.now.asks.items in
    let lt : c.args.ask < length asks = omega (arith, c.requires, ap (λ (s : Search). length (map ask_view s.ask.asks.items)) c.self.view_is, length-map asks ask_view) in
    let fit : ask_fault c.self.inside.config.now (ask_view c.index.result.now) ≡ None = fits_at c.self.inside.config.now (map ask_view asks) 0 c.args.ask (ask_view c.index.result.now) c.self.invariant.fit (asked_at asks c.args.ask c.index.result.now lt c.index.ensures) in
    some_asked top_of_none c.in-AllDims.n (subst (λ a. ask_fault c.self.inside.config.now (ask_view a) ≡ None) c.in-AllDims.is fit)

pub returns-in_ok-top-in-Top : goal.returns-in_ok-top-in-Top
returns-in_ok-top-in-Top c = λ docs asked has at.
    let q = question c.args.self.now in
    let asks : List Ask = c.args.self.now.ask.asks.items in
    let lt : c.args.ask < length asks = omega (arith, c.requires, length-map asks ask_view) in
    let here : c.index.result.now ≡ get_or asks c.args.ask c.index.result.now = subst (λ (s : Search). c.index.result.now ≡ get_or s.ask.asks.items c.args.ask c.index.result.now) c.self.view_is c.index.ensures in
    let answer = top_answer (option_map result_view c.in_ok-top-in-Top.top) in
    same_asked asks c.args.ask c.index.result.now (λ a. IsAnswer c.args.self.now.config docs (docs_of q docs) a answer) lt here
    (subst (λ a. IsAnswer c.args.self.now.config docs (docs_of q docs) (ask_view a) answer) (sym c.in-Top.is) (option_map result_view c.in_ok-top-in-Top.top, c.in_ok-top-in-Top.ensures docs has, refl)) asked at

pub returns-in-Specific : goal.returns-in-Specific
returns-in-Specific c = IfOk-weaker c.value_of.result _ _ (λ a right. λ docs asked has at.
    let q = question c.args.self.now in
    let asks : List Ask = c.args.self.now.ask.asks.items in
    let lt : c.args.ask < length asks = omega (arith, c.requires, length-map asks ask_view) in
    let here : c.index.result.now ≡ get_or asks c.args.ask c.index.result.now = subst (λ (s : Search). c.index.result.now ≡ get_or s.ask.asks.items c.args.ask c.index.result.now) c.self.view_is c.index.ensures in
    same_asked asks c.args.ask c.index.result.now (λ x. IsAnswer c.args.self.now.config docs (docs_of q docs) x (answer_view a)) lt here
    (subst (λ x. IsAnswer c.args.self.now.config docs (docs_of q docs) (ask_view x) (answer_view a)) (sym c.in-Specific.is) (right docs has)) asked at) c.value_of.ensures

pub returns-in-AllDims : goal.returns-in-AllDims
returns-in-AllDims c = IfOk-weaker c.all_dims.result _ _ (λ a right. λ docs asked has at.
    let q = question c.args.self.now in
    let asks : List Ask = c.args.self.now.ask.asks.items in
    let lt : c.args.ask < length asks = omega (arith, c.requires, length-map asks ask_view) in
    let here : c.index.result.now ≡ get_or asks c.args.ask c.index.result.now = subst (λ (s : Search). c.index.result.now ≡ get_or s.ask.asks.items c.args.ask c.index.result.now) c.self.view_is c.index.ensures in
    same_asked asks c.args.ask c.index.result.now (λ x. IsAnswer c.args.self.now.config docs (docs_of q docs) x (answer_view a)) lt here
    (subst (λ x. IsAnswer c.args.self.now.config docs (docs_of q docs) (ask_view x) (answer_view a)) (sym c.in-AllDims.is) (right docs has)) asked at) c.all_dims.ensures
