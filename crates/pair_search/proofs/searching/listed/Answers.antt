use Rattle.std.proofs.Common.{◌≡◌, ◌∙◌, map, true, false, ap}
use Rattle.std.specs.Arc.{arc_value}
use Rattle.std.proofs.lemmas.Result.{IfOk-weaker}
use Rattle.facet_model.specs.Hits.{is_hit}
use Rattle.facet_model.specs.QueryViews.{query_view}
use Rattle.facet_replies.specs.ReplyViews.{hit_view}
use Rattle.facet_words.specs.Answers.{first_hits}
use Rattle.seg_documents.specs.Decoding.{doc_in, docs_in, record_at}
use Rattle.sideways.specs.declared.ask.SearchAsk.{SearchAsk}
use Rattle.pair_search.specs.Searches.{search_view}
use Rattle.pair_search.proofs.Searched.{hit_at, lines_made, showable_from}
use Rattle.pair_search.proofs.searching.listed.Goals as goal

pub hit_lines-requires : goal.hit_lines-requires
hit_lines-requires c =
    let a = c.args.answer.now in
    let docs = docs_in a.labels a.segments in
    showable_from a.config a.labels c.args.view.now a.segments (map arc_value c.args.segments.now) (is_hit (query_view a.ask.query) a.ask.drill) true a.ask.from a.ask.hits c.deref.result.now
    c.requires.labels c.requires.segments c.requires.list c.requires.docs (c.deref.ensures.value ∙ c.in_ok-places.ensures docs c.requires.docs)

pub returns-then-ask : goal.returns-then-ask
returns-then-ask c =
    let a = c.args.answer.now in
    let docs = docs_in a.labels a.segments in
    IfOk-weaker c.hit_lines.result
    (λ v. map hit_view v.items ≡ map (hit_at c.args.ask.now.show (λ at. doc_in c.args.view.now (record_at (map arc_value c.args.segments.now) at))) c.deref.result.now)
    (λ v. map hit_view v.items ≡ first_hits docs (search_view a.ask))
    (λ v made. lines_made a.labels c.args.view.now a.segments (map arc_value c.args.segments.now) a.ask c.args.ask.now true c.deref.result.now (map hit_view v.items)
    c.requires.labels c.requires.segments c.requires.ask c.if-ask.true (c.deref.ensures.value ∙ c.in_ok-places.ensures docs c.requires.docs) made)
    c.hit_lines.ensures

pub hit_lines-requires-2 : goal.hit_lines-requires-2
hit_lines-requires-2 c =
    let a = c.args.answer.now in
    let docs = docs_in a.labels a.segments in
    showable_from a.config a.labels c.args.view.now a.segments (map arc_value c.args.segments.now) (is_hit (query_view a.ask.query) a.ask.drill) false a.ask.from a.ask.hits c.hits.result.now
    c.requires.labels c.requires.segments c.requires.list c.requires.docs (c.hits.ensures docs c.requires.docs (ap (λ (ask : SearchAsk). ask.newest) c.requires.ask ∙ c.if-ask.false))

pub returns : goal.returns
returns c =
    let a = c.args.answer.now in
    let docs = docs_in a.labels a.segments in
    IfOk-weaker c.hit_lines-2.result
    (λ v. map hit_view v.items ≡ map (hit_at c.args.ask.now.show (λ at. doc_in c.args.view.now (record_at (map arc_value c.args.segments.now) at))) c.hits.result.now)
    (λ v. map hit_view v.items ≡ first_hits docs (search_view a.ask))
    (λ v made. lines_made a.labels c.args.view.now a.segments (map arc_value c.args.segments.now) a.ask c.args.ask.now false c.hits.result.now (map hit_view v.items)
    c.requires.labels c.requires.segments c.requires.ask c.if-ask.false (c.hits.ensures docs c.requires.docs (ap (λ (ask : SearchAsk). ask.newest) c.requires.ask ∙ c.if-ask.false)) made)
    c.hit_lines-2.ensures
