use Rattle.std.proofs.Common.{map, refl}
use Rattle.std.specs.Arc.{arc_value}
use Rattle.chronicle.specs.History.{entries}
use Rattle.facet_model.specs.Histories.{docs}
use Rattle.facet_model.specs.QueryViews.{query_view}
use Rattle.facet_words.specs.Commands.{Counted}
use Rattle.number_facets.specs.SumViews.{sum_view}
use Rattle.pair_search.proofs.Numbered.{decoded_in, none_summed, summed_so}
use Rattle.pair_search.proofs.Searched.{searchable}
use Rattle.pair_search.proofs.summing.sums_in.Goals as goal

pub sums-requires : goal.sums-requires
sums-requires c =
    let config = c.args.pair.now.config in
    let ready = searchable c.args.pair.now c.view.result.now config (map arc_value c.args.segments.now) c.view.ensures refl c.requires.segments c.requires.is.decoded c.requires.is.few in
    record { docs = (config, ready.0, ready.1, ready.2) }

pub returns-in-Ok : goal.returns-in-Ok
returns-in-Ok c other =
    let pair = c.args.pair.now in
    let counted : Counted = record { query = query_view c.args.query.now; drill = c.args.drill.now; dim = c.args.dim.now } in
    summed_so pair counted c.args.n c.operations.result (map sum_view c.in-Ok.sums.items) c.operations.ensures (λ none. cc (c.in-Ok.ensures.zero none))
    (c.in-Ok.ensures.sums pair.config (docs (entries pair.history.seen)) (decoded_in pair c.view.result.now (map arc_value c.args.segments.now) c.view.ensures c.requires.segments c.requires.is.decoded))

pub returns-in-Err-TopZero : goal.returns-in-Err-TopZero
returns-in-Err-TopZero c other =
    none_summed c.args.pair.now (record { query = query_view c.args.query.now; drill = c.args.drill.now; dim = c.args.dim.now }) c.args.n (λ some. cc (c.in-Err-TopZero.ensures.some some))
