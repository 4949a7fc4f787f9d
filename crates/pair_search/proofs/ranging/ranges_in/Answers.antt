use Rattle.std.proofs.Common.{◌≡◌, ◌∙◌, List, length, map, refl, sym, ap, subst}
use Rattle.std.proofs.lemmas.List.{length-map}
use Rattle.std.specs.Arc.{arc_value}
use Rattle.chronicle.specs.History.{entries}
use Rattle.facet_model.specs.Documents.{Doc}
use Rattle.facet_model.specs.Flags.{Config}
use Rattle.facet_model.specs.Histories.{docs}
use Rattle.facet_model.specs.Hits.{hits}
use Rattle.facet_model.specs.Stored.{Decodes}
use Rattle.facet_output.specs.Replies.{ranged}
use Rattle.number_facets.specs.Results.{RangeCounts}
use Rattle.number_facets.specs.Values.{range_count, valued}
use Rattle.value_facets.specs.Ranging.{RangeQuestion}
use Rattle.pair_search.proofs.Numbered.{decoded_in}
use Rattle.pair_search.proofs.Searched.{searchable}
use Rattle.pair_search.proofs.ranging.ranges_in.Goals as goal

pub new-requires : goal.new-requires
new-requires c =
    let config = c.args.pair.now.config in
    let ready = searchable c.args.pair.now c.view.result.now config (map arc_value c.args.segments.now) c.view.ensures refl c.requires.segments c.requires.is.decoded c.requires.is.few in
    record { docs = (config, ready.0, ready.1, ready.2) }

-- the counts over the documents of a question
abbrev counted_over : RangeQuestion → List Doc → RangeCounts
counted_over q ds = record { counts = map (range_count (hits ds q.query q.drill) q.dim) q.ranges; valued = valued (hits ds q.query q.drill) q.dim }

-- what a counter has counted, if its question is this one
counted_is : (q asked : RangeQuestion) (config : Config) (ds : List Doc) (result : RangeCounts) → q ≡ asked → Decodes asked.labels config asked.segments ds
    → ((config : Config) (docs : List Doc) → Decodes q.labels config q.segments docs → result ≡ counted_over q docs) → result ≡ counted_over asked ds
counted_is q asked config ds result is decodes run = run config ds (subst (λ (x : RangeQuestion). Decodes x.labels config x.segments ds) (sym is) decodes) ∙ ap (λ (x : RangeQuestion). counted_over x ds) is

pub named-requires : goal.named-requires
named-requires c =
    let pair = c.args.pair.now in
    let decodes = decoded_in pair c.view.result.now (map arc_value c.args.segments.now) c.view.ensures c.requires.segments c.requires.is.decoded in
    let counted = counted_is c.in-Ok.counter _ pair.config (docs (entries pair.history.seen)) c.run-counts.result c.in-Ok.ensures.counter decodes c.run-counts.ensures in
    ap length c.counts-2.ensures ∙ ap (λ (r : RangeCounts). length r.counts) counted ∙ length-map c.args.ranges.now _

pub returns-in-Ok-named : goal.returns-in-Ok-named
returns-in-Ok-named c = λ some.
    let pair = c.args.pair.now in
    let decodes = decoded_in pair c.view.result.now (map arc_value c.args.segments.now) c.view.ensures c.requires.segments c.requires.is.decoded in
    let counted = counted_is c.in-Ok.counter _ pair.config (docs (entries pair.history.seen)) c.run-counts.result c.in-Ok.ensures.counter decodes c.run-counts.ensures in
    let named = c.in-Ok-named.ensures _ (c.counts-2.ensures ∙ ap (λ (r : RangeCounts). r.counts) counted) in
    let number : c.valued.result ≡ _ = c.valued.ensures ∙ ap (λ (r : RangeCounts). r.valued) counted in
    λ i. ranged (record { operations = c.operations.ensures i; counts = named i; valued = number i })
