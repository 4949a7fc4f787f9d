use Rattle.std.proofs.Common.{◌≡◌, ◌+◌, ◌≤◌, List, length, map, sym, subst, []}
use Rattle.std.specs.List.{AllZip}
use Rattle.facet_model.specs.Documents.{Doc}
use Rattle.facet_model.specs.Flags.{Config}
use Rattle.facet_model.specs.Hits.{hits}
use Rattle.facet_model.specs.QueryViews.{query_view}
use Rattle.facet_model.specs.Stored.{Decodes}
use Rattle.number_facets.specs.Values.{range_count, valued}
use Rattle.sideways.specs.Counted.{PartLeft}
use Rattle.sideways.specs.Searches.{records_of}
use Rattle.value_facets.specs.Hits.{leaves_of}
use Rattle.value_facets.specs.Ranging.{RangeQuestion}
use Rattle.value_facets.specs.Tallying.{HasCounted}
use Rattle.value_facets.proofs.HitLeaves.{same_segments}
use Rattle.value_facets.proofs.Ranged.{counters_within, few_counted, few_left, none_counted, ranged, slots_within}
use Rattle.value_facets.proofs.ranging.RangeCounter.run.Goals as goal

pub count_parts-requires-clause-same : goal.count_parts-requires-clause-same
count_parts-requires-clause-same c = subst (AllZip (λ s (p : PartLeft). p.segment ≡ s) (records_of c.self.inside.segments.now)) (sym c.deref_mut.ensures.value) (same_segments _ (records_of c.self.inside.segments.now) c.self.inside.parts.items c.self.invariant.parts)

pub count_parts-requires-clause-within : goal.count_parts-requires-clause-within
count_parts-requires-clause-within c = counters_within _ c.self.inside.parts.items c.self.inside.marks c.self.inside.tally c.self.invariant

pub count_parts-requires-clause-few : goal.count_parts-requires-clause-few
count_parts-requires-clause-few c = subst (λ ps. c.self.inside.tally.hits + length (leaves_of ps) ≤ 1000000) (sym c.deref_mut.ensures.value) (few_left _ c.self.inside.parts.items c.self.inside.marks c.self.inside.tally c.self.invariant)

pub into_counts-requires-clause-within : goal.into_counts-requires-clause-within
into_counts-requires-clause-within c = slots_within _ c.self.inside.parts.items c.self.inside.marks c.self.inside.tally c.self.invariant _ c.count_parts.ensures.as_many

pub into_counts-requires-clause-room : goal.into_counts-requires-clause-room
into_counts-requires-clause-room c =
    let q : RangeQuestion = record {
      labels = c.self.inside.view.now;
      segments = records_of c.self.inside.segments.now;
      query = query_view c.self.inside.query.now;
      drill = c.self.inside.drill.now;
      dim = c.self.inside.dim.now;
      ranges = c.self.inside.ranges.now;
    } in
    let parts : List PartLeft = c.self.inside.parts.items in
    let counted : HasCounted c.self.inside.marks (leaves_of parts) c.count_parts.new.tally =
    subst (λ ps. HasCounted c.self.inside.marks (leaves_of ps) c.count_parts.new.tally) c.deref_mut.ensures.value (c.count_parts.ensures.counted [] (none_counted q parts c.self.inside.marks c.self.inside.tally c.self.invariant)) in
    few_counted q parts c.self.inside.marks c.self.inside.tally c.self.invariant c.count_parts.new.tally counted

pub returns : goal.returns
returns c =
    let q : RangeQuestion = record {
      labels = c.self.inside.view.now;
      segments = records_of c.self.inside.segments.now;
      query = query_view c.self.inside.query.now;
      drill = c.self.inside.drill.now;
      dim = c.self.inside.dim.now;
      ranges = c.self.inside.ranges.now;
    } in
    let parts : List PartLeft = c.self.inside.parts.items in
    let counted : HasCounted c.self.inside.marks (leaves_of parts) c.count_parts.new.tally =
    subst (λ ps. HasCounted c.self.inside.marks (leaves_of ps) c.count_parts.new.tally) c.deref_mut.ensures.value (c.count_parts.ensures.counted [] (none_counted q parts c.self.inside.marks c.self.inside.tally c.self.invariant)) in
    subst (λ (s : RangeQuestion). (config : Config) (docs : List Doc) → Decodes s.labels config s.segments docs
    → c.into_counts.result ≡ record { counts = map (range_count (hits docs s.query s.drill) s.dim) s.ranges; valued = valued (hits docs s.query s.drill) s.dim }) c.self.view_is
    (λ config docs has.
    let are = ranged q parts c.self.inside.marks c.self.inside.tally c.self.invariant c.count_parts.new.tally c.count_parts.ensures.as_many counted config docs has in
    c.into_counts.ensures (map (range_count (hits docs q.query q.drill) q.dim) q.ranges) (valued (hits docs q.query q.drill) q.dim) are.0 are.1)
