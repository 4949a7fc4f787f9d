-- The replies to a search, to ranges, to sums and to a document, by their results.
use Rattle.std.specs.Prelude.{ℕ, map, Result, Ok, Err}
use Rattle.facet_model.specs.ResultViews.{answer_view}
use Rattle.facet_replies.specs.ReplyViews.{hit_view, range_view}
use Rattle.facet_replies.specs.Replies.{Found}
use Rattle.number_facets.specs.SumViews.{sum_view}
use Rattle.facet_output.specs.Replies.{Reply, found, shown, ranged, summed, refused, not_held, top_zero}
use Rattle.facet_output.specs.Replies.{dim_value_not_kept, no_such_document, no_memory}
use Rattle.pair_search.specs.declared.ranging.RangesAnswer.{RangesAnswer}
use Rattle.pair_search.specs.declared.ranging.RangesFault.{RangesFault}
use Rattle.pair_search.specs.declared.ranging.RangesFault.TheVariants as ranging
use Rattle.pair_search.specs.declared.searching.SearchAnswer.{SearchAnswer}
use Rattle.pair_search.specs.declared.searching.SearchFault.{SearchFault}
use Rattle.pair_search.specs.declared.searching.SearchFault.TheVariants as searches
use Rattle.pair_search.specs.declared.showing.DocumentFault.{DocumentFault}
use Rattle.pair_search.specs.declared.showing.DocumentFault.TheVariants as documents
use Rattle.pair_search.specs.declared.showing.Shown.{Shown}
use Rattle.pair_search.specs.declared.summing.SumsAnswer.{SumsAnswer}
use Rattle.pair_search.specs.declared.summing.SumsFault.{SumsFault}
use Rattle.pair_search.specs.declared.summing.SumsFault.TheVariants as summing

abbrev pub found_view : SearchAnswer → Found
found_view a = record {
  operations = a.operations;
  hit_count = a.hit_count;
  hits = map hit_view a.hits.items;
  answers = map answer_view a.answers.items;
}

abbrev pub search_reply : Result SearchAnswer SearchFault → Reply
search_reply (Ok a) = found (found_view a)
search_reply (Err searches.NotHeld) = refused not_held
search_reply (Err (searches.TopZero ask)) = refused (top_zero ask)
search_reply (Err (searches.DimValueNotKept ask)) = refused (dim_value_not_kept ask)
search_reply (Err searches.NoMemory) = refused no_memory

abbrev pub ranges_reply : Result RangesAnswer RangesFault → Reply
ranges_reply (Ok a) = ranged (record {
  operations = a.operations;
  counts = map range_view a.counts.items;
  valued = a.valued;
})
ranges_reply (Err ranging.NotHeld) = refused not_held
ranges_reply (Err ranging.NoMemory) = refused no_memory

abbrev pub sums_reply : Result SumsAnswer SumsFault → Reply
sums_reply (Ok a) = summed (record { operations = a.operations; sums = map sum_view a.sums.items })
sums_reply (Err summing.NotHeld) = refused not_held
sums_reply (Err summing.TopZero) = refused (top_zero 0)
sums_reply (Err summing.NoMemory) = refused no_memory

abbrev pub document_reply : ℕ → Result Shown DocumentFault → Reply
document_reply at (Ok s) = shown (record {
  operations = s.operations;
  at = at;
  doc = s.doc;
  ordinals = s.ordinals.items;
})
document_reply at (Err documents.NotHeld) = refused not_held
document_reply at (Err (documents.NoSuchDocument count)) = refused (no_such_document count)
document_reply at (Err documents.NoMemory) = refused no_memory
