-- The plain data of a summary.
use Rattle.std.specs.Prelude.{map}
use Rattle.facet_model.specs.ResultViews.{answer_view}
use Rattle.facet_replies.specs.Summaries as plain
use Rattle.facet_replies.specs.declared.summary.Summary.{Summary}

abbrev pub summary_view : Summary → plain.Summary
summary_view s = record {
  added = s.added;
  committed = s.committed;
  documents = s.documents;
  hit_count = s.hit_count;
  labels = s.labels;
  results = map answer_view s.results.items;
}
