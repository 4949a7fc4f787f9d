-- The plain data of results and answers.
use Rattle.std.specs.Prelude.{map, option_map}
use Rattle.facet_model.specs.declared.result.FacetResult.{FacetResult}
use Rattle.facet_model.specs.declared.result.FacetAnswer.{FacetAnswer}
use Rattle.facet_model.specs.declared.result.FacetAnswer.TheVariants as answers
use Rattle.facet_model.specs.Listing.{counted_child}
use Rattle.facet_model.specs.Results.{Listed, Answer, top_answer, value_answer, dims_answer}

abbrev pub result_view : FacetResult → Listed
result_view r = record {
  path = r.path;
  value = r.value;
  children = map counted_child r.children.items;
  child_count = r.child_count;
}

abbrev pub answer_view : FacetAnswer → Answer
answer_view (answers.Top r) = top_answer (option_map result_view r)
answer_view (answers.Specific path value) = value_answer path value
answer_view (answers.AllDims rs) = dims_answer (map result_view rs.items)
