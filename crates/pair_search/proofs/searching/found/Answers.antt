use Rattle.std.proofs.Common.{map}
use Rattle.facet_output.specs.Replies as replies
use Rattle.facet_model.specs.ResultViews.{answer_view}
use Rattle.seg_documents.specs.Decoding.{docs_in}
use Rattle.pair_search.proofs.searching.found.Goals as goal

pub returns : goal.returns
returns c =
    let docs = docs_in c.args.answer.now.labels c.args.answer.now.segments in (
      map answer_view c.in_ok-answers.answers.items,
      c.in_ok-answers.ensures docs c.requires.docs,
      λ i. replies.found (record { operations = c.args.operations; hit_count = c.hit_count.ensures docs c.requires.docs i; hits = c.in_ok-hits.ensures i; answers = map answer_view c.in_ok-answers.answers.items }),
    )
