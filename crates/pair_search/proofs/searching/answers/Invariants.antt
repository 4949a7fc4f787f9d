use Rattle.std.proofs.Common.{List, map, take}
use Rattle.std.specs.List.{AllZip}
use Rattle.facet_model.specs.Documents.{Doc}
use Rattle.facet_model.specs.ResultViews.{answer_view}
use Rattle.facet_model.specs.Results.{IsAnswer}
use Rattle.sideways.specs.Questions.{HasDocs, docs_of}
use Rattle.sideways.specs.Searches.{question}
use Rattle.pair_search.proofs.searching.answers.Given as goal

abbrev pub invariant-loop-at : goal.invariant-loop-at
invariant-loop-at l = (docs : List Doc) → HasDocs (question l.answer) docs → AllZip (IsAnswer l.answer.config docs (docs_of (question l.answer) docs)) (take l.at (question l.answer).asks) (map answer_view l.found.items)
