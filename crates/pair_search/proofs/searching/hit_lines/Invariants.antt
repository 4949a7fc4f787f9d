use Rattle.std.proofs.Common.{◌≡◌, map, take}
use Rattle.std.specs.Arc.{arc_value}
use Rattle.facet_replies.specs.ReplyViews.{hit_view}
use Rattle.facet_words.specs.Answers.{hit_of}
use Rattle.seg_documents.specs.Decoding.{doc_in, record_at}
use Rattle.pair_search.proofs.searching.hit_lines.Given as goal

abbrev pub invariant-loop-place : goal.invariant-loop-place
invariant-loop-place l = map hit_view l.lines.items ≡ map (λ at. hit_of l.show (at, doc_in l.view (record_at (map arc_value l.segments) at))) (take l.place-index l.places)
