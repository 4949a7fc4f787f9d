use Rattle.std.proofs.Common.{◌∙◌, ap}
use Rattle.facet_model.specs.Documents.{has}
use Rattle.seg_postings.specs.Sets.{without}
use Rattle.query_eval.proofs.Living.{first_live}
use Rattle.query_eval.proofs.Paths.{has_places}
use Rattle.query_eval.proofs.drill.has_path.Goals as goal

pub returns : goal.returns
returns c = λ docs path are some is.
    c.is_some.ensures
    ∙ first_live c.args.segment.now.dead (λ doc. has doc path) docs c.next.result c.new-places.result c.next.new.self
    (c.new-places.ensures.left ∙ c.in_ok-node.ensures ∙ ap (λ xs. without xs c.args.segment.now.dead) (c.term_node-node.ensures docs are ∙ has_places path docs some c.args.term.now is)) c.next.ensures.next
