use Rattle.std.proofs.Common.{List, map, subst}
use Rattle.std.specs.Arc.{arc_value}
use Rattle.facet_model.specs.Stored.{Records, live_docs}
use Rattle.facet_model.specs.Terms.{terms_of}
use Rattle.seg_grammar.specs.Spelling.{IsSegment}
use Rattle.seg_merge.specs.Merged.{merged_of}
use Rattle.seg_merge.proofs.Built.{built}
use Rattle.seg_merge.proofs.merging.merge.Goals as goal

pub returns-in-Ok-clause-merged : goal.returns-in-Ok-clause-merged
returns-in-Ok-clause-merged c =
    let ss : List Records = map arc_value c.args.segments.now in
    λ pieces have. c.in-Ok.ensures.only (merged_of ss (terms_of (live_docs ss pieces))) (c.in_ok-bytes.ensures pieces have)

pub returns-in-Ok-clause-built : goal.returns-in-Ok-clause-built
returns-in-Ok-clause-built c = built (map arc_value c.args.segments.now) c.in-Ok.segment (returns-in-Ok-clause-merged c)

pub returns-in-Ok-clause-own : goal.returns-in-Ok-clause-own
returns-in-Ok-clause-own c =
    let found = c.in-Ok.ensures.found in
    subst (λ bytes. IsSegment bytes c.in-Ok.segment) found.spelled found
