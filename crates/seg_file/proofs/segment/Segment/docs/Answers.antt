use Rattle.std.proofs.Common.{subst}
use Rattle.std.specs.Arc.{arc_value}
use Rattle.facet_model.specs.Stored.{Records}
use Rattle.seg_grammar.specs.Spelling.{IsSegment, seg_bytes}
use Rattle.seg_file.proofs.Live.{all_live_is}
use Rattle.seg_file.proofs.segment.Segment.docs.Goals as goal

pub returns-clause-is : goal.returns-clause-is
returns-clause-is c =
    all_live_is (arc_value c.self.inside.stored) c.args.self.now c.self.inside.live.dead c.self.view_is (subst (λ (r : Records). IsSegment (seg_bytes r) r) c.deref.ensures c.docs.ensures.is)
