use Rattle.std.proofs.Common.{◌∙◌, sym, subst, ap}
use Rattle.std.specs.Arc.{arc_value}
use Rattle.facet_model.specs.Stored.{Records}
use Rattle.seg_grammar.specs.Spelling.{IsSegment, seg_bytes}
use Rattle.seg_file.proofs.Live.{all_live_is, same_bytes}
use Rattle.seg_file.proofs.segment.Segment.bytes.Goals as goal

pub returns-clause-bytes : goal.returns-clause-bytes
returns-clause-bytes c =
    c.bytes.ensures.bytes ∙ ap seg_bytes c.deref.ensures ∙ sym (same_bytes (arc_value c.self.inside.stored) c.self.inside.live.dead) ∙ ap seg_bytes c.self.view_is

pub returns-clause-is : goal.returns-clause-is
returns-clause-is c =
    all_live_is (arc_value c.self.inside.stored) c.args.self.now c.self.inside.live.dead c.self.view_is (subst (λ (r : Records). IsSegment (seg_bytes r) r) c.deref.ensures c.bytes.ensures.is)
