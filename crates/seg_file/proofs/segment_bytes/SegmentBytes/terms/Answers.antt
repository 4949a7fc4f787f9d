use Rattle.std.proofs.Common.{subst, ◌∙◌}
use Rattle.facet_model.specs.Stored.{Records}
use Rattle.seg_file.specs.Decoded.{IsIndexed}
use Rattle.seg_file.proofs.Marks.{terms_count}
use Rattle.seg_file.proofs.segment_bytes.SegmentBytes.terms.Goals as goal

pub returns-clause-number : goal.returns-clause-number
returns-clause-number c =
    let h = subst (λ (r : Records). IsIndexed r c.self.inside.bytes.items c.self.inside.index) c.self.view_is c.self.invariant in
    c.len.ensures ∙ c.self.inside.index.terms.ok.0 ∙ terms_count c.args.self.now c.self.inside.bytes.items c.self.inside.index h
