use Rattle.std.proofs.Common.{subst, ◌∙◌, arith}
use Rattle.facet_model.specs.Stored.{Records}
use Rattle.seg_file.specs.Decoded.{IsIndexed}
use Rattle.seg_file.proofs.Marks.{records_count}
use Rattle.seg_file.proofs.segment_bytes.SegmentBytes.docs.Goals as goal

pub overflow_cast-result : goal.overflow_cast-result
overflow_cast-result c =
    let h = subst (λ (r : Records). IsIndexed r c.self.inside.bytes.items c.self.inside.index) c.self.view_is c.self.invariant in
    omega (arith, h.segment.few, c.len.ensures, c.self.inside.index.records.ok.0, records_count c.args.self.now c.self.inside.bytes.items c.self.inside.index h)

pub returns-clause-number : goal.returns-clause-number
returns-clause-number c =
    let h = subst (λ (r : Records). IsIndexed r c.self.inside.bytes.items c.self.inside.index) c.self.view_is c.self.invariant in
    c.len.ensures ∙ c.self.inside.index.records.ok.0 ∙ records_count c.args.self.now c.self.inside.bytes.items c.self.inside.index h
