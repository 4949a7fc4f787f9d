use Rattle.std.proofs.Common.{arith, ◌∙◌, ◌-◌, length, drop, ap, subst}
use Rattle.std.specs.Prelude.{slice_range}
use Rattle.facet_model.specs.Stored.{Records}
use Rattle.seg_grammar.specs.Spelling.{IsRecord}
use Rattle.seg_file.specs.Decoded.{IsIndexed}
use Rattle.seg_file.proofs.Marks.{records_between, all_taken, all_dropped}
use Rattle.seg_file.proofs.segment_bytes.SegmentBytes.record_range.Goals as goal

pub slice_bounds-result-count : goal.slice_bounds-result-count
slice_bounds-result-count c =
    let h = subst (λ (r : Records). IsIndexed r c.self.inside.bytes.items c.self.inside.index) c.self.view_is c.self.invariant in
    omega (arith, (records_between c.args.self.now c.self.inside.bytes.items c.self.inside.index c.args.from c.args.to h c.requires.order).order, c.record_start-start.ensures, c.record_start-end.ensures)

pub slice_bounds-result-start : goal.slice_bounds-result-start
slice_bounds-result-start c =
    let h = subst (λ (r : Records). IsIndexed r c.self.inside.bytes.items c.self.inside.index) c.self.view_is c.self.invariant in
    omega (arith, (records_between c.args.self.now c.self.inside.bytes.items c.self.inside.index c.args.from c.args.to h c.requires.order).order, c.record_start-start.ensures, c.record_start-end.ensures)

pub slice_bounds-result-end : goal.slice_bounds-result-end
slice_bounds-result-end c =
    let h = subst (λ (r : Records). IsIndexed r c.self.inside.bytes.items c.self.inside.index) c.self.view_is c.self.invariant in
    omega (arith, (records_between c.args.self.now c.self.inside.bytes.items c.self.inside.index c.args.from c.args.to h c.requires.order).within, c.record_start-end.ensures, ap length c.deref.ensures.value)

pub returns-clause-bytes : goal.returns-clause-bytes
returns-clause-bytes c =
    let bytes = c.self.inside.bytes.items in
    let r = c.args.self.now in
    let h = subst (λ (r : Records). IsIndexed r bytes c.self.inside.index) c.self.view_is c.self.invariant in
    let x = c.deref.ensures.value in
    let between = records_between r bytes c.self.inside.index c.args.from c.args.to h c.requires.order in
    (λ i. slice_range (x i) (c.record_start-start.ensures i) (c.record_start-end.ensures i)) ∙ between.is

pub returns-clause-fit : goal.returns-clause-fit
returns-clause-fit c =
    let h = subst (λ (r : Records). IsIndexed r c.self.inside.bytes.items c.self.inside.index) c.self.view_is c.self.invariant in
    all_taken IsRecord (c.args.to - c.args.from) (drop c.args.from c.args.self.now.records) (all_dropped IsRecord c.args.from c.args.self.now.records h.segment.records)
