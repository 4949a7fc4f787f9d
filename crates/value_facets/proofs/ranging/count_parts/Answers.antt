use Rattle.std.proofs.Common.{◌<◌, ℕ, length, arith, ap, sym, ◌∙◌}
use Rattle.std.specs.Arc.{arc_value}
use Rattle.std.proofs.lemmas.List.{get_or-map, length-map}
use Rattle.std.proofs.lemmas.Slice.Zip.{AllZip-long}
use Rattle.sideways.specs.Counted.{PartLeft}
use Rattle.sideways.specs.Searches.{records_of}
use Rattle.value_facets.proofs.Counted.{part_here, part_room, parts_more, zip_at}
use Rattle.value_facets.proofs.ranging.count_parts.Goals as goal

pub bounds-segments-i : goal.bounds-segments-i
bounds-segments-i c = omega (arith, c.loop-i-test.true, c.loop-i.invariant.long, AllZip-long _ (records_of c.args.segments.now) c.args.parts.now c.requires.same, length-map c.args.segments.now arc_value)

pub count_part-requires-clause-same : goal.count_part-requires-clause-same
count_part-requires-clause-same c =
    let i : ℕ = c.loop-i.i in
    let lt : i < length c.args.parts.now = omega (arith, c.loop-i-test.true, c.loop-i.invariant.long) in
    let within : i < length c.args.segments.now = omega (arith, lt, AllZip-long _ (records_of c.args.segments.now) c.args.parts.now c.requires.same, length-map c.args.segments.now arc_value) in
    ap (λ (p : PartLeft). p.segment) (part_here c.args.marks.now i c.args.parts.now c.loop-i.parts c.args.tally.now c.loop-i.tally c.index-parts-i.result c.loop-i.invariant lt)
    ∙ zip_at (records_of c.args.segments.now) c.args.parts.now c.requires.same i (arc_value c.index-segments-i.result) c.index-parts-i.result lt
    ∙ get_or-map arc_value c.args.segments.now i c.index-segments-i.result (arc_value c.index-segments-i.result) within
    ∙ ap arc_value (sym c.index-segments-i.is)
    ∙ sym c.deref.ensures

pub count_part-requires-clause-few : goal.count_part-requires-clause-few
count_part-requires-clause-few c =
    let lt : c.loop-i.i < length c.args.parts.now = omega (arith, c.loop-i-test.true, c.loop-i.invariant.long) in
    omega (arith, part_room c.args.marks.now c.loop-i.i c.args.parts.now c.loop-i.parts c.args.tally.now c.loop-i.tally c.index-parts-i.result c.loop-i.invariant lt, c.requires.few)

pub loop-i-preserved : goal.loop-i-preserved
loop-i-preserved c =
    let i : ℕ = c.loop-i.i in
    let lt : i < length c.args.parts.now = omega (arith, c.loop-i-test.true, c.loop-i.invariant.long) in
    let within : i < length c.args.segments.now = omega (arith, lt, AllZip-long _ (records_of c.args.segments.now) c.args.parts.now c.requires.same, length-map c.args.segments.now arc_value) in
    parts_more c.args.marks.now i c.args.parts.now c.loop-i.parts c.args.tally.now c.loop-i.tally c.index-parts-i.result c.loop-i.invariant lt c.deref.result.now c.count_part.new.part c.count_part.new.tally
    (ap (λ (p : PartLeft). p.segment) (part_here c.args.marks.now i c.args.parts.now c.loop-i.parts c.args.tally.now c.loop-i.tally c.index-parts-i.result c.loop-i.invariant lt)
    ∙ zip_at (records_of c.args.segments.now) c.args.parts.now c.requires.same i (arc_value c.index-segments-i.result) c.index-parts-i.result lt
    ∙ get_or-map arc_value c.args.segments.now i c.index-segments-i.result (arc_value c.index-segments-i.result) within
    ∙ ap arc_value (sym c.index-segments-i.is)
    ∙ sym c.deref.ensures)
    c.count_part.ensures.hits c.count_part.ensures.as_many c.count_part.ensures.counted
