use Rattle.std.proofs.Common.{get_or, ◌∙◌, ◌<◌, ◌≤◌, ◌+◌, [], length, ap, refl, arith}
use Rattle.sideways.specs.Counted.{PartLeft}
use Rattle.sideways.proofs.Placed.{all_grown, all_noted, all_numbered, base_more, base_room, counted_more, next_part, number_more, part_here, places_more, take_at_most}
use Rattle.sideways.proofs.pass.Pass.count_hits.Goals as goal

pub count_part-number-requires : goal.count_part-number-requires
count_part-number-requires c =
    let lt : c.loop-part.part-index < length c.args.self.parts.items = omega (arith, c.loop-part.invariant.counted.long, c.loop-part-test.true) in
    let p : PartLeft = get_or c.loop-part.part-items c.loop-part.part-index c.part-item.result in
    let at = part_here c.loop-part.part-index c.loop-part.part-items c.args.self.parts.items c.args.self.counter c.loop-part.counter c.part-item.result c.loop-part.invariant.counted lt in
    let next = next_part c.loop-part.part-index c.loop-part.part-items c.args.self.parts.items c.args.self.counter c.loop-part.counter p c.loop-part.invariant.counted c.requires.ready lt at in
    record {
      countable = next.countable;
      room = next.room;
      few = base_room c.loop-part.part-index c.loop-part.part-items c.args.self.parts.items c.args.self.counter c.loop-part.counter p c.loop-part.base c.loop-part.invariant.counted c.requires.ready lt at c.loop-part.invariant.base;
      limit = take_at_most c.args.limit _ c.loop-part.places.items c.loop-part.invariant.places;
      capacity = omega (arith, c.requires.capacity, c.loop-part.invariant.capacity);
    }

pub loop-part-preserved : goal.loop-part-preserved
loop-part-preserved c =
    let lt : c.loop-part.part-index < length c.args.self.parts.items = omega (arith, c.loop-part.invariant.counted.long, c.loop-part-test.true) in
    let p : PartLeft = get_or c.loop-part.part-items c.loop-part.part-index c.part-item.result in
    let counted = c.loop-part.invariant.counted in
    let at = part_here c.loop-part.part-index c.loop-part.part-items c.args.self.parts.items c.args.self.counter c.loop-part.counter c.part-item.result counted lt in
    let more = c.count_part-number.ensures in
    record {
      counted = counted_more c.loop-part.part-index c.loop-part.part-items _ c.args.self.parts.items c.args.self.counter c.loop-part.counter c.count_part-number.new.counter p c.count_part-number.new.part counted lt at refl more.grown;
      number = number_more c.loop-part.part-index c.loop-part.part-items c.args.self.parts.items c.args.self.counter c.loop-part.counter p c.loop-part.number _ counted lt at c.loop-part.invariant.number (ap (λ n. c.loop-part.number + n) more.number);
      base = ap (λ n. c.loop-part.base + n) c.live-live.ensures ∙ base_more c.loop-part.part-index c.loop-part.part-items c.args.self.parts.items c.args.self.counter c.loop-part.counter p c.loop-part.base counted lt at c.loop-part.invariant.base;
      capacity = omega (arith, more.capacity, c.loop-part.invariant.capacity);
      places = places_more c.loop-part.part-index c.loop-part.part-items c.args.self.parts.items c.args.self.counter c.loop-part.counter p c.loop-part.base c.args.limit c.loop-part.places.items c.count_part-number.new.hits.items counted lt at c.loop-part.invariant.base c.loop-part.invariant.places more.noted;
    }

pub overflow_add-number : goal.overflow_add-number
overflow_add-number c =
    let lt : c.loop-part.part-index < length c.args.self.parts.items = omega (arith, c.loop-part.invariant.counted.long, c.loop-part-test.true) in
    let p : PartLeft = get_or c.loop-part.part-items c.loop-part.part-index c.part-item.result in
    let at = part_here c.loop-part.part-index c.loop-part.part-items c.args.self.parts.items c.args.self.counter c.loop-part.counter c.part-item.result c.loop-part.invariant.counted lt in
    let next = next_part c.loop-part.part-index c.loop-part.part-items c.args.self.parts.items c.args.self.counter c.loop-part.counter p c.loop-part.invariant.counted c.requires.ready lt at in
    omega (arith, next.room, c.count_part-number.ensures.number, c.loop-part.invariant.number, c.loop-part.invariant.counted.grown.number)

pub overflow_add-base : goal.overflow_add-base
overflow_add-base c =
    let lt : c.loop-part.part-index < length c.args.self.parts.items = omega (arith, c.loop-part.invariant.counted.long, c.loop-part-test.true) in
    let p : PartLeft = get_or c.loop-part.part-items c.loop-part.part-index c.part-item.result in
    let at = part_here c.loop-part.part-index c.loop-part.part-items c.args.self.parts.items c.args.self.counter c.loop-part.counter c.part-item.result c.loop-part.invariant.counted lt in
    let few = base_room c.loop-part.part-index c.loop-part.part-items c.args.self.parts.items c.args.self.counter c.loop-part.counter p c.loop-part.base c.loop-part.invariant.counted c.requires.ready lt at c.loop-part.invariant.base in
    omega (arith, few, c.live-live.ensures)

pub returns-clause-counted : goal.returns-clause-counted
returns-clause-counted c =
    let le : length c.args.self.parts.items ≤ c.loop-part.part-index = omega (arith, c.loop-part.invariant.counted.long, c.loop-part-test.false) in
    let grown = all_grown c.loop-part.part-index c.loop-part.part-items c.args.self.parts.items c.args.self.counter c.loop-part.counter c.loop-part.invariant.counted le in
    grown.added [] c.requires.ready.fresh

pub returns-clause-labels : goal.returns-clause-labels
returns-clause-labels c = c.loop-part.invariant.counted.grown.labels

pub returns-clause-config : goal.returns-clause-config
returns-clause-config c = c.loop-part.invariant.counted.grown.config

pub returns-clause-number : goal.returns-clause-number
returns-clause-number c = all_numbered c.loop-part.part-index c.loop-part.number c.args.self.parts.items c.loop-part.invariant.number (omega (arith, c.loop-part.invariant.counted.long, c.loop-part-test.false))

pub returns-clause-places : goal.returns-clause-places
returns-clause-places c = all_noted c.loop-part.part-index c.args.limit c.args.self.parts.items c.loop-part.places.items c.loop-part.invariant.places (omega (arith, c.loop-part.invariant.counted.long, c.loop-part-test.false))
