use Rattle.std.proofs.Common.{◌≡◌, ◌∙◌, ◌++◌, [], get_or, ◌<◌, ◌≤◌, arith, length, sym, refl}
use Rattle.std.proofs.lemmas.List.{get_or_default}
use Rattle.sideways.specs.Counted.{PartLeft, lists_of}
use Rattle.sideways.proofs.Placed.{all_grown, counted_more, lists_length, next_part}
use Rattle.sideways.proofs.pass.Pass.count.Goals as goal

pub count-requires-clause-countable : goal.count-requires-clause-countable
count-requires-clause-countable c =
    let lt : c.loop-part.part-index < length c.args.self.parts.items = omega (arith, c.loop-part.invariant.long, c.loop-part-test.true) in
    let p : PartLeft = get_or c.loop-part.part-items c.loop-part.part-index c.part-item.result in
    let here : p ≡ get_or c.loop-part.part-items c.loop-part.part-index p = get_or_default c.loop-part.part-items c.loop-part.part-index c.part-item.result p (omega (arith, lt, c.loop-part.invariant.long)) in
    (next_part c.loop-part.part-index c.loop-part.part-items c.args.self.parts.items c.args.self.counter c.loop-part.counter p c.loop-part.invariant c.requires.ready lt here).countable

pub count-requires-clause-room : goal.count-requires-clause-room
count-requires-clause-room c =
    let lt : c.loop-part.part-index < length c.args.self.parts.items = omega (arith, c.loop-part.invariant.long, c.loop-part-test.true) in
    let p : PartLeft = get_or c.loop-part.part-items c.loop-part.part-index c.part-item.result in
    let here : p ≡ get_or c.loop-part.part-items c.loop-part.part-index p = get_or_default c.loop-part.part-items c.loop-part.part-index c.part-item.result p (omega (arith, lt, c.loop-part.invariant.long)) in
    (next_part c.loop-part.part-index c.loop-part.part-items c.args.self.parts.items c.args.self.counter c.loop-part.counter p c.loop-part.invariant c.requires.ready lt here).room

pub loop-part-preserved : goal.loop-part-preserved
loop-part-preserved c =
    let lt : c.loop-part.part-index < length c.args.self.parts.items = omega (arith, c.loop-part.invariant.long, c.loop-part-test.true) in
    let p : PartLeft = get_or c.loop-part.part-items c.loop-part.part-index c.part-item.result in
    let here : p ≡ get_or c.loop-part.part-items c.loop-part.part-index p = get_or_default c.loop-part.part-items c.loop-part.part-index c.part-item.result p (omega (arith, lt, c.loop-part.invariant.long)) in
    counted_more c.loop-part.part-index c.loop-part.part-items _ c.args.self.parts.items c.args.self.counter c.loop-part.counter c.count.new.counter p c.count.new.self c.loop-part.invariant lt here refl c.count.ensures.grown

pub add_counter-requires : goal.add_counter-requires
add_counter-requires c =
    let le : length c.args.self.parts.items ≤ c.loop-part.part-index = omega (arith, c.loop-part.invariant.long, c.loop-part-test.false) in
    let grown = all_grown c.loop-part.part-index c.loop-part.part-items c.args.self.parts.items c.args.self.counter c.loop-part.counter c.loop-part.invariant le in
    record {
      labels = c.requires.room.labels ∙ sym grown.labels;
      config = c.requires.room.config ∙ sym grown.config;
      few = omega (arith, grown.number, c.requires.ready.fresh.number, lists_length c.args.self.parts.items, c.requires.room.room);
    }

pub returns-clause-counts : goal.returns-clause-counts
returns-clause-counts c = λ others has.
    let le : length c.args.self.parts.items ≤ c.loop-part.part-index = omega (arith, c.loop-part.invariant.long, c.loop-part-test.false) in
    let grown = all_grown c.loop-part.part-index c.loop-part.part-items c.args.self.parts.items c.args.self.counter c.loop-part.counter c.loop-part.invariant le in
    c.roll_up.ensures.counts (lists_of c.args.self.parts.items ++ others) (c.add_counter.ensures.added (lists_of c.args.self.parts.items) others (grown.added [] c.requires.ready.fresh) has)

pub returns-clause-labels : goal.returns-clause-labels
returns-clause-labels c = c.roll_up.ensures.labels ∙ c.add_counter.ensures.labels ∙ c.loop-part.invariant.grown.labels

pub returns-clause-config : goal.returns-clause-config
returns-clause-config c = c.roll_up.ensures.config ∙ c.add_counter.ensures.config ∙ c.loop-part.invariant.grown.config
