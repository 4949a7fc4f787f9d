use Rattle.seg_drill.specs.Counting.{lists_at}
use Rattle.seg_drill.proofs.Walked.{countable_later, walked_more, walked_record}
use Rattle.seg_drill.proofs.count.count_places.Goals as goal

pub count_record-requires-clause-countable : goal.count_record-requires-clause-countable
count_record-requires-clause-countable g c = λ doc lt. countable_later c.args.segment.now c.args.counter.now c.loop-place.counter (lists_at c.args.segment.now c.loop-place.invariant.done) doc c.requires.countable c.loop-place.invariant.grown lt

pub count_record-requires-clause-within : goal.count_record-requires-clause-within
count_record-requires-clause-within g c = walked_record c.args.segment.now (g.P.Places.left c.args.places.now) (g.P.Places.left c.loop-place.places) (g.P.Places.left c.next.new.self) c.args.counter.now c.loop-place.counter c.loop-place.number c.in-Some.place c.loop-place.invariant c.in-Some.ensures.next

pub loop-place-preserved : goal.loop-place-preserved
loop-place-preserved g c =
    walked_more c.args.segment.now (g.P.Places.left c.args.places.now) (g.P.Places.left c.loop-place.places) (g.P.Places.left c.next.new.self) c.args.counter.now c.loop-place.counter c.count_record.new.counter c.loop-place.number c.in-Some.place c.loop-place.invariant c.in-Some.ensures.next c.count_record.ensures
