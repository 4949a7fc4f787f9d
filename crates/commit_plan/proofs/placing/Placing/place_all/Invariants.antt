use Rattle.std.proofs.Common.{◌≡◌, ◌≤◌, ◌+◌, fold, map, take}
use Rattle.std.specs.Arc.{arc_value}
use Rattle.commit_plan.specs.Drafts.{place}
use Rattle.commit_plan.proofs.placing.Placing.place_all.Given as goal

abbrev pub invariant-loop-segment : goal.invariant-loop-segment
invariant-loop-segment l = record {
  placed : l.self ≡ fold place l.fn.self (map arc_value (take l.segment-index l.segments));
  next : l.self.draft.next ≤ l.fn.self.draft.next + l.segment-index;
}
