use Rattle.std.proofs.Common.{◌∙◌, sym}
use Rattle.live_lines.proofs.Kept.{end_sessions}
use Rattle.live_lines.proofs.grouping.Grouping.end.Goals.{in-Some, in-None}
use Rattle.live_lines.proofs.grouping.Grouping.end.Goals as goal

pub returns-clause-sessions : goal.returns-clause-sessions
returns-clause-sessions c = elim c.match-take.branch [
  | in-Some w ↦ rw (w.result-is) (end_sessions c.self.inside.next c.self.inside.open_group w.in-Some.open c.self.invariant (sym c.take.ensures.value ∙ w.in-Some.is))
  | in-None w ↦ rw (w.result-is) tt
]
