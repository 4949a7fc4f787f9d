use Rattle.std.proofs.Common.{◌∙◌, Result, Ok, Err, OnErr}
use Rattle.std.specs.Arc.{arc_value}
use Rattle.arc_list.proofs.Pieces.{part_added}
use Rattle.arc_list.proofs.list.ArcList.extend_shared.Goals as goal

on_err : {T E P : Type 0} (r : Result T E) → P → OnErr r P
on_err (Ok _) p = tt
on_err (Err _) p = p

pub returns-in_err-try_clone-clause-err : goal.returns-in_err-try_clone-clause-err
returns-in_err-try_clone-clause-err g c = on_err c.from_residual.result (part_added arc_value c.args.self.now c.loop-entry.self c.loop-entry.entry-index c.args.entries.now c.loop-entry.invariant)

pub returns-in_err-push-clause-err : goal.returns-in_err-push-clause-err
returns-in_err-push-clause-err g c = on_err c.from_residual-in_err-push.result (part_added arc_value c.args.self.now c.push.new.self c.loop-entry.entry-index c.args.entries.now (c.in_err-push.ensures.err ∙ c.loop-entry.invariant))
