use Rattle.std.proofs.Common.{◌≡◌, ◌++◌, map, take}
use Rattle.facet_disk.specs.declared.name.Dir.TheVariants.{Index}
use Rattle.facet_disk.specs.declared.name.Kind.TheVariants.{Segment}
use Rattle.commit_calls.specs.Held.{file}
use Rattle.commit_plan.specs.Committed.{kept_view}
use Rattle.commit_plan.proofs.names.push_documents.Given as goal

abbrev pub invariant-loop-segment : goal.invariant-loop-segment
invariant-loop-segment l = l.names.items ≡ l.fn.names.items ++ map (λ k. file Index Segment k.part.number) (map kept_view (take l.segment-index l.stored))
