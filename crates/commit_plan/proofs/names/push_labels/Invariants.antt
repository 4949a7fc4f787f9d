use Rattle.std.proofs.Common.{◌≡◌, ◌++◌, map, take}
use Rattle.facet_disk.specs.declared.name.Dir.TheVariants.{Taxonomy}
use Rattle.facet_disk.specs.declared.name.Kind.TheVariants.{Segment}
use Rattle.commit_calls.specs.Held.{file}
use Rattle.commit_plan.proofs.names.push_labels.Given as goal

abbrev pub invariant-loop-part : goal.invariant-loop-part
invariant-loop-part l = l.names.items ≡ l.fn.names.items ++ map (λ part. file Taxonomy Segment part.number) (take l.part-index l.parts)
