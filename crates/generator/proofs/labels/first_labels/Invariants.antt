use Rattle.std.proofs.Common.{◌≡◌, map}
use Rattle.std.specs.List.{range_with_len}
use Rattle.generator.specs.Generated.{generated_labels}
use Rattle.generator.proofs.labels.first_labels.Given as goal

abbrev pub invariant-loop-number : goal.invariant-loop-number
invariant-loop-number l = map (λ v. v.items) l.all.items ≡ map generated_labels (range_with_len 0 l.number)
