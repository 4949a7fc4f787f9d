use Rattle.generator.proofs.Ranges.{pushed}
use Rattle.generator.specs.Generated.{generated_labels}
use Rattle.generator.proofs.labels.first_labels.Goals as goal

pub loop-number-preserved : goal.loop-number-preserved
loop-number-preserved c = pushed (λ v. v.items) generated_labels c.loop-number.all.items _ c.in_ok-labels.field-0 c.loop-number.number (c.in_ok-push.ensures.items) c.loop-number.invariant c.in_ok-labels.ensures
