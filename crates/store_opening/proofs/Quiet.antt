-- Runs that write nothing go on.
use Rattle.std.proofs.Common.{◌∙◌, arith}
use Rattle.facet_disk.specs.declared.disk.Disk.{Ghosts}
use Rattle.commit_calls.proofs.Runs.{then_on}
use Rattle.store_opening.specs.Quiet.{IsUnchanged, IsQuiet}

module _ {D : Type 0} (disk : Ghosts D) where
  -- one run after another
  pub goes_on : (old mid new : D) → IsQuiet disk old mid → IsQuiet disk mid new → IsQuiet disk old new
  goes_on old mid new one two = record {
    same = two.same ∙ one.same;
    passes = then_on disk IsUnchanged IsUnchanged IsUnchanged old mid new one.passes two.passes (λ c d is. is) (λ c d e at first second. second ∙ first);
    keeps = λ c left. two.keeps c (one.keeps c left);
    later = omega (arith, one.later, two.later);
  }
