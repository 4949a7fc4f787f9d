-- A call that goes on from a pass which has first seen more operations of others.
use Rattle.std.proofs.Common.{◌∙◌, ℕ, List, refl, subst}
use Rattle.chronicle.specs.Shown.{Shown, SeesOn}
use Rattle.pair_manager.proofs.Going.{same_on, sees_on}
use Rattle.pair_manager.specs.declared.pass.Pass.{Pass}
use Rattle.pair_manager.specs.Passes.{SamePass, SeesMoreOperations}
use Rattle.facet_engine.specs.Sessions.{HaveOneNumber}
use Rattle.facet_engine.proofs.SeenPairs.{same_pass, sees_self}

-- it may have seen no more
pub sees_no_more : (pass : Pass) → SeesMoreOperations pass pass
sees_no_more pass = record { same = same_pass pass; operations = sees_self pass.operations; labels = refl; pairs = refl; commits = refl }

-- its numbers stay
pub still_one_number : (number : ℕ) (old new : Pass) → SamePass old new → HaveOneNumber number old → HaveOneNumber number new
still_one_number number old new same have = (same.labels.0 ∙ have.0, same.operations.0 ∙ have.1, same.pairs.0 ∙ have.2, same.commits.0 ∙ have.3)

module _ (old mid new : Pass) (more : SeesMoreOperations old mid) where
  pub same_since : SamePass mid new → SamePass old new
  same_since same = record {
    labels = same_on old.labels mid.labels new.labels more.same.labels same.labels;
    operations = same_on old.operations mid.operations new.operations more.same.operations same.operations;
    pairs = same_on old.pairs mid.pairs new.pairs more.same.pairs same.pairs;
    commits = same_on old.commits mid.commits new.commits more.same.commits same.commits;
  }

  pub labels_since : SeesOn mid.labels new.labels → SeesOn old.labels new.labels
  labels_since on = subst (λ (t : Shown (List (List ℕ))). SeesOn t new.labels) more.labels on

  pub operations_since : SeesOn mid.operations new.operations → SeesOn old.operations new.operations
  operations_since on = sees_on old.operations mid.operations new.operations more.operations on
