-- A merge is a step.
use Rattle.std.proofs.Common.{◌≡◌, inl, inr, ℕ, None, Result, Ok, Err, refl}
use Rattle.chronicle.specs.Shown.{SeesOn}
use Rattle.pair_manager.specs.declared.pass.Pass.{Pass}
use Rattle.pair_manager.specs.Passes.{SamePass}
use Rattle.facet_words.specs.Commands.{Settings, merge}
use Rattle.facet_output.specs.Held.{Held}
use Rattle.facet_output.specs.Replies.{Reply, merged, refused, no_memory}
use Rattle.facet_output.specs.Replying.{RightReply}
use Rattle.facet_output.specs.Seen.{history_of, labels_of}
use Rattle.facet_output.specs.Steps.{IsStep}
use Rattle.facet_engine.specs.Sessions.{HaveOneNumber}
use Rattle.facet_engine.specs.Steps.{seen_of, segments_merged, taking}
use Rattle.facet_engine.proofs.Taking.{taking_none}
use Rattle.facet_adding.proofs.Tried.{same_sees_on}

module _ (settings : Settings) (held : Held) (phase line number : ℕ) (old new : Pass) (have : HaveOneNumber number old) (same : SamePass old new) (operations : SeesOn old.operations new.operations)
    (labels : new.labels ≡ old.labels) (pairs : new.pairs ≡ old.pairs) (commits : new.commits ≡ old.commits) where
  enters_nothing : (reply : Reply) → RightReply settings (labels_of (seen_of new)) (history_of (seen_of new)) held (taking merge None reply old new phase line).answered → IsStep settings held (taking merge None reply old new phase line)
  enters_nothing reply right = taking_none settings held phase line number old new have same (same_sees_on old.labels new.labels labels) operations (same_sees_on old.pairs new.pairs pairs) commits merge reply right refl refl refl (λ none. none)

  pub merge_step : {E : Type 0} (result : Result (Unit {0}) E) → IsStep settings held (segments_merged old new result phase line)
  merge_step (Ok done) = enters_nothing merged (inl refl)
  merge_step (Err fault) = enters_nothing (refused no_memory) (inr (refl, refl))
