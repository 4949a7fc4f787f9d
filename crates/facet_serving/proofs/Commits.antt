-- What becomes of commits, in a right output.
use Rattle.std.proofs.Common.{◌≡◌, ℕ, true, List, Some}
use Rattle.std.specs.Prelude.{◌&&◌}
use Rattle.std.specs.Option.{option_map_or}
use Rattle.std.proofs.lemmas.Bool.{and_parts}
use Rattle.facet_output.proofs.Among.{In, of_all, of_any}
use Rattle.facet_output.specs.Answered.{Answered, may_come_after}
use Rattle.facet_output.specs.Output.{IsOutput, Opened, Published, has_failure}
use Rattle.facet_output.specs.Reported.{closed_at, failed, is_number}
use Rattle.facet_output.proofs.Exact.{wanted, of_number}
use Rattle.facet_words.specs.Commands.{Settings, Order}
use Rattle.facet_model.specs.Histories.{Operation}

module _ (settings : Settings) (phases : List (List Order)) (opened : Opened) (labels : List (List (List ℕ))) (history : List Operation) (published : Published) (answered : List Answered)
    (o : IsOutput settings phases opened labels history published answered) where
  -- one that tells that an earlier one failed tells of one
  pub failed_before : (a : Answered) (count : ℕ) → In a answered → closed_at a ≡ Some count → (b : Answered) × In b answered × (failed b ≡ Some count)
  failed_before a count there e =
      let some = wanted (has_failure answered a) (closed_at a) count (of_all (λ (x : Answered). option_map_or (has_failure answered x) (closed_at x) true) answered a o.closed there) e in
      let r = of_any (λ (b : Answered). is_number count (failed b) && may_come_after a b) answered some in
      (r.0, r.1, of_number count (failed r.0) (and_parts (is_number count (failed r.0)) (may_come_after a r.0) r.2).0)
