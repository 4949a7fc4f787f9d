-- Each commit that was acknowledged or failed on the disk has its point.
use Rattle.std.proofs.Common.{◌≡◌, inl, inr, ⊎_elim, ℕ, eqb, true, List, [], ◌∷◌, get_or, map, Option, Some, None, refl, sym, ap, ◌∙◌, subst, cond}
use Rattle.std.specs.Prelude.{filter, filter_map, is_none, not, drop, unwrap_or, Result, Ok, Err}
use Rattle.std.specs.List.{AllZip, cons_option}
use Rattle.std.proofs.lemmas.Bool.{eq-eqb}
use Rattle.facet_words.specs.Commands.{Command}
use Rattle.facet_replies.specs.Replies.{Reply}
use Rattle.facet_output.specs.Effects.{effect, report}
use Rattle.facet_output.specs.Answered.{Answered, is_of, of_session}
use Rattle.facet_output.specs.Commits.{HasPoints, HasItsLabels, commits_of, has_outcome, outcome, outcome_at, outcome_by, outcome_in, outcome_of}
use Rattle.facet_output.specs.Output.{Opened, has_shown}
use Rattle.facet_output.specs.Seen.{CommitPoint, Seen, entered_by, labels_of}
use Rattle.facet_output.specs.Reported.{durable, durable_by, failed, failed_by, failed_in, number_in, of_commit}
use Rattle.facet_output.proofs.Among.{In, at_in, in_filter, of_filter, of_map}
use Rattle.facet_output.proofs.Answers.{in_drop}
use Rattle.facet_output.proofs.Effects.{commit_only, failure_said, number_said}

-- ---- outcomes

durable_outcome : (command : Command) (reply : Reply) (n : ℕ) → durable_by command reply ≡ Some n → outcome_by command reply ≡ Some (Ok n)
durable_outcome command reply n h =
    let only = commit_only number_in (effect command) (report reply) n h in
    let says = number_said (report reply) n only.1 in
    λ i. of_commit outcome_in (only.0 i) (says i)

failed_outcome : (command : Command) (reply : Reply) (count : ℕ) → failed_by command reply ≡ Some count → outcome_by command reply ≡ Some (Err count)
failed_outcome command reply count h =
    let only = commit_only failed_in (effect command) (report reply) count h in
    let says = failure_said (report reply) count only.1 in
    λ i. of_commit outcome_in (only.0 i) (says i)

of_ok : (operations : ℕ) (o : Option ℕ) (n : ℕ) → outcome_at operations o ≡ Ok n → (o ≡ None) × (operations ≡ n)
of_ok operations None n e = (refl, cc)
of_ok operations (Some count) n e = absurd cc

of_err : (operations : ℕ) (o : Option ℕ) (count : ℕ) → outcome_at operations o ≡ Err count → o ≡ Some count
of_err operations None count e = absurd cc
of_err operations (Some k) count e = cc

-- ---- points

module _ (R : Answered → CommitPoint → Type 0) (a : Answered) (o : Result ℕ ℕ) (is : outcome a ≡ Some o) where
  -- a point with this outcome that is beside the answer
  abbrev HasPoint : List CommitPoint → Type 0
  HasPoint points = (p : CommitPoint) × In p points × (outcome_of p ≡ o) × R a p

  beside : (xs : List Answered) (points : List CommitPoint) → map outcome_of points ≡ filter_map outcome xs → AllZip R (filter has_outcome xs) points → In a xs → HasPoint points
  beside [] points same each there = absurd there
  beside (x ∷ xs) points same each there = by (outcome x) refl points (beside xs) same each there
    where
      by : (q : Option (Result ℕ ℕ)) → outcome x ≡ q → (points : List CommitPoint)
          → ((points : List CommitPoint) → map outcome_of points ≡ filter_map outcome xs → AllZip R (filter has_outcome xs) points → In a xs → HasPoint points)
          → map outcome_of points ≡ cons_option q (filter_map outcome xs) → AllZip R (cond (not (is_none q)) (x ∷ filter has_outcome xs) (filter has_outcome xs)) points → In a (x ∷ xs) → HasPoint points
      by None e points rest same each there = ⊎_elim (λ here. let no_match : None ≡ Some o = sym e ∙ ap outcome (sym here) ∙ is in absurd cc) (λ later. rest points same each later) there
      by (Some q) e [] rest same each there = absurd each
      by (Some q) e (p ∷ points) rest same each there = ⊎_elim
          (λ here. let it : Some q ≡ Some o = sym e ∙ ap outcome (sym here) ∙ is in
          let first : outcome_of p ≡ q = ap (λ (l : List (Result ℕ ℕ)). get_or l 0 q) same in
          let last : q ≡ o = ap (λ (r : Option (Result ℕ ℕ)). unwrap_or r q) it in
          (p, inl refl, first ∙ last, subst (λ (b : Answered). R b p) (sym here) each.0))
          (λ later. let behind : map outcome_of points ≡ filter_map outcome xs = ap (λ (l : List (Result ℕ ℕ)). drop 1 l) same in
          let r = rest points behind each.1 later in (r.0, inr r.1, r.2, r.3)) there

module _ (opened : Opened) (last : Seen) (answered : List Answered) (points : HasPoints opened last answered) where
  point_of : (a : Answered) (o : Result ℕ ℕ) → In a answered → outcome a ≡ Some o → (e : ℕ × CommitPoint) × In e last.commits × (outcome_of e.1 ≡ o) × HasItsLabels last answered a e.1
  point_of a o there is =
      let session = a.order.session in
      let own = in_filter (is_of session) answered a there (eq-eqb session session refl) in
      let r = beside (HasItsLabels last answered) a o is (of_session session answered) (commits_of session last.commits) (points.exact session) (points.labels session) own in
      let e = of_map (λ (e : ℕ × CommitPoint). e.1) (entered_by session (drop 1 last.commits)) r.0 r.1 in
      let behind = of_filter (λ (e : ℕ × CommitPoint). eqb e.0 session) (drop 1 last.commits) e.0 e.1 in
      let at = in_drop 1 last.commits e.0 behind.0 in
      (e.0, at_in last.commits at.0 e.0 at.2, ap outcome_of (sym e.2) ∙ r.2, subst (λ (p : CommitPoint). HasItsLabels last answered a p) e.2 r.3)

  -- an acknowledged commit has a point that has not failed, of as many operations, and with all labels that its session had been shown
  pub durable_point : (a : Answered) (n : ℕ) → In a answered → durable a ≡ Some n
      → (e : ℕ × CommitPoint) × In e last.commits × (e.1.failed ≡ None) × (e.1.operations ≡ n) × (has_shown (labels_of last) last.pairs answered a e.1.labels ≡ true)
  durable_point a n there e =
      let r = point_of a (Ok n) there (durable_outcome a.order.command a.reply n e) in
      let told = of_ok r.0.1.operations r.0.1.failed n r.2 in
      (r.0, r.1, told.0, told.1, r.3 told.0)

  -- one that failed on the disk has a point with its count
  pub failed_point : (a : Answered) (count : ℕ) → In a answered → failed a ≡ Some count → (e : ℕ × CommitPoint) × In e last.commits × (e.1.failed ≡ Some count)
  failed_point a count there e =
      let r = point_of a (Err count) there (failed_outcome a.order.command a.reply count e) in
      (r.0, r.1, of_err r.0.1.operations r.0.1.failed count r.2)
