-- A refresh is a step.
use Rattle.std.proofs.Common.{◌≡◌, ◌∙◌, inl, inr, ◌+◌, ◌-◌, ◌≤◌, ℕ, List, [], ◌∷◌, length, refl, sym, ap, subst, arith, Result, Ok, Err}
use Rattle.std.specs.Prelude.{IfOk, OnOk, OnErr}
use Rattle.std.proofs.lemmas.List.{length-map, length-append}
use mathlib.Core.List.{IsPrefix}
use Rattle.chronicle.specs.Shown.{Shown, mine, SeesOn, EntersBehind}
use Rattle.chronicle.proofs.Prefixes.{prefix_length}
use Rattle.facet_model.specs.Histories.{Change, Operation}
use Rattle.facet_words.specs.Commands.{Settings}
use Rattle.taxo_cache.specs.Seen.{labels_of}
use Rattle.pair_manager.specs.declared.pass.Pass.{Pass}
use Rattle.pair_manager.specs.declared.publication.Publication.{Publication}
use Rattle.pair_manager.specs.Published.{numbers}
use Rattle.pair_manager.specs.Passes.{SamePass, SeesMoreOperations}
use Rattle.facet_output.specs.Held.{Held}
use Rattle.facet_output.specs.Seen.{Sees, EntersNone, EntersBehind as Behind, history_of}
use Rattle.facet_output.specs.Steps.{IsStep}
use Rattle.facet_output.proofs.TwoRan.{no_new}
use Rattle.facet_engine.specs.Sessions.{HaveOneNumber}
use Rattle.facet_engine.specs.Steps.{seen_of, refreshed}
use Rattle.facet_engine.proofs.Plain.{many_plain}
use Rattle.facet_engine.proofs.Between.{same_since, labels_since, operations_since}
use Rattle.facet_engine.proofs.Seeing.{enters_behind, told, told_begins, told_behind, labels_none, operations_none, pairs_none, commits_none}
use Rattle.facet_adding.proofs.Tried.{same_sees_on}

pub many_operations : (seen : List (ℕ × Operation)) → length (told (λ (o : Operation). o.change) seen) ≡ length seen
many_operations seen = let change : ℕ × Operation → ℕ × Change = λ e. (e.0, e.1.change) in length-map seen change

pub many_in_history : (pass : Pass) → length (history_of (seen_of pass)) ≡ length pass.operations.seen
many_in_history pass = many_plain pass.operations.seen

-- who has seen more has seen no fewer labels
pub more_labels : (xs ys : List (ℕ × List (List ℕ))) → IsPrefix xs ys → length (labels_of xs) ≤ length (labels_of ys)
more_labels xs ys begins =
    let path : ℕ × List (List ℕ) → List (List ℕ) = λ e. e.1 in
    omega (arith, length-map xs path, length-map ys path, ap length (sym begins.1) ∙ length-append xs begins.0)

module _ (settings : Settings) (held : Held) (phase line number : ℕ) (old new : Pass) (have : HaveOneNumber number old) (same : SamePass old new) (labels : SeesOn old.labels new.labels) (operations : SeesOn old.operations new.operations)
    (pairs : IsPrefix old.pairs.seen new.pairs.seen) (commits : new.commits ≡ old.commits) where
  abbrev n : ℕ
  n = old.labels.number

  no_labels : EntersNone n (seen_of old).labels (seen_of new).labels
  no_labels = labels_none number old new have same labels

  no_operations : EntersNone n (seen_of old).operations (seen_of new).operations
  no_operations = operations_none number old new have same operations

  no_commits : EntersNone n (seen_of old).commits (seen_of new).commits
  no_commits = commits_none number old new have same (same_sees_on old.commits new.commits commits)

  sees_all : Sees (seen_of old) (seen_of new)
  sees_all = record { labels = no_labels.0; operations = no_operations.0; pairs = told_begins numbers old.pairs.seen new.pairs.seen pairs; commits = no_commits.0 }

  pub refresh_step : {E : Type 0} (result : Result ℕ E) → IfOk result (λ k. k ≡ length new.operations.seen) → IfOk result (λ k. length old.operations.seen ≤ k)
      → OnOk result (EntersBehind (record { operations = length new.operations.seen; labels = length (labels_of new.labels.seen) }) old.pairs new.pairs) → OnErr result (mine new.pairs ≡ mine old.pairs)
      → IsStep settings held (refreshed old new result phase line)
  refresh_step (Ok k) answer fresh enters none =
      let all : Publication = record { operations = length new.operations.seen; labels = length (labels_of new.labels.seen) } in
      let own = told_behind numbers n all old.pairs.seen enters.between new.pairs.seen (enters_behind all old.pairs new.pairs n old.pairs_rest.0 (have.2 ∙ sym have.0) enters) in
      let size : length new.pairs.seen ≡ length enters.between + 1 = ap length enters.seen ∙ length-append enters.between ((old.pairs.number, all) ∷ []) in
      let number : ℕ × Publication → ℕ × (ℕ × ℕ) = λ e. (e.0, numbers e.1) in
      let pairs_told : length (told numbers new.pairs.seen) ≡ length new.pairs.seen = length-map new.pairs.seen number in
      record {
        sees = sees_all;
        right = inl (k, omega (arith, answer, many_in_history new), refl);
        labels = no_new n _ old.labels.seen new.labels.seen no_labels;
        operations = no_operations;
        pairs = (
          told numbers enters.between,
          length (labels_of new.labels.seen),
          subst (λ (j : ℕ). Behind n (j, length (labels_of new.labels.seen)) (seen_of old).pairs (told numbers enters.between) (seen_of new).pairs) (sym answer) own,
          more_labels old.labels.seen new.labels.seen labels.0,
          omega arith,
        );
        commits = no_commits;
        fresh = omega (arith, fresh, many_operations old.operations.seen);
        took = tt;
        place = (length new.pairs.seen - 1, refl, omega (arith, size, pairs_told));
      }
  refresh_step (Err fault) answer fresh enters none =
      record {
        sees = sees_all;
        right = inr (refl, refl);
        labels = no_new n _ old.labels.seen new.labels.seen no_labels;
        operations = no_operations;
        pairs = pairs_none number old new have same (pairs, none);
        commits = no_commits;
        fresh = tt;
        took = tt;
        place = refl;
      }

-- ---- the same of a pass that has first seen more operations of others

module _ (settings : Settings) (held : Held) (phase line number : ℕ) (old mid new : Pass) (have : HaveOneNumber number old) (more : SeesMoreOperations old mid) where
  no_fewer : {E : Type 0} (result : Result ℕ E) → IfOk result (λ k. length mid.operations.seen ≤ k) → IfOk result (λ k. length old.operations.seen ≤ k)
  no_fewer (Ok k) fresh = omega (arith, fresh, prefix_length old.operations.seen mid.operations.seen more.operations.0)
  no_fewer (Err fault) fresh = tt

  pub refresh_step_since : {E : Type 0} (result : Result ℕ E) → SamePass mid new → SeesOn mid.labels new.labels → SeesOn mid.operations new.operations → IsPrefix mid.pairs.seen new.pairs.seen → new.commits ≡ mid.commits
      → IfOk result (λ k. k ≡ length new.operations.seen) → IfOk result (λ k. length mid.operations.seen ≤ k)
      → OnOk result (EntersBehind (record { operations = length new.operations.seen; labels = length (labels_of new.labels.seen) }) mid.pairs new.pairs) → OnErr result (mine new.pairs ≡ mine mid.pairs)
      → IsStep settings held (refreshed old new result phase line)
  refresh_step_since result same labels operations pairs commits answer fresh enters none =
      let all : Publication = record { operations = length new.operations.seen; labels = length (labels_of new.labels.seen) } in
      refresh_step settings held phase line number old new have (same_since old mid new more same) (labels_since old mid new more labels) (operations_since old mid new more operations)
      (subst (λ (t : Shown Publication). IsPrefix t.seen new.pairs.seen) more.pairs pairs) (commits ∙ more.commits) result answer (no_fewer result fresh)
      (subst (λ (t : Shown Publication). OnOk result (EntersBehind all t new.pairs)) more.pairs enters) (subst (λ (t : Shown Publication). OnErr result (mine new.pairs ≡ mine t)) more.pairs none)
