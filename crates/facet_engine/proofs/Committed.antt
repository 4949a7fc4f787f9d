-- A commit is a step.
use Rattle.std.proofs.Common.{◌≡◌, ◌≢◌, ◌∙◌, inl, inr, true, false, ◌+◌, ◌≤◌, ◌^◌, eqb, ℕ, suc, List, [], ◌∷◌, ◌++◌, length, refl, sym, ap, subst, arith, append-nil, Some, None, Result, Ok, Err}
use Rattle.std.specs.Prelude.{IfOk, IfErr, All, filter_map}
use Rattle.std.specs.List.{cons_option}
use Rattle.std.proofs.lemmas.Bool.{eq-eqb}
use Rattle.std.proofs.lemmas.List.{length-append, nil_from_length}
use Rattle.std.proofs.lemmas.List.Elements.{filter-append, filter_map-append}
use mathlib.Core.List.{IsPrefix}
use Rattle.chronicle.specs.History.{entries, own_of}
use Rattle.chronicle.specs.Shown.{Shown, mine, SameToken, SeesOn}
use Rattle.commit_plan.specs.declared.fault.CommitFault.{CommitFault}
use Rattle.commit_plan.specs.declared.fault.CommitFault.TheVariants as faults
use Rattle.commit_turns.specs.Answers.{Enters}
use Rattle.commit_turns.specs.Points.{last_of, made, failed_after}
use Rattle.facet_words.specs.Commands.{Settings}
use Rattle.taxo_cache.specs.Seen.{labels_of}
use Rattle.pair_manager.specs.declared.pass.Pass.{Pass}
use Rattle.pair_manager.specs.declared.point.CommitPoint.{CommitPoint as Point}
use Rattle.pair_manager.specs.Passes.{SamePass, SeesMoreOperations}
use Rattle.facet_output.specs.Held.{Held}
use Rattle.facet_output.specs.Seen.{Entries, Sees, EntersNone, EntersBehind, entered_by, failures}
use Rattle.facet_output.specs.Steps.{IsStep, EntersCommit}
use Rattle.facet_output.proofs.TwoRan.{no_new}
use Rattle.chronicle.proofs.Prefixes.{prefix_trans}
use Rattle.facet_engine.specs.Sessions.{HaveOneNumber}
use Rattle.facet_engine.specs.Replies.{commit_reply}
use Rattle.facet_engine.specs.Steps.{seen_of, point_of, committed}
use Rattle.facet_engine.proofs.Between.{same_since, labels_since, operations_since}
use Rattle.facet_engine.proofs.Seeing.{told, told_begins, told_none, told_behind, labels_none, operations_none, pairs_none}
use Rattle.facet_adding.proofs.Tried.{same_sees_on}
use Rattle.facet_engine.proofs.Refreshed.{many_operations, many_in_history, more_labels}

-- ---- failures among points

told_failures : (xs : List (ℕ × Point)) → failures (told point_of xs) ≡ filter_map (λ (p : Point). p.failed) (entries xs)
told_failures [] = refl
told_failures (x ∷ xs) = ap (cons_option x.1.failed) (told_failures xs)

none_failed : (ps : List Point) → All (λ p. p.failed ≡ None) ps → filter_map (λ (p : Point). p.failed) ps ≡ []
none_failed [] all = refl
none_failed (p ∷ ps) all =
    let here : p.failed ≡ None = all 0 p (omega arith) in
    let rest : filter_map (λ (q : Point). q.failed) ps ≡ [] = none_failed ps (λ i d lt. all (suc i) d (omega arith)) in
    λ i. cons_option (here i) (rest i)

one_failed : (front : List Point) (last : Point) (count : ℕ) → All (λ p. p.failed ≡ None) front → last.failed ≡ Some count → filter_map (λ (p : Point). p.failed) (front ++ last ∷ []) ≡ count ∷ []
one_failed front last count all is = filter_map-append (λ (p : Point). p.failed) front (last ∷ []) ∙ (λ i. none_failed front all i ++ cons_option (is i) [])

-- ---- what was there before

-- behind what its token had seen, others have entered what stands before its own entries
none_between : {A : Type 0} (n : ℕ) (old before new ps : Entries A) → IsPrefix old before → new ≡ before ++ ps → entered_by n ps ≡ ps → entered_by n new ≡ entered_by n old ++ ps → EntersNone n old before
none_between {A} n old before new ps begins seen own mine_is =
    let rest = entered_by n begins.0 in
    let parts : entered_by n before ≡ entered_by n old ++ rest = ap (entered_by n) (sym begins.1) ∙ filter-append (λ (e : ℕ × A). eqb e.0 n) old begins.0 in
    let whole : entered_by n new ≡ entered_by n before ++ entered_by n ps = ap (entered_by n) seen ∙ filter-append (λ (e : ℕ × A). eqb e.0 n) before ps in
    let size : length (entered_by n old) + length ps ≡ length (entered_by n before) + length ps = sym (length-append (entered_by n old) ps) ∙ ap length (sym mine_is ∙ whole) ∙ length-append (entered_by n before) (entered_by n ps) ∙ ap (λ (l : Entries A). length (entered_by n before) + length l) own in
    let none : rest ≡ [] = nil_from_length rest (omega (arith, size, ap length parts ∙ length-append (entered_by n old) rest)) in
    (begins, parts ∙ ap (λ (l : Entries A). entered_by n old ++ l) none ∙ append-nil (entered_by n old))

pub one_own : {A : Type 0} (n : ℕ) (x : A) → entered_by n ((n, x) ∷ []) ≡ (n, x) ∷ []
one_own n x = let e : eqb n n ≡ true = eq-eqb n n refl in rw e refl

module _ (labels least n : ℕ) (old new : Shown Point) (is : old.is_note ≡ false) (at : old.number ≡ n) (same : SameToken old new) (enough : least ≤ labels) where
  own_old : mine old ≡ entered_by n old.seen
  own_old = λ i. own_of (is i) (at i) old.seen

  own_new : mine new ≡ entered_by n new.seen
  own_new = λ i. own_of ((same.2 ∙ is) i) ((same.0 ∙ at) i) new.seen

  -- it entered one point
  entered_one : (result : Result ℕ CommitFault) (e : Enters labels old new result) (p : Point) → new.seen ≡ e.before ++ (new.number, p) ∷ [] → mine new ≡ mine old ++ (new.number, p) ∷ []
      → EntersBehind n (point_of p) (told point_of old.seen) (told point_of e.before) (told point_of new.seen)
  entered_one result e p seen own =
      let number : new.number ≡ n = same.0 ∙ at in
      let last : new.seen ≡ e.before ++ (n, p) ∷ [] = seen ∙ (λ i. e.before ++ (number i, p) ∷ []) in
      let mine_is : entered_by n new.seen ≡ entered_by n old.seen ++ (n, p) ∷ [] = sym own_new ∙ own ∙ (λ i. own_old i ++ (number i, p) ∷ []) in
      told_behind point_of n p old.seen e.before new.seen (none_between n old.seen e.before new.seen ((n, p) ∷ []) e.sees_on last (one_own n p) mine_is, last)

  -- it entered none
  entered_no : (result : Result ℕ CommitFault) (e : Enters labels old new result) → new.seen ≡ e.before → mine new ≡ mine old → EntersNone n (told point_of old.seen) (told point_of new.seen)
  entered_no result e seen own = told_none point_of n old.seen new.seen (subst (IsPrefix old.seen) (sym seen) e.sees_on, sym own_new ∙ own ∙ own_old)

  all_unfailed : (result : Result ℕ CommitFault) (e : Enters labels old new result) → ((count : ℕ) → result ≢ Err (faults.Closed count)) → failures (told point_of e.before) ≡ []
  all_unfailed result e never = told_failures e.before ∙ none_failed (entries e.before) (e.unfailed never)

  pub commit_enters : (result : Result ℕ CommitFault) → Enters labels old new result → EntersCommit n least (commit_reply result) (told point_of old.seen) (told point_of new.seen)
  commit_enters (Ok k) e = ((told point_of e.before, point_of (made k labels), entered_one (Ok k) e (made k labels) e.seen e.mine, all_unfailed (Ok k) e (λ count f. absurd (cc f)), refl), refl, enough)
  commit_enters (Err (faults.Disk count)) e =
      let p = failed_after (last_of (entries e.before)) count in
      (told point_of e.before, point_of p, entered_one (Err (faults.Disk count)) e p e.seen e.mine, all_unfailed (Err (faults.Disk count)) e (λ k f. absurd (cc f)), refl)
  commit_enters (Err (faults.Closed count)) e =
      let seen : new.seen ≡ e.before = e.seen ∙ append-nil e.before in (
        entered_no (Err (faults.Closed count)) e seen (e.mine ∙ append-nil (mine old)),
        ap (λ l. failures (told point_of l)) seen ∙ told_failures e.before ∙ ap (filter_map (λ (p : Point). p.failed)) e.others.1 ∙ one_failed e.others.0 (last_of (entries e.before)) count e.others.2 ((e.closed count).1 refl),
      )
  commit_enters (Err faults.NoMemory) e = entered_no (Err faults.NoMemory) e (e.seen ∙ append-nil e.before) (e.mine ∙ append-nil (mine old))
  commit_enters (Err (faults.NumbersSpent number)) e =
      let seen : new.seen ≡ e.before = e.seen ∙ append-nil e.before in
      (entered_no (Err (faults.NumbersSpent number)) e seen (e.mine ∙ append-nil (mine old)), ap (λ l. failures (told point_of l)) seen ∙ all_unfailed (Err (faults.NumbersSpent number)) e (λ k f. absurd (cc f)))

-- ---- the step

module _ (settings : Settings) (held : Held) (phase line number : ℕ) (old new : Pass) (have : HaveOneNumber number old) (same : SamePass old new) (labels : SeesOn old.labels new.labels) (operations : SeesOn old.operations new.operations)
    (pairs : new.pairs ≡ old.pairs) where
  abbrev n : ℕ
  n = old.labels.number

  no_labels : EntersNone n (seen_of old).labels (seen_of new).labels
  no_labels = labels_none number old new have same labels

  no_operations : EntersNone n (seen_of old).operations (seen_of new).operations
  no_operations = operations_none number old new have same operations

  no_pairs : EntersNone n (seen_of old).pairs (seen_of new).pairs
  no_pairs = pairs_none number old new have same (same_sees_on old.pairs new.pairs pairs)

  more_points : (result : Result ℕ CommitFault) → Enters (length (labels_of new.labels.seen)) old.commits new.commits result → IsPrefix (seen_of old).commits (seen_of new).commits
  more_points result e = told_begins point_of old.commits.seen new.commits.seen (prefix_trans old.commits.seen e.before new.commits.seen e.sees_on (_, sym e.seen))

  sees_all : (result : Result ℕ CommitFault) → Enters (length (labels_of new.labels.seen)) old.commits new.commits result → Sees (seen_of old) (seen_of new)
  sees_all result e = record { labels = labels.0; operations = no_operations.0; pairs = no_pairs.0; commits = more_points result e }

  pub commit_step : (result : Result ℕ CommitFault) → Enters (length (labels_of new.labels.seen)) old.commits new.commits result → IfOk result (λ k. k ≡ length new.operations.seen)
      → IfErr result (λ e. (number : ℕ) → e ≡ faults.NumbersSpent number → 2 ^ 63 ≤ number) → IsStep settings held (committed old new result phase line)
  commit_step result e answer limit = by result e answer limit
    where
      refusal : (result : Result ℕ CommitFault) → Enters (length (labels_of new.labels.seen)) old.commits new.commits result → EntersCommit n (length (labels_of old.labels.seen)) (commit_reply result) (seen_of old).commits (seen_of new).commits
      refusal result e = commit_enters (length (labels_of new.labels.seen)) (length (labels_of old.labels.seen)) n old.commits new.commits old.commits_rest.0 (have.3 ∙ sym have.0) same.commits
          (more_labels old.labels.seen new.labels.seen labels.0) result e

      by : (result : Result ℕ CommitFault) → Enters (length (labels_of new.labels.seen)) old.commits new.commits result → IfOk result (λ k. k ≡ length new.operations.seen)
          → IfErr result (λ e. (number : ℕ) → e ≡ faults.NumbersSpent number → 2 ^ 63 ≤ number) → IsStep settings held (committed old new result phase line)
      by (Ok k) e answer limit = record {
        sees = sees_all (Ok k) e;
        right = inl (inl (k, omega (arith, answer, many_in_history new), refl));
        labels = no_new n _ old.labels.seen new.labels.seen no_labels;
        operations = no_operations;
        pairs = no_pairs;
        commits = refusal (Ok k) e;
        fresh = omega (arith, answer, many_operations old.operations.seen, ap length (sym operations.0.1) ∙ length-append old.operations.seen operations.0.0);
        took = tt;
        place = refl;
      }
      by (Err (faults.Disk count)) e answer limit = record {
        sees = sees_all (Err (faults.Disk count)) e;
        right = inl (inr (inl (count, refl)));
        labels = no_new n _ old.labels.seen new.labels.seen no_labels;
        operations = no_operations;
        pairs = no_pairs;
        commits = refusal (Err (faults.Disk count)) e;
        fresh = tt;
        took = tt;
        place = refl;
      }
      by (Err (faults.Closed count)) e answer limit = record {
        sees = sees_all (Err (faults.Closed count)) e;
        right = inl (inr (inr (inl (count, refl))));
        labels = no_new n _ old.labels.seen new.labels.seen no_labels;
        operations = no_operations;
        pairs = no_pairs;
        commits = refusal (Err (faults.Closed count)) e;
        fresh = tt;
        took = tt;
        place = refl;
      }
      by (Err faults.NoMemory) e answer limit = record {
        sees = sees_all (Err faults.NoMemory) e;
        right = inr (refl, refl);
        labels = no_new n _ old.labels.seen new.labels.seen no_labels;
        operations = no_operations;
        pairs = no_pairs;
        commits = refusal (Err faults.NoMemory) e;
        fresh = tt;
        took = tt;
        place = refl;
      }
      by (Err (faults.NumbersSpent number)) e answer limit = record {
        sees = sees_all (Err (faults.NumbersSpent number)) e;
        right = inl (inr (inr (inr (number, limit number refl, refl))));
        labels = no_new n _ old.labels.seen new.labels.seen no_labels;
        operations = no_operations;
        pairs = no_pairs;
        commits = refusal (Err (faults.NumbersSpent number)) e;
        fresh = tt;
        took = tt;
        place = refl;
      }

-- ---- the same of a pass that has first seen more operations of others

module _ (settings : Settings) (held : Held) (phase line number : ℕ) (old mid new : Pass) (have : HaveOneNumber number old) (more : SeesMoreOperations old mid) where
  pub commit_step_since : (result : Result ℕ CommitFault) → SamePass mid new → SeesOn mid.labels new.labels → SeesOn mid.operations new.operations → new.pairs ≡ mid.pairs
      → Enters (length (labels_of new.labels.seen)) mid.commits new.commits result → IfOk result (λ k. k ≡ length new.operations.seen)
      → IfErr result (λ e. (number : ℕ) → e ≡ faults.NumbersSpent number → 2 ^ 63 ≤ number) → IsStep settings held (committed old new result phase line)
  commit_step_since result same labels operations pairs e answer limit =
      commit_step settings held phase line number old new have (same_since old mid new more same) (labels_since old mid new more labels) (operations_since old mid new more operations) (pairs ∙ more.pairs)
      result (subst (λ (t : Shown Point). Enters (length (labels_of new.labels.seen)) t new.commits result) more.commits e) answer limit
