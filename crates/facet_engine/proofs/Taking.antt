-- A command that sees a pair is a step: it takes the last one, or sees one that is held.
use Rattle.std.proofs.Common.{◌≡◌, ◌∙◌, ◌+◌, ◌≤◌, ℕ, true, List, [], ◌∷◌, ◌++◌, length, Option, Some, None, option_map, slice_get, refl, sym, ap, subst, arith}
use Rattle.std.specs.Prelude.{◌&&◌, IfSome, is_none, take}
use Rattle.std.proofs.lemmas.List.{length-map, length-append}
use Rattle.chronicle.specs.History.{entries}
use Rattle.chronicle.specs.Shown.{SeesOn}
use Rattle.facet_model.specs.Histories.{Operation, docs}
use Rattle.taxo_cache.specs.Seen.{labels_of}
use Rattle.pair_manager.specs.declared.pass.Pass.{Pass}
use Rattle.pair_manager.specs.declared.publication.Publication.{Publication}
use Rattle.pair_manager.specs.Published.{Published, numbers, IsLast}
use Rattle.pair_manager.specs.Passes.{SamePass}
use Rattle.facet_words.specs.Commands.{Settings, Command}
use Rattle.facet_output.specs.Held.{Held}
use Rattle.facet_output.specs.Replies.{Reply}
use Rattle.facet_output.specs.Replying.{RightReply, docs_of}
use Rattle.facet_output.specs.Seen.{Sees, EntersNone, history_of, labels_of as plain_labels}
use Rattle.facet_output.specs.Steps.{IsStep, IsLastPair, IsPlace, EntersOperation, EntersPair, EntersPoints}
use Rattle.facet_output.specs.Reported.{placed_by, refreshed_by, stood_by}
use Rattle.facet_output.proofs.Fronts.{get_last}
use Rattle.facet_output.proofs.TwoRan.{no_new}
use Rattle.facet_engine.specs.HeldPairs.{numbers_of}
use Rattle.facet_engine.specs.Sessions.{HaveOneNumber, HasSeen}
use Rattle.facet_engine.specs.Steps.{seen_of, taking, last_pair, last_place}
use Rattle.facet_engine.proofs.Plain.{plain, docs_front}
use Rattle.facet_engine.proofs.Refreshed.{many_operations}
use Rattle.facet_engine.proofs.SeenPairs.{begins}
use Rattle.facet_engine.proofs.Seeing.{told, labels_none, operations_none, pairs_none, commits_none}
use Rattle.facet_adding.proofs.Tried.{same_sees_on}

-- ---- the last pair

-- the last entry of a list, with its number
ends_with : {A : Type 0} (seen : List (ℕ × A)) (before : List A) (p : A) → entries seen ≡ before ++ p ∷ [] → (front : List (ℕ × A)) × (n : ℕ) × (seen ≡ front ++ (n, p) ∷ [])
ends_with [] [] p e = absurd cc
ends_with [] (b ∷ before) p e = absurd cc
ends_with (x ∷ []) [] p e = let is : x.1 ≡ p = cc in ([], x.0, λ i. (x.0, is i) ∷ [])
ends_with (x ∷ y ∷ seen) [] p e = absurd cc
ends_with (x ∷ seen) (b ∷ before) p e = let rest : entries seen ≡ before ++ p ∷ [] = cc in let r = ends_with seen before p rest in (x ∷ r.0, r.1, ap (λ l. x ∷ l) r.2)

-- what was published last is the last pair that was seen
pub last_is : (pass : Pass) (p : Publication) → IsLast p (entries pass.pairs.seen) → last_pair pass ≡ Some (numbers p)
last_is pass p last =
    let number : ℕ × Publication → Publication = λ e. e.1 in
    let size : length pass.pairs.seen ≡ length last.0 + 1 = sym (length-map pass.pairs.seen number) ∙ ap length last.1 ∙ length-append last.0 (p ∷ []) in
    let at : last_place pass ≡ length last.0 = omega (arith, size) in
    ap (option_map numbers) ((λ i. slice_get (last.1 i) (at i)) ∙ get_last last.0 p)

pub some_seen : (pass : Pass) (p : Publication) → IsLast p (entries pass.pairs.seen) → length (seen_of pass).pairs ≡ last_place pass + 1
some_seen pass p last =
    let number : ℕ × Publication → Publication = λ e. e.1 in
    let told_number : ℕ × Publication → ℕ × (ℕ × ℕ) = λ e. (e.0, numbers e.1) in
    let size : length pass.pairs.seen ≡ length last.0 + 1 = sym (length-map pass.pairs.seen number) ∙ ap length last.1 ∙ length-append last.0 (p ∷ []) in
    length-map pass.pairs.seen told_number ∙ (let e : length pass.pairs.seen ≡ last_place pass + 1 = omega (arith, size) in e)

-- it is the last pair, all of whose operations and labels were seen
pub is_last_pair : (pass : Pass) (p : Publication) → IsLast p (entries pass.pairs.seen) → p.operations ≤ length pass.operations.seen → p.labels ≤ length (labels_of pass.labels.seen) → IsLastPair (seen_of pass) (numbers p)
is_last_pair pass p last operations labels =
    let e = ends_with pass.pairs.seen last.0 p last.1 in
    record {
      last = (told numbers e.0, e.1, ap (told numbers) e.2 ∙ told_snoc e.0 e.1);
      operations = omega (arith, operations, many_operations pass.operations.seen);
      labels = labels;
    }
  where
    told_snoc : (front : List (ℕ × Publication)) (n : ℕ) → told numbers (front ++ (n, p) ∷ []) ≡ told numbers front ++ (n, numbers p) ∷ []
    told_snoc [] n = refl
    told_snoc (x ∷ front) n = ap (λ l. (x.0, numbers x.1) ∷ l) (told_snoc front n)

-- ---- the documents of a pair

-- a pair's documents are those of the first operations that were seen
pub docs_seen : (pass : Pass) (pair : Published) → HasSeen pass pair → docs_of (history_of (seen_of pass)) (numbers_of pair) ≡ docs (entries pair.history.seen)
docs_seen pass pair seen =
    let on = begins pair.history.seen pass.operations.seen seen.operations in
    sym (ap (λ (l : List (ℕ × Operation)). docs (take (length pair.history.seen) (plain l))) on.1) ∙ docs_front pair.history.seen on.0

-- ---- the step

module _ (settings : Settings) (held : Held) (phase line number : ℕ) (old new : Pass) (have : HaveOneNumber number old) (same : SamePass old new) (labels : SeesOn old.labels new.labels) (operations : SeesOn old.operations new.operations)
    (pairs : SeesOn old.pairs new.pairs) (commits : new.commits ≡ old.commits) where
  abbrev n : ℕ
  n = old.labels.number

  no_labels : EntersNone n (seen_of old).labels (seen_of new).labels
  no_labels = labels_none number old new have same labels

  no_operations : EntersNone n (seen_of old).operations (seen_of new).operations
  no_operations = operations_none number old new have same operations

  no_pairs : EntersNone n (seen_of old).pairs (seen_of new).pairs
  no_pairs = pairs_none number old new have same pairs

  no_commits : EntersNone n (seen_of old).commits (seen_of new).commits
  no_commits = commits_none number old new have same (same_sees_on old.commits new.commits commits)

  sees_all : Sees (seen_of old) (seen_of new)
  sees_all = record { labels = no_labels.0; operations = no_operations.0; pairs = no_pairs.0; commits = no_commits.0 }

  -- a command that enters nothing, and takes no pair
  pub taking_none : (command : Command) (reply : Reply) → RightReply settings (plain_labels (seen_of new)) (history_of (seen_of new)) held (taking command None reply old new phase line).answered
      → placed_by n command reply ≡ None → refreshed_by command reply ≡ None → stood_by command None reply ≡ None
      → (EntersNone n (seen_of old).commits (seen_of new).commits → EntersPoints n (length (plain_labels (seen_of old))) command reply (seen_of old).commits (seen_of new).commits)
      → IsStep settings held (taking command None reply old new phase line)
  taking_none command reply right placed refreshed stood points = record {
    sees = sees_all;
    right = right;
    labels = no_new n _ old.labels.seen new.labels.seen no_labels;
    operations = subst (λ o. EntersOperation n o (seen_of old).operations (seen_of new).operations) (sym placed) no_operations;
    pairs = subst (λ o. EntersPair n (length (plain_labels (seen_of old))) (length (plain_labels (seen_of new))) o (seen_of old).pairs (seen_of new).pairs) (sym refreshed) no_pairs;
    commits = points no_commits;
    fresh = subst (λ o. IfSome o (λ k. length (seen_of old).operations ≤ k)) (sym stood) tt;
    took = tt;
    place = subst (λ o. IsPlace (true && is_none o) None (length (seen_of new).pairs)) (sym refreshed) refl;
  }

  -- a command that enters nothing, and takes the last pair
  pub taking_last : (command : Command) (reply : Reply) (p : Publication) → IsLast p (entries new.pairs.seen) → p.operations ≤ length new.operations.seen → p.labels ≤ length (labels_of new.labels.seen)
      → RightReply settings (plain_labels (seen_of new)) (history_of (seen_of new)) held (taking command (Some (numbers p)) reply old new phase line).answered
      → placed_by n command reply ≡ None → refreshed_by command reply ≡ None → stood_by command None reply ≡ None
      → (EntersNone n (seen_of old).commits (seen_of new).commits → EntersPoints n (length (plain_labels (seen_of old))) command reply (seen_of old).commits (seen_of new).commits)
      → IsStep settings held (taking command (last_pair new) reply old new phase line)
  taking_last command reply p last within_operations within_labels right placed refreshed stood points =
      subst (λ (took : Option (ℕ × ℕ)). IsStep settings held (taking command took reply old new phase line)) (sym (last_is new p last)) (record {
        sees = sees_all;
        right = right;
        labels = no_new n _ old.labels.seen new.labels.seen no_labels;
        operations = subst (λ o. EntersOperation n o (seen_of old).operations (seen_of new).operations) (sym placed) no_operations;
        pairs = subst (λ o. EntersPair n (length (plain_labels (seen_of old))) (length (plain_labels (seen_of new))) o (seen_of old).pairs (seen_of new).pairs) (sym refreshed) no_pairs;
        commits = points no_commits;
        fresh = subst (λ o. IfSome o (λ k. length (seen_of old).operations ≤ k)) (sym stood) tt;
        took = (is_last_pair new p last within_operations within_labels, refreshed);
        place = (last_place new, refl, some_seen new p last);
      })
