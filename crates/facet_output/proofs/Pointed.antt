-- Points of commits, right and wrong, told by the definitions.
use Rattle.std.proofs.Common.{◌≡◌, ℕ, List, [], ◌∷◌, false, true, refl}
use Rattle.std.specs.Prelude.{codes, Some, None}
use Rattle.std.specs.List.{AllZip}
use Rattle.facet_model.specs.Histories as histories
use Rattle.facet_words.specs.Commands.{add, refresh, commit, merge}
use Rattle.facet_replies.specs.Replies.{Reply, placed, numbered, merged, refused, closed, disk_failed, no_memory, numbers_spent}
use Rattle.facet_output.specs.Answered.{Answered}
use Rattle.facet_output.specs.Commits.{HasPoints, HasItsLabels, commits_of, committed}
use Rattle.facet_output.specs.Seen.{CommitPoint, Entries, Seen, opened_seen}
use Rattle.facet_model.proofs.Samples.{author, bob}
use Rattle.facet_output.proofs.Samples.{empty_store, answer, each_session}

-- a commit that was acknowledged, one that failed behind it, one that tells of that, and one without memory
abbrev answered : List Answered
answered = answer 2 (add bob) None (placed 0) ∷ answer 3 commit None (numbered 1) ∷ answer 4 commit None (refused (disk_failed 7)) ∷ answer 5 commit None (refused (closed 7))
    ∷ answer 6 commit None (refused no_memory) ∷ []

-- what there is at the end, with these commits
abbrev with_commits : Entries CommitPoint → Seen
with_commits commits = record (opened_seen empty_store) { labels = (1, codes "Author" ∷ []) ∷ (1, author (codes "Bob")) ∷ []; operations = (1, histories.add bob) ∷ []; commits = (0, record { operations = 0; labels = 1; failed = None }) ∷ commits }

abbrev made : ℕ → ℕ → CommitPoint
made operations labels = record { operations = operations; labels = labels; failed = None }

abbrev failed_at : ℕ → CommitPoint
failed_at count = record { operations = 1; labels = 3; failed = Some count }

abbrev last : Seen
last = with_commits ((1, made 1 3) ∷ (1, failed_at 7) ∷ [])

own_labels : AllZip (HasItsLabels last answered) (committed 1 answered) (commits_of 1 last.commits)
own_labels = ((λ none. refl), ((λ none. absurd cc), tt))

has_points : HasPoints empty_store last answered
has_points = record {
  first = refl;
  exact = each_session _ refl (λ s e. rw e refl);
  labels = each_session (λ s. AllZip (HasItsLabels last answered) (committed s answered) (commits_of s last.commits)) own_labels (λ s e. rw e tt);
  many = refl;
}

-- ---- a point too many, or too few

-- one order of session 1, and one point
abbrev one_order : Reply → List Answered
one_order reply = answer 2 commit None reply ∷ []

abbrev entered : ℕ → Seen
entered session = with_commits ((session, made 0 1) ∷ [])

no_memory_entered : ¬ HasPoints empty_store (entered 1) (one_order (refused no_memory))
no_memory_entered h = let e = h.exact 1 in cc

closed_entered : (count : ℕ) → ¬ HasPoints empty_store (entered 1) (one_order (refused (closed count)))
closed_entered count h = let e = h.exact 1 in cc

spent_entered : (number : ℕ) → ¬ HasPoints empty_store (entered 1) (one_order (refused (numbers_spent number)))
spent_entered number h = let e = h.exact 1 in cc

refresh_entered : ¬ HasPoints empty_store (entered 1) (answer 2 refresh None (numbered 0) ∷ [])
refresh_entered h = let e = h.exact 1 in cc

merge_entered : ¬ HasPoints empty_store (entered 1) (answer 2 merge None merged ∷ [])
merge_entered h = let e = h.exact 1 in cc

-- the point of an acknowledged commit is another session's
entered_by_another : ¬ HasPoints empty_store (entered 2) (one_order (numbered 0))
entered_by_another h = let e = h.exact 2 in cc

-- there is none of its own, although the opened one has as many operations
not_entered : ¬ HasPoints empty_store (with_commits []) (one_order (numbered 0))
not_entered h = let e = h.exact 1 in cc

-- ---- points exchanged, and labels left out

exchanged : ¬ HasPoints empty_store (with_commits ((1, failed_at 7) ∷ (1, made 1 3) ∷ [])) answered
exchanged h = let e = h.exact 1 in cc

-- the label of the document is missing
label_missing : ¬ HasPoints empty_store (with_commits ((1, made 1 2) ∷ (1, failed_at 7) ∷ [])) answered
label_missing h = let e : false ≡ true = (h.labels 1).0 refl in cc
