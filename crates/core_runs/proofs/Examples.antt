-- Moves of two sessions, replayed by the definitions, and events that are not possible.
use Rattle.std.proofs.Common.{◌≡◌, Bool, true, false, List, [], ◌∷◌, ◌++◌, length, refl}
use Rattle.std.specs.Prelude.{codes}
use Rattle.facet_model.specs.Core.{CoreEvent, label, append, take_index, take_labels, publish, begin_commit, device}
use Rattle.facet_model.proofs.Samples.{author, bob, lisa}
use Rattle.facet_model.specs.Histories.{add, delete, docs, replace}
use Rattle.facet_output.specs.Effects.{changes, publishes, persists, says_placed, says_number}
use Rattle.facet_output.specs.Seen.{entered_by}
use Rattle.facet_output.proofs.Samples.{empty_store}
use Rattle.core_runs.specs.CoreRuns.{core_after, opened_core}
use Rattle.core_runs.specs.Moves.{Move, answers_in, appends, commits, enters, events_in, labels_in, refreshes}
use Rattle.core_runs.specs.Possible.{are_possible}

-- session 1 adds Bob's book and session 2 adds Lisa's, each refreshes, and session 1 commits in between
abbrev moves : List Move
moves = enters 1 (codes "Author" ∷ []) ∷ enters 1 (author (codes "Bob")) ∷ appends 1 (add bob) ∷ refreshes 2 ∷ enters 2 (author (codes "Lisa"))
    ∷ commits 1 ∷ appends 2 (add lisa) ∷ refreshes 1 ∷ []

all_possible : are_possible (opened_core empty_store) (events_in moves) ≡ true
all_possible = refl

published : (core_after empty_store moves).published ≡ (0, 1) ∷ (1, 3) ∷ (2, 4) ∷ []
published = refl

acknowledged : (core_after empty_store moves).acknowledged ≡ (0, 1) ∷ (1, 4) ∷ []
acknowledged = refl

labels_entered : length (labels_in moves) ≡ 3
labels_entered = refl

of_first : entered_by 1 (answers_in (opened_core empty_store) moves) ≡ (1, (changes (add bob), says_placed 0)) ∷ (1, (persists, says_number 1)) ∷ (1, (publishes, says_number 2)) ∷ []
of_first = refl

of_second : entered_by 2 (answers_in (opened_core empty_store) moves) ≡ (2, (publishes, says_number 1)) ∷ (2, (changes (add lisa), says_placed 1)) ∷ []
of_second = refl

-- session 2 deletes Bob's book, and session 1 replaces Lisa's by itself
abbrev more : List Move
more = moves ++ appends 2 (delete bob.id) ∷ appends 1 (replace lisa) ∷ []

more_possible : are_possible (opened_core empty_store) (events_in more) ≡ true
more_possible = refl

left : docs (core_after empty_store more).history ≡ lisa ∷ []
left = refl

of_second_more : entered_by 2 (answers_in (opened_core empty_store) more)
    ≡ (2, (publishes, says_number 1)) ∷ (2, (changes (add lisa), says_placed 1)) ∷ (2, (changes (delete bob.id), says_placed 2)) ∷ []
of_second_more = refl

-- ---- what is not possible

abbrev possible : List CoreEvent → Bool
possible events = are_possible (opened_core empty_store) events

-- a document before its labels, a label before its parent, and one that is there
without_labels : possible (append 1 (add bob) ∷ []) ≡ false
without_labels = refl

without_parent : possible (label 1 (author (codes "Bob")) ∷ []) ≡ false
without_parent = refl

label_again : possible (label 1 (codes "Author" ∷ []) ∷ label 2 (codes "Author" ∷ []) ∷ []) ≡ false
label_again = refl

-- the labels of a refresh before its operations, a refresh of two sessions at a time, and a publication of the other
labels_first : possible (take_labels 1 ∷ []) ≡ false
labels_first = refl

two_refreshes : possible (take_index 1 ∷ take_index 2 ∷ []) ≡ false
two_refreshes = refl

of_the_other : possible (take_index 1 ∷ take_labels 1 ∷ publish 2 ∷ []) ≡ false
of_the_other = refl

-- two commits at a time, and one after a failed disk call
two_commits : possible (begin_commit 1 ∷ begin_commit 2 ∷ []) ≡ false
two_commits = refl

after_failure : possible (begin_commit 1 ∷ device false ∷ begin_commit 2 ∷ []) ≡ false
after_failure = refl
