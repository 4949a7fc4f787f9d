-- The events of two documents, replayed by the definitions.
use Rattle.std.specs.Prelude.{false, ◌≡◌, ◌++◌, ℕ, true, List, [], ◌∷◌, codes, length, replicate, refl, Bool, zero, suc, nat_lt, nat_le, ◌&&◌, ◌==◌}
use Rattle.std.specs.List.{list_all, list_any, enumerate_from}
use Rattle.std.specs.Option.{option_map_or}
use Rattle.facet_names.specs.Labels.{is_in_place}
use Rattle.facet_model.specs.Histories.{Operation, add, delete, replace, docs, labels_stand, are_publications}
use Rattle.facet_model.specs.Core.{State, empty_core, CoreEvent, label, append, take_index, take_labels, publish, drop_refresh, begin_commit, drop_commit, device, crash, step}
use Rattle.facet_model.specs.CoreStates.{Valid, is_good_refresh, is_good_commit, has_renamed, is_good_index, is_kept, is_same_pair}
use Rattle.facet_model.proofs.Samples.{author, bob, lisa}
use Rattle.facet_core.specs.Laws.{ran}

-- the first document with its labels, and then the second
abbrev first_added : List CoreEvent
first_added = label 1 (codes "Author" ∷ []) ∷ label 1 (author (codes "Bob")) ∷ append 1 (add bob) ∷ []

abbrev second_added : List CoreEvent
second_added = label 1 (author (codes "Lisa")) ∷ append 1 (add lisa) ∷ []

-- one whole commit, and the first device calls of another
abbrev committing : ℕ → List CoreEvent
committing calls = first_added ++ begin_commit 1 ∷ replicate 12 (device true) ++ second_added ++ begin_commit 1 ∷ replicate calls (device true)

abbrev after : ℕ → List CoreEvent → State
after calls events = ran (ran empty_core (committing calls)) events

-- a crash behind the taxonomy's rename
abbrev crashed : State
crashed = after 10 (crash 0 ∷ [])

crashed_labels : length crashed.labels ≡ 4
crashed_labels = refl

crashed_operations : length crashed.history ≡ 1
crashed_operations = refl

crashed_published : crashed.published ≡ (1, 4) ∷ []
crashed_published = refl

-- a crash in the middle of it
in_the_middle : (after 9 []).tax_may ≡ 3 ∷ 4 ∷ []
in_the_middle = refl

keeps_old : length (after 9 (crash 0 ∷ [])).labels ≡ 3
keeps_old = refl

keeps_new : length (after 9 (crash 1 ∷ [])).labels ≡ 4
keeps_new = refl

no_third : after 9 (crash 2 ∷ []) ≡ after 9 []
no_third = refl

-- a refresh between whose takes a label and a document come
abbrev refreshed : State
refreshed = ran empty_core (first_added ++ take_index 1 ∷ second_added ++ take_labels 1 ∷ publish 1 ∷ [])

refreshed_published : refreshed.published ≡ (0, 1) ∷ (1, 4) ∷ []
refreshed_published = refl

abbrev with_first : State
with_first = ran empty_core first_added

labels_first : ran with_first (take_labels 1 ∷ []) ≡ with_first
labels_first = refl

-- ---- each of these states is valid

empty_valid : Valid empty_core
empty_valid = record { labels = refl; known = refl; published = refl; refresh = refl; commit = refl; calls = refl; renamed = refl; tax_may = refl; idx_may = refl; kept = refl; tax_read = refl; idx_read = refl }

crashed_valid : Valid crashed
crashed_valid = record { labels = refl; known = refl; published = refl; refresh = refl; commit = refl; calls = refl; renamed = refl; tax_may = refl; idx_may = refl; kept = refl; tax_read = refl; idx_read = refl }

middle_valid : Valid (after 9 [])
middle_valid = record { labels = refl; known = refl; published = refl; refresh = refl; commit = refl; calls = refl; renamed = refl; tax_may = refl; idx_may = refl; kept = refl; tax_read = refl; idx_read = refl }

after_11_valid : Valid (after 11 (take_index 1 ∷ take_labels 1 ∷ []))
after_11_valid = record { labels = refl; known = refl; published = refl; refresh = refl; commit = refl; calls = refl; renamed = refl; tax_may = refl; idx_may = refl; kept = refl; tax_read = refl; idx_read = refl }

-- ---- every state within two events of these is valid

abbrev is_valid : State → Bool
is_valid s = (nat_lt 0 (length s.labels) && list_all (is_in_place s.labels) (enumerate_from 0 s.labels)) && list_all (λ o. labels_stand s.labels o.change) s.history && are_publications s.labels s.history s.published
    && option_map_or (is_good_refresh s) s.refresh true && option_map_or (is_good_commit s) s.commit true && option_map_or (λ c. nat_lt c.calls 12) s.commit true
    && option_map_or (λ c. has_renamed s c c.labels) s.commit true
    && list_all (λ a. nat_le 1 a && nat_le a (length s.labels)) s.tax_may && list_all (is_good_index s) s.idx_may && list_all (is_kept s) s.acknowledged
    && list_any (λ a. a == s.tax_read) s.tax_may && list_any (is_same_pair s.idx_read) s.idx_may

abbrev every_event : List CoreEvent
every_event = label 1 (codes "Year" ∷ []) ∷ append 1 (add lisa) ∷ take_index 1 ∷ take_index 2 ∷ take_labels 1 ∷ publish 1 ∷ drop_refresh 1 ∷ begin_commit 1 ∷ drop_commit ∷ device true ∷ device false ∷ crash 0 ∷ crash 1 ∷ crash 2 ∷ []

abbrev valid_within : ℕ → State → Bool
valid_within zero s = is_valid s
valid_within (suc n) s = is_valid s && list_all (λ e. valid_within n (step s e)) every_event

from_the_empty : valid_within 3 empty_core ≡ true
from_the_empty = refl

around_the_renames : list_all (λ calls. valid_within 2 (after calls (take_index 1 ∷ take_labels 1 ∷ label 2 (codes "Late" ∷ []) ∷ []))) (0 ∷ 1 ∷ 8 ∷ 9 ∷ 10 ∷ 11 ∷ 12 ∷ []) ≡ true
around_the_renames = refl

-- ---- a delete and a replace

-- bob and lisa, without bob, and lisa once more in her place
abbrev changes : List Operation
changes = record { session = 1; change = add bob } ∷ record { session = 1; change = add lisa } ∷ record { session = 1; change = delete bob.id } ∷ record { session = 1; change = replace lisa } ∷ []

one_is_left : docs changes ≡ lisa ∷ []
one_is_left = refl

replaced_within : valid_within 1 (step (step (after 11 (take_index 1 ∷ take_labels 1 ∷ [])) (append 1 (delete bob.id))) (append 1 (replace lisa))) ≡ true
replaced_within = refl
