-- The right output of a script of several sessions.
use Rattle.std.specs.Prelude.{◌≡◌, ◌≤◌, ◌==◌, ◌&&◌, ◌||◌, ℕ, max, nat_le, not, Bool, true, List, [], ◌∷◌, length, take}
use Rattle.std.specs.Prelude.{drop, map, filter, filter_map, count_by, IsTrue, is_none, nat_lt, if◌then◌else◌}
use Rattle.std.specs.Prelude.{slice_get, All, IfSome, Some}
use Rattle.std.specs.List.{list_any, list_all, enumerate_from}
use Rattle.std.specs.Option.{option_map_or}
use Rattle.facet_names.specs.Labels.{IsLabelList, skips_none}
use Rattle.facet_model.specs.Flags.{Config}
use Rattle.facet_model.specs.Documents.{Doc}
use Rattle.facet_model.specs.Histories as histories
use Rattle.facet_model.specs.Histories.{Operation, are_publications}
use Rattle.facet_model.specs.CoreStates.{is_same_pair}
use Rattle.facet_words.specs.Commands.{Settings, Order}
use Rattle.facet_output.specs.Answered.{Answered, of_session, each_with, comes_after, may_come_after, in_writing_order}
use Rattle.facet_output.specs.Replying.{RightReplies}
use Rattle.facet_output.specs.Reported.{sees_no_pair, brings, paths_of, labels_among, is_refused_for_labels}
use Rattle.facet_output.specs.Reported.{placed_operation, shows, stood, refreshed, is_number}
use Rattle.facet_output.specs.Reported.{failed, closed_at, tells_of_failure}

-- the labels with the root and the documents that a store had when it was opened
pub record Opened : Type 0 where
  pub labels : List (List (List ℕ))
  pub docs : List Doc

-- the first operations: one add of session 0 for each document
abbrev pub opened_operations : Opened → List Operation
opened_operations opened = histories.opened opened.docs

-- the numbers of operations and of labels of what was opened
abbrev pub opened_pair : Opened → ℕ × ℕ
opened_pair opened = (length opened.docs, length opened.labels)

-- Pairs of a number of operations and one of labels, each with the session that published it. The opened pair has
-- session 0.
abbrev pub Published : Type 0
Published = List (ℕ × (ℕ × ℕ))

abbrev pub pairs_of : Published → List (ℕ × ℕ)
pairs_of published = map (λ e. e.1) published

-- ---- what was added

-- the labels after the opened ones
abbrev pub added_labels : Opened → List (List (List ℕ)) → List (List (List ℕ))
added_labels opened labels = drop (length opened.labels) labels

-- the operations of a session after the opened ones, with their places
abbrev pub operations_of : ℕ → Opened → List Operation → List (ℕ × Operation)
operations_of session opened history =
    filter (λ e. e.1.session == session) (enumerate_from (length opened.docs) (drop (length opened.docs) history))

-- the numbers of operations that a session published, after the opened pair
abbrev pub refreshes_of : ℕ → Published → List ℕ
refreshes_of session published = map (λ e. e.1.0) (filter (λ e. e.0 == session) (drop 1 published))

-- ---- labels

-- a command that passes brings the label
abbrev pub is_brought : Config → (Answered → Bool) → List Answered → List (List ℕ) → Bool
is_brought config passes answered label = list_any (λ b. brings config label b.order.command && passes b) answered

-- the first so many labels have all that the session of a command had been shown
abbrev pub has_shown : List (List (List ℕ)) → Published → List Answered → Answered → ℕ → Bool
has_shown labels published answered a n =
    list_all (λ b. not (comes_after a b) || labels_among published (take n labels) b) answered

-- A label with its ordinal was entered by a command that brings it. Before it no earlier path of the command's document
-- was skipped, and there were all labels that the session had been shown.
abbrev pub is_entered : Config → List (List (List ℕ)) → Published → List Answered → ℕ × List (List ℕ) → Bool
is_entered config labels published answered e =
    list_any (λ b. brings config e.1 b.order.command && skips_none (take e.0 labels) (paths_of b.order.command) e.1
    && has_shown labels published answered b e.0) answered

-- if a change was rejected for labels, each new label was brought by a command that did not come after it
abbrev pub was_full : Config → List (List (List ℕ)) → List Answered → Answered → Bool
was_full config new answered a = not (is_refused_for_labels a.order.command a.reply)
    || list_all (is_brought config (λ b. not (comes_after b a)) answered) new

-- ---- operations

-- The number is at least that of the opened operations and of those that earlier replies have shown, and at most that
-- of all.
abbrev pub is_fresh : ℕ → ℕ → List Answered → Answered → ℕ → Bool
is_fresh opened all answered a n =
    nat_le opened n && nat_le n all && list_all (λ b. not (comes_after a b) || nat_le (shows b) n) answered

-- ---- pairs

-- it is opened, or was published by a refresh that may have come before
abbrev pub has_source : ℕ → List Answered → Answered → ℕ → Bool
has_source opened answered a n = n == opened || list_any (λ b. is_number n (refreshed b) && may_come_after a b) answered

-- the pair is no older than one that an earlier refresh has published or an earlier command took
abbrev pub IsNewest : List Answered → Answered → ℕ × ℕ → Type 0
IsNewest answered a pair = All (λ b. IsTrue (comes_after a b)
    → IfSome (refreshed b) (λ n. n ≤ pair.0) × IfSome b.took (λ p. (p.0 ≤ pair.0) × (p.1 ≤ pair.1))) answered

-- A taken pair was published, has a source, and is new enough.
pub record IsRightPair (opened : Opened) (published : List (ℕ × ℕ)) (answered : List Answered) (a : Answered)
    (pair : ℕ × ℕ) : Type 0 where
  pub is_published : IsTrue (list_any (is_same_pair pair) published)
  pub has_its_source : IsTrue (has_source (length opened.docs) answered a pair.0)
  pub newest : IsNewest answered a pair

-- the pair that a session published is the one that was taken, or the one that the session's refresh published
abbrev pub is_pair_of : Answered → ℕ × (ℕ × ℕ) → Bool
is_pair_of a e = option_map_or (is_same_pair e.1) a.took true
    && option_map_or (λ n. e.0 == a.order.session && e.1.0 == n) (refreshed a) true

-- a taken pair may be at the place of an earlier command's, and a published one after it
abbrev pub is_no_further : Answered → ℕ → ℕ → Bool
is_no_further a place earlier = if is_none (refreshed a) then nat_le earlier place else nat_lt earlier place

-- a refresh publishes all labels that the session had been shown
abbrev pub has_labels : List (List (List ℕ)) → Published → List Answered → Answered → ℕ × (ℕ × ℕ) → Bool
has_labels labels published answered a e = is_none (refreshed a) || has_shown labels published answered a e.1.1

-- At the place of a pair that was taken or published there is this pair, and the places of all earlier commands are no
-- greater.
pub record IsAt (labels : List (List (List ℕ))) (published : Published) (answered : List Answered) (a : Answered)
    (place : ℕ) : Type 0 where
  pub entry : ℕ × (ℕ × ℕ)
  pub there : slice_get published place ≡ Some entry
  pub is_its_pair : IsTrue (is_pair_of a entry)
  pub has_its_labels : IsTrue (has_labels labels published answered a entry)
  pub behind : All (λ b. IsTrue (comes_after a b)
      → IfSome b.place (λ earlier. IsTrue (is_no_further a place earlier))) answered

-- a pair that was taken or published has a place
abbrev pub has_place : Answered → Bool
has_place a = sees_no_pair a || not (is_none a.place)

-- ---- commits

-- a commit that failed at this count may have come before
abbrev pub has_failure : List Answered → Answered → ℕ → Bool
has_failure answered a count = list_any (λ b. is_number count (failed b) && may_come_after a b) answered

-- each later commit reports the failure at this count
abbrev pub is_last_commit : List Answered → Answered → ℕ → Bool
is_last_commit answered a count =
    list_all (λ b. not (comes_after b a) || tells_of_failure count b.order.command b.reply) answered

-- ---- the output

-- The commands of these phases have these replies, from what was opened. The labels, operations and published pairs are
-- those at the end, each in their order.
pub record IsOutput (settings : Settings) (phases : List (List Order)) (opened : Opened) (labels : List (List (List ℕ)))
    (history : List Operation) (published : Published) (answered : List Answered) : Type 0 where
  -- each command has one reply: phase by phase, in a phase by rising sessions, in a session by lines
  pub asked : map (λ a. (a.phase, a.order)) answered ≡ in_writing_order phases
  -- each reply is right, given what its session holds after its earlier ones
  pub replies : (session : ℕ) → RightReplies settings labels history [] (of_session session answered)
  -- the labels are the root and different paths, each after its parent
  pub label_list : IsLabelList labels
  -- they begin with the opened ones
  pub opened_labels : take (length opened.labels) labels ≡ opened.labels
  -- they are no more than fit, or than were opened
  pub label_limit : length labels ≤ max settings.max_labels (length opened.labels)
  -- each added label was entered by a change that brings it and skips none, after all labels that its session had
  -- been shown
  pub entered : IsTrue (list_all (is_entered settings.config labels published answered)
      (enumerate_from (length opened.labels) (added_labels opened labels)))
  -- if a change was rejected for labels, each added label is brought by a change that did not come after it
  pub full : IsTrue (list_all (was_full settings.config (added_labels opened labels) answered) answered)
  -- the history begins with one add for each opened document
  pub opened_docs : take (length opened.docs) history ≡ opened_operations opened
  -- after them the operations of each session are those of its changes that were placed, in order, each at its place
  pub operations : (session : ℕ)
      → operations_of session opened history ≡ filter_map placed_operation (of_session session answered)
  -- each change, refresh and commit comes after all operations that its session had been shown
  pub fresh : IsTrue (each_with stood (is_fresh (length opened.docs) (length history) answered) answered)
  -- the first pair is the opened one
  pub opened_pair_first : take 1 published ≡ (0, opened_pair opened) ∷ []
  -- neither number of the pairs falls, and the labels of each cover its operations
  pub publications : IsTrue (are_publications labels history (pairs_of published))
  -- after the first the pairs of each session are those of its refreshes, in order
  pub refreshes : (session : ℕ) → refreshes_of session published ≡ filter_map refreshed (of_session session answered)
  -- each pair that was taken without a name is one that may have been published before, and no known one is newer
  pub pairs : All (λ a. IfSome a.took (IsRightPair opened (pairs_of published) answered a)) answered
  -- each command that took or published a pair has a place among the pairs
  pub have_places : IsTrue (list_all has_place answered)
  -- its pair is there, and the places of the pairs of all that came before are no greater
  pub places : All (λ a. IfSome a.place (IsAt labels published answered a)) answered
  -- at most one commit fails on the disk
  pub one_failure : count_by (λ a. not (is_none (failed a))) answered ≤ 1
  -- for a commit that reports a failure there is one that may have come before, at this count
  pub closed : IsTrue (each_with closed_at (has_failure answered) answered)
  -- each commit after the one that failed reports it, or ran out of memory
  pub last_commit : IsTrue (each_with failed (is_last_commit answered) answered)
  -- and so does each after one that reported it
  pub stays_closed : IsTrue (each_with closed_at (is_last_commit answered) answered)
