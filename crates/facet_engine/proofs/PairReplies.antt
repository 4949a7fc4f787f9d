-- The replies to commands that see a pair.
use Rattle.std.proofs.Common.{◌≡◌, ◌≢◌, ◌∙◌, inl, inr, ◌≤◌, ℕ, List, length, Option, Some, None, option_map, slice_get, Result, Ok, Err, refl, sym, ap, subst, arith}
use Rattle.std.specs.Prelude.{take}
use Rattle.std.proofs.lemmas.List.{length-map}
use Rattle.chronicle.specs.History.{entries}
use Rattle.chronicle.specs.Shown.{SeesOn}
use Rattle.chronicle.proofs.Prefixes.{prefix_length}
use Rattle.facet_model.specs.Documents.{Doc}
use Rattle.facet_model.specs.Flags.{Config}
use Rattle.facet_model.specs.Histories.{docs}
use Rattle.taxo_cache.specs.Seen.{labels_of}
use Rattle.pair_manager.specs.declared.manager.Stats.{Stats}
use Rattle.pair_manager.specs.declared.pass.Pass.{Pass}
use Rattle.pair_manager.specs.declared.publication.Publication.{Publication}
use Rattle.pair_manager.specs.Passes.{SamePass}
use Rattle.pair_manager.specs.Published.{Published, publication_of, numbers, IsLast}
use Rattle.facet_words.specs.Commands.{Settings, Search, Command, hold, release, search, document, stats}
use Rattle.facet_output.specs.Held.{held_under}
use Rattle.facet_output.specs.Replies.{Reply, numbered, refused, not_held, held_already, top_zero, dim_value_not_kept, no_such_document, no_memory}
use Rattle.facet_output.specs.Replies as replies
use Rattle.facet_output.specs.Replying.{IsRight, IsOf, IsHold, IsRelease, IsFound, IsShown, first_refused, docs_of, numbers_of as reply_of, RightReply}
use Rattle.facet_output.specs.Seen.{EntersNone, history_of, labels_of as plain_labels}
use Rattle.facet_output.specs.Steps.{IsStep, EntersPoints}
use Rattle.facet_output.specs.Reported.{placed_by, refreshed_by, stood_by}
use Rattle.facet_engine.specs.declared.holding.HoldFault.TheVariants as holds
use Rattle.pair_search.specs.declared.searching.SearchAnswer.{SearchAnswer}
use Rattle.pair_search.specs.declared.searching.SearchFault.{SearchFault}
use Rattle.pair_search.specs.declared.searching.SearchFault.TheVariants as searches
use Rattle.pair_search.specs.declared.showing.DocumentFault.{DocumentFault}
use Rattle.pair_search.specs.declared.showing.DocumentFault.TheVariants as documents
use Rattle.pair_search.specs.declared.showing.Shown.{Shown as ShownDocument}
use Rattle.facet_engine.specs.HeldPairs.{HeldPair, pair_under, numbers_of, numbers_held}
use Rattle.facet_engine.specs.Replies.{release_reply, stats_reply}
use Rattle.pair_search.specs.Replies.{search_reply, document_reply}
use Rattle.pair_search.specs.Searches.{IsFoundIn}
use Rattle.facet_engine.specs.Sessions.{HaveOneNumber, HasSeen}
use Rattle.pair_search.specs.Showing.{IsShownIn}
use Rattle.facet_engine.specs.Steps.{seen_of, taking, last_pair, pair_held, searched, documented, counted}
use Rattle.facet_engine.proofs.Naming.{numbers_under}
use Rattle.taxo_adding.proofs.Growing.{seen_goes_on}
use Rattle.facet_engine.proofs.Plain.{docs_taken}
use Rattle.facet_engine.proofs.SeenPairs.{begins}
use Rattle.facet_engine.proofs.Taking.{taking_last, taking_none, docs_seen}

-- ---- what is right of a pair

-- what was found in a pair is right of what was seen
found_right : (config : Config) (pass : Pass) (pair : Published) (s : Search) (reply : Reply) → config ≡ pair.config → HasSeen pass pair → IsFoundIn pair s reply
    → IsFound config s (first_refused config s.asks) (numbers_of pair).0 (docs_of (history_of (seen_of pass)) (numbers_of pair)) reply
found_right config pass pair s reply is seen found =
    subst (λ (c : Config). IsFound c s (first_refused c s.asks) (numbers_of pair).0 (docs_of (history_of (seen_of pass)) (numbers_of pair)) reply) (sym is)
    (subst (λ (ds : List Doc). IsFound pair.config s (first_refused pair.config s.asks) (numbers_of pair).0 ds reply) (sym (docs_seen pass pair seen)) found)

-- and so is what was shown of it
shown_right : (pass : Pass) (pair : Published) (at : ℕ) (reply : Reply) → HasSeen pass pair → IsShownIn pair at reply
    → IsShown (plain_labels (seen_of pass)) (numbers_of pair).0 (docs_of (history_of (seen_of pass)) (numbers_of pair)) at (slice_get (docs_of (history_of (seen_of pass)) (numbers_of pair)) at) reply
shown_right pass pair at reply seen shown =
    subst (λ (ds : List Doc). IsShown (plain_labels (seen_of pass)) (numbers_of pair).0 ds at (slice_get ds at) reply) (sym (docs_seen pass pair seen)) (shown (labels_of pass.labels.seen) pass.list (seen_goes_on pair.labels.seen pass.labels.seen (begins pair.labels.seen pass.labels.seen seen.labels)))

-- ---- the steps

module _ (settings : Settings) (held : List HeldPair) (phase line number : ℕ) (old new : Pass) (have : HaveOneNumber number old) (same : SamePass old new) (labels : SeesOn old.labels new.labels) (operations : SeesOn old.operations new.operations)
    (pairs : SeesOn old.pairs new.pairs) (commits : new.commits ≡ old.commits) where
  abbrev n : ℕ
  n = old.labels.number

  -- a right reply of the last pair
  last_step : (command : Command) (reply : Reply) (p : Publication) → IsLast p (entries new.pairs.seen) → p.operations ≤ length new.operations.seen → p.labels ≤ length (labels_of new.labels.seen)
      → IsRight settings (plain_labels (seen_of new)) (history_of (seen_of new)) (numbers_held held) n command (Some (numbers p)) None reply → placed_by n command reply ≡ None → refreshed_by command reply ≡ None → stood_by command None reply ≡ None
      → (EntersNone n (seen_of old).commits (seen_of new).commits → EntersPoints n (length (plain_labels (seen_of old))) command reply (seen_of old).commits (seen_of new).commits) → IsStep settings (numbers_held held) (taking command (last_pair new) reply old new phase line)
  last_step command reply p last few_operations few_labels right placed refreshed stood points =
      taking_last settings (numbers_held held) phase line number old new have same labels operations pairs commits command reply p last few_operations few_labels (inl right) placed refreshed stood points

  -- a right reply, or one that there was no memory, of no pair that was taken
  none_step : (command : Command) (reply : Reply) → RightReply settings (plain_labels (seen_of new)) (history_of (seen_of new)) (numbers_held held) (taking command None reply old new phase line).answered → placed_by n command reply ≡ None → refreshed_by command reply ≡ None → stood_by command None reply ≡ None
      → (EntersNone n (seen_of old).commits (seen_of new).commits → EntersPoints n (length (plain_labels (seen_of old))) command reply (seen_of old).commits (seen_of new).commits) → IsStep settings (numbers_held held) (taking command None reply old new phase line)
  none_step = taking_none settings (numbers_held held) phase line number old new have same labels operations pairs commits

  module _ (pair : Published) (seen : HasSeen new pair) where
    many : (publication_of pair).operations ≤ length new.operations.seen
    many = prefix_length pair.history.seen new.operations.seen (begins pair.history.seen new.operations.seen seen.operations)

    many_labels : (publication_of pair).labels ≤ length (labels_of new.labels.seen)
    many_labels = let l = prefix_length pair.labels.seen new.labels.seen (begins pair.labels.seen new.labels.seen seen.labels) in omega (arith, l, length-map pair.labels.seen (λ (e : ℕ × List (List ℕ)). e.1), length-map new.labels.seen (λ (e : ℕ × List (List ℕ)). e.1))

    -- ---- the last pair is searched
    pub search_last : (s : Search) → settings.config ≡ pair.config → IsLast (publication_of pair) (entries new.pairs.seen) → (result : Result SearchAnswer SearchFault) → (result ≢ Err searches.NoMemory → IsFoundIn pair s (search_reply result))
        → IsStep settings (numbers_held held) (searched None s old new result phase line)
    search_last s is last (Ok a) found = last_step (search None s) (search_reply (Ok a)) (publication_of pair) last many many_labels (found_right settings.config new pair s (search_reply (Ok a)) is seen (found (λ e. absurd cc))) refl refl refl (λ none. none)
    search_last s is last (Err searches.NotHeld) found = last_step (search None s) (search_reply (Err searches.NotHeld)) (publication_of pair) last many many_labels (found_right settings.config new pair s _ is seen (found (λ e. absurd cc))) refl refl refl (λ none. none)
    search_last s is last (Err (searches.TopZero ask)) found = last_step (search None s) (search_reply (Err (searches.TopZero ask))) (publication_of pair) last many many_labels (found_right settings.config new pair s _ is seen (found (λ e. absurd cc))) refl refl refl (λ none. none)
    search_last s is last (Err (searches.DimValueNotKept ask)) found = last_step (search None s) (search_reply (Err (searches.DimValueNotKept ask))) (publication_of pair) last many many_labels (found_right settings.config new pair s _ is seen (found (λ e. absurd cc))) refl refl refl (λ none. none)
    search_last s is last (Err searches.NoMemory) found = none_step (search None s) (search_reply (Err searches.NoMemory)) (inr (refl, refl)) refl refl refl (λ none. none)

    -- ---- a held pair

    under_is : (name : List ℕ) → pair_under held name ≡ Some pair → held_under (numbers_held held) name ≡ Some (numbers_of pair)
    under_is name is = numbers_under held name ∙ ap (option_map numbers_of) is

    right_under : (IsRightOf : ℕ × ℕ → Reply → Type 0) (name : List ℕ) (reply : Reply) → pair_under held name ≡ Some pair → IsRightOf (numbers_of pair) reply → IsOf IsRightOf (held_under (numbers_held held) name) (Some name) reply
    right_under IsRightOf name reply under right = subst (λ (o : Option (ℕ × ℕ)). IsOf IsRightOf o (Some name) reply) (sym (under_is name under)) right

    pub search_under : (name : List ℕ) (s : Search) → settings.config ≡ pair.config → pair_under held name ≡ Some pair → (result : Result SearchAnswer SearchFault) → (result ≢ Err searches.NoMemory → IsFoundIn pair s (search_reply result))
        → IsStep settings (numbers_held held) (searched (Some name) s old new result phase line)
    search_under name s is under (Ok a) found = none_step (search (Some name) s) (search_reply (Ok a)) (inl (right_under _ name (search_reply (Ok a)) under (found_right settings.config new pair s (search_reply (Ok a)) is seen (found (λ e. absurd cc))))) refl refl refl (λ none. none)
    search_under name s is under (Err searches.NotHeld) found = none_step (search (Some name) s) (refused not_held) (inl (right_under _ name (refused not_held) under (found_right settings.config new pair s (refused not_held) is seen (found (λ e. absurd cc))))) refl refl refl (λ none. none)
    search_under name s is under (Err (searches.TopZero ask)) found = none_step (search (Some name) s) (refused (top_zero ask)) (inl (right_under _ name (refused (top_zero ask)) under (found_right settings.config new pair s (refused (top_zero ask)) is seen (found (λ e. absurd cc))))) refl refl refl (λ none. none)
    search_under name s is under (Err (searches.DimValueNotKept ask)) found = none_step (search (Some name) s) (refused (dim_value_not_kept ask)) (inl (right_under _ name (refused (dim_value_not_kept ask)) under (found_right settings.config new pair s (refused (dim_value_not_kept ask)) is seen (found (λ e. absurd cc))))) refl refl refl (λ none. none)
    search_under name s is under (Err searches.NoMemory) found = none_step (search (Some name) s) (refused no_memory) (inr (refl, refl)) refl refl refl (λ none. none)

    -- ---- a document

    pub document_last : (at : ℕ) → IsLast (publication_of pair) (entries new.pairs.seen) → (result : Result ShownDocument DocumentFault) → (result ≢ Err documents.NoMemory → IsShownIn pair at (document_reply at result))
        → IsStep settings (numbers_held held) (documented None at old new result phase line)
    document_last at last (Ok s) shown = last_step (document None at) (document_reply at (Ok s)) (publication_of pair) last many many_labels (shown_right new pair at (document_reply at (Ok s)) seen (shown (λ e. absurd cc))) refl refl refl (λ none. none)
    document_last at last (Err documents.NotHeld) shown = last_step (document None at) (refused not_held) (publication_of pair) last many many_labels (shown_right new pair at (refused not_held) seen (shown (λ e. absurd cc))) refl refl refl (λ none. none)
    document_last at last (Err (documents.NoSuchDocument count)) shown = last_step (document None at) (refused (no_such_document count)) (publication_of pair) last many many_labels (shown_right new pair at (refused (no_such_document count)) seen (shown (λ e. absurd cc))) refl refl refl (λ none. none)
    document_last at last (Err documents.NoMemory) shown = none_step (document None at) (refused no_memory) (inr (refl, refl)) refl refl refl (λ none. none)

    pub document_under : (name : List ℕ) (at : ℕ) → pair_under held name ≡ Some pair → (result : Result ShownDocument DocumentFault) → (result ≢ Err documents.NoMemory → IsShownIn pair at (document_reply at result))
        → IsStep settings (numbers_held held) (documented (Some name) at old new result phase line)
    document_under name at under (Ok s) shown = none_step (document (Some name) at) (document_reply at (Ok s)) (inl (right_under _ name (document_reply at (Ok s)) under (shown_right new pair at (document_reply at (Ok s)) seen (shown (λ e. absurd cc))))) refl refl refl (λ none. none)
    document_under name at under (Err documents.NotHeld) shown = none_step (document (Some name) at) (refused not_held) (inl (right_under _ name (refused not_held) under (shown_right new pair at (refused not_held) seen (shown (λ e. absurd cc))))) refl refl refl (λ none. none)
    document_under name at under (Err (documents.NoSuchDocument count)) shown = none_step (document (Some name) at) (refused (no_such_document count)) (inl (right_under _ name (refused (no_such_document count)) under (shown_right new pair at (refused (no_such_document count)) seen (shown (λ e. absurd cc))))) refl refl refl (λ none. none)
    document_under name at under (Err documents.NoMemory) shown = none_step (document (Some name) at) (refused no_memory) (inr (refl, refl)) refl refl refl (λ none. none)

    -- ---- the numbers

    pub stats_under : (E : Type 0) (name : List ℕ) (s : Stats) → pair_under held name ≡ Some pair → s.operations ≡ length pair.history.seen → s.labels ≡ length (labels_of pair.labels.seen) → s.documents ≡ length (docs (entries pair.history.seen))
        → IsStep settings (numbers_held held) (counted {E = E} (Some name) old new (Ok s) phase line)
    stats_under E name s under operations labels documents =
        let right : replies.stats (record { operations = s.operations; labels = s.labels; documents = s.documents }) ≡ reply_of (history_of (seen_of new)) (numbers_of pair) = λ i. replies.stats (record { operations = operations i; labels = labels i; documents = (documents ∙ ap length (sym (docs_seen new pair seen))) i }) in
        none_step (stats (Some name)) (stats_reply {E = E} (Ok s)) (inl (right_under _ name (stats_reply {E = E} (Ok s)) under right)) refl refl refl (λ none. none)

    -- ---- a hold and a release

    pub hold_last : (name : List ℕ) (k : ℕ) → IsLast (publication_of pair) (entries new.pairs.seen) → pair_under held name ≡ None → k ≡ length pair.history.seen → IsStep settings (numbers_held held) (pair_held name old new (Ok k) phase line)
    hold_last name k last none number =
        let right : IsHold (held_under (numbers_held held) name) (Some (numbers_of pair)) (numbered k) = subst (λ (o : Option (ℕ × ℕ)). IsHold o (Some (numbers_of pair)) (numbered k)) (sym (numbers_under held name ∙ ap (option_map numbers_of) none)) (ap numbered number) in
        last_step (hold name) (numbered k) (publication_of pair) last many many_labels right refl refl refl (λ none. none)

    pub hold_already : (name : List ℕ) → pair_under held name ≡ Some pair → IsStep settings (numbers_held held) (pair_held name old new (Err holds.HeldAlready) phase line)
    hold_already name under =
        none_step (hold name) (refused held_already) (inl (subst (λ (o : Option (ℕ × ℕ)). IsHold o None (refused held_already)) (sym (under_is name under)) refl)) refl refl refl (λ none. none)

    pub release_under : (E : Type 0) (name : List ℕ) (k : ℕ) → pair_under held name ≡ Some pair → k ≡ length pair.history.seen → IsStep settings (numbers_held held) (taking (release name) None (release_reply {E = E} (Ok k)) old new phase line)
    release_under E name k under number =
        none_step (release name) (numbered k) (inl (subst (λ (o : Option (ℕ × ℕ)). IsRelease o (numbered k)) (sym (under_is name under)) (ap numbered number))) refl refl refl (λ none. none)

  -- ---- nothing is held under the name

  none_is : (name : List ℕ) → pair_under held name ≡ None → held_under (numbers_held held) name ≡ None
  none_is name none = numbers_under held name ∙ ap (option_map numbers_of) none

  right_none : (IsRightOf : ℕ × ℕ → Reply → Type 0) (name : List ℕ) → pair_under held name ≡ None → IsOf IsRightOf (held_under (numbers_held held) name) (Some name) (refused not_held)
  right_none IsRightOf name none = subst (λ (o : Option (ℕ × ℕ)). IsOf IsRightOf o (Some name) (refused not_held)) (sym (none_is name none)) refl

  pub search_not_held : (name : List ℕ) (s : Search) → pair_under held name ≡ None → IsStep settings (numbers_held held) (searched (Some name) s old new (Err searches.NotHeld) phase line)
  search_not_held name s none = none_step (search (Some name) s) (refused not_held) (inl (right_none _ name none)) refl refl refl (λ none. none)

  pub document_not_held : (name : List ℕ) (at : ℕ) → pair_under held name ≡ None → IsStep settings (numbers_held held) (documented (Some name) at old new (Err documents.NotHeld) phase line)
  document_not_held name at none = none_step (document (Some name) at) (refused not_held) (inl (right_none _ name none)) refl refl refl (λ none. none)

  pub stats_not_held : {E : Type 0} (name : List ℕ) (fault : E) → pair_under held name ≡ None → IsStep settings (numbers_held held) (counted (Some name) old new (Err fault) phase line)
  stats_not_held name fault none = none_step (stats (Some name)) (refused not_held) (inl (right_none _ name none)) refl refl refl (λ none. none)

  pub release_not_held : {E : Type 0} (name : List ℕ) (fault : E) → pair_under held name ≡ None → IsStep settings (numbers_held held) (taking (release name) None (release_reply (Err fault)) old new phase line)
  release_not_held name fault none = none_step (release name) (refused not_held) (inl (subst (λ (o : Option (ℕ × ℕ)). IsRelease o (refused not_held)) (sym (none_is name none)) refl)) refl refl refl (λ none. none)

  -- ---- there was no memory

  pub hold_without_memory : (name : List ℕ) → IsStep settings (numbers_held held) (pair_held name old new (Err holds.NoMemory) phase line)
  hold_without_memory name = none_step (hold name) (refused no_memory) (inr (refl, refl)) refl refl refl (λ none. none)

  pub search_without_memory : (on : Option (List ℕ)) (s : Search) → IsStep settings (numbers_held held) (searched on s old new (Err searches.NoMemory) phase line)
  search_without_memory None s = none_step (search None s) (refused no_memory) (inr (refl, refl)) refl refl refl (λ none. none)
  search_without_memory (Some name) s = none_step (search (Some name) s) (refused no_memory) (inr (refl, refl)) refl refl refl (λ none. none)

  pub document_without_memory : (on : Option (List ℕ)) (at : ℕ) → IsStep settings (numbers_held held) (documented on at old new (Err documents.NoMemory) phase line)
  document_without_memory None at = none_step (document None at) (refused no_memory) (inr (refl, refl)) refl refl refl (λ none. none)
  document_without_memory (Some name) at = none_step (document (Some name) at) (refused no_memory) (inr (refl, refl)) refl refl refl (λ none. none)

  -- ---- the numbers of the last pair

  pub stats_last : (E : Type 0) (s : Stats) → IsLast (record { operations = s.operations; labels = s.labels }) (entries new.pairs.seen) → s.documents ≡ length (docs (take s.operations (entries new.operations.seen)))
      → s.operations ≤ length new.operations.seen → s.labels ≤ length (labels_of new.labels.seen) → IsStep settings (numbers_held held) (counted {E = E} None old new (Ok s) phase line)
  stats_last E s last documents few_operations few_labels =
      let right : stats_reply {E = E} (Ok s) ≡ reply_of (history_of (seen_of new)) (s.operations, s.labels) =
      λ i. replies.stats (record { operations = s.operations; labels = s.labels; documents = (documents ∙ ap length (sym (docs_taken s.operations new.operations.seen))) i }) in
      last_step (stats None) (stats_reply {E = E} (Ok s)) (record { operations = s.operations; labels = s.labels }) last few_operations few_labels right refl refl refl (λ none. none)
