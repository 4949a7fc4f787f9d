-- A reply that is right of what a session had seen is right of what there is at the end.
use Rattle.std.proofs.Common.{◌≡◌, inl, inr, ⊎_elim, ℕ, ◌≤◌, ◌<◌, Bool, true, false, List, [], ◌∷◌, ◌++◌, length, map, Option, Some, None, slice_get, refl, sym, ap, ◌∙◌, subst, arith}
use Rattle.std.specs.Prelude.{take, drop, unwrap_or}
use Rattle.std.specs.List.{list_all}
use Rattle.std.proofs.lemmas.List.{length-map}
use mathlib.Core.List.{IsPrefix}
use Rattle.facet_names.specs.Labels.{IsLabelList, stands, place, prefixes}
use Rattle.facet_names.proofs.LabelLists.{place_at, label_at, still_stands}
use Rattle.facet_model.specs.Accepts.{Broken, first_broken}
use Rattle.facet_model.specs.Documents.{Doc}
use Rattle.facet_model.specs.Histories.{Change, Operation, left_by, docs, doc_of, knows}
use Rattle.facet_model.proofs.Fronts.{weaker}
use Rattle.facet_words.specs.Answers.{ranged_of, IsSummed}
use Rattle.facet_words.specs.Commands.{Settings, Command, Order, add, refresh, hold, release, search, ranges, sums, document, stats, commit, merge}
use Rattle.facet_replies.specs.Replies.{Reply, refused, docs_full, stats as numbers}
use Rattle.facet_output.specs.Answered.{Answered, of_session}
use Rattle.facet_output.specs.Effects.{Effect, changes, publishes, holds, releases, persists, merges, looks, effect}
use Rattle.facet_output.specs.Held.{Held, held_after}
use Rattle.facet_output.specs.Output.{Opened}
use Rattle.facet_output.specs.Replying.{IsOperation, IsPlaced, HasNoRoom, IsChanged, IsAdded, IsResolved, IsOf, IsFound, IsShown, IsLooked, IsRightBy, RightReply, RightReplies, IsCommitted, Counts, pair_seen, docs_of, first_refused}
use Rattle.facet_output.specs.Seen.{Seen, Sees, opened_seen, labels_of, history_of}
use Rattle.facet_output.specs.Steps.{Step, IsStep}
use Rattle.facet_output.specs.Sessions.{SessionRan, AllRan, steps_of, own_steps, is_by}
use Rattle.facet_output.proofs.Among.{In, of_filter}
use Rattle.facet_output.proofs.Answers.{answers}
use Rattle.facet_output.proofs.Bringing.{full_last, labels_begin}
use Rattle.facet_output.proofs.Chain.{sees_last}
use Rattle.facet_output.proofs.Fronts.{map_prefix, take_prefix, get_below}
use Rattle.facet_output.proofs.HeldPairs.{HeldIn, held_more, held_step, pair_in}
use Rattle.facet_output.proofs.Placing.{own_answers}
use Rattle.chronicle.proofs.Prefixes.{prefix_length, prefix_get}

-- ---- labels that go on

pub still_knows : (labels all : List (List (List ℕ))) (doc : Doc) → IsPrefix labels all → knows labels doc ≡ true → knows all doc ≡ true
still_knows labels all doc begins h = subst (λ (l : List (List (List ℕ))). knows l doc ≡ true) begins.1
    (weaker (λ label. list_all (stands labels) (prefixes label)) (λ label. list_all (stands (labels ++ begins.0)) (prefixes label))
    (λ label each. weaker (stands labels) (stands (labels ++ begins.0)) (still_stands labels begins.0) (prefixes label) each) doc.labels h)

still_place : (labels all : List (List (List ℕ))) (path : List (List ℕ)) (k : ℕ) → IsPrefix labels all → IsLabelList all → place labels path ≡ Some k → place all path ≡ Some k
still_place labels all path k begins is e = place_at all is k path (prefix_get labels all k path begins (label_at labels k path e))

still_places : (labels all : List (List (List ℕ))) (paths : List (List (List ℕ))) (ordinals : List ℕ) → IsPrefix labels all → IsLabelList all → map (place labels) paths ≡ map Some ordinals → map (place all) paths ≡ map Some ordinals
still_places labels all [] [] begins is e = refl
still_places labels all [] (k ∷ ordinals) begins is e = absurd cc
still_places labels all (p ∷ paths) [] begins is e = absurd cc
still_places labels all (p ∷ paths) (k ∷ ordinals) begins is e =
    let first : place labels p ≡ Some k = ap (λ (l : List (Option ℕ)). unwrap_or (slice_get l 0) None) e in
    let rest : map (place labels) paths ≡ map Some ordinals = ap (λ (l : List (Option ℕ)). drop 1 l) e in
    λ i. still_place labels all p k begins is first i ∷ still_places labels all paths ordinals begins is rest i

-- ---- a reply

module _ (settings : Settings) (labels all : List (List (List ℕ))) (history whole : List Operation) (held : Held) (session : ℕ) (took : Option (ℕ × ℕ)) (saw : Option ℕ) (reply : Reply)
    (begins : IsPrefix labels all) (grows : IsPrefix history whole) (is : IsLabelList all) (full : settings.max_labels ≤ length labels → labels ≡ all) where
  -- the first operations leave the same documents
  left_so : (change : Change) (n : ℕ) → n ≤ length history → left_by change (docs (take n history)) ≡ left_by change (docs (take n whole))
  left_so change n le = ap (λ (os : List Operation). left_by change (docs os)) (sym (take_prefix history whole n grows le))

  lifted_operation : (change : Change) (at : ℕ) → IsOperation history session change at → IsOperation whole session change at
  lifted_operation change at is = prefix_get history whole at (record { session = session; change = change }) grows is

  lifted_placed : (change : Change) → IsPlaced settings history session change reply → IsPlaced settings whole session change reply
  lifted_placed change p =
      let lt = get_below history p.0 (record { session = session; change = change }) p.1 in
      (p.0, lifted_operation change p.0 p.1, subst (λ (ds : List Doc). length ds < settings.max_docs) (left_so change p.0 (omega arith)) p.2, p.3)

  lifted_room : (change : Change) → HasNoRoom settings history change saw reply → HasNoRoom settings whole change saw reply
  lifted_room change n =
      let same = left_so change n.0 n.2 in
      (n.0, n.1, (let l = prefix_length history whole grows in let m = n.2 in omega arith), subst (λ (ds : List Doc). settings.max_docs ≤ length ds) same n.3, n.4 ∙ ap (λ (ds : List Doc). refused (docs_full (length ds))) same)

  lifted_resolved : (change : Change) (doc : Doc) (b : Bool) → knows labels doc ≡ b → IsResolved settings labels history session change saw b reply → IsResolved settings all whole session change saw (knows all doc) reply
  lifted_resolved change doc false e r = subst (λ (l : List (List (List ℕ))). IsResolved settings l whole session change saw (knows l doc) reply) (full r.0) (rw e r)
  lifted_resolved change doc true e r = let k : knows all doc ≡ true = still_knows labels all doc begins e in rw k (⊎_elim (λ p. inl (lifted_placed change p)) (λ n. inr (lifted_room change n)) r)

  lifted_added : (change : Change) (doc : Doc) (o : Option Broken) → IsAdded settings labels history session change saw doc o reply → IsAdded settings all whole session change saw doc o reply
  lifted_added change doc (Some b) r = r
  lifted_added change doc None r = lifted_resolved change doc (knows labels doc) refl r

  lifted_change : (change : Change) (d : Option Doc) → IsChanged settings labels history session change saw d reply → IsChanged settings all whole session change saw d reply
  lifted_change change None r = (r.0, lifted_operation change r.0 r.1, r.2)
  lifted_change change (Some doc) r = lifted_added change doc (first_broken settings.config doc) r

  lifted_counts : Counts history reply → Counts whole reply
  lifted_counts c = (c.0, (let l = prefix_length history whole grows in let m = c.1 in omega arith), c.2)

  lifted_of : (R S : ℕ × ℕ → Reply → Type 0) (o : Option (ℕ × ℕ)) (on : Option (List ℕ)) → ((pair : ℕ × ℕ) → o ≡ Some pair → R pair reply → S pair reply) → IsOf R o on reply → IsOf S o on reply
  lifted_of R S (Some pair) on by r = by pair refl r
  lifted_of R S None (Some name) by r = r
  lifted_of R S None None by r = r

  same_docs : (pair : ℕ × ℕ) → pair.0 ≤ length history → docs_of history pair ≡ docs_of whole pair
  same_docs pair le = sym (ap docs (take_prefix history whole pair.0 grows le))

  lifted_shown : (n at : ℕ) (ds : List Doc) (o : Option Doc) → IsShown labels n ds at o reply → IsShown all n ds at o reply
  lifted_shown n at ds None r = r
  lifted_shown n at ds (Some doc) r = (r.0, still_places labels all doc.labels r.0 begins is r.1, r.2)

  lifted_committed : IsCommitted history reply → IsCommitted whole reply
  lifted_committed r = ⊎_elim (λ c. inl (lifted_counts c)) (λ r. inr r) r

  lifted_looked : (command : Command) (pair : ℕ × ℕ) → pair.0 ≤ length history → IsLooked settings labels history command pair reply → IsLooked settings all whole command pair reply
  lifted_looked (search on s) pair le r = subst (λ (ds : List Doc). IsFound settings.config s (first_refused settings.config s.asks) pair.0 ds reply) (same_docs pair le) r
  lifted_looked (ranges on c rs) pair le r = r ∙ ap (λ (ds : List Doc). ranged_of pair.0 ds c rs) (same_docs pair le)
  lifted_looked (sums on c n) pair le r = subst (λ (ds : List Doc). IsSummed pair.0 ds c n reply) (same_docs pair le) r
  lifted_looked (document on at) pair le r = subst (λ (ds : List Doc). IsShown all pair.0 ds at (slice_get ds at) reply) (same_docs pair le) (lifted_shown pair.0 at (docs_of history pair) (slice_get (docs_of history pair) at) r)
  lifted_looked (stats on) pair le r = r ∙ (λ i. numbers (record { operations = pair.0; labels = pair.1; documents = length (same_docs pair le i) }))
  lifted_looked (add doc) pair le r = absurd r
  lifted_looked refresh pair le r = absurd r
  lifted_looked (hold name) pair le r = absurd r
  lifted_looked (release name) pair le r = absurd r
  lifted_looked commit pair le r = absurd r
  lifted_looked merge pair le r = absurd r

  lifted : (e : Effect) (command : Command) → ((on : Option (List ℕ)) (pair : ℕ × ℕ) → pair_seen held took on ≡ Some pair → pair.0 ≤ length history) → IsRightBy settings labels history held session e command took saw reply → IsRightBy settings all whole held session e command took saw reply
  lifted (changes change) command seen right = lifted_change change (doc_of change) right
  lifted publishes command seen right = lifted_counts right
  lifted (holds name) command seen right = right
  lifted (releases name) command seen right = right
  lifted persists command seen right = lifted_committed right
  lifted merges command seen right = right
  lifted (looks on) command seen right = lifted_of (λ pair r. IsLooked settings labels history command pair r) (λ pair r. IsLooked settings all whole command pair r) (pair_seen held took on) on
      (λ pair is r. lifted_looked command pair (seen on pair is) r) right

-- ---- the replies of a session

module _ (settings : Settings) (phases : List (List Order)) (opened : Opened) (ran : List (List Step)) (last : Seen) (all : AllRan settings phases opened ran last) where
  right_at_last : (held : Held) (x : Step) → In x (steps_of ran) → Sees x.after last → IsStep settings held x → HeldIn held x.before → RightReply settings (labels_of last) (history_of last) held x.answered
  right_at_last held x there sees step within = ⊎_elim
      (λ right. inl (lifted settings (labels_of x.after) (labels_of last) (history_of x.after) (history_of last) held x.answered.order.session x.answered.took x.answered.saw x.answered.reply
      (labels_begin settings phases opened ran last all x.after last sees)
      (map_prefix (λ e. record { session = e.0; change = e.1 }) x.after.operations last.operations sees.operations) all.label_list
      (full_last settings phases opened ran last all x there) (effect x.answered.order.command) x.answered.order.command
      (λ on pair e. let l = (pair_in settings held x on pair step within e).0 in let s : length (history_of x.after) ≡ length x.after.operations = length-map x.after.operations (λ e. record { session = e.0; change = e.1 }) in omega arith) right))
      (λ lacks. inr lacks) step.right

  replies_of : (session : ℕ) (held : Held) (seen : Seen) (xs : List Step) → ((x : Step) → In x xs → In x (steps_of ran)) → SessionRan settings session held seen xs last → HeldIn held seen
      → RightReplies settings (labels_of last) (history_of last) held (map (λ (x : Step). x.answered) xs)
  replies_of session held seen [] among goes within = tt
  replies_of session held seen (x ∷ xs) among goes within =
      let within' = held_more held seen x.before goes.0.sees within in (
        right_at_last held x (among x (inl refl)) (sees_last settings session (held_after held x.answered) x.after xs last goes.2) goes.1 within',
        replies_of session (held_after held x.answered) x.after xs (λ y there. among y (inr there)) goes.2 (held_step settings held x goes.1 within'),
      )

  pub replies_so : (session : ℕ) → RightReplies settings (labels_of last) (history_of last) [] (of_session session (answers (steps_of ran)))
  replies_so session = subst (λ (l : List Answered). RightReplies settings (labels_of last) (history_of last) [] l) (own_answers settings phases opened ran last all session)
      (replies_of session [] (opened_seen opened) (own_steps session (steps_of ran)) (λ x there. (of_filter (is_by session) (steps_of ran) x there).0) (all.sessions session) (λ h none. absurd none))
