-- Two runs of one session from one state are answered alike.
use Rattle.std.proofs.Common.{◌≡◌, ◌∙◌, ◌⊎◌, inl, inr, ⊎_elim, ℕ, zero, suc, ◌≤◌, ◌<◌, Bool, true, false, List, [], ◌∷◌, ◌++◌, length, map, take, drop, Option, Some, None, slice_get, refl, sym, ap, subst, arith}
use Rattle.std.specs.Prelude.{⊤, if◌then◌else◌, is_some, nat_le, nat_lt, unwrap_or}
use Rattle.std.specs.List.{AllZip, list_all}
use Rattle.std.specs.Option.{option_map_or}
use Rattle.std.proofs.lemmas.Bool.{and_from, and_parts, both_ways, cases_lt, le-leb, le-ltb, leb-true, lt-leb, lt-ltb}
use Rattle.std.proofs.lemmas.List.{take_all}
use mathlib.Core.List.{IsPrefix}
use Rattle.facet_counts.proofs.Results.{one_answer}
use Rattle.facet_model.proofs.Fronts.{own_stands}
use Rattle.facet_model.proofs.Unique.{top_determined}
use Rattle.facet_model.specs.Accepts.{Broken, first_broken}
use Rattle.facet_model.specs.Asks.{AskFault, Asked, all_dims, one_value, top}
use Rattle.facet_model.specs.Documents.{Doc, dim_of}
use Rattle.facet_model.specs.Flags.{Config}
use Rattle.facet_model.specs.Histories.{Change, Operation, brought, doc_of, docs, knows, left_by}
use Rattle.facet_model.proofs.Changes.{all_brought, all_docs}
use Rattle.facet_model.specs.Hits.{docs_for}
use Rattle.facet_model.specs.Results.{Answer, IsAnswer, dims_answer, top_answer}
use Rattle.facet_names.proofs.LabelLists.{front_labels, label_at, place_at, stands_by_place}
use Rattle.facet_names.specs.Labels.{IsLabelList, place, prefixes, stands}
use Rattle.facet_output.proofs.Among.{In, at_in, of_all}
use Rattle.facet_output.proofs.Exact.{key_of}
use Rattle.facet_output.proofs.Fronts.{get_there, prefix_whole, take_prefix}
use Rattle.facet_output.proofs.HeldPairs.{under_held}
use Rattle.facet_output.proofs.Lifting.{still_knows}
use Rattle.facet_output.specs.Answered.{Answered}
use Rattle.facet_output.specs.Effects.{Effect, effect, changes, holds, looks, merges, persists, publishes, releases, report}
use Rattle.facet_output.specs.Held.{held_under, is_numbered}
use Rattle.facet_output.specs.OneSession.{AddLeaves, ChangeLeaves, EffectLeaves, LeavesFirst, is_resolved, room}
use Rattle.facet_output.specs.OutputLines.{answered_line, reply_lines}
use Rattle.facet_output.specs.Replying.{IsAdded, IsChanged, IsCommitted, IsFound, IsHold, IsLooked, IsOf, IsRelease, IsResolved, IsRight, IsRightBy, IsShown, RightReply, docs_of, first_refused, pair_seen}
use Rattle.facet_output.specs.Reported.{says_full, stood_at, stood_in}
use Rattle.facet_replies.specs.Replies.{Reply, broken, docs_full, found, held_already, labels_full, numbered, placed, refused, shown, stats as numbers, summed}
use Rattle.number_facets.specs.Values.{PartSum}
use Rattle.facet_words.specs.Answers.{IsSummed, counted_docs, first_hits, hits_of, ranged_of, with_labels}
use Rattle.facet_words.specs.Commands.{Counted, Search, Settings, Command, Order, add, commit, document, hold, merge, ranges, refresh, release, search, stats, sums}
use Rattle.facet_serving.proofs.OneSums.{one_sums}
use Rattle.facet_serving.proofs.Lone.{Goes, State, after, goes_on, is_in, labels_begin}
use Rattle.facet_serving.specs.Alike.{AreAlike, IsOfStore, is_plain}
use Rattle.facet_output.proofs.Served.{all_known}
use Rattle.chronicle.proofs.Prefixes.{prefix_length, prefix_get}

-- ---- changes

-- The reply to a change that adds a document, given how many operations there are, how many documents are left for it to join, and which facet is broken; and the labels behind it.
abbrev outcome : Settings → ℕ → ℕ → List (List (List ℕ)) → Doc → Option Broken → Reply × List (List (List ℕ))
outcome settings operations left labels doc (Some b) = (refused (broken b), labels)
outcome settings operations left labels doc None =
    let all = with_labels labels doc in
    if nat_lt (room settings labels) (length all) then (refused (labels_full (room settings labels)), take (room settings labels) all)
    else (if nat_le settings.max_docs left then (refused (docs_full left), all) else (placed operations, all))

-- one that adds none is placed
abbrev outcome_of : Settings → ℕ → ℕ → List (List (List ℕ)) → Option Doc → Reply × List (List (List ℕ))
outcome_of settings operations left labels None = (placed operations, labels)
outcome_of settings operations left labels (Some doc) = outcome settings operations left labels doc (first_broken settings.config doc)

-- what is known of the reply to a command with this effect, and of the labels that it left
pub record Facts (settings : Settings) (labels : List (List (List ℕ))) (history : List Operation) (s : State) (session : ℕ) (e : Effect) (command : Command) (took : Option (ℕ × ℕ)) (saw : Option ℕ) (reply : Reply) (next : List (List (List ℕ))) : Type 0 where
  pub right : IsRightBy settings labels history s.held session e command took saw reply
  pub leaves : EffectLeaves settings s.labels e reply next
  pub stands : (n : ℕ) → stood_in e saw (report reply) ≡ Some n → n ≡ length s.operations
  pub takes : (pair : ℕ × ℕ) → took ≡ Some pair → pair ≡ (s.taken, s.taken_labels)
  pub begins : IsPrefix s.operations history
  pub own : IsPrefix s.labels labels
  pub until : IsPrefix next labels
  pub limit : length labels ≤ room settings s.labels
  pub known : list_all (knows s.labels) (brought s.operations) ≡ true
  pub taken_in : s.taken ≤ length s.operations
  pub held_in : list_all (is_in (length s.operations)) s.held ≡ true
  pub list : IsLabelList labels
  pub own_list : IsLabelList s.labels

module _ (settings : Settings) (labels : List (List (List ℕ))) (history : List Operation) (s : State) (session : ℕ) (change : Change) (command : Command) (took : Option (ℕ × ℕ)) (saw : Option ℕ) (reply : Reply) (next : List (List (List ℕ)))
    (f : Facts settings labels history s session (changes change) command took saw reply next) where
  abbrev most : ℕ
  most = room settings s.labels

  abbrev count : ℕ
  count = length s.operations

  abbrev left : ℕ
  left = length (left_by change (docs s.operations))

  -- what is left of as many operations as there are
  left_here : (n : ℕ) → n ≡ count → length (left_by change (docs (take n history))) ≡ left
  left_here n is = ap (λ (h : List Operation). length (left_by change (docs h))) (take_prefix s.operations history n f.begins (omega arith) ∙ take_all n s.operations (omega arith))

  module _ (doc : Doc) where
    abbrev all : List (List (List ℕ))
    all = with_labels s.labels doc

    abbrev IsOutcome : Option Broken → Type 0
    IsOutcome o = (reply ≡ (outcome settings count left s.labels doc o).0) × (next ≡ (outcome settings count left s.labels doc o).1)

    lacks_labels : LeavesFirst settings s.labels doc reply next → knows labels doc ≡ false → reply ≡ refused (labels_full (length labels)) → (knows all doc ≡ true) → IsOutcome None
    lacks_labels first lacks e whole =
        let full : length next ≡ most = first.full (subst (λ (q : Reply). says_full q ≡ true) (sym e) refl) in
        let longer : most < length all = ⊎_elim (λ lt. lt)
        (λ le. let same : next ≡ all = first.first ∙ take_all (length next) all (omega arith) in
        absurd (both_ways (knows labels doc) lacks (still_knows next labels doc f.until (subst (λ l. knows l doc ≡ true) (sym same) whole)))) (cases_lt most (length all)) in
        let size : length labels ≡ most = (let l = f.limit in let m = prefix_length next labels f.until in omega arith) in
        let test : nat_lt most (length all) ≡ true = lt-ltb most (length all) longer in
        rw test (e ∙ ap (λ n. refused (labels_full n)) size, first.first ∙ ap (λ n. take n all) full)

    fits : LeavesFirst settings s.labels doc reply next → is_resolved reply ≡ true → (next ≡ all) × (nat_lt most (length all) ≡ false)
    fits first is =
        let whole = first.whole is in
        let size = ap length whole in
        let high = first.high in (whole, le-ltb most (length all) (omega arith))

    is_placed : LeavesFirst settings s.labels doc reply next → (at : ℕ) → length (left_by change (docs (take at history))) < settings.max_docs → reply ≡ placed at → IsOutcome None
    is_placed first at lt e =
        let l = fits first (ap is_resolved e) in
        let here : at ≡ count = f.stands at (ap (λ (q : Reply). stood_at saw (report q)) e) in
        let size = left_here at here in
        let room_left : nat_le settings.max_docs left ≡ false = lt-leb settings.max_docs left (omega arith) in
        let test = l.1 in
        rw (test, room_left) (e ∙ ap placed here, l.0)

    lacks_room : LeavesFirst settings s.labels doc reply next → (n : ℕ) → saw ≡ Some n → settings.max_docs ≤ length (left_by change (docs (take n history)))
        → reply ≡ refused (docs_full (length (left_by change (docs (take n history))))) → IsOutcome None
    lacks_room first n is full e =
        let l = fits first (ap is_resolved e) in
        let size = left_here n (f.stands n (ap (λ (q : Reply). stood_at saw (report q)) e ∙ is)) in
        let no_room : nat_le settings.max_docs left ≡ true = le-leb settings.max_docs left (omega arith) in
        let test = l.1 in
        rw (test, no_room) (e ∙ ap (λ k. refused (docs_full k)) size, l.0)

    resolved : LeavesFirst settings s.labels doc reply next → (b : Bool) → knows labels doc ≡ b → IsResolved settings labels history session change saw b reply → knows all doc ≡ true → IsOutcome None
    resolved first false e r whole = lacks_labels first e r.1 whole
    resolved first true e r whole = ⊎_elim (λ p. is_placed first p.0 p.2 p.3) (λ n. lacks_room first n.0 n.1 n.3 n.4) r

    added : (o : Option Broken) → AddLeaves settings s.labels doc o reply next → IsAdded settings labels history session change saw doc o reply → knows all doc ≡ true → IsOutcome o
    added (Some b) leaves right whole = (right, leaves)
    added None leaves right whole = resolved leaves (knows labels doc) refl right whole

  is_outcome : (d : Option Doc) → ChangeLeaves settings s.labels d reply next → IsChanged settings labels history session change saw d reply → ((doc : Doc) → knows (with_labels s.labels doc) doc ≡ true)
      → (reply ≡ (outcome_of settings count left s.labels d).0) × (next ≡ (outcome_of settings count left s.labels d).1)
  is_outcome None leaves right whole = (right.2 ∙ ap placed (f.stands right.0 (ap (λ (q : Reply). stood_at saw (report q)) right.2)), leaves)
  is_outcome (Some doc) leaves right whole = added doc (first_broken settings.config doc) leaves right (whole doc)

-- ---- search

same_answer : (config : Config) (ds : List Doc) (docs_of : List ℕ → List Doc) (ask : Asked) (a b : Answer) → IsAnswer config ds docs_of ask a → IsAnswer config ds docs_of ask b → a ≡ b
same_answer config ds docs_of (top path n) a b one two = one.2 ∙ ap top_answer (top_determined config (docs_of (dim_of path)) path n one.0 two.0 one.1 two.1) ∙ sym two.2
same_answer config ds docs_of (one_value path) a b one two = one ∙ sym two
same_answer config ds docs_of (all_dims n) a b one two = one.2 ∙ ap dims_answer (one_answer config docs_of n one.0 two.0 one.1 two.1) ∙ sym two.2

same_answers : (config : Config) (ds : List Doc) (docs_of : List ℕ → List Doc) (asks : List Asked) (xs ys : List Answer) → AllZip (IsAnswer config ds docs_of) asks xs → AllZip (IsAnswer config ds docs_of) asks ys → xs ≡ ys
same_answers config ds docs_of [] [] [] one two = refl
same_answers config ds docs_of [] [] (y ∷ ys) one two = absurd two
same_answers config ds docs_of [] (x ∷ xs) ys one two = absurd one
same_answers config ds docs_of (ask ∷ asks) [] ys one two = absurd one
same_answers config ds docs_of (ask ∷ asks) (x ∷ xs) [] one two = absurd two
same_answers config ds docs_of (ask ∷ asks) (x ∷ xs) (y ∷ ys) one two = λ i. same_answer config ds docs_of ask x y one.0 two.0 i ∷ same_answers config ds docs_of asks xs ys one.1 two.1 i

same_found : (config : Config) (s : Search) (o : Option (ℕ × AskFault)) (n : ℕ) (ds : List Doc) (r q : Reply) → IsFound config s o n ds r → IsFound config s o n ds q → r ≡ q
same_found config s (Some x) n ds r q one two = one ∙ sym two
same_found config s None n ds r q one two =
    let answers : one.0 ≡ two.0 = same_answers config ds (docs_for s.sideways ds s.query s.drill) s.asks one.0 two.0 one.1 two.1 in
    one.2 ∙ (λ i. found (record { operations = n; hit_count = length (hits_of ds s); hits = first_hits ds s; answers = answers i })) ∙ sym two.2

-- ---- sums

same_summed : (n : ℕ) (ds : List Doc) (c : Counted) (most : ℕ) (r q : Reply) → IsSummed n ds c most r → IsSummed n ds c most q → r ≡ q
same_summed n ds c zero r q one two = one ∙ sym two
same_summed n ds c (suc most) r q one two =
    let same : one.0 ≡ two.0 = one_sums (counted_docs ds c) c.dim (suc most) one.0 two.0 one.1 two.1 in
    one.2 ∙ ap (λ (shown : List PartSum). summed (record { operations = n; sums = shown })) same ∙ sym two.2

-- ---- document

same_ordinals : (xs ys : List ℕ) → map Some xs ≡ map Some ys → xs ≡ ys
same_ordinals [] [] same = refl
same_ordinals [] (y ∷ ys) same = absurd (cc same)
same_ordinals (x ∷ xs) [] same = absurd (cc same)
same_ordinals (x ∷ xs) (y ∷ ys) same =
    let first : x ≡ y = ap (λ (l : List (Option ℕ)). unwrap_or (unwrap_or (slice_get l 0) None) x) same in
    let rest : map Some xs ≡ map Some ys = ap (λ (l : List (Option ℕ)). drop 1 l) same in
    λ i. first i ∷ same_ordinals xs ys rest i

-- a path that stands in a beginning of two lists has one place in both
same_place : (some labels labels' : List (List (List ℕ))) (path : List (List ℕ)) → IsPrefix some labels → IsPrefix some labels' → IsLabelList labels → IsLabelList labels' → stands some path ≡ true → place labels path ≡ place labels' path
same_place some labels labels' path begins begins' list list' there = by (place some path) refl (stands_by_place some path ∙ there)
  where
    by : (o : Option ℕ) → place some path ≡ o → is_some o ≡ true → place labels path ≡ place labels' path
    by None e is = absurd cc
    by (Some k) e is =
        let at = label_at some k path e in
        place_at labels list k path (prefix_get some labels k path begins at) ∙ sym (place_at labels' list' k path (prefix_get some labels' k path begins' at))

same_places : (some labels labels' : List (List (List ℕ))) (paths : List (List (List ℕ))) → IsPrefix some labels → IsPrefix some labels' → IsLabelList labels → IsLabelList labels' → IsLabelList some
    → list_all (λ path. list_all (stands some) (prefixes path)) paths ≡ true → map (place labels) paths ≡ map (place labels') paths
same_places some labels labels' [] begins begins' list list' own known = refl
same_places some labels labels' (p ∷ paths) begins begins' list list' own known =
    let both = and_parts (list_all (stands some) (prefixes p)) (list_all (λ path. list_all (stands some) (prefixes path)) paths) known in
    λ i. same_place some labels labels' p begins begins' list list' (own_stands some own p both.0) i ∷ same_places some labels labels' paths begins begins' list list' own both.1 i

same_shown : (some labels labels' : List (List (List ℕ))) (n : ℕ) (ds : List Doc) (at : ℕ) (o : Option Doc) (r q : Reply) → IsPrefix some labels → IsPrefix some labels' → IsLabelList labels → IsLabelList labels' → IsLabelList some
    → ((doc : Doc) → o ≡ Some doc → knows some doc ≡ true) → IsShown labels n ds at o r → IsShown labels' n ds at o q → r ≡ q
same_shown some labels labels' n ds at None r q begins begins' list list' own known one two = one ∙ sym two
same_shown some labels labels' n ds at (Some doc) r q begins begins' list list' own known one two =
    let places = same_places some labels labels' doc.labels begins begins' list list' own (known doc refl) in
    let ordinals : one.0 ≡ two.0 = same_ordinals one.0 two.0 (sym one.1 ∙ places ∙ two.1) in
    one.2 ∙ (λ i. shown (record { operations = n; at = at; doc = doc; ordinals = ordinals i })) ∙ sym two.2

-- ---- commit

-- a commit is answered the number of operations, or tells of its store
of_commit : (history : List Operation) (saw : Option ℕ) (r : Reply) (size : ℕ) → ((n : ℕ) → stood_at saw (report r) ≡ Some n → n ≡ size) → IsCommitted history r → (r ≡ numbered size) ⊎ IsOfStore r
of_commit history saw r size stands (inl c) = inl (c.2 ∙ ap numbered (stands c.0 (ap (λ (q : Reply). stood_at saw (report q)) c.2)))
of_commit history saw r size stands (inr (inl d)) = inr (d.0, inl d.1)
of_commit history saw r size stands (inr (inr (inl d))) = inr (d.0, inr (inl d.1))
of_commit history saw r size stands (inr (inr (inr d))) = inr (d.0, inr (inr d.2))

abbrev SameReply : Reply → Reply → Type 0
SameReply r q = (r ≡ q) ⊎ IsOfStore r ⊎ IsOfStore q

same_commit : (r q : Reply) (size : ℕ) → (r ≡ numbered size) ⊎ IsOfStore r → (q ≡ numbered size) ⊎ IsOfStore q → SameReply r q
same_commit r q size (inr store) two = inr (inl store)
same_commit r q size (inl one) (inr store) = inr (inr store)
same_commit r q size (inl one) (inl two) = inl (one ∙ sym two)

-- ---- each order

either : {A : Type 0} (b : Bool) (x : A) → (if b then x else x) ≡ x
either true x = refl
either false x = refl

-- a test of all documents that operations brought holds of those that the first of them leave
of_front : (p : Doc → Bool) (n : ℕ) (operations : List Operation) → list_all p (brought operations) ≡ true → list_all p (docs (take n operations)) ≡ true
of_front p n operations all =
    let q : Operation → Bool = λ o. option_map_or p (doc_of o.change) true in
    all_docs p (take n operations) (all_brought p (take n operations) ∙ fore q n operations (sym (all_brought p operations) ∙ all))
  where
    fore : (q : Operation → Bool) (n : ℕ) (xs : List Operation) → list_all q xs ≡ true → list_all q (take n xs) ≡ true
    fore q zero xs all = refl
    fore q (suc n) [] all = refl
    fore q (suc n) (x ∷ xs) all = let both = and_parts (q x) (list_all q xs) all in and_from (q x) (list_all q (take n xs)) both.0 (fore q n xs both.1)

module _ (settings : Settings) (labels labels' : List (List (List ℕ))) (history history' : List Operation) (s : State) (session : ℕ) (command : Command) (took took' : Option (ℕ × ℕ)) (saw saw' : Option ℕ) (r q : Reply) (next next' : List (List (List ℕ))) where
  abbrev One : Effect → Type 0
  One e = Facts settings labels history s session e command took saw r next

  abbrev Two : Effect → Type 0
  Two e = Facts settings labels' history' s session e command took' saw' q next'

  -- the replies are the same, and so is what there is behind them
  abbrev IsSame : Effect → Type 0
  IsSame e = SameReply r q × (after s session e took r next ≡ after s session e took' q next')

  pair_in : (pair : ℕ × ℕ) → pair.0 ≤ length s.operations → (h : List Operation) → IsPrefix s.operations h → docs_of h pair ≡ docs (take pair.0 s.operations)
  pair_in pair le h begins = ap docs (take_prefix s.operations h pair.0 begins le)

  -- the same pair is seen, or none is held
  of_pair : (e : Effect) → One e → Two e → (R S : ℕ × ℕ → Reply → Type 0) (on : Option (List ℕ)) → ((pair : ℕ × ℕ) → pair.0 ≤ length s.operations → R pair r → S pair q → r ≡ q)
      → IsOf R (pair_seen s.held took on) on r → IsOf S (pair_seen s.held took' on) on q → r ≡ q
  of_pair e f g R S None each one two = by took took' refl refl one two
    where
      by : (t t' : Option (ℕ × ℕ)) → took ≡ t → took' ≡ t' → IsOf R t None r → IsOf S t' None q → r ≡ q
      by None t' is is' one two = absurd one
      by (Some p) None is is' one two = absurd two
      by (Some p) (Some p') is is' one two =
          let here = f.takes p is in
          let there = g.takes p' is' in
          let low : p.0 ≤ length s.operations = (let n = ap (λ (x : ℕ × ℕ). x.0) here in let t = f.taken_in in omega arith) in
          each p low one (subst (λ (x : ℕ × ℕ). S x q) (there ∙ sym here) two)
  of_pair e f g R S (Some name) each one two = by (held_under s.held name) refl one two
    where
      by : (h : Option (ℕ × ℕ)) → held_under s.held name ≡ h → IsOf R h (Some name) r → IsOf S h (Some name) q → r ≡ q
      by None is one two = one ∙ sym two
      by (Some p) is one two =
          let u = under_held s.held name p is in
          let low = leb-true u.0.1.0 (length s.operations) (of_all (is_in (length s.operations)) s.held u.0 f.held_in u.1) in
          let n = ap (λ (x : ℕ × ℕ). x.0) u.2 in
          each p (omega arith) one two

  -- the same pair is looked at
  same_looked : (c : Command) (e : Effect) → One e → Two e → (pair : ℕ × ℕ) → pair.0 ≤ length s.operations → IsLooked settings labels history c pair r → IsLooked settings labels' history' c pair q → r ≡ q
  same_looked (search on x) e f g pair le one two = same_found settings.config x (first_refused settings.config x.asks) pair.0 (docs (take pair.0 s.operations)) r q
      (subst (λ (ds : List Doc). IsFound settings.config x (first_refused settings.config x.asks) pair.0 ds r) (pair_in pair le history f.begins) one)
      (subst (λ (ds : List Doc). IsFound settings.config x (first_refused settings.config x.asks) pair.0 ds q) (pair_in pair le history' g.begins) two)
  same_looked (ranges on c rs) e f g pair le one two = one ∙ ap (λ (ds : List Doc). ranged_of pair.0 ds c rs) (pair_in pair le history f.begins ∙ sym (pair_in pair le history' g.begins)) ∙ sym two
  same_looked (sums on c n) e f g pair le one two = same_summed pair.0 (docs (take pair.0 s.operations)) c n r q
      (subst (λ (ds : List Doc). IsSummed pair.0 ds c n r) (pair_in pair le history f.begins) one)
      (subst (λ (ds : List Doc). IsSummed pair.0 ds c n q) (pair_in pair le history' g.begins) two)
  same_looked (document on at) e f g pair le one two =
      let ds : List Doc = docs (take pair.0 s.operations) in
      same_shown s.labels labels labels' pair.0 ds at (slice_get ds at) r q f.own g.own f.list g.list f.own_list
      (λ doc there. of_all (knows s.labels) ds doc (of_front (knows s.labels) pair.0 s.operations f.known) (at_in ds at doc there))
      (subst (λ (l : List Doc). IsShown labels pair.0 l at (slice_get l at) r) (pair_in pair le history f.begins) one)
      (subst (λ (l : List Doc). IsShown labels' pair.0 l at (slice_get l at) q) (pair_in pair le history' g.begins) two)
  same_looked (stats on) e f g pair le one two =
      let many : length (docs_of history pair) ≡ length (docs_of history' pair) = ap length (pair_in pair le history f.begins ∙ sym (pair_in pair le history' g.begins)) in
      one ∙ ap (λ n. numbers (record { operations = pair.0; labels = pair.1; documents = n })) many ∙ sym two
  same_looked (add doc) e f g pair le one two = absurd one
  same_looked refresh e f g pair le one two = absurd one
  same_looked (hold name) e f g pair le one two = absurd one
  same_looked (release name) e f g pair le one two = absurd one
  same_looked commit e f g pair le one two = absurd one
  same_looked merge e f g pair le one two = absurd one

  same_holds : (name : List ℕ) → One (holds name) → Two (holds name) → IsSame (holds name)
  same_holds name f g = by (held_under s.held name) took took' refl refl f.right g.right
    where
      e : next ≡ next'
      e = f.leaves ∙ sym g.leaves

      by : (h t t' : Option (ℕ × ℕ)) → took ≡ t → took' ≡ t' → IsHold h t r → IsHold h t' q → IsSame (holds name)
      by (Some p) t t' is is' one two = (
        inl (one ∙ sym two),
        (λ i. after s session (holds name) took (one i) next) ∙ (λ i. after s session (holds name) took' (refused held_already) (e i)) ∙ (λ i. after s session (holds name) took' (sym two i) next'),
      )
      by None None t' is is' one two = absurd one
      by None (Some p) None is is' one two = absurd two
      by None (Some p) (Some p') is is' one two =
          let same = is ∙ ap Some (f.takes p is ∙ sym (g.takes p' is')) ∙ sym is' in
          let replies : r ≡ q = one ∙ ap (λ (x : ℕ × ℕ). numbered x.0) (f.takes p is ∙ sym (g.takes p' is')) ∙ sym two in
          (inl replies, λ i. after s session (holds name) (same i) (replies i) (e i))

  same_releases : (name : List ℕ) → One (releases name) → Two (releases name) → r ≡ q
  same_releases name f g = by (held_under s.held name) f.right g.right
    where
      by : (h : Option (ℕ × ℕ)) → IsRelease h r → IsRelease h q → r ≡ q
      by (Some p) one two = one ∙ sym two
      by None one two = one ∙ sym two

  same_publishes : One publishes → Two publishes → r ≡ q
  same_publishes f g =
      let one = f.right in
      let two = g.right in
      let n = f.stands one.0 (ap (λ (x : Reply). stood_at saw (report x)) one.2) in
      let m = g.stands two.0 (ap (λ (x : Reply). stood_at saw' (report x)) two.2) in
      one.2 ∙ ap numbered (n ∙ sym m) ∙ sym two.2

  pub same_order : (e : Effect) → ((doc : Doc) → knows (with_labels s.labels doc) doc ≡ true) → One e → Two e → IsSame e
  same_order (changes change) whole f g =
      let one = is_outcome settings labels history s session change command took saw r next f (doc_of change) f.leaves f.right whole in
      let two = is_outcome settings labels' history' s session change command took' saw' q next' g (doc_of change) g.leaves g.right whole in
      let replies : r ≡ q = one.0 ∙ sym two.0 in
      let left : next ≡ next' = one.1 ∙ sym two.1 in
      (inl replies, λ i. after s session (changes change) took (replies i) (left i))
  same_order publishes whole f g = let e = same_publishes f g in let l = f.leaves ∙ sym g.leaves in (inl e, λ i. after s session publishes took (e i) (l i))
  same_order (holds name) whole f g = same_holds name f g
  same_order (releases name) whole f g = let e = same_releases name f g in let l = f.leaves ∙ sym g.leaves in (inl e, λ i. after s session (releases name) took (e i) (l i))
  same_order persists whole f g = (
    same_commit r q (length s.operations) (of_commit history saw r (length s.operations) f.stands f.right) (of_commit history' saw' q (length s.operations) g.stands g.right),
    (let l = f.leaves ∙ sym g.leaves in let h = either (is_numbered r) s.held ∙ sym (either (is_numbered q) s.held) in
        λ i. record { labels = l i; operations = s.operations; taken = s.taken; taken_labels = s.taken_labels; held = h i }),
  )
  same_order merges whole f g = let e = f.right ∙ sym g.right in let l = f.leaves ∙ sym g.leaves in (inl e, λ i. after s session merges took (e i) (l i))
  same_order (looks on) whole f g =
      let e = of_pair (looks on) f g (λ pair reply. IsLooked settings labels history command pair reply) (λ pair reply. IsLooked settings labels' history' command pair reply) on (same_looked command (looks on) f g) f.right g.right in
      let l = f.leaves ∙ sym g.leaves in
      (inl e, λ i. after s session (looks on) took (e i) (l i))

-- ---- runs

facts_of : (settings : Settings) (labels : List (List (List ℕ))) (history : List Operation) (s : State) (a : Answered) (later : List Answered) → (g : Goes settings labels history s (a ∷ later)) → IsLabelList labels
    → IsRight settings labels history s.held a.order.session a.order.command a.took a.saw a.reply → Facts settings labels history s a.order.session (effect a.order.command) a.order.command a.took a.saw a.reply g.exact_labels.0
facts_of settings labels history s a later g list right =
    let own = labels_begin settings s.labels s.taken_labels (a ∷ later) labels g.exact_labels in
    let front : take (length s.labels) labels ≡ s.labels = take_prefix s.labels labels (length s.labels) own (omega arith) ∙ take_all (length s.labels) s.labels (omega arith) in
    let rooted = g.rooted in
    record {
      right = right;
      leaves = g.exact_labels.1;
      stands = g.exact.0;
      takes = λ pair e. (λ i. (g.exact.1 pair e i, g.exact_labels.2 pair e i));
      begins = g.begins;
      own = own;
      until = labels_begin settings g.exact_labels.0 _ later labels g.exact_labels.3;
      limit = g.limit;
      known = g.known;
      taken_in = g.taken_in;
      held_in = g.held_in;
      list = list;
      own_list = subst IsLabelList front (front_labels labels list (length s.labels) rooted (prefix_length s.labels labels own));
    }

abbrev pub replies_of : List Answered → List Reply
replies_of answered = map (λ (a : Answered). a.reply) answered

module _ (settings : Settings) (labels labels' : List (List (List ℕ))) (history history' : List Operation) (list : IsLabelList labels) (list' : IsLabelList labels') where
  abbrev First : State → List Answered → Type 0
  First s answered = Goes settings labels history s answered

  abbrev Second : State → List Answered → Type 0
  Second s answered = Goes settings labels' history' s answered

  abbrev IsRightFirst : State → Answered → Type 0
  IsRightFirst s a = IsRight settings labels history s.held a.order.session a.order.command a.took a.saw a.reply

  abbrev IsRightSecond : State → Answered → Type 0
  IsRightSecond s b = IsRight settings labels' history' s.held b.order.session b.order.command b.took b.saw b.reply

  -- the next order is answered the same, and both go on from one state
  record GoOn (s : State) (a b : Answered) (later later' : List Answered) : Type 0 where
    same : SameReply a.reply b.reply
    state : State
    one : First state later
    two : Second state later'

  step : (s : State) (a b : Answered) (later later' : List Answered) → a.order ≡ b.order → First s (a ∷ later) → Second s (b ∷ later') → IsRightFirst s a → IsRightSecond s b → GoOn s a b later later'
  step s a b later later' order g g' right right' =
      let f = facts_of settings labels history s a later g list right in
      let f' = subst (λ (o : Order). Facts settings labels' history' s o.session (effect o.command) o.command b.took b.saw b.reply g'.exact_labels.0) (sym order) (facts_of settings labels' history' s b later' g' list' right') in
      let r = same_order settings labels labels' history history' s a.order.session a.order.command a.took b.took a.saw b.saw a.reply b.reply g.exact_labels.0 g'.exact_labels.0 (effect a.order.command) (all_known s.labels) f f' in
      let there : after s a.order.session (effect a.order.command) a.took a.reply g.exact_labels.0 ≡ after s b.order.session (effect b.order.command) b.took b.reply g'.exact_labels.0 =
      r.1 ∙ ap (λ (o : Order). after s o.session (effect o.command) b.took b.reply g'.exact_labels.0) order in
      record {
        same = r.0;
        state = after s b.order.session (effect b.order.command) b.took b.reply g'.exact_labels.0;
        one = subst (λ (x : State). First x later) there (goes_on settings labels history s a later g right);
        two = goes_on settings labels' history' s b later' g' right';
      }

  pub alike : (s : State) (xs ys : List Answered) → IsPrefix (map key_of xs) (map key_of ys) → First s xs → Second s ys → AreAlike (replies_of xs) (replies_of ys)
  alike s [] ys begins g g' = tt
  alike s (a ∷ xs) [] begins g g' = absurd (cc begins.1)
  alike s (a ∷ xs) (b ∷ ys) begins g g' =
      let key : key_of a ≡ key_of b = ap (λ (l : List (ℕ × Order)). unwrap_or (slice_get l 0) (key_of a)) begins.1 in
      let later : IsPrefix (map key_of xs) (map key_of ys) = (begins.0, ap (λ (l : List (ℕ × Order)). drop 1 l) begins.1) in
      by (ap (λ (k : ℕ × Order). k.1) key) g.right.0 g'.right.0 (λ state one two. alike state xs ys later one two)
    where
      by : a.order ≡ b.order → RightReply settings labels history s.held a → RightReply settings labels' history' s.held b → ((state : State) → First state xs → Second state ys → AreAlike (replies_of xs) (replies_of ys))
          → AreAlike (replies_of (a ∷ xs)) (replies_of (b ∷ ys))
      by order (inr lacks) right' rest = inl (inl lacks.1)
      by order (inl right) (inr lacks) rest = inl (inr lacks.1)
      by order (inl right) (inl right') rest = let n = step s a b xs ys order g g' right right' in inr (n.same, rest n.state n.one n.two)

  -- the replies, the labels and the operations are the same
  abbrev IsAllSame : List Answered → List Answered → Type 0
  IsAllSame xs ys = (replies_of xs ≡ replies_of ys) × (labels ≡ labels') × (history ≡ history')

  whole_history : (h : List Operation) (s : State) → IsPrefix s.operations h → ((k : ℕ) (o : Operation) → length s.operations ≤ k → slice_get h k ≡ Some o → (a : Answered) × In a [] × ⊤) → s.operations ≡ h
  whole_history h s begins none = prefix_whole s.operations h begins (⊎_elim
      (λ lt. let r = get_there h (length s.operations) lt in absurd (none (length s.operations) r.0 (omega arith) r.1).1)
      (λ le. le) (cases_lt (length s.operations) (length h)))

  plain_not_store : (r : Reply) → is_plain r ≡ true → IsOfStore r → ⊥
  plain_not_store r plain (n, inl d) = both_ways (is_plain r) (ap is_plain d) plain
  plain_not_store r plain (n, inr (inl d)) = both_ways (is_plain r) (ap is_plain d) plain
  plain_not_store r plain (n, inr (inr d)) = both_ways (is_plain r) (ap is_plain d) plain

  pub whole : (s : State) (xs ys : List Answered) → map key_of xs ≡ map key_of ys → list_all is_plain (replies_of xs) ≡ true → list_all is_plain (replies_of ys) ≡ true → First s xs → Second s ys → IsAllSame xs ys
  whole s [] [] keys plain plain' g g' = (
    refl,
    g.exact_labels ∙ sym g'.exact_labels,
    sym (whole_history history s g.begins (λ k o le at. let r = g.rest k o le at in absurd r.1)) ∙ whole_history history' s g'.begins (λ k o le at. let r = g'.rest k o le at in absurd r.1),
  )
  whole s [] (b ∷ ys) keys plain plain' g g' = absurd (cc keys)
  whole s (a ∷ xs) [] keys plain plain' g g' = absurd (cc keys)
  whole s (a ∷ xs) (b ∷ ys) keys plain plain' g g' =
      let key : key_of a ≡ key_of b = ap (λ (l : List (ℕ × Order)). unwrap_or (slice_get l 0) (key_of a)) keys in
      let later : map key_of xs ≡ map key_of ys = ap (λ (l : List (ℕ × Order)). drop 1 l) keys in
      let p = and_parts (is_plain a.reply) (list_all is_plain (replies_of xs)) plain in
      let p' = and_parts (is_plain b.reply) (list_all is_plain (replies_of ys)) plain' in
      by (ap (λ (k : ℕ × Order). k.1) key) p.0 p'.0 g.right.0 g'.right.0 (λ state one two. whole state xs ys later p.1 p'.1 one two)
    where
      by : a.order ≡ b.order → is_plain a.reply ≡ true → is_plain b.reply ≡ true → RightReply settings labels history s.held a → RightReply settings labels' history' s.held b → ((state : State) → First state xs → Second state ys → IsAllSame xs ys)
          → IsAllSame (a ∷ xs) (b ∷ ys)
      by order plain plain' (inr lacks) right' rest = absurd (both_ways (is_plain a.reply) (ap is_plain lacks.1) plain)
      by order plain plain' (inl right) (inr lacks) rest = absurd (both_ways (is_plain b.reply) (ap is_plain lacks.1) plain')
      by order plain plain' (inl right) (inl right') rest =
          let n = step s a b xs ys order g g' right right' in
          let r = rest n.state n.one n.two in
          let same : a.reply ≡ b.reply = ⊎_elim (λ e. e) (λ store. ⊎_elim (λ one. absurd (plain_not_store a.reply plain one)) (λ two. absurd (plain_not_store b.reply plain' two)) store) n.same in
          (λ i. same i ∷ r.0 i, r.1, r.2)

-- equal orders with equal replies have equal lines
pub same_lines : (xs ys : List Answered) → map key_of xs ≡ map key_of ys → replies_of xs ≡ replies_of ys → reply_lines xs ≡ reply_lines ys
same_lines [] [] keys replies = refl
same_lines [] (b ∷ ys) keys replies = absurd (cc keys)
same_lines (a ∷ xs) [] keys replies = absurd (cc keys)
same_lines (a ∷ xs) (b ∷ ys) keys replies =
    let key : key_of a ≡ key_of b = ap (λ (l : List (ℕ × Order)). unwrap_or (slice_get l 0) (key_of a)) keys in
    let reply : a.reply ≡ b.reply = ap (λ (l : List Reply). unwrap_or (slice_get l 0) a.reply) replies in
    let rest = same_lines xs ys (ap (λ (l : List (ℕ × Order)). drop 1 l) keys) (ap (λ (l : List Reply). drop 1 l) replies) in
    λ i. line (key i).1 (reply i) ++ rest i
  where
    line : Order → Reply → List ℕ
    line o r = answered_line (record { phase = a.phase; order = o; took = None; place = None; saw = None; reply = r })
