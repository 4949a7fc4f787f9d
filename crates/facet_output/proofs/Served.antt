-- One session that ran alone was served on the shelf that `facet_words` speaks of.
use Rattle.std.proofs.Common.{◌≡◌, ◌⊎◌, inl, inr, ⊎_elim, ℕ, ◌+◌, ◌≤◌, ◌<◌, ◌^◌, Bool, true, false, List, [], ◌∷◌, ◌++◌, length, map, Option, Some, None, slice_get, refl, sym, ap, ◌∙◌, subst, arith, length-append}
use Rattle.std.specs.Prelude.{take, flat_map, filter_map, nat_lt, nat_le, option_to_list, option_map, unwrap_or, IfSome, IsTrue}
use Rattle.std.specs.List.{list_all, enumerate_from, cons_option}
use Rattle.std.proofs.lemmas.Bool.{and_parts, both_ways, cases_lt, lt-ltb, le-ltb, le-leb, lt-leb}
use Rattle.std.proofs.lemmas.List.{length-map, map-append, take_all}
use Rattle.std.proofs.lemmas.List.Elements.{filter_map-append}
use mathlib.Core.List.{IsPrefix}
use Rattle.facet_names.specs.Labels.{stands, prefixes}
use Rattle.facet_model.specs.Accepts.{Broken, first_broken}
use Rattle.facet_model.specs.Asks.{Asked, AskFault, ask_fault}
use Rattle.facet_model.specs.Documents.{Doc}
use Rattle.facet_model.specs.Flags.{Config}
use Rattle.facet_model.specs.Histories as histories
use Rattle.facet_model.specs.Histories.{Change, Operation, docs, doc_of, knows}
use Rattle.facet_model.proofs.Changes.{docs_more, docs_opened}
use Rattle.facet_replies.specs.ReplyLines.{reply_line}
use Rattle.facet_words.specs.Answers as words_answers
use Rattle.facet_words.specs.Answers.{Shelf, names_no_pair, with_labels, hits_of, first_hits, ranged_of, IsSummed}
use Rattle.facet_words.specs.Commands.{Settings, Search, Counted, Command, Order, add, refresh, hold, release, search, ranges, sums, document, stats, commit, merge}
use Rattle.number_facets.specs.Values.{Range}
use Rattle.facet_output.specs.Answered.{Answered}
use Rattle.facet_output.specs.Effects.{Effect, publishes, persists, merges, looks, effect, report}
use Rattle.facet_output.specs.Held.{Held, held_after}
use Rattle.facet_output.specs.OneSession.{AddLeaves, EffectLeaves, LeavesFirst, room, is_resolved}
use Rattle.facet_output.specs.OneShelf.{orders_of, NamesNoPair, Served, OneSessionIsServed}
use Rattle.facet_output.specs.Output.{Opened}
use Rattle.facet_output.specs.OutputLines.{reply_lines}
use Rattle.facet_replies.specs.Replies.{Refusal, broken, labels_full, docs_full, disk_failed, closed, numbers_spent, no_memory, Reply, placed, numbered, stats as numbers, merged, refused}
use Rattle.facet_output.specs.Replying.{IsAdded, IsResolved, IsOf, IsFound, IsShown, IsLooked, IsRight, IsRightBy, IsCommitted, Counts, docs_of, first_refused, takes_memory}
use Rattle.facet_output.specs.Seen.{CommitPoint, Entries, Seen, Sees, IsTold, EntersNone, opened_seen, labels_of, history_of, failures}
use Rattle.facet_output.specs.Sessions.{SessionRan, AllRan, steps_of, own_steps, is_by}
use Rattle.facet_output.specs.Steps.{Step, IsStep, IsLastPair, EntersOperation, EntersPair, EntersPoint, EntersPoints, EntersBy, EntersCommit}
use Rattle.facet_output.specs.Reported.{placed_by, placed_in, refreshed_by, refreshed_in, stood_by, stood_in, says_full}
use Rattle.facet_output.proofs.Alone.{nothing_between, own, step_leaves}
use Rattle.facet_output.proofs.Among.{In, all_in, in_left, in_right}
use Rattle.facet_output.proofs.Bringing.{opened_first}
use Rattle.facet_output.proofs.Chain.{sees_self, sees_trans, sees_last}
use Rattle.facet_output.proofs.Exact.{filter_all}
use Rattle.facet_output.proofs.Fresh.{if_some}
use Rattle.facet_output.proofs.Fronts.{get_last, operation_of, map_prefix, take_prefix}
use Rattle.facet_output.proofs.Growing.{all_stand}
use Rattle.chronicle.proofs.Prefixes.{prefix_self, prefix_trans, prefix_length}

-- ---- the first refused ask

abbrev named : ℕ × AskFault → Refusal
named r = words_answers.ask_refusal r.0 r.1

first_named : (config : Config) (xs : List (ℕ × Asked)) → slice_get (filter_map (λ e. option_map (words_answers.ask_refusal e.0) (ask_fault config e.1)) xs) 0
    ≡ option_map named (slice_get (filter_map (λ e. option_map (λ fault. (e.0, fault)) (ask_fault config e.1)) xs) 0)
first_named config [] = refl
first_named config (e ∷ xs) = by (ask_fault config e.1) (first_named config xs)
  where
    by : (o : Option AskFault) → slice_get (filter_map (λ e. option_map (words_answers.ask_refusal e.0) (ask_fault config e.1)) xs) 0 ≡ option_map named (slice_get (filter_map (λ e. option_map (λ fault. (e.0, fault)) (ask_fault config e.1)) xs) 0)
        → slice_get (cons_option (option_map (words_answers.ask_refusal e.0) o) (filter_map (λ e. option_map (words_answers.ask_refusal e.0) (ask_fault config e.1)) xs)) 0
        ≡ option_map named (slice_get (cons_option (option_map (λ fault. (e.0, fault)) o) (filter_map (λ e. option_map (λ fault. (e.0, fault)) (ask_fault config e.1)) xs)) 0)
    by None rest = rest
    by (Some fault) rest = refl

-- ---- numbers and options

of_none : (o : Option ℕ) → option_to_list o ≡ [] → o ≡ None
of_none None e = refl
of_none (Some c) e = absurd cc

of_one : (o : Option ℕ) (c : ℕ) → option_to_list o ≡ c ∷ [] → o ≡ Some c
of_one None c e = absurd cc
of_one (Some d) c e = ap Some (ap (λ (l : List ℕ). unwrap_or (slice_get l 0) d) e)

-- ---- shelves

-- the documents that operations leave
abbrev documents_in : Entries Change → List Doc
documents_in operations = docs (map operation_of operations)

-- a shelf of these parts
abbrev shelf_of : List (List (List ℕ)) → List Doc → ℕ → List Doc → ℕ × ℕ → Option ℕ → Shelf
shelf_of labels ds operations shown pair shut = record { labels = labels; docs = ds; operations = operations; seen = shown; taken = pair.0; taken_labels = pair.1; closed = shut }

parts_same : (labels labels' : List (List (List ℕ))) (ds ds' : List Doc) (n n' : ℕ) (shown : List Doc) (pair : ℕ × ℕ) (shut : Option ℕ) → labels ≡ labels' → ds ≡ ds' → n ≡ n'
    → shelf_of labels ds n shown pair shut ≡ shelf_of labels' ds' n' shown pair shut
parts_same labels labels' ds ds' n n' shown pair shut l d e = λ i. shelf_of (l i) (d i) (e i) shown pair shut

-- a shelf after these operations
abbrev shelf_with : List (List (List ℕ)) → Entries Change → List Doc → ℕ × ℕ → Option ℕ → Shelf
shelf_with labels operations shown pair shut = shelf_of labels (documents_in operations) (length operations) shown pair shut

shelf_same : (labels labels' : List (List (List ℕ))) (ops ops' : Entries Change) (shown : List Doc) (pair : ℕ × ℕ) (shut : Option ℕ) → labels ≡ labels' → ops ≡ ops' → shelf_with labels ops shown pair shut ≡ shelf_with labels' ops' shown pair shut
shelf_same labels labels' ops ops' shown pair shut l o = λ i. shelf_with (l i) (o i) shown pair shut

history_size : (operations : Entries Change) → length (map operation_of operations) ≡ length operations
history_size operations = length-map operations operation_of

one_more : (operations : Entries Change) (n : ℕ) (doc : Doc) → documents_in (operations ++ (n, histories.add doc) ∷ []) ≡ documents_in operations ++ doc ∷ []
one_more operations n doc = ap docs (map-append operation_of operations ((n, histories.add doc) ∷ [])) ∙ docs_more (map operation_of operations) (operation_of (n, histories.add doc))

-- the first operations leave the same documents when more come behind them
first_docs : (ops more : Entries Change) (pair : ℕ × ℕ) → IsPrefix ops more → pair.0 ≤ length ops → docs_of (map operation_of more) pair ≡ docs_of (map operation_of ops) pair
first_docs ops more pair begins le = ap docs (take_prefix (map operation_of ops) (map operation_of more) pair.0 (map_prefix operation_of ops more begins) (let size = history_size ops in omega arith))

-- all of them leave all documents
all_docs : (ops : Entries Change) (n : ℕ) → length ops ≤ n → docs (take n (map operation_of ops)) ≡ documents_in ops
all_docs ops n le = ap docs (take_all n (map operation_of ops) (let size = history_size ops in omega arith))

-- the last pair that was published
abbrev EndsWith : Entries (ℕ × ℕ) → ℕ × ℕ → Type 0
EndsWith pairs pair = (front : Entries (ℕ × ℕ)) × (n : ℕ) × (pairs ≡ front ++ (n, pair) ∷ [])

same_end : (pairs : Entries (ℕ × ℕ)) (pair : ℕ × ℕ) → EndsWith pairs pair → (front : Entries (ℕ × ℕ)) (n : ℕ) (other : ℕ × ℕ) → pairs ≡ front ++ (n, other) ∷ [] → other ≡ pair
same_end pairs pair ends front n other e =
    let here : ℕ × (ℕ × ℕ) = (ends.1, pair) in
    let there : ℕ × (ℕ × ℕ) = (n, other) in
    let size : length front ≡ length ends.0 = (let a = ap length e ∙ length-append front (there ∷ []) in let b = ap length ends.2 ∙ length-append ends.0 (here ∷ []) in omega arith) in
    let at : slice_get pairs (length ends.0) ≡ Some here = subst (λ (ps : Entries (ℕ × ℕ)). slice_get ps (length ends.0) ≡ Some here) (sym ends.2) (get_last ends.0 here) in
    let at' : slice_get pairs (length front) ≡ Some there = subst (λ (ps : Entries (ℕ × ℕ)). slice_get ps (length front) ≡ Some there) (sym e) (get_last front there) in
    let same : Some there ≡ Some here = sym at' ∙ ap (slice_get pairs) size ∙ at in
    ap (λ (o : Option (ℕ × (ℕ × ℕ))). (unwrap_or o there).1) same

-- the shelf is of what was seen
record Fits (seen : Seen) (shelf : Shelf) : Type 0 where
  pair : ℕ × ℕ
  shut : Option ℕ
  shown : List Doc
  is : shelf ≡ shelf_with (labels_of seen) seen.operations shown pair shut
  shows : shown ≡ docs_of (history_of seen) pair
  within : pair.0 ≤ length seen.operations
  ends : EndsWith seen.pairs pair
  closed_so : failures seen.commits ≡ option_to_list shut

-- what is known of the reply to a command with this effect, and of what was entered with it
record Facts (settings : Settings) (before after : Seen) (held : Held) (session : ℕ) (e : Effect) (command : Command) (took : Option (ℕ × ℕ)) (saw : Option ℕ) (reply : Reply) : Type 0 where
  right : IsRightBy settings (labels_of after) (history_of after) held session e command took saw reply ⊎ (IsTrue (takes_memory command) × (reply ≡ refused no_memory))
  leaves : EffectLeaves settings (labels_of before) e reply (labels_of after)
  operations : EntersOperation session (placed_in session e (report reply)) before.operations after.operations
  pairs : EntersPair session (length (labels_of before)) (length (labels_of after)) (refreshed_in e (report reply)) before.pairs after.pairs
  commits : EntersBy session (length (labels_of before)) e (report reply) before.commits after.commits
  fresh : IfSome (stood_in e saw (report reply)) (λ n. length before.operations ≤ n)
  taken : IfSome took (λ pair. IsLastPair after pair × (refreshed_in e (report reply) ≡ None))

among_all : (paths : List (List (List ℕ))) (label p : List (List ℕ)) → In label paths → In p (prefixes label) → In p (flat_map prefixes paths)
among_all [] label p there among = absurd there
among_all (q ∷ paths) label p there among = ⊎_elim
    (λ is. in_left (prefixes q) (flat_map prefixes paths) p (subst (λ (l : List (List ℕ)). In p (prefixes l)) is among))
    (λ later. in_right (prefixes q) (flat_map prefixes paths) p (among_all paths label p later among)) there

-- all prefixes of a document's labels stand where each was added that was missing
pub all_known : (labels : List (List (List ℕ))) (doc : Doc) → knows (with_labels labels doc) doc ≡ true
all_known labels doc = all_in (λ label. list_all (stands (with_labels labels doc)) (prefixes label)) doc.labels
    (λ label there. all_in (stands (with_labels labels doc)) (prefixes label) (λ p among. all_stand (flat_map prefixes doc.labels) labels p (among_all doc.labels label p there among)))

-- the reply on the shelf, and the next shelf
record Goes (settings : Settings) (command : Command) (reply : Reply) (shelf : Shelf) (after : Seen) : Type 0 where
  told : Reply
  next : Shelf
  same : told ≡ reply
  right : words_answers.RightReply settings shelf command told next
  fits : Fits after next

-- ---- one step, where nobody else enters anything

module _ (settings : Settings) (before after : Seen) (held : Held) (session : ℕ)
    (operations_so : (ops : Entries Change) → EntersNone session before.operations ops → IsPrefix ops after.operations → before.operations ≡ ops)
    (pairs_so : (ps : Entries (ℕ × ℕ)) → EntersNone session before.pairs ps → IsPrefix ps after.pairs → before.pairs ≡ ps)
    (commits_so : (cs : Entries CommitPoint) → EntersNone session before.commits cs → IsPrefix cs after.commits → before.commits ≡ cs)
    (begins : IsPrefix before.operations after.operations)
    (pair : ℕ × ℕ) (shut : Option ℕ) (shown : List Doc) (shows : shown ≡ docs_of (history_of before) pair) (within : pair.0 ≤ length before.operations)
    (ends : EndsWith before.pairs pair) (closed_so : failures before.commits ≡ option_to_list shut) where
  abbrev S : Shelf
  S = shelf_with (labels_of before) before.operations shown pair shut

  abbrev D : List Doc
  D = documents_in before.operations

  no_operation : EntersNone session before.operations after.operations → before.operations ≡ after.operations
  no_operation none = operations_so after.operations none (prefix_self after.operations)

  no_pair : EntersNone session before.pairs after.pairs → before.pairs ≡ after.pairs
  no_pair none = pairs_so after.pairs none (prefix_self after.pairs)

  no_commit : EntersNone session before.commits after.commits → before.commits ≡ after.commits
  no_commit none = commits_so after.commits none (prefix_self after.commits)

  still_ends : EntersNone session before.pairs after.pairs → EndsWith after.pairs pair
  still_ends none = subst (λ (ps : Entries (ℕ × ℕ)). EndsWith ps pair) (no_pair none) ends

  still_closed : EntersNone session before.commits after.commits → failures after.commits ≡ option_to_list shut
  still_closed none = subst (λ (cs : Entries CommitPoint). failures cs ≡ option_to_list shut) (no_commit none) closed_so

  -- the pair has the documents that it had
  still_shows : shown ≡ docs_of (history_of after) pair
  still_shows = shows ∙ sym (first_docs before.operations after.operations pair begins within)

  still_within : pair.0 ≤ length after.operations
  still_within = let l = prefix_length before.operations after.operations begins in omega (arith, within)

  -- the shelf after a command that enters no pair and no commit
  fits_with : (labels : List (List (List ℕ))) (ops : Entries Change) → labels ≡ labels_of after → ops ≡ after.operations → EntersNone session before.pairs after.pairs → EntersNone session before.commits after.commits
      → Fits after (shelf_with labels ops shown pair shut)
  fits_with labels ops l o pairs commits = record {
    pair = pair;
    shut = shut;
    shown = shown;
    is = shelf_same labels (labels_of after) ops after.operations shown pair shut l o;
    shows = still_shows;
    within = still_within;
    ends = still_ends pairs;
    closed_so = still_closed commits;
  }

  -- ---- add

  module _ (doc : Doc) (saw : Option ℕ) (reply : Reply) (facts : (commits : EntersNone session before.commits after.commits) × EntersNone session before.pairs after.pairs)
      (fresh : IfSome (stood_by (add doc) saw reply) (λ n. length before.operations ≤ n)) (enters : EntersOperation session (placed_by session (add doc) reply) before.operations after.operations) where
    abbrev all : List (List (List ℕ))
    all = with_labels (labels_of before) doc

    abbrev IsAnswer : Option Broken → Reply → Shelf → Type 0
    IsAnswer o told next = ((told ≡ (words_answers.added settings S doc o).0) × (next ≡ (words_answers.added settings S doc o).1)) ⊎ ((told ≡ refused no_memory) × words_answers.LeavesSome settings S doc o next)

    record Answers (o : Option Broken) : Type 0 where
      told : Reply
      next : Shelf
      same : told ≡ reply
      answer : IsAnswer o told next
      fits : Fits after next

    enters_none : (reply' : Reply) → reply ≡ reply' → placed_by session (add doc) reply' ≡ None → EntersNone session before.operations after.operations
    enters_none reply' e none = subst (λ (q : Option (ℕ × Operation)). EntersOperation session q before.operations after.operations) (ap (placed_by session (add doc)) e ∙ none) enters

    knows_all : knows all doc ≡ true
    knows_all = all_known (labels_of before) doc

    abbrev fits_in : ℕ
    fits_in = room settings (labels_of before)

    -- no room for all the labels
    no_labels : LeavesFirst settings (labels_of before) doc reply (labels_of after) → settings.max_labels ≤ length (labels_of after) → knows (labels_of after) doc ≡ false → reply ≡ refused (labels_full (length (labels_of after))) → Answers None
    no_labels first enough lacks e =
        let full : length (labels_of after) ≡ fits_in = first.full (subst (λ (q : Reply). IsTrue (says_full q)) (sym e) refl) in
        let longer : fits_in < length all = ⊎_elim (λ lt. lt)
        (λ le. let whole : labels_of after ≡ all = first.first ∙ take_all (length (labels_of after)) all (omega arith) in
        absurd (both_ways (knows all doc) (subst (λ l. knows l doc ≡ false) whole lacks) knows_all)) (cases_lt fits_in (length all)) in
        let test : nat_lt fits_in (length all) ≡ true = lt-ltb fits_in (length all) longer in
        let cut : labels_of after ≡ take fits_in all = first.first ∙ ap (λ n. take n all) full in
        record {
          told = refused (labels_full (length (labels_of after)));
          next = shelf_with (labels_of after) before.operations shown pair shut;
          same = sym e;
          answer = inl (rw test (ap (λ n. refused (labels_full n)) full, shelf_same (labels_of after) (take fits_in all) before.operations before.operations shown pair shut cut refl));
          fits = fits_with (labels_of after) before.operations refl (no_operation (enters_none (refused (labels_full (length (labels_of after)))) e refl)) facts.1 facts.0;
        }

    -- all the labels fit, and are there
    fits_all : LeavesFirst settings (labels_of before) doc reply (labels_of after) → IsTrue (is_resolved reply) → (labels_of after ≡ all) × (nat_lt fits_in (length all) ≡ false)
    fits_all first is =
        let whole = first.whole is in
        let size = ap length whole in
        let high = first.high in (whole, le-ltb fits_in (length all) (omega arith))

    is_placed : LeavesFirst settings (labels_of before) doc reply (labels_of after) → (at : ℕ) → length (docs (take at (history_of after))) < settings.max_docs → reply ≡ placed at → Answers None
    is_placed first at lt e =
        let labels = fits_all first (subst (λ (q : Reply). IsTrue (is_resolved q)) (sym e) refl) in
        let entered = subst (λ (q : Option (ℕ × Operation)). EntersOperation session q before.operations after.operations) (ap (placed_by session (add doc)) e) enters in
        let between = entered.0 in
        let same = operations_so between entered.1.0 ((session, histories.add doc) ∷ [], sym entered.1.1) in
        let grown : after.operations ≡ before.operations ++ (session, histories.add doc) ∷ [] = entered.1.1 ∙ ap (λ (l : Entries Change). l ++ (session, histories.add doc) ∷ []) (sym same) in
        let place : at ≡ length before.operations = entered.2 ∙ ap length (sym same) in
        let there : docs (take at (history_of after)) ≡ D = first_docs before.operations after.operations (at, 0) begins (omega arith) ∙ all_docs before.operations at (omega arith) in
        let left = ap length there in
        let room_left : nat_le settings.max_docs (length D) ≡ false = lt-leb settings.max_docs (length D) (omega arith) in
        let documents : documents_in after.operations ≡ D ++ doc ∷ [] = ap documents_in grown ∙ one_more before.operations session doc in
        let longer : length after.operations ≡ length before.operations + 1 = ap length grown ∙ length-append before.operations ((session, histories.add doc) ∷ []) in
        let test = labels.1 in
        record {
          told = placed at;
          next = shelf_with (labels_of after) after.operations shown pair shut;
          same = sym e;
          answer = inl (rw (test, room_left) (ap placed place, parts_same (labels_of after) all (documents_in after.operations) (D ++ doc ∷ []) (length after.operations) (length before.operations + 1) shown pair shut labels.0 documents longer));
          fits = fits_with (labels_of after) after.operations refl refl facts.1 facts.0;
        }

    no_documents : LeavesFirst settings (labels_of before) doc reply (labels_of after) → (n : ℕ) → saw ≡ Some n → settings.max_docs ≤ length (docs (take n (history_of after))) → reply ≡ refused (docs_full (length (docs (take n (history_of after))))) → Answers None
    no_documents first n known full e =
        let labels = fits_all first (subst (λ (q : Reply). IsTrue (is_resolved q)) (sym e) refl) in
        let size = length (docs (take n (history_of after))) in
        let none = enters_none (refused (docs_full size)) e refl in
        let low : length before.operations ≤ n = subst (λ (q : Option ℕ). IfSome q (λ n. length before.operations ≤ n)) (ap (stood_by (add doc) saw) e ∙ known) fresh in
        let same = ap length (no_operation none) in
        let count : size ≡ length D = ap length (all_docs after.operations n (omega arith)) ∙ ap (λ (ops : Entries Change). length (documents_in ops)) (sym (no_operation none)) in
        let test = labels.1 in
        let none_left : nat_le settings.max_docs (length D) ≡ true = le-leb settings.max_docs (length D) (omega arith) in
        record {
          told = refused (docs_full size);
          next = shelf_with (labels_of after) before.operations shown pair shut;
          same = sym e;
          answer = inl (rw (test, none_left) (ap (λ k. refused (docs_full k)) count, shelf_same (labels_of after) all before.operations before.operations shown pair shut labels.0 refl));
          fits = fits_with (labels_of after) before.operations refl (no_operation none) facts.1 facts.0;
        }

    lacks_memory : LeavesFirst settings (labels_of before) doc reply (labels_of after) → reply ≡ refused no_memory → Answers None
    lacks_memory first e = record {
      told = refused no_memory;
      next = shelf_with (labels_of after) before.operations shown pair shut;
      same = sym e;
      answer = inr (refl, (length (labels_of after), first.low, first.high, shelf_same (labels_of after) (take (length (labels_of after)) all) before.operations before.operations shown pair shut first.first refl));
      fits = fits_with (labels_of after) before.operations refl (no_operation (enters_none (refused no_memory) e refl)) facts.1 facts.0;
    }

    stays_so : (r : Reply) (o : Option Broken) → reply ≡ r → placed_by session (add doc) r ≡ None → labels_of after ≡ labels_of before → IsAnswer o r S → Answers o
    stays_so r o e none labels answer = record {
      told = r;
      next = S;
      same = sym e;
      answer = answer;
      fits = fits_with (labels_of before) before.operations (sym labels) (no_operation (enters_none r e none)) facts.1 facts.0;
    }

    resolved : LeavesFirst settings (labels_of before) doc reply (labels_of after) → (b : Bool) → knows (labels_of after) doc ≡ b → IsResolved settings (labels_of after) (history_of after) session (histories.add doc) saw b reply → Answers None
    resolved first false e r = no_labels first r.0 e r.1
    resolved first true e r = ⊎_elim (λ p. is_placed first p.0 p.2 p.3) (λ n. no_documents first n.0 n.1 n.3 n.4) r

    added : (o : Option Broken) → AddLeaves settings (labels_of before) doc o reply (labels_of after) → IsAdded settings (labels_of after) (history_of after) session (histories.add doc) saw doc o reply ⊎ (IsTrue true × (reply ≡ refused no_memory)) → Answers o
    added (Some b) leaves right = ⊎_elim
        (λ r. stays_so (refused (broken b)) (Some b) r refl leaves (inl (refl, refl)))
        (λ lacks. stays_so (refused no_memory) (Some b) lacks.1 refl leaves (inr (refl, refl))) right
    added None leaves right = ⊎_elim (resolved leaves (knows (labels_of after) doc) refl) (λ lacks. lacks_memory leaves lacks.1) right

    add_goes : AddLeaves settings (labels_of before) doc (first_broken settings.config doc) reply (labels_of after)
        → IsAdded settings (labels_of after) (history_of after) session (histories.add doc) saw doc (first_broken settings.config doc) reply ⊎ (IsTrue true × (reply ≡ refused no_memory)) → Goes settings (add doc) reply S after
    add_goes leaves right = let a = added (first_broken settings.config doc) leaves right in record { told = a.told; next = a.next; same = a.same; right = a.answer; fits = a.fits }

  -- ---- what enters nothing

  stays : labels_of after ≡ labels_of before → EntersNone session before.operations after.operations → EntersNone session before.pairs after.pairs → EntersNone session before.commits after.commits → Fits after S
  stays l o p c = fits_with (labels_of before) before.operations (sym l) (no_operation o) p c

  -- all operations are counted
  counted : (n : ℕ) → EntersNone session before.operations after.operations → n ≤ length (history_of after) → length before.operations ≤ n → n ≡ length before.operations
  counted n none high low =
      let size = history_size after.operations in
      let same = ap length (no_operation none) in omega arith

  -- ---- refresh

  refresh_goes : (took : Option (ℕ × ℕ)) (saw : Option ℕ) (reply : Reply) → Facts settings before after held session publishes refresh took saw reply → Goes settings refresh reply S after
  refresh_goes took saw reply f = ⊎_elim refreshed_so lacks f.right
    where
      refreshed_so : Counts (history_of after) reply → Goes settings refresh reply S after
      refreshed_so c =
          let low : length before.operations ≤ c.0 = subst (λ (q : Option ℕ). IfSome q (λ n. length before.operations ≤ n)) (ap (stood_by refresh saw) c.2) f.fresh in
          let count = counted c.0 f.operations c.1 low in
          let entered = subst (λ (q : Option ℕ). EntersPair session (length (labels_of before)) (length (labels_of after)) q before.pairs after.pairs) (ap (refreshed_by refresh) c.2) f.pairs in
          let sizes = ap length f.leaves in
          let least = entered.3 in let most = entered.4 in
          let size : entered.1 ≡ length (labels_of before) = omega arith in
          record {
            told = numbered c.0;
            next = shelf_with (labels_of before) before.operations D (length before.operations, length (labels_of before)) shut;
            same = sym c.2;
            right = inl (ap numbered count, refl);
            fits = record {
              pair = (length before.operations, length (labels_of before));
              shut = shut;
              shown = D;
              is = shelf_same (labels_of before) (labels_of after) before.operations after.operations D (length before.operations, length (labels_of before)) shut (sym f.leaves) (no_operation f.operations);
              shows = sym (first_docs before.operations after.operations (length before.operations, 0) begins (omega arith) ∙ all_docs before.operations (length before.operations) (omega arith));
              within = prefix_length before.operations after.operations begins;
              ends = (entered.0, session, entered.2.1 ∙ (λ i. entered.0 ++ (session, (count i, size i)) ∷ []));
              closed_so = still_closed f.commits;
            };
          }

      lacks : IsTrue true × (reply ≡ refused no_memory) → Goes settings refresh reply S after
      lacks l = record {
        told = refused no_memory;
        next = S;
        same = sym l.1;
        right = inr (refl, refl);
        fits = stays f.leaves f.operations (subst (λ (q : Option ℕ). EntersPair session (length (labels_of before)) (length (labels_of after)) q before.pairs after.pairs) (ap (refreshed_by refresh) l.1) f.pairs) f.commits;
      }

  -- ---- the pair that is seen

  -- a pair that was taken is the last one
  is_last : (p : ℕ × ℕ) → IsLastPair after p → EntersNone session before.pairs after.pairs → p ≡ pair
  is_last p last none = same_end after.pairs pair (still_ends none) last.last.0 last.last.1 p last.last.2

  -- ---- a command that looks at the last pair

  module _ (command : Command) (took : Option (ℕ × ℕ)) (saw : Option ℕ) (reply : Reply) (f : Facts settings before after held session (looks None) command took saw reply) where
    -- the reply that is right for the pair is right on the shelf
    look_goes : (IsTrue (takes_memory command) → words_answers.RightReply settings S command (refused no_memory) S)
        → (IsLooked settings (labels_of before) (history_of after) command pair reply → words_answers.RightReply settings S command reply S) → Goes settings command reply S after
    look_goes lacks is_right = record {
      told = reply;
      next = S;
      same = refl;
      right = ⊎_elim (seen took refl) (λ l. subst (λ (q : Reply). words_answers.RightReply settings S command q S) (sym l.1) (lacks l.0)) f.right;
      fits = stays f.leaves f.operations f.pairs f.commits;
    }
      where
        seen : (t : Option (ℕ × ℕ)) → took ≡ t → IsOf (λ pair r. IsLooked settings (labels_of after) (history_of after) command pair r) t None reply → words_answers.RightReply settings S command reply S
        seen None e r = absurd r
        seen (Some p) e r =
            let t = if_some (λ pair. IsLastPair after pair × (refreshed_in (looks None) (report reply) ≡ None)) took p f.taken e in
            let here = subst (λ (q : ℕ × ℕ). IsLooked settings (labels_of after) (history_of after) command q reply) (is_last p t.0 f.pairs) r in
            is_right (subst (λ (l : List (List (List ℕ))). IsLooked settings l (history_of after) command pair reply) f.leaves here)

  search_goes : (s : Search) (took : Option (ℕ × ℕ)) (saw : Option ℕ) (reply : Reply) → Facts settings before after held session (looks None) (search None s) took saw reply → Goes settings (search None s) reply S after
  search_goes s took saw reply f = look_goes (search None s) took saw reply f (λ takes. inr (refl, refl)) (λ is. inl (
    found_so (first_refused settings.config s.asks) refl
        (subst (λ (ds : List Doc). IsFound settings.config s (first_refused settings.config s.asks) pair.0 ds reply) (sym still_shows) is),
    refl,
  ))
    where
      found_so : (o : Option (ℕ × AskFault)) → first_refused settings.config s.asks ≡ o → IsFound settings.config s o pair.0 shown reply → words_answers.IsFound settings.config pair.0 shown s (words_answers.first_refused settings.config s.asks) reply
      found_so (Some r) e is =
          let first : words_answers.first_refused settings.config s.asks ≡ Some (named r) = first_named settings.config (enumerate_from 0 s.asks) ∙ ap (option_map named) e in rw first is
      found_so None e is =
          let first : words_answers.first_refused settings.config s.asks ≡ None = first_named settings.config (enumerate_from 0 s.asks) ∙ ap (option_map named) e in rw first is

  ranges_goes : (c : Counted) (rs : List Range) (took : Option (ℕ × ℕ)) (saw : Option ℕ) (reply : Reply) → Facts settings before after held session (looks None) (ranges None c rs) took saw reply → Goes settings (ranges None c rs) reply S after
  ranges_goes c rs took saw reply f = look_goes (ranges None c rs) took saw reply f (λ takes. inr (refl, refl)) (λ is. inl (is ∙ ap (λ (ds : List Doc). ranged_of pair.0 ds c rs) (sym still_shows), refl))

  sums_goes : (c : Counted) (n : ℕ) (took : Option (ℕ × ℕ)) (saw : Option ℕ) (reply : Reply) → Facts settings before after held session (looks None) (sums None c n) took saw reply → Goes settings (sums None c n) reply S after
  sums_goes c n took saw reply f = look_goes (sums None c n) took saw reply f (λ takes. inr (refl, refl)) (λ is. inl (subst (λ (ds : List Doc). IsSummed pair.0 ds c n reply) (sym still_shows) is, refl))

  document_goes : (at : ℕ) (took : Option (ℕ × ℕ)) (saw : Option ℕ) (reply : Reply) → Facts settings before after held session (looks None) (document None at) took saw reply → Goes settings (document None at) reply S after
  document_goes at took saw reply f = look_goes (document None at) took saw reply f (λ takes. inr (refl, refl)) (λ is. inl (
    shown_so (slice_get shown at)
        (subst (λ (ds : List Doc). IsShown (labels_of before) pair.0 ds at (slice_get ds at) reply) (sym still_shows) is),
    refl,
  ))
    where
      shown_so : (o : Option Doc) → IsShown (labels_of before) pair.0 shown at o reply → words_answers.IsShown S at o reply
      shown_so None is = is
      shown_so (Some doc) is = is

  stats_goes : (took : Option (ℕ × ℕ)) (saw : Option ℕ) (reply : Reply) → Facts settings before after held session (looks None) (stats None) took saw reply → Goes settings (stats None) reply S after
  stats_goes took saw reply f = look_goes (stats None) took saw reply f (λ takes. absurd (both_ways false refl takes)) (λ is. inl (is ∙ (λ i. numbers (record { operations = pair.0; labels = pair.1; documents = length (sym still_shows i) })), refl))

  -- ---- commit

  -- the reply on a shelf that is closed so
  ends_so : (o : Option ℕ) (told : Reply) (next : Shelf) → shut ≡ o → words_answers.IsCommitted S o told next → words_answers.IsCommitted S shut told next
  ends_so o told next e ends = subst (λ (o : Option ℕ). words_answers.IsCommitted S o told next) (sym e) ends

  commit_goes : (took : Option (ℕ × ℕ)) (saw : Option ℕ) (reply : Reply) → Facts settings before after held session persists commit took saw reply → Goes settings commit reply S after
  commit_goes took saw reply f = ⊎_elim answered_so lacks f.right
    where
      fits_so : (now : Option ℕ) → failures after.commits ≡ option_to_list now → Fits after (shelf_with (labels_of before) before.operations shown pair now)
      fits_so now c = record {
        pair = pair;
        shut = now;
        shown = shown;
        is = shelf_same (labels_of before) (labels_of after) before.operations after.operations shown pair now (sym f.leaves) (no_operation f.operations);
        shows = still_shows;
        within = still_within;
        ends = still_ends f.pairs;
        closed_so = c;
      }

      enters : (r : Reply) → reply ≡ r → EntersCommit session (length (labels_of before)) r before.commits after.commits
      enters r e = subst (λ (q : Reply). EntersCommit session (length (labels_of before)) q before.commits after.commits) e f.commits

      -- a point behind those before, none of which has failed
      pointed : (o : Option ℕ) → EntersPoint session o before.commits after.commits → (shut ≡ None) × (failures after.commits ≡ option_to_list o)
      pointed o p =
          let same = commits_so p.0 p.2.0 ((session, p.1) ∷ [], sym p.2.1) in (
            of_none shut (sym closed_so ∙ ap failures same ∙ p.3),
            ap failures p.2.1 ∙ filter_map-append (λ (e : ℕ × CommitPoint). e.1.failed) p.0 ((session, p.1) ∷ []) ∙ (λ i. p.3 i ++ cons_option (p.4 i) []) ∙ list_of o,
          )
        where
          list_of : (o : Option ℕ) → cons_option o [] ≡ option_to_list o
          list_of None = refl
          list_of (Some c) = refl

      durable_so : Counts (history_of after) reply → Goes settings commit reply S after
      durable_so c =
          let low : length before.operations ≤ c.0 = subst (λ (q : Option ℕ). IfSome q (λ n. length before.operations ≤ n)) (ap (stood_by commit saw) c.2) f.fresh in
          let p = pointed None (enters (numbered c.0) c.2).0 in
          let unclosed = p.0 in
          record {
            told = numbered c.0;
            next = S;
            same = sym c.2;
            right = inl (ends_so None (numbered c.0) S unclosed (inl (ap numbered (counted c.0 f.operations c.1 low), refl)));
            fits = fits_so shut (p.1 ∙ ap option_to_list (sym unclosed));
          }

      failed_so : (c : (count : ℕ) × (reply ≡ refused (disk_failed count))) → Goes settings commit reply S after
      failed_so c =
          let p = pointed (Some c.0) (enters (refused (disk_failed c.0)) c.1) in
          let now = shelf_with (labels_of before) before.operations shown pair (Some c.0) in
          record { told = refused (disk_failed c.0); next = now; same = sym c.1; right = inl (ends_so None (refused (disk_failed c.0)) now p.0 (inr (inr (c.0, refl, refl)))); fits = fits_so (Some c.0) p.1 }

      told_so : (c : (count : ℕ) × (reply ≡ refused (closed count))) → Goes settings commit reply S after
      told_so c =
          let p = enters (refused (closed c.0)) c.1 in
          let known = of_one shut c.0 (sym closed_so ∙ ap failures (no_commit p.0) ∙ p.1) in
          record { told = refused (closed c.0); next = S; same = sym c.1; right = inl (ends_so (Some c.0) (refused (closed c.0)) S known (refl, refl)); fits = fits_so shut (p.1 ∙ ap option_to_list (sym known)) }

      spent_so : (c : (number : ℕ) × (2 ^ 63 ≤ number) × (reply ≡ refused (numbers_spent number))) → Goes settings commit reply S after
      spent_so c =
          let p = enters (refused (numbers_spent c.0)) c.2 in
          let unclosed = of_none shut (sym closed_so ∙ ap failures (no_commit p.0) ∙ p.1) in
          record { told = refused (numbers_spent c.0); next = S; same = sym c.2; right = inl (ends_so None (refused (numbers_spent c.0)) S unclosed (inr (inl (c.0, c.1, refl, refl)))); fits = fits_so shut (p.1 ∙ ap option_to_list (sym unclosed)) }

      answered_so : IsCommitted (history_of after) reply → Goes settings commit reply S after
      answered_so c = ⊎_elim durable_so (λ c. ⊎_elim failed_so (λ c. ⊎_elim told_so spent_so c) c) c

      lacks : IsTrue true × (reply ≡ refused no_memory) → Goes settings commit reply S after
      lacks l = record { told = refused no_memory; next = S; same = sym l.1; right = inr (refl, refl); fits = stays f.leaves f.operations f.pairs (enters (refused no_memory) l.1) }

  -- ---- merge

  merge_goes : (took : Option (ℕ × ℕ)) (saw : Option ℕ) (reply : Reply) → Facts settings before after held session merges merge took saw reply → Goes settings merge reply S after
  merge_goes took saw reply f = ⊎_elim merged_so lacks f.right
    where
      merged_so : reply ≡ merged → Goes settings merge reply S after
      merged_so e = record { told = merged; next = S; same = sym e; right = inl (refl, refl); fits = stays f.leaves f.operations f.pairs f.commits }

      lacks : IsTrue true × (reply ≡ refused no_memory) → Goes settings merge reply S after
      lacks l = record { told = refused no_memory; next = S; same = sym l.1; right = inr (refl, refl); fits = stays f.leaves f.operations f.pairs f.commits }

  -- ---- each command

  goes : (c : Command) → names_no_pair c ≡ true → (took : Option (ℕ × ℕ)) (saw : Option ℕ) (reply : Reply) → Facts settings before after held session (effect c) c took saw reply → Goes settings c reply S after
  goes (add doc) none took saw reply f = add_goes doc saw reply (f.commits, f.pairs) f.fresh f.operations f.leaves f.right
  goes refresh none took saw reply f = refresh_goes took saw reply f
  goes (hold name) none took saw reply f = absurd (both_ways false refl none)
  goes (release name) none took saw reply f = absurd (both_ways false refl none)
  goes (search None s) none took saw reply f = search_goes s took saw reply f
  goes (search (Some name) s) none took saw reply f = absurd (both_ways false refl none)
  goes (ranges None c rs) none took saw reply f = ranges_goes c rs took saw reply f
  goes (ranges (Some name) c rs) none took saw reply f = absurd (both_ways false refl none)
  goes (sums None c n) none took saw reply f = sums_goes c n took saw reply f
  goes (sums (Some name) c n) none took saw reply f = absurd (both_ways false refl none)
  goes (document None at) none took saw reply f = document_goes at took saw reply f
  goes (document (Some name) at) none took saw reply f = absurd (both_ways false refl none)
  goes (stats None) none took saw reply f = stats_goes took saw reply f
  goes (stats (Some name)) none took saw reply f = absurd (both_ways false refl none)
  goes commit none took saw reply f = commit_goes took saw reply f
  goes merge none took saw reply f = merge_goes took saw reply f

-- ---- all steps

module _ (settings : Settings) (phases : List (List Order)) (opened : Opened) (ran : List (List Step)) (last : Seen) (session : ℕ) (all : AllRan settings phases opened ran last)
    (one : list_all (is_by session) (steps_of ran) ≡ true) where
  abbrev start : Seen
  start = opened_seen opened

  same_labels : (a b : Seen) → Sees start a → Sees b last → IsTold session a b → a.labels ≡ b.labels
  same_labels a b since until told = nothing_between settings phases opened ran last session all one (λ s. s.labels) (λ a b sees. sees.labels) (λ n a b told. told.labels) a.labels b.labels since.labels told.sees.labels until.labels told.labels

  same_operations : (a : Seen) (ops : Entries Change) → Sees start a → EntersNone session a.operations ops → IsPrefix ops last.operations → a.operations ≡ ops
  same_operations a ops since none until = nothing_between settings phases opened ran last session all one (λ s. s.operations) (λ a b sees. sees.operations) (λ n a b told. told.operations) a.operations ops since.operations none.0 until none.1

  same_pairs : (a : Seen) (ps : Entries (ℕ × ℕ)) → Sees start a → EntersNone session a.pairs ps → IsPrefix ps last.pairs → a.pairs ≡ ps
  same_pairs a ps since none until = nothing_between settings phases opened ran last session all one (λ s. s.pairs) (λ a b sees. sees.pairs) (λ n a b told. told.pairs) a.pairs ps since.pairs none.0 until none.1

  same_commits : (a : Seen) (cs : Entries CommitPoint) → Sees start a → EntersNone session a.commits cs → IsPrefix cs last.commits → a.commits ≡ cs
  same_commits a cs since none until = nothing_between settings phases opened ran last session all one (λ s. s.commits) (λ a b sees. sees.commits) (λ n a b told. told.commits) a.commits cs since.commits none.0 until none.1

  -- who is told of nothing new sees the same
  fits_on : (a b : Seen) (shelf : Shelf) → Sees start a → Sees b last → IsTold session a b → Fits a shelf → Fits b shelf
  fits_on a b shelf since until told fits =
      let labels = same_labels a b since until told in
      let operations = same_operations a b.operations since (told.sees.operations, told.operations) until.operations in
      let pairs = same_pairs a b.pairs since (told.sees.pairs, told.pairs) until.pairs in
      let commits = same_commits a b.commits since (told.sees.commits, told.commits) until.commits in
      record {
        pair = fits.pair;
        shut = fits.shut;
        shown = fits.shown;
        is = fits.is ∙ shelf_same (labels_of a) (labels_of b) a.operations b.operations fits.shown fits.pair fits.shut (ap (λ (l : Entries (List (List ℕ))). [] ∷ map (λ e. e.1) l) labels) operations;
        shows = fits.shows ∙ ap (λ (ops : Entries Change). docs_of (map operation_of ops) fits.pair) operations;
        within = (let size = ap length operations in let l = fits.within in omega arith);
        ends = subst (λ (ps : Entries (ℕ × ℕ)). EndsWith ps fits.pair) pairs fits.ends;
        closed_so = subst (λ (cs : Entries CommitPoint). failures cs ≡ option_to_list fits.shut) commits fits.closed_so;
      }

  -- one step on a shelf of what was seen before it
  step_goes : (held : Held) (x : Step) → In x (steps_of ran) → Sees start x.before → Sees x.after last → IsStep settings held x → names_no_pair x.answered.order.command ≡ true → (shelf : Shelf) → Fits x.before shelf → Goes settings x.answered.order.command x.answered.reply shelf x.after
  step_goes held x there since until step named shelf fits =
      let mine = own settings phases opened ran last session all one x there in
      let facts : Facts settings x.before x.after held session (effect x.answered.order.command) x.answered.order.command x.answered.took x.answered.saw x.answered.reply = record {
        right = subst (λ (n : ℕ). IsRight settings (labels_of x.after) (history_of x.after) held n x.answered.order.command x.answered.took x.answered.saw x.answered.reply ⊎ (IsTrue (takes_memory x.answered.order.command) × (x.answered.reply ≡ refused no_memory))) mine step.right;
        leaves = step_leaves settings phases opened ran last session all one held x there since until step;
        operations = subst (λ (n : ℕ). EntersOperation n (placed_by n x.answered.order.command x.answered.reply) x.before.operations x.after.operations) mine step.operations;
        pairs = subst (λ (n : ℕ). EntersPair n (length (labels_of x.before)) (length (labels_of x.after)) (refreshed_by x.answered.order.command x.answered.reply) x.before.pairs x.after.pairs) mine step.pairs;
        commits = subst (λ (n : ℕ). EntersPoints n (length (labels_of x.before)) x.answered.order.command x.answered.reply x.before.commits x.after.commits) mine step.commits;
        fresh = step.fresh;
        taken = step.took;
      } in
      subst (λ (s : Shelf). Goes settings x.answered.order.command x.answered.reply s x.after) (sym fits.is)
      (goes settings x.before x.after held session
      (λ ops none begins. same_operations x.before ops since none (prefix_trans ops x.after.operations last.operations begins until.operations))
      (λ ps none begins. same_pairs x.before ps since none (prefix_trans ps x.after.pairs last.pairs begins until.pairs))
      (λ cs none begins. same_commits x.before cs since none (prefix_trans cs x.after.commits last.commits begins until.commits))
      step.sees.operations fits.pair fits.shut fits.shown fits.shows fits.within fits.ends fits.closed_so x.answered.order.command named x.answered.took x.answered.saw x.answered.reply facts)

  -- the replies from a shelf on
  record Rest (answered : List Answered) (shelf : Shelf) : Type 0 where
    replies_to : List Reply
    end : Shelf
    right : words_answers.RightReplies settings shelf (orders_of answered) replies_to end
    labels : end.labels ≡ labels_of last
    documents : end.docs ≡ docs (history_of last)
    operations : end.operations ≡ length (history_of last)
    lines : reply_lines answered ≡ words_answers.reply_lines (orders_of answered) replies_to

  serve : (held : Held) (seen : Seen) (xs : List Step) → ((x : Step) → In x xs → In x (steps_of ran)) → SessionRan settings session held seen xs last → Sees start seen
      → NamesNoPair (map (λ (x : Step). x.answered) xs) → (shelf : Shelf) → Fits seen shelf → Rest (map (λ (x : Step). x.answered) xs) shelf
  serve held seen [] among goes_on since none shelf fits =
      let at_end = fits_on seen last shelf since (sees_self last) goes_on fits in
      record { replies_to = []; end = shelf; right = refl; labels = ap (λ (s : Shelf). s.labels) at_end.is; documents = ap (λ (s : Shelf). s.docs) at_end.is; operations = ap (λ (s : Shelf). s.operations) at_end.is ∙ sym (history_size last.operations); lines = refl }
  serve held seen (x ∷ xs) among goes_on since none shelf fits =
      let step = goes_on.1 in
      let until = sees_last settings session (held_after held x.answered) x.after xs last goes_on.2 in
      let from = sees_trans start seen x.before since goes_on.0.sees in
      let to_last = sees_trans x.before x.after last step.sees until in
      let parts = and_parts (names_no_pair x.answered.order.command) (list_all (λ (o : Order). names_no_pair o.command) (orders_of (map (λ (x : Step). x.answered) xs))) none in
      let first = step_goes held x (among x (inl refl)) from until step parts.0 shelf (fits_on seen x.before shelf since to_last goes_on.0 fits) in
      let rest = serve (held_after held x.answered) x.after xs (λ y later. among y (inr later)) goes_on.2 (sees_trans start x.before x.after from step.sees) parts.1 first.next first.fits in
      record {
        replies_to = first.told ∷ rest.replies_to;
        end = rest.end;
        right = (first.next, first.right, rest.right);
        labels = rest.labels;
        documents = rest.documents;
        operations = rest.operations;
        lines = λ i. reply_line x.answered.order.session x.answered.order.line (sym first.same i) ++ rest.lines i;
      }

  opened_entries : (ds : List Doc) → map operation_of (map (λ doc. (0, histories.add doc)) ds) ≡ histories.opened ds
  opened_entries [] = refl
  opened_entries (d ∷ ds) = ap (λ (l : List Operation). record { session = 0; change = histories.add d } ∷ l) (opened_entries ds)

  opened_documents : (ds : List Doc) → documents_in (map (λ doc. (0, histories.add doc)) ds) ≡ ds
  opened_documents ds = ap docs (opened_entries ds) ∙ docs_opened ds

  served : NamesNoPair (map (λ (x : Step). x.answered) (steps_of ran)) → Served settings opened (map (λ (x : Step). x.answered) (steps_of ran)) last
  served none =
      let whole : own_steps session (steps_of ran) ≡ steps_of ran = filter_all (is_by session) (steps_of ran) one in
      let goes_on : SessionRan settings session [] start (steps_of ran) last = subst (λ (xs : List Step). SessionRan settings session [] start xs last) whole (all.sessions session) in
      let size : length start.operations ≡ length opened.docs = length-map opened.docs (λ doc. (0, histories.add doc)) in
      let fits : Fits start (words_answers.opened_shelf opened.labels opened.docs) = record {
        pair = (length opened.docs, length opened.labels);
        shut = None;
        shown = opened.docs;
        is = parts_same opened.labels (labels_of start) opened.docs (documents_in start.operations) (length opened.docs) (length start.operations) opened.docs (length opened.docs, length opened.labels) None
            (sym (opened_first settings phases opened ran last all)) (sym (opened_documents opened.docs)) (sym size);
        shows = sym (all_docs start.operations (length opened.docs) (omega arith) ∙ opened_documents opened.docs);
        within = omega arith;
        ends = ([], 0, refl);
        closed_so = refl;
      } in
      let r = serve [] start (steps_of ran) (λ x there. there) goes_on (sees_self start) none (words_answers.opened_shelf opened.labels opened.docs) fits in
      record { replies = r.replies_to; shelf = r.end; right = r.right; labels = r.labels; docs = r.documents; operations = r.operations; lines = r.lines }

pub one_session_is_served : OneSessionIsServed
one_session_is_served settings phases opened ran last session all one none = served settings phases opened ran last session all one none
