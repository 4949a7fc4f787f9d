-- Which replies to a session that runs alone are right, and which lines they are.
use Rattle.std.specs.Prelude.{◌≡◌, ◌≤◌, ◌+◌, ◌⊎◌, ◌^◌, ℕ, zero, suc, max, nat_le, nat_lt, if◌then◌else◌, Bool, true}
use Rattle.std.specs.Prelude.{false, List, [], ◌∷◌, ◌++◌, length, take, map, filter, filter_map, flat_map, fold}
use Rattle.std.specs.Prelude.{reverse, slice_get, Option, Some, None, is_none, option_map}
use Rattle.std.specs.List.{AllZip, enumerate_from}
use Rattle.std.specs.Prelude.{drop}
use Rattle.facet_names.specs.Labels.{with_label, prefixes, place}
use Rattle.facet_model.specs.Flags.{Config}
use Rattle.facet_model.specs.Documents.{Doc}
use Rattle.facet_model.specs.Accepts.{Broken, first_broken}
use Rattle.facet_model.specs.Asks.{Asked, AskFault, top_of_none, value_not_kept, ask_fault}
use Rattle.facet_model.specs.Results.{Answer, IsAnswer}
use Rattle.facet_model.specs.Hits.{hits, is_hit, docs_for}
use Rattle.number_facets.specs.Values.{Range, PartSum, range_count, valued, IsSums}
use Rattle.facet_words.specs.Commands.{Settings, Search, Counted, Command, add, refresh, hold, release, search, ranges}
use Rattle.facet_words.specs.Commands.{sums, document, stats, commit, merge, Order}
use Rattle.facet_replies.specs.Replies.{Content, Hit}
use Rattle.facet_replies.specs.Replies.{Refusal, broken, labels_full, docs_full, top_zero, dim_value_not_kept}
use Rattle.facet_replies.specs.Replies.{no_such_document, disk_failed, closed, numbers_spent, no_memory, Reply, placed}
use Rattle.facet_replies.specs.Replies.{numbered, found, shown, stats as numbers, ranged, summed, merged, refused}
use Rattle.facet_replies.specs.ReplyLines.{reply_line}

-- what a session works on: the labels with the root, the documents, and how many operations made them; the documents
-- that the last refresh took, how many operations had made these, and how many labels it took; and the disk's count of
-- faults at which a commit failed, after which none is made
pub record Shelf : Type 0 where
  pub labels : List (List (List ℕ))
  pub docs : List Doc
  pub operations : ℕ
  pub seen : List Doc
  pub taken : ℕ
  pub taken_labels : ℕ
  pub closed : Option ℕ

-- what was opened, all of which searches see
abbrev pub opened_shelf : List (List (List ℕ)) → List Doc → Shelf
opened_shelf labels docs = record {
  labels = labels;
  docs = docs;
  operations = length docs;
  seen = docs;
  taken = length docs;
  taken_labels = length labels;
  closed = None;
}

-- ---- add

-- the labels, and at their end each prefix of a label of the document that is missing, facet by facet, the dimension
-- first
abbrev pub with_labels : List (List (List ℕ)) → Doc → List (List (List ℕ))
with_labels labels doc = fold with_label labels (flat_map prefixes doc.labels)

-- how many labels there may be: never fewer than there are
abbrev pub room : Settings → Shelf → ℕ
room settings shelf = max settings.max_labels (length shelf.labels)

-- The reply to an add, and what it leaves. The labels that were added before it was refused stay.
abbrev pub added : Settings → Shelf → Doc → Option Broken → Reply × Shelf
added settings shelf doc (Some b) = (refused (broken b), shelf)
added settings shelf doc None =
    let all = with_labels shelf.labels doc in
    if nat_lt (room settings shelf) (length all)
    then (refused (labels_full (room settings shelf)), record shelf { labels = take (room settings shelf) all })
    else (if nat_le settings.max_docs (length shelf.docs)
    then (refused (docs_full (length shelf.docs)), record shelf { labels = all })
    else (
      placed shelf.operations,
      record shelf
          { labels = all; docs = shelf.docs ++ doc ∷ []; operations = shelf.operations + 1 },
    ))

-- without memory an add leaves the first of the labels that it would have left
abbrev pub LeavesSome : Settings → Shelf → Doc → Option Broken → Shelf → Type 0
LeavesSome settings shelf doc (Some b) next = next ≡ shelf
LeavesSome settings shelf doc None next = (k : ℕ) × (length shelf.labels ≤ k) × (k ≤ room settings shelf)
    × (next ≡ record shelf { labels = take k (with_labels shelf.labels doc) })

-- ---- search

-- the documents that a search hits
abbrev pub hits_of : List Doc → Search → List Doc
hits_of docs s = hits docs s.query s.drill

-- what is shown of a document
abbrev pub content_of : Doc → Content
content_of doc = record { text = doc.text; labels = doc.labels }

-- the document at a place as a hit, with or without its content
abbrev pub hit_of : Bool → ℕ × Doc → Hit
hit_of show e = record { at = e.0; id = e.1.id; content = if show then Some (content_of e.1) else None }

-- in order, or from the last one on
abbrev pub in_order : {A : Type 0} → Bool → List A → List A
in_order newest xs = if newest then reverse xs else xs

-- the hits that a search lists: so many after those that it passes
abbrev pub first_hits : List Doc → Search → List Hit
first_hits docs s = take s.hits
    (drop s.from (in_order s.newest
    (map (hit_of s.show) (filter (λ e. is_hit s.query s.drill e.1) (enumerate_from 0 docs)))))

-- A search that passes no hit lists the first ones, and without further keys their places and ids alone.
abbrev pub PlainPages : Type 0
PlainPages = (docs : List Doc) (s : Search) → 0 ≡ s.from → false ≡ s.newest → false ≡ s.show → first_hits docs s
    ≡ take s.hits (map (λ e. record { at = e.0; id = e.1.id; content = None })
    (filter (λ e. is_hit s.query s.drill e.1) (enumerate_from 0 docs)))

-- why the ask at a place is refused
abbrev pub ask_refusal : ℕ → AskFault → Refusal
ask_refusal at top_of_none = top_zero at
ask_refusal at value_not_kept = dim_value_not_kept at

-- the first ask that is refused
abbrev pub first_refused : Config → List Asked → Option Refusal
first_refused config asks = slice_get
    (filter_map (λ e. option_map (ask_refusal e.0) (ask_fault config e.1)) (enumerate_from 0 asks)) 0

-- The reply to a search over these documents, which so many operations made.
abbrev pub IsFound : Config → ℕ → List Doc → Search → Option Refusal → Reply → Type 0
IsFound config operations docs s (Some r) reply = reply ≡ refused r
IsFound config operations docs s None reply =
    (answers : List Answer) × AllZip (IsAnswer config docs (docs_for s.sideways docs s.query s.drill)) s.asks answers
    × (reply ≡ found (record {
      operations = operations;
      hit_count = length (hits_of docs s);
      hits = first_hits docs s;
      answers = answers;
    }))

-- ---- ranges and sums

-- the documents whose numbers are counted or added up
abbrev pub counted_docs : List Doc → Counted → List Doc
counted_docs docs c = hits docs c.query c.drill

-- The reply to ranges over these documents, which so many operations made: in the order given, each range's name with
-- the number of documents that have a number in it.
abbrev pub ranged_of : ℕ → List Doc → Counted → List Range → Reply
ranged_of operations docs c rs = ranged (record {
  operations = operations;
  counts = map (λ r. (r.name, range_count (counted_docs docs c) c.dim r)) rs;
  valued = valued (counted_docs docs c) c.dim;
})

-- The reply to sums over these documents, of so many components at most.
abbrev pub IsSummed : ℕ → List Doc → Counted → ℕ → Reply → Type 0
IsSummed operations docs c zero reply = reply ≡ refused (top_zero 0)
IsSummed operations docs c (suc n) reply = (shown : List PartSum) × IsSums (counted_docs docs c) c.dim (suc n) shown
    × (reply ≡ summed (record { operations = operations; sums = shown }))

-- ---- document

-- The reply that shows the document at a place, with the ordinals of its labels; or, if the place has none, how many
-- documents there are.
abbrev pub IsShown : Shelf → ℕ → Option Doc → Reply → Type 0
IsShown shelf at None reply = reply ≡ refused (no_such_document (length shelf.seen))
IsShown shelf at (Some doc) reply = (ordinals : List ℕ) × (map (place shelf.labels) doc.labels ≡ map Some ordinals)
    × (reply ≡ shown (record { operations = shelf.taken; at = at; doc = doc; ordinals = ordinals }))

-- ---- stats

-- what the last refresh took
abbrev pub numbers_of : Shelf → Reply
numbers_of shelf = numbers (record
    { operations = shelf.taken; labels = shelf.taken_labels; documents = length shelf.seen })

-- ---- commit

-- acknowledged with the number of all operations
abbrev pub IsDurable : Shelf → Reply → Shelf → Type 0
IsDurable shelf reply next = (reply ≡ numbered shelf.operations) × (next ≡ shelf)

-- the last file number would be this one, which is 2^63 or more
abbrev pub IsSpent : Shelf → Reply → Shelf → Type 0
IsSpent shelf reply next = (number : ℕ) × (2 ^ 63 ≤ number) × (reply ≡ refused (numbers_spent number)) × (next ≡ shelf)

-- the disk failed, at this count, and no later commit is made
abbrev pub IsFailed : Shelf → Reply → Shelf → Type 0
IsFailed shelf reply next = (count : ℕ) × (reply ≡ refused (disk_failed count))
    × (next ≡ record shelf { closed = Some count })

-- The reply to a commit and what it leaves, given the count at which an earlier one failed.
abbrev pub IsCommitted : Shelf → Option ℕ → Reply → Shelf → Type 0
IsCommitted shelf (Some count) reply next = (reply ≡ refused (closed count)) × (next ≡ shelf)
IsCommitted shelf None reply next = IsDurable shelf reply next ⊎ IsSpent shelf reply next ⊎ IsFailed shelf reply next

-- ---- each command

-- a command that names no held pair
abbrev pub names_no_pair : Command → Bool
names_no_pair (hold name) = false
names_no_pair (release name) = false
names_no_pair (search on s) = is_none on
names_no_pair (ranges on c rs) = is_none on
names_no_pair (sums on c n) = is_none on
names_no_pair (document on at) = is_none on
names_no_pair (stats on) = is_none on
names_no_pair _ = true

-- The reply is right, and leaves the next shelf. A shelf has no held pairs, so no reply to a command that names one is
-- right.
abbrev pub IsRight : Settings → Shelf → Command → Reply → Shelf → Type 0
IsRight settings shelf (add doc) reply next =
    let r = added settings shelf doc (first_broken settings.config doc) in (reply ≡ r.0) × (next ≡ r.1)
IsRight settings shelf refresh reply next =
    (reply ≡ numbered shelf.operations)
    × (next ≡ record shelf { seen = shelf.docs; taken = shelf.operations; taken_labels = length shelf.labels })
IsRight settings shelf (search None s) reply next =
    IsFound settings.config shelf.taken shelf.seen s (first_refused settings.config s.asks) reply × (next ≡ shelf)
IsRight settings shelf (ranges None c rs) reply next =
    (reply ≡ ranged_of shelf.taken shelf.seen c rs) × (next ≡ shelf)
IsRight settings shelf (sums None c n) reply next =
    IsSummed shelf.taken shelf.seen c n reply × (next ≡ shelf)
IsRight settings shelf (document None at) reply next =
    IsShown shelf at (slice_get shelf.seen at) reply × (next ≡ shelf)
IsRight settings shelf (stats None) reply next = (reply ≡ numbers_of shelf) × (next ≡ shelf)
IsRight settings shelf commit reply next = IsCommitted shelf shelf.closed reply next
IsRight settings shelf merge reply next = (reply ≡ merged) × (next ≡ shelf)
IsRight settings shelf _ reply next = ⊥

-- what a command leaves that found no memory; stats takes none
abbrev pub IsLeft : Settings → Shelf → Command → Shelf → Type 0
IsLeft settings shelf (add doc) next = LeavesSome settings shelf doc (first_broken settings.config doc) next
IsLeft settings shelf refresh next = next ≡ shelf
IsLeft settings shelf (search None s) next = next ≡ shelf
IsLeft settings shelf (ranges None c rs) next = next ≡ shelf
IsLeft settings shelf (sums None c n) next = next ≡ shelf
IsLeft settings shelf (document None at) next = next ≡ shelf
IsLeft settings shelf commit next = next ≡ shelf
IsLeft settings shelf merge next = next ≡ shelf
IsLeft settings shelf _ next = ⊥

-- it is right, or there was no memory
abbrev pub RightReply : Settings → Shelf → Command → Reply → Shelf → Type 0
RightReply settings shelf command reply next =
    IsRight settings shelf command reply next ⊎ ((reply ≡ refused no_memory) × IsLeft settings shelf command next)

-- ---- a run

-- one reply for each order, each right where the ones before have left the shelf; what the last one leaves
abbrev pub RightReplies : Settings → Shelf → List Order → List Reply → Shelf → Type 0
RightReplies settings shelf [] [] last = last ≡ shelf
RightReplies settings shelf [] (r ∷ rs) last = ⊥
RightReplies settings shelf (o ∷ os) [] last = ⊥
RightReplies settings shelf (o ∷ os) (r ∷ rs) last =
    (next : Shelf) × RightReply settings shelf o.command r next × RightReplies settings next os rs last

-- the lines of the replies to these orders, in their order
abbrev pub reply_lines : List Order → List Reply → List ℕ
reply_lines [] rs = []
reply_lines (o ∷ os) [] = []
reply_lines (o ∷ os) (r ∷ rs) = reply_line o.session o.line r ++ reply_lines os rs
