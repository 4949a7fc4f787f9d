-- An add is a step.
use Rattle.std.proofs.Common.{◌≡◌, ◌∙◌, inl, inr, eqb, ◌<◌, ◌≤◌, ℕ, Bool, true, false, List, [], ◌∷◌, ◌++◌, length, map, slice_get, Option, Some, None, Result, Ok, Err, refl, sym, ap, subst, arith}
use Rattle.std.specs.Prelude.{All, Contains, IfSome, flat_map, is_none, take}
use Rattle.std.specs.List.{list_all}
use Rattle.std.proofs.lemmas.Bool.{and_from, both_ways}
use Rattle.std.proofs.lemmas.List.{length-map, map_push}
use Rattle.std.proofs.lemmas.List.Elements.{All-contains, All-push, filter-append}
use Rattle.std.proofs.lemmas.List.Sums.{AllPass-from_list_all}
use mathlib.Core.List.{IsPrefix}
use Rattle.chronicle.specs.Frame.{Frame}
use Rattle.chronicle.specs.History.{entries, own_of}
use Rattle.chronicle.specs.Shown.{mine, SeesOn, EntersBehind}
use Rattle.chronicle.proofs.Prefixes.{prefix_length, prefix_trans}
use Rattle.facet_config.specs.Faults.{fault_view}
use Rattle.facet_config.specs.declared.fault.DocFault.{DocFault}
use Rattle.facet_model.specs.Accepts.{Broken, first_broken}
use Rattle.facet_model.specs.Documents.{Doc}
use Rattle.facet_model.specs.Histories as histories
use Rattle.facet_model.specs.Histories.{Change, Operation, left_by, docs, knows}
use Rattle.facet_names.specs.Labels.{prefixes, stands}
use Rattle.facet_names.proofs.LabelLists.{Labels}
use Rattle.facet_output.specs.Held.{Held}
use Rattle.facet_output.specs.Replies.{Reply, placed, refused, broken, docs_full}
use Rattle.facet_output.specs.Replying.{RightReply, HasNoRoom as NoRoom, IsAdded, IsResolved}
use Rattle.facet_output.specs.Seen.{EntersNone, EachNew, EntersBehind as Behind, history_of}
use Rattle.facet_output.specs.Steps.{IsStep, IsEntered, EntersOperation}
use Rattle.facet_output.specs.Reported.{placed_by, stood_by}
use Rattle.facet_output.proofs.Fronts.{get_last}
use Rattle.facet_output.proofs.TwoRan.{no_new}
use Rattle.facet_words.specs.Commands.{Settings, add}
use Rattle.pair_manager.specs.declared.pass.Pass.{Pass}
use Rattle.pair_manager.specs.Passes.{SamePass}
use Rattle.taxo_cache.specs.Seen.{labels_of}
use Rattle.taxo_list.specs.declared.fault.TaxoFault.TheVariants.{LabelsFull as ListFull}
use Rattle.taxo_adding.specs.Several.{AddsInTurn}
use Rattle.pair_manager.specs.Appended.{HasNoRoom, IsPlaced}
use Rattle.facet_adding.specs.Adding.{HasTried}
use Rattle.facet_engine.specs.Replies.{add_reply}
use Rattle.facet_engine.specs.Sessions.{HaveOneNumber, NamesSession}
use Rattle.facet_engine.specs.Steps.{seen_of, operations_seen, added}
use Rattle.facet_adding.specs.declared.adding.AddFault.{AddFault}
use Rattle.facet_adding.specs.declared.adding.AddFault.TheVariants as adds
use Rattle.pair_manager.proofs.Appended.{only_one}
use Rattle.facet_engine.proofs.Committed.{one_own}
use Rattle.facet_engine.proofs.Plain.{plain, docs_front, docs_all}
use Rattle.facet_engine.proofs.Refreshed.{many_operations, many_in_history}
use Rattle.facet_engine.proofs.SeenPairs.{still_named}
use Rattle.facet_engine.proofs.Seeing.{enters_behind, told, told_behind, labels_none, operations_none, pairs_none, commits_none}
use Rattle.facet_adding.proofs.Tried.{same_sees_on}

-- ---- labels that are lacking

-- where a prefix of one of the document's labels is lacking, the labels do not know it
lacks_one : (labels : Labels) (doc : Doc) (path : List (List ℕ)) → Contains doc.labels path → list_all (stands labels) (prefixes path) ≡ false → knows labels doc ≡ false
lacks_one labels doc path within lacks = by (knows labels doc) refl
  where
    has_all : List (List ℕ) → Bool
    has_all p = list_all (stands labels) (prefixes p)

    by : (b : Bool) → knows labels doc ≡ b → knows labels doc ≡ false
    by false e = e
    by true e = absurd (both_ways (has_all path) lacks (All-contains (λ p. has_all p ≡ true) doc.labels path (AllPass-from_list_all has_all doc.labels e) within))

-- ---- what the token of the operations has entered

-- it entered one operation of the session
pub named_more : (number : ℕ) (change : Change) (old new : Pass) → SamePass old new → NamesSession number old → EntersBehind (record { session = number; change = change }) old.operations new.operations → NamesSession number new
named_more number change old new same all e =
    let n = old.operations.number in
    let op : Operation = record { session = number; change = change } in
    let is : old.operations.is_note ≡ false = old.operations_rest.0 in
    let between : mine old.operations ≡ own_of false n e.between = sym e.none ∙ (λ i. own_of (is i) n e.between) in
    let more : mine new.operations ≡ mine old.operations ++ (n, op) ∷ [] =
    (λ i. own_of ((same.operations.2 ∙ is) i) (same.operations.0 i) (e.seen i)) ∙ filter-append (λ (x : ℕ × Operation). eqb x.0 n) e.between ((n, op) ∷ []) ∙ (λ i. sym between i ++ one_own n op i) in
    subst (All (λ (x : ℕ × Operation). x.1.session ≡ number)) (sym more) (All-push (λ (x : ℕ × Operation). x.1.session ≡ number) (mine old.operations) (n, op) all refl)

-- each operation that it has entered has the session's number after a change that adds a document
pub named : (number limit : ℕ) (change : Change) (doc : Doc) (old new : Pass) → SamePass old new → NamesSession number old → (result : Result ℕ AddFault) → HasTried limit number change doc old new result → NamesSession number new
named number limit change doc old new same all (Ok at) tried = named_more number change old new same all tried.1.enters
named number limit change doc old new same all (Err (adds.Broken fault)) tried = absurd tried
named number limit change doc old new same all (Err (adds.LabelsFull size)) tried = still_named number old new tried.0.1 all
named number limit change doc old new same all (Err (adds.DocsFull count)) tried = still_named number old new tried.0.1 all
named number limit change doc old new same all (Err adds.NoMemory) tried = still_named number old new tried.1 all

-- and what it had seen begins what it has seen
pub begins_on : (limit session : ℕ) (change : Change) (doc : Doc) (old new : Pass) (result : Result ℕ AddFault) → HasTried limit session change doc old new result → IsPrefix old.operations.seen new.operations.seen
begins_on limit session change doc old new (Ok at) tried = prefix_trans old.operations.seen tried.1.enters.between new.operations.seen tried.1.enters.on (_, sym tried.1.enters.seen)
begins_on limit session change doc old new (Err (adds.Broken fault)) tried = absurd tried
begins_on limit session change doc old new (Err (adds.LabelsFull size)) tried = tried.0.0
begins_on limit session change doc old new (Err (adds.DocsFull count)) tried = tried.0.0
begins_on limit session change doc old new (Err adds.NoMemory) tried = tried.0

-- ---- the step

module _ (settings : Settings) (held : Held) (phase line number : ℕ) (old new : Pass) (have : HaveOneNumber number old) (same : SamePass old new) (pairs : new.pairs ≡ old.pairs) (commits : new.commits ≡ old.commits) (doc : Doc) where
  abbrev n : ℕ
  n = old.labels.number

  abbrev change : Change
  change = histories.add doc

  no_pairs : EntersNone n (seen_of old).pairs (seen_of new).pairs
  no_pairs = pairs_none number old new have same (same_sees_on old.pairs new.pairs pairs)

  no_commits : EntersNone n (seen_of old).commits (seen_of new).commits
  no_commits = commits_none number old new have same (same_sees_on old.commits new.commits commits)

  -- a document that the config does not accept is refused
  pub broken_step : SeesOn old.labels new.labels → SeesOn old.operations new.operations → (fault : DocFault) → first_broken settings.config doc ≡ Some (fault_view fault)
      → IsStep settings held (added doc old new (Err (adds.Broken fault)) phase line)
  broken_step labels operations fault breaks =
      let no_labels = labels_none number old new have same labels in
      let no_operations = operations_none number old new have same operations in
      record {
        sees = record { labels = no_labels.0; operations = no_operations.0; pairs = no_pairs.0; commits = no_commits.0 };
        right = inl (subst (λ (o : Option Broken). IsAdded settings (labels_of new.labels.seen) (history_of (seen_of new)) n change None doc o (refused (broken (fault_view fault)))) (sym breaks) refl);
        labels = no_new n _ old.labels.seen new.labels.seen no_labels;
        operations = no_operations;
        pairs = no_pairs;
        commits = no_commits;
        fresh = tt;
        took = tt;
        place = refl;
      }

  module _ (limit : ℕ) (is_limit : settings.max_labels ≡ limit) (accepted : first_broken settings.config doc ≡ None) (is_most : old.operations.frame.numbers ≡ settings.max_docs ∷ []) (more : IsPrefix old.labels.seen new.labels.seen)
      (in_turn : AddsInTurn (flat_map prefixes doc.labels) limit old.labels new.labels) where
    new_labels : EachNew n (IsEntered settings (add doc) (labels_of new.labels.seen)) old.labels.seen new.labels.seen
    new_labels i path low at =
        let t = in_turn i path low at in
        (and_from (is_none (first_broken settings.config doc)) (stands (flat_map prefixes doc.labels) path) (ap is_none accepted) t.0, omega (arith, t.1, is_limit), t.2)

    -- a reply of an accepted document is right
    of_accepted : (saw : Option ℕ) (reply : Reply) → IsResolved settings (labels_of new.labels.seen) (history_of (seen_of new)) n change saw (knows (labels_of new.labels.seen) doc) reply
        → IsAdded settings (labels_of new.labels.seen) (history_of (seen_of new)) n change saw doc (first_broken settings.config doc) reply
    of_accepted saw reply right = subst (λ (o : Option Broken). IsAdded settings (labels_of new.labels.seen) (history_of (seen_of new)) n change saw doc o reply) (sym accepted) right

    of_known : (saw : Option ℕ) (b : Bool) (reply : Reply) → knows (labels_of new.labels.seen) doc ≡ b → IsResolved settings (labels_of new.labels.seen) (history_of (seen_of new)) n change saw b reply
        → IsAdded settings (labels_of new.labels.seen) (history_of (seen_of new)) n change saw doc (first_broken settings.config doc) reply
    of_known saw b reply is right = of_accepted saw reply (subst (λ (k : Bool). IsResolved settings (labels_of new.labels.seen) (history_of (seen_of new)) n change saw k reply) (sym is) right)

    one_step : (result : Result ℕ AddFault) → IsPrefix (seen_of old).operations (seen_of new).operations → RightReply settings (labels_of new.labels.seen) (history_of (seen_of new)) held (added doc old new result phase line).answered
        → EntersOperation n (placed_by n (add doc) (add_reply result)) (seen_of old).operations (seen_of new).operations → IfSome (stood_by (add doc) (operations_seen new result) (add_reply result)) (λ k. length (seen_of old).operations ≤ k)
        → IsStep settings held (added doc old new result phase line)
    one_step result begins right operations fresh = record {
      sees = record { labels = more; operations = begins; pairs = no_pairs.0; commits = no_commits.0 };
      right = right;
      labels = new_labels;
      operations = operations;
      pairs = no_pairs;
      commits = no_commits;
      fresh = fresh;
      took = tt;
      place = refl;
    }

    none_entered : SeesOn old.operations new.operations → EntersNone n (seen_of old).operations (seen_of new).operations
    none_entered on = operations_none number old new have same on

    -- the document was placed
    placed_step : (session at : ℕ) → knows (labels_of new.labels.seen) doc ≡ true → IsPlaced at (record { session = session; change = change }) old.operations new.operations → IsStep settings held (added doc old new (Ok at) phase line)
    placed_step session at known is =
        let op : Operation = record { session = session; change = change } in
        let change_of : Operation → Change = λ o. o.change in
        let between = told change_of is.enters.between in
        let entry : ℕ × Change → Operation = λ e. record { session = e.0; change = e.1 } in
        let behind : Behind n change (seen_of old).operations between (seen_of new).operations =
        told_behind change_of n op old.operations.seen is.enters.between new.operations.seen (enters_behind op old.operations new.operations n old.operations_rest.0 (have.1 ∙ sym have.0) is.enters) in
        let place : at ≡ length between = is.place ∙ sym (many_operations is.enters.between) in
        let before = map entry between in
        let size : at ≡ length before = place ∙ sym (length-map between entry) in
        let there : slice_get (history_of (seen_of new)) at ≡ Some (record { session = n; change = change }) =
        (λ i. slice_get ((ap (map entry) behind.1 ∙ map_push entry between (n, change)) i) (size i)) ∙ get_last before (record { session = n; change = change }) in
        let left : List Doc → ℕ = λ ds. length (left_by change ds) in
        let room : left (docs (take at (history_of (seen_of new)))) < settings.max_docs =
        subst (λ (ds : List Doc). left ds < settings.max_docs) (sym ((λ i. docs (take (is.place i) (plain (is.enters.seen i)))) ∙ docs_front is.enters.between ((old.operations.number, op) ∷ [])))
        (only_one (λ most. left (docs (entries is.enters.between)) < most) old.operations.frame.numbers settings.max_docs is_most is.room) in
        one_step (Ok at) (prefix_trans (seen_of old).operations between (seen_of new).operations behind.0.0 (_, sym behind.1))
        (inl (of_known None true (placed at) known (inl (at, there, room, refl))))
        (between, behind, place)
        (omega (arith, place, prefix_length (seen_of old).operations between behind.0.0))

    -- there was no room for it
    no_room : (count : ℕ) → HasNoRoom change count new.operations → NoRoom settings (history_of (seen_of new)) change (Some (length new.operations.seen)) (refused (docs_full count))
    no_room count room =
        let many : ℕ = length new.operations.seen in
        let size : count ≡ length (left_by change (docs (take many (history_of (seen_of new))))) = room.size ∙ ap (λ (ds : List Doc). length (left_by change ds)) (sym (docs_all new.operations.seen)) in
        let most : settings.max_docs ≤ count = only_one (λ m. m ≤ count) new.operations.frame.numbers settings.max_docs (ap (λ (f : Frame). f.numbers) same.operations.4 ∙ is_most) room.full in
        (many, refl, omega (arith, many_in_history new), subst (λ (k : ℕ). settings.max_docs ≤ k) size most, ap (λ k. refused (docs_full k)) size)

    -- what was tried is a step
    pub tried_step : (session : ℕ) (result : Result ℕ AddFault) → HasTried limit session change doc old new result → IsStep settings held (added doc old new result phase line)
    tried_step session (Ok at) tried = placed_step session at tried.0 tried.1
    tried_step session (Err (adds.Broken fault)) tried = absurd tried
    tried_step session (Err (adds.LabelsFull size)) tried =
        let no_operations = none_entered tried.0 in
        let full = tried.1 in
        let known = labels_of new.labels.seen in
        let is_size : size ≡ length known = let e : ListFull size ≡ ListFull (length known) = full.2.size in cc in
        one_step (Err (adds.LabelsFull size)) no_operations.0
        (inl (of_known None false (add_reply (Err (adds.LabelsFull size))) (lacks_one known doc full.0 full.1 full.2.lacks) (omega (arith, is_limit, full.2.full), ap (λ k. add_reply (Err (adds.LabelsFull k))) is_size)))
        no_operations tt
    tried_step session (Err (adds.DocsFull count)) tried =
        let no_operations = none_entered tried.0 in
        one_step (Err (adds.DocsFull count)) no_operations.0
        (inl (of_known (Some (length new.operations.seen)) true (add_reply (Err (adds.DocsFull count))) tried.1 (inr (no_room count tried.2))))
        no_operations
        (omega (arith, many_operations old.operations.seen, prefix_length old.operations.seen new.operations.seen tried.0.0))
    tried_step session (Err adds.NoMemory) tried =
        let no_operations = none_entered tried in
        one_step (Err adds.NoMemory) no_operations.0 (inr (refl, refl)) no_operations tt
