-- The histories that an index represents, and the labels that it has noted of them.
use Rattle.std.proofs.Common.{◌≡◌, ℕ, ◌+◌, Bool, true, false, if◌then◌else◌, List, [], ◌∷◌, ◌++◌, length, map, replicate, refl, sym, ap, subst, ◌∙◌, append_assoc}
use Rattle.std.specs.Prelude.{fold, ◌&&◌}
use Rattle.std.specs.List.{list_all, AllZip}
use Rattle.std.proofs.lemmas.Bool.{and_parts, and_from}
use Rattle.std.proofs.lemmas.List.{append-nil, map-append}
use Rattle.std.proofs.lemmas.List.Elements.{filter_map-append}
use Rattle.std.proofs.lemmas.List.Folds.{list_all-append}
use Rattle.std.proofs.lemmas.List.Sums.{fold-append}
use mathlib.Core.List.{IsPrefix}
use Rattle.facet_names.specs.Labels.{stands, prefixes}
use Rattle.facet_names.proofs.LabelLists.{Labels, still_stands as label_stays}
use Rattle.facet_model.specs.Documents.{Doc}
use Rattle.facet_model.specs.Flags.{Config}
use Rattle.facet_model.specs.Histories.{Change, add, delete, replace, Operation, changed, docs, is_add, opened, doc_of, brought, knows}
use Rattle.facet_model.specs.Stored.{Stored, Records, alive, alive_from, is_dead, live_docs, IsRecordOf, IsSegmentOf, Decodes}
use Rattle.facet_model.proofs.Changes.{docs_more, docs_opened}
use Rattle.facet_model.proofs.Fronts.{weaker}
use Rattle.chronicle.proofs.Prefixes.{prefix_self}
use Rattle.taxo_cache.specs.Seen.{labels_of}
use Rattle.taxo_adding.proofs.Growing.{labels_begin}
use Rattle.index_state.specs.Index.{Index, StandsFor, StandsForMore}

-- ---- labels under which segments decode know their documents

records_known : (known : Labels) (config : Config) (rs : List Stored) (ds : List Doc) → AllZip (IsRecordOf known config) rs ds → list_all (knows known) ds ≡ true
records_known known config [] [] all = refl
records_known known config [] (d ∷ ds) all = absurd all
records_known known config (r ∷ rs) [] all = absurd all
records_known known config (r ∷ rs) (d ∷ ds) all = and_from (knows known d) (list_all (knows known) ds) all.0.prefixes (records_known known config rs ds all.1)

alive_passes : (test : Doc → Bool) (dead : List ℕ) (place : ℕ) (ds : List Doc) → list_all test ds ≡ true → list_all test (alive_from dead place ds) ≡ true
alive_passes test dead place [] all = refl
alive_passes test dead place (d ∷ ds) all =
    let both = and_parts (test d) (list_all test ds) all in
    by (is_dead dead place) both.0 (alive_passes test dead (place + 1) ds both.1)
  where
    by : (b : Bool) → test d ≡ true → list_all test (alive_from dead (place + 1) ds) ≡ true → list_all test (if b then alive_from dead (place + 1) ds else d ∷ alive_from dead (place + 1) ds) ≡ true
    by true first rest = rest
    by false first rest = and_from (test d) (list_all test (alive_from dead (place + 1) ds)) first rest

pieces_known : (known : Labels) (config : Config) (ss : List Records) (ps : List (List Doc)) → AllZip (IsSegmentOf known config) ss ps → list_all (knows known) (live_docs ss ps) ≡ true
pieces_known known config [] [] all = refl
pieces_known known config [] (p ∷ ps) all = absurd all
pieces_known known config (s ∷ ss) [] all = absurd all
pieces_known known config (s ∷ ss) (p ∷ ps) all =
    list_all-append (knows known) (alive s.dead p) (live_docs ss ps)
    ∙ and_from (list_all (knows known) (alive s.dead p)) (list_all (knows known) (live_docs ss ps)) (alive_passes (knows known) s.dead 0 p (records_known known config s.records p all.0.records)) (pieces_known known config ss ps all.1)

pub decoded_known : (known : Labels) (config : Config) (segments : List Records) (ds : List Doc) → Decodes known config segments ds → list_all (knows known) ds ≡ true
decoded_known known config segments ds d = ap (list_all (knows known)) d.2 ∙ pieces_known known config segments d.0 d.1

-- ---- and so do labels that go on from them

module _ (a b : List (ℕ × List (List ℕ))) (on : IsPrefix a b) where
  pub knows_on : (doc : Doc) → knows (labels_of a) doc ≡ true → knows (labels_of b) doc ≡ true
  knows_on doc h =
      let begins = labels_begin a b on in
      subst (λ (l : Labels). knows l doc ≡ true) begins.1
      (weaker (λ label. list_all (stands (labels_of a)) (prefixes label)) (λ label. list_all (stands (labels_of a ++ begins.0)) (prefixes label))
      (λ label each. weaker (stands (labels_of a)) (stands (labels_of a ++ begins.0)) (label_stays (labels_of a) begins.0) (prefixes label) each) doc.labels h)

  pub known_on : (ds : List Doc) → list_all (knows (labels_of a)) ds ≡ true → list_all (knows (labels_of b)) ds ≡ true
  known_on ds h = weaker (knows (labels_of a)) (knows (labels_of b)) knows_on ds h

-- ---- adds

abbrev is_added : Operation → Bool
is_added o = is_add o.change

its_doc : (c : Change) → is_add c ≡ true → (doc : Doc) × (c ≡ add doc)
its_doc (add doc) h = (doc, refl)
its_doc (delete id) h = absurd cc
its_doc (replace doc) h = absurd cc

-- their documents come behind those that there are
added_behind : (front : List Doc) (history : List Operation) → list_all is_added history ≡ true → fold (λ ds (o : Operation). changed ds o.change) front history ≡ front ++ brought history
added_behind front [] h = sym (append-nil front)
added_behind front (o ∷ os) h =
    let both = and_parts (is_add o.change) (list_all is_added os) h in
    let one = its_doc o.change both.0 in
    rw one.1 (added_behind (front ++ one.0 ∷ []) os both.1 ∙ append_assoc front (one.0 ∷ []) (brought os))

pub docs_on : (h k : List Operation) → IsPrefix h k → list_all is_added k ≡ true → IsPrefix (docs h) (docs k)
docs_on h k on adds =
    let tail = (and_parts (list_all is_added h) (list_all is_added on.0) (sym (list_all-append is_added h on.0) ∙ ap (list_all is_added) on.1 ∙ adds)).1 in
    (brought on.0, sym (added_behind (docs h) on.0 tail) ∙ sym (fold-append (λ ds (o : Operation). changed ds o.change) [] h on.0) ∙ ap docs on.1)

-- ---- the operations that an index represents

-- the same where its documents and their sessions are the same, and its note of the labels goes on
pub still_stands : (old new : Index) → new.docs ≡ old.docs → new.sessions ≡ old.sessions → IsPrefix old.labels.seen new.labels.seen → (history : List Operation) → StandsFor old history → StandsFor new history
still_stands old new docs_same sessions_same on history stands = record {
  documents = docs_same ∙ stands.documents;
  numbers = sessions_same ∙ stands.numbers;
  known = known_on old.labels.seen new.labels.seen on (brought history) stands.known;
  adds = stands.adds;
}

-- or stays
pub same_stands : (old new : Index) → new.docs ≡ old.docs → new.sessions ≡ old.sessions → new.labels ≡ old.labels → (history : List Operation) → StandsFor old history → StandsFor new history
same_stands old new docs_same sessions_same labels_same =
    still_stands old new docs_same sessions_same (subst (λ (l : List (ℕ × List (List ℕ))). IsPrefix old.labels.seen l) (ap (λ t. t.seen) (sym labels_same)) (prefix_self old.labels.seen))

zeros_of : (ds : List Doc) → replicate (length ds) 0 ≡ map (λ (o : Operation). o.session) (opened ds)
zeros_of [] = refl
zeros_of (d ∷ ds) = ap (λ (l : List ℕ). 0 ∷ l) (zeros_of ds)

pub brought_opened : (ds : List Doc) → brought (opened ds) ≡ ds
brought_opened [] = refl
brought_opened (d ∷ ds) = ap (λ (l : List Doc). d ∷ l) (brought_opened ds)

adds_opened : (ds : List Doc) → list_all is_added (opened ds) ≡ true
adds_opened [] = refl
adds_opened (d ∷ ds) = adds_opened ds

pub opened_stands : (index : Index) → index.sessions ≡ replicate (length index.docs) 0 → list_all (knows (labels_of index.labels.seen)) index.docs ≡ true → StandsFor index (opened index.docs)
opened_stands index sessions known = record {
  documents = sym (docs_opened index.docs);
  numbers = sessions ∙ zeros_of index.docs;
  known = ap (list_all (knows (labels_of index.labels.seen))) (brought_opened index.docs) ∙ known;
  adds = adds_opened index.docs;
}

-- a document is added, which the labels know that were noted
pub one_more_stands : (old new : Index) (session : ℕ) (doc : Doc) → new.docs ≡ old.docs ++ doc ∷ [] → new.sessions ≡ old.sessions ++ session ∷ [] → IsPrefix old.labels.seen new.labels.seen → knows (labels_of new.labels.seen) doc ≡ true
    → StandsForMore session doc old new
one_more_stands old new session doc docs_are sessions_are on here history stands =
    let o : Operation = record { session = session; change = add doc } in
    let known : Doc → Bool = knows (labels_of new.labels.seen) in
    record {
      documents = docs_are ∙ ap (λ (l : List Doc). l ++ doc ∷ []) stands.documents ∙ sym (docs_more history o);
      numbers = sessions_are ∙ ap (λ (l : List ℕ). l ++ session ∷ []) stands.numbers ∙ sym (map-append (λ (x : Operation). x.session) history (o ∷ []));
      known = ap (list_all known) (filter_map-append (λ (x : Operation). doc_of x.change) history (o ∷ [])) ∙ list_all-append known (brought history) (doc ∷ [])
          ∙ and_from (list_all known (brought history)) (known doc && true) (known_on old.labels.seen new.labels.seen on (brought history) stands.known) (and_from (known doc) true here refl);
      adds = list_all-append is_added history (o ∷ []) ∙ and_from (list_all is_added history) true stands.adds refl;
    }
