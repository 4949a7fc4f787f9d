-- A merge is what is built of all live entries.
use Rattle.std.proofs.Common.{◌≡◌, List, [], ◌∷◌, ◌++◌, map, length, refl, sym, ◌∙◌}
use Rattle.std.specs.List.{AllZip}
use Rattle.std.proofs.lemmas.List.{length-map, map-append}
use Rattle.facet_model.specs.Documents.{Doc}
use Rattle.facet_model.specs.Stored.{Records, alive, live_docs}
use Rattle.facet_model.specs.Terms.{terms_of}
use Rattle.live_records.proofs.Alive.{map_alive}
use Rattle.seg_terms.specs.declared.entry.Entry.{Entry}
use Rattle.seg_terms.specs.Entries.{stored_of}
use Rattle.seg_documents.specs.Decoding.{records_in}
use Rattle.seg_merge.specs.Merged.{live_entries, HaveTerms, IsMergeOf, IsOfEntries, IsBuiltOfLive}

abbrev pub docs_each : List (List Entry) → List (List Doc)
docs_each pieces = map (map (λ (e : Entry). e.doc)) pieces

pub have : (ss : List Records) (pieces : List (List Entry)) → AllZip IsOfEntries ss pieces → HaveTerms ss (docs_each pieces)
have [] [] all = tt
have [] (p ∷ ps) all = absurd all
have (s ∷ ss) [] all = absurd all
have (s ∷ ss) (p ∷ ps) all = (
  record {
    each = length-map p (λ (e : Entry). e.doc) ∙ sym (length-map p stored_of) ∙ sym (λ i. length (all.0 i).records);
    terms = λ i. (all.0 i).terms;
  },
  have ss ps all.1,
)

live_stored : (ss : List Records) (pieces : List (List Entry)) → AllZip IsOfEntries ss pieces → records_in ss ≡ map stored_of (live_entries ss pieces)
live_stored [] [] all = refl
live_stored [] (p ∷ ps) all = absurd all
live_stored (s ∷ ss) [] all = absurd all
live_stored (s ∷ ss) (p ∷ ps) all =
    (λ i. ((λ j. alive s.dead (all.0 j).records) ∙ sym (map_alive s.dead stored_of p)) i ++ live_stored ss ps all.1 i) ∙ sym (map-append stored_of (alive s.dead p) (live_entries ss ps))

live_docs_of : (ss : List Records) (pieces : List (List Entry)) → AllZip IsOfEntries ss pieces → live_docs ss (docs_each pieces) ≡ map (λ (e : Entry). e.doc) (live_entries ss pieces)
live_docs_of [] [] all = refl
live_docs_of [] (p ∷ ps) all = absurd all
live_docs_of (s ∷ ss) [] all = absurd all
live_docs_of (s ∷ ss) (p ∷ ps) all =
    (λ i. sym (map_alive s.dead (λ (e : Entry). e.doc) p) i ++ live_docs_of ss ps all.1 i) ∙ sym (map-append (λ (e : Entry). e.doc) (alive s.dead p) (live_entries ss ps))

pub built : (ss : List Records) (m : Records) → IsMergeOf ss m → IsBuiltOfLive ss m
built ss m merged pieces all =
    merged (docs_each pieces) (have ss pieces all)
    ∙ (λ i. record { records = live_stored ss pieces all i; terms = terms_of (live_docs_of ss pieces all i); dead = [] })
