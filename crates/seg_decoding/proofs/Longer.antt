-- Opening under a list of labels that goes on.
use Rattle.std.proofs.Common.{◌≡◌, ℕ, ◌+◌, ◌≤◌, List, [], ◌∷◌, length, map, get_or, Ok, Err, refl, sym, ap, ◌∙◌, arith}
use Rattle.std.specs.Prelude.{Result}
use Rattle.std.specs.Option.{option_map}
use Rattle.std.specs.List.{AllByRecursion}
use Rattle.std.proofs.lemmas.List.{get_or-take}
use Rattle.facet_codec.specs.Reading.{◌>>=◌}
use Rattle.facet_names.specs.Labels.{GoesOn, IsLabelList}
use Rattle.facet_names.proofs.LabelLists.{Labels}
use Rattle.facet_model.specs.Accepts.{first_broken}
use Rattle.facet_model.specs.CountedPaths.{counted_ordinals}
use Rattle.facet_model.specs.Documents.{Doc}
use Rattle.facet_model.specs.Flags.{Config}
use Rattle.facet_model.specs.Stored.{Stored, Records, Decodes}
use Rattle.facet_model.specs.Terms.{terms_of}
use Rattle.facet_model.proofs.Fronts.{knows_its_labels}
use Rattle.facet_config.proofs.Staying.{counted_stay}
use Rattle.seg_grammar.specs.Spelling.{record_bytes, seg_bytes}
use Rattle.seg_decoding.specs.Answers.{IsLeaf}
use Rattle.seg_documents.specs.Decoding.{doc_in, docs_in}
use Rattle.seg_decoding.specs.Opening.{unless_at, opened, leaves_fit, leaves_place, document_fits, documents_fit, counted_anew, rebuilt, first_difference, stored_segment}
use Rattle.seg_documents.proofs.Decoded.{decoded, decodes_stay}
use Rattle.seg_decoding.proofs.Fitting.{Fits, leaves_are, documents_are}
use Rattle.seg_decoding.proofs.Opened.{own_labels}
use Rattle.seg_documents.proofs.Ordinals.{known_at}

module _ (config : Config) (a b : Labels) (list_a : IsLabelList a) (list_b : IsLabelList b) (on : GoesOn a b) where
  -- the documents of segments that decode stay
  pub docs_stay : (segments : List Records) (docs : List Doc) → Decodes a config segments docs → docs_in b segments ≡ docs_in a segments
  docs_stay segments docs d = decoded b config segments docs (decodes_stay config a b list_a list_b on segments docs d) ∙ sym (decoded a config segments docs d)

  module _ (needs : ℕ) (low : needs ≤ length a) where
    labels_stay : (leaves : List ℕ) → AllByRecursion (IsLeaf needs) leaves → map (λ leaf. get_or b leaf []) leaves ≡ map (λ leaf. get_or a leaf []) leaves
    labels_stay [] all = refl
    labels_stay (leaf ∷ leaves) all =
        let here : get_or b leaf [] ≡ get_or a leaf [] = sym (get_or-take (length a) b leaf [] (omega (arith, all.0.1))) ∙ ap (λ (l : Labels). get_or l leaf []) on.1 in
        λ i. here i ∷ labels_stay leaves all.1 i

    doc_stays : (r : Stored) → AllByRecursion (IsLeaf needs) r.leaves → doc_in b r ≡ doc_in a r
    doc_stays r all = λ i. record { id = r.id; text = r.text; labels = labels_stay r.leaves all i }

    document_stays : (at : ℕ) (r : Stored) → document_fits config b needs at r ≡ document_fits config a needs at r
    unfolding document_fits
    document_stays at r = by (leaves_fit needs (leaves_place at r) r.leaves) refl
      where
        accepts : Labels → Result (Unit {0}) ℕ
        accepts known = unless_at (tt {0}) (option_map (λ broken. at) (first_broken config (doc_in known r)))

        by : (fit : Result (Unit {0}) ℕ) → leaves_fit needs (leaves_place at r) r.leaves ≡ fit → (fit >>= λ leaves. accepts b) ≡ (fit >>= λ leaves. accepts a)
        by (Ok u) is = ap (λ (d : Doc). unless_at (tt {0}) (option_map (λ broken. at) (first_broken config d))) (doc_stays r (leaves_are needs (leaves_place at r) r.leaves is))
        by (Err e) is = refl

    documents_stay : (at : ℕ) (rs : List Stored) → documents_fit config b needs at rs ≡ documents_fit config a needs at rs
    unfolding documents_fit
    documents_stay at [] = refl
    documents_stay at (r ∷ rs) = rw (document_stays at r, documents_stay (at + length (record_bytes r)) rs) refl

    anew_stays : (r : Stored) → AllByRecursion (IsLeaf needs) r.leaves → counted_anew config b r ≡ counted_anew config a r
    anew_stays r all =
        let labels = (doc_in a r).labels in
        let same : (doc_in b r).labels ≡ labels = labels_stay r.leaves all in
        let known = knows_its_labels a list_a (doc_in a r) (known_at a r.leaves labels (own_labels a needs r.leaves low all)) in
        let counted : (counted_anew config b r).counted ≡ (counted_anew config a r).counted = ap (λ (ls : Labels). counted_ordinals b config ls) same ∙ counted_stay a b list_a list_b on config labels known in
        λ i. record { id = r.id; text = r.text; leaves = r.leaves; counted = counted i }

    all_anew : (rs : List Stored) → AllByRecursion (Fits config a needs) rs → map (counted_anew config b) rs ≡ map (counted_anew config a) rs
    all_anew [] fits = refl
    all_anew (r ∷ rs) fits = λ i. anew_stays r fits.0.leaves i ∷ all_anew rs fits.1 i

    all_docs : (rs : List Stored) → AllByRecursion (Fits config a needs) rs → map (doc_in b) rs ≡ map (doc_in a) rs
    all_docs [] fits = refl
    all_docs (r ∷ rs) fits = λ i. doc_stays r fits.0.leaves i ∷ all_docs rs fits.1 i

    rebuilt_stays : (rs : List Stored) → AllByRecursion (Fits config a needs) rs → rebuilt config b rs ≡ rebuilt config a rs
    rebuilt_stays rs fits = λ i. record { records = all_anew rs fits i; terms = ap terms_of (all_docs rs fits) i; dead = [] }

    -- the bytes are opened as they were
    pub opened_longer : (documents : ℕ) (bytes : List ℕ) → stored_segment config b needs documents bytes ≡ stored_segment config a needs documents bytes
    unfolding stored_segment
    opened_longer documents bytes = by (opened documents bytes)
      where
        compared : Labels → Records → Result Records ℕ
        compared known r = unless_at r (first_difference bytes (seg_bytes (rebuilt config known r.records)))

        fit_by : (r : Records) (fit : Result (Unit {0}) ℕ) → documents_fit config a needs 12 r.records ≡ fit → (fit >>= λ u. compared b r) ≡ (fit >>= λ u. compared a r)
        fit_by r (Ok u) is = ap (λ (x : Records). unless_at r (first_difference bytes (seg_bytes x))) (rebuilt_stays r.records (documents_are config a needs 12 r.records is))
        fit_by r (Err e) is = refl

        by : (read : Result Records ℕ) → (read >>= λ r. documents_fit config b needs 12 r.records >>= λ fit. compared b r) ≡ (read >>= λ r. documents_fit config a needs 12 r.records >>= λ fit. compared a r)
        by (Ok r) = ap (λ (fit : Result (Unit {0}) ℕ). fit >>= λ u. compared b r) (documents_stay 12 r.records) ∙ fit_by r (documents_fit config a needs 12 r.records) refl
        by (Err e) = refl
