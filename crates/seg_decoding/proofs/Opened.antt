-- Segments that were built are opened again, and the segment that was made anew is the one that was read.
use Rattle.std.proofs.Common.{◌≡◌, ℕ, ◌^◌, ◌<◌, ◌≤◌, List, [], ◌∷◌, ◌++◌, length, map, get_or, slice_get, Some, None, Ok, Err, refl, sym, ap, subst, ◌∙◌, arith}
use Rattle.std.specs.Prelude.{◌==◌, if◌then◌else◌}
use Rattle.std.specs.List.{flat_map, AllZip, AllByRecursion}
use Rattle.std.proofs.lemmas.Bool.{eq-eqb}
use Rattle.std.proofs.lemmas.Option.{slice_get-get_or}
use Rattle.facet_codec.specs.Spelling.{be32}
use Rattle.facet_codec.proofs.EachKind.{u32_read_back}
use Rattle.facet_names.specs.Labels.{IsLabelList}
use Rattle.facet_names.proofs.LabelLists.{Labels}
use Rattle.facet_model.specs.Accepts.{Accepts}
use Rattle.facet_model.proofs.Fronts.{knows_its_labels}
use Rattle.facet_model.specs.CountedPaths.{counted_ordinals}
use Rattle.facet_model.specs.Documents.{Doc}
use Rattle.facet_model.specs.Flags.{Config}
use Rattle.facet_model.specs.Stored.{Stored, Records, AreLabelsAt, IsRecordOf, IsSegmentOf}
use Rattle.facet_model.specs.Terms.{terms_of}
use Rattle.seg_grammar.specs.Reading.{head_at}
use Rattle.seg_grammar.specs.Spelling.{record_bytes, term_bytes, seg_bytes, all_live, IsSegment}
use Rattle.seg_grammar.proofs.Again.{number_again, segment_again}
use Rattle.seg_file.proofs.Live.{same_bytes}
use Rattle.seg_decoding.specs.Answers.{IsLeaf}
use Rattle.seg_documents.specs.Decoding.{doc_in}
use Rattle.seg_decoding.specs.Opening.{head_fits, opened, counted_anew, rebuilt, first_difference, stored_segment}
use Rattle.seg_documents.proofs.Ordinals.{known_at}
use Rattle.seg_documents.proofs.Decoded.{all_zip_is, record_is}
use Rattle.seg_decoding.proofs.Differences.{none_from_same}
use Rattle.seg_decoding.proofs.Fitting.{Fits, documents_fit_where}
use Rattle.seg_documents.proofs.Stored.{leaves_within}
use Rattle.std.proofs.lemmas.List.Elements.{recursion_from_All}

-- what the head of a segment tells
pub head_of : (documents : ℕ) (s : Records) → length s.records < 2 ^ 32 → head_fits documents (seg_bytes s) ≡ (if length s.records == documents then Ok tt else Err 8)
unfolding head_fits seg_bytes head_at
head_of documents s lt =
    let t3 : List ℕ = flat_map record_bytes s.records ++ (be32 (length s.terms) ++ flat_map term_bytes s.terms) in
    let t2 : List ℕ = be32 (length s.records) ++ t3 in
    let t1 : List ℕ = be32 1 ++ t2 in
    rw (u32_read_back 0 0x46534547 t1 (omega arith), number_again 4 1 t2 (omega arith), number_again 8 (length s.records) t3 lt) refl

-- ---- documents that fit

-- the labels at leaves that are there
pub own_labels : (known : Labels) (needs : ℕ) (leaves : List ℕ) → needs ≤ length known → AllByRecursion (IsLeaf needs) leaves → AreLabelsAt known leaves (map (λ leaf. get_or known leaf []) leaves)
own_labels known needs [] low all = refl
own_labels known needs (leaf ∷ leaves) low all =
    let here : slice_get known leaf ≡ Some (get_or known leaf []) = slice_get-get_or known leaf [] (omega (arith, all.0.1)) in
    λ i. here i ∷ own_labels known needs leaves low all.1 i

module _ (config : Config) (known : Labels) (needs : ℕ) where
  -- records that fit, and are what is made anew, are those of their documents
  records_are : IsLabelList known → (rs : List Stored) → needs ≤ length known → AllByRecursion (Fits config known needs) rs → map (counted_anew config known) rs ≡ rs → AllZip (IsRecordOf known config) rs (map (doc_in known) rs)
  records_are list [] low fits same = tt
  records_are list (r ∷ rs) low fits same =
      let first : counted_anew config known r ≡ r = ap (λ (l : List Stored). get_or l 0 r) same in
      let others : map (counted_anew config known) rs ≡ rs = cc in
      let labels = own_labels known needs r.leaves low fits.0.leaves in
      let prefixes = knows_its_labels known list (doc_in known r) (known_at known r.leaves (doc_in known r).labels labels) in (
        record { id = refl; text = refl; labels = labels; prefixes = prefixes; accepted = fits.0.accepted; counted = ap (λ (x : Stored). x.counted) (sym first) },
        records_are list rs low fits.1 others,
      )

  pub segment_is : IsLabelList known → (s : Records) → needs ≤ length known → AllByRecursion (Fits config known needs) s.records → rebuilt config known s.records ≡ s → IsSegmentOf known config s (map (doc_in known) s.records)
  segment_is list s low fits same = record { records = records_are list s.records low fits (ap (λ (x : Records). x.records) same); terms = ap (λ (x : Records). x.terms) (sym same) }

  -- ---- what is built is opened again

  anew : (r : Stored) (doc : Doc) → IsRecordOf known config r doc → counted_anew config known r ≡ r
  anew r doc is =
      let counted : counted_ordinals known config (doc_in known r).labels ≡ r.counted = ap (λ (d : Doc). counted_ordinals known config d.labels) (record_is known config r doc is) ∙ sym is.counted in
      λ i. record { id = r.id; text = r.text; leaves = r.leaves; counted = counted i }

  all_anew : (rs : List Stored) (docs : List Doc) → AllZip (IsRecordOf known config) rs docs → map (counted_anew config known) rs ≡ rs
  all_anew [] [] all = refl
  all_anew [] (d ∷ ds) all = absurd all
  all_anew (r ∷ rs) [] all = absurd all
  all_anew (r ∷ rs) (d ∷ ds) all = λ i. anew r d all.0 i ∷ all_anew rs ds all.1 i

  rebuilt_is : (s : Records) (docs : List Doc) → IsSegmentOf known config s docs → rebuilt config known s.records ≡ all_live s
  rebuilt_is s docs of =
      let same : map (doc_in known) s.records ≡ docs = all_zip_is (IsRecordOf known config) (doc_in known) (record_is known config) s.records docs of.records in
      λ i. record { records = all_anew s.records docs of.records i; terms = (ap terms_of same ∙ sym of.terms) i; dead = [] }

  same_rebuilt : (s : Records) (docs : List Doc) → IsSegmentOf known config s docs → first_difference (seg_bytes s) (seg_bytes (rebuilt config known s.records)) ≡ None
  same_rebuilt s docs of = ap (first_difference (seg_bytes s)) (ap seg_bytes (rebuilt_is s docs of) ∙ same_bytes s []) ∙ none_from_same (seg_bytes s) 0

  fit : IsLabelList known → (rs : List Stored) (docs : List Doc) → AllZip (IsRecordOf known config) rs docs → AllByRecursion (λ r. AllByRecursion (λ leaf. leaf < needs) r.leaves) rs → AllByRecursion (Fits config known needs) rs
  fit list [] [] all low = tt
  fit list [] (d ∷ ds) all low = absurd all
  fit list (r ∷ rs) [] all low = absurd all
  fit list (r ∷ rs) (d ∷ ds) all low = (
    record {
      leaves = both r.leaves (recursion_from_All (λ leaf. (0 < leaf) × (leaf < length known)) r.leaves (leaves_within known config r list (d, all.0))) low.0;
      accepted = subst (Accepts config) (sym (record_is known config r d all.0)) all.0.accepted;
    },
    fit list rs ds all.1 low.1,
  )
    where
      both : (leaves : List ℕ) → AllByRecursion (λ leaf. (0 < leaf) × (leaf < length known)) leaves → AllByRecursion (λ leaf. leaf < needs) leaves → AllByRecursion (IsLeaf needs) leaves
      both [] a b = tt
      both (leaf ∷ leaves) a b = ((a.0.0, b.0), both leaves a.1 b.1)

  pub opened_again : IsLabelList known → (s : Records) (docs : List Doc) → IsSegmentOf known config s docs → IsSegment (seg_bytes s) (all_live s) → AllByRecursion (λ r. AllByRecursion (λ leaf. leaf < needs) r.leaves) s.records → stored_segment config known needs (length s.records) (seg_bytes s) ≡ Ok (all_live s)
  unfolding stored_segment opened
  opened_again list s docs of is low =
      let few : length s.records < 2 ^ 32 = omega (arith, is.few) in
      let fits = documents_fit_where config known needs 12 s.records (fit list s.records docs of.records low) in
      rw (head_of (length s.records) s few, eq-eqb (length s.records) (length s.records) refl, segment_again (seg_bytes s) (all_live s) is, fits, same_rebuilt s docs of) refl
