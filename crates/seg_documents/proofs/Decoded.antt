-- Segments that decode, under a list of labels that goes on, and with one segment more.
use Rattle.std.proofs.Common.{◌≡◌, ℕ, zero, suc, ◌+◌, ◌-◌, take, ◌<◌, length, arith, List, [], ◌∷◌, ◌++◌, map, get_or, slice_get, Some, refl, sym, ap, subst, ◌∙◌}
use Rattle.std.specs.List.{AllZip}
use Rattle.std.proofs.lemmas.List.{append-nil, append_assoc, map-append, map_push, take_more}
use Rattle.std.proofs.lemmas.Option.{get_or_from_slice_get, slice_get-get_or}
use Rattle.facet_names.specs.Labels.{GoesOn, IsLabelList}
use Rattle.facet_names.proofs.LabelLists.{Labels}
use Rattle.facet_model.specs.Documents.{Doc}
use Rattle.facet_model.specs.Flags.{Config}
use Rattle.facet_model.specs.Stored.{Stored, Records, AreLabelsAt, IsRecordOf, IsSegmentOf, Decodes, alive, live_docs}
use Rattle.facet_config.proofs.Staying.{counted_stay, known_stay}
use Rattle.live_records.proofs.Alive.{map_alive, alive_none}
use Rattle.seg_terms.specs.Entries.{stored_of, segment_of}
use Rattle.seg_terms.specs.declared.entry.Entry.{Entry}
use Rattle.seg_documents.specs.Decoding.{doc_in, records_in, docs_in, flushed}
use Rattle.seg_documents.specs.Entries.{AreEntries, docs_of}
use Rattle.seg_documents.proofs.Live.{records_first}
use Rattle.seg_documents.proofs.Ordinals.{all_stay}
use Rattle.std.proofs.lemmas.Slice.Zip.{all_zipped_more}

-- ---- lists side by side

all_zip_map : {A B : Type 0} (R S : A → B → Type 0) → ((x : A) (y : B) → R x y → S x y) → (xs : List A) (ys : List B) → AllZip R xs ys → AllZip S xs ys
all_zip_map R S so [] [] all = tt
all_zip_map R S so [] (y ∷ ys) all = absurd all
all_zip_map R S so (x ∷ xs) [] all = absurd all
all_zip_map R S so (x ∷ xs) (y ∷ ys) all = (so x y all.0, all_zip_map R S so xs ys all.1)

pub all_zip_is : {A B : Type 0} (R : A → B → Type 0) (f : A → B) → ((x : A) (y : B) → R x y → f x ≡ y) → (xs : List A) (ys : List B) → AllZip R xs ys → map f xs ≡ ys
all_zip_is R f so [] [] all = refl
all_zip_is R f so [] (y ∷ ys) all = absurd all
all_zip_is R f so (x ∷ xs) [] all = absurd all
all_zip_is R f so (x ∷ xs) (y ∷ ys) all = λ i. so x y all.0 i ∷ all_zip_is R f so xs ys all.1 i

-- ---- a record is its document's

pub labels_at : (known : Labels) (leaves : List ℕ) (labels : Labels) → AreLabelsAt known leaves labels → map (λ leaf. get_or known leaf []) leaves ≡ labels
labels_at known [] [] at = refl
labels_at known [] (l ∷ ls) at = absurd cc
labels_at known (o ∷ os) [] at = absurd cc
labels_at known (o ∷ os) (l ∷ ls) at =
    let head : slice_get known o ≡ Some l = cc in
    let tail : map (slice_get known) os ≡ map Some ls = cc in
    let here : get_or known o [] ≡ l = get_or_from_slice_get known o l [] head in
    λ i. here i ∷ labels_at known os ls tail i

pub record_is : (known : Labels) (config : Config) (r : Stored) (doc : Doc) → IsRecordOf known config r doc → doc_in known r ≡ doc
record_is known config r doc is = λ i. record { id = is.id i; text = is.text i; labels = labels_at known r.leaves doc.labels is.labels i }

-- a document that is made of a record's id, text and labels is the record's
pub doc_made : (known : Labels) (r : Stored) (doc : Doc) (id text : List ℕ) (paths : Labels) → doc ≡ record { id = id; text = text; labels = paths } → id ≡ r.id → text ≡ r.text → AreLabelsAt known r.leaves paths → doc ≡ doc_in known r
doc_made known r doc id text paths is same_id same_text at = is ∙ (λ k. record { id = same_id k; text = same_text k; labels = sym (labels_at known r.leaves paths at) k })

-- ---- labels that go on

module _ (config : Config) (a b : Labels) (list_a : IsLabelList a) (list_b : IsLabelList b) (on : GoesOn a b) where
  pub record_stays : (r : Stored) (doc : Doc) → IsRecordOf a config r doc → IsRecordOf b config r doc
  record_stays r doc is = record {
    id = is.id;
    text = is.text;
    labels = all_stay a b on r.leaves doc.labels is.labels;
    prefixes = known_stay a b on doc.labels is.prefixes;
    accepted = is.accepted;
    counted = is.counted ∙ sym (counted_stay a b list_a list_b on config doc.labels is.prefixes);
  }

  pub segment_stays : (s : Records) (piece : List Doc) → IsSegmentOf a config s piece → IsSegmentOf b config s piece
  segment_stays s piece is = record {
    records = all_zip_map (IsRecordOf a config) (IsRecordOf b config) record_stays s.records piece is.records;
    terms = is.terms;
  }

  pub decodes_stay : (segments : List Records) (docs : List Doc) → Decodes a config segments docs → Decodes b config segments docs
  decodes_stay segments docs d = (d.0, all_zip_map (IsSegmentOf a config) (IsSegmentOf b config) segment_stays segments d.0 d.1, d.2)

  pub entries_stay : (entries : List Entry) → AreEntries config a entries → AreEntries config b entries
  entries_stay [] are = tt
  entries_stay (e ∷ es) are = (
    record { known = known_stay a b on e.doc.labels are.0.known; stored = record_stays (stored_of e) e.doc are.0.stored },
    entries_stay es are.1,
  )

-- ---- the documents of segments

pieces_are : (known : Labels) (config : Config) (segments : List Records) (pieces : List (List Doc)) → AllZip (IsSegmentOf known config) segments pieces → docs_in known segments ≡ live_docs segments pieces
pieces_are known config [] [] all = refl
pieces_are known config [] (p ∷ ps) all = absurd all
pieces_are known config (s ∷ ss) [] all = absurd all
pieces_are known config (s ∷ ss) (p ∷ ps) all =
    let one : map (doc_in known) s.records ≡ p = all_zip_is (IsRecordOf known config) (doc_in known) (record_is known config) s.records p all.0.records in
    let first : map (doc_in known) (alive s.dead s.records) ≡ alive s.dead p = map_alive s.dead (doc_in known) s.records ∙ ap (λ (docs : List Doc). alive s.dead docs) one in
    ap (map (doc_in known)) (records_first s ss) ∙ map-append (doc_in known) (alive s.dead s.records) (records_in ss) ∙ (λ i. first i ++ pieces_are known config ss ps all.1 i)

-- the documents are determined
pub decoded : (known : Labels) (config : Config) (segments : List Records) (docs : List Doc) → Decodes known config segments docs → docs_in known segments ≡ docs
decoded known config segments docs d = pieces_are known config segments d.0 d.1 ∙ sym d.2

-- ---- one segment more

entries_zip : (config : Config) (labels : Labels) (entries : List Entry) → AreEntries config labels entries → AllZip (IsRecordOf labels config) (map stored_of entries) (docs_of entries)
entries_zip config labels [] are = tt
entries_zip config labels (e ∷ es) are = (are.0.stored, entries_zip config labels es are.1)

live_docs_push : (R : Records → List Doc → Type 0) (segments : List Records) (pieces : List (List Doc)) (s : Records) (piece : List Doc) → AllZip R segments pieces → live_docs segments pieces ++ alive s.dead piece ≡ live_docs (segments ++ s ∷ []) (pieces ++ piece ∷ [])
live_docs_push R [] [] s piece all = sym (append-nil (alive s.dead piece))
live_docs_push R [] (p ∷ ps) s piece all = absurd all
live_docs_push R (x ∷ xs) [] s piece all = absurd all
live_docs_push R (x ∷ xs) (p ∷ ps) s piece all = append_assoc (alive x.dead p) (live_docs xs ps) (alive s.dead piece) ∙ ap (λ (docs : List Doc). alive x.dead p ++ docs) (live_docs_push R xs ps s piece all.1)

-- one segment more decodes
pub decodes_push : (known : Labels) (config : Config) (segments : List Records) (docs : List Doc) (s : Records) (piece : List Doc) → Decodes known config segments docs → IsSegmentOf known config s piece → Decodes known config (segments ++ s ∷ []) (docs ++ alive s.dead piece)
decodes_push known config segments docs s piece d one = (
  d.0 ++ piece ∷ [],
  all_zipped_more (IsSegmentOf known config) segments d.0 s piece d.1 one,
  ap (λ (ds : List Doc). ds ++ alive s.dead piece) d.2 ∙ live_docs_push (IsSegmentOf known config) segments d.0 s piece d.1,
)

-- the entries become a segment
pub flushed_decodes : (config : Config) (known : Labels) (segments : List Records) (docs : List Doc) (entries : List Entry) → Decodes known config segments docs → AreEntries config known entries → Decodes known config (flushed segments entries) (docs ++ docs_of entries)
flushed_decodes config known segments docs [] d are = subst (Decodes known config segments) (sym (append-nil docs)) d
flushed_decodes config known segments docs (e ∷ es) d are =
    let s = segment_of (e ∷ es) in
    let more = decodes_push known config segments docs s (docs_of (e ∷ es)) d (record { records = entries_zip config known (e ∷ es) are; terms = refl }) in
    subst (λ (piece : List Doc). Decodes known config (segments ++ s ∷ []) (docs ++ piece)) (alive_none (docs_of (e ∷ es))) more

-- a label behind the root stands one place before its ordinal among the others
pub label_behind : (labels paths : Labels) (ord : ℕ) (path : List (List ℕ)) → labels ≡ [] ∷ paths → 0 < ord → path ≡ get_or paths (ord - 1) [] → ord - 1 < length paths → slice_get labels ord ≡ Some path
label_behind labels paths zero path are some is lt = absurd (omega arith)
label_behind labels paths (suc at) path are some is lt =
    let same : suc at - 1 ≡ at = omega arith in
    ap (λ (ls : Labels). slice_get ls (suc at)) are ∙ slice_get-get_or paths at [] (omega arith) ∙ ap Some (sym (is ∙ ap (λ n. get_or paths n []) same))

-- the labels at one ordinal more
pub labels_more : (labels : Labels) (ordinals : List ℕ) (i : ℕ) (copies now : Labels) (copy : List (List ℕ)) → i < length ordinals → map (slice_get labels) (take i ordinals) ≡ map Some copies → slice_get labels (get_or ordinals i 0) ≡ Some copy → now ≡ copies ++ copy ∷ []
    → map (slice_get labels) (take (i + 1) ordinals) ≡ map Some now
labels_more labels ordinals i copies now copy lt before at pushed =
    ap (map (slice_get labels)) (take_more ordinals i 0 lt) ∙ map_push (slice_get labels) (take i ordinals) (get_or ordinals i 0) ∙ (λ k. before k ++ at k ∷ []) ∙ sym (map_push Some copies copy) ∙ ap (map Some) (sym pushed)
