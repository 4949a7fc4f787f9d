-- Where a merged segment goes, among segments that may have changed since it was made.
use Rattle.std.proofs.Common.{◌≡◌, ◌≢◌, ℕ, zero, suc, ◌+◌, ◌-◌, ◌<◌, ◌≤◌, inl, inr, List, [], ◌∷◌, ◌++◌, length, get_or, map, take, drop, refl, sym, ap, subst, ◌∙◌, arith, append_assoc}
use Rattle.std.specs.Prelude.{sum}
use Rattle.std.proofs.lemmas.Bool.{cases_lt}
use Rattle.std.proofs.lemmas.List.{append-nil, length-append, length-map, map_push, take-append-drop, take-take, take-map, take_all, take_at, drop_at, drop-take}
use Rattle.std.proofs.lemmas.List.Sums.{sum_by-cons}
use mathlib.Core.List.{IsPrefix}
use Rattle.facet_names.proofs.LabelLists.{Labels}
use Rattle.facet_model.specs.Documents.{Doc}
use Rattle.facet_model.specs.Flags.{Config}
use Rattle.facet_model.specs.Stored.{Records, Decodes, alive, live_before}
use Rattle.live_records.proofs.Alive.{length_alive}
use Rattle.seg_terms.specs.declared.entry.Entry.{Entry}
use Rattle.seg_documents.specs.Decoding.{doc_in, docs_in, records_in}
use Rattle.seg_documents.specs.Entries.{docs_of}
use Rattle.seg_documents.specs.Storing.{AreStored}
use Rattle.seg_documents.proofs.Decoded.{decoded, decodes_stay}
use Rattle.seg_documents.proofs.Joined.{records_append, docs_append, decodes_split}
use Rattle.seg_documents.proofs.Live.{records_first}
use Rattle.seg_documents.proofs.Storing.{few_segments}
use Rattle.seg_merge.proofs.Moved.{taken_more}
use Rattle.chronicle.specs.Shown.{Shown, IsNoteOf}
use Rattle.taxo_cache.specs.Seen.{labels_of, SeesLabels}
use Rattle.taxo_adding.proofs.Growing.{seen_goes_on}
use Rattle.index_state.specs.Index.{DecodeUnder, docs_under, index_of}
use Rattle.index_state.specs.Kept.{IsKept}
use Rattle.index_state.specs.Merging.{live_sizes, ComeAfter, IsRangeOf, AreAt, HasNoPlace}
use Rattle.index_state.proofs.Installing.{in_parts, stored_back}

-- ---- lists

module _ {A : Type 0} where
  -- those in the middle
  middle : (xs ys zs : List A) (i n : ℕ) → length xs ≡ i → length ys ≡ n → take n (drop i (xs ++ (ys ++ zs))) ≡ ys
  middle xs ys zs i n first size = ap (take n) (drop_at xs (ys ++ zs) i first) ∙ take_at ys zs n size

  -- the first ones, and those behind them
  take_on : (xs : List A) (i n : ℕ) → i ≤ n → take n xs ≡ take i xs ++ take (n - i) (drop i xs)
  take_on xs i n le =
      let plus : n ≡ i + (n - i) = omega (arith, le) in
      let back : drop i (take n xs) ≡ take (n - i) (drop i xs) = ap (λ (m : ℕ). drop i (take m xs)) plus ∙ drop-take i (n - i) xs in
      sym (take-append-drop i (take n xs)) ∙ (λ k. take-take i n xs le k ++ back k)

-- ---- how many documents segments have

size_on : (ss : List Records) (i n : ℕ) → i ≤ n → length (records_in (take n ss)) ≡ length (records_in (take i ss)) + length (records_in (take (n - i) (drop i ss)))
size_on ss i n le =
    ap (λ (l : List Records). length (records_in l)) (take_on ss i n le) ∙ ap length (records_append (take i ss) (take (n - i) (drop i ss)))
    ∙ length-append (records_in (take i ss)) (records_in (take (n - i) (drop i ss)))

-- one has as many as it has live records
pub one_live : (m : Records) → live_before m.dead (length m.records) ≡ length (records_in (m ∷ []))
one_live m = sym (length_alive m.dead m.records) ∙ ap length (sym (append-nil (alive m.dead m.records)) ∙ sym (records_first m []))

-- segments that may be stored have some
pub some_records : (ss : List Records) → AreStored ss → 0 < length ss → 0 < length (records_in ss)
some_records ss are some = omega (arith, some, few_segments ss are)

-- and all have as many as each of them together
pub all_sizes : (ss : List Records) → sum (live_sizes ss) ≡ length (records_in ss)
all_sizes [] = refl
all_sizes (s ∷ ss) =
    sum_by-cons (λ (n : ℕ). n) (live_before s.dead (length s.records)) (live_sizes ss)
    ∙ (λ i. sym (length_alive s.dead s.records) i + all_sizes ss i)
    ∙ sym (length-append (alive s.dead s.records) (records_in ss)) ∙ ap length (sym (records_first s ss))

-- and so for one more
pub sizes_more : {A : Type 0} (value : A → Records) (xs : List A) (i : ℕ) (x : A) → i < length xs → get_or xs i x ≡ x → (old new : List ℕ) (n : ℕ) → new ≡ old ++ n ∷ [] → n ≡ live_before (value x).dead (length (value x).records)
    → old ≡ live_sizes (map value (take i xs)) → new ≡ live_sizes (map value (take (i + 1) xs))
sizes_more value xs i x lt here old new n pushed size before =
    let more : live_sizes (map value (take (i + 1) xs)) ≡ live_sizes (map value (take i xs)) ++ live_before (value x).dead (length (value x).records) ∷ [] =
    ap live_sizes (taken_more value xs i x lt here) ∙ map_push (λ (s : Records). live_before s.dead (length s.records)) (map value (take i xs)) (value x) in
    pushed ∙ (λ k. before k ++ size k ∷ []) ∙ sym more

-- those behind a place have no more than all
pub behind_few : (ss : List Records) (i : ℕ) → length (records_in (drop i ss)) ≤ length (records_in ss)
behind_few ss i = omega (arith, ap (λ (l : List Records). length (records_in l)) (take-append-drop i ss), ap length (records_append (take i ss) (drop i ss)), length-append (records_in (take i ss)) (records_in (drop i ss)))

-- where first ones have some, they are some
pub some_count : (ss : List Records) (n : ℕ) → 0 < length (records_in (take n ss)) → 0 < n
some_count ss zero some = absurd (omega (arith, some))
some_count ss (suc n) some = omega arith

-- ---- the place of neighbours

-- no first ones have so many, where none before a place have, nor all
pub none_there : {A : Type 0} (value : A → Records) (xs : List A) (docs n : ℕ) → length xs ≤ n → ((k : ℕ) → k < n → length (records_in (map value (take k xs))) ≢ docs)
    → length (records_in (map value (take n xs))) ≢ docs → (k : ℕ) → length (records_in (take k (map value xs))) ≢ docs
none_there value xs docs n all below here k e =
    let same : length (records_in (map value (take k xs))) ≡ docs = sym (ap (λ (l : List Records). length (records_in l)) (take-map value k xs)) ∙ e in
    elim (cases_lt k n) [
      | inl lt ↦ below k lt same
      | inr ge ↦ here (ap (λ ys. length (records_in (map value ys))) (take_all n xs all ∙ sym (take_all k xs (omega (arith, all, ge)))) ∙ same)
    ]

pub is_place : (ss : List Records) (before many first count : ℕ) → length (records_in (take first ss)) ≡ before → length (records_in (take count (drop first ss))) ≡ many
    → AreAt before many ss (take first ss) (take count (drop first ss)) (drop (first + count) ss)
is_place ss before many first count here size = record { parts = in_parts ss first count; first = here; size = size }

-- there is none where no first ones have as many as come before
pub none_before : (ss : List Records) (before many : ℕ) → ((k : ℕ) → length (records_in (take k ss)) ≢ before) → HasNoPlace before many ss
none_before ss before many none front range back at =
    none (length front) (ap (λ (l : List Records). length (records_in l)) (ap (take (length front)) at.parts ∙ take_at front (range ++ back) (length front) refl) ∙ at.first)

-- nor where no first ones of those behind have as many
pub none_behind : (ss : List Records) (before many first : ℕ) → length (records_in (take first ss)) ≡ before → ((k : ℕ) → length (records_in (take k (drop first ss))) ≢ many) → HasNoPlace before many ss
none_behind ss before many first here none front range back at =
    let n = length front + length range in
    let whole : take n ss ≡ front ++ range = ap (take n) (at.parts ∙ sym (append_assoc front range back)) ∙ take_at (front ++ range) back n (length-append front range) in
    let size : length (records_in (take n ss)) ≡ before + many =
    ap (λ (l : List Records). length (records_in l)) whole ∙ ap length (records_append front range) ∙ length-append (records_in front) (records_in range) ∙ (λ i. at.first i + at.size i) in
    elim (cases_lt n first) [
      | inl lt ↦ none 0 (omega (arith, size, here, size_on ss n first (omega (arith, lt))))
      | inr ge ↦ none (n - first) (omega (arith, size, here, size_on ss first n ge))
    ]

-- ---- the documents there

-- neighbours have the documents that come after as many others
pub range_docs : (known : Labels) (ss front range back : List Records) (all ds : List Doc) (before : ℕ) → AreAt before (length ds) ss front range back → IsPrefix (docs_in known ss) all → ComeAfter before ds all → ds ≡ docs_in known range
range_docs known ss front range back all ds before at begins after =
    let ours = docs_in known front in
    let here = docs_in known range in
    let rest = docs_in known back ++ begins.0 in
    let first : length ours ≡ before = length-map (records_in front) (doc_in known) ∙ at.first in
    let size : length here ≡ length ds = length-map (records_in range) (doc_in known) ∙ at.size in
    let parts : docs_in known ss ≡ ours ++ (here ++ docs_in known back) =
    ap (docs_in known) at.parts ∙ docs_append known front (range ++ back) ∙ ap (λ (l : List Doc). ours ++ l) (docs_append known range back) in
    let one : all ≡ ours ++ (here ++ rest) =
    sym begins.1 ∙ ap (λ (l : List Doc). l ++ begins.0) parts ∙ append_assoc ours (here ++ docs_in known back) begins.0 ∙ ap (λ (l : List Doc). ours ++ l) (append_assoc here (docs_in known back) begins.0) in
    let two : all ≡ after.0 ++ (ds ++ after.2.0) = sym after.2.1 ∙ append_assoc after.0 ds after.2.0 in
    sym (middle after.0 ds after.2.0 before (length ds) after.1 refl)
    ∙ ap (λ (l : List Doc). take (length ds) (drop before l)) (sym two ∙ one)
    ∙ middle ours here rest before (length ds) first size

-- segments keep their documents while more labels are seen
module _ (config : Config) (a b : Shown (List (List ℕ))) (list_a : SeesLabels a) (list_b : SeesLabels b) (on : IsPrefix a.seen b.seen) (ss : List Records) (decodes : DecodeUnder a config ss) where
  stay : Decodes (labels_of b.seen) config ss (docs_under a ss)
  stay = decodes_stay config (labels_of a.seen) (labels_of b.seen) list_a list_b (seen_goes_on a.seen b.seen on) ss (docs_under a ss) decodes

  pub docs_on : docs_under b ss ≡ docs_under a ss
  docs_on = decoded (labels_of b.seen) config ss (docs_under a ss) stay

  pub decode_on : DecodeUnder b config ss
  decode_on = subst (Decodes (labels_of b.seen) config ss) (sym docs_on) stay

-- ---- the segments from one on

module _ (config : Config) (labels : Shown (List (List ℕ))) (ss : List Records) (waiting : List Entry) (sessions : List ℕ) (max_docs : ℕ) (kept : IsKept config labels ss waiting sessions max_docs) where
  abbrev known : Labels
  known = labels_of labels.seen

  pub few_records : length (records_in ss) ≤ 1000000
  few_records = omega (arith, kept.few, kept.each, length-map (records_in ss) (doc_in known))

  module _ (first : ℕ) where
    cut : take first ss ++ drop first ss ≡ ss
    cut = take-append-drop first ss

    pub few_from : length (records_in (drop first ss)) ≤ 1000000
    few_from = omega (arith, few_records, behind_few ss first)

    own_from : AreStored (drop first ss)
    own_from = stored_back (take first ss) (drop first ss) (subst AreStored (sym cut) kept.own)

    decodes_from : DecodeUnder labels config (drop first ss)
    decodes_from = (decodes_split known config (take first ss) (drop first ss) (docs_in known ss) (subst (λ (l : List Records). Decodes known config l (docs_in known ss)) (sym cut) kept.decoded)).1

    after_from : ComeAfter (length (records_in (take first ss))) (docs_under labels (drop first ss)) (docs_under labels ss ++ docs_of waiting)
    after_from = (
      docs_in known (take first ss),
      length-map (records_in (take first ss)) (doc_in known),
      (docs_of waiting, ap (λ (l : List Doc). l ++ docs_of waiting) (sym (docs_append known (take first ss) (drop first ss)) ∙ ap (docs_in known) cut)),
    )

    pub is_range : (note : Shown (List (List ℕ))) (before : ℕ) (range : List Records) → IsNoteOf labels note → before ≡ length (records_in (take first ss)) → range ≡ drop first ss
        → IsRangeOf (index_of ss waiting sessions config max_docs labels) first note before range
    is_range note before range of size is =
        let sees : note.seen ≡ labels.seen = of.2 in
        let all : List Doc = docs_under labels ss ++ docs_of waiting in
        record {
          segments = is;
          note = of;
          list = subst (λ (s : List (ℕ × List (List ℕ))). SeesLabels (record labels { seen = s })) (sym sees) kept.list;
          decoded = subst (DecodeUnder note config) (sym is) (subst (λ (s : List (ℕ × List (List ℕ))). DecodeUnder (record labels { seen = s }) config (drop first ss)) (sym sees) decodes_from);
          after = subst (λ (n : ℕ). ComeAfter n (docs_under note range) all) (sym size) (subst (λ (rs : List Records). ComeAfter (length (records_in (take first ss))) (docs_under note rs) all) (sym is)
              (subst (λ (s : List (ℕ × List (List ℕ))). ComeAfter (length (records_in (take first ss))) (docs_in (labels_of s) (drop first ss)) all) (sym sees) after_from));
          own = subst AreStored (sym is) own_from;
          some = subst (λ (rs : List Records). 0 < length rs → 0 < length (records_in rs)) (sym is) (some_records (drop first ss) own_from);
        }
