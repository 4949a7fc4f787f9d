-- Entries that are made of the ordinals of a document's labels.
use Rattle.std.proofs.Common.{◌≡◌, ℕ, zero, suc, ◌+◌, ◌-◌, ◌<◌, List, [], ◌∷◌, ◌++◌, length, take, map, get_or, slice_get, Some, None, refl, sym, ap, subst, ◌∙◌, arith}
use Rattle.std.specs.Prelude.{All}
use Rattle.std.proofs.lemmas.List.{length-map, get_or-map, map_push, take_all, take_more}
use Rattle.std.proofs.lemmas.List.FromFn.{get_or-map-range_with_len, length-map-range_with_len}
use Rattle.facet_names.specs.Labels.{IsLabelList, prefixes}
use Rattle.facet_names.proofs.LabelLists.{Labels}
use Rattle.facet_model.specs.Accepts.{Accepts}
use Rattle.facet_model.specs.CountedPaths.{AreResolved}
use Rattle.facet_model.specs.Documents.{Doc}
use Rattle.facet_model.specs.Flags.{Config}
use Rattle.facet_model.specs.Histories.{knows}
use Rattle.facet_model.specs.Stored.{AreLabelsAt, IsRecordOf}
use Rattle.seg_terms.specs.Entries.{stored_of}
use Rattle.facet_config.specs.Expanding.{AreAsLong, AreExpanded}
use Rattle.seg_terms.specs.declared.entry.Entry.{Entry}
use Rattle.seg_documents.specs.Entries.{IsEntry, IsShort}
use Rattle.facet_adding.specs.Adding.{leaf_of}
use Rattle.seg_documents.proofs.Ordinals.{resolved_known}
use Rattle.std.proofs.lemmas.List.Elements.{All-tail}

-- ---- the last ordinal is the path's own

leaf_at : (known : Labels) (ords : List ℕ) (path : List (List ℕ)) → IsShort path → map (slice_get known) ords ≡ map Some (prefixes path) → slice_get known (leaf_of ords) ≡ Some path
leaf_at known ords path short at =
    let size : length ords ≡ length path = sym (length-map ords (slice_get known)) ∙ ap length at ∙ length-map (prefixes path) Some ∙ length-map-range_with_len (λ n. take n path) 1 (length path) in
    let n : ℕ = length ords - 1 in
    let own : get_or (map (slice_get known) ords) n None ≡ slice_get known (get_or ords n 0) = get_or-map (slice_get known) ords n 0 None (omega (arith, size, short.0)) in
    let last : get_or (map Some (prefixes path)) n None ≡ Some (get_or (prefixes path) n []) = get_or-map Some (prefixes path) n [] None (omega (arith, size, short.0, length-map-range_with_len (λ k. take k path) 1 (length path))) in
    let whole : get_or (prefixes path) n [] ≡ path = get_or-map-range_with_len (λ k. take k path) 1 (length path) n (1 + n) [] (omega (arith, size, short.0)) (λ i. 1 + n) ∙ take_all (1 + n) path (omega (arith, size, short.0)) in
    sym own ∙ ap (λ l. get_or l n None) at ∙ last ∙ ap Some whole

pub leaves_at : (known : Labels) (labels : Labels) (resolved : List (List ℕ)) → All IsShort labels → AreResolved known labels resolved → AreLabelsAt known (map leaf_of resolved) labels
leaves_at known [] [] short at = refl
leaves_at known [] (r ∷ rs) short at = absurd at
leaves_at known (p ∷ ps) [] short at = absurd at
leaves_at known (p ∷ ps) (r ∷ rs) short at =
    let here : slice_get known (leaf_of r) ≡ Some p = leaf_at known r p (short 0 [] (omega arith)) at.0 in
    let rest : map (slice_get known) (map leaf_of rs) ≡ map Some ps = leaves_at known ps rs (All-tail IsShort p ps short) at.1 in
    λ i. here i ∷ rest i

-- there are as many leaves as labels
pub as_many : (labels : Labels) (resolved : List (List ℕ)) → AreAsLong labels resolved → length (map leaf_of resolved) ≡ length labels
as_many [] [] long = refl
as_many [] (r ∷ rs) long = absurd long
as_many (p ∷ ps) [] long = absurd long
as_many (p ∷ ps) (r ∷ rs) long = omega (arith, as_many ps rs long.1)

-- there are as many lists of ordinals as labels, each as long as its label
pub as_many_resolved : (labels : Labels) (resolved : List (List ℕ)) → AreAsLong labels resolved → length resolved ≡ length labels
as_many_resolved labels resolved long = sym (length-map resolved leaf_of) ∙ as_many labels resolved long

pub long_at : (labels : Labels) (resolved : List (List ℕ)) (k : ℕ) (p : List (List ℕ)) (r : List ℕ) → AreAsLong labels resolved → k < length labels → length (get_or resolved k r) ≡ length (get_or labels k p)
long_at [] resolved k p r long lt = absurd (omega arith)
long_at (x ∷ xs) [] k p r long lt = absurd long
long_at (x ∷ xs) (y ∷ ys) zero p r long lt = long.0
long_at (x ∷ xs) (y ∷ ys) (suc k) p r long lt = long_at xs ys k p r long.1 (omega arith)

-- one leaf more
pub leaf_more : (resolved : List (List ℕ)) (leaves now : List ℕ) (k leaf : ℕ) (r : List ℕ) → k < length resolved → r ≡ get_or resolved k r → leaf ≡ leaf_of r → leaves ≡ map leaf_of (take k resolved) → now ≡ leaves ++ leaf ∷ [] → now ≡ map leaf_of (take (k + 1) resolved)
leaf_more resolved leaves now k leaf r lt here is before pushed =
    pushed ∙ (λ i. before i ++ (is ∙ ap leaf_of here) i ∷ []) ∙ sym (map_push leaf_of (take k resolved) (get_or resolved k r)) ∙ ap (map leaf_of) (sym (take_more resolved k r lt))

-- ---- an entry

pub entry_made : (config : Config) (known : Labels) (e : Entry) (doc : Doc) (resolved : List (List ℕ)) → e.doc ≡ doc → e.leaves.items ≡ map leaf_of resolved → All IsShort doc.labels → IsLabelList known → AreResolved known doc.labels resolved → Accepts config doc
    → AreExpanded config doc.labels resolved e.counted → IsEntry config known e
entry_made config known e doc resolved is leaves short list at accepted expanded = record {
  known = ap (knows known) is ∙ resolved_known known doc.labels resolved at;
  stored = subst (IsRecordOf known config (stored_of e)) (sym is) (record {
    id = ap (λ (d : Doc). d.id) is;
    text = ap (λ (d : Doc). d.text) is;
    labels = ap (map (slice_get known)) leaves ∙ leaves_at known doc.labels resolved short at;
    prefixes = resolved_known known doc.labels resolved at;
    accepted = accepted;
    counted = expanded.paths known list at;
  });
}
