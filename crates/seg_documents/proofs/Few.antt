-- Few ordinals are counted for a document.
use Rattle.std.proofs.Common.{ℕ, ◌+◌, ◌*◌, ◌≤◌, Bool, List, [], ◌∷◌, length, take, eqb, sym, ap, ◌∙◌, arith}
use Rattle.std.specs.Prelude.{filter, All}
use Rattle.std.specs.List.{IsDistinct, enumerate_from, zip}
use Rattle.std.specs.List.Sorted.{IsStrictlyIncreasing}
use Rattle.std.proofs.lemmas.List.{length-map, length-append}
use Rattle.std.proofs.lemmas.List.Concat.{flat_map-cons}
use Rattle.std.proofs.lemmas.List.FromFn.{length-enumerate_from}
use Rattle.std.proofs.lemmas.Bool.Decides.{Decides-eqb}
use Rattle.std.proofs.lemmas.Cmp.{nat_eq_equiv}
use Rattle.std.proofs.lemmas.List.Kept.{AllPairs-from_increasing}
use Rattle.std.proofs.lemmas.List.Sums.{length-filter, count_by-le-length}
use Rattle.std.proofs.lemmas.Map.Keys.{IsStrictlyIncreasing-from_sorted}
use Rattle.std.proofs.lemmas.Map.Made.{length-le_from_is_member, IsDistinct-from_AllPairs}
use Rattle.facet_names.proofs.LabelLists.{Labels}
use Rattle.facet_names.proofs.Places.{places_rise}
use Rattle.facet_model.specs.CountedPaths.{counted_ordinals, is_counted, is_counted_for, ordinals_of_label, ordinals_of_labels}
use Rattle.facet_model.specs.Documents.{dim_of}
use Rattle.facet_model.specs.Flags.{Config, flags}
use Rattle.facet_config.specs.Expanding.{AreAsLong, AreExpanded}
use Rattle.seg_documents.specs.Entries.{IsShort}
use Rattle.std.proofs.lemmas.List.Elements.{All-tail}

label_few : (config : Config) (path : List (List ℕ)) (ords : List ℕ) → length (ordinals_of_label config path ords) ≤ length ords
label_few config path ords =
    let passes : ℕ × ℕ → Bool = λ e. is_counted_for (flags config (dim_of path)) path (take (e.0 + 1) path) in
    omega (arith, length-map (filter passes (enumerate_from 0 ords)) (λ (e : ℕ × ℕ). e.1), length-filter passes (enumerate_from 0 ords), count_by-le-length passes (enumerate_from 0 ords), length-enumerate_from 0 ords)

labels_few : (config : Config) (labels : Labels) (resolved : List (List ℕ)) → All IsShort labels → AreAsLong labels resolved → length (ordinals_of_labels config labels resolved) ≤ 32 * length labels
labels_few config [] [] short long = omega arith
labels_few config [] (r ∷ rs) short long = absurd long
labels_few config (p ∷ ps) [] short long = absurd long
labels_few config (p ∷ ps) (r ∷ rs) short long =
    let cut = ap length (flat_map-cons (λ (l : List (List ℕ) × List ℕ). ordinals_of_label config l.0 l.1) (p, r) (zip ps rs)) ∙ length-append (ordinals_of_label config p r) (ordinals_of_labels config ps rs) in
    omega (arith, cut, label_few config p r, long.0, (short 0 [] (omega arith)).1, labels_few config ps rs (All-tail IsShort p ps short) long.1)

pub counted_few : (config : Config) (labels : Labels) (resolved : List (List ℕ)) (counted : List ℕ) → length labels ≤ 256 → All IsShort labels → AreAsLong labels resolved → IsStrictlyIncreasing counted → AreExpanded config labels resolved counted → length counted ≤ 8192
counted_few config labels resolved counted few short long rising expanded =
    let below = AllPairs-from_increasing counted rising in
    let distinct : IsDistinct eqb counted = IsDistinct-from_AllPairs Decides-eqb counted (λ i j d less lt same. omega (arith, below i j d less lt, same)) in
    let fewer : length counted ≤ length (ordinals_of_labels config labels resolved) = length-le_from_is_member nat_eq_equiv counted (ordinals_of_labels config labels resolved) distinct (λ q in_counted. sym (expanded.members q) ∙ in_counted) in
    omega (arith, fewer, labels_few config labels resolved short long)

-- the counted ordinals rise
pub counted_rise : (known : Labels) (config : Config) (labels : Labels) → IsStrictlyIncreasing (counted_ordinals known config labels)
counted_rise known config labels = IsStrictlyIncreasing-from_sorted (counted_ordinals known config labels) (places_rise (is_counted config labels) known 0)
