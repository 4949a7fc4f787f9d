-- What is written is read.
use Rattle.std.proofs.Common.{◌≡◌, ℕ, suc, ◌+◌, ◌-◌, ◌<◌, ◌≤◌, ◌^◌, false, List, [], ◌∷◌, ◌++◌, length, take, drop, get_or, slice_get, Some, Ok, refl, sym, ap, ◌∙◌, append_assoc, arith, length-append, length-take-le}
use Rattle.std.specs.List.{flat_map, AllByRecursion}
use Rattle.std.proofs.lemmas.Bool.{ne_eqb, eq-eqb, lt-ltb}
use Rattle.std.proofs.lemmas.List.{append-nil, take_at, take-append-drop, get_or_append_left, length-drop}
use Rattle.std.proofs.Math.Seq.{get_or-append_seam}
use Rattle.std.proofs.lemmas.Option.{slice_get-get_or, get_or_from_slice_get}
use Rattle.facet_names.specs.Paths.{last_part}
use Rattle.facet_names.specs.Labels.{IsLabelList, above, place, stands}
use Rattle.facet_names.proofs.LabelLists.{fresh, parent_before, place_at, path_has_part}
use Rattle.facet_codec.specs.Faults.{fault_at}
use Rattle.facet_codec.specs.Spelling.{be32, text}
use Rattle.facet_codec.specs.Reading.{u32_at, text_at}
use Rattle.facet_codec.specs.Laws.{ReadsBack, IsBelow, IsText}
use Rattle.facet_codec.proofs.Taking.{told_read_back, place_at as from}
use Rattle.facet_codec.proofs.EachKind.{u32_read_back, text_read_back}
use Rattle.label_file.specs.LabelBytes.{IsStorable, parent_ordinal, label_bytes, labels_bytes}
use Rattle.label_file.specs.LabelReading.{codec, path_below, behind, head_at, parent_at, label_at, labels_at, stored_labels}
use Rattle.label_file.proofs.Below.{below_again}

-- ---- numbers and texts

number_again : ReadsBack (λ p. codec (u32_at p)) be32 (IsBelow (2 ^ 32))
number_again = told_read_back fault_at u32_at be32 (IsBelow (2 ^ 32)) u32_read_back

text_again : ReadsBack (λ p. codec (text_at 4294967295 p)) text (IsText 4294967295)
text_again = told_read_back fault_at (text_at 4294967295) text (IsText 4294967295) (text_read_back 4294967295 (omega arith))

behind_again : (at wanted : ℕ) (rest : List ℕ) → wanted < 2 ^ 32 → behind wanted (from at (be32 wanted ++ rest)) ≡ Ok (from (at + length (be32 wanted)) rest)
unfolding behind
behind_again at wanted rest lt = rw (number_again at wanted rest lt, eq-eqb wanted wanted refl) refl

-- ---- labels

-- a label of a list, behind those before it
record IsNext (all front : List (List (List ℕ))) (path : List (List ℕ)) : Type 0 where
  parent : ℕ
  before : parent < length front
  under : slice_get front parent ≡ Some (above path)
  ordinal : parent_ordinal all path ≡ parent
  fresh_there : stands front path ≡ false

next_label : (all front back : List (List (List ℕ))) (path : List (List ℕ)) → IsLabelList all → all ≡ front ++ path ∷ back → 0 < length front → IsNext all front path
next_label all [] back path list are some = absurd (omega arith)
next_label all (root ∷ others) back path list are some =
    let front : List (List (List ℕ)) = root ∷ others in
    let j : ℕ = length others in
    let here : get_or all (suc j) [] ≡ path = ap (λ l. get_or l (suc j) []) are ∙ get_or-append_seam front path back [] in
    let lt : suc j < length all = omega (arith, ap length are, length-append others (path ∷ back)) in
    let first : take (suc j) all ≡ front = ap (take (suc j)) are ∙ take_at front (path ∷ back) (suc j) refl in
    let label : slice_get all (suc j) ≡ Some path = slice_get-get_or all (suc j) [] lt ∙ ap Some here in
    let parent = parent_before all list j path label in
    let at : place all (above path) ≡ Some parent.0 = place_at all list parent.0 (above path) parent.2 in
    let there : get_or front parent.0 [] ≡ above path = sym (get_or_append_left front (path ∷ back) [] parent.0 parent.1) ∙ ap (λ l. get_or l parent.0 []) (sym are) ∙ get_or_from_slice_get all parent.0 (above path) [] parent.2 in
    record {
      parent = parent.0;
      before = parent.1;
      under = slice_get-get_or front parent.0 [] parent.1 ∙ ap Some there;
      ordinal = rw at refl;
      fresh_there = (λ i. stands (sym first i) (sym here i)) ∙ fresh all list (suc j) [] lt;
    }

-- the number of a parent that stands before
parent_again : (known at parent : ℕ) (rest : List ℕ) → parent < known → parent < 2 ^ 32 → parent_at known (from at (be32 parent ++ rest)) ≡ Ok (parent, from (at + length (be32 parent)) rest)
unfolding parent_at
parent_again known at parent rest before low = rw (number_again at parent rest low, lt-ltb parent known before) refl

label_again : (all front back : List (List (List ℕ))) (path : List (List ℕ)) (at : ℕ) (rest : List ℕ) → IsLabelList all → length all ≤ 1000000 → all ≡ front ++ path ∷ back → 0 < length front → IsStorable path → label_at front (from at (label_bytes all path ++ rest)) ≡ Ok (path, from (at + length (label_bytes all path)) rest)
unfolding label_at label_bytes
label_again all front back path at rest list few are some fits =
    let next = next_label all front back path list are some in
    let low : next.parent < 2 ^ 32 = omega (arith, next.before, ap length are, length-append front (path ∷ back), few) in
    let part : IsText 4294967295 (last_part path) = record { length = omega (arith, fits.last.length); utf8 = fits.last.utf8 } in
    let found : path_below front next.parent (last_part path) ≡ Some path = below_again front next.parent path (path_has_part path fits.fits) (record { under = next.under; last = refl; fits = fits.fits; fresh = next.fresh_there }) in
    let number = parent_again (length front) at next.parent (text (last_part path) ++ rest) next.before low in
    let last = text_again (at + length (be32 next.parent)) (last_part path) rest part in
    let far : at + length (be32 next.parent) + length (text (last_part path)) ≡ at + length (be32 next.parent ++ text (last_part path)) = omega (arith, length-append (be32 next.parent) (text (last_part path))) in
    rw (next.ordinal, append_assoc (be32 next.parent) (text (last_part path)) rest, number, last, found) (ap (λ n. Ok (path, from n rest)) far)

labels_again : (all front back : List (List (List ℕ))) (at : ℕ) (rest : List ℕ) → IsLabelList all → length all ≤ 1000000 → all ≡ front ++ back → 0 < length front → AllByRecursion IsStorable back → labels_at (length back) front (from at (flat_map (label_bytes all) back ++ rest)) ≡ Ok (all, from (at + length (flat_map (label_bytes all) back)) rest)
unfolding labels_at
labels_again all front [] at rest list few are some fit =
    let same : front ≡ all = sym (append-nil front) ∙ sym are in
    let far : at ≡ at + 0 = omega arith in
    λ i. Ok (same i, from (far i) rest)
labels_again all front (path ∷ back) at rest list few are some fit =
    let first = label_again all front back path at (flat_map (label_bytes all) back ++ rest) list few are some fit.0 in
    let others = labels_again all (front ++ path ∷ []) back (at + length (label_bytes all path)) rest list few (are ∙ sym (append_assoc front (path ∷ []) back)) (omega (arith, length-append front (path ∷ []), some)) fit.1 in
    let far : at + length (label_bytes all path) + length (flat_map (label_bytes all) back) ≡ at + length (label_bytes all path ++ flat_map (label_bytes all) back) = omega (arith, length-append (label_bytes all path) (flat_map (label_bytes all) back)) in
    rw (append_assoc (label_bytes all path) (flat_map (label_bytes all) back) rest, first, others) (ap (λ n. Ok (all, from n rest)) far)

-- ---- all of it

head_again : (first count : ℕ) (rest : List ℕ) → first < 2 ^ 32 → count < 2 ^ 32 → 0 < count → head_at first count (from 0 (be32 0x46544158 ++ (be32 1 ++ (be32 first ++ (be32 count ++ rest))))) ≡ Ok (from 16 rest)
unfolding head_at
head_again first count rest low few some =
    let magic = behind_again 0 0x46544158 (be32 1 ++ (be32 first ++ (be32 count ++ rest))) (omega arith) in
    let version = behind_again 4 1 (be32 first ++ (be32 count ++ rest)) (omega arith) in
    let number = behind_again 8 first (be32 count ++ rest) low in
    let many = behind_again 12 count rest few in
    rw (magic, version, number, many, ne_eqb count 0 (λ e. omega (arith, e, some))) refl

pub stored_again : (all : List (List (List ℕ))) (first : ℕ) → IsLabelList all → length all ≤ 1000000 → 0 < first → first < length all → AllByRecursion IsStorable (drop first all) → stored_labels (take first all) first (length all - first) (labels_bytes all first) ≡ Ok all
unfolding stored_labels labels_bytes
stored_again all first list few some within fit =
    let front : List (List (List ℕ)) = take first all in
    let back : List (List (List ℕ)) = drop first all in
    let count : length all - first ≡ length back = sym (length-drop first all) in
    let bytes : List ℕ = flat_map (label_bytes all) back in
    let head = head_again first (length back) bytes (omega (arith, few, within)) (omega (arith, count, few)) (omega (arith, count, within)) in
    let labels = labels_again all front back 16 [] list few (sym (take-append-drop first all)) (omega (arith, length-take-le first all (omega (arith, within)), some)) fit in
    let read : labels_at (length back) front (from 16 bytes) ≡ Ok (all, from (16 + length bytes) []) = ap (λ b. labels_at (length back) front (from 16 b)) (sym (append-nil bytes)) ∙ labels in
    rw (count, head, read) refl
