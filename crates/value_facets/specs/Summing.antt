-- Adding up the numbers of labels, by ordinals.
use Rattle.std.specs.Prelude.{◌≡◌, ◌<◌, ◌==◌, ◌+ℤ◌, ◌++◌, ℕ, zero, suc, ℤ, pos, if◌then◌else◌, List, []}
use Rattle.std.specs.Prelude.{◌∷◌, true, false, length}
use Rattle.std.specs.Prelude.{slice_get, slice_index_or, filter_map, flat_map, fold, Option, Some, None, unwrap_or}
use Rattle.std.specs.List.{AllByRecursion}
use Rattle.std.specs.Option.{option_map_or}
use Rattle.facet_names.specs.Arrays.{is_child}
use Rattle.facet_names.specs.Paths.{last_part}
use Rattle.facet_model.specs.Stored.{Records}
use Rattle.number_facets.specs.Values.{PartSum, weight_at}
use Rattle.seg_grammar.specs.Lookups.{record_of}
use Rattle.value_facets.specs.declared.weights.Weight.{Weight}

-- what a label adds to the component at an ordinal
abbrev pub weight_below : Weight → ℕ → Option ℤ
weight_below w part = if w.part == part then Some w.number else None

-- What the label at an ordinal adds to each component of a dimension. The root is no component.
pub record IsWeight (known : List (List (List ℕ))) (dim : List ℕ) (ord : ℕ) (w : Weight) : Type 0 where
  pub within : w.part < length known
  pub part : 0 < w.part → (part : List ℕ) × (slice_get known w.part ≡ Some (dim ∷ part ∷ []))
  pub number : (at : ℕ) (part : List ℕ) (label : List (List ℕ)) → slice_get known at ≡ Some (dim ∷ part ∷ [])
      → slice_get known ord ≡ Some label → weight_below w at ≡ weight_at dim part label

abbrev pub no_weight : Weight
no_weight = record { part = 0; number = pos 0 }

-- that of each label, at its ordinal
pub record AreWeights (known : List (List (List ℕ))) (dim : List ℕ) (weights : List Weight) : Type 0 where
  pub as_many : length weights ≡ length known
  pub each : (ord : ℕ) → ord < length known → IsWeight known dim ord (slice_index_or weights ord no_weight)

-- What each label below a component adds was noted, and nothing else was.
pub record AreNotedBelow (known : List (List (List ℕ))) (dim : List ℕ) (part : ℕ) (old new : List Weight) : Type 0 where
  pub as_many : length new ≡ length old
  pub below : (ord : ℕ) → ord < length known → is_child known part ord ≡ true
      → IsWeight known dim ord (slice_index_or new ord no_weight)
  pub others : (ord : ℕ) → is_child known part ord ≡ false
      → slice_index_or new ord no_weight ≡ slice_index_or old ord no_weight

-- the numbers that these labels add to the component at an ordinal
abbrev pub numbers_below : List Weight → List ℕ → ℕ → List ℤ
numbers_below weights leaves part =
    filter_map (λ leaf. weight_below (slice_index_or weights leaf no_weight) part) leaves

-- those of the labels of all records
abbrev pub all_below : List Weight → List (List ℕ) → ℕ → List ℤ
all_below weights lists part = flat_map (λ leaves. numbers_below weights leaves part) lists

-- at each leaf of each record there is a label
abbrev pub AreLeavesBelow : ℕ → Records → Type 0
AreLeavesBelow size segment = (place : ℕ) → place < length segment.records
    → AllByRecursion (λ leaf. leaf < size) (record_of segment place).leaves

-- a sum, which is none as long as there is no number
abbrev pub plus : Option ℤ → ℤ → Option ℤ
plus sum number = Some (unwrap_or sum (pos 0) +ℤ number)

-- These numbers were added to the sum at each ordinal but the root's.
pub record AreAdded (numbers : ℕ → List ℤ) (old new : List (Option ℤ)) : Type 0 where
  pub as_many : length new ≡ length old
  pub each : (part : ℕ) → 0 < part → part < length old
      → slice_index_or new part None ≡ fold plus (slice_index_or old part None) (numbers part)

-- The numbers of all records' labels are added up.
abbrev pub AreTotals : ℕ → List Weight → List (List ℕ) → List (Option ℤ) → Type 0
AreTotals size weights lists totals = (length totals ≡ size) × ((part : ℕ) → 0 < part → part < size
    → slice_index_or totals part None ≡ fold plus None (all_below weights lists part))

-- the component at an ordinal with its sum, if it has one
abbrev pub sums_at : List (List (List ℕ)) → List (Option ℤ) → ℕ → List PartSum
sums_at known totals zero = []
sums_at known totals (suc n) = option_map_or (λ v. (last_part (slice_index_or known (suc n) []), v) ∷ [])
    (slice_index_or totals (suc n) None) []

-- those of all ordinals before one
abbrev pub sums_before : List (List (List ℕ)) → List (Option ℤ) → ℕ → List PartSum
sums_before known totals zero = []
sums_before known totals (suc n) = sums_before known totals n ++ sums_at known totals n
