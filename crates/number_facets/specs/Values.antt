-- The numbers of documents in a dimension, and what is counted and added up of them.
use Rattle.std.specs.Prelude.{◌≡◌, ◌&&◌, ◌+ℤ◌, ℕ, ℤ, pos, nat_lt, int_lt, int_le, Bool, if◌then◌else◌, List, [], ◌∷◌}
use Rattle.std.specs.Prelude.{length, take, filter_map, flat_map, fold, count_by, Option, Some, None, All}
use Rattle.std.specs.List.{list_any}
use Rattle.std.specs.List.Sorted.{IsSorted}
use Rattle.std.specs.declared.cmp.Ordering.{Ordering}
use Rattle.std.specs.Ordering.{int_cmp, nat_cmp, on, flip_args, then_cmp}
use Rattle.std.specs.Cmp.Lexicographic.{slice_cmp}
use Rattle.std.specs.Str.{bytes_eq}
use Rattle.facet_model.specs.Documents.{Doc}
use Rattle.number_facets.specs.Numbers.{number_of, small_number_of}

-- the number of a label of just the dimension and a number text
abbrev pub value_at : List ℕ → List (List ℕ) → Option ℤ
value_at dim [] = None
value_at dim (d ∷ []) = None
value_at dim (d ∷ text ∷ []) = if bytes_eq d dim then number_of text else None
value_at dim (d ∷ text ∷ more ∷ rest) = None

-- the numbers of a document in a dimension
abbrev pub values : Doc → List ℕ → List ℤ
values doc dim = filter_map (value_at dim) doc.labels

-- the numbers from one to another, either of which may be left out
pub record Range : Type 0 where
  pub name : List ℕ
  pub min : ℤ
  pub max : ℤ
  pub min_open : Bool
  pub max_open : Bool

abbrev pub contains : Range → ℤ → Bool
contains r v = (if r.min_open then int_lt r.min v else int_le r.min v)
    && (if r.max_open then int_lt v r.max else int_le v r.max)

-- how many documents have a value in the range; one counts once, however many of its values lie in it
abbrev pub range_count : List Doc → List ℕ → Range → ℕ
range_count docs dim r = count_by (λ doc. list_any (contains r) (values doc dim)) docs

-- how many have a value
abbrev pub valued : List Doc → List ℕ → ℕ
valued docs dim = count_by (λ doc. nat_lt 0 (length (values doc dim))) docs

-- the number of a label of just the dimension, the component and the number text of 32 bits
abbrev pub weight_at : List ℕ → List ℕ → List (List ℕ) → Option ℤ
weight_at dim part [] = None
weight_at dim part (d ∷ []) = None
weight_at dim part (d ∷ p ∷ []) = None
weight_at dim part (d ∷ p ∷ text ∷ []) = if bytes_eq d dim && bytes_eq p part then small_number_of text else None
weight_at dim part (d ∷ p ∷ text ∷ more ∷ rest) = None

-- those of all labels of the documents, repeated ones each time
abbrev pub weights : List Doc → List ℕ → List ℕ → List ℤ
weights docs dim part = flat_map (λ doc. filter_map (weight_at dim part) doc.labels) docs

abbrev pub int_sum : List ℤ → ℤ
int_sum vs = fold (λ a v. a +ℤ v) (pos 0) vs

-- a component and its sum
abbrev pub PartSum : Type 0
PartSum = List ℕ × ℤ

-- by sum falling, ties by the component's bytes rising
abbrev pub sums_cmp : PartSum → PartSum → Ordering
sums_cmp = then_cmp (flip_args (on (λ c. c.1) int_cmp)) (on (λ c. c.0) (slice_cmp nat_cmp))

-- All components that a document has with a number, each once, with its sum, also where that is 0 or less.
pub record AreSums (docs : List Doc) (dim : List ℕ) (all : List PartSum) : Type 0 where
  pub each_once : (part : List ℕ) → count_by (λ c. bytes_eq part c.0) all
      ≡ (if nat_lt 0 (length (weights docs dim part)) then 1 else 0)
  pub summed : All (λ c. c.1 ≡ int_sum (weights docs dim c.0)) all
  pub ordered : IsSorted sums_cmp all

-- the first n of them
abbrev pub IsSums : List Doc → List ℕ → ℕ → List PartSum → Type 0
IsSums docs dim n shown = (all : List PartSum) × AreSums docs dim all × (shown ≡ take n all)
