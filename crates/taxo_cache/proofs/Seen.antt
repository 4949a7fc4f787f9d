-- Ordinals stay while more labels are seen.
use Rattle.std.proofs.Common.{Bool, true, false, if◌then◌else◌, ◌≡◌, ◌∙◌, ℕ, List, [], ◌∷◌, ◌++◌, length, Some, ap, subst, arith}
use Rattle.std.specs.Prelude.{nat_lt}
use Rattle.std.proofs.lemmas.List.{get_or_append_left, length-append}
use Rattle.std.proofs.lemmas.List.Quantifiers.{position-Some}
use Rattle.chronicle.specs.History.{longer}
use Rattle.chronicle.proofs.Entries.{entries-prefix}
use Rattle.facet_names.specs.Labels.{IsLabelList, place}
use Rattle.facet_names.specs.Paths.{path_eq}
use Rattle.facet_names.proofs.LabelLists.{first_place}
use Rattle.taxo_cache.specs.Seen.{labels_of, OrdinalsStay}

-- a path keeps its ordinal while the list goes on
place_further : (labels more : List (List (List ℕ))) (path : List (List ℕ)) (ord : ℕ) → place labels path ≡ Some ord → place (labels ++ more) path ≡ Some ord
place_further labels more path ord at =
    let found = position-Some (path_eq path) labels ord [] at in
    first_place (path_eq path) (labels ++ more) ord [] (let low = found.0 in omega (arith, length-append labels more))
    (ap (path_eq path) (get_or_append_left labels more [] ord found.0) ∙ found.1)
    (λ k lt. ap (path_eq path) (get_or_append_left labels more [] k (let low = found.0 in omega arith)) ∙ found.2 k lt)

-- and while more labels are seen
pub place_seen : OrdinalsStay
place_seen old new path ord more at =
    let grown = entries-prefix old new more in
    subst (λ (es : List (List (List ℕ))). place ([] ∷ es) path ≡ Some ord) grown.1 (place_further (labels_of old) grown.0 path ord at)

-- of two label lists that were seen, the longer one is a label list
pub longer_list : (xs ys : List (ℕ × List (List ℕ))) → IsLabelList (labels_of xs) → IsLabelList (labels_of ys) → IsLabelList (labels_of (longer xs ys))
longer_list xs ys a b = by (nat_lt (length xs) (length ys))
  where
    by : (t : Bool) → IsLabelList (labels_of (if t then ys else xs))
    by true = b
    by false = a
