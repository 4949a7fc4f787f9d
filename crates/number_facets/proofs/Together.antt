-- What is counted and added up of documents behind other documents.
use Rattle.std.proofs.Common.{◌≡◌, ℕ, ◌+◌, List, [], ◌∷◌, ◌++◌, refl, ap, ◌∙◌, cond}
use Rattle.std.specs.Prelude.{count_by, sum_by, nat_lt, length, filter_map}
use Rattle.std.specs.List.{list_any}
use Rattle.std.proofs.lemmas.List.Sums.{sum_by-append}
use Rattle.std.proofs.lemmas.Grind.{flat_map-append}
use Rattle.facet_model.specs.Documents.{Doc}
use Rattle.number_facets.specs.Values.{Range, contains, range_count, valued, values, weight_at, weights}

pub range_append : (xs ys : List Doc) (dim : List ℕ) (r : Range) → range_count (xs ++ ys) dim r ≡ range_count xs dim r + range_count ys dim r
range_append xs ys dim r = sum_by-append (λ doc. cond (list_any (contains r) (values doc dim)) 1 0) xs ys

pub valued_append : (xs ys : List Doc) (dim : List ℕ) → valued (xs ++ ys) dim ≡ valued xs dim + valued ys dim
valued_append xs ys dim = sum_by-append (λ doc. cond (nat_lt 0 (length (values doc dim))) 1 0) xs ys

pub weights_append : (xs ys : List Doc) (dim part : List ℕ) → weights (xs ++ ys) dim part ≡ weights xs dim part ++ weights ys dim part
weights_append xs ys dim part = flat_map-append (λ doc. filter_map (weight_at dim part) doc.labels) xs ys
