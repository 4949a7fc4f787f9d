-- Laws of sums.
use Rattle.std.specs.Prelude.{ℕ, ◌≤◌, All, IsTrue, List, length}
use Rattle.facet_model.specs.Documents.{Doc}
use Rattle.number_facets.specs.Numbers.{is_i64}
use Rattle.number_facets.specs.Values.{int_sum, weights}

-- the sums of a million documents of at most 256 labels have 64 bits
abbrev pub SumsFit : Type 0
SumsFit = (docs : List Doc) (dim part : List ℕ) → length docs ≤ 1000000 → All (λ doc. length doc.labels ≤ 256) docs
    → IsTrue (is_i64 (int_sum (weights docs dim part)))
