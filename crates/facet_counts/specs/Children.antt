-- The children of a label with their counts, as the code walks over them.
use Rattle.std.specs.Prelude.{◌∷◌, ℕ, zero, suc, nat_lt, Bool, if◌then◌else◌, List, [], length, slice_index_or}
use Rattle.facet_names.specs.Paths.{last_part}
use Rattle.facet_names.specs.Arrays.{is_child}
use Rattle.facet_model.specs.Listing.{PartCount}

-- the numbers below the bound that pass, the greatest first
abbrev pub falling : (ℕ → Bool) → ℕ → List ℕ
falling passes zero = []
falling passes (suc n) = if passes n then n ∷ falling passes n else falling passes n

-- a child with its count
abbrev pub entry_of : List (List (List ℕ)) → List ℕ → ℕ → PartCount
entry_of labels totals child = (last_part (slice_index_or labels child []), slice_index_or totals child 0)

-- those of these children whose count is above 0
abbrev pub entries_of : List (List (List ℕ)) → List ℕ → List ℕ → List PartCount
entries_of labels totals [] = []
entries_of labels totals (c ∷ cs) =
    if nat_lt 0 (slice_index_or totals c 0) then entry_of labels totals c ∷ entries_of labels totals cs
    else entries_of labels totals cs

-- all of a label's, the one that was added last first
abbrev pub children_at : List (List (List ℕ)) → List ℕ → ℕ → List PartCount
children_at labels totals ord = entries_of labels totals (falling (is_child labels ord) (length labels))
