-- How often documents are moved if the policy is applied after each new segment.
use Rattle.std.specs.Prelude.{ℕ, ◌≤◌, ◌+◌, ◌*◌, ◌^◌, max, nat_le, if◌then◌else◌, List, [], ◌∷◌, ◌++◌, map, fold, sum}
use Rattle.std.specs.Prelude.{sum_by}

-- the segments, each with its size and the most moves of any of its documents; and how many documents were moved in all
pub record Tiers : Type 0 where
  pub segments : List (ℕ × ℕ)
  pub work : ℕ

abbrev pub sizes_in : List (ℕ × ℕ) → List ℕ
sizes_in segments = map (λ s. s.0) segments

abbrev pub sizes_of : Tiers → List ℕ
sizes_of tiers = sizes_in tiers.segments

-- the most moves among these
abbrev pub most_moves : List (ℕ × ℕ) → ℕ
most_moves [] = 0
most_moves (s ∷ ss) = max s.1 (most_moves ss)

-- all segments become one, from the first on that has less than a third of the documents after it
abbrev pub merged : List (ℕ × ℕ) → Tiers
merged [] = record { segments = []; work = 0 }
merged (s ∷ ss) = if nat_le (sum (sizes_in ss)) (3 * s.0)
    then record { segments = s ∷ (merged ss).segments; work = (merged ss).work }
    else record { segments = (s.0 + sum (sizes_in ss), most_moves (s ∷ ss) + 1) ∷ []; work = s.0 + sum (sizes_in ss) }

-- one segment is added
abbrev pub added : Tiers → ℕ → Tiers
added tiers size = record {
  segments = (merged (tiers.segments ++ (size, 0) ∷ [])).segments;
  work = tiers.work + (merged (tiers.segments ++ (size, 0) ∷ [])).work;
}

-- segments of these sizes are added one after the other
abbrev pub kept : List ℕ → Tiers
kept adds = fold added (record { segments = []; work = 0 }) adds

-- the moves of all documents, if each had as many as the one of its segment that has the most
abbrev pub work_of : List (ℕ × ℕ) → ℕ
work_of segments = sum_by (λ s. s.0 * s.1) segments

-- (4/3) to the power of the moves less one is at most the size
abbrev pub IsSeldom : ℕ × ℕ → Type 0
IsSeldom s = 4 ^ s.1 * 3 ≤ 4 * 3 ^ s.1 * s.0
