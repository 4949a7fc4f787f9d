-- What the policy guarantees.
use Rattle.std.specs.Prelude.{◌≡◌, ◌≤◌, ◌*◌, ◌^◌, ℕ, List, ◌∷◌, length, sum}
use Rattle.std.specs.List.{AllByRecursion}
use Rattle.merge_policy.specs.Tiers.{IsSome, IsTiered, first_small, merged_from}
use Rattle.merge_policy.specs.Moving.{merged, kept, sizes_in, sizes_of, work_of, IsSeldom}

-- (4/3) to the power of the number of tiered segments less one is at most the number of documents
abbrev pub TieredAreFew : Type 0
TieredAreFew = (s : ℕ) (ss : List ℕ) → AllByRecursion IsSome (s ∷ ss) → IsTiered (s ∷ ss)
    → 4 ^ length ss ≤ 3 ^ length ss * sum (s ∷ ss)

-- tiered segments of at most a million documents are at most 49
abbrev pub TieredAreAtMost49 : Type 0
TieredAreAtMost49 =
    (sizes : List ℕ) → AllByRecursion IsSome sizes → IsTiered sizes → sum sizes ≤ 1000000 → length sizes ≤ 49

-- what becomes of segments is what the policy names
abbrev pub FollowsPolicy : Type 0
FollowsPolicy = (segments : List (ℕ × ℕ)) → sizes_in (merged segments).segments
    ≡ merged_from (first_small (sizes_in segments)) (sizes_in segments)

-- segments that came one after the other are tiered
abbrev pub KeptIsTiered : Type 0
KeptIsTiered = (adds : List ℕ) → AllByRecursion IsSome adds → IsTiered (sizes_of (kept adds))

-- no document of them was moved often
abbrev pub MovedSeldom : Type 0
MovedSeldom = (adds : List ℕ) → AllByRecursion IsSome adds → AllByRecursion IsSeldom (kept adds).segments

-- all that was moved is at most what the moves of their documents are together
abbrev pub WorkIsBounded : Type 0
WorkIsBounded = (adds : List ℕ) → AllByRecursion IsSome adds → (kept adds).work ≤ work_of (kept adds).segments

-- they have as many documents as came
abbrev pub NoneIsLost : Type 0
NoneIsLost = (adds : List ℕ) → sum (sizes_of (kept adds)) ≡ sum adds
