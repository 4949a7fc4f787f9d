-- Places that are written one after the other.
use Rattle.std.proofs.Common.{ℕ, ◌+◌, ◌<◌, ◌≤◌, ◌^◌, List, [], ◌∷◌, ◌++◌, ap, ◌∙◌, arith}
use Rattle.std.specs.List.{AllByRecursion}
use Rattle.std.proofs.lemmas.List.{flat_map_more}
use Rattle.facet_codec.specs.Spelling.{be32}
use Rattle.facet_codec.specs.Laws.{IsBelow}
use Rattle.seg_postings.specs.Rising.{IsBelowAll, IsRising}
use Rattle.seg_postings.specs.Bytes.{ArePlaces}
use Rattle.facet_codec.proofs.Lists.{each_push}

-- The bytes are rising places below a number.
pub record AreWritten (bytes : List ℕ) (least : ℕ) : Type 0 where
  pub places : List ℕ
  pub are : ArePlaces bytes places
  pub below : AllByRecursion (IsBelow least) places

below_later : (n m : ℕ) (xs : List ℕ) → n ≤ m → AllByRecursion (IsBelow n) xs → AllByRecursion (IsBelow m) xs
below_later n m [] le h = tt
below_later n m (x ∷ xs) le h = (omega (arith, h.0), below_later n m xs le h.1)

pub below_push : (y x : ℕ) (xs : List ℕ) → y < x → IsBelowAll y xs → IsBelowAll y (xs ++ x ∷ [])
below_push y x [] lt h = (lt, tt)
below_push y x (z ∷ zs) lt h = (h.0, below_push y x zs lt h.1)

pub rising_push : (xs : List ℕ) (x : ℕ) → IsRising xs → AllByRecursion (IsBelow x) xs → IsRising (xs ++ x ∷ [])
rising_push [] x h k = (tt, tt)
rising_push (y ∷ ys) x h k = (below_push y x ys k.0 h.0, rising_push ys x h.1 k.1)

pub written_push : (bytes : List ℕ) (least p : ℕ) → AreWritten bytes least → least ≤ p → p < 2 ^ 32 → AreWritten (bytes ++ be32 p) (p + 1)
written_push bytes least p h le fits = record {
  places = h.places ++ p ∷ [];
  are = record {
    spelled = ap (λ (bs : List ℕ). bs ++ be32 p) h.are.spelled ∙ flat_map_more be32 [] h.places p;
    fit = each_push (IsBelow (2 ^ 32)) h.places p h.are.fit fits;
    rise = rising_push h.places p h.are.rise (below_later least p h.places le h.below);
  };
  below = each_push (IsBelow (p + 1)) h.places p (below_later least (p + 1) h.places (omega arith) h.below) (omega arith);
}
