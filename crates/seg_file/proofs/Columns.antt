-- The counted ordinals of the records, one list after the other.
use Rattle.std.proofs.Common.{◌≡◌, ℕ, ◌+◌, ◌<◌, ◌≤◌, List, [], ◌∷◌, ◌++◌, length, map, take, sym, ap, ◌∙◌}
use Rattle.std.specs.List.{AllByRecursion}
use Rattle.std.proofs.lemmas.List.{map_push, take_all, take_more}
use Rattle.facet_model.specs.Stored.{Stored, Records}
use Rattle.seg_grammar.specs.Lookups.{record_of}
use Rattle.seg_grammar.specs.Spelling.{IsRecord}
use Rattle.seg_postings.specs.Rising.{IsRising}

-- the lists of the first k records
abbrev pub AreFirstCounted : Records → ℕ → List (List ℕ) → Type 0
AreFirstCounted s k lists = lists ≡ map (λ r. r.counted) (take k s.records)

pub one_more : (s : Records) (k : ℕ) (old new : List (List ℕ)) (list : List ℕ) → k < length s.records → AreFirstCounted s k old → new ≡ old ++ list ∷ [] → list ≡ (record_of s k).counted → AreFirstCounted s (k + 1) new
one_more s k old new list lt before pushed is =
    pushed ∙ (λ i. before i ++ is i ∷ []) ∙ sym (map_push (λ (r : Stored). r.counted) (take k s.records) (record_of s k)) ∙ ap (map (λ (r : Stored). r.counted)) (sym (take_more s.records k (record { id = []; text = []; leaves = []; counted = [] }) lt))

pub all_of_them : (s : Records) (k : ℕ) (lists : List (List ℕ)) → length s.records ≤ k → AreFirstCounted s k lists → lists ≡ map (λ r. r.counted) s.records
all_of_them s k lists le before = before ∙ ap (map (λ (r : Stored). r.counted)) (take_all k s.records le)

pub each_rises : (rs : List Stored) → AllByRecursion IsRecord rs → AllByRecursion IsRising (map (λ r. r.counted) rs)
each_rises [] all = tt
each_rises (r ∷ rs) all = (all.0.counted.rise, each_rises rs all.1)
