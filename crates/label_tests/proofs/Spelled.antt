-- Ordinals that are written one after the other.
use Rattle.std.proofs.Common.{ℕ, ◌+◌, ◌<◌, ◌^◌, List, [], ◌∷◌, ◌++◌, length, take, get_or, sym, ap, subst, ◌∙◌}
use Rattle.std.proofs.lemmas.List.{flat_map_more, take_more}
use Rattle.facet_codec.specs.Spelling.{be32}
use Rattle.facet_codec.specs.Laws.{IsBelow}
use Rattle.seg_postings.specs.Bytes.{AreNumbers}
use Rattle.facet_codec.proofs.Lists.{each_push}

pub numbers_push : (bytes xs : List ℕ) (x : ℕ) → AreNumbers bytes xs → x < 2 ^ 32 → AreNumbers (bytes ++ be32 x) (xs ++ x ∷ [])
numbers_push bytes xs x h fits = record {
  spelled = ap (λ (bs : List ℕ). bs ++ be32 x) h.spelled ∙ flat_map_more be32 [] xs x;
  fit = each_push (IsBelow (2 ^ 32)) xs x h.fit fits;
}

-- one more of the ordinals is written
pub numbers_next : (bytes xs : List ℕ) (k : ℕ) → k < length xs → get_or xs k 0 < 2 ^ 32 → AreNumbers bytes (take k xs) → AreNumbers (bytes ++ be32 (get_or xs k 0)) (take (k + 1) xs)
numbers_next bytes xs k lt fits h = subst (AreNumbers (bytes ++ be32 (get_or xs k 0))) (sym (take_more xs k 0 lt)) (numbers_push bytes (take k xs) (get_or xs k 0) h fits)
