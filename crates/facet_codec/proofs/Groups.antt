-- The groups of a number, one after the other.
use Rattle.std.proofs.Common.{◌≡◌, ℕ, zero, suc, ◌+◌, ◌-◌, ◌*◌, ◌/◌, ◌%◌, ◌<◌, ◌≤◌, List, [], ◌∷◌, ◌++◌, refl, append_assoc, arith, lit≤}
use Rattle.std.proofs.lemmas.Bool.{le-ltb}
use Rattle.facet_codec.specs.Spelling.{groups}
use Rattle.facet_codec.specs.Spelling.{bound}

-- one group more at the end of what was written
pub groups_more : (out : List ℕ) (i n : ℕ) → i < 5 → 128 ≤ n → (out ++ (n % 128 + 128) ∷ []) ++ groups (5 - (i + 1)) (n / 128) ≡ out ++ groups (5 - i) n
unfolding groups
groups_more out i n lt le =
    let k : 5 - i ≡ suc (5 - (i + 1)) = omega arith in
    rw (append_assoc, k, le-ltb n 128 le) refl

pub bound_below : (more : ℕ) → more ≤ 2 → bound more ≤ 16 * 128 * 128
bound_below zero le = lit≤ tt
bound_below (suc zero) le = lit≤ tt
bound_below (suc (suc zero)) le = lit≤ tt
bound_below (suc (suc (suc n))) le = absurd (omega arith)

pub sixteen_le : (more : ℕ) → 16 ≤ bound more
sixteen_le zero = lit≤ tt
sixteen_le (suc more) = omega (arith, sixteen_le more)

pub bound_more : (more : ℕ) → 0 < more → 128 ≤ bound more
bound_more zero lt = absurd (omega arith)
bound_more (suc more) lt = omega (arith, sixteen_le more)
