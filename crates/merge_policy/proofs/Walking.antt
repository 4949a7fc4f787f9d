-- The walk over sizes from the end.
use Rattle.std.proofs.Common.{◌≡◌, ℕ, suc, ◌+◌, ◌-◌, ◌*◌, ◌<◌, ◌≤◌, Bool, true, false, cond, List, ◌∷◌, drop, length, get_or, drop-cons, sym, ap, subst, ◌∙◌, arith}
use Rattle.std.specs.Prelude.{sum, nat_le}
use Rattle.std.proofs.lemmas.Bool.{le-leb, lt-leb}
use Rattle.std.proofs.lemmas.List.{drop_all}
use Rattle.merge_policy.specs.Tiers.{first_small}
use Rattle.merge_policy.proofs.Tiers.{sum-cons}

-- What the walk knows at a place: which segment is the first small one from there on, and how many documents there are.
pub record IsWalked (sizes : List ℕ) (at from total : ℕ) : Type 0 where
  pub within : at ≤ length sizes
  pub first : from ≡ at + first_small (drop at sizes)
  pub behind : total ≡ sum (drop at sizes)

pub walked_none : (sizes : List ℕ) → IsWalked sizes (length sizes) (length sizes) 0
walked_none sizes =
    let none = drop_all (length sizes) sizes (omega arith) in
    let small : first_small (drop (length sizes) sizes) ≡ 0 = ap first_small none in
    let size : sum (drop (length sizes) sizes) ≡ 0 = ap sum none in
    record { within = omega arith; first = omega (arith, small); behind = sym size }

pub one_less : (sizes : List ℕ) (at from total : ℕ) → 0 < at → IsWalked sizes at from total → IsWalked sizes (suc (at - 1)) from total
one_less sizes at from total some walked = let e : at ≡ suc (at - 1) = omega (arith, some) in subst (λ n. IsWalked sizes n from total) e walked

module _ (sizes : List ℕ) (at from total : ℕ) (walked : IsWalked sizes (suc at) from total) where
  here : drop at sizes ≡ get_or sizes at 0 ∷ drop (suc at) sizes
  here = drop-cons sizes at 0 (omega (arith, walked.within))

  pub walked_sum : total + get_or sizes at 0 ≡ sum (drop at sizes)
  walked_sum = omega (arith, walked.behind, ap sum here, sum-cons (get_or sizes at 0) (drop (suc at) sizes))

  first_is : (b : Bool) → nat_le (sum (drop (suc at) sizes)) (3 * get_or sizes at 0) ≡ b → first_small (drop at sizes) ≡ cond b (suc (first_small (drop (suc at) sizes))) 0
  first_is b test = ap first_small here ∙ ap (λ t. cond t (suc (first_small (drop (suc at) sizes))) 0) test

  pub walked_small : 3 * get_or sizes at 0 < total → IsWalked sizes at at (total + get_or sizes at 0)
  walked_small small =
      let first = first_is false (lt-leb (sum (drop (suc at) sizes)) (3 * get_or sizes at 0) (omega (arith, small, walked.behind))) in
      record { within = omega (arith, walked.within); first = omega (arith, first); behind = walked_sum }

  pub walked_great : total ≤ 3 * get_or sizes at 0 → IsWalked sizes at from (total + get_or sizes at 0)
  walked_great great =
      let first = first_is true (le-leb (sum (drop (suc at) sizes)) (3 * get_or sizes at 0) (omega (arith, great, walked.behind))) in
      record { within = omega (arith, walked.within); first = omega (arith, walked.first, first); behind = walked_sum }
