-- What an order without ties says of a sorted list.
use Rattle.std.proofs.Common.{◌≡◌, suc, ◌+◌, true, false, Ordering, Less, Equal, Greater, List, ◌∷◌, get_or, refl, subst, arith, rules}
use Rattle.std.specs.Prelude.{All}
use Rattle.std.specs.List.Sorted.{IsSorted}
use Rattle.std.specs.Ordering.{is_lt, ordering_then, ordering_reverse}
use Rattle.std.specs.Cmp.{IsTotalOrder}
use Rattle.std.proofs.lemmas.List.Sorted.{sorted_far, ranks_by}

-- an answer and its reverse, of which neither is less
pub neither_is_less : (o p : Ordering) → is_lt o ≡ false → is_lt p ≡ false → p ≡ ordering_reverse o → o ≡ Equal
neither_is_less Less p f s r = absurd (search (rules, f))
neither_is_less Equal p f s r = refl
neither_is_less Greater p f s r = let g : is_lt p ≡ true = rw r refl in absurd (search (rules, s, g))

pub is_less : (o : Ordering) → is_lt o ≡ true → o ≡ Less
is_less Less e = refl
is_less Equal e = absurd cc
is_less Greater e = absurd cc

-- where two answers in turn say equal, the second does
pub second_is_equal : (o p : Ordering) → ordering_then o p ≡ Equal → p ≡ Equal
second_is_equal Less p e = absurd (search (rules, e))
second_is_equal Equal p e = e
second_is_equal Greater p e = absurd (search (rules, e))

module _ {X : Type 0} (cmp : X → X → Ordering) where
  pub tail_sorted : (x : X) (xs : List X) → IsSorted cmp (x ∷ xs) → IsSorted cmp xs
  tail_sorted x xs up k d low high =
      let next : suc k + 1 ≡ suc (k + 1) = omega arith in
      subst (λ n. is_lt (cmp (get_or (x ∷ xs) n d) (get_or xs k d)) ≡ false) next (up (suc k) d (omega arith) (omega arith))

  -- none is before the first
  pub first_is_first : IsTotalOrder cmp → (x : X) (xs : List X) → IsSorted cmp (x ∷ xs) → All (λ y. is_lt (cmp y x) ≡ false) (x ∷ xs)
  first_is_first total x xs up k d lt = sorted_far (λ x y. is_lt (cmp x y)) (ranks_by total (λ c. c)) (x ∷ xs) up 0 k d (omega arith) lt
