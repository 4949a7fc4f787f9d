-- The order of words.
use Rattle.std.proofs.Common.{◌≡◌, ℕ, false, List, refl}
use Rattle.std.specs.declared.cmp.Ordering.{Ordering}
use Rattle.std.specs.declared.cmp.Ordering.TheVariants.{Less, Equal, Greater}
use Rattle.std.specs.Ordering.{is_lt, ordering_reverse}
use Rattle.std.specs.Cmp.Lexicographic.{nat_list_cmp_total}
use Rattle.facet_model.specs.Words.{word_cmp}

pub not_less_itself : (x : List ℕ) → is_lt (word_cmp x x) ≡ false
not_less_itself x = by (word_cmp x x) (nat_list_cmp_total.antisymm x x)
  where
    by : (o : Ordering) → o ≡ ordering_reverse o → is_lt o ≡ false
    by Less e = absurd cc
    by Equal e = refl
    by Greater e = refl
