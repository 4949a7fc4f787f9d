-- One turn of the loop that rolls the counts up, and what it starts and ends with.
use Rattle.std.proofs.Common.{◌≡◌, ℕ, ◌+◌, ◌<◌, ◌≤◌, ◌^◌, ◌⊎◌, Bool, true, false, not, ◌&&◌, cond, List, [], ◌∷◌, length, take, get_or, set, Option, Some, None, nat_eq, refl, sym, ap, subst, ◌∙◌, arith, rules, inl, inr}
use Rattle.std.specs.Prelude.{IfSome, count_by}
use Rattle.std.specs.Option.{option_map_or}
use Rattle.std.proofs.lemmas.Bool.{cases_eq, ne_eqb}
use Rattle.std.proofs.lemmas.List.{length-set, get_or-set_same, get_or-set_other}
use Rattle.std.proofs.lemmas.List.Sums.{sum_by-cons}
use Rattle.facet_model.specs.Flags.{flags}
use Rattle.facet_model.specs.Documents.{dim_of}
use Rattle.taxo_list.specs.DimLists.{dims_of, IsDimNumber}
use Rattle.facet_counts.specs.Lists.{is_rolled, lists_at, counts_for}
use Rattle.facet_counts.specs.Tallies.{Tally, HasAdded}
use Rattle.facet_counts.specs.Climbs.{climbed, goes_to, next_of, IsRolledTo}
use Rattle.facet_counts.specs.Kept.{IsCounter}
use Rattle.facet_counts.proofs.Climbing.{others_keep, parent_gets}
use Rattle.facet_counts.proofs.Parents.{goes_smaller, goes_dim}
use Rattle.facet_counts.proofs.Rolling.{apart, climbed_none, climbed_all}

pub count_most : {X : Type 0} (p : X → Bool) (xs : List X) → count_by p xs ≤ length xs
count_most p [] = omega arith
count_most p (x ∷ xs) = omega (arith, sum_by-cons (λ x. cond (p x) 1 0) x xs, count_most p xs, one (p x))
  where
    one : (b : Bool) → cond b 1 0 ≤ 1
    one true = omega arith
    one false = omega arith

dim_first : (path : List (List ℕ)) → dim_of (take 1 path) ≡ dim_of path
dim_first [] = refl
dim_first (part ∷ path) = refl

module _ (tally : Tally) (rolled : List Bool) (counter : IsCounter tally rolled) where
  -- with none rolled up, each count is that of the lists that have the ordinal
  pub rolled_none : IsRolledTo tally (length tally.labels) tally.own
  rolled_none = record {
    sized = counter.sized;
    each = λ lists added i some within. added.own i within ∙ sym (climbed_none tally.config tally.labels counter.list lists added.each i);
  }

  -- with all rolled up, it is that of the lists that count for it
  pub rolled_all : (counts : List ℕ) → IsRolledTo tally 1 counts → (lists : List (List ℕ)) → HasAdded tally lists → (i : ℕ) → 0 < i → i < length tally.labels → get_or counts i 0 ≡ lists_at tally.config tally.labels lists i
  rolled_all counts whole lists added i some within = whole.each lists added i some within ∙ climbed_all tally.config tally.labels counter.list lists added.each i some

  -- so it is at most a million
  pub rolled_small : (counts : List ℕ) → IsRolledTo tally 1 counts → (i : ℕ) → 0 < i → i < length tally.labels → get_or counts i 0 ≤ 1000000
  rolled_small counts whole i some within =
      let lists : List (List ℕ) = counter.some.0 in
      let is : get_or counts i 0 ≡ lists_at tally.config tally.labels lists i = rolled_all counts whole lists counter.some.1 i some within in
      let most : lists_at tally.config tally.labels lists i ≤ length lists = count_most (counts_for tally.config tally.labels i) lists in
      omega (arith, counter.some.1.number, counter.at_most)

  -- the mark of a label's dimension is that of the label
  pub mark_at : (n ord : ℕ) → IsDimNumber tally.labels (dims_of tally.labels) ord n → get_or rolled n false ≡ is_rolled tally.config tally.labels ord
  mark_at n ord number = counter.marks n number.0 ∙ ap (λ dim. (flags tally.config dim).hierarchical && not (flags tally.config dim).multi_valued) (ap dim_of number.1 ∙ dim_first (get_or tally.labels ord []))

  module _ (k : ℕ) (some : 0 < k) (within : k < length tally.labels) (counts : List ℕ) (so_far : IsRolledTo tally (k + 1) counts) (mark : Bool) (marked : mark ≡ is_rolled tally.config tally.labels k) where
    pub goes : next_of mark tally.labels k ≡ goes_to tally.config tally.labels k
    goes = ap (λ b. next_of b tally.labels k) marked

    -- where it goes to p, the two counts together are those of p in the next turn
    together : (p : ℕ) → goes_to tally.config tally.labels k ≡ Some p → (lists : List (List ℕ)) → HasAdded tally lists → get_or counts p 0 + get_or counts k 0 ≡ climbed (goes_to tally.config tally.labels) k lists p
    together p to lists added =
        let dims = goes_dim tally.config tally.labels counter.list k p to in
        let small : p < k = subst (λ o. IfSome o (λ q. q < k)) to (goes_smaller tally.config tally.labels counter.list k) in
        let parent : get_or counts p 0 ≡ climbed (goes_to tally.config tally.labels) (k + 1) lists p = so_far.each lists added p dims.5 (omega arith) in
        let own : get_or counts k 0 ≡ climbed (goes_to tally.config tally.labels) (k + 1) lists k = so_far.each lists added k some within in
        let sum = parent_gets (goes_to tally.config tally.labels) (goes_smaller tally.config tally.labels counter.list) k p lists to (λ n d lt. apart tally.config tally.labels counter.list k p (get_or lists n d) (added.each n d lt) to) in
        (λ t. parent t + own t) ∙ sym sum

    -- the sum fits
    pub fits : IfSome (next_of mark tally.labels k) (λ p. get_or counts p 0 + get_or counts k 0 < 2 ^ 32)
    fits = subst (λ o. IfSome o (λ p. get_or counts p 0 + get_or counts k 0 < 2 ^ 32)) (sym goes) (by (goes_to tally.config tally.labels k) refl)
      where
        by : (o : Option ℕ) → goes_to tally.config tally.labels k ≡ o → IfSome o (λ p. get_or counts p 0 + get_or counts k 0 < 2 ^ 32)
        by None to = search rules
        by (Some p) to =
            let lists : List (List ℕ) = counter.some.0 in
            let sum = together p to lists counter.some.1 in
            let most : climbed (goes_to tally.config tally.labels) k lists p ≤ length lists = count_most _ lists in
            omega (arith, counter.some.1.number, counter.at_most, sum, most)

    -- the turn
    pub turned : IsRolledTo tally k (option_map_or (λ p. set counts p (get_or counts p 0 + get_or counts k 0)) (next_of mark tally.labels k) counts)
    turned = subst (λ o. IsRolledTo tally k (option_map_or (λ p. set counts p (get_or counts p 0 + get_or counts k 0)) o counts)) (sym goes) (by (goes_to tally.config tally.labels k) refl)
      where
        by : (o : Option ℕ) → goes_to tally.config tally.labels k ≡ o → IsRolledTo tally k (option_map_or (λ p. set counts p (get_or counts p 0 + get_or counts k 0)) o counts)
        by None to = record {
          sized = so_far.sized;
          each = λ lists added i low lt. so_far.each lists added i low lt ∙ sym (others_keep (goes_to tally.config tally.labels) (goes_smaller tally.config tally.labels counter.list) k i lists (ap (λ o. option_map_or (nat_eq i) o false) to));
        }
        by (Some p) to = record {
          sized = length-set counts p (get_or counts p 0 + get_or counts k 0) ∙ so_far.sized;
          each = λ lists added i low lt. at lists added i low lt (cases_eq i p);
        }
          where
            at : (lists : List (List ℕ)) → HasAdded tally lists → (i : ℕ) → 0 < i → i < length tally.labels → (i ≡ p) ⊎ (i ≡ p → ⊥) → get_or (set counts p (get_or counts p 0 + get_or counts k 0)) i 0 ≡ climbed (goes_to tally.config tally.labels) k lists i
            at lists added i low lt (inl same) =
                let room : p < length counts = omega (arith, so_far.sized) in
                ap (λ n. get_or (set counts p (get_or counts p 0 + get_or counts k 0)) n 0) same ∙ get_or-set_same counts p (get_or counts p 0 + get_or counts k 0) 0 room ∙ together p to lists added ∙ ap (climbed (goes_to tally.config tally.labels) k lists) (sym same)
            at lists added i low lt (inr other) =
                get_or-set_other counts p i (get_or counts p 0 + get_or counts k 0) 0 other ∙ so_far.each lists added i low lt
                ∙ sym (others_keep (goes_to tally.config tally.labels) (goes_smaller tally.config tally.labels counter.list) k i lists (ap (λ o. option_map_or (nat_eq i) o false) to ∙ ne_eqb i p other))
