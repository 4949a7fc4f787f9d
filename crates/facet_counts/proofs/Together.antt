-- What two counters have counted together, and what a counter has with more lists.
use Rattle.std.proofs.Common.{◌≡◌, ℕ, ◌+◌, ◌<◌, ◌≤◌, ◌^◌, Bool, true, ◌||◌, eqb, List, [], ◌∷◌, ◌++◌, map, length, get_or, set, nat_eq, refl, sym, ap, subst, ◌∙◌, inl, inr, arith}
use Rattle.std.specs.Prelude.{cond, count_by, All}
use Rattle.std.specs.List.{list_any}
use Rattle.std.proofs.lemmas.Bool.{cases_eq, eq-eqb}
use Rattle.std.proofs.lemmas.List.{get_or-set_same, get_or-set_other, length-append, length-map, length-set}
use Rattle.std.proofs.lemmas.List.Elements.{All-append, All-nil, All-cons}
use Rattle.std.proofs.lemmas.List.Sums.{count_by-le-length, sum_by-append}
use Rattle.seg_postings.specs.Rising.{is_in}
use Rattle.facet_counts.specs.Kept.{IsCounter}
use Rattle.facet_counts.specs.Lists.{IsCounted}
use Rattle.facet_counts.specs.Tallies.{Tally, HasAdded}
use Rattle.std.proofs.Math.Bool.{or-true}

-- The numbers before k are sums, and the others are as they were.
pub record AreSummed (k : ℕ) (now old others : List ℕ) : Type 0 where
  pub len : length now ≡ length old
  pub done : (j : ℕ) → j < k → get_or now j 0 ≡ get_or old j 0 + get_or others j 0
  pub rest : (j : ℕ) → k ≤ j → get_or now j 0 ≡ get_or old j 0

pub none_summed : (old others : List ℕ) → AreSummed 0 old old others
none_summed old others = record { len = refl; done = λ j l. absurd (omega arith); rest = λ j l. refl }

pub summed_more : (k : ℕ) (now old others : List ℕ) → AreSummed k now old others → k < length now → AreSummed (k + 1) (set now k (get_or now k 0 + get_or others k 0)) old others
summed_more k now old others so_far within =
    let sum : ℕ = get_or now k 0 + get_or others k 0 in
    record {
      len = length-set now k sum ∙ so_far.len;
      done = λ j l. elim (cases_eq j k) [
        | inl same ↦
            ap (λ i. get_or (set now k sum) i 0) same ∙ get_or-set_same now k sum 0 within ∙ ap (λ n. n + get_or others k 0) (so_far.rest k (omega arith))
            ∙ ap (λ i. get_or old i 0 + get_or others i 0) (sym same)
        | inr other ↦ get_or-set_other now k j sum 0 other ∙ so_far.done j (omega arith)
      ];
      rest = λ j l. get_or-set_other now k j sum 0 (λ e. omega arith) ∙ so_far.rest j (omega arith);
    }

-- a tally of the labels and the config of one, with these numbers
abbrev pub tally_of : Tally → List ℕ → ℕ → Tally
tally_of a own added = record { labels = a.labels; config = a.config; own = own; added = added }

module _ (a b : Tally) (labels : b.labels ≡ a.labels) (config : b.config ≡ a.config) where
  others_counted : (list : List ℕ) → IsCounted b.config b.labels list → IsCounted a.config a.labels list
  others_counted list is = subst (λ l. IsCounted a.config l list) labels (subst (λ c. IsCounted c b.labels list) config is)

  pub lists_together : (own : List ℕ) → ((i : ℕ) → i < length a.labels → get_or own i 0 ≡ get_or a.own i 0 + get_or b.own i 0)
      → (xs ys : List (List ℕ)) → HasAdded a xs → HasAdded b ys → HasAdded (tally_of a own (a.added + b.added)) (xs ++ ys)
  lists_together own sums xs ys first second = record {
    each = All-append (IsCounted a.config a.labels) xs ys first.each (λ k d l. others_counted (get_or ys k d) (second.each k d l));
    number = omega (arith, first.number, second.number, length-append xs ys);
    own = λ i l.
        let test : List ℕ → Bool = list_any (nat_eq i) in
        sums i l ∙ (λ t. first.own i l t + second.own i (omega (arith, l, ap length labels)) t) ∙ sym (sum_by-append (λ list. cond (test list) 1 0) xs ys);
  }

  pub counter_together : (rolled others : List Bool) → IsCounter a rolled → IsCounter b others → a.added + b.added ≤ 1000000 → (own : List ℕ) → length own ≡ length a.own
      → ((i : ℕ) → i < length a.labels → get_or own i 0 ≡ get_or a.own i 0 + get_or b.own i 0) → IsCounter (tally_of a own (a.added + b.added)) rolled
  counter_together rolled others first second few own size sums = record {
    list = first.list;
    few = first.few;
    sized = size ∙ first.sized;
    as_many_marks = first.as_many_marks;
    marks = first.marks;
    some = (first.some.0 ++ second.some.0, lists_together own sums first.some.0 second.some.0 first.some.1 second.some.1);
    at_most = few;
  }

  -- each sum fits
  pub sum_fits : (rolled others : List Bool) → IsCounter a rolled → IsCounter b others → a.added + b.added ≤ 1000000 → (i : ℕ) → i < length a.labels → get_or a.own i 0 + get_or b.own i 0 < 2 ^ 32
  sum_fits rolled others first second few i l =
      omega (
        arith,
        few,
        first.some.1.own i l,
        second.some.1.own i (omega (arith, l, ap length labels)),
        first.some.1.number,
        second.some.1.number,
        count_by-le-length (list_any (nat_eq i)) first.some.0,
        count_by-le-length (list_any (nat_eq i)) second.some.0,
      )

-- ---- more lists

-- what holds at each of the places holds of all that stands there
pub all_at : (P : List ℕ → Type 0) (f : ℕ → List ℕ) (places : List ℕ) → ((n : ℕ) → is_in n places ≡ true → P (f n)) → All P (map f places)
all_at P f [] h = All-nil P
all_at P f (x ∷ xs) h =
    All-cons P (f x) (map f xs) (h x (ap (λ b. b || is_in x xs) (eq-eqb x x refl))) (all_at P f xs (λ n i. h n (ap (λ b. eqb n x || b) i ∙ or-true (eqb n x))))

module _ (tally : Tally) (own : List ℕ) (f : ℕ → List ℕ) (places : List ℕ) (counted : (n : ℕ) → is_in n places ≡ true → IsCounted tally.config tally.labels (f n))
    (plus : (i : ℕ) → i < length tally.labels → get_or own i 0 ≡ get_or tally.own i 0 + count_by (list_any (nat_eq i)) (map f places)) where
  pub more_lists : (lists : List (List ℕ)) → HasAdded tally lists → HasAdded (tally_of tally own (tally.added + length places)) (lists ++ map f places)
  more_lists lists has = record {
    each = All-append (IsCounted tally.config tally.labels) lists (map f places) has.each (all_at (IsCounted tally.config tally.labels) f places counted);
    number = omega (arith, has.number, length-append lists (map f places), length-map places f);
    own = λ i l. plus i l ∙ ap (λ n. n + count_by (list_any (nat_eq i)) (map f places)) (has.own i l) ∙ sym (sum_by-append (λ list. cond (list_any (nat_eq i) list) 1 0) lists (map f places));
  }

  pub counter_with_more : (rolled : List Bool) → IsCounter tally rolled → tally.added + length places ≤ 1000000 → length own ≡ length tally.own → IsCounter (tally_of tally own (tally.added + length places)) rolled
  counter_with_more rolled counter few size = record {
    list = counter.list;
    few = counter.few;
    sized = size ∙ counter.sized;
    as_many_marks = counter.as_many_marks;
    marks = counter.marks;
    some = (counter.some.0 ++ map f places, more_lists counter.some.0 counter.some.1);
    at_most = few;
  }

-- there is room for one more of each place
pub more_fit : (tally : Tally) (rolled : List Bool) → IsCounter tally rolled → (number : ℕ) → tally.added + number ≤ 1000000 → (i : ℕ) → i < length tally.labels → get_or tally.own i 0 + number < 2 ^ 32
more_fit tally rolled counter number few i l = omega (arith, few, counter.some.1.own i l, counter.some.1.number, count_by-le-length (list_any (nat_eq i)) counter.some.0)
