-- Places of records that are live.
use Rattle.std.proofs.Common.{◌≡◌, ℕ, suc, ◌≤◌, Bool, true, false, List, [], ◌∷◌, length, Option, Some, None, refl, sym, ap, ◌∙◌, arith}
use Rattle.std.specs.Prelude.{◌&&◌, not, filter, nat_lt, slice_get, count_by}
use Rattle.std.specs.Option.{is_some, option_map_or}
use Rattle.std.proofs.lemmas.Bool.{lt-ltb}
use Rattle.std.proofs.lemmas.List.{length-map}
use Rattle.facet_model.specs.CountedPaths.{places}
use Rattle.facet_model.specs.Stored.{alive, is_dead, live_before}
use Rattle.live_records.proofs.Alive.{is_in-is_dead, live_places}
use Rattle.seg_postings.specs.Rising.{IsNext, IsRising, is_in, from_place}
use Rattle.seg_postings.specs.Sets.{either, picked, without}
use Rattle.seg_postings.proofs.Members.{is_in-either, is_in-without, one_rising}
use Rattle.seg_postings.proofs.Sets.{rising_without, is_in_from}
use Rattle.query_eval.proofs.Marks.{at, is_in_places, length_from_place, rising_places}
use Rattle.std.proofs.Math.Bool.{or-false}

-- what is left depends on what is in the second alone
pub without_same : (xs ys zs : List ℕ) → ((n : ℕ) → is_in n ys ≡ is_in n zs) → without xs ys ≡ without xs zs
unfolding without picked
without_same xs ys zs same = ap (λ (t : ℕ → Bool). filter t xs) (λ i x. not (same x i))

-- without none, all are left
pub without_nothing : (xs : List ℕ) → without xs [] ≡ xs
unfolding without picked
without_nothing [] = refl
without_nothing (x ∷ xs) = ap (λ l. x ∷ l) (without_nothing xs)

pub without_one_list : (xs ys : List ℕ) → without xs (either ys []) ≡ without xs ys
without_one_list xs ys = without_same xs (either ys []) ys (λ n. is_in-either n ys [] ∙ or-false (is_in n ys))

-- as many live places as live documents that pass
pub live_number : {A : Type 0} (dead : List ℕ) (test : A → Bool) (docs : List A) → length (without (places test docs) dead) ≡ count_by test (alive dead docs)
live_number dead test docs =
    sym (length-map (without (places test docs) dead) (live_before dead))
    ∙ ap length (live_places dead test 0 docs)
    ∙ length_from_place 0 test (alive dead docs)

-- a rising list that has exactly the live places of those that pass
pub are_live : {A : Type 0} (test : A → Bool) (docs : List A) (dead xs : List ℕ) → IsRising xs → ((n : ℕ) → is_in n xs ≡ (at test docs n && not (is_in n dead))) → xs ≡ without (places test docs) dead
are_live test docs dead xs rises same =
    one_rising xs (without (places test docs) dead) rises (rising_without (places test docs) dead (rising_places test docs))
    (λ n. same n ∙ sym (is_in-without n (places test docs) dead ∙ ap (λ b. b && not (is_in n dead)) (is_in_places n test docs)))

-- a live one passes exactly where a live place is left
pub first_live : {A : Type 0} (dead : List ℕ) (test : A → Bool) (docs : List A) (r : Option ℕ) (old new : List ℕ) → old ≡ without (places test docs) dead → IsNext r old new → is_some r ≡ nat_lt 0 (count_by test (alive dead docs))
first_live dead test docs None old new are next = ap (nat_lt 0) (ap length (sym next.0) ∙ ap length are ∙ live_number dead test docs)
first_live dead test docs (Some x) old new are next = some_first old new x next ∙ ap (nat_lt 0) (ap length are ∙ live_number dead test docs)
  where
    some_first : (old new : List ℕ) (x : ℕ) → old ≡ x ∷ new → true ≡ nat_lt 0 (length old)
    some_first [] new x h = absurd cc
    some_first (y ∷ ys) new x h = sym (lt-ltb 0 (suc (length ys)) (omega arith))

-- a place that was not passed is left exactly where it is live and its document passes
pub left_at : {A : Type 0} (test : A → Bool) (docs : List A) (dead : List ℕ) (first n : ℕ) (d : A) (left : List ℕ) → left ≡ from_place first (without (places test docs) dead) → first ≤ n → slice_get docs n ≡ Some d → is_in n left ≡ (test d && not (is_dead dead n))
left_at test docs dead first n d left are le there =
    ap (is_in n) are
    ∙ is_in_from n first (without (places test docs) dead) le
    ∙ is_in-without n (places test docs) dead
    ∙ (λ i. (is_in_places n test docs ∙ ap (λ o. option_map_or test o false) there) i && not (is_in-is_dead n dead i))
