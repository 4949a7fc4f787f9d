-- What was done in the first phases comes first.
use Rattle.std.proofs.Common.{◌≡◌, ◌⊎◌, inl, inr, ⊎_elim, ℕ, ◌+◌, ◌≤◌, ◌<◌, Bool, true, false, cond, List, [], ◌∷◌, ◌++◌, map, Option, Some, None, slice_get, refl, sym, ap, ◌∙◌, arith, append_assoc}
use Rattle.std.specs.Prelude.{drop, filter, nat_lt, unwrap_or}
use Rattle.std.specs.List.{cons_option}
use Rattle.std.proofs.lemmas.Bool.{cases_lt, le-ltb, lt-ltb}
use Rattle.facet_model.specs.Core.{State}
use Rattle.facet_core.specs.Laws.{ran as ran_core}
use Rattle.facet_output.specs.Answered.{Answered}
use Rattle.facet_output.specs.Effects.{Effect, Report}
use Rattle.facet_output.specs.Seen.{Seen, Sees}
use Rattle.facet_output.specs.Sessions.{PhasesRan, steps_of}
use Rattle.facet_output.specs.Steps.{Step}
use Rattle.facet_output.proofs.Among.{In, all_at, of_append}
use Rattle.core_runs.specs.Moves.{Move, answer_to, answers_in, events_of}
use Rattle.core_runs.proofs.Sorting.{Rises, put, put_first, sorted}

-- ---- sorting two parts

module _ {A : Type 0} (le : A → A → Bool) where
  put_front : (x : A) (xs ys : List A) → ((y : A) → In y ys → le x y ≡ true) → put le x (xs ++ ys) ≡ put le x xs ++ ys
  put_front x [] ys each = put_first le x ys each
  put_front x (z ∷ xs) ys each = by (le x z) (put_front x xs ys each)
    where
      by : (b : Bool) → put le x (xs ++ ys) ≡ put le x xs ++ ys → cond b (x ∷ z ∷ xs ++ ys) (z ∷ put le x (xs ++ ys)) ≡ cond b (x ∷ z ∷ xs) (z ∷ put le x xs) ++ ys
      by true rest = refl
      by false rest = ap (λ (l : List A). z ∷ l) rest

  -- each of the first is no greater than each of the others
  pub sorted_parts : (in_sorted : (ys : List A) (z : A) → In z (sorted le ys) → In z ys) (xs ys : List A) → ((x y : A) → In x xs → In y ys → le x y ≡ true) → sorted le (xs ++ ys) ≡ sorted le xs ++ sorted le ys
  sorted_parts in_sorted [] ys each = refl
  sorted_parts in_sorted (x ∷ xs) ys each =
      ap (put le x) (sorted_parts in_sorted xs ys (λ a b there there'. each a b (inr there) there'))
      ∙ put_front x (sorted le xs) (sorted le ys) (λ y there. each x y (inl refl) (in_sorted ys y there))

  pub rises_front : (xs ys : List A) → Rises le (xs ++ ys) → Rises le xs
  rises_front [] ys rise = tt
  rises_front (x ∷ xs) ys rise = ((λ y there. rise.0 y (left xs y there)), rises_front xs ys rise.1)
    where
      left : (xs : List A) (y : A) → In y xs → In y (xs ++ ys)
      left [] y there = absurd there
      left (x ∷ xs) y there = ⊎_elim (λ is. inl is) (λ later. inr (left xs y later)) there

-- ---- the steps of the first phases

pub record Split (n : ℕ) (steps : List Step) : Type 0 where
  pub first : List Step
  pub later : List Step
  pub parts : steps ≡ first ++ later
  pub below : (x : Step) → In x first → x.answered.phase < n
  pub above : (x : Step) → In x later → n ≤ x.answered.phase

phases_from : (phase : ℕ) (known : Seen) (ran : List (List Step)) (last : Seen) (x : Step) → PhasesRan phase known ran last → In x (steps_of ran) → phase ≤ x.answered.phase
phases_from phase known [] last x told there = absurd there
phases_from phase known (steps ∷ ran) last x told there = ⊎_elim
    (λ here. let e = (all_at (λ (x : Step). (x.answered.phase ≡ phase) × Sees known x.before × Sees x.after told.0) steps x told.2 here).0 in omega arith)
    (λ later. let l = phases_from (phase + 1) told.0 ran last x told.3 later in omega arith)
    (of_append steps (steps_of ran) x there)

pub split_phases : (n phase : ℕ) (known : Seen) (ran : List (List Step)) (last : Seen) → PhasesRan phase known ran last → Split n (steps_of ran)
split_phases n phase known [] last told = record { first = []; later = []; parts = refl; below = λ x there. absurd there; above = λ x there. absurd there }
split_phases n phase known (steps ∷ ran) last told = by (cases_lt phase n) (split_phases n (phase + 1) told.0 ran last told.3)
  where
    by : (phase < n) ⊎ (n ≤ phase) → Split n (steps_of ran) → Split n (steps_of (steps ∷ ran))
    by (inl lt) r = record {
      first = steps ++ r.first;
      later = r.later;
      parts = ap (λ l. steps ++ l) r.parts ∙ sym (append_assoc steps r.first r.later);
      below = λ x there. ⊎_elim
          (λ here. let e = (all_at (λ (x : Step). (x.answered.phase ≡ phase) × Sees known x.before × Sees x.after told.0) steps x told.2 here).0 in omega arith)
          (λ later. r.below x later) (of_append steps r.first x there);
      above = r.above;
    }
    by (inr ge) r = record {
      first = [];
      later = steps_of (steps ∷ ran);
      parts = refl;
      below = λ x there. absurd there;
      above = λ x there. let l = phases_from phase known (steps ∷ ran) last x told there in omega arith;
    }

-- the answers of the first phases
pub first_answers : (n : ℕ) (first later : List Step) → ((x : Step) → In x first → x.answered.phase < n) → ((x : Step) → In x later → n ≤ x.answered.phase)
    → filter (λ (a : Answered). nat_lt a.phase n) (map (λ (x : Step). x.answered) (first ++ later)) ≡ map (λ (x : Step). x.answered) first
first_answers n [] [] below above = refl
first_answers n [] (y ∷ later) below above =
    let fails : nat_lt y.answered.phase n ≡ false = le-ltb y.answered.phase n (above y (inl refl)) in
    let rest = first_answers n [] later below (λ x there. above x (inr there)) in
    ap (λ (b : Bool). cond b (y.answered ∷ filter (λ (a : Answered). nat_lt a.phase n) (map (λ (x : Step). x.answered) later)) (filter (λ (a : Answered). nat_lt a.phase n) (map (λ (x : Step). x.answered) later))) fails ∙ rest
first_answers n (x ∷ first) later below above =
    let passes : nat_lt x.answered.phase n ≡ true = lt-ltb x.answered.phase n (below x (inl refl)) in
    let rest = first_answers n first later (λ y there. below y (inr there)) above in
    ap (λ (b : Bool). cond b (x.answered ∷ filter (λ (a : Answered). nat_lt a.phase n) (map (λ (x : Step). x.answered) (first ++ later))) (filter (λ (a : Answered). nat_lt a.phase n) (map (λ (x : Step). x.answered) (first ++ later)))) passes
    ∙ ap (λ (l : List Answered). x.answered ∷ l) rest

-- ---- moves in two parts, by their answers

abbrev Answer : Type 0
Answer = ℕ × (Effect × Report)

pub split_moves : (s : State) (moves : List Move) (xs ys : List Answer) → answers_in s moves ≡ xs ++ ys
    → (first : List Move) × (later : List Move) × (moves ≡ first ++ later) × (answers_in s first ≡ xs)
split_moves s moves [] ys is = ([], moves, refl, refl)
split_moves s [] (x ∷ xs) ys is = absurd (let e = is in cc)
split_moves s (m ∷ moves) (x ∷ xs) ys is = by (answer_to s m) refl is (split_moves (ran_core s (events_of m)) moves)
  where
    by : (o : Option Answer) → answer_to s m ≡ o → cons_option o (answers_in (ran_core s (events_of m)) moves) ≡ x ∷ xs ++ ys
        → ((xs ys : List Answer) → answers_in (ran_core s (events_of m)) moves ≡ xs ++ ys → (first : List Move) × (later : List Move) × (moves ≡ first ++ later) × (answers_in (ran_core s (events_of m)) first ≡ xs))
        → (first : List Move) × (later : List Move) × (m ∷ moves ≡ first ++ later) × (answers_in s first ≡ x ∷ xs)
    by None e whole rest = let r = rest (x ∷ xs) ys whole in
        (m ∷ r.0, r.1, ap (λ (l : List Move). m ∷ l) r.2, ap (λ (o : Option Answer). cons_option o (answers_in (ran_core s (events_of m)) r.0)) e ∙ r.3)
    by (Some a) e whole rest =
        let r = rest xs ys (ap (λ (l : List Answer). drop 1 l) whole) in
        let f : Some a ≡ Some x = ap (λ (l : List Answer). slice_get l 0) whole in
        let same : a ≡ x = ap (λ (o : Option Answer). unwrap_or o a) f in (
          m ∷ r.0,
          r.1,
          ap (λ (l : List Move). m ∷ l) r.2,
          ap (λ (o : Option Answer). cons_option o (answers_in (ran_core s (events_of m)) r.0)) e ∙ (λ i. same i ∷ r.3 i),
        )
