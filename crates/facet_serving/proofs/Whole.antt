-- The lines of the phases before one that was cut off, or was the last, and the lines of that one.
use Rattle.std.proofs.Common.{◌≡◌, ◌∙◌, inl, inr, ⊎_elim, ℕ, ◌+◌, ◌<◌, ◌≤◌, Bool, true, false, cond, List, [], ◌∷◌, ◌++◌, length, map, take, get_or, refl, sym, ap, subst, arith, append-nil, append_assoc, length-append, eq-eqb, ne_eqb}
use Rattle.std.specs.Prelude.{◌==◌, filter, nat_lt}
use Rattle.std.proofs.lemmas.Bool.{lt-ltb, le-ltb}
use Rattle.std.proofs.lemmas.List.{append_cancel_left, length-take, map-append, take_more}
use Rattle.std.proofs.lemmas.List.Elements.{filter-append}
use Rattle.facet_output.proofs.Among.{In, all_in, in_map, of_append, of_map}
use Rattle.facet_output.proofs.Exact.{filter_all}
use Rattle.facet_output.proofs.Ordered.{from_phase}
use Rattle.facet_output.specs.Answered.{Answered, by_session, in_writing_order}
use Rattle.facet_output.specs.OutputLines.{reply_lines}
use Rattle.facet_output.specs.Steps.{Step}
use Rattle.facet_phases.specs.Phases.{asked, answers_in}
use Rattle.facet_phases.specs.Runs.{IsCutOff}
use Rattle.facet_words.specs.Commands.{Order}
use Rattle.facet_serving.specs.Sessions.{lines_before, lines_in}

from_append : (n : ℕ) (xs ys : List (List Order)) → from_phase n (xs ++ ys) ≡ from_phase n xs ++ from_phase (n + length xs) ys
from_append n [] ys = ap (λ k. from_phase k ys) (let e : n ≡ n + 0 = omega arith in e)
from_append n (x ∷ xs) ys =
    let here : List (ℕ × Order) = map {B = ℕ × Order} (λ o. (n, o)) (by_session x) in
    ap (λ l. here ++ l) (from_append (n + 1) xs ys ∙ ap (λ k. from_phase (n + 1) xs ++ from_phase k ys) (let e : n + 1 + length xs ≡ n + length (x ∷ xs) = omega arith in e))
    ∙ sym (append_assoc here (from_phase (n + 1) xs) (from_phase (n + length (x ∷ xs)) ys))

-- their numbers
in_phases : (n : ℕ) (phases : List (List Order)) (k : ℕ × Order) → In k (from_phase n phases) → (n ≤ k.0) × (k.0 < n + length phases)
in_phases n [] k there = absurd there
in_phases n (x ∷ xs) k there =
    let one : Order → ℕ × Order = λ o. (n, o) in
    ⊎_elim
    (λ here. let r = of_map one (by_session x) k here in let e : k.0 ≡ n = ap (λ (p : ℕ × Order). p.0) r.2 in (omega (arith, e), omega (arith, e)))
    (λ later. let r = in_phases (n + 1) xs k later in (omega (arith, r.0), omega (arith, r.1)))
    (of_append (map one (by_session x)) (from_phase (n + 1) xs) k there)

none_left : (p : Answered → Bool) (xs : List Answered) → ((x : Answered) → In x xs → p x ≡ false) → filter p xs ≡ []
none_left p [] each = refl
none_left p (x ∷ xs) each = by (p x) (each x (inl refl)) (none_left p xs (λ y there. each y (inr there)))
  where
    by : (b : Bool) → b ≡ false → filter p xs ≡ [] → cond b (x ∷ filter p xs) (filter p xs) ≡ []
    by true is rest = absurd (cc is)
    by false is rest = rest

-- an answered order has its phase and its order among those that were asked
key_in : (xs : List Step) (a : Answered) (keys : List (ℕ × Order)) → asked xs ≡ keys → In a (answers_in xs) → In (a.phase, a.order) keys
key_in xs a keys is there =
    let key : Step → ℕ × Order = λ x. (x.answered.phase, x.answered.order) in
    let r = of_map (λ (x : Step). x.answered) xs a there in
    let here : In (key r.0) (asked xs) = in_map key xs r.0 r.1 in
    subst (λ (l : List (ℕ × Order)). In (a.phase, a.order) l) is (subst (λ (y : Answered). In (y.phase, y.order) (asked xs)) (sym r.2) here)

module _ (all : List (List Order)) (many : ℕ) where
  whole : List (List Order)
  whole = take many all

  size : length (take many all) ≤ many
  size = let l = length-take many all in omega (arith, l)

  -- they are of the phases before
  are_below : (xs : List Step) → asked xs ≡ in_writing_order (take many all) → (a : Answered) → In a (answers_in xs) → a.phase < many
  are_below xs is a there =
      let r = in_phases 0 (take many all) (a.phase, a.order) (key_in xs a (in_writing_order (take many all)) is there) in
      let s = size in
      omega (arith, r.1, s)

  pub below : (xs : List Step) → asked xs ≡ in_writing_order (take many all) → (a : Answered) → In a (answers_in xs) → nat_lt a.phase many ≡ true
  below xs is a there = lt-ltb a.phase many (are_below xs is a there)

  -- the next phase has just that number
  next_is : (orders : List Order) → take (many + 1) all ≡ take many all ++ orders ∷ [] → many ≤ length (take many all)
  next_is orders is =
      let one = length-take (many + 1) all in
      let two = length-take many all in
      let three : length (take (many + 1) all) ≡ length (take many all) + 1 = ap length is ∙ length-append (take many all) (orders ∷ []) in
      omega (arith, one, two, three)

  cut_from : (short : List (List Order)) → IsCutOff all many short → (k : ℕ × Order) → In k (from_phase (length (take many all)) short) → many ≤ k.0
  cut_from [] cut k there = absurd there
  cut_from (s ∷ []) cut k there = let r = in_phases (length (take many all)) (s ∷ []) k there in let n = next_is cut.0 cut.1 in omega (arith, r.0, n)
  cut_from (s ∷ t ∷ more) cut k there = absurd cut

  -- what was asked behind them
  asked_later : (short : List (List Order)) (xs ys : List Step) → asked xs ≡ in_writing_order (take many all) → asked (xs ++ ys) ≡ in_writing_order (take many all ++ short)
      → asked ys ≡ from_phase (length (take many all)) short
  asked_later short xs ys first both =
      let key : Step → ℕ × Order = λ x. (x.answered.phase, x.answered.order) in
      let n : ℕ = length (take many all) in
      let zero : from_phase (0 + n) short ≡ from_phase n short = ap (λ k. from_phase k short) (let e : 0 + n ≡ n = omega arith in e) in
      let split : asked xs ++ asked ys ≡ asked xs ++ from_phase n short =
      sym (map-append key xs ys) ∙ both ∙ from_append 0 (take many all) short ∙ (λ i. sym first i ++ zero i) in
      append_cancel_left (asked xs) (asked ys) (from_phase n short) split

  -- those of the part that was cut off are not
  beyond : (short : List (List Order)) (xs ys : List Step) → IsCutOff all many short → asked xs ≡ in_writing_order (take many all) → asked (xs ++ ys) ≡ in_writing_order (take many all ++ short)
      → (a : Answered) → In a (answers_in ys) → nat_lt a.phase many ≡ false
  beyond short xs ys cut first both a there =
      let n : ℕ = length (take many all) in
      let ge : many ≤ a.phase = cut_from short cut (a.phase, a.order) (key_in ys a (from_phase n short) (asked_later short xs ys first both) there) in
      le-ltb a.phase many ge

  pub lines_whole : (short : List (List Order)) (xs ys : List Step) → IsCutOff all many short → asked xs ≡ in_writing_order (take many all) → asked (xs ++ ys) ≡ in_writing_order (take many all ++ short)
      → lines_before many (answers_in (xs ++ ys)) ≡ reply_lines (answers_in xs)
  lines_whole short xs ys cut first both =
      let before : Answered → Bool = λ a. nat_lt a.phase many in
      ap (λ l. reply_lines (filter before l)) (map-append (λ (x : Step). x.answered) xs ys)
      ∙ ap reply_lines (filter-append before (answers_in xs) (answers_in ys)
      ∙ (λ i. filter_all before (answers_in xs) (all_in before (answers_in xs) (below xs first)) i ++ none_left before (answers_in ys) (beyond short xs ys cut first both) i)
      ∙ append-nil (answers_in xs))

  module _ (one_more : many < length all) (xs ys : List Step) (first : asked xs ≡ in_writing_order (take many all)) (both : asked (xs ++ ys) ≡ in_writing_order (take (many + 1) all)) where
    -- those of one phase more are of that one
    are_next : (a : Answered) → In a (answers_in ys) → a.phase ≡ many
    are_next a there =
        let orders : List Order = get_or all many [] in
        let later : asked ys ≡ from_phase (length (take many all)) (orders ∷ []) = asked_later (orders ∷ []) xs ys first (both ∙ ap in_writing_order (take_more all many [] one_more)) in
        let r = in_phases (length (take many all)) (orders ∷ []) (a.phase, a.order) (key_in ys a (from_phase (length (take many all)) (orders ∷ [])) later there) in
        let from : length (take many all) ≤ a.phase = r.0 in
        let to : a.phase < length (take many all) + 1 = r.1 in
        let few = length-take many all in
        omega (arith, from, to, few, one_more)

    pub lines_before_last : lines_before many (answers_in (xs ++ ys)) ≡ reply_lines (answers_in xs)
    lines_before_last =
        let before : Answered → Bool = λ a. nat_lt a.phase many in
        let none : (a : Answered) → In a (answers_in ys) → nat_lt a.phase many ≡ false = λ a there. let is = are_next a there in le-ltb a.phase many (omega (arith, is)) in
        ap (λ l. reply_lines (filter before l)) (map-append (λ (x : Step). x.answered) xs ys)
        ∙ ap reply_lines (filter-append before (answers_in xs) (answers_in ys)
        ∙ (λ i. filter_all before (answers_in xs) (all_in before (answers_in xs) (below xs first)) i ++ none_left before (answers_in ys) none i)
        ∙ append-nil (answers_in xs))

    pub lines_in_last : lines_in many (answers_in (xs ++ ys)) ≡ reply_lines (answers_in ys)
    lines_in_last =
        let within : Answered → Bool = λ a. a.phase == many in
        let none : (a : Answered) → In a (answers_in xs) → (a.phase == many) ≡ false = λ a there. let lt = are_below xs first a there in ne_eqb a.phase many (λ e. absurd (omega (arith, lt, e))) in
        let every : (a : Answered) → In a (answers_in ys) → (a.phase == many) ≡ true = λ a there. eq-eqb a.phase many (are_next a there) in
        ap (λ l. reply_lines (filter within l)) (map-append (λ (x : Step). x.answered) xs ys)
        ∙ ap reply_lines (filter-append within (answers_in xs) (answers_in ys)
        ∙ (λ i. none_left within (answers_in xs) none i ++ filter_all within (answers_in ys) (all_in within (answers_in ys) every) i))
