-- In the output of one session, or of one in each phase, each number is exact.
use Rattle.std.proofs.Common.{◌≡◌, ◌⊎◌, inl, inr, ⊎_elim, ℕ, zero, suc, ◌+◌, ◌≤◌, ◌<◌, eqb, Bool, true, false, List, [], ◌∷◌, ◌++◌, length, map, Option, Some, None, slice_get, refl, sym, ap, ◌∙◌, subst, arith, append_assoc, length-append, ne_eqb}
use Rattle.std.specs.Prelude.{◌==◌, ◌&&◌, ◌||◌, not, nat_le, nat_lt, drop, filter, filter_map, unwrap_or}
use Rattle.std.specs.List.{list_all, list_any, enumerate_from, cons_option}
use Rattle.std.specs.Option.{option_map_or}
use Rattle.std.proofs.lemmas.Bool.{and_parts, and_from, or_cases, or_left, or_right, leb-true, ltb-true, eqb-true, eq-eqb, lt-ltb, both_ways}
use Rattle.std.proofs.lemmas.List.{length-drop, length-take, length-map}
use Rattle.std.proofs.lemmas.List.Elements.{filter_map-append}
use Rattle.facet_model.specs.Histories.{Operation, add}
use Rattle.facet_model.specs.CoreStates.{is_same_pair}
use Rattle.facet_words.specs.Commands.{Settings, Order}
use Rattle.facet_output.specs.Effects.{effect, report}
use Rattle.facet_output.specs.Answered.{Answered, is_of, of_session, comes_after, may_come_after}
use Rattle.facet_output.specs.OneSession.{after_placing, AreExact, OneSessionIsExact, OneSessionAPhaseIsExact}
use Rattle.facet_output.specs.Output.{Opened, IsOutput, is_fresh, has_source}
use Rattle.facet_words.specs.ScriptOrder.{lines_rise}
use Rattle.facet_output.specs.Reported.{placed_operation, shown_in, shows, stood, stood_in, refreshed, is_number}
use Rattle.facet_output.proofs.Among.{In, of_all, in_filter, of_filter, in_left, in_right, in_map, of_append, of_any}
use Rattle.facet_output.proofs.Effects.{change_placed, refresh_only}
use Rattle.facet_output.proofs.Fresh.{stood_shown, implied_so}
use Rattle.facet_output.proofs.Fronts.{get_there}
use Rattle.facet_output.proofs.Known.{after_parts}
use Rattle.facet_output.proofs.Ordered.{Later, IsBeyond, phases_beyond, alone_in_phase, from_phase, of_later_map, later_weaker}
use Rattle.facet_output.proofs.PairTests.{pairs_to, is_up_to, is_no_newer, newest_test, right_pair_test}

-- ---- lists

pub filter_all : {A : Type 0} (p : A → Bool) (xs : List A) → list_all p xs ≡ true → filter p xs ≡ xs
filter_all p [] h = refl
filter_all p (x ∷ xs) h = let both = and_parts (p x) (list_all p xs) h in let e : p x ≡ true = both.0 in rw e (ap (λ (l : List _). x ∷ l) (filter_all p xs both.1))

filter_nothing : {A : Type 0} (p : A → Bool) (xs : List A) → ((x : A) → In x xs → p x ≡ false) → filter p xs ≡ []
filter_nothing p [] h = refl
filter_nothing p (x ∷ xs) h = let e : p x ≡ false = h x (inl refl) in rw e (filter_nothing p xs (λ y there. h y (inr there)))

of_filter_map : {A B : Type 0} (f : A → Option B) (xs : List A) (k : ℕ) (y : B) → slice_get (filter_map f xs) k ≡ Some y → (x : A) × In x xs × (f x ≡ Some y)
of_filter_map f [] k y at = absurd cc
of_filter_map f (x ∷ xs) k y at = by k (f x) refl (of_filter_map f xs) at
  where
    by : (k : ℕ) (o : Option _) → f x ≡ o → ((k : ℕ) (y : _) → slice_get (filter_map f xs) k ≡ Some y → (z : _) × In z xs × (f z ≡ Some y)) → slice_get (cons_option o (filter_map f xs)) k ≡ Some y → (z : _) × In z (x ∷ xs) × (f z ≡ Some y)
    by k None e rest at = let r = rest k y at in (r.0, inr r.1, r.2)
    by zero (Some b) e rest at = (x, inl refl, e ∙ at)
    by (suc k) (Some b) e rest at = let r = rest k y at in (r.0, inr r.1, r.2)

numbered_at : (n : ℕ) (xs : List Operation) (k : ℕ) (e : ℕ × Operation) → slice_get (enumerate_from n xs) k ≡ Some e → e.0 ≡ n + k
numbered_at n [] k e at = absurd cc
numbered_at n (x ∷ xs) zero e at = let f : n ≡ e.0 = ap (λ (o : Option (ℕ × Operation)). (unwrap_or o e).0) at in omega arith
numbered_at n (x ∷ xs) (suc k) e at = let f = numbered_at (n + 1) xs k e at in omega arith

length_numbered : (n : ℕ) (xs : List Operation) → length (enumerate_from n xs) ≡ length xs
length_numbered n [] = refl
length_numbered n (x ∷ xs) = ap suc (length_numbered (n + 1) xs)

-- ---- places that rise

abbrev IsLess : ℕ × Operation → ℕ × Operation → Type 0
IsLess x y = x.0 < y.0

numbered_from : (n : ℕ) (xs : List Operation) (e : ℕ × Operation) → In e (enumerate_from n xs) → n ≤ e.0
numbered_from n [] e there = absurd there
numbered_from n (x ∷ xs) e there = ⊎_elim (λ is. let f = ap (λ (e : ℕ × Operation). e.0) is in omega arith) (λ later. let l = numbered_from (n + 1) xs e later in omega arith) there

numbered_rising : (n : ℕ) (xs : List Operation) → Later IsLess (enumerate_from n xs)
numbered_rising n [] = tt
numbered_rising n (x ∷ xs) = ((λ e there. let l = numbered_from (n + 1) xs e there in omega arith), numbered_rising (n + 1) xs)

-- two lists that rise and have the same are equal
same_rising : (xs ys : List (ℕ × Operation)) → Later IsLess xs → Later IsLess ys → ((z : ℕ × Operation) → In z xs → In z ys) → ((z : ℕ × Operation) → In z ys → In z xs) → xs ≡ ys
same_rising [] [] rise rise' there back = refl
same_rising [] (y ∷ ys) rise rise' there back = absurd (back y (inl refl))
same_rising (x ∷ xs) [] rise rise' there back = absurd (there x (inl refl))
same_rising (x ∷ xs) (y ∷ ys) rise rise' there back =
    let same : x ≡ y = ⊎_elim (λ is. is) (λ later. ⊎_elim (λ is. sym is) (λ later'. let l = rise'.0 x later in let m = rise.0 y later' in absurd (omega arith)) (back y (inl refl))) (there x (inl refl)) in
    let tails : xs ≡ ys = same_rising xs ys rise.1 rise'.1
    (λ z among. ⊎_elim (λ is. let f = ap (λ (e : ℕ × Operation). e.0) (is ∙ sym same) in let l = rise.0 z among in absurd (omega arith)) (λ later. later) (there z (inr among)))
    (λ z among. ⊎_elim (λ is. let f = ap (λ (e : ℕ × Operation). e.0) (is ∙ same) in let l = rise'.0 z among in absurd (omega arith)) (λ later. later) (back z (inr among))) in
    ap (λ (z : ℕ × Operation). z ∷ xs) same ∙ ap (λ (zs : List (ℕ × Operation)). y ∷ zs) tails

module _ {A B : Type 0} (f : A → Option B) where
  kept_in : (xs : List A) (x : A) (y : B) → In x xs → f x ≡ Some y → In y (filter_map f xs)
  kept_in [] x y there e = absurd there
  kept_in (z ∷ xs) x y there e = ⊎_elim
      (λ is. let g : f z ≡ Some y = sym (ap f is) ∙ e in rw g (inl refl))
      (λ later. behind (f z) (kept_in xs x y later e)) there
    where
      behind : (o : Option B) → In y (filter_map f xs) → In y (cons_option o (filter_map f xs))
      behind None h = h
      behind (Some w) h = inr h

  of_kept : (xs : List A) (y : B) → In y (filter_map f xs) → (x : A) × In x xs × (f x ≡ Some y)
  of_kept [] y there = absurd there
  of_kept (z ∷ xs) y there = by (f z) refl (of_kept xs y) there
    where
      by : (o : Option B) → f z ≡ o → (In y (filter_map f xs) → (x : A) × In x xs × (f x ≡ Some y)) → In y (cons_option o (filter_map f xs)) → (x : A) × In x (z ∷ xs) × (f x ≡ Some y)
      by None e rest h = let r = rest h in (r.0, inr r.1, r.2)
      by (Some w) e rest h = ⊎_elim (λ is. (z, inl refl, e ∙ ap Some (sym is))) (λ later. let r = rest later in (r.0, inr r.1, r.2)) h

  kept_later : (R : A → A → Type 0) (S : B → B → Type 0) (xs : List A) → ((a b : A) (p q : B) → In a xs → In b xs → R a b → f a ≡ Some p → f b ≡ Some q → S p q) → Later R xs → Later S (filter_map f xs)
  kept_later R S [] so later = tt
  kept_later R S (x ∷ xs) so later = by (f x) refl (kept_later R S xs (λ a b p q there there'. so a b p q (inr there) (inr there')) later.1)
    where
      by : (o : Option B) → f x ≡ o → Later S (filter_map f xs) → Later S (cons_option o (filter_map f xs))
      by None e rest = rest
      by (Some p) e rest = ((λ q there. let r = of_kept xs q there in so x r.0 p q (inl refl) (inr r.1) (later.0 r.0 r.1) e r.2), rest)

-- a placed operation shows itself and all before it, and stood at its place
placed_shows : (a : Answered) (p : ℕ × Operation) → placed_operation a ≡ Some p → (shows a ≡ p.0 + 1) × (stood a ≡ Some p.0)
placed_shows a p e =
    let c = change_placed a.order.session (effect a.order.command) (report a.reply) p e in
    (ap (shown_in a.saw) c.2, λ i. stood_in (c.1 i) a.saw (c.2 i))

pub refreshed_stood : (a : Answered) (n : ℕ) → refreshed a ≡ Some n → stood a ≡ Some n
refreshed_stood a n e = let r = refresh_only (effect a.order.command) (report a.reply) n e in λ i. stood_in (r.0 i) a.saw (r.1 i)

other_way : (n m : ℕ) → eqb n m ≡ false → eqb m n ≡ false
other_way n m no_match = ne_eqb m n (λ e. both_ways (eqb n m) no_match (eq-eqb n m (sym e)))

get_behind : {A : Type 0} (xs ys : List A) (x : A) → slice_get ys 0 ≡ Some x → slice_get (xs ++ ys) (length xs) ≡ Some x
get_behind [] ys x at = at
get_behind (y ∷ xs) ys x at = get_behind xs ys x at

get_front : {A : Type 0} (xs ys : List A) (k : ℕ) (x : A) → slice_get xs k ≡ Some x → slice_get (xs ++ ys) k ≡ Some x
get_front [] ys k x there = absurd cc
get_front (y ∷ xs) ys zero x there = there
get_front (y ∷ xs) ys (suc k) x there = get_front xs ys k x there

later_cross : {A : Type 0} (R : A → A → Type 0) (xs ys : List A) (x y : A) → Later R (xs ++ ys) → In x xs → In y ys → R x y
later_cross R [] ys x y l there there' = absurd there
later_cross R (z ∷ xs) ys x y l there there' = ⊎_elim (λ is. subst (λ w. R w y) (sym is) (l.0 y (in_right xs ys y there'))) (λ later. later_cross R xs ys x y l.1 later there') there

later_right : {A : Type 0} (R : A → A → Type 0) (xs ys : List A) → Later R (xs ++ ys) → Later R ys
later_right R [] ys l = l
later_right R (z ∷ xs) ys l = later_right R xs ys l.1

-- a number that a test of an option wants, where there is one
pub wanted : {X : Type 0} (p : X → Bool) (o : Option X) (x : X) → option_map_or p o true ≡ true → o ≡ Some x → p x ≡ true
wanted p None x h e = absurd cc
wanted p (Some y) x h e = let same : y ≡ x = ap (λ q. unwrap_or q y) e in subst (λ z. p z ≡ true) same h

pub of_number : (n : ℕ) (o : Option ℕ) → is_number n o ≡ true → o ≡ Some n
of_number n None h = absurd cc
of_number n (Some k) h = ap Some (eqb-true k n h)

-- the phase and the order of an answer
abbrev pub key_of : Answered → ℕ × Order
key_of a = (a.phase, a.order)

module _ (settings : Settings) (phases : List (List Order)) (opened : Opened) (labels : List (List (List ℕ))) (history : List Operation) (published : List (ℕ × (ℕ × ℕ))) (answered : List Answered)
    (o : IsOutput settings phases opened labels history published answered) (rise : list_all lines_rise phases ≡ true)
    (alone : (a b : Answered) → In a answered → In b answered → a.phase ≡ b.phase → a.order.session ≡ b.order.session) where
  abbrev IsLater : Answered → Answered → Type 0
  IsLater a b = comes_after b a ≡ true

  in_order : Later IsLater answered
  in_order = later_weaker (λ a b. IsBeyond (key_of a) (key_of b)) IsLater answered (λ a b there there' beyond. ⊎_elim
      (λ lt. or_left (nat_lt a.phase b.phase) _ (lt-ltb a.phase b.phase lt))
      (λ p. let same : a.order.session ≡ b.order.session = alone a b there there' p.0 in
      or_right (nat_lt a.phase b.phase) _ (and_from _ _ (and_from _ _ (eq-eqb a.phase b.phase p.0) (eq-eqb a.order.session b.order.session same)) (lt-ltb a.order.line b.order.line (p.1 same))))
      beyond)
      (of_later_map key_of IsBeyond answered (subst (Later IsBeyond) (sym o.asked) (phases_beyond 0 phases rise)))

  abbrev first : ℕ
  first = length opened.docs

  abbrev rest : List Operation
  rest = drop (length opened.docs) history

  size : length history ≡ first + length rest
  size =
      let front = ap length o.opened_docs ∙ length-map opened.docs (λ doc. record { session = 0; change = add doc }) in
      let t = length-take first history in let d = length-drop first history in omega arith

  fresh_at : (a : Answered) → In a answered → (n : ℕ) → stood a ≡ Some n → (first ≤ n) × (n ≤ length history) × ((b : Answered) → In b answered → comes_after a b ≡ true → shows b ≤ n)
  fresh_at a there n e =
      let f = wanted (is_fresh first (length history) answered a) (stood a) n (of_all (λ a. option_map_or (is_fresh first (length history) answered a) (stood a) true) answered a o.fresh there) e in
      let p = and_parts (nat_le first n && nat_le n (length history)) (list_all (λ b. not (comes_after a b) || nat_le (shows b) n) answered) f in
      let q = and_parts (nat_le first n) (nat_le n (length history)) p.0 in
      (leb-true first n q.0, leb-true n (length history) q.1, λ b among after. leb-true (shows b) n (implied_so (comes_after a b) (nat_le (shows b) n) (of_all (λ b. not (comes_after a b) || nat_le (shows b) n) answered b p.1 among) after))

  -- those that were placed, with their places
  abbrev placed : List (ℕ × Operation)
  placed = filter_map placed_operation answered

  placed_there : (p : ℕ × Operation) → In p placed → In p (enumerate_from first rest)
  placed_there p there =
      let a = of_kept placed_operation answered p there in
      let own : In p (filter_map placed_operation (of_session a.0.order.session answered)) = kept_in placed_operation (of_session a.0.order.session answered) a.0 p (in_filter (is_of a.0.order.session) answered a.0 a.1 (eq-eqb a.0.order.session a.0.order.session refl)) a.2 in
      (of_filter (λ e. eqb e.1.session a.0.order.session) (enumerate_from first rest) p (subst (In p) (sym (o.operations a.0.order.session)) own)).0

  there_placed : (p : ℕ × Operation) → In p (enumerate_from first rest) → In p placed
  there_placed p there =
      let own : In p (filter (λ e. eqb e.1.session p.1.session) (enumerate_from first rest)) = in_filter (λ e. eqb e.1.session p.1.session) (enumerate_from first rest) p there (eq-eqb p.1.session p.1.session refl) in
      let a = of_kept placed_operation (of_session p.1.session answered) p (subst (In p) (o.operations p.1.session) own) in
      kept_in placed_operation answered a.0 p (of_filter (is_of p.1.session) answered a.0 a.1).0 a.2

  placed_rising : Later IsLess placed
  placed_rising = kept_later placed_operation IsLater IsLess answered (λ a b p q there there' after at at'.
      let shown = (placed_shows a p at).0 in
      let l = (fresh_at b there' q.0 (placed_shows b q at').1).2 a there after in omega arith) in_order

  -- the placed operations are all behind the opened ones, with their places
  placed_all : filter_map placed_operation answered ≡ enumerate_from first rest
  placed_all = same_rising placed (enumerate_from first rest) placed_rising (numbered_rising first rest) placed_there there_placed

  abbrev placed_in : List Answered → ℕ
  placed_in done = length (filter_map placed_operation done)

  -- ---- an order, between those before it and those behind it

  module _ (done : List Answered) (a : Answered) (later : List Answered) (e : answered ≡ done ++ a ∷ later) where
    in_done : (b : Answered) → In b done → In b answered
    in_done b there = subst (λ (l : List Answered). In b l) (sym e) (in_left done (a ∷ later) b there)

    in_later : (b : Answered) → In b (a ∷ later) → In b answered
    in_later b there = subst (λ (l : List Answered). In b l) (sym e) (in_right done (a ∷ later) b there)

    split : Later IsLater (done ++ a ∷ later)
    split = subst (Later IsLater) e in_order

    before : (b : Answered) → In b done → comes_after a b ≡ true
    before b there = later_cross IsLater done (a ∷ later) b a split there (inl refl)

    behind : (b : Answered) → In b later → comes_after b a ≡ true
    behind b there = (later_right IsLater done (a ∷ later) split).0 b there

    parts : filter_map placed_operation done ++ filter_map placed_operation (a ∷ later) ≡ enumerate_from first rest
    parts = sym (filter_map-append placed_operation done (a ∷ later)) ∙ ap (filter_map placed_operation) (sym e) ∙ placed_all

    -- the next operation stands behind all that were placed
    next_at : (p : ℕ × Operation) → slice_get (filter_map placed_operation (a ∷ later)) 0 ≡ Some p → p.0 ≡ first + placed_in done
    next_at p at = numbered_at first rest (placed_in done) p (subst (λ (l : List (ℕ × Operation)). slice_get l (placed_in done) ≡ Some p) parts (get_behind (filter_map placed_operation done) (filter_map placed_operation (a ∷ later)) p at))

    -- the last one that was placed has been shown
    last_shown : (n : ℕ) → stood a ≡ Some n → first + placed_in done ≤ n
    last_shown n s = let f = fresh_at a (in_later a (inl refl)) n s in by (placed_in done) refl f.0 f.2
      where
        by : (k : ℕ) → placed_in done ≡ k → first ≤ n → ((b : Answered) → In b answered → comes_after a b ≡ true → shows b ≤ n) → first + placed_in done ≤ n
        by zero size low each = omega arith
        by (suc k) size low each =
            let r = get_there (filter_map placed_operation done) k (omega arith) in
            let b = of_filter_map placed_operation done k r.0 r.1 in
            let at : r.0.0 ≡ first + k = numbered_at first rest k r.0 (subst (λ (l : List (ℕ × Operation)). slice_get l k ≡ Some r.0) parts (get_front (filter_map placed_operation done) (filter_map placed_operation (a ∷ later)) k r.0 r.1)) in
            let shown = (placed_shows b.0 r.0 b.2).0 in
            let l = each b.0 (in_done b.0 b.1) (before b.0 b.1) in omega arith

    not_above : (n : ℕ) → stood a ≡ Some n → n ≤ first + placed_in done
    not_above n s = let f = fresh_at a (in_later a (inl refl)) n s in by (filter_map placed_operation (a ∷ later)) refl f.1
      where
        by : (ps : List (ℕ × Operation)) → filter_map placed_operation (a ∷ later) ≡ ps → n ≤ length history → n ≤ first + placed_in done
        by [] none le =
            let all = ap length parts ∙ length_numbered first rest in
            let both = length-append (filter_map placed_operation done) (filter_map placed_operation (a ∷ later)) in
            let nothing = ap length none in let s = size in omega arith
        by (p ∷ ps) some le =
            let at : slice_get (filter_map placed_operation (a ∷ later)) 0 ≡ Some p = ap (λ (l : List (ℕ × Operation)). slice_get l 0) some in
            let next = next_at p at in
            let b = of_filter_map placed_operation (a ∷ later) 0 p at in
            let placed = placed_shows b.0 p b.2 in
            ⊎_elim
            (λ is. let same : Some n ≡ Some p.0 = sym s ∙ (λ i. stood (sym is i)) ∙ placed.1 in let f : n ≡ p.0 = ap (λ (q : Option ℕ). unwrap_or q n) same in omega arith)
            (λ there. let f = (fresh_at b.0 (in_later b.0 b.1) p.0 placed.1).2 a (in_later a (inl refl)) (behind b.0 there) in
            let g = stood_shown a n s in omega arith) b.1

    exact_at : (n : ℕ) → stood a ≡ Some n → n ≡ first + placed_in done
    exact_at n s = let l = last_shown n s in let m = not_above n s in omega arith

  -- what the last refresh before an order has, or what was opened
  record IsTaken (done : List Answered) (taken : ℕ) : Type 0 where
    low : first ≤ taken
    high : taken ≤ first + placed_in done
    newest : (b : Answered) → In b done → (n : ℕ) → refreshed b ≡ Some n → n ≤ taken
    source : (taken ≡ first) ⊎ ((b : Answered) × In b done × (refreshed b ≡ Some taken))

  exact_pair : (done : List Answered) (a : Answered) (later : List Answered) → answered ≡ done ++ a ∷ later → (taken : ℕ) → IsTaken done taken → (pair : ℕ × ℕ) → a.took ≡ Some pair → pair.0 ≡ taken
  exact_pair done a later e taken is pair t =
      let there = in_later done a later e a (inl refl) in
      let right = wanted (right_pair_test opened (map (λ e. e.1) published) answered a) a.took pair (of_all (λ a. option_map_or (right_pair_test opened (map (λ e. e.1) published) answered a) a.took true) answered a (pairs_to answered opened (map (λ e. e.1) published) o.pairs) there) t in
      let p = and_parts (list_any (is_same_pair pair) (map (λ e. e.1) published) && has_source first answered a pair.0) (newest_test answered a pair) right in
      let source = (and_parts (list_any (is_same_pair pair) (map (λ e. e.1) published)) (has_source first answered a pair.0) p.0).1 in
      let low_high = ⊎_elim
      (λ opened_one. let f = eqb-true pair.0 first opened_one in let l = is.low in (let g : (first ≤ pair.0) × (pair.0 ≤ taken) = (omega arith, omega arith) in g))
      (λ some. from_refresh some)
      (or_cases (pair.0 == first) (list_any (λ b. is_number pair.0 (refreshed b) && may_come_after a b) answered) source) in
      let high = low_high.1 in let low = low_high.0 in
      ⊎_elim
      (λ none. omega arith)
      (λ r. let among = in_done done a later e r.0 r.1 in
      let after = before done a later e r.0 r.1 in
      let at = implied_so (comes_after a r.0) _ (of_all (λ b. not (comes_after a b) || (is_up_to pair.0 (refreshed b) && option_map_or (λ p. is_no_newer p pair) b.took true)) answered r.0 p.1 among) after in
      let up = wanted (λ k. nat_le k pair.0) (refreshed r.0) taken (and_parts (is_up_to pair.0 (refreshed r.0)) (option_map_or (λ p. is_no_newer p pair) r.0.took true) at).0 r.2 in
      let l = leb-true taken pair.0 up in omega arith)
      is.source
    where
      not_later : (b : Answered) → In b answered → may_come_after a b ≡ true → comes_after b a ≡ true → ⊥
      not_later b among may after = ⊎_elim
          (λ lt. let l = ltb-true b.phase a.phase lt in ⊎_elim (λ m. omega arith) (λ m. let f = m.0 in omega arith) (after_parts b a after))
          (λ same. let q = and_parts (b.phase == a.phase) (not (b.order.session == a.order.session) || nat_lt b.order.line a.order.line) same in
          let f = eqb-true b.phase a.phase q.0 in
          let session_same : eqb b.order.session a.order.session ≡ true = eq-eqb b.order.session a.order.session (alone b a among (in_later done a later e a (inl refl)) f) in
          let lt = ltb-true b.order.line a.order.line (implied_so (eqb b.order.session a.order.session) (nat_lt b.order.line a.order.line) q.1 session_same) in
          ⊎_elim (λ m. omega arith) (λ m. let g = m.2 in omega arith) (after_parts b a after))
          (or_cases (nat_lt b.phase a.phase) (b.phase == a.phase && (not (b.order.session == a.order.session) || nat_lt b.order.line a.order.line)) may)

      not_itself : may_come_after a a ≡ true → ⊥
      not_itself may = ⊎_elim
          (λ lt. let l = ltb-true a.phase a.phase lt in omega arith)
          (λ same. let q = and_parts (a.phase == a.phase) (not (a.order.session == a.order.session) || nat_lt a.order.line a.order.line) same in
          let lt = ltb-true a.order.line a.order.line (implied_so (eqb a.order.session a.order.session) (nat_lt a.order.line a.order.line) q.1 (eq-eqb a.order.session a.order.session refl)) in omega arith)
          (or_cases (nat_lt a.phase a.phase) (a.phase == a.phase && (not (a.order.session == a.order.session) || nat_lt a.order.line a.order.line)) may)

      from_refresh : list_any (λ b. is_number pair.0 (refreshed b) && may_come_after a b) answered ≡ true → (first ≤ pair.0) × (pair.0 ≤ taken)
      from_refresh some =
          let r = of_any (λ b. is_number pair.0 (refreshed b) && may_come_after a b) answered some in
          let q = and_parts (is_number pair.0 (refreshed r.0)) (may_come_after a r.0) r.2 in
          let is_it = of_number pair.0 (refreshed r.0) q.0 in
          let low = (fresh_at r.0 r.1 pair.0 (refreshed_stood r.0 pair.0 is_it)).0 in
          ⊎_elim
          (λ here. (low, is.newest r.0 here pair.0 is_it))
          (λ behind_or. ⊎_elim
          (λ same. absurd (not_itself (subst (λ (b : Answered). may_come_after a b ≡ true) same q.1)))
          (λ there. absurd (not_later r.0 r.1 q.1 (behind done a later e r.0 there))) behind_or)
          (of_append done (a ∷ later) r.0 (subst (λ (l : List Answered). In r.0 l) e r.1))

  grown : (done : List Answered) (a : Answered) → placed_in (done ++ a ∷ []) ≡ after_placing (placed_in done) (placed_operation a)
  grown done a = ap length (filter_map-append placed_operation done (a ∷ [])) ∙ length-append (filter_map placed_operation done) (filter_map placed_operation (a ∷ [])) ∙ by (placed_operation a)
    where
      by : (q : Option (ℕ × Operation)) → placed_in done + length (cons_option q []) ≡ after_placing (placed_in done) q
      by None = omega arith
      by (Some p) = refl

  added_first : (n k : ℕ) (q : Option (ℕ × Operation)) → n ≡ after_placing k q → first + n ≡ after_placing (first + k) q
  added_first n k None e = omega arith
  added_first n k (Some p) e = omega arith

  taken_next : (done : List Answered) (a : Answered) (later : List Answered) → answered ≡ done ++ a ∷ later → (taken : ℕ) → IsTaken done taken → IsTaken (done ++ a ∷ []) (unwrap_or (refreshed a) taken)
  taken_next done a later e taken is = by (refreshed a) refl
    where
      more : placed_in done ≤ placed_in (done ++ a ∷ [])
      more = let g = grown done a in at_least (placed_operation a) g
        where
          at_least : (q : Option (ℕ × Operation)) → placed_in (done ++ a ∷ []) ≡ after_placing (placed_in done) q → placed_in done ≤ placed_in (done ++ a ∷ [])
          at_least None g = omega arith
          at_least (Some p) g = omega arith

      by : (q : Option ℕ) → refreshed a ≡ q → IsTaken (done ++ a ∷ []) (unwrap_or q taken)
      by None r = record {
        low = is.low;
        high = (let h = is.high in let m = more in omega arith);
        newest = λ b there n f. ⊎_elim (λ l. is.newest b l n f) (λ s. ⊎_elim (λ same. let g : None ≡ Some n = sym r ∙ (λ i. refreshed (sym same i)) ∙ f in absurd cc) (λ none. absurd none) s) (of_append done (a ∷ []) b there);
        source = ⊎_elim (λ s. inl s) (λ s. inr (s.0, in_left done (a ∷ []) s.0 s.1, s.2)) is.source;
      }
      by (Some n) r =
          let at = exact_at done a later e n (refreshed_stood a n r) in record {
            low = (let l = is.low in let h = is.high in omega arith);
            high = (let m = more in omega arith);
            newest = λ b there k f. ⊎_elim
                (λ l. let g = is.newest b l k f in let h = is.high in omega arith)
                (λ s. ⊎_elim (λ same. let g : Some n ≡ Some k = sym r ∙ (λ i. refreshed (sym same i)) ∙ f in let h : n ≡ k = ap (λ (q : Option ℕ). unwrap_or q n) g in omega arith) (λ none. absurd none) s) (of_append done (a ∷ []) b there);
            source = inr (a, in_right done (a ∷ []) a (inl refl), r);
          }

  exact_from : (done later : List Answered) (taken : ℕ) → answered ≡ done ++ later → IsTaken done taken → AreExact (first + placed_in done) taken later
  exact_from done [] taken e is = tt
  exact_from done (a ∷ later) taken e is = (
    exact_at done a later e,
    exact_pair done a later e taken is,
    subst (λ (n : ℕ). AreExact n (unwrap_or (refreshed a) taken) later) (added_first (placed_in (done ++ a ∷ [])) (placed_in done) (placed_operation a) (grown done a))
        (exact_from (done ++ a ∷ []) later (unwrap_or (refreshed a) taken) (e ∙ sym (append_assoc done (a ∷ []) later)) (taken_next done a later e taken is)),
  )

  exact_whole : AreExact first first answered
  exact_whole = subst (λ (n : ℕ). AreExact n first answered) (let e : first + 0 ≡ first = omega arith in e)
      (exact_from [] answered first refl (record { low = omega arith; high = omega arith; newest = λ b none. absurd none; source = inl refl }))

pub one_session_is_exact : OneSessionIsExact
one_session_is_exact settings phases opened labels history published answered session o rise one = exact_whole settings phases opened labels history published answered o rise
    (λ a b there there' same. eqb-true a.order.session session (of_all (is_of session) answered a one there) ∙ sym (eqb-true b.order.session session (of_all (is_of session) answered b one there')))

pub one_session_a_phase_is_exact : OneSessionAPhaseIsExact
one_session_a_phase_is_exact settings phases opened labels history published answered o rise one = exact_whole settings phases opened labels history published answered o rise
    (λ a b there there' same. alone_in_phase 0 phases one (key_of a) (key_of b) (asked_in a there) (asked_in b there') same)
  where
    asked_in : (a : Answered) → In a answered → In (key_of a) (from_phase 0 phases)
    asked_in a there = subst (In (key_of a)) o.asked (in_map key_of answered a there)
