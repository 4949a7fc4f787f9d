-- A taken pair was published before, and is no older than what was known.
use Rattle.std.proofs.Common.{◌≡◌, ◌⊎◌, inl, inr, ⊎_elim, ℕ, zero, suc, ◌+◌, ◌≤◌, ◌<◌, eqb, Bool, true, false, List, [], ◌∷◌, length, map, Option, Some, None, slice_get, refl, sym, ap, ◌∙◌, subst, arith, length-append}
use Rattle.std.specs.Prelude.{◌==◌, ◌&&◌, ◌||◌, not, nat_le, nat_lt, AllPairs, IsTrue, is_none}
use Rattle.std.specs.List.{list_all}
use Rattle.std.specs.Option.{option_map_or}
use Rattle.std.proofs.lemmas.Bool.{and_from, and_parts, cases_lt, le-leb, lt-ltb, leb-true, eq-eqb, or_left, or_right}
use mathlib.Core.List.{IsPrefix}
use Rattle.facet_model.specs.Histories.{never_falls, is_pair}
use Rattle.facet_model.specs.CoreStates.{is_same_pair}
use Rattle.facet_words.specs.Commands.{Settings, Order}
use Rattle.facet_output.specs.Answered.{Answered, comes_after, may_come_after}
use Rattle.facet_output.specs.Output.{Opened, opened_pair, has_source}
use Rattle.facet_output.specs.Reported.{sees_no_pair, refreshed, is_number}
use Rattle.facet_output.specs.Seen.{Entries, Seen, labels_of, history_of}
use Rattle.facet_output.specs.Steps.{Step, IsLastPair, EntersPair, IsPlace}
use Rattle.facet_output.specs.Sessions.{AllRan, steps_of, own_steps, is_by}
use Rattle.facet_output.proofs.Among.{In, any_in, at_in, in_filter, pairs_head, pairs_tail}
use Rattle.facet_output.proofs.Answers.{answers, all_steps, any_step, all_some, get_map}
use Rattle.facet_output.proofs.Bringing.{opened_sees}
use Rattle.facet_output.proofs.Chain.{sees_trans}
use Rattle.facet_output.proofs.Fresh.{if_some, implied}
use Rattle.facet_output.proofs.Fronts.{get_last, get_below, get_back, own_front}
use Rattle.facet_output.proofs.Known.{facts, after_sees, after_parts, entered, own_in, in_order}
use Rattle.std.proofs.lemmas.Option.{same_Some}
use Rattle.chronicle.proofs.Prefixes.{prefix_length, prefix_get}
use Rattle.facet_output.proofs.PairTests.{is_up_to, is_no_newer, newest_test, right_pair_test}

-- ---- numbers that never fall

first_least : (x : ℕ) (xs : List ℕ) (k b : ℕ) → never_falls (x ∷ xs) ≡ true → slice_get (x ∷ xs) k ≡ Some b → x ≤ b
first_least x xs zero b h e = let f : x ≡ b = cc in omega arith
first_least x [] (suc k) b h e = absurd cc
first_least x (y ∷ ys) (suc k) b h e =
    let both = and_parts (nat_le x y) (never_falls (y ∷ ys)) h in
    let next = first_least y ys k b both.1 e in let step : x ≤ y = leb-true x y both.0 in omega arith

pub rising : (xs : List ℕ) (i k a b : ℕ) → never_falls xs ≡ true → i ≤ k → slice_get xs i ≡ Some a → slice_get xs k ≡ Some b → a ≤ b
rising [] i k a b h le at at' = absurd cc
rising (x ∷ xs) zero k a b h le at at' = let f : x ≡ a = cc in let l = first_least x xs k b h at' in omega arith
rising (x ∷ xs) (suc i) zero a b h le at at' = absurd (omega arith)
rising (x ∷ []) (suc i) (suc k) a b h le at at' = absurd cc
rising (x ∷ y ∷ ys) (suc i) (suc k) a b h le at at' = rising (y ∷ ys) i k a b (and_parts (nat_le x y) (never_falls (y ∷ ys)) h).1 (omega arith) at at'

some_none : {A : Type 0} (a : A) → None ≡ Some a → ⊥
some_none a e = cc

-- ---- which may come before which

same_place : {A : Type 0} (R : A → A → Type 0) (xs : List A) (x y : A) → AllPairs R xs → In x xs → In y xs → (x ≡ y) ⊎ R x y ⊎ R y x
same_place R [] x y pairs there there' = absurd there
same_place R (z ∷ xs) x y pairs there there' = ⊎_elim
    (λ x_is. ⊎_elim (λ y_is. inl (x_is ∙ sym y_is)) (λ y_later. inr (inl (subst (λ w. R w y) (sym x_is) (pairs_head R z xs y pairs y_later)))) there')
    (λ x_later. ⊎_elim (λ y_is. inr (inr (subst (λ w. R w x) (sym y_is) (pairs_head R z xs x pairs x_later)))) (λ y_later. same_place R xs x y (pairs_tail R z xs pairs) x_later y_later) there') there

tests_after : (a b : Answered) → (b.phase < a.phase) → may_come_after a b ≡ true
tests_after a b lt = or_left (nat_lt b.phase a.phase) _ (lt-ltb b.phase a.phase lt)

module _ (settings : Settings) (phases : List (List Order)) (opened : Opened) (ran : List (List Step)) (last : Seen) (all : AllRan settings phases opened ran last) where
  -- an order may come after each other one that does not come after it
  pub may_come : (x y : Step) → In x (steps_of ran) → In y (steps_of ran) → (comes_after y.answered x.answered ≡ true → ⊥) → (x ≡ y → ⊥) → may_come_after x.answered y.answered ≡ true
  may_come x y there there' later other = ⊎_elim
      (λ lt. tests_after x.answered y.answered lt)
      (λ ge. ⊎_elim
      (λ lt. absurd (later (or_left (nat_lt x.answered.phase y.answered.phase) _ (lt-ltb x.answered.phase y.answered.phase lt))))
      (λ ge'. let same : y.answered.phase ≡ x.answered.phase = omega arith in
      or_right (nat_lt y.answered.phase x.answered.phase) _ (and_from _ _ (eq-eqb y.answered.phase x.answered.phase same) (beside (eqb y.answered.order.session x.answered.order.session) refl same)))
      (cases_lt x.answered.phase y.answered.phase))
      (cases_lt y.answered.phase x.answered.phase)
    where
      beside : (b : Bool) → eqb y.answered.order.session x.answered.order.session ≡ b → y.answered.phase ≡ x.answered.phase → (not b || nat_lt y.answered.order.line x.answered.order.line) ≡ true
      beside false t same = refl
      beside true t same =
          let session = x.answered.order.session in
          let there'' : In y (own_steps session (steps_of ran)) = in_filter (is_by session) (steps_of ran) y there' t in
          ⊎_elim (λ is. absurd (other is)) (λ r. ⊎_elim
          (λ after. absurd (later after))
          (λ before. ⊎_elim (λ lt. absurd (omega arith)) (λ p. lt-ltb y.answered.order.line x.answered.order.line p.2) (after_parts x.answered y.answered before)) r)
          (same_place (λ (x y : Step). IsTrue (comes_after y.answered x.answered)) (own_steps session (steps_of ran)) x y (in_order settings phases opened ran last all session) (own_in settings phases opened ran last all x there) there'')

  abbrev published : List (ℕ × ℕ)
  published = map (λ e. e.1) last.pairs

  falls : (never_falls (map (λ p. p.0) published) ≡ true) × (never_falls (map (λ p. p.1) published) ≡ true)
  falls = and_parts (never_falls (map (λ p. p.0) published)) (never_falls (map (λ p. p.1) published)) (and_parts _ (list_all (is_pair (labels_of last) (history_of last)) published) all.publications).0

  -- of two publications the later one is no older
  no_older : (i k n m : ℕ) (p q : ℕ × ℕ) → i ≤ k → slice_get last.pairs i ≡ Some (n, p) → slice_get last.pairs k ≡ Some (m, q) → (p.0 ≤ q.0) × (p.1 ≤ q.1)
  no_older i k n m p q le at at' =
      let e = get_map (λ (e : ℕ × (ℕ × ℕ)). e.1) last.pairs i (n, p) at in
      let f = get_map (λ (e : ℕ × (ℕ × ℕ)). e.1) last.pairs k (m, q) at' in (
        rising (map (λ p. p.0) published) i k p.0 q.0 falls.0 le (get_map (λ (p : ℕ × ℕ). p.0) published i p e) (get_map (λ (p : ℕ × ℕ). p.0) published k q f),
        rising (map (λ p. p.1) published) i k p.1 q.1 falls.1 le (get_map (λ (p : ℕ × ℕ). p.1) published i p e) (get_map (λ (p : ℕ × ℕ). p.1) published k q f),
      )

  -- where a taken pair stands, as the last one that was seen
  pub took_at : (x : Step) → In x (steps_of ran) → (pair : ℕ × ℕ) → x.answered.took ≡ Some pair
      → (k : ℕ) × (n : ℕ) × (slice_get last.pairs k ≡ Some (n, pair)) × (length x.after.pairs ≡ k + 1) × (refreshed x.answered ≡ None)
  took_at x there pair e =
      let f = facts settings phases opened ran last all x there in
      let t = if_some (λ pair. IsLastPair x.after pair × (refreshed x.answered ≡ None)) x.answered.took pair f.2.1.took e in
      let l = t.0.last in
      let at : slice_get x.after.pairs (length l.0) ≡ Some (l.1, pair) = subst (λ (ps : Entries (ℕ × ℕ)). slice_get ps (length l.0) ≡ Some (l.1, pair)) (sym l.2) (get_last l.0 (l.1, pair)) in
      (length l.0, l.1, prefix_get x.after.pairs last.pairs (length l.0) (l.1, pair) f.1.pairs at, ap length l.2 ∙ length-append l.0 ((l.1, pair) ∷ []), t.1)

  -- where a refresh published its pair
  pub refreshed_at : (x : Step) → In x (steps_of ran) → (n : ℕ) → refreshed x.answered ≡ Some n → (k : ℕ) × (m : ℕ) × (slice_get last.pairs k ≡ Some (x.answered.order.session, (n, m))) × (length x.after.pairs ≡ k + 1) × (length (labels_of x.before) ≤ m) × (m ≤ length (labels_of x.after))
  refreshed_at x there n e =
      let f = facts settings phases opened ran last all x there in
      let p : EntersPair x.answered.order.session (length (labels_of x.before)) (length (labels_of x.after)) (Some n) x.before.pairs x.after.pairs = subst (λ (o : Option ℕ). EntersPair x.answered.order.session (length (labels_of x.before)) (length (labels_of x.after)) o x.before.pairs x.after.pairs) e f.2.1.pairs in
      let entry : ℕ × (ℕ × ℕ) = (x.answered.order.session, (n, p.1)) in
      let at : slice_get x.after.pairs (length p.0) ≡ Some entry = subst (λ (ps : Entries (ℕ × ℕ)). slice_get ps (length p.0) ≡ Some entry) (sym p.2.1) (get_last p.0 entry) in
      (length p.0, p.1, prefix_get x.after.pairs last.pairs (length p.0) entry f.1.pairs at, ap length p.2.1 ∙ length-append p.0 (entry ∷ []), p.3, p.4)

  -- a pair that an order entered is that of a refresh
  entered_refresh : (session least most : ℕ) (o : Option ℕ) (old new : Entries (ℕ × ℕ)) (k : ℕ) (pair : ℕ × ℕ) → EntersPair session least most o old new → length old ≤ k → slice_get new k ≡ Some (session, pair) → o ≡ Some pair.0
  entered_refresh session least most None old new k pair enters ge at = let l = own_front session old new k pair enters.0 enters.1 at in absurd (omega arith)
  entered_refresh session least most (Some n) old new k pair enters ge at = ⊎_elim
      (λ lt. let begins : IsPrefix enters.0 new = ((session, (n, enters.1)) ∷ [], sym enters.2.1) in
      let l = own_front session old enters.0 k pair enters.2.0.0 enters.2.0.1 (get_back enters.0 new k (session, pair) begins lt at) in absurd (omega arith))
      (λ le. let size = ap length enters.2.1 ∙ length-append enters.0 ((session, (n, enters.1)) ∷ []) in
      let l = get_below new k (session, pair) at in
      let here : length enters.0 ≡ k = omega arith in
      let it : slice_get new k ≡ Some (session, (n, enters.1)) = subst (λ (j : ℕ). slice_get new j ≡ Some (session, (n, enters.1))) here (subst (λ (ps : Entries (ℕ × ℕ)). slice_get ps (length enters.0) ≡ Some (session, (n, enters.1))) (sym enters.2.1) (get_last enters.0 (session, (n, enters.1)))) in
      let same : Some (session, (n, enters.1)) ≡ Some (session, pair) = sym it ∙ at in
      ap (λ (e : ℕ × (ℕ × ℕ)). Some e.1.0) (same_Some (session, (n, enters.1)) (session, pair) same))
      (cases_lt k (length enters.0))

  source_so : (x : Step) → In x (steps_of ran) → (pair : ℕ × ℕ) → x.answered.took ≡ Some pair → has_source (length opened.docs) (answers (steps_of ran)) x.answered pair.0 ≡ true
  source_so x there pair e = let t = took_at x there pair e in by t.0 t.1 t.2 t.3 t.4
    where
      by : (k n : ℕ) → slice_get last.pairs k ≡ Some (n, pair) → length x.after.pairs ≡ k + 1 → refreshed x.answered ≡ None → has_source (length opened.docs) (answers (steps_of ran)) x.answered pair.0 ≡ true
      by zero n at size none =
          let begins = (opened_sees settings phases opened ran last all).pairs in
          let first : Some (0, opened_pair opened) ≡ Some (n, pair) = sym (prefix_get ((0, opened_pair opened) ∷ []) last.pairs 0 (0, opened_pair opened) begins refl) ∙ at in
          let same : opened_pair opened ≡ pair = ap (λ (e : ℕ × (ℕ × ℕ)). e.1) (same_Some (0, opened_pair opened) (n, pair) first) in
          or_left (pair.0 == length opened.docs) _ (eq-eqb pair.0 (length opened.docs) (sym (ap (λ (p : ℕ × ℕ). p.0) same)))
      by (suc k) n at size none =
          let r = entered settings phases opened ran last all (λ s. s.pairs) (λ a b sees. sees.pairs) (λ n a b told. told.pairs) (suc k) n pair at (omega arith) in
          let b = r.0 in
          let f = facts settings phases opened ran last all b r.1 in
          let own : slice_get b.after.pairs (suc k) ≡ Some (b.answered.order.session, pair) = subst (λ (m : ℕ). slice_get b.after.pairs (suc k) ≡ Some (m, pair)) (sym r.2) r.4 in
          let is : refreshed b.answered ≡ Some pair.0 = entered_refresh b.answered.order.session (length (labels_of b.before)) (length (labels_of b.after)) (refreshed b.answered) b.before.pairs b.after.pairs (suc k) pair f.2.1.pairs r.3 own in
          let later : comes_after b.answered x.answered ≡ true → ⊥ = λ after. let l = prefix_length x.after.pairs b.before.pairs (after_sees settings phases opened ran last all x b there r.1 after).pairs in let g = r.3 in omega arith in
          let other : x ≡ b → ⊥ = λ same. let no : None ≡ Some pair.0 = sym none ∙ (λ i. refreshed (same i).answered) ∙ is in cc in
          let named : is_number pair.0 (refreshed b.answered) ≡ true = subst (λ (o : Option ℕ). is_number pair.0 o ≡ true) (sym is) (eq-eqb pair.0 pair.0 refl) in
          or_right (pair.0 == length opened.docs) _ (any_step (steps_of ran) (λ b. is_number pair.0 (refreshed b) && may_come_after x.answered b) b r.1 (and_from _ _ named (may_come x b there r.1 later other)))

  newest_so : (x : Step) → In x (steps_of ran) → (pair : ℕ × ℕ) → x.answered.took ≡ Some pair → newest_test (answers (steps_of ran)) x.answered pair ≡ true
  newest_so x there pair e =
      let t = took_at x there pair e in
      let f = facts settings phases opened ran last all x there in
      all_steps (steps_of ran) (λ b. not (comes_after x.answered b) || (is_up_to pair.0 (refreshed b) && option_map_or (λ p. is_no_newer p pair) b.took true)) (λ b among.
      implied (comes_after x.answered b.answered) _ (λ after.
      let seen = sees_trans b.after x.before x.after (after_sees settings phases opened ran last all b x among there after) f.2.1.sees in
      let l = prefix_length b.after.pairs x.after.pairs seen.pairs in
      let size = t.3 in
      and_from _ _
      (up_to pair.0 (refreshed b.answered) (λ n is. let r = refreshed_at b among n is in let s = r.3 in (no_older r.0 t.0 b.answered.order.session t.1 (n, r.1) pair (omega arith) r.2 t.2).0))
      (no_newer pair b.answered.took (λ p is. let r = took_at b among p is in let s = r.3 in no_older r.0 t.0 r.1 t.1 p pair (omega arith) r.2 t.2))))
    where
      up_to : (n : ℕ) (o : Option ℕ) → ((k : ℕ) → o ≡ Some k → k ≤ n) → is_up_to n o ≡ true
      up_to n None each = refl
      up_to n (Some k) each = le-leb k n (each k refl)

      no_newer : (pair : ℕ × ℕ) (o : Option (ℕ × ℕ)) → ((p : ℕ × ℕ) → o ≡ Some p → (p.0 ≤ pair.0) × (p.1 ≤ pair.1)) → option_map_or (λ p. is_no_newer p pair) o true ≡ true
      no_newer pair None each = refl
      no_newer pair (Some p) each = and_from _ _ (le-leb p.0 pair.0 (each p refl).0) (le-leb p.1 pair.1 (each p refl).1)

  pub pairs_so : IsTrue (list_all (λ a. option_map_or (right_pair_test opened published (answers (steps_of ran)) a) a.took true) (answers (steps_of ran)))
  pairs_so = all_some (steps_of ran) (right_pair_test opened published (answers (steps_of ran))) (λ a. a.took) (λ x there pair e.
      let t = took_at x there pair e in
      let among : In pair published = at_in published t.0 pair (get_map (λ (e : ℕ × (ℕ × ℕ)). e.1) last.pairs t.0 (t.1, pair) t.2) in
      let itself : is_same_pair pair pair ≡ true = and_from _ _ (eq-eqb pair.0 pair.0 refl) (eq-eqb pair.1 pair.1 refl) in
      and_from _ _ (and_from _ _ (any_in (is_same_pair pair) published pair among itself) (source_so x there pair e)) (newest_so x there pair e))

  -- the labels of a pair that was taken or published were then seen
  pub pair_labels : (x : Step) → In x (steps_of ran) → (k : ℕ) → x.answered.place ≡ Some k → (e : ℕ × (ℕ × ℕ)) → slice_get last.pairs k ≡ Some e → e.1.1 ≤ length (labels_of x.after)
  pair_labels x there k place e at =
      let f = facts settings phases opened ran last all x there in
      by x.answered.took (refreshed x.answered) refl refl f.2.1.place
    where
      same_at : (j : ℕ) (g : ℕ × (ℕ × ℕ)) → slice_get last.pairs j ≡ Some g → length x.after.pairs ≡ j + 1 → length x.after.pairs ≡ k + 1 → g.1.1 ≡ e.1.1
      same_at j g at' size size' =
          let here : j ≡ k = omega arith in
          let same : Some g ≡ Some e = sym (subst (λ (i : ℕ). slice_get last.pairs i ≡ Some g) here at') ∙ at in
          ap (λ (y : ℕ × (ℕ × ℕ)). y.1.1) (same_Some g e same)

      seen : (b : Bool) → IsPlace b x.answered.place (length x.after.pairs) → length x.after.pairs ≡ k + 1
      seen true is = absurd (let wrong : None ≡ Some k = sym is ∙ place in some_none k wrong)
      seen false is = let same : Some is.0 ≡ Some k = sym is.1 ∙ place in let n : is.0 ≡ k = same_Some is.0 k same in let s = is.2 in omega arith

      by : (took : Option (ℕ × ℕ)) (o : Option ℕ) → x.answered.took ≡ took → refreshed x.answered ≡ o → IsPlace (sees_no_pair x.answered) x.answered.place (length x.after.pairs) → e.1.1 ≤ length (labels_of x.after)
      by (Some pair) o t r is =
          let f = facts settings phases opened ran last all x there in
          let q = took_at x there pair t in
          let l = (if_some (λ pair. IsLastPair x.after pair × (refreshed x.answered ≡ None)) x.answered.took pair f.2.1.took t).0.labels in
          let n = same_at q.0 (q.1, pair) q.2 q.3 (seen (sees_no_pair x.answered) is) in omega arith
      by None (Some n) t r is =
          let q = refreshed_at x there n r in
          let m = same_at q.0 (x.answered.order.session, (n, q.1)) q.2 q.3 (seen (sees_no_pair x.answered) is) in
          let l = q.5 in omega arith
      by None None t r is =
          let none : sees_no_pair x.answered ≡ true = and_from _ _ (subst (λ (o : Option (ℕ × ℕ)). is_none o ≡ true) (sym t) refl) (subst (λ (o : Option ℕ). is_none o ≡ true) (sym r) refl) in
          let wrong : IsPlace true x.answered.place (length x.after.pairs) = subst (λ (b : Bool). IsPlace b x.answered.place (length x.after.pairs)) none is in
          absurd (let no_place : None ≡ Some k = sym wrong ∙ place in some_none k no_place)
