-- Each pair that was taken or published has its place, behind those that were known.
use Rattle.std.proofs.Common.{◌≡◌, ℕ, ◌+◌, ◌≤◌, Bool, true, false, List, [], ◌∷◌, length, Option, Some, None, slice_get, refl, sym, ap, ◌∙◌, subst, arith, length-append}
use Rattle.std.specs.Prelude.{◌==◌, ◌&&◌, ◌||◌, not, nat_le, nat_lt, is_none, if◌then◌else◌, unwrap_or, IsTrue}
use Rattle.std.specs.List.{list_all}
use Rattle.std.specs.Option.{option_map_or}
use Rattle.std.proofs.lemmas.Bool.{and_from, le-leb, lt-ltb, eq-eqb}
use Rattle.facet_model.specs.CoreStates.{is_same_pair}
use Rattle.facet_words.specs.Commands.{Settings, Order}
use Rattle.facet_output.specs.Answered.{comes_after}
use Rattle.facet_output.specs.Output.{Opened, is_pair_of, is_no_further, has_shown, has_labels, has_place}
use Rattle.facet_output.specs.Seen.{Seen, labels_of}
use Rattle.facet_output.specs.Sessions.{AllRan, steps_of}
use Rattle.facet_output.specs.Steps.{Step, EntersPair, IsPlace}
use Rattle.facet_output.specs.Reported.{refreshed, sees_no_pair}
use Rattle.facet_output.proofs.Among.{In}
use Rattle.facet_output.proofs.Answers.{answers, all_steps, all_some}
use Rattle.facet_output.proofs.Entering.{shown_among}
use Rattle.facet_output.proofs.Fresh.{implied}
use Rattle.facet_output.proofs.Fronts.{get_there}
use Rattle.facet_output.proofs.Known.{facts, after_sees}
use Rattle.facet_output.proofs.Pairing.{took_at, refreshed_at}
use Rattle.chronicle.proofs.Prefixes.{prefix_length}
use Rattle.facet_output.proofs.PairTests.{at_test}

some_place : (none : Bool) (place : Option ℕ) (seen k : ℕ) → IsPlace none place seen → place ≡ Some k → seen ≡ k + 1
some_place true place seen k is e = absurd cc
some_place false place seen k is e = let same : Some is.0 ≡ Some k = sym is.1 ∙ e in let n : is.0 ≡ k = ap (λ o. unwrap_or o k) same in let s = is.2 in omega arith

no_place : (none : Bool) (place : Option ℕ) (seen : ℕ) → IsPlace none place seen → (none || not (is_none place)) ≡ true
no_place true place seen is = refl
no_place false place seen is = subst (λ (o : Option ℕ). not (is_none o) ≡ true) (sym is.1) refl

module _ (settings : Settings) (phases : List (List Order)) (opened : Opened) (ran : List (List Step)) (last : Seen) (all : AllRan settings phases opened ran last) where
  -- what was seen when the order had its pair
  seen_at : (x : Step) → In x (steps_of ran) → (k : ℕ) → x.answered.place ≡ Some k → length x.after.pairs ≡ k + 1
  seen_at x there k e = let f = facts settings phases opened ran last all x there in some_place (sees_no_pair x.answered) x.answered.place (length x.after.pairs) k f.2.1.place e

  same_entry : (k : ℕ) (e g : ℕ × (ℕ × ℕ)) → slice_get last.pairs k ≡ Some e → slice_get last.pairs k ≡ Some g → e ≡ g
  same_entry k e g at at' = ap (λ (o : Option (ℕ × (ℕ × ℕ))). unwrap_or o e) (sym at ∙ at')

  pair_here : (x : Step) → In x (steps_of ran) → (k : ℕ) → x.answered.place ≡ Some k → option_map_or (λ e. is_pair_of x.answered e && has_labels (labels_of last) last.pairs (answers (steps_of ran)) x.answered e) (slice_get last.pairs k) false ≡ true
  pair_here x there k e =
      let size = seen_at x there k e in
      let f = facts settings phases opened ran last all x there in
      let l = prefix_length x.after.pairs last.pairs f.1.pairs in
      let r = get_there last.pairs k (omega arith) in
      let taken = took_test r.0 x.answered.took (λ pair t. let q = took_at settings phases opened ran last all x there pair t in
      let here : q.0 ≡ k = (let s = q.3 in omega arith) in
      ap (λ (y : ℕ × (ℕ × ℕ)). y.1) (same_entry k r.0 (q.1, pair) r.1 (subst (λ (j : ℕ). slice_get last.pairs j ≡ Some (q.1, pair)) here q.2))) in
      let own = refreshed_test r.0 x.answered.order.session (refreshed x.answered) (λ n t. let q = refreshed_at settings phases opened ran last all x there n t in
      let here : q.0 ≡ k = (let s = q.3 in omega arith) in
      let same = same_entry k r.0 (x.answered.order.session, (n, q.1)) r.1 (subst (λ (j : ℕ). slice_get last.pairs j ≡ Some (x.answered.order.session, (n, q.1))) here q.2) in
      (ap (λ (y : ℕ × (ℕ × ℕ)). y.0) same, ap (λ (y : ℕ × (ℕ × ℕ)). y.1.0) same)) in
      subst (λ (o : Option (ℕ × (ℕ × ℕ))). option_map_or (λ e. is_pair_of x.answered e && has_labels (labels_of last) last.pairs (answers (steps_of ran)) x.answered e) o false ≡ true) (sym r.1)
      (and_from _ _ (and_from _ _ taken own) (labels_there r.0 (refreshed x.answered) (λ n t. let q = refreshed_at settings phases opened ran last all x there n t in
      let here : q.0 ≡ k = (let s = q.3 in omega arith) in
      let same = same_entry k r.0 (x.answered.order.session, (n, q.1)) r.1 (subst (λ (j : ℕ). slice_get last.pairs j ≡ Some (x.answered.order.session, (n, q.1))) here q.2) in
      let m = ap (λ (y : ℕ × (ℕ × ℕ)). y.1.1) same in let l = q.4 in
      shown_among settings phases opened ran last all x there r.0.1.1 (omega arith))))
    where
      labels_there : (e : ℕ × (ℕ × ℕ)) (o : Option ℕ) → ((n : ℕ) → o ≡ Some n → has_shown (labels_of last) last.pairs (answers (steps_of ran)) x.answered e.1.1 ≡ true)
          → (is_none o || has_shown (labels_of last) last.pairs (answers (steps_of ran)) x.answered e.1.1) ≡ true
      labels_there e None each = refl
      labels_there e (Some n) each = each n refl

      took_test : (e : ℕ × (ℕ × ℕ)) (took : Option (ℕ × ℕ)) → ((pair : ℕ × ℕ) → took ≡ Some pair → e.1 ≡ pair) → option_map_or (is_same_pair e.1) took true ≡ true
      took_test e None each = refl
      took_test e (Some pair) each = and_from _ _ (eq-eqb e.1.0 pair.0 (ap (λ (p : ℕ × ℕ). p.0) (each pair refl))) (eq-eqb e.1.1 pair.1 (ap (λ (p : ℕ × ℕ). p.1) (each pair refl)))

      refreshed_test : (e : ℕ × (ℕ × ℕ)) (session : ℕ) (o : Option ℕ) → ((n : ℕ) → o ≡ Some n → (e.0 ≡ session) × (e.1.0 ≡ n)) → option_map_or (λ n. e.0 == session && e.1.0 == n) o true ≡ true
      refreshed_test e session None each = refl
      refreshed_test e session (Some n) each = and_from _ _ (eq-eqb e.0 session (each n refl).0) (eq-eqb e.1.0 n (each n refl).1)

  no_further : (x b : Step) → In x (steps_of ran) → In b (steps_of ran) → comes_after x.answered b.answered ≡ true → (k j : ℕ) → x.answered.place ≡ Some k → b.answered.place ≡ Some j → is_no_further x.answered k j ≡ true
  no_further x b there among after k j e g =
      let f = facts settings phases opened ran last all x there in
      let size = seen_at x there k e in
      let known = seen_at b among j g in
      let l = prefix_length b.after.pairs x.before.pairs (after_sees settings phases opened ran last all b x among there after).pairs in
      let m = prefix_length x.before.pairs x.after.pairs f.2.1.sees.pairs in
      by (refreshed x.answered) f.2.1.pairs (omega arith) (let s : j + 1 ≤ length x.before.pairs = omega arith in s) size
    where
      by : (o : Option ℕ) → EntersPair x.answered.order.session (length (labels_of x.before)) (length (labels_of x.after)) o x.before.pairs x.after.pairs → j ≤ k → j + 1 ≤ length x.before.pairs → length x.after.pairs ≡ k + 1
          → (if is_none o then nat_le j k else nat_lt j k) ≡ true
      by None enters le known size = le-leb j k le
      by (Some n) enters le known size =
          let before = prefix_length x.before.pairs enters.0 enters.2.0.0 in
          let whole = ap length enters.2.1 ∙ length-append enters.0 ((x.answered.order.session, (n, enters.1)) ∷ []) in
          lt-ltb j k (omega arith)

  pub places_so : IsTrue (list_all (λ a. option_map_or (at_test (labels_of last) last.pairs (answers (steps_of ran)) a) a.place true) (answers (steps_of ran)))
  places_so = all_some (steps_of ran) (at_test (labels_of last) last.pairs (answers (steps_of ran))) (λ a. a.place) (λ x there k e.
      and_from _ _ (pair_here x there k e) (all_steps (steps_of ran) (λ b. not (comes_after x.answered b) || option_map_or (is_no_further x.answered k) b.place true) (λ b among.
      implied (comes_after x.answered b.answered) _ (λ after. placed b.answered.place (is_no_further x.answered k) (λ j g. no_further x b there among after k j e g)))))
    where
      placed : (o : Option ℕ) (p : ℕ → Bool) → ((j : ℕ) → o ≡ Some j → p j ≡ true) → option_map_or p o true ≡ true
      placed None p each = refl
      placed (Some j) p each = each j refl

  pub placed_so : IsTrue (list_all has_place (answers (steps_of ran)))
  placed_so = all_steps (steps_of ran) has_place (λ x there. let f = facts settings phases opened ran last all x there in no_place (sees_no_pair x.answered) x.answered.place (length x.after.pairs) f.2.1.place)
