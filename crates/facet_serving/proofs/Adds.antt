-- What becomes of changes, in a right output.
use Rattle.std.proofs.Common.{◌≡◌, ◌∙◌, ◌⊎◌, inl, inr, ⊎_elim, ℕ, zero, suc, ◌+◌, ◌≤◌, ◌<◌, eqb, Bool, true, false, cond, List, [], ◌∷◌, length, Option, Some, None, slice_get, refl, sym, ap, subst, arith, ne_eqb}
use Rattle.std.specs.Prelude.{drop, take, filter, filter_map, unwrap_or, ◌||◌, not, nat_le}
use Rattle.std.specs.List.{cons_option, enumerate_from, list_all}
use Rattle.std.specs.Option.{option_map_or}
use Rattle.std.proofs.lemmas.Bool.{and_parts, both_ways, eq-eqb, leb-true}
use Rattle.facet_model.specs.Accepts.{Broken, first_broken}
use Rattle.facet_model.specs.Documents.{Doc}
use Rattle.facet_model.specs.Histories as histories
use Rattle.facet_model.specs.Histories.{Operation, docs, knows}
use Rattle.facet_output.proofs.Among.{In, of_all, of_filter}
use Rattle.facet_output.specs.Answered.{Answered, comes_after, is_of, of_session}
use Rattle.facet_output.specs.Held.{Held, held_after}
use Rattle.facet_output.specs.Output.{IsOutput, Opened, Published, is_fresh}
use Rattle.facet_output.specs.Replying.{IsAdded, IsResolved, IsRight, RightReplies, RightReply}
use Rattle.facet_output.specs.Reported.{placed_operation, shows, stood}
use Rattle.facet_output.proofs.Placing.{placed_session}
use Rattle.facet_replies.specs.Replies.{Reply, docs_full, no_memory, placed, refused}
use Rattle.facet_words.specs.Commands.{Settings, Command, Order, add}
use Rattle.facet_serving.proofs.Lone.{in_filtered, is_placed}
use Rattle.facet_output.proofs.Fresh.{implied_so}

-- ---- lists

in_filter_map : {A B : Type 0} (f : A → Option B) (xs : List A) (x : A) (y : B) → In x xs → f x ≡ Some y → In y (filter_map f xs)
in_filter_map f [] x y there e = absurd there
in_filter_map {A} {B} f (z ∷ xs) x y there e = ⊎_elim (λ is. here (f z) (sym (ap f is) ∙ e)) (λ later. behind (f z) (in_filter_map f xs x y later e)) there
  where
    here : (o : Option B) → o ≡ Some y → In y (cons_option o (filter_map f xs))
    here None e = absurd cc
    here (Some b) e = inl (sym (ap (λ (q : Option B). unwrap_or q b) e))

    behind : (o : Option B) → In y (filter_map f xs) → In y (cons_option o (filter_map f xs))
    behind None h = h
    behind (Some b) h = inr h

of_numbered : (n : ℕ) (xs : List Operation) (e : ℕ × Operation) → In e (enumerate_from n xs) → (i : ℕ) × (e.0 ≡ n + i) × (slice_get xs i ≡ Some e.1)
of_numbered n [] e there = absurd there
of_numbered n (x ∷ xs) e there = ⊎_elim
    (λ is. let f = ap (λ (q : ℕ × Operation). q.0) is in (0, (let g : e.0 ≡ n + 0 = omega arith in g), ap (λ (q : ℕ × Operation). Some q.1) (sym is)))
    (λ later. let r = of_numbered (n + 1) xs e later in let f = r.1 in (suc r.0, (let g : e.0 ≡ n + suc r.0 = omega arith in g), r.2)) there

of_dropped : (d i : ℕ) (xs : List Operation) (x : Operation) → slice_get (drop d xs) i ≡ Some x → slice_get xs (d + i) ≡ Some x
of_dropped zero i xs x at = subst (λ (k : ℕ). slice_get xs k ≡ Some x) (let e : i ≡ 0 + i = omega arith in e) at
of_dropped (suc d) i [] x at = absurd cc
of_dropped (suc d) i (y ∷ xs) x at = subst (λ (k : ℕ). slice_get (y ∷ xs) k ≡ Some x) (let e : suc (d + i) ≡ suc d + i = omega arith in e) (of_dropped d i xs x at)

abbrev is_place : ℕ → ℕ × Operation → Bool
is_place k e = eqb e.0 k

none_at : (k n : ℕ) (q : ℕ × Operation → Bool) (xs : List Operation) → k < n → filter (is_place k) (filter q (enumerate_from n xs)) ≡ []
none_at k n q [] lt = refl
none_at k n q (x ∷ xs) lt = by (q (n, x)) (none_at k (n + 1) q xs (omega arith))
  where
    by : (b : Bool) → filter (is_place k) (filter q (enumerate_from (n + 1) xs)) ≡ [] → filter (is_place k) (cond b ((n, x) ∷ filter q (enumerate_from (n + 1) xs)) (filter q (enumerate_from (n + 1) xs))) ≡ []
    by false rest = rest
    by true rest = let e : eqb n k ≡ false = ne_eqb n k (λ is. omega arith) in rw e rest

one_at : (i n : ℕ) (q : ℕ × Operation → Bool) (xs : List Operation) (x : Operation) → slice_get xs i ≡ Some x → q (n + i, x) ≡ true → filter (is_place (n + i)) (filter q (enumerate_from n xs)) ≡ (n + i, x) ∷ []
one_at i n q [] x at passes = absurd cc
one_at zero n q (y ∷ xs) x at passes =
    let same : y ≡ x = ap (λ (o : Option Operation). unwrap_or o y) at in
    let e : n + 0 ≡ n = omega arith in
    let here : q (n, y) ≡ true = (λ j. q (sym e j, same j)) ∙ passes in
    let place : eqb n (n + 0) ≡ true = eq-eqb n (n + 0) (sym e) in
    rw (here, place) (λ j. (sym e j, same j) ∷ none_at (n + 0) (n + 1) q xs (omega arith) j)
one_at (suc i) n q (y ∷ xs) x at passes =
    let e : n + 1 + i ≡ n + suc i = omega arith in
    by (q (n, y)) (subst (λ (k : ℕ). filter (is_place k) (filter q (enumerate_from (n + 1) xs)) ≡ (k, x) ∷ []) e (one_at i (n + 1) q xs x at (subst (λ (k : ℕ). q (k, x) ≡ true) (sym e) passes)))
  where
    by : (b : Bool) → filter (is_place (n + suc i)) (filter q (enumerate_from (n + 1) xs)) ≡ (n + suc i, x) ∷ []
        → filter (is_place (n + suc i)) (cond b ((n, y) ∷ filter q (enumerate_from (n + 1) xs)) (filter q (enumerate_from (n + 1) xs))) ≡ (n + suc i, x) ∷ []
    by false rest = rest
    by true rest = let f : eqb n (n + suc i) ≡ false = ne_eqb n (n + suc i) (λ is. omega arith) in rw f rest

-- where only one session was placed there, its answers tell of it
of_one : (k session : ℕ) (answered : List Answered) → ((a : Answered) → In a answered → (p : ℕ × Operation) → placed_operation a ≡ Some p → p.0 ≡ k → a.order.session ≡ session)
    → filter (is_place k) (filter_map placed_operation answered) ≡ filter (is_place k) (filter_map placed_operation (of_session session answered))
of_one k session [] each = refl
of_one k session (a ∷ later) each = by (eqb a.order.session session) refl (of_one k session later (λ b there. each b (inr there)))
  where
    mine : (o : Option (ℕ × Operation)) → filter (is_place k) (filter_map placed_operation later) ≡ filter (is_place k) (filter_map placed_operation (of_session session later))
        → filter (is_place k) (cons_option o (filter_map placed_operation later)) ≡ filter (is_place k) (cons_option o (filter_map placed_operation (of_session session later)))
    mine None rest = rest
    mine (Some p) rest = both (eqb p.0 k) rest
      where
        both : (b : Bool) → filter (is_place k) (filter_map placed_operation later) ≡ filter (is_place k) (filter_map placed_operation (of_session session later))
            → cond b (p ∷ filter (is_place k) (filter_map placed_operation later)) (filter (is_place k) (filter_map placed_operation later))
            ≡ cond b (p ∷ filter (is_place k) (filter_map placed_operation (of_session session later))) (filter (is_place k) (filter_map placed_operation (of_session session later)))
        both true rest = ap (λ (l : List (ℕ × Operation)). p ∷ l) rest
        both false rest = rest

    other : (o : Option (ℕ × Operation)) → placed_operation a ≡ o → eqb a.order.session session ≡ false → filter (is_place k) (filter_map placed_operation later) ≡ filter (is_place k) (filter_map placed_operation (of_session session later))
        → filter (is_place k) (cons_option o (filter_map placed_operation later)) ≡ filter (is_place k) (filter_map placed_operation (of_session session later))
    other None e none rest = rest
    other (Some p) e none rest =
        let f : eqb p.0 k ≡ false = ne_eqb p.0 k (λ is. both_ways (eqb a.order.session session) none (eq-eqb a.order.session session (each a (inl refl) p e is))) in
        rw f rest

    by : (b : Bool) → eqb a.order.session session ≡ b → filter (is_place k) (filter_map placed_operation later) ≡ filter (is_place k) (filter_map placed_operation (of_session session later))
        → filter (is_place k) (filter_map placed_operation (a ∷ later)) ≡ filter (is_place k) (filter_map placed_operation (cond b (a ∷ of_session session later) (of_session session later)))
    by true e rest = mine (placed_operation a) rest
    by false e rest = other (placed_operation a) refl e rest

-- ---- a right output

module _ (settings : Settings) (phases : List (List Order)) (opened : Opened) (labels : List (List (List ℕ))) (history : List Operation) (published : Published) (answered : List Answered)
    (o : IsOutput settings phases opened labels history published answered) where
  abbrev first : ℕ
  first = length opened.docs

  abbrev added : List Operation
  added = drop (length opened.docs) history

  -- a change that was placed has its operation there
  pub stands_there : (a : Answered) (p : ℕ × Operation) → In a answered → placed_operation a ≡ Some p → (first ≤ p.0) × (slice_get history p.0 ≡ Some p.1)
  stands_there a p there e =
      let mine = in_filtered (is_of a.order.session) answered a there (eq-eqb a.order.session a.order.session refl) in
      let among = in_filter_map placed_operation (of_session a.order.session answered) a p mine e in
      let own = subst (λ (l : List (ℕ × Operation)). In p l) (sym (o.operations a.order.session)) among in
      let r = of_numbered first added p (of_filter (λ (q : ℕ × Operation). eqb q.1.session a.order.session) (enumerate_from first added) p own).0 in
      let place = r.1 in
      (omega arith, subst (λ (k : ℕ). slice_get history k ≡ Some p.1) (sym r.1) (of_dropped first r.0 history p.1 r.2))

  -- each operation behind the opened ones is that of one change
  pub each_once : (k : ℕ) (x : Operation) → first ≤ k → slice_get history k ≡ Some x → filter (is_place k) (filter_map placed_operation answered) ≡ (k, x) ∷ []
  each_once k x le at =
      let mine = is_placed settings phases opened labels history published answered o k x le at in
      let among = in_filter_map placed_operation (of_session x.session answered) mine.0 (k, x) mine.1 mine.2 in
      let own = subst (λ (l : List (ℕ × Operation)). In (k, x) l) (sym (o.operations x.session)) among in
      let r = of_numbered first added (k, x) (of_filter (λ (q : ℕ × Operation). eqb q.1.session x.session) (enumerate_from first added) (k, x) own).0 in
      let one = one_at r.0 first (λ (q : ℕ × Operation). eqb q.1.session x.session) added x r.2 (eq-eqb x.session x.session refl) in
      let here = subst (λ (n : ℕ). filter (is_place n) (filter (λ (q : ℕ × Operation). eqb q.1.session x.session) (enumerate_from first added)) ≡ (n, x) ∷ []) (sym r.1) one in
      of_one k x.session answered (λ a there p e is.
      let s = stands_there a p there e in
      let same : Some p.1 ≡ Some x = sym s.1 ∙ ap (slice_get history) is ∙ at in
      let it : p.1 ≡ x = ap (λ (q : Option Operation). unwrap_or q p.1) same in
      sym (placed_session a.order.session a.order.command a.reply p e) ∙ ap (λ (q : Operation). q.session) it)
      ∙ ap (filter (is_place k)) (sym (o.operations x.session)) ∙ here

  -- each reply is right of what its session then held
  pub right_of : (a : Answered) → In a answered → (held : Held) × RightReply settings labels history held a
  right_of a there = among [] (of_session a.order.session answered) (o.replies a.order.session) (in_filtered (is_of a.order.session) answered a there (eq-eqb a.order.session a.order.session refl))
    where
      among : (held : Held) (xs : List Answered) → RightReplies settings labels history held xs → In a xs → (h : Held) × RightReply settings labels history h a
      among held [] right there = absurd there
      among held (b ∷ xs) right there = ⊎_elim
          (λ is. (held, subst (λ (x : Answered). RightReply settings labels history held x) (sym is) right.0))
          (λ later. among (held_after held b) xs right.1 later) there

  -- it was placed, or memory was wanting, or so many operations leave as many documents as there may be
  abbrev pub IsPlacedOr : Reply → Type 0
  IsPlacedOr reply = ((at : ℕ) × (reply ≡ placed at)) ⊎ (reply ≡ refused no_memory)
      ⊎ ((n : ℕ) × (n ≤ length history) × (settings.max_docs ≤ length (docs (take n history))) × (reply ≡ refused (docs_full (length (docs (take n history))))))

  -- an add whose document the config accepts, and whose labels fit
  pub placed_or : (a : Answered) (doc : Doc) → In a answered → a.order.command ≡ add doc → first_broken settings.config doc ≡ None → (knows labels doc ≡ true) ⊎ (length labels < settings.max_labels) → IsPlacedOr a.reply
  placed_or a doc there is accepted fits =
      let r = right_of a there in
      ⊎_elim
      (λ right. added_so (subst (λ (b : Option Broken). IsAdded settings labels history a.order.session (histories.add doc) a.saw doc b a.reply) accepted
      (subst (λ (c : Command). IsRight settings labels history r.0 a.order.session c a.took a.saw a.reply) is right)))
      (λ lacks. inr (inl lacks.1)) r.1
    where
      resolved : (b : Bool) → knows labels doc ≡ b → IsResolved settings labels history a.order.session (histories.add doc) a.saw b a.reply → IsPlacedOr a.reply
      resolved false e right = absurd (⊎_elim (λ known. both_ways (knows labels doc) e known) (λ lt. let full = right.0 in omega arith) fits)
      resolved true e right = ⊎_elim (λ p. inl (p.0, p.3)) (λ n. inr (inr (n.0, n.2, n.3, n.4))) right

      added_so : IsAdded settings labels history a.order.session (histories.add doc) a.saw doc None a.reply → IsPlacedOr a.reply
      added_so right = resolved (knows labels doc) refl right

  -- what was shown before a change, a refresh or a commit
  pub shown_before : (a b : Answered) (n : ℕ) → In a answered → In b answered → stood a ≡ Some n → comes_after a b ≡ true → shows b ≤ n
  shown_before a b n there among stands after =
      let fresh = wanted (stood a) (of_all (λ (x : Answered). option_map_or (is_fresh first (length history) answered x) (stood x) true) answered a o.fresh there) stands in
      let all = (and_parts _ (list_all (λ (x : Answered). not (comes_after a x) || nat_le (shows x) n) answered) fresh).1 in
      leb-true (shows b) n (implied_so (comes_after a b) (nat_le (shows b) n) (of_all (λ (x : Answered). not (comes_after a x) || nat_le (shows x) n) answered b all among) after)
    where
      wanted : (q : Option ℕ) → option_map_or (is_fresh first (length history) answered a) q true ≡ true → q ≡ Some n → is_fresh first (length history) answered a n ≡ true
      wanted None h e = absurd cc
      wanted (Some m) h e = subst (λ (j : ℕ). is_fresh first (length history) answered a j ≡ true) (ap (λ (x : Option ℕ). unwrap_or x m) e) h
