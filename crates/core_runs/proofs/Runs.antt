-- What the sessions did is an execution of the core.
use Rattle.std.proofs.Common.{◌≡◌, ◌⊎◌, inl, inr, ⊎_elim, ℕ, ◌+◌, ◌-◌, ◌≤◌, eqb, cond, Bool, true, false, List, [], ◌∷◌, ◌++◌, length, map, take, Option, Some, None, refl, sym, ap, ◌∙◌, subst, arith, append_assoc, length-append, length-take-le}
use Rattle.std.specs.Prelude.{◌==◌, ◌&&◌, count_by, drop, filter, filter_map, nat_le, nat_lt, option_map, option_to_list, unwrap_or}
use Rattle.std.specs.List.{cons_option, list_all}
use Rattle.std.specs.Option.{option_map_or}
use Rattle.std.proofs.lemmas.Bool.{and_parts, lt-ltb, or_left}
use Rattle.std.proofs.lemmas.List.{append_cancel_left, length-map, map-append, take-append-drop}
use Rattle.std.proofs.lemmas.List.Elements.{filter-append, filter_map-append}
use Rattle.std.proofs.lemmas.List.Sums.{sum_by-cons}
use Rattle.facet_names.specs.Labels.{IsLabelList}
use Rattle.facet_names.proofs.LabelLists.{front_labels}
use Rattle.facet_model.specs.Core.{State}
use Rattle.facet_model.specs.Documents.{Doc}
use Rattle.facet_model.specs.Histories.{Change, Operation, add, brought, covers, doc_of, is_pair, knows, never_falls, opened as opened_history}
use Rattle.facet_model.proofs.Changes.{weaker_of}
use Rattle.facet_words.specs.Commands.{Settings, Order}
use Rattle.facet_output.specs.Answered.{Answered, comes_after, is_of, of_session}
use Rattle.facet_output.specs.Output.{Opened, IsOutput, opened_operations, opened_pair}
use Rattle.facet_output.specs.Reported.{durable, is_number, placed_operation, refreshed}
use Rattle.facet_output.specs.Seen.{Entries, Seen, Sees, entered_by, history_of, labels_of, opened_seen}
use Rattle.facet_output.specs.Sessions.{AllRan, answers_of, is_by, own_steps, steps_of}
use Rattle.facet_output.specs.Steps.{Step, EntersOperation, EntersPair}
use Rattle.facet_output.proofs.Among.{In, filter-map, in_left, in_right, of_filter}
use Rattle.facet_output.proofs.Assembled.{sessions_give_output}
use Rattle.facet_output.proofs.Bringing.{labels_begin, opened_first, opened_sees, opened_size}
use Rattle.facet_output.proofs.Known.{after_sees, facts}
use Rattle.facet_output.proofs.Lifting.{still_knows}
use Rattle.facet_output.proofs.Placing.{of_own, own_answers}
use Rattle.chronicle.proofs.Prefixes.{prefix_length}
use Rattle.core_runs.specs.CoreRuns.{AreMovesOf, IsCoreRun, SessionsAreCoreRuns, answer_of, core_after, has_move, opened_core}
use Rattle.core_runs.specs.Moves.{Move, answers_in}
use Rattle.core_runs.proofs.Acting.{acts_of, acts_rise, bound_more, counted_acts, entered_change, entered_none, entered_publish, gathered, own_acts, part_of, told_acts}
use Rattle.core_runs.proofs.Alike.{alike}
use Rattle.core_runs.proofs.Calm.{Leads, Stored, calm, enter_then, entering}
use Rattle.core_runs.proofs.Deeds.{Act, Lex, before, before_then, before_total, change_at, commit_number, is_change, is_publish, lex_from, lex_then, point, publish_of, told}
use Rattle.core_runs.proofs.Doing.{Did, Does, act_of, bound, did, placed_of, publish_in}
use Rattle.core_runs.proofs.Gather.{changes_strict, each_append, each_at, pub_at, pubs_strict}
use Rattle.core_runs.proofs.Opening.{opened_valid}
use Rattle.core_runs.proofs.Phases.{Split, first_answers, rises_front, sorted_parts, split_moves, split_phases}
use Rattle.core_runs.proofs.Sorting.{Rises, counted_sorted, in_sorted, rises_filter, rises_sorted, sorted, sorted_own}
use Rattle.core_runs.proofs.Walk.{Left, Walked, limit, limit_after, operations_in, pairs_in, paths_in, walk}

-- ---- lists

filter_swap : {A : Type 0} (p q : A → Bool) (xs : List A) → filter p (filter q xs) ≡ filter q (filter p xs)
filter_swap p q [] = refl
filter_swap p q (x ∷ xs) = by (p x) (q x) refl refl (filter_swap p q xs)
  where
    by : (b c : Bool) → p x ≡ b → q x ≡ c → filter p (filter q xs) ≡ filter q (filter p xs) → filter p (cond c (x ∷ filter q xs) (filter q xs)) ≡ filter q (cond b (x ∷ filter p xs) (filter p xs))
    by true true e f rest = rw (e, f) (ap (λ (l : List _). x ∷ l) rest)
    by true false e f rest = rw f rest
    by false true e f rest = rw e rest
    by false false e f rest = rest

in_filter_map : {A B : Type 0} (f : A → Option B) (xs : List A) (b : B) → In b (filter_map f xs) → (x : A) × In x xs × (f x ≡ Some b)
in_filter_map f [] b there = absurd there
in_filter_map {A} {B} f (x ∷ xs) b there = by (f x) refl there (λ later. let r = in_filter_map f xs b later in (r.0, inr r.1, r.2))
  where
    by : (o : Option B) → f x ≡ o → In b (cons_option o (filter_map f xs)) → (In b (filter_map f xs) → (y : A) × In y (x ∷ xs) × (f y ≡ Some b)) → (y : A) × In y (x ∷ xs) × (f y ≡ Some b)
    by None e h rest = rest h
    by (Some c) e h rest = ⊎_elim (λ is. (x, inl refl, e ∙ ap (λ (z : B). Some z) (sym is))) (λ later. rest later) h

counted_map : {A B : Type 0} (f : A → B) (p : B → Bool) (xs : List A) → count_by p (map f xs) ≡ count_by (λ x. p (f x)) xs
counted_map f p [] = refl
counted_map f p (x ∷ xs) = sum_by-cons (λ y. cond (p y) 1 0) (f x) (map f xs) ∙ ap (λ n. cond (p (f x)) 1 0 + n) (counted_map f p xs) ∙ sym (sum_by-cons (λ y. cond (p (f y)) 1 0) x xs)

counted_some : (n : ℕ) (acts : List Act) → count_by (λ k. k == n) (filter_map (λ (a : Act). commit_number a.1) acts) ≡ count_by (λ (a : Act). is_number n (commit_number a.1)) acts
counted_some n [] = refl
counted_some n (a ∷ acts) = by (commit_number a.1) (counted_some n acts) ∙ sym (sum_by-cons (λ (a : Act). cond (is_number n (commit_number a.1)) 1 0) a acts)
  where
    by : (o : Option ℕ) → count_by (λ k. k == n) (filter_map (λ (a : Act). commit_number a.1) acts) ≡ count_by (λ (a : Act). is_number n (commit_number a.1)) acts
        → count_by (λ k. k == n) (cons_option o (filter_map (λ (a : Act). commit_number a.1) acts)) ≡ cond (is_number n o) 1 0 + count_by (λ (a : Act). is_number n (commit_number a.1)) acts
    by None rest = rest ∙ (let e : count_by (λ (a : Act). is_number n (commit_number a.1)) acts ≡ 0 + count_by (λ (a : Act). is_number n (commit_number a.1)) acts = omega arith in e)
    by (Some k) rest = sum_by-cons (λ j. cond (j == n) 1 0) k (filter_map (λ (a : Act). commit_number a.1) acts) ∙ ap (λ m. cond (k == n) 1 0 + m) rest

its_act : (k : ℕ) (xs : Entries Change) (o : ℕ × Change) → In o xs → (at : ℕ) × In (o.0, change_at at o.1) (each_at change_at k xs)
its_act k [] o there = absurd there
its_act k (x ∷ xs) o there = ⊎_elim
    (λ is. (k, inl (λ i. ((is i).0, change_at k (is i).1))))
    (λ later. let r = its_act (k + 1) xs o later in (r.0, inr r.1)) there

module _ (settings : Settings) (phases : List (List Order)) (opened : Opened) (ran : List (List Step)) (last : Seen) (all : AllRan settings phases opened ran last) where
  abbrev steps : List Step
  steps = steps_of ran

  -- the deeds of all sessions, in order
  abbrev acts : List Act
  acts = sorted before (acts_of steps)

  output : IsOutput settings phases opened (labels_of last) (history_of last) last.pairs (answers_of ran)
  output = sessions_give_output settings phases opened ran last all

  each_did : (x : Step) → In x steps → Did x
  each_did x there = let f = facts settings phases opened ran last all x there in did settings f.2.0 x f.2.1

  own_did : (n : ℕ) (x : Step) → In x (own_steps n steps) → Did x
  own_did n x there = each_did x (of_filter (is_by n) steps x there).0

  -- ---- what the order keeps

  own_rise : (n : ℕ) → Rises before (entered_by n (acts_of steps))
  own_rise n = subst (Rises before) (sym (own_acts n steps)) (acts_rise settings n [] (opened_seen opened) (own_steps n steps) last (all.sessions n)).0

  own_order : (n : ℕ) → entered_by n acts ≡ acts_of (own_steps n steps)
  own_order n = sorted_own before before_total before_then (λ e. eqb e.0 n) (acts_of steps) (own_rise n) ∙ own_acts n steps

  all_rise : Rises before acts
  all_rise = rises_sorted before before_total before_then (acts_of steps)

  own_part : (test : Act → Bool) (part : Step → Option Act) (n : ℕ)
      → ((x : Step) → In x (own_steps n steps) → ((a : Act) × (act_of x ≡ Some a) × (part x ≡ cond (test a) (Some a) None)) ⊎ ((act_of x ≡ None) × (part x ≡ None)))
      → entered_by n (filter test acts) ≡ filter_map part (own_steps n steps)
  own_part test part n each = filter_swap (λ e. eqb e.0 n) test acts ∙ ap (filter test) (own_order n) ∙ part_of test part (own_steps n steps) each

  begins : Sees (opened_seen opened) last
  begins = opened_sees settings phases opened ran last all

  -- ---- operations

  abbrev placed : Entries Change
  placed = (opened_seen opened).operations

  abbrev more : Entries Change
  more = begins.operations.0

  own_changes : (n : ℕ) → entered_by n (each_at change_at (length placed) more) ≡ filter_map placed_of (own_steps n steps)
  own_changes n =
      let whole : entered_by n (each_at change_at 0 last.operations) ≡ entered_by n (each_at change_at 0 placed) ++ filter_map placed_of (own_steps n steps) =
      gathered settings n (λ s. entered_by n (each_at change_at 0 s.operations)) placed_of
      (λ a b told. entered_none change_at n 0 a.operations b.operations (told.sees.operations, told.operations))
      (λ held x own step. subst (λ (m : ℕ). entered_by n (each_at change_at 0 x.after.operations) ≡ entered_by n (each_at change_at 0 x.before.operations) ++ option_to_list (option_map {U = Act} (λ p. (m, change_at p.0 p.1.change)) (placed_operation x.answered))) (sym own)
      (entered_change n (placed_operation x.answered) x.before.operations x.after.operations (subst (λ (m : ℕ). EntersOperation m (placed_operation x.answered) x.before.operations x.after.operations) own step.operations)))
      [] (opened_seen opened) (own_steps n steps) last (all.sessions n) (of_own settings phases opened ran last all n) in
      let split : entered_by n (each_at change_at 0 last.operations) ≡ entered_by n (each_at change_at 0 placed) ++ entered_by n (each_at change_at (0 + length placed) more) =
      ap (λ (l : Entries Change). entered_by n (each_at change_at 0 l)) (sym begins.operations.1) ∙ ap (entered_by n) (each_append change_at 0 placed more)
      ∙ filter-append (λ e. eqb e.0 n) (each_at change_at 0 placed) (each_at change_at (0 + length placed) more) in
      ap (λ k. entered_by n (each_at change_at k more)) (let e : length placed ≡ 0 + length placed = omega arith in e)
      ∙ append_cancel_left (entered_by n (each_at change_at 0 placed)) _ _ (sym split ∙ whole)

  change_part : (n : ℕ) (x : Step) → In x (own_steps n steps) → ((a : Act) × (act_of x ≡ Some a) × (placed_of x ≡ cond (is_change a) (Some a) None)) ⊎ ((act_of x ≡ None) × (placed_of x ≡ None))
  change_part n x there = ⊎_elim (λ d. inl ((x.answered.order.session, d.0), d.1.act, d.1.places)) (λ i. inr (i.act, i.places)) (own_did n x there)

  all_changes : filter is_change acts ≡ each_at change_at (length placed) more
  all_changes = alike (λ (a : Act). a.0) before (filter is_change acts) (each_at change_at (length placed) more) (rises_filter before is_change acts all_rise) (changes_strict (length placed) more)
      (λ n. own_part is_change placed_of n (change_part n) ∙ sym (own_changes n))

  -- ---- publications

  abbrev first_pair : ℕ × (ℕ × ℕ)
  first_pair = (0, opened_pair opened)

  abbrev later : Entries (ℕ × ℕ)
  later = begins.pairs.0

  pairs_rise : (never_falls (map (λ p. p.0) (pairs_in last.pairs)) ≡ true) × (never_falls (map (λ p. p.1) (pairs_in last.pairs)) ≡ true)
  pairs_rise = and_parts (never_falls (map (λ p. p.0) (pairs_in last.pairs))) (never_falls (map (λ p. p.1) (pairs_in last.pairs)))
      (and_parts (never_falls (map (λ p. p.0) (pairs_in last.pairs)) && never_falls (map (λ p. p.1) (pairs_in last.pairs))) _ all.publications).0

  pairs_good : list_all (is_pair (labels_of last) (history_of last)) (pairs_in last.pairs) ≡ true
  pairs_good = (and_parts (never_falls (map (λ p. p.0) (pairs_in last.pairs)) && never_falls (map (λ p. p.1) (pairs_in last.pairs))) _ all.publications).1

  rise_tail : (n : ℕ) (ns : List ℕ) → never_falls (n ∷ ns) ≡ true → never_falls ns ≡ true
  rise_tail n [] rise = refl
  rise_tail n (m ∷ ns) rise = (and_parts (nat_le n m) (never_falls (m ∷ ns)) rise).1

  operations_rise : never_falls (map (λ p. p.0) (pairs_in later)) ≡ true
  operations_rise = rise_tail (length opened.docs) (map (λ p. p.0) (pairs_in later)) (subst (λ (l : Entries (ℕ × ℕ)). never_falls (map (λ p. p.0) (pairs_in l)) ≡ true) (sym begins.pairs.1) pairs_rise.0)

  all_labels_rise : never_falls (map (λ p. p.1) (pairs_in (first_pair ∷ later))) ≡ true
  all_labels_rise = subst (λ (l : Entries (ℕ × ℕ)). never_falls (map (λ p. p.1) (pairs_in l)) ≡ true) (sym begins.pairs.1) pairs_rise.1

  own_publishes : (n : ℕ) → entered_by n (each_at pub_at 2 later) ≡ filter_map publish_in (own_steps n steps)
  own_publishes n =
      let whole : entered_by n (each_at pub_at 1 last.pairs) ≡ entered_by n (each_at pub_at 1 (first_pair ∷ [])) ++ filter_map publish_in (own_steps n steps) =
      gathered settings n (λ s. entered_by n (each_at pub_at 1 s.pairs)) publish_in
      (λ a b told. entered_none pub_at n 1 a.pairs b.pairs (told.sees.pairs, told.pairs))
      (λ held x own step. subst (λ (m : ℕ). entered_by n (each_at pub_at 1 x.after.pairs) ≡ entered_by n (each_at pub_at 1 x.before.pairs) ++ option_to_list (option_map {U = Act} (λ k. (m, publish_of k (length x.after.pairs))) (refreshed x.answered))) (sym own)
      (entered_publish n (length (labels_of x.before)) (length (labels_of x.after)) (refreshed x.answered) x.before.pairs x.after.pairs (subst (λ (m : ℕ). EntersPair m (length (labels_of x.before)) (length (labels_of x.after)) (refreshed x.answered) x.before.pairs x.after.pairs) own step.pairs)))
      [] (opened_seen opened) (own_steps n steps) last (all.sessions n) (of_own settings phases opened ran last all n) in
      let split : entered_by n (each_at pub_at 1 last.pairs) ≡ entered_by n (each_at pub_at 1 (first_pair ∷ [])) ++ entered_by n (each_at pub_at 2 later) =
      ap (λ (l : Entries (ℕ × ℕ)). entered_by n (each_at pub_at 1 l)) (sym begins.pairs.1) ∙ ap (entered_by n) (each_append pub_at 1 (first_pair ∷ []) later)
      ∙ filter-append (λ e. eqb e.0 n) (each_at pub_at 1 (first_pair ∷ [])) (each_at pub_at 2 later) in
      append_cancel_left (entered_by n (each_at pub_at 1 (first_pair ∷ []))) _ _ (sym split ∙ whole)

  publish_part : (n : ℕ) (x : Step) → In x (own_steps n steps) → ((a : Act) × (act_of x ≡ Some a) × (publish_in x ≡ cond (is_publish a) (Some a) None)) ⊎ ((act_of x ≡ None) × (publish_in x ≡ None))
  publish_part n x there = ⊎_elim (λ d. inl ((x.answered.order.session, d.0), d.1.act, d.1.publishes)) (λ i. inr (i.act, i.publishes)) (own_did n x there)

  all_publishes : filter is_publish acts ≡ each_at pub_at 2 later
  all_publishes = alike (λ (a : Act). a.0) before (filter is_publish acts) (each_at pub_at 2 later) (rises_filter before is_publish acts all_rise) (pubs_strict 2 later operations_rise)
      (λ n. own_part is_publish publish_in n (publish_part n) ∙ sym (own_publishes n))

  -- ---- each deed

  deed_at : (x : Step) → In x steps → (a : Act) → act_of x ≡ Some a → Does x a.1
  deed_at x there a is = ⊎_elim
      (λ d. let same : Some (x.answered.order.session, d.0) ≡ Some a = sym d.1.act ∙ is in
      let deed : d.0 ≡ a.1 = ap (λ (o : Option Act). (unwrap_or o a).1) same in
      subst (Does x) deed d.1)
      (λ i. let none : None ≡ Some a = sym i.act ∙ is in absurd cc) (each_did x there)

  its_step : (a : Act) → In a acts → (x : Step) × In x steps × Does x a.1
  its_step a there =
      let r = in_filter_map act_of steps a (in_sorted before (acts_of steps) a there) in (r.0, r.1, deed_at r.0 r.1 a r.2)

  low_so : (a : Act) → In a acts → length placed + length placed ≤ (point a.1).0 + 1
  low_so a there =
      let s = its_step a there in
      let f = facts settings phases opened ran last all s.0 s.1 in
      let le = prefix_length placed s.0.before.operations f.0.operations in
      ⊎_elim (λ lt. omega arith) (λ e. let g = e.0 in omega arith) s.2.low

  high_so : (a : Act) → In a acts → (point a.1).0 ≤ length last.operations + length last.operations
  high_so a there =
      let s = its_step a there in
      let f = facts settings phases opened ran last all s.0 s.1 in
      let le = prefix_length s.0.after.operations last.operations f.1.operations in
      ⊎_elim (λ lt. omega arith) (λ e. let g = e.0 in omega arith) s.2.high

  known_so : (o : ℕ × Change) → In o more → option_map_or (knows (labels_of last)) (doc_of o.1) true ≡ true
  known_so o there =
      let a = its_act (length placed) more o there in
      let s = its_step (o.0, change_at a.0 o.1) (of_filter is_change acts (o.0, change_at a.0 o.1) (subst (In (o.0, change_at a.0 o.1)) (sym all_changes) a.1)).0 in
      let f = facts settings phases opened ran last all s.0 s.1 in
      weaker_of (knows (labels_of s.0.after)) (knows (labels_of last))
      (λ (doc : Doc) h. still_knows (labels_of s.0.after) (labels_of last) doc (labels_begin settings phases opened ran last all s.0.after last f.1) h) (doc_of o.1) s.2.known

  -- ---- the walk

  abbrev front : Entries (List (List ℕ))
  front = (0, []) ∷ (opened_seen opened).labels

  abbrev rest : Entries (List (List ℕ))
  rest = begins.labels.0

  abbrev whole : Entries (List (List ℕ))
  whole = (0, []) ∷ last.labels

  abbrev next : Entries (List (List ℕ))
  next = take (limit whole last.operations last.pairs later - length front) rest

  abbrev after_next : Entries (List (List ℕ))
  after_next = drop (limit whole last.operations last.pairs later - length front) rest

  both_parts : next ++ after_next ≡ rest
  both_parts = take-append-drop (limit whole last.operations last.pairs later - length front) rest

  all_parts : front ++ rest ≡ whole
  all_parts = ap (λ (l : Entries (List (List ℕ))). (0, []) ∷ l) begins.labels.1

  front_size : length front ≡ length opened.labels
  front_size = let e = opened_size settings phases opened ran last all in let f : length front ≡ length (opened_seen opened).labels + 1 = omega arith in f ∙ sym e

  limits : (length opened.labels ≤ limit whole last.operations last.pairs later) × (limit whole last.operations last.pairs later ≤ length whole)
  limits = limit_after whole last.operations last.pairs all.label_list pairs_good first_pair [] later begins.pairs.1 all_labels_rise

  left : Left whole last.operations last.pairs (front ++ next) after_next placed more (first_pair ∷ []) later 2 acts
  left =
      let l = limits.0 in
      let m = limits.1 in
      let f = front_size in
      let sum = length-append front rest in
      let size = ap length all_parts in
      let taken : length next ≡ limit whole last.operations last.pairs later - length front = length-take-le (limit whole last.operations last.pairs later - length front) rest (omega arith) in
      let joined = length-append front next in
      record {
        all_labels = append_assoc front next after_next ∙ ap (λ l. front ++ l) both_parts ∙ all_parts;
        all_operations = begins.operations.1;
        all_published = begins.pairs.1;
        some = omega arith;
        many = (let e : length (front ++ next) ≡ limit whole last.operations last.pairs later = omega arith in e);
        rises = all_rise;
        operations = all_changes;
        publishes = all_publishes;
        low = low_so;
        high = high_so;
        labels_rise = rise_tail (length opened.labels) (map (λ p. p.1) (pairs_in later)) all_labels_rise;
        known = known_so;
      }

  walked : (d : Stored) → Walked whole last.operations last.pairs (front ++ next) after_next placed (first_pair ∷ []) d acts
  walked d = walk whole last.operations last.pairs all.label_list pairs_good acts (front ++ next) after_next placed more (first_pair ∷ []) later 2 d left

  -- ---- the core that was opened

  abbrev stored : Stored
  stored = record {
    acknowledged = opened_pair opened ∷ [];
    tax_read = length opened.labels;
    tax_may = length opened.labels ∷ [];
    idx_read = opened_pair opened;
    idx_may = opened_pair opened ∷ [];
  }

  same_docs : (ds : List Doc) → operations_in (map (λ doc. (0, add doc)) ds) ≡ opened_history ds
  same_docs [] = refl
  same_docs (d ∷ ds) = ap (λ (l : List Operation). (record { session = 0; change = add d }) ∷ l) (same_docs ds)

  start : calm (paths_in front) (operations_in placed) (opened_pair opened ∷ []) stored ≡ opened_core opened
  start = λ i. calm (opened_first settings phases opened ran last all i) (same_docs opened.docs i) (opened_pair opened ∷ []) stored

  abbrev w : Walked whole last.operations last.pairs (front ++ next) after_next placed (first_pair ∷ []) stored acts
  w = walked stored

  abbrev moves : List Move
  moves = entering next ++ w.moves

  abbrev end : State
  end = calm (labels_of last) (history_of last) (pairs_in last.pairs) w.stored

  entered_first : Leads (calm (paths_in front) (operations_in placed) (opened_pair opened ∷ []) stored) end moves (next ++ after_next) (map told acts)
  entered_first =
      let joined : paths_in (front ++ next) ≡ paths_in front ++ paths_in next = map-append (λ (e : ℕ × List (List ℕ)). e.1) front next in
      let parts : labels_of last ≡ paths_in front ++ (paths_in next ++ paths_in after_next) =
      ap paths_in (sym all_parts ∙ ap (λ l. front ++ l) (sym both_parts)) ∙ map-append (λ (e : ℕ × List (List ℕ)). e.1) front (next ++ after_next)
      ∙ ap (λ l. paths_in front ++ l) (map-append (λ (e : ℕ × List (List ℕ)). e.1) next after_next) in
      enter_then (paths_in front) next (paths_in after_next) (operations_in placed) (opened_pair opened ∷ []) stored end w.moves after_next (map told acts)
      (subst IsLabelList parts all.label_list) (omega arith)
      (subst (λ (l : List (List (List ℕ))). Leads (calm l (operations_in placed) (opened_pair opened ∷ []) stored) end w.moves after_next (map told acts)) joined w.leads)

  leads : Leads (opened_core opened) end moves rest (map told acts)
  leads = subst (λ (s : State). Leads s end moves rest (map told acts)) start
      (subst (λ (l : Entries (List (List ℕ))). Leads (calm (paths_in front) (operations_in placed) (opened_pair opened ∷ []) stored) end moves l (map told acts)) both_parts entered_first)

  -- ---- the law

  opened_list : IsLabelList opened.labels
  opened_list =
      let size = opened_size settings phases opened ran last all in
      let l = limits.0 in let m = limits.1 in
      let n : length whole ≡ length (labels_of last) = sym (length-map whole (λ (e : ℕ × List (List ℕ)). e.1)) in
      subst IsLabelList output.opened_labels (front_labels (labels_of last) all.label_list (length opened.labels) (omega arith) (omega arith))

  opened_known : list_all (knows opened.labels) (brought (opened_operations opened)) ≡ true
  opened_known =
      let pair : is_pair (labels_of last) (history_of last) (opened_pair opened) ≡ true =
      (and_parts (is_pair (labels_of last) (history_of last) (opened_pair opened)) _ (subst (λ (l : Entries (ℕ × ℕ)). list_all (is_pair (labels_of last) (history_of last)) (pairs_in l) ≡ true) (sym begins.pairs.1) pairs_good)).0 in
      let covered : covers (labels_of last) (length opened.labels) (history_of last) (length opened.docs) ≡ true =
      (and_parts (nat_le (length opened.docs) (length (history_of last)) && nat_le (length opened.labels) (length (labels_of last))) _ pair).1 in
      let labels = sym output.opened_labels in
      let operations = sym output.opened_docs in
      (λ i. list_all (knows (labels i)) (brought (operations i))) ∙ covered

  sessions_so : (n : ℕ) → entered_by n (answers_in (opened_core opened) moves) ≡ map answer_of (filter has_move (of_session n (answers_of ran)))
  sessions_so n =
      ap (entered_by n) leads.answered ∙ filter-map told (λ e. eqb e.0 n) acts ∙ ap (map told) (own_order n) ∙ told_acts (own_steps n steps) (own_did n)
      ∙ ap (λ l. map answer_of (filter has_move l)) (own_answers settings phases opened ran last all n)

  -- ---- the first phases

  parts : (n : ℕ) → Split n steps
  parts n = split_phases n 0 (opened_seen opened) ran last all.told

  first_in : (n : ℕ) (x : Step) → In x (parts n).first → In x steps
  first_in n x there = subst (In x) (sym (parts n).parts) (in_left (parts n).first (parts n).later x there)

  later_in : (n : ℕ) (x : Step) → In x (parts n).later → In x steps
  later_in n x there = subst (In x) (sym (parts n).parts) (in_right (parts n).first (parts n).later x there)

  acts_parts : (n : ℕ) → acts_of steps ≡ acts_of (parts n).first ++ acts_of (parts n).later
  acts_parts n = ap acts_of (parts n).parts ∙ filter_map-append act_of (parts n).first (parts n).later

  -- what was done in a phase comes before what was done in a later one
  phases_apart : (n : ℕ) (a b : Act) → In a (acts_of (parts n).first) → In b (acts_of (parts n).later) → before a b ≡ true
  phases_apart n a b there there' =
      let x = in_filter_map act_of (parts n).first a there in
      let y = in_filter_map act_of (parts n).later b there' in
      let x_in = first_in n x.0 x.1 in
      let y_in = later_in n y.0 y.1 in
      let below = (parts n).below x.0 x.1 in
      let above = (parts n).above y.0 y.1 in
      let after : comes_after y.0.answered x.0.answered ≡ true = or_left (nat_lt x.0.answered.phase y.0.answered.phase) _ (lt-ltb x.0.answered.phase y.0.answered.phase (omega arith)) in
      let sees = after_sees settings phases opened ran last all x.0 y.0 x_in y_in after in
      let x_does = deed_at x.0 x_in a x.2 in
      let y_does = deed_at y.0 y_in b y.2 in
      let over : Lex (bound x.0.after) (bound y.0.before) = bound_more x.0.after y.0.before (prefix_length x.0.after.operations y.0.before.operations sees.operations) (prefix_length x.0.after.pairs y.0.before.pairs sees.pairs) in
      lex_from (point a.1) (point b.1) (lex_then (point a.1) (bound x.0.after) (point b.1) x_does.high (lex_then (bound x.0.after) (bound y.0.before) (point b.1) over y_does.low))

  sorted_apart : (n : ℕ) → acts ≡ sorted before (acts_of (parts n).first) ++ sorted before (acts_of (parts n).later)
  sorted_apart n = ap (sorted before) (acts_parts n) ∙ sorted_parts before (in_sorted before) (acts_of (parts n).first) (acts_of (parts n).later) (phases_apart n)

  -- the first of them, of a session
  first_order : (n session : ℕ) → entered_by session (sorted before (acts_of (parts n).first)) ≡ acts_of (own_steps session (parts n).first)
  first_order n session =
      let own = λ (e : Act). eqb e.0 session in
      let both : entered_by session (acts_of steps) ≡ entered_by session (acts_of (parts n).first) ++ entered_by session (acts_of (parts n).later) =
      ap (entered_by session) (acts_parts n) ∙ filter-append own (acts_of (parts n).first) (acts_of (parts n).later) in
      sorted_own before before_total before_then own (acts_of (parts n).first)
      (rises_front before (entered_by session (acts_of (parts n).first)) (entered_by session (acts_of (parts n).later)) (subst (Rises before) both (own_rise session)))
      ∙ own_acts session (parts n).first

  phases_so : (n : ℕ) → (first : List Move) × (after : List Move) × (moves ≡ first ++ after)
      × ((session : ℕ) → AreMovesOf opened (filter (λ a. nat_lt a.phase n) (answers_of ran)) session first)
  phases_so n =
      let whole : answers_in (opened_core opened) moves ≡ map told (sorted before (acts_of (parts n).first)) ++ map told (sorted before (acts_of (parts n).later)) =
      leads.answered ∙ ap (map told) (sorted_apart n) ∙ map-append told (sorted before (acts_of (parts n).first)) (sorted before (acts_of (parts n).later)) in
      let r = split_moves (opened_core opened) moves (map told (sorted before (acts_of (parts n).first))) (map told (sorted before (acts_of (parts n).later))) whole in
      let answers : filter (λ (a : Answered). nat_lt a.phase n) (answers_of ran) ≡ map (λ (x : Step). x.answered) (parts n).first =
      ap (λ (l : List Step). filter (λ (a : Answered). nat_lt a.phase n) (map (λ (x : Step). x.answered) l)) (parts n).parts ∙ first_answers n (parts n).first (parts n).later (parts n).below (parts n).above in (
        r.0,
        r.1,
        r.2,
        λ session.
            ap (entered_by session) r.3 ∙ filter-map told (λ e. eqb e.0 session) (sorted before (acts_of (parts n).first)) ∙ ap (map told) (first_order n session)
            ∙ told_acts (own_steps session (parts n).first) (λ x there. each_did x (first_in n x (of_filter (is_by session) (parts n).first x there).0))
            ∙ ap (λ l. map answer_of (filter has_move l)) (sym (filter-map (λ (x : Step). x.answered) (is_of session) (parts n).first))
            ∙ ap (λ l. map answer_of (filter has_move (of_session session l))) (sym answers),
      )

  acknowledged_so : (n : ℕ) → count_by (λ (p : ℕ × ℕ). p.0 == n) (drop 1 (core_after opened moves).acknowledged) ≡ count_by (λ a. is_number n (durable a)) (answers_of ran)
  acknowledged_so n =
      ap (λ (s : State). count_by (λ (p : ℕ × ℕ). p.0 == n) (drop 1 s.acknowledged)) leads.ends
      ∙ ap (λ (l : List (ℕ × ℕ)). count_by (λ (p : ℕ × ℕ). p.0 == n) (drop 1 l)) w.acknowledged
      ∙ sym (counted_map (λ (p : ℕ × ℕ). p.0) (λ k. k == n) w.more)
      ∙ ap (count_by (λ k. k == n)) w.numbers
      ∙ counted_some n acts ∙ counted_sorted before (λ (a : Act). is_number n (commit_number a.1)) (acts_of steps)
      ∙ counted_acts n steps each_did

  is_run : IsCoreRun opened (answers_of ran) last moves
  is_run = record {
    valid = opened_valid opened opened_list (let e = opened_size settings phases opened ran last all in omega arith) opened_known;
    possible = leads.possible;
    labels = ap (λ (s : State). s.labels) leads.ends;
    history = ap (λ (s : State). s.history) leads.ends;
    published = ap (λ (s : State). s.published) leads.ends;
    acknowledged = acknowledged_so;
    no_refresh = ap (λ (s : State). s.refresh) leads.ends;
    no_commit = ap (λ (s : State). s.commit) leads.ends;
    entered = ap (λ l. (opened_seen opened).labels ++ l) leads.enters ∙ begins.labels.1;
    sessions = sessions_so;
    phases = phases_so;
  }

pub sessions_are_core_runs : SessionsAreCoreRuns
sessions_are_core_runs settings phases opened ran last all = (moves settings phases opened ran last all, is_run settings phases opened ran last all)
