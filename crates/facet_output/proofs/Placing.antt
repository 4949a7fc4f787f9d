-- The operations and the publications of a session are those of its answers, in their order.
use Rattle.std.proofs.Common.{◌≡◌, inl, inr, ℕ, zero, suc, ◌+◌, eqb, Bool, true, false, cond, List, [], ◌∷◌, ◌++◌, length, map, Option, Some, None, refl, sym, ap, ◌∙◌, subst, arith, append_assoc, append-nil, length-append}
use Rattle.std.specs.Prelude.{filter, filter_map, take, drop, option_to_list}
use Rattle.std.specs.List.{enumerate_from, cons_option}
use Rattle.std.proofs.lemmas.Bool.{eqb-true, eq-eqb}
use Rattle.std.proofs.lemmas.List.{length-map, map-append, append_cancel_left, nil_from_length}
use Rattle.std.proofs.lemmas.List.Elements.{filter-append}
use mathlib.Core.List.{IsPrefix}
use Rattle.facet_model.specs.Documents.{Doc}
use Rattle.facet_model.specs.Histories as histories
use Rattle.facet_model.specs.Histories.{Change, Operation, add}
use Rattle.facet_words.specs.Commands.{Settings, Command, Order}
use Rattle.facet_replies.specs.Replies.{Reply}
use Rattle.facet_output.specs.Effects.{effect, report}
use Rattle.facet_output.specs.Answered.{Answered, of_session, is_of}
use Rattle.facet_output.specs.Held.{Held, held_after}
use Rattle.facet_output.specs.Output.{Opened, opened_operations, opened_pair}
use Rattle.facet_output.specs.Reported.{placed_by, placed_operation, refreshed}
use Rattle.facet_output.specs.Seen.{Entries, Seen, IsTold, EntersNone, EntersBehind, entered_by, opened_seen, labels_of, history_of}
use Rattle.facet_output.specs.Steps.{Step, IsStep, EntersOperation, EntersPair}
use Rattle.facet_output.specs.Sessions.{SessionRan, AllRan, steps_of, own_steps, is_by}
use Rattle.facet_output.proofs.Among.{In, of_filter, filter-map}
use Rattle.facet_output.proofs.Answers.{answers}
use Rattle.facet_output.proofs.Bringing.{opened_sees}
use Rattle.facet_output.proofs.Effects.{change_placed}
use Rattle.facet_output.proofs.Fronts.{operation_of}

-- ---- what grows by each answer

module _ {B : Type 0} (settings : Settings) (session : ℕ) (view : Seen → List B) (new : Answered → Option B)
    (told : (a b : Seen) → IsTold session a b → view b ≡ view a)
    (stepped : (held : Held) (x : Step) → x.answered.order.session ≡ session → IsStep settings held x → view x.after ≡ view x.before ++ option_to_list (new x.answered)) where
  joined : (o : Option B) (xs ys : List B) → (xs ++ option_to_list o) ++ ys ≡ xs ++ cons_option o ys
  joined None xs ys = append_assoc xs [] ys
  joined (Some b) xs ys = append_assoc xs (b ∷ []) ys

  pub gathered : (held : Held) (seen : Seen) (xs : List Step) (last : Seen) → SessionRan settings session held seen xs last → ((x : Step) → In x xs → x.answered.order.session ≡ session)
      → view last ≡ view seen ++ filter_map new (map (λ (x : Step). x.answered) xs)
  gathered held seen [] last ran own = told seen last ran ∙ sym (append-nil (view seen))
  gathered held seen (x ∷ xs) last ran own =
      gathered (held_after held x.answered) x.after xs last ran.2 (λ y there. own y (inr there))
      ∙ ap (λ l. l ++ filter_map new (map (λ (x : Step). x.answered) xs)) (stepped held x (own x (inl refl)) ran.1 ∙ ap (λ l. l ++ option_to_list (new x.answered)) (told seen x.before ran.0))
      ∙ joined (new x.answered) (view seen) (filter_map new (map (λ (x : Step). x.answered) xs))

-- ---- operations

-- those of a session, with their places from a number on
abbrev owned : ℕ → ℕ → Entries Change → List (ℕ × Operation)
owned n k xs = filter (λ e. eqb e.1.session n) (enumerate_from k (map operation_of xs))

owned_none : (n k : ℕ) (xs : Entries Change) → entered_by n xs ≡ [] → owned n k xs ≡ []
owned_none n k [] none = refl
owned_none n k (x ∷ xs) none = by (eqb x.0 n) none (owned_none n (k + 1) xs)
  where
    by : (b : Bool) → cond b (x ∷ entered_by n xs) (entered_by n xs) ≡ [] → (entered_by n xs ≡ [] → owned n (k + 1) xs ≡ []) → cond b ((k, operation_of x) ∷ owned n (k + 1) xs) (owned n (k + 1) xs) ≡ []
    by true none rest = absurd cc
    by false none rest = rest none

owned_append : (n k : ℕ) (xs ys : Entries Change) → owned n k (xs ++ ys) ≡ owned n k xs ++ owned n (k + length xs) ys
owned_append n k [] ys = ap (λ j. owned n j ys) (let e : k ≡ k + 0 = omega arith in e)
owned_append n k (x ∷ xs) ys = by (eqb x.0 n) (owned_append n (k + 1) xs ys ∙ ap (λ j. owned n (k + 1) xs ++ owned n j ys) (let e : k + 1 + length xs ≡ k + suc (length xs) = omega arith in e))
  where
    by : (b : Bool) → owned n (k + 1) (xs ++ ys) ≡ owned n (k + 1) xs ++ owned n (k + suc (length xs)) ys
        → cond b ((k, operation_of x) ∷ owned n (k + 1) (xs ++ ys)) (owned n (k + 1) (xs ++ ys)) ≡ cond b ((k, operation_of x) ∷ owned n (k + 1) xs) (owned n (k + 1) xs) ++ owned n (k + suc (length xs)) ys
    by true e = ap (λ (l : List (ℕ × Operation)). (k, operation_of x) ∷ l) e
    by false e = e

owned_behind : (n : ℕ) (xs ys : Entries Change) → owned n 0 (xs ++ ys) ≡ owned n 0 xs ++ owned n (length xs) ys
owned_behind n xs ys = owned_append n 0 xs ys ∙ ap (λ j. owned n 0 xs ++ owned n j ys) (let e : 0 + length xs ≡ length xs = omega arith in e)

pub rest_none : {A : Type 0} (n : ℕ) (old new : Entries A) → (p : EntersNone n old new) → entered_by n p.0.0 ≡ []
rest_none n old new p =
    let parts = filter-append (λ e. eqb e.0 n) old p.0.0 in
    let whole = ap (entered_by n) p.0.1 ∙ p.1 in
    nil_from_length (entered_by n p.0.0) (omega (arith, ap length (sym parts ∙ whole), length-append (entered_by n old) (entered_by n p.0.0)))

owned_still : (n : ℕ) (old new : Entries Change) → EntersNone n old new → owned n 0 new ≡ owned n 0 old
owned_still n old new p = ap (owned n 0) (sym p.0.1) ∙ owned_behind n old p.0.0 ∙ ap (λ l. owned n 0 old ++ l) (owned_none n (length old) p.0.0 (rest_none n old new p)) ∙ append-nil (owned n 0 old)

owned_more : (n : ℕ) (x : Change) (old between new : Entries Change) → EntersBehind n x old between new → owned n 0 new ≡ owned n 0 old ++ (length between, record { session = n; change = x }) ∷ []
owned_more n x old between new p = ap (owned n 0) p.1 ∙ owned_behind n between ((n, x) ∷ []) ∙ (λ i. owned_still n old between p.0 i ++ last i)
  where
    last : owned n (length between) ((n, x) ∷ []) ≡ (length between, record { session = n; change = x }) ∷ []
    last = let e : eqb n n ≡ true = eq-eqb n n refl in rw e refl

pub placed_session : (session : ℕ) (command : Command) (reply : Reply) (p : ℕ × Operation) → placed_by session command reply ≡ Some p → p.1.session ≡ session
placed_session session command reply p e = (change_placed session (effect command) (report reply) p e).3

entered_operation : (n : ℕ) (o : Option (ℕ × Operation)) (old new : Entries Change) → ((p : ℕ × Operation) → o ≡ Some p → p.1.session ≡ n) → EntersOperation n o old new → owned n 0 new ≡ owned n 0 old ++ option_to_list o
entered_operation n None old new own enters = owned_still n old new enters ∙ sym (append-nil (owned n 0 old))
entered_operation n (Some p) old new own enters = owned_more n p.1.change old enters.0 new enters.1
    ∙ ap (λ (q : ℕ × Operation). owned n 0 old ++ q ∷ []) (λ i. (sym enters.2 i, record { session = sym (own p refl) i; change = p.1.change }))

-- ---- publications

abbrev numbers_in : ℕ → Entries (ℕ × ℕ) → List ℕ
numbers_in n xs = map (λ e. e.1.0) (entered_by n xs)

entered_pair : (n least most : ℕ) (o : Option ℕ) (old new : Entries (ℕ × ℕ)) → EntersPair n least most o old new → numbers_in n new ≡ numbers_in n old ++ option_to_list o
entered_pair n least most None old new enters = ap (map (λ e. e.1.0)) enters.1 ∙ sym (append-nil (numbers_in n old))
entered_pair n least most (Some k) old new enters =
    ap (numbers_in n) enters.2.1 ∙ ap (map (λ e. e.1.0)) (filter-append (λ e. eqb e.0 n) enters.0 ((n, (k, enters.1)) ∷ [])) ∙ map-append (λ e. e.1.0) (entered_by n enters.0) (entered_by n ((n, (k, enters.1)) ∷ []))
    ∙ (λ i. map (λ e. e.1.0) (enters.2.0.1 i) ++ last i)
  where
    last : numbers_in n ((n, (k, enters.1)) ∷ []) ≡ k ∷ []
    last = let e : eqb n n ≡ true = eq-eqb n n refl in rw e refl

-- ---- of all sessions

module _ (settings : Settings) (phases : List (List Order)) (opened : Opened) (ran : List (List Step)) (last : Seen) (all : AllRan settings phases opened ran last) where
  pub of_own : (n : ℕ) (x : Step) → In x (own_steps n (steps_of ran)) → x.answered.order.session ≡ n
  of_own n x there = eqb-true x.answered.order.session n (of_filter (is_by n) (steps_of ran) x there).1

  pub own_answers : (n : ℕ) → map (λ (x : Step). x.answered) (own_steps n (steps_of ran)) ≡ of_session n (answers (steps_of ran))
  own_answers n = sym (filter-map (λ (x : Step). x.answered) (is_of n) (steps_of ran))

  placed_in : (n : ℕ) → owned n 0 last.operations ≡ owned n 0 (opened_seen opened).operations ++ filter_map placed_operation (of_session n (answers (steps_of ran)))
  placed_in n =
      gathered settings n (λ s. owned n 0 s.operations) placed_operation
      (λ a b told. owned_still n a.operations b.operations (told.sees.operations, told.operations))
      (λ held x own step. entered_operation n (placed_operation x.answered) x.before.operations x.after.operations
      (λ p e. placed_session x.answered.order.session x.answered.order.command x.answered.reply p e ∙ own)
      (subst (λ (m : ℕ). EntersOperation m (placed_operation x.answered) x.before.operations x.after.operations) own step.operations))
      [] (opened_seen opened) (own_steps n (steps_of ran)) last (all.sessions n) (of_own n)
      ∙ ap (λ l. owned n 0 (opened_seen opened).operations ++ filter_map placed_operation l) (own_answers n)

  pub operations_so : (n : ℕ) → filter (λ e. eqb e.1.session n) (enumerate_from (length opened.docs) (drop (length opened.docs) (history_of last))) ≡ filter_map placed_operation (of_session n (answers (steps_of ran)))
  operations_so n =
      let begins = (opened_sees settings phases opened ran last all).operations in
      let size : length (opened_seen opened).operations ≡ length opened.docs = length-map opened.docs (λ doc. (0, add doc)) in
      let front = (opened_seen opened).operations in
      let whole : map operation_of last.operations ≡ map operation_of front ++ map operation_of begins.0 = ap (map operation_of) (sym begins.1) ∙ map-append operation_of front begins.0 in
      let behind : drop (length opened.docs) (map operation_of last.operations) ≡ map operation_of begins.0 =
      ap (drop (length opened.docs)) whole ∙ dropped (map operation_of front) (map operation_of begins.0) (length opened.docs) (length-map front operation_of ∙ size) in
      let split : owned n 0 last.operations ≡ owned n 0 front ++ owned n (length opened.docs) begins.0 =
      ap (owned n 0) (sym begins.1) ∙ owned_behind n front begins.0 ∙ ap (λ j. owned n 0 front ++ owned n j begins.0) size in
      ap (λ l. filter (λ e. eqb e.1.session n) (enumerate_from (length opened.docs) l)) behind ∙ append_cancel_left (owned n 0 front) _ _ (sym split ∙ placed_in n)
    where
      dropped : (xs ys : List Operation) (k : ℕ) → length xs ≡ k → drop k (xs ++ ys) ≡ ys
      dropped [] ys zero e = refl
      dropped [] ys (suc k) e = absurd (omega arith)
      dropped (x ∷ xs) ys zero e = absurd (omega arith)
      dropped (x ∷ xs) ys (suc k) e = dropped xs ys k (omega arith)

  pub opened_docs_so : take (length opened.docs) (history_of last) ≡ opened_operations opened
  opened_docs_so =
      let begins = (opened_sees settings phases opened ran last all).operations in
      let front = (opened_seen opened).operations in
      ap (λ l. take (length opened.docs) (map operation_of l)) (sym begins.1) ∙ ap (take (length opened.docs)) (map-append operation_of front begins.0) ∙ taken opened.docs (map operation_of begins.0)
    where
      taken : (docs : List Doc) (more : List Operation) → take (length docs) (map operation_of (map (λ doc. (0, add doc)) docs) ++ more) ≡ histories.opened docs
      taken [] more = refl
      taken (d ∷ docs) more = ap (λ (l : List Operation). record { session = 0; change = add d } ∷ l) (taken docs more)

  pub refreshes_so : (n : ℕ) → map (λ e. e.1.0) (filter (λ e. eqb e.0 n) (drop 1 last.pairs)) ≡ filter_map refreshed (of_session n (answers (steps_of ran)))
  refreshes_so n = behind last.pairs (opened_sees settings phases opened ran last all).pairs (
      gathered settings n (λ s. numbers_in n s.pairs) refreshed
      (λ a b told. ap (map (λ e. e.1.0)) told.pairs)
      (λ held x own step. entered_pair n (length (labels_of x.before)) (length (labels_of x.after)) (refreshed x.answered) x.before.pairs x.after.pairs (subst (λ (m : ℕ). EntersPair m (length (labels_of x.before)) (length (labels_of x.after)) (refreshed x.answered) x.before.pairs x.after.pairs) own step.pairs))
      [] (opened_seen opened) (own_steps n (steps_of ran)) last (all.sessions n) (of_own n)
      ∙ ap (λ l. numbers_in n (opened_seen opened).pairs ++ filter_map refreshed l) (own_answers n))
    where
      behind : (pairs : Entries (ℕ × ℕ)) → IsPrefix ((0, opened_pair opened) ∷ []) pairs → numbers_in n pairs ≡ numbers_in n ((0, opened_pair opened) ∷ []) ++ filter_map refreshed (of_session n (answers (steps_of ran)))
          → numbers_in n (drop 1 pairs) ≡ filter_map refreshed (of_session n (answers (steps_of ran)))
      behind [] begins e = absurd (cc (begins.1))
      behind (p ∷ pairs) begins e = let same : (0, opened_pair opened) ≡ p = cc (begins.1) in by (eqb 0 n) refl (subst (λ (q : ℕ × (ℕ × ℕ)). numbers_in n (q ∷ pairs) ≡ numbers_in n ((0, opened_pair opened) ∷ []) ++ filter_map refreshed (of_session n (answers (steps_of ran)))) (sym same) e)
        where
          by : (b : Bool) → eqb 0 n ≡ b → numbers_in n ((0, opened_pair opened) ∷ pairs) ≡ numbers_in n ((0, opened_pair opened) ∷ []) ++ filter_map refreshed (of_session n (answers (steps_of ran)))
              → numbers_in n pairs ≡ filter_map refreshed (of_session n (answers (steps_of ran)))
          by true t e = append_cancel_left (length opened.docs ∷ []) _ _ (rw t at e)
          by false t e = rw t at e

  pub opened_pair_so : take 1 last.pairs ≡ (0, opened_pair opened) ∷ []
  opened_pair_so = first last.pairs (opened_sees settings phases opened ran last all).pairs
    where
      first : (pairs : Entries (ℕ × ℕ)) → IsPrefix ((0, opened_pair opened) ∷ []) pairs → take 1 pairs ≡ (0, opened_pair opened) ∷ []
      first [] begins = absurd (cc (begins.1))
      first (p ∷ pairs) begins = let same : (0, opened_pair opened) ≡ p = cc (begins.1) in λ i. sym same i ∷ []
