-- The deeds of many steps.
use Rattle.std.proofs.Common.{◌≡◌, ◌⊎◌, inl, inr, ⊎_elim, ℕ, ◌+◌, ◌≤◌, eqb, Bool, true, false, cond, List, [], ◌∷◌, ◌++◌, length, map, Option, Some, None, refl, sym, ap, ◌∙◌, subst, arith, append_assoc, append-nil, length-append}
use Rattle.std.specs.Prelude.{count_by, filter, filter_map, option_map, option_to_list}
use Rattle.std.specs.List.{cons_option}
use Rattle.std.proofs.lemmas.List.Sums.{sum_by-cons}
use Rattle.facet_model.specs.Histories.{Change, Operation}
use Rattle.facet_words.specs.Commands.{Settings}
use Rattle.facet_output.specs.Answered.{Answered}
use Rattle.facet_output.specs.Held.{Held, held_after}
use Rattle.facet_output.specs.Reported.{durable, is_number}
use Rattle.facet_output.specs.Seen.{Entries, Seen, IsTold, EntersNone, EntersBehind, entered_by}
use Rattle.facet_output.specs.Sessions.{SessionRan, is_by, own_steps}
use Rattle.facet_output.specs.Steps.{Step, IsStep, EntersOperation, EntersPair}
use Rattle.facet_output.proofs.Among.{In}
use Rattle.facet_output.proofs.Placing.{rest_none}
use Rattle.chronicle.proofs.Prefixes.{prefix_length}
use Rattle.core_runs.specs.CoreRuns.{answer_of, has_move}
use Rattle.core_runs.proofs.Deeds.{Act, Deed, Lex, before, change_at, commit_number, lex_from, lex_then, point, publish_of, told}
use Rattle.core_runs.proofs.Doing.{Did, act_of, between, bound, did}
use Rattle.core_runs.proofs.Gather.{each_at, own_more, own_still, pub_at}
use Rattle.core_runs.proofs.Sorting.{Rises}

abbrev pub acts_of : List Step → List Act
acts_of xs = filter_map act_of xs

-- ---- of a session

pub own_acts : (n : ℕ) (xs : List Step) → entered_by n (acts_of xs) ≡ acts_of (own_steps n xs)
own_acts n [] = refl
own_acts n (x ∷ xs) = own (act_of x) refl (own_acts n xs) ∙ sym (kept (is_by n x))
  where
    kept : (b : Bool) → acts_of (cond b (x ∷ own_steps n xs) (own_steps n xs)) ≡ cond b (cons_option (act_of x) (acts_of (own_steps n xs))) (acts_of (own_steps n xs))
    kept true = refl
    kept false = refl

    session_of : Option Act → ℕ
    session_of None = x.answered.order.session
    session_of (Some a) = a.0

    by_session : (o : Option Deed) → session_of (option_map {U = Act} (λ d. (x.answered.order.session, d)) o) ≡ x.answered.order.session
    by_session None = refl
    by_session (Some d) = refl

    own : (o : Option Act) → act_of x ≡ o → entered_by n (acts_of xs) ≡ acts_of (own_steps n xs)
        → entered_by n (cons_option o (acts_of xs)) ≡ cond (is_by n x) (cons_option o (acts_of (own_steps n xs))) (acts_of (own_steps n xs))
    own None e rest = rest ∙ sym (either (is_by n x))
      where
        either : (b : Bool) → cond b (acts_of (own_steps n xs)) (acts_of (own_steps n xs)) ≡ acts_of (own_steps n xs)
        either true = refl
        either false = refl
    own (Some a) e rest =
        let same : x.answered.order.session ≡ a.0 = sym (by_session _) ∙ ap session_of e in
        ap (λ l. cond (eqb a.0 n) (a ∷ l) l) rest ∙ ap (λ (s : ℕ). cond (eqb s n) (a ∷ acts_of (own_steps n xs)) (acts_of (own_steps n xs))) (sym same)

-- ---- what steps did

pub part_of : (test : Act → Bool) (part : Step → Option Act) (xs : List Step)
    → ((x : Step) → In x xs → ((a : Act) × (act_of x ≡ Some a) × (part x ≡ cond (test a) (Some a) None)) ⊎ ((act_of x ≡ None) × (part x ≡ None)))
    → filter test (acts_of xs) ≡ filter_map part xs
part_of test part [] each = refl
part_of test part (x ∷ xs) each =
    let rest = part_of test part xs (λ y there. each y (inr there)) in ⊎_elim
    (λ s. ap (λ (o : Option Act). filter test (cons_option o (acts_of xs))) s.1 ∙ by s.0 (test s.0) rest ∙ sym (ap (λ (o : Option Act). cons_option o (filter_map part xs)) s.2))
    (λ n. ap (λ (o : Option Act). filter test (cons_option o (acts_of xs))) n.0 ∙ rest ∙ sym (ap (λ (o : Option Act). cons_option o (filter_map part xs)) n.1))
    (each x (inl refl))
  where
    by : (a : Act) (b : Bool) → filter test (acts_of xs) ≡ filter_map part xs → cond b (a ∷ filter test (acts_of xs)) (filter test (acts_of xs)) ≡ cons_option (cond b (Some a) None) (filter_map part xs)
    by a true rest = ap (λ (l : List Act). a ∷ l) rest
    by a false rest = rest

abbrev answers : List Step → List Answered
answers xs = map (λ (x : Step). x.answered) xs

pub told_acts : (xs : List Step) → ((x : Step) → In x xs → Did x) → map told (acts_of xs) ≡ map answer_of (filter has_move (answers xs))
told_acts [] each = refl
told_acts (x ∷ xs) each =
    let rest = told_acts xs (λ y there. each y (inr there)) in ⊎_elim
    (λ d. let does = d.1 in let passes = does.moves in
    ap (λ (o : Option Act). map told (cons_option o (acts_of xs))) does.act
    ∙ (λ i. sym does.answer i ∷ rest i)
    ∙ (let e : answer_of x.answered ∷ map answer_of (filter has_move (answers xs)) ≡ map answer_of (filter has_move (answers (x ∷ xs))) = rw passes refl in e))
    (λ idle. let fails = idle.moves_none in
    ap (λ (o : Option Act). map told (cons_option o (acts_of xs))) idle.act ∙ rest
    ∙ (let e : map answer_of (filter has_move (answers xs)) ≡ map answer_of (filter has_move (answers (x ∷ xs))) = rw fails refl in e))
    (each x (inl refl))

pub counted_acts : (n : ℕ) (xs : List Step) → ((x : Step) → In x xs → Did x) → count_by (λ (a : Act). is_number n (commit_number a.1)) (acts_of xs) ≡ count_by (λ a. is_number n (durable a)) (answers xs)
counted_acts n [] each = refl
counted_acts n (x ∷ xs) each =
    let rest = counted_acts n xs (λ y there. each y (inr there)) in
    let test : Act → Bool = λ a. is_number n (commit_number a.1) in
    let whole = sum_by-cons (λ a. cond (is_number n (durable a)) 1 0) x.answered (answers xs) in ⊎_elim
    (λ d. let does = d.1 in
    ap (λ (o : Option Act). count_by test (cons_option o (acts_of xs))) does.act
    ∙ sum_by-cons (λ a. cond (test a) 1 0) (x.answered.order.session, d.0) (acts_of xs)
    ∙ (λ i. cond (is_number n (does.commits i)) 1 0 + rest i) ∙ sym whole)
    (λ idle. let none = idle.commits in
    ap (λ (o : Option Act). count_by test (cons_option o (acts_of xs))) idle.act ∙ rest
    ∙ (let e : count_by (λ a. is_number n (durable a)) (answers xs) ≡ 0 + count_by (λ a. is_number n (durable a)) (answers xs) = omega arith in e)
    ∙ ap (λ (o : Option ℕ). cond (is_number n o) 1 0 + count_by (λ a. is_number n (durable a)) (answers xs)) (sym none) ∙ sym whole)
    (each x (inl refl))

-- ---- the deeds of a session come in their order

pub bound_more : (a b : Seen) → length a.operations ≤ length b.operations → length a.pairs ≤ length b.pairs → Lex (bound a) (bound b)
bound_more a b le le' = between (length a.operations) (length b.operations) (length a.pairs) (length b.pairs) le le'

pub acts_rise : (settings : Settings) (session : ℕ) (held : Held) (seen : Seen) (xs : List Step) (last : Seen) → SessionRan settings session held seen xs last
    → Rises before (acts_of xs) × ((a : Act) → In a (acts_of xs) → Lex (bound seen) (point a.1))
acts_rise settings session held seen [] last ran = (tt, λ a there. absurd there)
acts_rise settings session held seen (x ∷ xs) last ran =
    let rest = acts_rise settings session (held_after held x.answered) x.after xs last ran.2 in
    let to : Lex (bound seen) (bound x.before) = bound_more seen x.before (prefix_length seen.operations x.before.operations ran.0.sees.operations) (prefix_length seen.pairs x.before.pairs ran.0.sees.pairs) in
    let over : Lex (bound x.before) (bound x.after) = bound_more x.before x.after (prefix_length x.before.operations x.after.operations ran.1.sees.operations) (prefix_length x.before.pairs x.after.pairs ran.1.sees.pairs) in
    let past : Lex (bound seen) (bound x.after) = lex_then (bound seen) (bound x.before) (bound x.after) to over in
    let later : (a : Act) → In a (acts_of xs) → Lex (bound seen) (point a.1) = λ a there. lex_then (bound seen) (bound x.after) (point a.1) past (rest.1 a there) in
    ⊎_elim
    (λ d. let does = d.1 in let a : Act = (x.answered.order.session, d.0) in
    subst (λ (o : Option Act). Rises before (cons_option o (acts_of xs)) × ((a : Act) → In a (cons_option o (acts_of xs)) → Lex (bound seen) (point a.1))) (sym does.act) (
      ((λ b there. lex_from (point d.0) (point b.1) (lex_then (point d.0) (bound x.after) (point b.1) does.high (rest.1 b there))), rest.0),
      (λ b there. ⊎_elim (λ is. subst (λ (c : Act). Lex (bound seen) (point c.1)) (sym is) (lex_then (bound seen) (bound x.before) (point d.0) to does.low)) (λ r. later b r) there),
    ))
    (λ idle. subst (λ (o : Option Act). Rises before (cons_option o (acts_of xs)) × ((a : Act) → In a (cons_option o (acts_of xs)) → Lex (bound seen) (point a.1))) (sym idle.act) (rest.0, later))
    (did settings held x ran.1)

-- ---- the entries of a session are those of its steps

module _ (settings : Settings) (session : ℕ) (view : Seen → List Act) (new : Step → Option Act)
    (told_so : (a b : Seen) → IsTold session a b → view b ≡ view a)
    (stepped : (held : Held) (x : Step) → x.answered.order.session ≡ session → IsStep settings held x → view x.after ≡ view x.before ++ option_to_list (new x)) where
  joined : (o : Option Act) (xs ys : List Act) → (xs ++ option_to_list o) ++ ys ≡ xs ++ cons_option o ys
  joined None xs ys = append_assoc xs [] ys
  joined (Some b) xs ys = append_assoc xs (b ∷ []) ys

  pub gathered : (held : Held) (seen : Seen) (xs : List Step) (last : Seen) → SessionRan settings session held seen xs last → ((x : Step) → In x xs → x.answered.order.session ≡ session)
      → view last ≡ view seen ++ filter_map new xs
  gathered held seen [] last ran own = told_so seen last ran ∙ sym (append-nil (view seen))
  gathered held seen (x ∷ xs) last ran own =
      gathered (held_after held x.answered) x.after xs last ran.2 (λ y there. own y (inr there))
      ∙ ap (λ l. l ++ filter_map new xs) (stepped held x (own x (inl refl)) ran.1 ∙ ap (λ l. l ++ option_to_list (new x)) (told_so seen x.before ran.0))
      ∙ joined (new x) (view seen) (filter_map new xs)

module _ {A : Type 0} (f : ℕ → A → Deed) (n k : ℕ) where
  abbrev own : Entries A → List Act
  own es = entered_by n (each_at f k es)

  pub entered_none : (old new : Entries A) → EntersNone n old new → own new ≡ own old
  entered_none old new p = ap own (sym p.0.1) ∙ own_still f n k old p.0.0 (rest_none n old new p)

  pub entered_one : (x : A) (old middle new : Entries A) → EntersBehind n x old middle new → own new ≡ own old ++ (n, f (k + length middle) x) ∷ []
  entered_one x old middle new p =
      let whole = p.0.0.1 in
      ap own p.1 ∙ ap (λ (l : Entries A). own (l ++ (n, x) ∷ [])) (sym whole) ∙ own_more f n k x old p.0.0.0 (rest_none n old middle p.0)
      ∙ ap (λ (l : Entries A). own old ++ (n, f (k + length l) x) ∷ []) whole

pub entered_change : (n : ℕ) (o : Option (ℕ × Operation)) (old new : Entries Change) → EntersOperation n o old new
    → entered_by n (each_at change_at 0 new) ≡ entered_by n (each_at change_at 0 old) ++ option_to_list (option_map {U = Act} (λ p. (n, change_at p.0 p.1.change)) o)
entered_change n None old new enters = entered_none change_at n 0 old new enters ∙ sym (append-nil (entered_by n (each_at change_at 0 old)))
entered_change n (Some p) old new enters = entered_one change_at n 0 p.1.change old enters.0 new enters.1
    ∙ ap (λ (at : ℕ). entered_by n (each_at change_at 0 old) ++ (n, change_at at p.1.change) ∷ []) ((let e : 0 + length enters.0 ≡ length enters.0 = omega arith in e) ∙ sym enters.2)

pub entered_publish : (n least most : ℕ) (o : Option ℕ) (old new : Entries (ℕ × ℕ)) → EntersPair n least most o old new
    → entered_by n (each_at pub_at 1 new) ≡ entered_by n (each_at pub_at 1 old) ++ option_to_list (option_map {U = Act} (λ k. (n, publish_of k (length new))) o)
entered_publish n least most None old new enters = entered_none pub_at n 1 old new enters ∙ sym (append-nil (entered_by n (each_at pub_at 1 old)))
entered_publish n least most (Some m) old new enters =
    let size = ap length enters.2.1 ∙ length-append enters.0 ((n, (m, enters.1)) ∷ []) in
    entered_one pub_at n 1 (m, enters.1) old enters.0 new enters.2
    ∙ ap (λ (at : ℕ). entered_by n (each_at pub_at 1 old) ++ (n, publish_of m at) ∷ []) (let e : 1 + length enters.0 ≡ length new = omega arith in e)
