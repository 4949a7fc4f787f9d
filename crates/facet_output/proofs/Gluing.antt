-- How the steps of one phase go behind those of the phases before it.
use Rattle.std.proofs.Common.{◌≡◌, inl, inr, ⊎_elim, ℕ, suc, ◌+◌, ◌≤◌, ◌<◌, true, List, [], ◌∷◌, ◌++◌, length, map, refl, sym, ap, ◌∙◌, subst, arith, append_assoc, append-nil, length-append, ne_eqb}
use Rattle.std.specs.Prelude.{All, flat_map, take, IsTrue}
use Rattle.std.specs.List.{enumerate_from}
use Rattle.std.proofs.lemmas.Bool.{and_from, eq-eqb}
use Rattle.std.proofs.lemmas.List.{map-append}
use Rattle.std.proofs.lemmas.List.Elements.{All-nil, All-cons, All-head, All-tail, filter-append}
use Rattle.std.proofs.lemmas.List.Folds.{list_all-append}
use mathlib.Core.List.{IsPrefix}
use Rattle.facet_names.specs.Labels.{IsLabelList}
use Rattle.facet_model.specs.Histories.{Change, are_publications}
use Rattle.facet_words.specs.Commands.{Settings, Order}
use Rattle.facet_output.specs.Answered.{by_session}
use Rattle.facet_output.specs.Held.{Held, held_after}
use Rattle.facet_output.specs.Output.{Opened}
use Rattle.facet_output.specs.Seen.{Entries, CommitPoint, Seen, Sees, IsTold, entered_by, opened_seen, labels_of, history_of}
use Rattle.facet_output.specs.Steps.{Step}
use Rattle.facet_output.specs.Sessions.{SessionRan, PhasesRan, RanSoFar, AllRan, held_by, steps_of, own_steps, is_by}
use Rattle.facet_words.specs.ScriptOrder.{lines_rise}
use Rattle.facet_output.proofs.Among.{In, all_at, in_filter, in_left, in_map, of_map}
use Rattle.facet_output.proofs.Chain.{sees_self, sees_trans, sees_last}

-- what is told twice is told
pub told_more : (session : ℕ) (a b c : Seen) → IsTold session a b → IsTold session b c → IsTold session a c
told_more session a b c p q = record {
  sees = sees_trans a b c p.sees q.sees;
  labels = q.labels ∙ p.labels;
  operations = q.operations ∙ p.operations;
  pairs = q.pairs ∙ p.pairs;
  commits = q.commits ∙ p.commits;
}

-- a session that is told of more at the end
pub session_told : (settings : Settings) (session : ℕ) (held : Held) (seen : Seen) (xs : List Step) (last more : Seen) → SessionRan settings session held seen xs last → IsTold session last more → SessionRan settings session held seen xs more
session_told settings session held seen [] last more ran told = told_more session seen last more ran told
session_told settings session held seen (x ∷ xs) last more ran told = (ran.0, ran.1, session_told settings session (held_after held x.answered) x.after xs last more ran.2 told)

-- one that is told of more at the beginning
pub told_session : (settings : Settings) (session : ℕ) (held : Held) (before seen : Seen) (xs : List Step) (last : Seen) → IsTold session before seen → SessionRan settings session held seen xs last → SessionRan settings session held before xs last
told_session settings session held before seen [] last told ran = told_more session before seen last told ran
told_session settings session held before seen (x ∷ xs) last told ran = (told_more session before seen x.before told ran.0, ran.1, ran.2)

-- the steps of a phase behind those before it
pub session_append : (settings : Settings) (session : ℕ) (held : Held) (seen : Seen) (xs ys : List Step) (middle last : Seen) → SessionRan settings session held seen xs middle → SessionRan settings session (held_by held xs) middle ys last
    → SessionRan settings session held seen (xs ++ ys) last
session_append settings session held seen [] ys middle last ran more = told_session settings session held seen middle ys last ran more
session_append settings session held seen (x ∷ xs) ys middle last ran more = (ran.0, ran.1, session_append settings session (held_after held x.answered) x.after xs ys middle last ran.2 more)

pub phases_append : (phase : ℕ) (known : Seen) (xs ys : List (List Step)) (middle last : Seen) → PhasesRan phase known xs middle → PhasesRan (phase + length xs) middle ys last → PhasesRan phase known (xs ++ ys) last
phases_append phase known [] [] middle last told more = sees_trans known middle last told more
phases_append phase known [] (steps ∷ ys) middle last told more =
    let same : phase + 0 ≡ phase = omega arith in
    let now : PhasesRan phase middle (steps ∷ ys) last = subst (λ (n : ℕ). PhasesRan n middle (steps ∷ ys) last) same more in
    (now.0, sees_trans known middle now.0 told now.1, (λ k d lt. let h = now.2 k d lt in (h.0, sees_trans known middle _ told h.1, h.2)), now.3)
phases_append phase known (steps ∷ xs) ys middle last told more =
    let same : phase + suc (length xs) ≡ phase + 1 + length xs = omega arith in
    (told.0, told.1, told.2, phases_append (phase + 1) told.0 xs ys middle last told.3 (subst (λ (n : ℕ). PhasesRan n middle ys last) same more))

-- the steps of one session in a phase lie between what is known at its beginning and at its end
pub in_phase : (settings : Settings) (session phase : ℕ) (held : Held) (known seen : Seen) (xs : List Step) (last next : Seen) → Sees known seen → SessionRan settings session held seen xs last → Sees last next
    → All (λ (x : Step). x.answered.phase ≡ phase) xs → All (λ (x : Step). (x.answered.phase ≡ phase) × Sees known x.before × Sees x.after next) xs
in_phase settings session phase held known seen [] last next since ran until here = All-nil (λ (x : Step). (x.answered.phase ≡ phase) × Sees known x.before × Sees x.after next)
in_phase settings session phase held known seen (x ∷ xs) last next since ran until here =
    let before = sees_trans known seen x.before since ran.0.sees in
    let later = sees_last settings session (held_after held x.answered) x.after xs last ran.2 in
    All-cons (λ (x : Step). (x.answered.phase ≡ phase) × Sees known x.before × Sees x.after next) x xs (here 0 x (omega arith), before, sees_trans x.after last next later until)
    (in_phase settings session phase (held_after held x.answered) known x.after xs last next (sees_trans known x.before x.after before ran.1.sees) ran.2 until (λ k d lt. here (suc k) d (omega arith)))

-- the steps of a session, in the phases and in one more
pub own_append : (session : ℕ) (ran more : List (List Step)) → own_steps session (steps_of (ran ++ more)) ≡ own_steps session (steps_of ran) ++ own_steps session (steps_of more)
own_append session [] more = refl
own_append session (steps ∷ ran) more =
    filter-append (is_by session) steps (steps_of (ran ++ more)) ∙ ap (λ l. own_steps session steps ++ l) (own_append session ran more)
    ∙ sym (append_assoc (own_steps session steps) (own_steps session (steps_of ran)) (own_steps session (steps_of more)))
    ∙ ap (λ l. l ++ own_steps session (steps_of more)) (sym (filter-append (is_by session) steps (steps_of ran)))

-- ---- one more phase

sees_between : (settings : Settings) (session : ℕ) (held : Held) (seen : Seen) (xs : List Step) (last : Seen) (x : Step) → SessionRan settings session held seen xs last → In x xs → Sees seen x.before × Sees x.after last
sees_between settings session held seen [] last x ran there = absurd there
sees_between settings session held seen (y ∷ xs) last x ran there =
    let later = sees_last settings session (held_after held y.answered) y.after xs last ran.2 in
    ⊎_elim
    (λ is. subst (λ (z : Step). Sees seen z.before × Sees z.after last) (sym is) (let both : Sees seen y.before × Sees y.after last = (ran.0.sees, later) in both))
    (λ behind. let r = sees_between settings session (held_after held y.answered) y.after xs last x ran.2 behind in
    (sees_trans seen y.before x.before ran.0.sees (sees_trans y.before y.after x.before ran.1.sees r.0), r.1)) there

pub all_by : {A : Type 0} (P : A → Type 0) (xs : List A) → ((x : A) → In x xs → P x) → All P xs
all_by P [] each = All-nil P
all_by P (x ∷ xs) each = All-cons P x xs (each x (inl refl)) (all_by P xs (λ y there. each y (inr there)))

pub told_itself : (session : ℕ) (a : Seen) → IsTold session a a
told_itself session a = record { sees = sees_self a; labels = refl; operations = refl; pairs = refl; commits = refl }

pub none_ran : (settings : Settings) (opened : Opened) → RanSoFar settings [] opened [] (opened_seen opened)
none_ran settings opened = record { as_many = refl; asked = refl; in_line_order = refl; sessions = λ session. told_itself session (opened_seen opened); told = sees_self (opened_seen opened) }

-- the orders of one phase, as they are written
abbrev phase_in_order : ℕ → List Order → List (ℕ × Order)
phase_in_order phase orders = map {B = ℕ × Order} (λ o. (phase, o)) (by_session orders)

written_append : (n : ℕ) (phases : List (List Order)) (orders : List Order) → flat_map (λ e. phase_in_order e.0 e.1) (enumerate_from n (phases ++ orders ∷ [])) ≡ flat_map (λ e. phase_in_order e.0 e.1) (enumerate_from n phases) ++ phase_in_order (n + length phases) orders
written_append n [] orders = append-nil (phase_in_order n orders) ∙ ap (λ k. phase_in_order k orders) (let e : n ≡ n + 0 = omega arith in e)
written_append n (p ∷ phases) orders =
    ap (λ l. phase_in_order n p ++ l) (written_append (n + 1) phases orders ∙ ap (λ k. flat_map (λ e. phase_in_order e.0 e.1) (enumerate_from (n + 1) phases) ++ phase_in_order k orders) (let e : n + 1 + length phases ≡ n + suc (length phases) = omega arith in e))
    ∙ sym (append_assoc (phase_in_order n p) (flat_map (λ e. phase_in_order e.0 e.1) (enumerate_from (n + 1) phases)) (phase_in_order (n + suc (length phases)) orders))

of_steps : (ran : List (List Step)) (steps : List Step) → steps_of (ran ++ steps ∷ []) ≡ steps_of ran ++ steps
of_steps [] steps = append-nil steps
of_steps (s ∷ ran) steps = ap (λ l. s ++ l) (of_steps ran steps) ∙ sym (append_assoc s (steps_of ran) steps)

pub one_more_phase : (settings : Settings) (phases : List (List Order)) (opened : Opened) (ran : List (List Step)) (known : Seen) (orders : List Order) (steps : List Step) (next : Seen)
    → RanSoFar settings phases opened ran known → lines_rise orders ≡ true
    → map {B = ℕ × Order} (λ (x : Step). (x.answered.phase, x.answered.order)) steps ≡ phase_in_order (length phases) orders
    → ((session : ℕ) → SessionRan settings session (held_by [] (own_steps session (steps_of ran))) known (own_steps session steps) next)
    → RanSoFar settings (phases ++ orders ∷ []) opened (ran ++ steps ∷ []) next
one_more_phase settings phases opened ran known orders steps next so_far rise asked sessions = record {
  as_many = (let a = so_far.as_many in omega (arith, length-append ran (steps ∷ []), length-append phases (orders ∷ [])));
  asked = ap (map key) (of_steps ran steps) ∙ map-append key (steps_of ran) steps ∙ (λ i. so_far.asked i ++ now i) ∙ sym (written_append 0 phases orders);
  in_line_order = list_all-append lines_rise phases (orders ∷ []) ∙ and_from _ _ so_far.in_line_order (and_from _ _ rise refl);
  sessions = λ session. subst (λ (l : List Step). SessionRan settings session [] (opened_seen opened) l next)
      (sym (ap (own_steps session) (of_steps ran steps) ∙ filter-append (is_by session) (steps_of ran) steps))
      (session_append settings session [] (opened_seen opened) (own_steps session (steps_of ran)) (own_steps session steps) known next (so_far.sessions session) (sessions session));
  told = phases_append 0 (opened_seen opened) ran (steps ∷ []) known next so_far.told (next, (sees_last settings 0 (held_by [] (own_steps 0 (steps_of ran))) known (own_steps 0 steps) next (sessions 0)), each, sees_self next);
}
  where
    key : Step → ℕ × Order
    key = λ x. (x.answered.phase, x.answered.order)

    now : map key steps ≡ phase_in_order (0 + length phases) orders
    now = asked ∙ ap (λ k. phase_in_order k orders) (let e : length phases ≡ 0 + length phases = omega arith in e)

    each : All (λ (x : Step). (x.answered.phase ≡ 0 + length ran) × Sees known x.before × Sees x.after next) steps
    each = all_by (λ (x : Step). (x.answered.phase ≡ 0 + length ran) × Sees known x.before × Sees x.after next) steps (λ x there.
        let n = x.answered.order.session in
        let b = sees_between settings n (held_by [] (own_steps n (steps_of ran))) known (own_steps n steps) next x (sessions n) (in_filter (is_by n) steps x there (eq-eqb n n refl)) in
        let listed : In (key x) (phase_in_order (length phases) orders) = subst (λ (l : List (ℕ × Order)). In (key x) l) asked (in_map key steps x there) in
        let o = of_map (λ (o : Order). (length phases, o)) (by_session orders) (key x) listed in
        let phase : x.answered.phase ≡ length phases = ap (λ (k : ℕ × Order). k.0) o.2 in
        ((let a = so_far.as_many in omega arith), b.0, b.1))

-- at the end it is all that the law wants, but for what the histories' values say
pub ran_whole : (settings : Settings) (phases : List (List Order)) (opened : Opened) (ran : List (List Step)) (last : Seen) → RanSoFar settings phases opened ran last
    → take 1 opened.labels ≡ [] ∷ [] → IsLabelList (labels_of last) → IsTrue (are_publications (labels_of last) (history_of last) (map (λ e. e.1) last.pairs)) → AllRan settings phases opened ran last
ran_whole settings phases opened ran last so_far rooted is published = record {
  asked = so_far.asked;
  in_line_order = so_far.in_line_order;
  sessions = so_far.sessions;
  told = so_far.told;
  rooted = rooted;
  label_list = is;
  publications = published;
}

-- ---- numbers that were not given

none_above : {A : Type 0} (given n : ℕ) (xs : Entries A) → All (λ (e : ℕ × A). e.0 ≤ given) xs → given < n → entered_by n xs ≡ []
none_above given n [] all above = refl
none_above {A} given n (x ∷ xs) all above =
    let low : x.0 ≤ given = All-head (λ (e : ℕ × A). e.0 ≤ given) x xs all in
    rw (ne_eqb x.0 n (λ e. absurd (omega arith))) (none_above given n xs (All-tail (λ (e : ℕ × A). e.0 ≤ given) x xs all) above)

all_front : {A : Type 0} (P : A → Type 0) (xs ys : List A) → IsPrefix xs ys → All P ys → All P xs
all_front P xs ys begins all = all_by P xs (λ x there. all_at P ys x all (subst (λ (l : List _). In x l) begins.1 (in_left xs begins.0 x there)))

-- under a number that was not given yet nothing is entered
pub unused : (given n : ℕ) (a b : Seen) → Sees a b → given < n
    → All (λ (e : ℕ × List (List ℕ)). e.0 ≤ given) b.labels → All (λ (e : ℕ × Change). e.0 ≤ given) b.operations → All (λ (e : ℕ × (ℕ × ℕ)). e.0 ≤ given) b.pairs → All (λ (e : ℕ × CommitPoint). e.0 ≤ given) b.commits
    → IsTold n a b
unused given n a b sees above labels operations pairs commits = record {
  sees = sees;
  labels = none_above given n b.labels labels above ∙ sym (none_above given n a.labels (all_front (λ (e : ℕ × List (List ℕ)). e.0 ≤ given) a.labels b.labels sees.labels labels) above);
  operations = none_above given n b.operations operations above ∙ sym (none_above given n a.operations (all_front (λ (e : ℕ × Change). e.0 ≤ given) a.operations b.operations sees.operations operations) above);
  pairs = none_above given n b.pairs pairs above ∙ sym (none_above given n a.pairs (all_front (λ (e : ℕ × (ℕ × ℕ)). e.0 ≤ given) a.pairs b.pairs sees.pairs pairs) above);
  commits = none_above given n b.commits commits above ∙ sym (none_above given n a.commits (all_front (λ (e : ℕ × CommitPoint). e.0 ≤ given) a.commits b.commits sees.commits commits) above);
}
