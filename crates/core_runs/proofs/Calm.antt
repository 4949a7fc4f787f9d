-- The core between two moves, and what each move does to it.
use Rattle.std.proofs.Common.{◌≡◌, ℕ, suc, ◌+◌, ◌≤◌, Bool, true, false, List, [], ◌∷◌, ◌++◌, length, map, take, Some, None, refl, sym, ap, ◌∙◌, subst, arith, append_assoc, append-nil, eqb, ne_eqb}
use Rattle.std.specs.Prelude.{◌==◌, not, if◌then◌else◌}
use Rattle.std.specs.List.{cons_option, enumerate_from, list_all}
use Rattle.std.proofs.lemmas.Bool.{and_from, and_parts, eq-eqb, not-true}
use Rattle.std.proofs.lemmas.List.{take_at}
use Rattle.std.proofs.lemmas.List.Sums.{fold-append}
use Rattle.facet_names.specs.Labels.{IsLabelList, above, is_in_place, stands}
use Rattle.facet_model.specs.Core.{State, CoreEvent, step, take_labels, publish}
use Rattle.facet_model.specs.Histories.{Change, Operation, labels_stand}
use Rattle.facet_core.specs.Laws.{ran}
use Rattle.facet_output.specs.Effects.{Effect, changes, publishes, persists, Report, says_placed, says_number}
use Rattle.facet_output.specs.Seen.{Entries}
use Rattle.core_runs.specs.Possible.{are_possible, is_possible}
use Rattle.core_runs.specs.Moves.{Move, answer_to, answers_in, appends, commits, enters, events_in, events_of, label_of, labels_in, refreshes}

abbrev Path : Type 0
Path = List (List ℕ)

-- what commits leave
pub record Stored : Type 0 where
  pub acknowledged : List (ℕ × ℕ)
  pub tax_read : ℕ
  pub tax_may : List ℕ
  pub idx_read : ℕ × ℕ
  pub idx_may : List (ℕ × ℕ)

-- nothing is in progress
abbrev pub calm : List Path → List Operation → List (ℕ × ℕ) → Stored → State
calm labels history published d = record {
  labels = labels;
  history = history;
  published = published;
  acknowledged = d.acknowledged;
  refresh = None;
  commit = None;
  tax_read = d.tax_read;
  tax_may = d.tax_may;
  idx_read = d.idx_read;
  idx_may = d.idx_may;
  closed = false;
}

-- the moves lead from one core to another, enter these labels and have these answers
pub record Leads (s t : State) (moves : List Move) (labels : Entries Path) (answers : Entries (Effect × Report)) : Type 0 where
  pub ends : ran s (events_in moves) ≡ t
  pub possible : are_possible s (events_in moves) ≡ true
  pub enters : labels_in moves ≡ labels
  pub answered : answers_in s moves ≡ answers

pub leads_none : (s : State) → Leads s s [] [] []
leads_none s = record { ends = refl; possible = refl; enters = refl; answered = refl }

possible_append : (s : State) (xs ys : List CoreEvent) → are_possible s xs ≡ true → are_possible (ran s xs) ys ≡ true → are_possible s (xs ++ ys) ≡ true
possible_append s [] ys p q = q
possible_append s (x ∷ xs) ys p q = let both = and_parts (is_possible s x) (are_possible (step s x) xs) p in and_from _ _ both.0 (possible_append (step s x) xs ys both.1 q)

-- a move before others
pub leads_then : (s t u : State) (m : Move) (moves : List Move) (labels : Entries Path) (answers : Entries (Effect × Report)) → ran s (events_of m) ≡ t → are_possible s (events_of m) ≡ true
    → Leads t u moves labels answers → Leads s u (m ∷ moves) (cons_option (label_of m) labels) (cons_option (answer_to s m) answers)
leads_then s t u m moves labels answers goes possible rest = record {
  ends = fold-append step s (events_of m) (events_in moves) ∙ ap (λ (c : State). ran c (events_in moves)) goes ∙ rest.ends;
  possible = possible_append s (events_of m) (events_in moves) possible (subst (λ (c : State). are_possible c (events_in moves) ≡ true) (sym goes) rest.possible);
  enters = ap (cons_option (label_of m)) rest.enters;
  answered = ap (cons_option (answer_to s m)) (ap (λ (c : State). answers_in c moves) goes ∙ rest.answered);
}

-- ---- the moves

module _ (labels : List Path) (history : List Operation) (published : List (ℕ × ℕ)) (d : Stored) where
  -- what a commit leaves
  abbrev pub committed : Stored
  committed = record {
    acknowledged = d.acknowledged ++ (length history, length labels) ∷ [];
    tax_read = length labels;
    tax_may = length labels ∷ [];
    idx_read = (length history, length labels);
    idx_may = (length history, length labels) ∷ [];
  }

  pub change_then : (u : State) (moves : List Move) (more : Entries Path) (answers : Entries (Effect × Report)) (session : ℕ) (change : Change) → labels_stand labels change ≡ true
      → Leads (calm labels (history ++ (record { session = session; change = change }) ∷ []) published d) u moves more answers
      → Leads (calm labels history published d) u (appends session change ∷ moves) more ((session, (changes change, says_placed (length history))) ∷ answers)
  change_then u moves more answers session change known rest =
      leads_then (calm labels history published d) (calm labels (history ++ (record { session = session; change = change }) ∷ []) published d) u (appends session change) moves more answers
      (rw known refl) (and_from _ true known refl) rest

  pub refresh_then : (u : State) (moves : List Move) (more : Entries Path) (answers : Entries (Effect × Report)) (session : ℕ)
      → Leads (calm labels history (published ++ (length history, length labels) ∷ []) d) u moves more answers
      → Leads (calm labels history published d) u (refreshes session ∷ moves) more ((session, (publishes, says_number (length history))) ∷ answers)
  refresh_then u moves more answers session rest =
      let e : eqb session session ≡ true = eq-eqb session session refl in
      let start = calm labels history published d in
      let taken : State = record start { refresh = Some (record { session = session; operations = length history; labels = None }) } in
      let both : State = record start { refresh = Some (record { session = session; operations = length history; labels = Some (length labels) }) } in
      let end = calm labels history (published ++ (length history, length labels) ∷ []) d in
      let second : step taken (take_labels session) ≡ both = rw e refl in
      let third : step both (publish session) ≡ end = rw e refl in
      let may : is_possible taken (take_labels session) ≡ true = rw e refl in
      let may_publish : is_possible both (publish session) ≡ true = rw e refl in
      leads_then start end u (refreshes session) moves more answers
      (ap (λ (c : State). step c (publish session)) second ∙ third)
      (and_from _ _ may (and_from _ true (ap (λ (c : State). is_possible c (publish session)) second ∙ may_publish) refl)) rest

  pub commit_then : (u : State) (moves : List Move) (more : Entries Path) (answers : Entries (Effect × Report)) (session : ℕ)
      → Leads (calm labels history published committed) u moves more answers
      → Leads (calm labels history published d) u (commits session ∷ moves) more ((session, (persists, says_number (length history))) ∷ answers)
  commit_then u moves more answers session rest =
      leads_then (calm labels history published d) (calm labels history published committed) u (commits session) moves more answers
      refl refl rest

-- ---- labels

placed_from : (labels : List Path) (k : ℕ) (xs : List Path) (p : Path) (ys : List Path) → list_all (is_in_place labels) (enumerate_from k (xs ++ p ∷ ys)) ≡ true → is_in_place labels (k + length xs, p) ≡ true
placed_from labels k [] p ys all = ap (λ n. is_in_place labels (n, p)) (let e : k + 0 ≡ k = omega arith in e) ∙ (and_parts _ (list_all (is_in_place labels) (enumerate_from (k + 1) ys)) all).0
placed_from labels k (x ∷ xs) p ys all = ap (λ n. is_in_place labels (n, p)) (let e : k + suc (length xs) ≡ k + 1 + length xs = omega arith in e)
    ∙ placed_from labels (k + 1) xs p ys (and_parts (is_in_place labels (k, x)) _ all).1

-- a label after others is none of them, and its parent is one
next_label : (front : List Path) (p : Path) (rest : List Path) → IsLabelList (front ++ p ∷ rest) → 1 ≤ length front → (stands front p ≡ false) × (stands front (above p) ≡ true)
next_label front p rest is some =
    let labels = front ++ p ∷ rest in
    let at : is_in_place labels (0 + length front, p) ≡ true = placed_from labels 0 front p rest (and_parts _ (list_all (is_in_place labels) (enumerate_from 0 labels)) is).1 in
    let here : is_in_place labels (length front, p) ≡ true = ap (λ n. is_in_place labels (n, p)) (let e : length front ≡ 0 + length front = omega arith in e) ∙ at in
    let whole : take (length front) labels ≡ front = take_at front (p ∷ rest) (length front) refl in
    let first : (length front == 0) ≡ false = ne_eqb (length front) 0 (λ e. absurd (omega arith)) in
    let both = and_parts (not (stands (take (length front) labels) p)) (if length front == 0 then length p == 0 else stands (take (length front) labels) (above p)) here in
    let parent : stands (take (length front) labels) (above p) ≡ true = ap (λ (b : Bool). if b then length p == 0 else stands (take (length front) labels) (above p)) (sym first) ∙ both.1 in
    (ap (λ l. stands l p) (sym whole) ∙ not-true (stands (take (length front) labels) p) both.0, ap (λ l. stands l (above p)) (sym whole) ∙ parent)

abbrev pub entering : Entries Path → List Move
entering [] = []
entering (e ∷ es) = enters e.0 e.1 ∷ entering es

-- the next labels, before other moves
pub enter_then : (front : List Path) (next : Entries Path) (rest : List Path) (history : List Operation) (published : List (ℕ × ℕ)) (d : Stored) (u : State) (moves : List Move) (more : Entries Path) (answers : Entries (Effect × Report))
    → IsLabelList (front ++ (map (λ (e : ℕ × Path). e.1) next ++ rest)) → 1 ≤ length front
    → Leads (calm (front ++ map (λ (e : ℕ × Path). e.1) next) history published d) u moves more answers
    → Leads (calm front history published d) u (entering next ++ moves) (next ++ more) answers
enter_then front [] rest history published d u moves more answers is some leads = subst (λ (l : List Path). Leads (calm l history published d) u moves more answers) (append-nil front) leads
enter_then front (e ∷ next) rest history published d u moves more answers is some leads =
    let paths = map (λ (e : ℕ × Path). e.1) next in
    let fits = next_label front e.1 (paths ++ rest) is some in
    let longer = front ++ e.1 ∷ [] in
    let is' : IsLabelList (longer ++ (paths ++ rest)) = subst IsLabelList (sym (append_assoc front (e.1 ∷ []) (paths ++ rest))) is in
    let some' : 1 ≤ length longer = (let s = ap length (append_assoc front (e.1 ∷ []) []) in more_than_one front e.1) in
    let leads' : Leads (calm (longer ++ paths) history published d) u moves more answers =
    subst (λ (l : List Path). Leads (calm l history published d) u moves more answers) (sym (append_assoc front (e.1 ∷ []) paths)) leads in
    let none = fits.0 in
    let parent = fits.1 in
    let goes : ran (calm front history published d) (events_of (enters e.0 e.1)) ≡ calm longer history published d = rw (none, parent) refl in
    let possible : are_possible (calm front history published d) (events_of (enters e.0 e.1)) ≡ true = rw (none, parent) refl in
    leads_then (calm front history published d) (calm longer history published d) u (enters e.0 e.1) (entering next ++ moves) (next ++ more) answers goes possible
    (enter_then longer next rest history published d u moves more answers is' some' leads')
  where
    more_than_one : (front : List Path) (p : Path) → 1 ≤ length (front ++ p ∷ [])
    more_than_one [] p = omega arith
    more_than_one (x ∷ front) p = omega arith
