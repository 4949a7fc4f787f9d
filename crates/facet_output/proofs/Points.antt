-- Commits have their points.
use Rattle.std.proofs.Common.{◌≡◌, inl, inr, ⊎_elim, ℕ, zero, suc, ◌+◌, ◌≤◌, ◌<◌, eqb, Bool, true, false, cond, List, [], ◌∷◌, ◌++◌, length, map, Option, Some, None, refl, sym, ap, ◌∙◌, subst, arith, append_assoc, append-nil, ne_eqb}
use Rattle.std.specs.Prelude.{filter, filter_map, count_by, is_none, not, take, drop, Result}
use Rattle.std.specs.List.{AllZip, cons_option}
use Rattle.std.proofs.lemmas.Bool.{eq-eqb, cases_lt}
use Rattle.std.proofs.lemmas.List.{length-map, map-append, append_cancel_left}
use Rattle.std.proofs.lemmas.List.Elements.{filter-append}
use Rattle.std.proofs.lemmas.List.Sums.{sum_by-cons}
use Rattle.facet_words.specs.Commands.{Settings, Order}
use Rattle.facet_output.specs.Effects.{Effect, changes, publishes, holds, releases, persists, merges, looks, effect, Report, says_placed, says_number, says_pair, says_refused, for_labels, for_docs, for_disk, for_closed, for_numbers, for_memory, for_other, says_nothing, report}
use Rattle.facet_output.specs.Commits.{CommitsHavePoints, HasItsLabels, commits_of, committed, has_outcome, outcome, outcome_at, outcome_in, outcome_of}
use Rattle.facet_output.specs.Reported.{of_commit}
use Rattle.facet_output.specs.Answered.{Answered, is_of, of_session}
use Rattle.facet_output.specs.Held.{Held, held_after}
use Rattle.facet_output.specs.Output.{Opened, has_shown}
use Rattle.facet_output.specs.Seen.{CommitPoint, Entries, Seen, EntersNone, entered_by, labels_of, opened_seen}
use Rattle.facet_output.specs.Steps.{Step, EntersPoint, EntersSaid, EntersBy, EntersPoints}
use Rattle.facet_output.specs.Sessions.{SessionRan, AllRan, steps_of, own_steps, is_by}
use Rattle.facet_output.proofs.Among.{In, of_filter}
use Rattle.facet_output.proofs.Answers.{answers}
use Rattle.facet_output.proofs.Bringing.{opened_sees}
use Rattle.facet_output.proofs.Entering.{shown_among}
use Rattle.facet_output.proofs.Fronts.{take_prefix}
use Rattle.facet_output.proofs.Placing.{of_own, own_answers}

-- ---- what a step entered

-- the points of a number
abbrev points_by : ℕ → Entries CommitPoint → List CommitPoint
points_by n xs = map (λ (e : ℕ × CommitPoint). e.1) (entered_by n xs)

points_append : (n : ℕ) (xs ys : Entries CommitPoint) → points_by n (xs ++ ys) ≡ points_by n xs ++ points_by n ys
points_append n xs ys = ap (map (λ (e : ℕ × CommitPoint). e.1)) (filter-append (λ e. eqb e.0 n) xs ys) ∙ map-append (λ (e : ℕ × CommitPoint). e.1) (entered_by n xs) (entered_by n ys)

-- a point that tells this, with so many labels where it has not failed; or none
abbrev EntersOutcome : ℕ → ℕ → Option (Result ℕ ℕ) → Entries CommitPoint → Entries CommitPoint → Type 0
EntersOutcome n least None old new = points_by n new ≡ points_by n old
EntersOutcome n least (Some o) old new = (point : CommitPoint) × (points_by n new ≡ points_by n old ++ point ∷ []) × (outcome_of point ≡ o) × (point.failed ≡ None → least ≤ point.labels)

none_more : (n : ℕ) (old new : Entries CommitPoint) → EntersNone n old new → points_by n new ≡ points_by n old
none_more n old new enters = ap (map (λ (e : ℕ × CommitPoint). e.1)) enters.1

point_more : (n : ℕ) (o : Option ℕ) (old new : Entries CommitPoint) → (enters : EntersPoint n o old new) → points_by n new ≡ points_by n old ++ enters.1 ∷ []
point_more n o old new enters = ap (points_by n) enters.2.1 ∙ points_append n enters.0 ((n, enters.1) ∷ []) ∙ (λ i. map (λ (e : ℕ × CommitPoint). e.1) (enters.2.0.1 i) ++ last i)
  where
    last : points_by n ((n, enters.1) ∷ []) ≡ enters.1 ∷ []
    last = let e : eqb n n ≡ true = eq-eqb n n refl in rw e refl

commit_outcome : (n least : ℕ) (said : Report) (old new : Entries CommitPoint) → EntersSaid n least said old new → EntersOutcome n least (outcome_in said) old new
commit_outcome n least (says_number k) old new enters = (
  enters.0.1,
  point_more n None old new enters.0,
  ap (outcome_at enters.0.1.operations) enters.0.4 ∙ ap (λ (j : ℕ). outcome_at j None) enters.1,
  λ none. enters.2,
)
commit_outcome n least (says_refused (for_disk c)) old new enters = (
  enters.1,
  point_more n (Some c) old new enters,
  ap (outcome_at enters.1.operations) enters.4,
  λ none. let no_match : Some c ≡ None = sym enters.4 ∙ none in absurd cc,
)
commit_outcome n least (says_refused (for_closed c)) old new enters = none_more n old new enters.0
commit_outcome n least (says_refused for_numbers) old new enters = none_more n old new enters.0
commit_outcome n least (says_placed j) old new enters = none_more n old new enters
commit_outcome n least (says_pair operations labels) old new enters = none_more n old new enters
commit_outcome n least (says_refused (for_labels d)) old new enters = none_more n old new enters
commit_outcome n least (says_refused (for_docs d)) old new enters = none_more n old new enters
commit_outcome n least (says_refused for_memory) old new enters = none_more n old new enters
commit_outcome n least says_nothing old new enters = none_more n old new enters
commit_outcome n least (says_refused for_other) old new enters = none_more n old new enters

points_outcome : (n least : ℕ) (e : Effect) (said : Report) (old new : Entries CommitPoint) → EntersBy n least e said old new → EntersOutcome n least (of_commit outcome_in e said) old new
points_outcome n least persists said old new enters = commit_outcome n least said old new enters
points_outcome n least (changes change) said old new enters = none_more n old new enters
points_outcome n least publishes said old new enters = none_more n old new enters
points_outcome n least (holds name) said old new enters = none_more n old new enters
points_outcome n least (releases name) said old new enters = none_more n old new enters
points_outcome n least merges said old new enters = none_more n old new enters
points_outcome n least (looks on) said old new enters = none_more n old new enters

-- ---- what a session entered

module _ (session : ℕ) (last : Seen) (answered : List Answered) where
  -- the points behind those that were seen are those of the answers, in their order
  abbrev Gathers : Seen → List Answered → Type 0
  Gathers seen xs = (points : List CommitPoint) × (points_by session last.commits ≡ points_by session seen.commits ++ points) × (map outcome_of points ≡ filter_map outcome xs)
      × AllZip (HasItsLabels last answered) (filter has_outcome xs) points

  -- the same, where the first answer has this outcome
  abbrev GathersWith : Option (Result ℕ ℕ) → Seen → Answered → List Answered → Type 0
  GathersWith o seen a xs = (points : List CommitPoint) × (points_by session last.commits ≡ points_by session seen.commits ++ points) × (map outcome_of points ≡ cons_option o (filter_map outcome xs))
      × AllZip (HasItsLabels last answered) (cond (not (is_none o)) (a ∷ filter has_outcome xs) (filter has_outcome xs)) points

  one_more : (seen before after : Seen) (least : ℕ) (a : Answered) (xs : List Answered) (o : Option (Result ℕ ℕ)) → points_by session before.commits ≡ points_by session seen.commits
      → EntersOutcome session least o before.commits after.commits → ((n : ℕ) → least ≤ n → has_shown (labels_of last) last.pairs answered a n ≡ true) → Gathers after xs → GathersWith o seen a xs
  one_more seen before after least a xs None told enters known rest = (rest.0, rest.1 ∙ ap (λ (l : List CommitPoint). l ++ rest.0) (enters ∙ told), rest.2, rest.3)
  one_more seen before after least a xs (Some o) told enters known rest = (
    enters.0 ∷ rest.0,
    rest.1 ∙ ap (λ (l : List CommitPoint). l ++ rest.0) (enters.1 ∙ ap (λ (l : List CommitPoint). l ++ enters.0 ∷ []) told) ∙ append_assoc (points_by session seen.commits) (enters.0 ∷ []) rest.0,
    (λ i. enters.2 i ∷ rest.2 i),
    ((λ none. known enters.0.labels (enters.3 none)), rest.3),
  )

  gathers : (settings : Settings) (held : Held) (seen : Seen) (xs : List Step) → SessionRan settings session held seen xs last → ((x : Step) → In x xs → x.answered.order.session ≡ session)
      → ((x : Step) → In x xs → (n : ℕ) → length (labels_of x.before) ≤ n → has_shown (labels_of last) last.pairs answered x.answered n ≡ true) → Gathers seen (answers xs)
  gathers settings held seen [] ran own known = ([], ap (map (λ (e : ℕ × CommitPoint). e.1)) ran.commits ∙ sym (append-nil (points_by session seen.commits)), refl, tt)
  gathers settings held seen (x ∷ xs) ran own known =
      let enters : EntersPoints session (length (labels_of x.before)) x.answered.order.command x.answered.reply x.before.commits x.after.commits =
      subst (λ (n : ℕ). EntersPoints n (length (labels_of x.before)) x.answered.order.command x.answered.reply x.before.commits x.after.commits) (own x (inl refl)) ran.1.commits in
      one_more seen x.before x.after (length (labels_of x.before)) x.answered (answers xs) (outcome x.answered) (ap (map (λ (e : ℕ × CommitPoint). e.1)) ran.0.commits)
      (points_outcome session (length (labels_of x.before)) (effect x.answered.order.command) (report x.answered.reply) x.before.commits x.after.commits enters) (known x (inl refl))
      (gathers settings (held_after held x.answered) x.after xs ran.2 (λ y there. own y (inr there)) (λ y there. known y (inr there)))

-- ---- counted by their sessions

module _ {A : Type 0} (key : A → ℕ) where
  -- how many have a key below n
  abbrev below : List A → ℕ → ℕ
  below xs zero = 0
  below xs (suc n) = below xs n + length (filter (λ x. eqb (key x) n) xs)

  size_cond : (b : Bool) (x : A) (xs : List A) → length (cond b (x ∷ xs) xs) ≡ length xs + cond b 1 0
  size_cond true x xs = omega arith
  size_cond false x xs = omega arith

  below_none : (n : ℕ) → below [] n ≡ 0
  below_none zero = refl
  below_none (suc n) = let r = below_none n in omega arith

  below_same : (x : A) (xs : List A) (n : ℕ) → n ≤ key x → below (x ∷ xs) n ≡ below xs n
  below_same x xs zero le = refl
  below_same x xs (suc n) le =
      let r = below_same x xs n (omega arith) in
      let e : eqb (key x) n ≡ false = ne_eqb (key x) n (λ q. absurd (omega arith)) in
      let s : length (filter (λ x. eqb (key x) n) (x ∷ xs)) ≡ length (filter (λ x. eqb (key x) n) xs) = rw e refl in
      omega arith

  below_more : (x : A) (xs : List A) (n : ℕ) → key x < n → below (x ∷ xs) n ≡ below xs n + 1
  below_more x xs zero lt = absurd (omega arith)
  below_more x xs (suc n) lt = ⊎_elim
      (λ less. let r = below_more x xs n less in
      let e : eqb (key x) n ≡ false = ne_eqb (key x) n (λ q. absurd (omega arith)) in
      let s : length (filter (λ x. eqb (key x) n) (x ∷ xs)) ≡ length (filter (λ x. eqb (key x) n) xs) = rw e refl in omega arith)
      (λ le. let r = below_same x xs n le in
      let e : eqb (key x) n ≡ true = eq-eqb (key x) n (let q : key x ≡ n = omega arith in q) in
      let s : length (filter (λ x. eqb (key x) n) (x ∷ xs)) ≡ suc (length (filter (λ x. eqb (key x) n) xs)) = rw e refl in omega arith)
      (cases_lt (key x) n)

  below_all : (xs : List A) (n : ℕ) → ((x : A) → In x xs → key x < n) → below xs n ≡ length xs
  below_all [] n each = below_none n
  below_all (x ∷ xs) n each = let r = below_all xs n (λ y there. each y (inr there)) in let m = below_more x xs n (each x (inl refl)) in omega arith

  bound : (xs : List A) → (n : ℕ) × ((x : A) → In x xs → key x < n)
  bound [] = (0, λ x none. absurd none)
  bound (x ∷ xs) = let r = bound xs in (key x + 1 + r.0, λ y there. ⊎_elim (λ is. let e = ap key is in omega arith) (λ later. let l = r.1 y later in omega arith) there)

counted_filter : {A : Type 0} (p q : A → Bool) (xs : List A) → count_by p (filter q xs) ≡ length (filter q (filter p xs))
counted_filter p q [] = refl
counted_filter p q (x ∷ xs) = by (p x) (q x) refl refl (counted_filter p q xs)
  where
    by : (b c : Bool) → p x ≡ b → q x ≡ c → count_by p (filter q xs) ≡ length (filter q (filter p xs)) → count_by p (cond c (x ∷ filter q xs) (filter q xs)) ≡ length (filter q (cond b (x ∷ filter p xs) (filter p xs)))
    by true true e f r = sum_by-cons (λ y. cond (p y) 1 0) x (filter q xs) ∙ rw (e, f) (let g : 1 + count_by p (filter q xs) ≡ suc (length (filter q (filter p xs))) = omega arith in g)
    by true false e f r = rw f r
    by false true e f r = sum_by-cons (λ y. cond (p y) 1 0) x (filter q xs) ∙ rw e (let g : 0 + count_by p (filter q xs) ≡ length (filter q (filter p xs)) = omega arith in g)
    by false false e f r = r

counted_all : {A : Type 0} (p : A → Bool) (xs : List A) → count_by p xs ≡ length (filter p xs)
counted_all p [] = refl
counted_all p (x ∷ xs) = by (p x) refl (counted_all p xs)
  where
    by : (b : Bool) → p x ≡ b → count_by p xs ≡ length (filter p xs) → count_by p (x ∷ xs) ≡ length (cond b (x ∷ filter p xs) (filter p xs))
    by true e r = sum_by-cons (λ y. cond (p y) 1 0) x xs ∙ rw e (let g : 1 + count_by p xs ≡ suc (length (filter p xs)) = omega arith in g)
    by false e r = sum_by-cons (λ y. cond (p y) 1 0) x xs ∙ rw e (let g : 0 + count_by p xs ≡ length (filter p xs) = omega arith in g)

as_many : (xs : List Answered) → length (filter_map outcome xs) ≡ count_by has_outcome xs
as_many [] = refl
as_many (a ∷ xs) =
    let rest = as_many xs in
    let one = by (outcome a) (filter_map outcome xs) in
    let counted = sum_by-cons (λ a. cond (has_outcome a) 1 0) a xs in
    omega arith
  where
    by : (o : Option (Result ℕ ℕ)) (l : List (Result ℕ ℕ)) → length (cons_option o l) ≡ length l + cond (not (is_none o)) 1 0
    by None l = omega arith
    by (Some o) l = omega arith

-- ---- of all sessions

module _ (settings : Settings) (phases : List (List Order)) (opened : Opened) (ran : List (List Step)) (last : Seen) (all : AllRan settings phases opened ran last) where
  abbrev start : Entries CommitPoint
  start = (opened_seen opened).commits

  gathered : (n : ℕ) → Gathers n last (answers (steps_of ran)) (opened_seen opened) (answers (own_steps n (steps_of ran)))
  gathered n = gathers n last (answers (steps_of ran)) settings [] (opened_seen opened) (own_steps n (steps_of ran)) (all.sessions n) (of_own settings phases opened ran last all n)
      (λ x there. shown_among settings phases opened ran last all x (of_filter (is_by n) (steps_of ran) x there).0)

  points_are : (n : ℕ) → commits_of n last.commits ≡ (gathered n).0
  points_are n =
      let begins = (opened_sees settings phases opened ran last all).commits in
      let rest : drop 1 last.commits ≡ begins.0 = ap (drop 1) (sym begins.1) in
      let split : points_by n last.commits ≡ points_by n start ++ points_by n begins.0 = ap (points_by n) (sym begins.1) ∙ points_append n start begins.0 in
      ap (points_by n) rest ∙ append_cancel_left (points_by n start) (points_by n begins.0) (gathered n).0 (sym split ∙ (gathered n).1)

  exact_so : (n : ℕ) → map outcome_of (commits_of n last.commits) ≡ filter_map outcome (of_session n (answers (steps_of ran)))
  exact_so n = ap (map outcome_of) (points_are n) ∙ (gathered n).2 ∙ ap (filter_map outcome) (own_answers settings phases opened ran last all n)

  labels_so : (n : ℕ) → AllZip (HasItsLabels last (answers (steps_of ran))) (committed n (answers (steps_of ran))) (commits_of n last.commits)
  labels_so n = subst (λ (points : List CommitPoint). AllZip (HasItsLabels last (answers (steps_of ran))) (committed n (answers (steps_of ran))) points) (sym (points_are n))
      (subst (λ (xs : List Answered). AllZip (HasItsLabels last (answers (steps_of ran))) (filter has_outcome xs) (gathered n).0) (own_answers settings phases opened ran last all n) (gathered n).3)

  -- ---- how many

  abbrev with_key : ℕ × CommitPoint → ℕ
  with_key e = e.0

  abbrev of_whom : Answered → ℕ
  of_whom a = a.order.session

  abbrev with_outcome : List Answered
  with_outcome = filter has_outcome (answers (steps_of ran))

  abbrev behind : Entries CommitPoint
  behind = drop 1 last.commits

  of_one : (n : ℕ) → length (entered_by n behind) ≡ length (filter (λ a. eqb (of_whom a) n) with_outcome)
  of_one n =
      let points = length-map (entered_by n behind) (λ (e : ℕ × CommitPoint). e.1) in
      let outcomes = length-map (commits_of n last.commits) outcome_of in
      let exact = ap length (exact_so n) in
      let many = as_many (of_session n (answers (steps_of ran))) in
      let r = counted_filter has_outcome (is_of n) (answers (steps_of ran)) in
      omega arith

  of_all_below : (n : ℕ) → below with_key behind n ≡ below of_whom with_outcome n
  of_all_below zero = refl
  of_all_below (suc n) = let r = of_all_below n in let one = of_one n in omega arith

  many_so : length last.commits ≡ 1 + count_by has_outcome (answers (steps_of ran))
  many_so =
      let b = bound with_key behind in
      let c = bound of_whom with_outcome in
      let points = below_all with_key behind (b.0 + c.0) (λ e there. let lt = b.1 e there in omega arith) in
      let commits = below_all of_whom with_outcome (b.0 + c.0) (λ a there. let lt = c.1 a there in omega arith) in
      let each = of_all_below (b.0 + c.0) in
      let count = counted_all has_outcome (answers (steps_of ran)) in
      let begins = (opened_sees settings phases opened ran last all).commits in
      let size : length last.commits ≡ 1 + length behind = subst (λ (xs : Entries CommitPoint). length xs ≡ 1 + length (drop 1 xs)) begins.1 (one_first begins.0) in
      omega arith
    where
      one_first : (xs : Entries CommitPoint) → length (start ++ xs) ≡ 1 + length xs
      one_first xs = omega arith

  first_so : take 1 last.commits ≡ start
  first_so = take_prefix start last.commits 1 (opened_sees settings phases opened ran last all).commits (omega arith)

pub commits_have_points : CommitsHavePoints
commits_have_points settings phases opened ran last all = record {
  first = first_so settings phases opened ran last all;
  exact = exact_so settings phases opened ran last all;
  labels = labels_so settings phases opened ran last all;
  many = many_so settings phases opened ran last all;
}
