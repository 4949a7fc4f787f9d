-- At most one commit fails on the disk, and the later ones tell of it.
use Rattle.std.proofs.Common.{◌≡◌, ◌⊎◌, inl, inr, ⊎_elim, ℕ, zero, suc, ◌+◌, ◌≤◌, ◌<◌, Bool, true, false, cond, List, [], ◌∷◌, length, map, Option, Some, None, slice_get, refl, sym, ap, ◌∙◌, subst, arith, length-append}
use Rattle.std.specs.Prelude.{◌&&◌, ◌||◌, not, count_by, is_none, unwrap_or, AllPairs, IsTrue}
use Rattle.std.specs.List.{list_all, cons_option}
use Rattle.std.specs.Option.{option_map_or}
use Rattle.std.proofs.lemmas.Bool.{and_from, cases_lt, eq-eqb}
use Rattle.std.proofs.lemmas.List.Sums.{sum_by-cons}
use mathlib.Core.List.{IsPrefix}
use Rattle.facet_model.specs.Histories.{Operation}
use Rattle.facet_words.specs.Commands.{Settings, Command, Order, commit}
use Rattle.facet_output.specs.Effects.{Effect, changes, publishes, holds, releases, persists, merges, looks, effect, Report, says_placed, says_number, says_pair, says_refused, for_labels, for_docs, for_disk, for_closed, for_numbers, for_memory, for_other, says_nothing, report}
use Rattle.facet_replies.specs.Replies.{no_memory, Reply, numbered, refused}
use Rattle.facet_output.specs.Answered.{Answered, comes_after, may_come_after}
use Rattle.facet_output.specs.Held.{Held}
use Rattle.facet_output.specs.Output.{Opened, has_failure, is_last_commit}
use Rattle.facet_output.specs.Replying.{IsCommitted, IsRight, IsRightBy}
use Rattle.facet_output.specs.Reported.{failed, failed_by, failed_in, closed_at, closed_by, closed_in, of_commit, is_number, commit_reports, tells_of_failure}
use Rattle.facet_output.specs.Seen.{CommitPoint, Entries, Seen, failures, EntersNone, labels_of, history_of}
use Rattle.facet_output.specs.Steps.{Step, IsStep, EntersPoint, EntersSaid, EntersCommit, EntersBy, EntersPoints}
use Rattle.facet_output.specs.Sessions.{AllRan, steps_of, own_steps, is_by}
use Rattle.facet_output.proofs.Among.{In, pairs_head, pairs_tail, in_filter}
use Rattle.facet_output.proofs.Answers.{answers, all_steps, any_step, all_some}
use Rattle.facet_output.proofs.Bringing.{opened_sees}
use Rattle.facet_output.proofs.Effects.{commit_only, failure_said, closing_said}
use Rattle.facet_output.proofs.Fresh.{implied}
use Rattle.facet_output.proofs.Fronts.{get_last, get_below, get_back, own_front}
use Rattle.facet_output.proofs.Known.{facts, after_sees, entered, in_order}
use Rattle.facet_output.proofs.Pairing.{may_come}
use Rattle.chronicle.proofs.Prefixes.{prefix_trans, prefix_length, prefix_get}

-- ---- failures among points

pub fails_in : (xs : Entries CommitPoint) (k n c : ℕ) (p : CommitPoint) → slice_get xs k ≡ Some (n, p) → p.failed ≡ Some c → In c (failures xs)
fails_in [] k n c p at e = absurd cc
fails_in (x ∷ xs) zero n c p at e = let same : x ≡ (n, p) = ap (λ o. unwrap_or o x) at in let f : x.1.failed ≡ Some c = ap (λ (y : ℕ × CommitPoint). y.1.failed) same ∙ e in rw f (inl refl)
fails_in (x ∷ xs) (suc k) n c p at e = by x.1.failed (fails_in xs k n c p at e)
  where
    by : (o : Option ℕ) → In c (failures xs) → In c (cons_option o (failures xs))
    by None there = there
    by (Some d) there = inr there

in_fails : (xs : Entries CommitPoint) (c : ℕ) → In c (failures xs) → (k : ℕ) × (n : ℕ) × (p : CommitPoint) × (slice_get xs k ≡ Some (n, p)) × (p.failed ≡ Some c)
in_fails [] c there = absurd there
in_fails (x ∷ xs) c there = by x.1.failed refl (in_fails xs c) there
  where
    later : (k : ℕ) × (n : ℕ) × (p : CommitPoint) × (slice_get xs k ≡ Some (n, p)) × (p.failed ≡ Some c) → (k : ℕ) × (n : ℕ) × (p : CommitPoint) × (slice_get (x ∷ xs) k ≡ Some (n, p)) × (p.failed ≡ Some c)
    later r = (suc r.0, r.1, r.2, r.3, r.4)

    by : (o : Option ℕ) → x.1.failed ≡ o → (In c (failures xs) → (k : ℕ) × (n : ℕ) × (p : CommitPoint) × (slice_get xs k ≡ Some (n, p)) × (p.failed ≡ Some c)) → In c (cons_option o (failures xs))
        → (k : ℕ) × (n : ℕ) × (p : CommitPoint) × (slice_get (x ∷ xs) k ≡ Some (n, p)) × (p.failed ≡ Some c)
    by None e rest there = later (rest there)
    by (Some d) e rest there = ⊎_elim (λ is. (0, x.0, x.1, refl, e ∙ ap (λ n. Some n) (sym is))) (λ behind. later (rest behind)) there

-- ---- what a failed commit, and one that tells of it, entered

-- what a commit entered that reports this
said_so : (n least : ℕ) (e : Effect) (r said : Report) (old new : Entries CommitPoint) → e ≡ persists → r ≡ said → EntersBy n least e r old new → EntersSaid n least said old new
said_so n least e r said old new is says enters = subst (λ (q : Report). EntersSaid n least q old new) says (subst (λ (q : Effect). EntersBy n least q r old new) is enters)

failed_point : (n least c : ℕ) (command : Command) (reply : Reply) (old new : Entries CommitPoint) → failed_by command reply ≡ Some c → EntersPoints n least command reply old new → EntersPoint n (Some c) old new
failed_point n least c command reply old new h enters =
    let only = commit_only failed_in (effect command) (report reply) c h in
    said_so n least (effect command) (report reply) (says_refused (for_disk c)) old new only.0 (failure_said (report reply) c only.1) enters

closed_points : (n least c : ℕ) (command : Command) (reply : Reply) (old new : Entries CommitPoint) → closed_by command reply ≡ Some c → EntersPoints n least command reply old new → (failures new ≡ c ∷ []) × (failed_by command reply ≡ None)
closed_points n least c command reply old new h enters =
    let only = commit_only closed_in (effect command) (report reply) c h in
    let says = closing_said (report reply) c only.1 in
    ((said_so n least (effect command) (report reply) (says_refused (for_closed c)) old new only.0 says enters).1, λ i. of_commit failed_in (only.0 i) (says i))

-- ---- who entered a failed point

none_entered : {A : Type 0} (n : ℕ) (old new : Entries A) (k : ℕ) (x : A) → EntersNone n old new → length old ≤ k → slice_get new k ≡ Some (n, x) → ⊥
none_entered n old new k x enters ge at = let l = own_front n old new k x enters.0 enters.1 at in omega arith

point_entered : (n : ℕ) (o : Option ℕ) (old new : Entries CommitPoint) (k : ℕ) (p : CommitPoint) → EntersPoint n o old new → length old ≤ k → slice_get new k ≡ Some (n, p) → p.failed ≡ o
point_entered n o old new k p enters ge at = ⊎_elim
    (λ lt. let begins : IsPrefix enters.0 new = ((n, enters.1) ∷ [], sym enters.2.1) in
    absurd (none_entered n old enters.0 k p enters.2.0 ge (get_back enters.0 new k (n, p) begins lt at)))
    (λ le. let size = ap length enters.2.1 ∙ length-append enters.0 ((n, enters.1) ∷ []) in
    let l = get_below new k (n, p) at in
    let here : length enters.0 ≡ k = omega arith in
    let it : slice_get new k ≡ Some (n, enters.1) = subst (λ (j : ℕ). slice_get new j ≡ Some (n, enters.1)) here (subst (λ (ps : Entries CommitPoint). slice_get ps (length enters.0) ≡ Some (n, enters.1)) (sym enters.2.1) (get_last enters.0 (n, enters.1))) in
    let same : (n, enters.1) ≡ (n, p) = ap (λ o. unwrap_or o (n, enters.1)) (sym it ∙ at) in
    ap (λ (e : ℕ × CommitPoint). e.1.failed) (sym same) ∙ enters.4)
    (cases_lt k (length enters.0))

commit_entered : (n least c : ℕ) (said : Report) (old new : Entries CommitPoint) (k : ℕ) (p : CommitPoint) → EntersSaid n least said old new → length old ≤ k → slice_get new k ≡ Some (n, p) → p.failed ≡ Some c → failed_in said ≡ Some c
commit_entered n least c (says_refused (for_disk d)) old new k p enters ge at e = sym (point_entered n (Some d) old new k p enters ge at) ∙ e
commit_entered n least c (says_number j) old new k p enters ge at e = let no : None ≡ Some c = sym (point_entered n None old new k p enters.0 ge at) ∙ e in absurd cc
commit_entered n least c (says_refused (for_closed d)) old new k p enters ge at e = absurd (none_entered n old new k p enters.0 ge at)
commit_entered n least c (says_refused for_numbers) old new k p enters ge at e = absurd (none_entered n old new k p enters.0 ge at)
commit_entered n least c (says_placed j) old new k p enters ge at e = absurd (none_entered n old new k p enters ge at)
commit_entered n least c (says_pair operations labels) old new k p enters ge at e = absurd (none_entered n old new k p enters ge at)
commit_entered n least c (says_refused (for_labels d)) old new k p enters ge at e = absurd (none_entered n old new k p enters ge at)
commit_entered n least c (says_refused (for_docs d)) old new k p enters ge at e = absurd (none_entered n old new k p enters ge at)
commit_entered n least c (says_refused for_memory) old new k p enters ge at e = absurd (none_entered n old new k p enters ge at)
commit_entered n least c says_nothing old new k p enters ge at e = absurd (none_entered n old new k p enters ge at)
commit_entered n least c (says_refused for_other) old new k p enters ge at e = absurd (none_entered n old new k p enters ge at)

points_entered : (n least c : ℕ) (e : Effect) (said : Report) (old new : Entries CommitPoint) (k : ℕ) (p : CommitPoint) → EntersBy n least e said old new → length old ≤ k → slice_get new k ≡ Some (n, p) → p.failed ≡ Some c → of_commit failed_in e said ≡ Some c
points_entered n least c persists said old new k p enters ge at h = commit_entered n least c said old new k p enters ge at h
points_entered n least c (changes change) said old new k p enters ge at h = absurd (none_entered n old new k p enters ge at)
points_entered n least c publishes said old new k p enters ge at h = absurd (none_entered n old new k p enters ge at)
points_entered n least c (holds name) said old new k p enters ge at h = absurd (none_entered n old new k p enters ge at)
points_entered n least c (releases name) said old new k p enters ge at h = absurd (none_entered n old new k p enters ge at)
points_entered n least c merges said old new k p enters ge at h = absurd (none_entered n old new k p enters ge at)
points_entered n least c (looks on) said old new k p enters ge at h = absurd (none_entered n old new k p enters ge at)

-- ---- a commit that comes after a failure

module _ (n least c : ℕ) (old new : Entries CommitPoint) (was : In c (failures old)) where
  still : (later : Entries CommitPoint) → IsPrefix old later → In c (failures later)
  still later begins = let r = in_fails old c was in fails_in later r.0 r.1 c r.2 (prefix_get old later r.0 (r.1, r.2) begins r.3) r.4

  none_failed : (o : Option ℕ) → EntersPoint n o old new → ⊥
  none_failed o enters = subst (λ (l : List ℕ). In c l) enters.3 (still enters.0 enters.2.0.0)

  told_after : (history : List Operation) (reply : Reply) → EntersCommit n least reply old new → IsCommitted history reply ⊎ (reply ≡ refused no_memory) → tells_of_failure c commit reply ≡ true
  told_after history reply enters right = ⊎_elim
      (λ right. ⊎_elim
      (λ counts. let e : EntersCommit n least (numbered counts.0) old new = subst (λ (r : Reply). EntersCommit n least r old new) counts.2 enters in absurd (none_failed None e.0))
      (λ r. ⊎_elim
      (λ disk. absurd (none_failed (Some disk.0) (subst (λ (r : Reply). EntersCommit n least r old new) disk.1 enters)))
      (λ r. ⊎_elim
      (λ shut. let e = subst (λ (r : Reply). EntersCommit n least r old new) shut.1 enters in
      let among : In c (shut.0 ∷ []) = subst (λ (l : List ℕ). In c l) e.1 (still new e.0.0) in
      subst (λ (r : Reply). tells_of_failure c commit r ≡ true) (sym shut.1) (⊎_elim (λ is. eq-eqb shut.0 c (sym is)) (λ none. absurd none) among))
      (λ spent. let e = subst (λ (r : Reply). EntersCommit n least r old new) spent.2 enters in absurd (subst (λ (l : List ℕ). In c l) e.1 (still new e.0.0)))
      r) r) right)
      (λ lacks. subst (λ (r : Reply). tells_of_failure c commit r ≡ true) (sym lacks) refl) right

-- ---- of all steps

-- where a commit that failed entered its point, before which none had failed
pub record FailedAt (last : Seen) (x : Step) (c : ℕ) : Type 0 where
  pub between : Entries CommitPoint
  pub point : CommitPoint
  pub at : slice_get last.commits (length between) ≡ Some (x.answered.order.session, point)
  pub seen_at : slice_get x.after.commits (length between) ≡ Some (x.answered.order.session, point)
  pub failed_so : point.failed ≡ Some c
  pub none : failures between ≡ []
  pub since : IsPrefix x.before.commits between
  pub begins : IsPrefix between last.commits
  pub size : length x.after.commits ≡ length between + 1

module _ (settings : Settings) (phases : List (List Order)) (opened : Opened) (ran : List (List Step)) (last : Seen) (all : AllRan settings phases opened ran last) where
  pub failed_at : (x : Step) → In x (steps_of ran) → (c : ℕ) → failed x.answered ≡ Some c → FailedAt last x c
  failed_at x there c e =
      let f = facts settings phases opened ran last all x there in
      let session = x.answered.order.session in
      let p : EntersPoint session (Some c) x.before.commits x.after.commits = failed_point session (length (labels_of x.before)) c x.answered.order.command x.answered.reply x.before.commits x.after.commits e f.2.1.commits in
      let entry : ℕ × CommitPoint = (session, p.1) in
      let at : slice_get x.after.commits (length p.0) ≡ Some entry = subst (λ (ps : Entries CommitPoint). slice_get ps (length p.0) ≡ Some entry) (sym p.2.1) (get_last p.0 entry) in
      let begins : IsPrefix p.0 x.after.commits = (entry ∷ [], sym p.2.1) in
      record {
        between = p.0;
        point = p.1;
        at = prefix_get x.after.commits last.commits (length p.0) entry f.1.commits at;
        seen_at = at;
        failed_so = p.4;
        none = p.3;
        since = p.2.0.0;
        begins = prefix_trans p.0 x.after.commits last.commits begins f.1.commits;
        size = ap length p.2.1 ∙ length-append p.0 (entry ∷ []);
      }

  -- no failed point stands before another
  none_before : (x y : Step) (c d : ℕ) (p : FailedAt last x c) (q : FailedAt last y d) → length p.between < length q.between → ⊥
  none_before x y c d p q lt = subst (λ (l : List ℕ). In c l) q.none
      (fails_in q.between (length p.between) x.answered.order.session c p.point (get_back q.between last.commits (length p.between) (x.answered.order.session, p.point) q.begins lt p.at) p.failed_so)

  no_later : (x y : Step) → In x (steps_of ran) → In y (steps_of ran) → (c d : ℕ) → failed x.answered ≡ Some c → failed y.answered ≡ Some d → comes_after y.answered x.answered ≡ true → ⊥
  no_later x y there there' c d e f after =
      let p = failed_at x there c e in let q = failed_at y there' d f in
      let l = prefix_length x.after.commits y.before.commits (after_sees settings phases opened ran last all x y there there' after).commits in
      let m = prefix_length y.before.commits q.between q.since in
      let s = p.size in
      none_before x y c d p q (omega arith)

  one_session : (x y : Step) → In x (steps_of ran) → In y (steps_of ran) → (c d : ℕ) → failed x.answered ≡ Some c → failed y.answered ≡ Some d → x.answered.order.session ≡ y.answered.order.session
  one_session x y there there' c d e f =
      let p = failed_at x there c e in let q = failed_at y there' d f in
      ⊎_elim (λ lt. absurd (none_before x y c d p q lt)) (λ ge. ⊎_elim (λ lt. absurd (none_before y x d c q p lt))
      (λ ge'. let same : length p.between ≡ length q.between = omega arith in
      let entries : Some (x.answered.order.session, p.point) ≡ Some (y.answered.order.session, q.point) = sym p.at ∙ ap (slice_get last.commits) same ∙ q.at in
      ap (λ (e : ℕ × CommitPoint). e.0) (ap (λ o. unwrap_or o (x.answered.order.session, p.point)) entries))
      (cases_lt (length q.between) (length p.between))) (cases_lt (length p.between) (length q.between))

  abbrev fails : Answered → Bool
  fails a = not (is_none (failed a))

  counted : (x : Step) (xs : List Step) → count_by fails (map (λ (x : Step). x.answered) (x ∷ xs)) ≡ cond (fails x.answered) 1 0 + count_by fails (map (λ (x : Step). x.answered) xs)
  counted x xs = sum_by-cons (λ a. cond (fails a) 1 0) x.answered (map (λ (x : Step). x.answered) xs)

  count_none : (xs : List Step) → ((y : Step) → In y xs → fails y.answered ≡ true → ⊥) → count_by fails (map (λ (x : Step). x.answered) xs) ≡ 0
  count_none [] none = refl
  count_none (x ∷ xs) none = by (fails x.answered) (none x (inl refl)) (counted x xs) (count_none xs (λ y there. none y (inr there)))
    where
      by : (b : Bool) → (b ≡ true → ⊥) → count_by fails (map (λ (x : Step). x.answered) (x ∷ xs)) ≡ cond b 1 0 + count_by fails (map (λ (x : Step). x.answered) xs) → count_by fails (map (λ (x : Step). x.answered) xs) ≡ 0 → count_by fails (map (λ (x : Step). x.answered) (x ∷ xs)) ≡ 0
      by true never e rest = absurd (never refl)
      by false never e rest = omega arith

  has_count : (a : Answered) → fails a ≡ true → (c : ℕ) × (failed a ≡ Some c)
  has_count a h = by (failed a) h
    where
      by : (o : Option ℕ) → not (is_none o) ≡ true → (c : ℕ) × (o ≡ Some c)
      by None h = absurd cc
      by (Some c) h = (c, refl)

  own_tail : (s : ℕ) (x : Step) (xs : List Step) → AllPairs (λ (x y : Step). IsTrue (comes_after y.answered x.answered)) (own_steps s (x ∷ xs)) → AllPairs (λ (x y : Step). IsTrue (comes_after y.answered x.answered)) (own_steps s xs)
  own_tail s x xs pairs = by (is_by s x) pairs
    where
      by : (b : Bool) → AllPairs (λ (x y : Step). IsTrue (comes_after y.answered x.answered)) (cond b (x ∷ own_steps s xs) (own_steps s xs)) → AllPairs (λ (x y : Step). IsTrue (comes_after y.answered x.answered)) (own_steps s xs)
      by true pairs = pairs_tail (λ (x y : Step). IsTrue (comes_after y.answered x.answered)) x (own_steps s xs) pairs
      by false pairs = pairs

  own_head : (x : Step) (xs : List Step) (y : Step) → AllPairs (λ (x y : Step). IsTrue (comes_after y.answered x.answered)) (own_steps x.answered.order.session (x ∷ xs)) → In y xs → y.answered.order.session ≡ x.answered.order.session → comes_after y.answered x.answered ≡ true
  own_head x xs y pairs there same =
      let s = x.answered.order.session in
      let e : is_by s x ≡ true = eq-eqb s s refl in
      let front : AllPairs (λ (x y : Step). IsTrue (comes_after y.answered x.answered)) (x ∷ own_steps s xs) = subst (λ (b : Bool). AllPairs (λ (x y : Step). IsTrue (comes_after y.answered x.answered)) (cond b (x ∷ own_steps s xs) (own_steps s xs))) e pairs in
      pairs_head (λ (x y : Step). IsTrue (comes_after y.answered x.answered)) x (own_steps s xs) y front (in_filter (is_by s) xs y there (eq-eqb y.answered.order.session s same))

  count_one : (xs : List Step) → ((x : Step) → In x xs → In x (steps_of ran)) → ((s : ℕ) → AllPairs (λ (x y : Step). IsTrue (comes_after y.answered x.answered)) (own_steps s xs)) → count_by fails (map (λ (x : Step). x.answered) xs) ≤ 1
  count_one [] among order = omega arith
  count_one (x ∷ xs) among order = by (fails x.answered) refl (counted x xs) (count_one xs (λ y there. among y (inr there)) (λ s. own_tail s x xs (order s)))
    where
      by : (b : Bool) → fails x.answered ≡ b → count_by fails (map (λ (x : Step). x.answered) (x ∷ xs)) ≡ cond b 1 0 + count_by fails (map (λ (x : Step). x.answered) xs) → count_by fails (map (λ (x : Step). x.answered) xs) ≤ 1 → count_by fails (map (λ (x : Step). x.answered) (x ∷ xs)) ≤ 1
      by true t e rest =
          let none : count_by fails (map (λ (x : Step). x.answered) xs) ≡ 0 = count_none xs (λ y there t'.
          let c = has_count x.answered t in let d = has_count y.answered t' in
          let same = one_session y x (among y (inr there)) (among x (inl refl)) d.0 c.0 d.1 c.1 in
          no_later x y (among x (inl refl)) (among y (inr there)) c.0 d.0 c.1 d.1 (own_head x xs y (order x.answered.order.session) there same)) in
          omega arith
      by false t e rest = omega arith

  pub one_failure_so : count_by fails (answers (steps_of ran)) ≤ 1
  one_failure_so = count_one (steps_of ran) (λ x there. there) (in_order settings phases opened ran last all)

  -- ---- the commits that tell of it

  pub closed_so : IsTrue (list_all (λ a. option_map_or (has_failure (answers (steps_of ran)) a) (closed_at a) true) (answers (steps_of ran)))
  closed_so = all_some (steps_of ran) (has_failure (answers (steps_of ran))) closed_at (λ x there c e.
      let f = facts settings phases opened ran last all x there in
      let p = closed_points x.answered.order.session (length (labels_of x.before)) c x.answered.order.command x.answered.reply x.before.commits x.after.commits e f.2.1.commits in
      let among : In c (failures x.after.commits) = subst (λ (l : List ℕ). In c l) (sym p.0) (inl refl) in
      let r = in_fails x.after.commits c among in
      by x there c p.1 r.0 r.1 r.2 r.3 (prefix_get x.after.commits last.commits r.0 (r.1, r.2) f.1.commits r.3) r.4)
    where
      opened_unfailed : {A : Type 0} (c : ℕ) (n : ℕ) (p : CommitPoint) → ◌≡◌ {A = Option (ℕ × CommitPoint)} (Some (0, (record { operations = length opened.docs; labels = length opened.labels; failed = None }))) (Some (n, p)) → p.failed ≡ Some c → A
      opened_unfailed c n p is e = let none : None ≡ Some c = ap (λ (o : Option (ℕ × CommitPoint)). (unwrap_or o (n, p)).1.failed) is ∙ e in absurd cc

      by : (x : Step) → In x (steps_of ran) → (c : ℕ) → failed x.answered ≡ None → (k n : ℕ) (p : CommitPoint) → slice_get x.after.commits k ≡ Some (n, p) → slice_get last.commits k ≡ Some (n, p) → p.failed ≡ Some c → has_failure (answers (steps_of ran)) x.answered c ≡ true
      by x there c unfailed zero n p seen at e =
          let begins = (opened_sees settings phases opened ran last all).commits in
          let first : CommitPoint = record { operations = length opened.docs; labels = length opened.labels; failed = None } in
          let is : Some (0, first) ≡ Some (n, p) = sym (prefix_get ((0, first) ∷ []) last.commits 0 (0, first) begins refl) ∙ at in
          opened_unfailed c n p is e
      by x there c unfailed (suc k) n p seen at e =
          let r = entered settings phases opened ran last all (λ s. s.commits) (λ a b sees. sees.commits) (λ n a b told. told.commits) (suc k) n p at (omega arith) in
          let b = r.0 in
          let f = facts settings phases opened ran last all b r.1 in
          let own : slice_get b.after.commits (suc k) ≡ Some (b.answered.order.session, p) = subst (λ (m : ℕ). slice_get b.after.commits (suc k) ≡ Some (m, p)) (sym r.2) r.4 in
          let is : failed b.answered ≡ Some c = points_entered b.answered.order.session (length (labels_of b.before)) c (effect b.answered.order.command) (report b.answered.reply) b.before.commits b.after.commits (suc k) p f.2.1.commits r.3 own e in
          let lt = get_below x.after.commits (suc k) (n, p) seen in
          let later : comes_after b.answered x.answered ≡ true → ⊥ = λ after. let l = prefix_length x.after.commits b.before.commits (after_sees settings phases opened ran last all x b there r.1 after).commits in let g = r.3 in omega arith in
          let other : x ≡ b → ⊥ = λ same. let wrong : None ≡ Some c = sym unfailed ∙ (λ i. failed (same i).answered) ∙ is in cc in
          let named : is_number c (failed b.answered) ≡ true = subst (λ (o : Option ℕ). is_number c o ≡ true) (sym is) (eq-eqb c c refl) in
          any_step (steps_of ran) (λ b. is_number c (failed b) && may_come_after x.answered b) b r.1 (and_from _ _ named (may_come settings phases opened ran last all x b there r.1 later other))

  -- after an order that has seen a failure, each commit tells of it
  tells_of_seen : (a b : Step) → In a (steps_of ran) → In b (steps_of ran) → (c : ℕ) → In c (failures a.after.commits) → comes_after b.answered a.answered ≡ true → tells_of_failure c b.answered.order.command b.answered.reply ≡ true
  tells_of_seen a b there there' c seen after =
      let f = facts settings phases opened ran last all b there' in
      let sees = after_sees settings phases opened ran last all a b there there' after in
      let r = in_fails a.after.commits c seen in
      let was : In c (failures b.before.commits) = fails_in b.before.commits r.0 r.1 c r.2 (prefix_get a.after.commits b.before.commits r.0 (r.1, r.2) sees.commits r.3) r.4 in
      by b was f.2.0 (effect b.answered.order.command) b.answered.reply f.2.1.commits (right_or f.2.0 f.2.1)
    where
      right_or : (held : Held) → IsStep settings held b → IsRight settings (labels_of b.after) (history_of b.after) held b.answered.order.session b.answered.order.command b.answered.took b.answered.saw b.answered.reply ⊎ (b.answered.reply ≡ refused no_memory)
      right_or held step = ⊎_elim (λ r. inl r) (λ lacks. inr lacks.1) step.right

      by : (b : Step) → In c (failures b.before.commits) → (held : Held) (e : Effect) (reply : Reply) → EntersBy b.answered.order.session (length (labels_of b.before)) e (report reply) b.before.commits b.after.commits
          → IsRightBy settings (labels_of b.after) (history_of b.after) held b.answered.order.session e b.answered.order.command b.answered.took b.answered.saw reply ⊎ (reply ≡ refused no_memory) → commit_reports c e (report reply) ≡ true
      by b was held persists reply enters right = told_after b.answered.order.session (length (labels_of b.before)) c b.before.commits b.after.commits was (history_of b.after) reply enters right
      by b was held (changes change) reply enters right = refl
      by b was held publishes reply enters right = refl
      by b was held (holds name) reply enters right = refl
      by b was held (releases name) reply enters right = refl
      by b was held merges reply enters right = refl
      by b was held (looks on) reply enters right = refl

  tells : (a b : Step) → In a (steps_of ran) → In b (steps_of ran) → (c : ℕ) → failed a.answered ≡ Some c → comes_after b.answered a.answered ≡ true → tells_of_failure c b.answered.order.command b.answered.reply ≡ true
  tells a b there there' c e after =
      let p = failed_at a there c e in
      tells_of_seen a b there there' c (fails_in a.after.commits (length p.between) a.answered.order.session c p.point p.seen_at p.failed_so) after

  tells_closed : (a b : Step) → In a (steps_of ran) → In b (steps_of ran) → (c : ℕ) → closed_at a.answered ≡ Some c → comes_after b.answered a.answered ≡ true → tells_of_failure c b.answered.order.command b.answered.reply ≡ true
  tells_closed a b there there' c e after =
      let f = facts settings phases opened ran last all a there in
      let p = closed_points a.answered.order.session (length (labels_of a.before)) c a.answered.order.command a.answered.reply a.before.commits a.after.commits e f.2.1.commits in
      tells_of_seen a b there there' c (subst (λ (l : List ℕ). In c l) (sym p.0) (inl refl)) after

  pub stays_closed_so : IsTrue (list_all (λ a. option_map_or (is_last_commit (answers (steps_of ran)) a) (closed_at a) true) (answers (steps_of ran)))
  stays_closed_so = all_some (steps_of ran) (is_last_commit (answers (steps_of ran))) closed_at (λ a there c e.
      all_steps (steps_of ran) (λ b. not (comes_after b a.answered) || tells_of_failure c b.order.command b.reply) (λ b among.
      implied (comes_after b.answered a.answered) _ (tells_closed a b there among c e)))

  pub last_commit_so : IsTrue (list_all (λ a. option_map_or (is_last_commit (answers (steps_of ran)) a) (failed a) true) (answers (steps_of ran)))
  last_commit_so = all_some (steps_of ran) (is_last_commit (answers (steps_of ran))) failed (λ a there c e.
      all_steps (steps_of ran) (λ b. not (comes_after b a.answered) || tells_of_failure c b.order.command b.reply) (λ b among.
      implied (comes_after b.answered a.answered) _ (tells a b there among c e)))
