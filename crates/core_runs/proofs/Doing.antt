-- What a step of a session does, as a deed.
use Rattle.std.proofs.Common.{◌≡◌, ◌⊎◌, inl, inr, ⊎_elim, ℕ, ◌+◌, ◌≤◌, cond, Bool, true, false, List, [], ◌∷◌, length, Option, Some, None, refl, sym, ap, ◌∙◌, subst, arith, length-append}
use Rattle.std.specs.Prelude.{option_map}
use Rattle.std.specs.Option.{option_map_or}
use Rattle.std.proofs.lemmas.Bool.{cases_lt}
use Rattle.std.proofs.lemmas.List.{length-map}
use Rattle.facet_model.specs.Accepts.{Broken, first_broken}
use Rattle.facet_model.specs.Documents.{Doc}
use Rattle.facet_model.specs.Histories.{Change, Operation, doc_of, knows}
use Rattle.facet_words.specs.Commands.{Settings, Command}
use Rattle.facet_replies.specs.Replies.{Refusal, Reply, refused}
use Rattle.facet_output.specs.Answered.{Answered}
use Rattle.facet_output.specs.Effects.{Effect, effect, publishes, persists, reason, Report, report, says_number, says_placed, says_refused}
use Rattle.facet_output.specs.Held.{Held}
use Rattle.facet_output.specs.Replying.{Counts, IsAdded, IsChanged, IsResolved, IsRightBy}
use Rattle.facet_output.specs.Reported.{placed_operation, refreshed, durable}
use Rattle.facet_output.specs.Seen.{Seen, history_of, labels_of}
use Rattle.facet_output.specs.Steps.{Step, IsStep, EntersOperation}
use Rattle.facet_output.proofs.Fresh.{if_some}
use Rattle.chronicle.proofs.Prefixes.{prefix_length}
use Rattle.core_runs.specs.CoreRuns.{answer_of, has_move}
use Rattle.core_runs.proofs.Deeds.{Act, Deed, Lex, change_at, commit_number, commit_of, is_change, is_publish, point, publish_of, told}
use Rattle.core_runs.proofs.Changing.{Committed, Placed, Refreshed, Unchanged, kind}

-- ---- the deed of a step

abbrev deed_by : Option (ℕ × Operation) → Option ℕ → Option ℕ → ℕ → ℕ → Option Deed
deed_by (Some p) r d seen all = Some (change_at p.0 p.1.change)
deed_by None (Some n) d seen all = Some (publish_of n all)
deed_by None None (Some n) seen all = Some (commit_of n seen)
deed_by None None None seen all = None

abbrev pub act_of : Step → Option Act
act_of x = option_map {U = Act} (λ d. (x.answered.order.session, d)) (deed_by (placed_operation x.answered) (refreshed x.answered) (durable x.answered) (length x.before.pairs) (length x.after.pairs))

-- the part of it that places a change, and the one that publishes
abbrev pub placed_of : Step → Option Act
placed_of x = option_map {U = Act} (λ p. (x.answered.order.session, change_at p.0 p.1.change)) (placed_operation x.answered)

abbrev pub publish_in : Step → Option Act
publish_in x = option_map {U = Act} (λ n. (x.answered.order.session, publish_of n (length x.after.pairs))) (refreshed x.answered)

-- the bounds of what a session has seen
abbrev pub bound : Seen → ℕ × ℕ
bound seen = (length seen.operations + length seen.operations, length seen.pairs)

-- the labels have those of the document of a change
abbrev pub knows_deed : List (List (List ℕ)) → Deed → Bool
knows_deed labels (change_at at change) = option_map_or (knows labels) (doc_of change) true
knows_deed labels (publish_of n k) = true
knows_deed labels (commit_of n k) = true

-- A step does this deed, which lies between what the session had seen before and what it saw after.
pub record Does (x : Step) (d : Deed) : Type 0 where
  pub act : act_of x ≡ Some (x.answered.order.session, d)
  pub moves : has_move x.answered ≡ true
  pub answer : answer_of x.answered ≡ told (x.answered.order.session, d)
  pub places : placed_of x ≡ cond (is_change (x.answered.order.session, d)) (Some (x.answered.order.session, d)) None
  pub publishes : publish_in x ≡ cond (is_publish (x.answered.order.session, d)) (Some (x.answered.order.session, d)) None
  pub commits : commit_number d ≡ durable x.answered
  pub known : knows_deed (labels_of x.after) d ≡ true
  pub low : Lex (bound x.before) (point d)
  pub high : Lex (point d) (bound x.after)

-- or none
pub record Idle (x : Step) : Type 0 where
  pub act : act_of x ≡ None
  pub moves_none : has_move x.answered ≡ false
  pub places : placed_of x ≡ None
  pub publishes : publish_in x ≡ None
  pub commits : durable x.answered ≡ None

abbrev pub Did : Step → Type 0
Did x = ((d : Deed) × Does x d) ⊎ Idle x

-- the number that a reply reports is one of the operations that are there
at_most : (history : List Operation) (r : Reply) (n : ℕ) → report r ≡ says_number n → Counts history r → n ≤ length history
at_most history r n said w = let e : says_number n ≡ says_number w.0 = sym said ∙ ap report w.2 in let f : n ≡ w.0 = ap number_of e in let l = w.1 in omega arith
  where
    number_of : Report → ℕ
    number_of (says_number k) = k
    number_of _ = 0

-- a refusal reports none
no_number : (r : Reply) (n : ℕ) (why : Refusal) → report r ≡ says_number n → r ≡ refused why → ⊥
no_number r n why said is = let e : says_number n ≡ says_refused (reason why) = sym said ∙ ap report is in cc

no_place : (r : Reply) (at : ℕ) (why : Refusal) → report r ≡ says_placed at → r ≡ refused why → ⊥
no_place r at why said is = let e : says_placed at ≡ says_refused (reason why) = sym said ∙ ap report is in cc

-- the number of a refresh or a commit is one of the operations that were then there
counted : (settings : Settings) (labels : List (List (List ℕ))) (history : List Operation) (held : Held) (session : ℕ) (e : Effect) (c : Command) (took : Option (ℕ × ℕ)) (saw : Option ℕ) (r : Reply) (n : ℕ) → (e ≡ publishes) ⊎ (e ≡ persists) → report r ≡ says_number n
    → IsRightBy settings labels history held session e c took saw r → n ≤ length history
counted settings labels history held session e c took saw r n is said right = ⊎_elim
    (λ p. at_most history r n said (subst (λ (e : Effect). IsRightBy settings labels history held session e c took saw r) p right))
    (λ p. ⊎_elim (at_most history r n said) (λ other. ⊎_elim (λ w. absurd (no_number r n _ said w.1)) (λ other. ⊎_elim
    (λ w. absurd (no_number r n _ said w.1))
    (λ w. absurd (no_number r n _ said w.2)) other) other)
    (subst (λ (e : Effect). IsRightBy settings labels history held session e c took saw r) p right)) is

pub between : (m n j k : ℕ) → m ≤ n → j ≤ k → Lex (m + m, j) (n + n, k)
between m n j k le le' = ⊎_elim (λ lt. inl (omega arith)) (λ ge. let e : m + m ≡ n + n = omega arith in inr (e, le')) (cases_lt m n)

module _ (settings : Settings) (held : Held) (x : Step) (step : IsStep settings held x) where
  abbrev a : Answered
  a = x.answered

  abbrev s : ℕ
  s = x.answered.order.session

  abbrev e : Effect
  e = effect a.order.command

  abbrev said : Report
  said = report a.reply

  known_resolved : (change : Change) (at : ℕ) (b : Bool) → said ≡ says_placed at → IsResolved settings (labels_of x.after) (history_of x.after) s change a.saw b a.reply → b ≡ true
  known_resolved change at true placed r = refl
  known_resolved change at false placed r = absurd (no_place a.reply at _ placed r.1)

  known_added : (change : Change) (doc : Doc) (at : ℕ) (o : Option Broken) → said ≡ says_placed at → IsAdded settings (labels_of x.after) (history_of x.after) s change a.saw doc o a.reply → knows (labels_of x.after) doc ≡ true
  known_added change doc at (Some b) placed r = absurd (no_place a.reply at _ placed r)
  known_added change doc at None placed r = known_resolved change at (knows (labels_of x.after) doc) placed r

  known_changed : (change : Change) (at : ℕ) (d : Option Doc) → said ≡ says_placed at → IsChanged settings (labels_of x.after) (history_of x.after) s change a.saw d a.reply → option_map_or (knows (labels_of x.after)) d true ≡ true
  known_changed change at None placed r = refl
  known_changed change at (Some doc) placed r = known_added change doc at (first_broken settings.config doc) placed r

  known_doc : (k : Placed s e said) → option_map_or (knows (labels_of x.after)) (doc_of k.change) true ≡ true
  known_doc k = ⊎_elim
      (λ right. known_changed k.change k.at (doc_of k.change) k.report
      (subst (λ (e : Effect). IsRightBy settings (labels_of x.after) (history_of x.after) held s e a.order.command a.took a.saw a.reply) k.effect right))
      (λ lacks. absurd (no_place a.reply k.at _ k.report lacks.1)) step.right

  placing : Placed s e said → (d : Deed) × Does x d
  placing k =
      let enters : EntersOperation s (Some (k.at, record { session = s; change = k.change })) x.before.operations x.after.operations = subst (λ (o : Option (ℕ × Operation)). EntersOperation s o x.before.operations x.after.operations) k.places step.operations in
      let size : length x.after.operations ≡ length enters.0 + 1 = ap length enters.1.1 ∙ length-append enters.0 ((s, k.change) ∷ []) in
      let more = prefix_length x.before.operations enters.0 enters.1.0.0 in
      let at = enters.2 in
      let p = k.places in
      let q = k.refreshes in
      let c = k.commits in (
        change_at k.at k.change,
        record {
          act = rw p refl;
          moves = rw p refl;
          answer = λ i. (s, (k.effect i, k.report i));
          places = rw p refl;
          publishes = rw q refl;
          commits = sym c;
          known = known_doc k;
          low = inl (omega arith);
          high = inl (omega arith);
        },
      )

  right_number : (n : ℕ) → (e ≡ publishes) ⊎ (e ≡ persists) → said ≡ says_number n → n ≤ length x.after.operations
  right_number n is number = ⊎_elim
      (λ right. let l = counted settings (labels_of x.after) (history_of x.after) held s e a.order.command a.took a.saw a.reply n is number right in
      let size : length (history_of x.after) ≡ length x.after.operations = length-map x.after.operations (λ (e : ℕ × Change). record { session = e.0; change = e.1 }) in omega arith)
      (λ lacks. absurd (no_number a.reply n _ number lacks.1)) step.right

  refreshing : Refreshed s e a.saw said → (d : Deed) × Does x d
  refreshing k =
      let most = right_number k.n (inl k.effect) k.report in
      let least = if_some (λ n. length x.before.operations ≤ n) _ k.n step.fresh k.stands in
      let pairs = prefix_length x.before.pairs x.after.pairs step.sees.pairs in
      let p = k.places in
      let q = k.refreshes in
      let c = k.commits in (
        publish_of k.n (length x.after.pairs),
        record {
          act = rw (p, q) refl;
          moves = rw (p, q) refl;
          answer = λ i. (s, (k.effect i, k.report i));
          places = rw p refl;
          publishes = rw q refl;
          commits = sym c;
          known = refl;
          low = between (length x.before.operations) k.n (length x.before.pairs) (length x.after.pairs) least pairs;
          high = between k.n (length x.after.operations) (length x.after.pairs) (length x.after.pairs) most (omega arith);
        },
      )

  committing : Committed s e a.saw said → (d : Deed) × Does x d
  committing k =
      let most = right_number k.n (inr k.effect) k.report in
      let least = if_some (λ n. length x.before.operations ≤ n) _ k.n step.fresh k.stands in
      let pairs = prefix_length x.before.pairs x.after.pairs step.sees.pairs in
      let p = k.places in
      let q = k.refreshes in
      let c = k.commits in (
        commit_of k.n (length x.before.pairs),
        record {
          act = rw (p, q, c) refl;
          moves = rw (p, q, c) refl;
          answer = λ i. (s, (k.effect i, k.report i));
          places = rw p refl;
          publishes = rw q refl;
          commits = sym c;
          known = refl;
          low = between (length x.before.operations) k.n (length x.before.pairs) (length x.before.pairs) least (omega arith);
          high = between k.n (length x.after.operations) (length x.before.pairs) (length x.after.pairs) most pairs;
        },
      )

  idle : Unchanged s e said → Idle x
  idle k =
      let p = k.places in
      let q = k.refreshes in
      let c = k.commits in
      record {
        act = rw (p, q, c) refl;
        moves_none = rw (p, q, c) refl;
        places = rw p refl;
        publishes = rw q refl;
        commits = c;
      }

  pub did : Did x
  did = ⊎_elim (λ k. inl (placing k)) (λ r. ⊎_elim (λ k. inl (refreshing k)) (λ r. ⊎_elim (λ k. inl (committing k)) (λ k. inr (idle k)) r) r) (kind s e a.saw said)
