-- Each new label was entered by an order that brings it, behind all labels that the session had been shown.
use Rattle.std.proofs.Common.{◌≡◌, ⊎_elim, ℕ, zero, suc, ◌+◌, ◌≤◌, Bool, true, false, List, [], ◌∷◌, ◌++◌, length, Option, Some, None, slice_get, refl, sym, ap, subst, arith}
use Rattle.std.specs.Prelude.{◌&&◌, ◌||◌, not, nat_le, take, drop, IsTrue}
use Rattle.std.specs.List.{list_all, enumerate_from}
use Rattle.std.specs.Option.{option_map_or}
use Rattle.std.proofs.lemmas.Bool.{and_from, le-leb}
use mathlib.Core.List.{IsPrefix}
use Rattle.facet_model.specs.Accepts.{Broken, first_broken}
use Rattle.facet_model.specs.Documents.{Doc}
use Rattle.facet_model.specs.Histories.{Change, Operation, doc_of, knows}
use Rattle.facet_words.specs.Commands.{Settings, Command, Order}
use Rattle.facet_output.specs.Effects.{Effect, changes, publishes, holds, releases, persists, merges, looks, effect, says_refused, for_memory, report}
use Rattle.facet_output.specs.Answered.{comes_after}
use Rattle.facet_output.specs.Held.{Held}
use Rattle.facet_output.specs.Output.{Opened, has_shown, is_entered}
use Rattle.facet_replies.specs.Replies.{Reply}
use Rattle.facet_output.specs.Replying.{IsChanged, IsAdded, IsResolved, IsOf, IsLooked, IsRightBy, pair_seen}
use Rattle.facet_output.specs.Seen.{Seen, labels_of, history_of}
use Rattle.facet_output.specs.Sessions.{AllRan, steps_of}
use Rattle.facet_output.specs.Steps.{Step}
use Rattle.facet_output.specs.Reported.{brings, paths_of, add_among, change_among, pair_among, report_among, labels_among}
use Rattle.facet_output.proofs.Among.{In, all_in}
use Rattle.facet_output.proofs.Answers.{answers, all_steps, any_step, of_get_map}
use Rattle.facet_output.proofs.Bringing.{labels_begin, label_entered, opened_size}
use Rattle.facet_output.proofs.Fresh.{implied}
use Rattle.facet_output.proofs.Fronts.{get_below, take_prefix, labels_size}
use Rattle.facet_output.proofs.HeldPairs.{pair_in}
use Rattle.facet_output.proofs.Known.{facts, after_sees}
use Rattle.facet_output.proofs.Lifting.{still_knows}
use Rattle.facet_output.proofs.Looking.{looked}
use Rattle.facet_output.proofs.Pairing.{pair_labels}
use Rattle.facet_names.specs.Labels.{skips_none}
use Rattle.chronicle.proofs.Prefixes.{prefix_length}

-- a beginning that is not longer begins the first elements
front_begins : {A : Type 0} (xs rest : List A) (n : ℕ) → length xs ≤ n → IsPrefix xs (take n (xs ++ rest))
front_begins [] rest n le = (take n rest, refl)
front_begins (x ∷ xs) rest zero le = absurd (omega arith)
front_begins {A} (x ∷ xs) rest (suc n) le = let r = front_begins xs rest n (omega arith) in (r.0, ap (λ (l : List A). x ∷ l) r.1)

pub take_begins : {A : Type 0} (xs ys : List A) (n : ℕ) → IsPrefix xs ys → length xs ≤ n → IsPrefix xs (take n ys)
take_begins {A} xs ys n begins le = subst (λ (l : List A). IsPrefix xs (take n l)) begins.1 (front_begins xs begins.0 n le)

-- what stands behind the first n elements, with its place
in_numbered : {A : Type 0} (n m : ℕ) (xs : List A) (e : ℕ × A) → In e (enumerate_from (n + m) (drop m xs)) → (k : ℕ) × (m ≤ k) × (e.0 ≡ n + k) × (slice_get xs k ≡ Some e.1)
in_numbered n zero [] e there = absurd there
in_numbered {A} n zero (x ∷ xs) e there = ⊎_elim
    (λ is. (0, omega arith, (let a : e.0 ≡ n + 0 = ap (λ (y : ℕ × A). y.0) is in omega arith), ap (λ (y : ℕ × A). Some y.1) (sym is)))
    (λ later. let r = in_numbered (n + 1) zero xs e (subst (λ (k : ℕ). In e (enumerate_from k xs)) (let q : n + 0 + 1 ≡ n + 1 + 0 = omega arith in q) later) in
    (suc r.0, omega arith, (let a = r.2 in omega arith), r.3)) there
in_numbered n (suc m) [] e there = absurd there
in_numbered n (suc m) (x ∷ xs) e there =
    let r = in_numbered (n + 1) m xs e (subst (λ (k : ℕ). In e (enumerate_from k (drop m xs))) (let q : n + suc m ≡ n + 1 + m = omega arith in q) there) in
    (suc r.0, (let a = r.1 in omega arith), (let a = r.2 in omega arith), r.3)

-- ---- what a right reply has shown of the labels

module _ (settings : Settings) (labels these : List (List (List ℕ))) (history : List Operation) (held : Held) (session : ℕ) (took : Option (ℕ × ℕ)) (saw : Option ℕ) (reply : Reply) (begins : IsPrefix labels these) where
  resolved_among : (change : Change) (doc : Doc) (b : Bool) → knows labels doc ≡ b → IsResolved settings labels history session change saw b reply → add_among doc these (report reply) ≡ true
  resolved_among change doc false e r = subst (λ (q : Reply). add_among doc these (report q) ≡ true) (sym r.1) (le-leb (length labels) (length these) (prefix_length labels these begins))
  resolved_among change doc true e r = ⊎_elim
      (λ p. subst (λ (q : Reply). add_among doc these (report q) ≡ true) (sym p.3) (still_knows labels these doc begins e))
      (λ n. subst (λ (q : Reply). add_among doc these (report q) ≡ true) (sym n.4) (still_knows labels these doc begins e)) r

  added_among : (change : Change) (doc : Doc) (o : Option Broken) → IsAdded settings labels history session change saw doc o reply → add_among doc these (report reply) ≡ true
  added_among change doc (Some b) r = subst (λ (q : Reply). add_among doc these (report q) ≡ true) (sym r) refl
  added_among change doc None r = resolved_among change doc (knows labels doc) refl r

  changed_among : (change : Change) (d : Option Doc) → IsChanged settings labels history session change saw d reply → change_among d these (report reply) ≡ true
  changed_among change None r = refl
  changed_among change (Some doc) r = added_among change doc (first_broken settings.config doc) r

  of_among : (command : Command) (o : Option (ℕ × ℕ)) (on : Option (List ℕ)) → ((pair : ℕ × ℕ) → o ≡ Some pair → pair.1 ≤ length labels) → IsOf (λ pair r. IsLooked settings labels history command pair r) o on reply → pair_among these (report reply) ≡ true
  of_among command (Some pair) on seen r = let l = seen pair refl in let m = prefix_length labels these begins in (looked settings labels history pair reply command r).among these (omega arith)
  of_among command None (Some name) seen r = subst (λ (q : Reply). pair_among these (report q) ≡ true) (sym r) refl
  of_among command None None seen r = absurd r

  right_among : (e : Effect) (command : Command) → ((on : Option (List ℕ)) (pair : ℕ × ℕ) → pair_seen held took on ≡ Some pair → pair.1 ≤ length labels) → IsRightBy settings labels history held session e command took saw reply → report_among these e (report reply) ≡ true
  right_among (changes change) command seen right = changed_among change (doc_of change) right
  right_among publishes command seen right = refl
  right_among (holds name) command seen right = refl
  right_among (releases name) command seen right = refl
  right_among persists command seen right = refl
  right_among merges command seen right = refl
  right_among (looks on) command seen right = of_among command (pair_seen held took on) on (seen on) right

lacks_among : (these : List (List (List ℕ))) (e : Effect) → report_among these e (says_refused for_memory) ≡ true
lacks_among these (changes change) = by (doc_of change)
  where
    by : (d : Option Doc) → change_among d these (says_refused for_memory) ≡ true
    by None = refl
    by (Some doc) = refl
lacks_among these publishes = refl
lacks_among these (holds name) = refl
lacks_among these (releases name) = refl
lacks_among these persists = refl
lacks_among these merges = refl
lacks_among these (looks on) = refl

module _ (settings : Settings) (phases : List (List Order)) (opened : Opened) (ran : List (List Step)) (last : Seen) (all : AllRan settings phases opened ran last) where
  -- what a step has shown is among the first labels, where what it has seen is
  pub step_among : (x : Step) → In x (steps_of ran) → (these : List (List (List ℕ))) → IsPrefix (labels_of x.after) these → labels_among last.pairs these x.answered ≡ true
  step_among x there these begins =
      let f = facts settings phases opened ran last all x there in
      let step = f.2.1 in
      and_from _ _
      (⊎_elim
      (λ right. right_among settings (labels_of x.after) these (history_of x.after) f.2.0 x.answered.order.session x.answered.took x.answered.saw x.answered.reply begins (effect x.answered.order.command) x.answered.order.command
      (λ on pair e. let l = (pair_in settings f.2.0 x on pair step f.2.2 e).1 in let s = labels_size x.after in omega arith) right)
      (λ lacks. subst (λ (q : Reply). report_among these (effect x.answered.order.command) (report q) ≡ true) (sym lacks.1) (lacks_among these (effect x.answered.order.command))) step.right)
      (by_place x.answered.place (λ k e. by_entry (slice_get last.pairs k) (λ g at. let l = pair_labels settings phases opened ran last all x there k e g at in let m = prefix_length (labels_of x.after) these begins in le-leb g.1.1 (length these) (omega arith))))
    where
      by_entry : (o : Option (ℕ × (ℕ × ℕ))) → ((g : ℕ × (ℕ × ℕ)) → o ≡ Some g → nat_le g.1.1 (length these) ≡ true) → option_map_or (λ e. nat_le e.1.1 (length these)) o true ≡ true
      by_entry None each = refl
      by_entry (Some g) each = each g refl

      by_place : (o : Option ℕ) → ((k : ℕ) → o ≡ Some k → option_map_or (λ e. nat_le e.1.1 (length these)) (slice_get last.pairs k) true ≡ true) → option_map_or (λ place. option_map_or (λ e. nat_le e.1.1 (length these)) (slice_get last.pairs place) true) o true ≡ true
      by_place None each = refl
      by_place (Some k) each = each k refl

  -- what had been shown to the session of a step is among the first labels, where what the step began with is
  pub shown_among : (x : Step) → In x (steps_of ran) → (n : ℕ) → length (labels_of x.before) ≤ n → has_shown (labels_of last) last.pairs (answers (steps_of ran)) x.answered n ≡ true
  shown_among x there n many = all_steps (steps_of ran) (λ b. not (comes_after x.answered b) || labels_among last.pairs (take n (labels_of last)) b) (λ b among.
      implied (comes_after x.answered b.answered) _ (λ after.
      let g = facts settings phases opened ran last all b among in
      let sees = after_sees settings phases opened ran last all b x among there after in
      let l = prefix_length b.after.labels x.before.labels sees.labels in
      let size = labels_size b.after in let size' = labels_size x.before in
      step_among b among (take n (labels_of last))
      (take_begins (labels_of b.after) (labels_of last) n (labels_begin settings phases opened ran last all b.after last g.1) (omega arith))))

  each_entered : (k : ℕ) (path : List (List ℕ)) → length opened.labels ≤ k → slice_get (labels_of last) k ≡ Some path → is_entered settings.config (labels_of last) last.pairs (answers (steps_of ran)) (k, path) ≡ true
  each_entered zero path le at = let s = opened_size settings phases opened ran last all in absurd (omega arith)
  each_entered (suc k) path le at =
      let s = opened_size settings phases opened ran last all in
      let e = of_get_map (λ (e : ℕ × List (List ℕ)). e.1) last.labels k path at in
      let b = label_entered settings phases opened ran last all k e.0.0 e.0.1 e.1 (omega arith) in
      let f = facts settings phases opened ran last all b.0 b.1 in
      let path_is : e.0.1 ≡ path = sym e.2 in
      let brings_it : brings settings.config path b.0.answered.order.command ≡ true = subst (λ (p : List (List ℕ)). brings settings.config p b.0.answered.order.command ≡ true) path_is b.3.0 in
      let after_b = labels_begin settings phases opened ran last all b.0.after last f.1 in
      let place : k + 1 ≡ suc k = omega arith in
      let here = get_below b.0.after.labels k (b.0.answered.order.session, e.0.1) b.4 in
      let size_b = labels_size b.0.after in
      let front : take (suc k) (labels_of last) ≡ take (suc k) (labels_of b.0.after) = take_prefix (labels_of b.0.after) (labels_of last) (suc k) after_b (omega arith) in
      let none : skips_none (take (suc k) (labels_of last)) (paths_of b.0.answered.order.command) path ≡ true =
      subst (λ (l : List (List (List ℕ))). skips_none l (paths_of b.0.answered.order.command) path ≡ true) (sym front)
      (subst (λ (p : List (List ℕ)). skips_none (take (suc k) (labels_of b.0.after)) (paths_of b.0.answered.order.command) p ≡ true) path_is
      (subst (λ (n : ℕ). skips_none (take n (labels_of b.0.after)) (paths_of b.0.answered.order.command) e.0.1 ≡ true) place b.3.2)) in
      let shown = shown_among b.0 b.1 (suc k) (let m = b.2 in let size = labels_size b.0.before in omega arith) in
      any_step (steps_of ran) (λ b. brings settings.config path b.order.command && skips_none (take (suc k) (labels_of last)) (paths_of b.order.command) path
      && has_shown (labels_of last) last.pairs (answers (steps_of ran)) b (suc k)) b.0 b.1 (and_from _ _ (and_from _ _ brings_it none) shown)

  pub entered_so : IsTrue (list_all (is_entered settings.config (labels_of last) last.pairs (answers (steps_of ran))) (enumerate_from (length opened.labels) (drop (length opened.labels) (labels_of last))))
  entered_so = all_in (is_entered settings.config (labels_of last) last.pairs (answers (steps_of ran))) (enumerate_from (length opened.labels) (drop (length opened.labels) (labels_of last))) (λ e there.
      let from : enumerate_from (length opened.labels) (drop (length opened.labels) (labels_of last)) ≡ enumerate_from (0 + length opened.labels) (drop (length opened.labels) (labels_of last)) =
      ap (λ k. enumerate_from k (drop (length opened.labels) (labels_of last))) (let q : length opened.labels ≡ 0 + length opened.labels = omega arith in q) in
      let r = in_numbered 0 (length opened.labels) (labels_of last) e (subst (λ (l : List (ℕ × List (List ℕ))). In e l) from there) in
      let ordinal : r.0 ≡ e.0 = (let a = r.2 in omega arith) in
      subst (λ (n : ℕ). is_entered settings.config (labels_of last) last.pairs (answers (steps_of ran)) (n, e.1) ≡ true) ordinal (each_entered r.0 e.1 r.1 r.3))
