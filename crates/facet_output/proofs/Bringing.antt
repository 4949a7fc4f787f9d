-- Where the labels of a run come from.
use Rattle.std.proofs.Common.{◌≡◌, ⊎_elim, ℕ, zero, suc, ◌+◌, ◌≤◌, ◌<◌, Bool, true, false, List, [], ◌∷◌, length, map, Option, Some, None, slice_get, refl, sym, ap, ◌∙◌, subst, arith}
use Rattle.std.specs.Prelude.{◌&&◌, not, max, take, drop, IsTrue}
use Rattle.std.specs.List.{list_all}
use Rattle.std.proofs.lemmas.Bool.{and_from, cases_lt}
use mathlib.Core.List.{IsPrefix}
use Rattle.facet_model.specs.Accepts.{Broken, first_broken}
use Rattle.facet_model.specs.Documents.{Doc}
use Rattle.facet_model.specs.Histories.{Change, Operation, doc_of, knows}
use Rattle.facet_words.specs.Commands.{Settings, Command, Order}
use Rattle.facet_output.specs.Effects.{Effect, effect, report}
use Rattle.facet_replies.specs.Replies.{Reply, refused, no_memory}
use Rattle.facet_output.specs.Answered.{Answered, comes_after}
use Rattle.facet_output.specs.Held.{Held}
use Rattle.facet_output.specs.Output.{Opened, is_brought, was_full}
use Rattle.facet_output.specs.Replying.{IsChanged, IsAdded, IsResolved, IsRight, IsRightBy}
use Rattle.facet_output.specs.Reported.{brings, says_full, is_refused_for_labels}
use Rattle.facet_output.specs.Seen.{Seen, Sees, opened_seen, labels_of, history_of}
use Rattle.facet_output.specs.Steps.{Step, IsEntered}
use Rattle.facet_output.specs.Sessions.{AllRan, steps_of, own_steps}
use Rattle.facet_output.proofs.Chain.{sees_last, sees_trans}
use Rattle.facet_output.proofs.Effects.{change_rejected}
use Rattle.facet_output.proofs.Among.{In, all_in}
use Rattle.facet_output.proofs.Answers.{answers, all_steps, any_step, in_drop, of_get_map}
use Rattle.facet_output.proofs.Fresh.{implied}
use Rattle.facet_output.proofs.Fronts.{prefix_whole, map_prefix, take_prefix, get_below, get_there, labels_size}
use Rattle.facet_output.proofs.Known.{facts, after_sees, entered}
use Rattle.chronicle.proofs.Prefixes.{prefix_length}

-- a change that is refused for labels has seen as many as there may be
module _ (settings : Settings) (labels : List (List (List ℕ))) (history : List Operation) (session : ℕ) (change : Change) (saw : Option ℕ) (reply : Reply) (says : says_full reply ≡ true) where
  full_resolved : (b : Bool) → IsResolved settings labels history session change saw b reply → settings.max_labels ≤ length labels
  full_resolved false r = r.0
  full_resolved true r = ⊎_elim (λ p. let e : false ≡ true = sym (ap says_full p.3) ∙ says in absurd cc) (λ n. let e : false ≡ true = sym (ap says_full n.4) ∙ says in absurd cc) r

  pub full_added : (doc : Doc) (o : Option Broken) → IsAdded settings labels history session change saw doc o reply → settings.max_labels ≤ length labels
  full_added doc (Some b) r = let e : false ≡ true = sym (ap says_full r) ∙ says in absurd cc
  full_added doc None r = full_resolved (knows labels doc) r

  full_changed : (d : Option Doc) → IsChanged settings labels history session change saw d reply → settings.max_labels ≤ length labels
  full_changed None r = let e : false ≡ true = sym (ap says_full r.2) ∙ says in absurd cc
  full_changed (Some doc) r = full_added doc (first_broken settings.config doc) r

pub full_size : (settings : Settings) (labels : List (List (List ℕ))) (history : List Operation) (held : Held) (session : ℕ) (took : Option (ℕ × ℕ)) (saw : Option ℕ) (reply : Reply) (command : Command) → is_refused_for_labels command reply ≡ true
    → IsRight settings labels history held session command took saw reply → settings.max_labels ≤ length labels
full_size settings labels history held session took saw reply command says right =
    let c = change_rejected (effect command) (report reply) says in
    full_changed settings labels history session c.0 saw reply c.2 (doc_of c.0) (subst (λ (e : Effect). IsRightBy settings labels history held session e command took saw reply) c.1 right)

lacks_memory : (command : Command) (reply : Reply) → is_refused_for_labels command reply ≡ true → reply ≡ refused no_memory → ⊥
lacks_memory command reply says e = let no_match : false ≡ true = sym (ap says_full e) ∙ (change_rejected (effect command) (report reply) says).2 in cc

module _ (settings : Settings) (phases : List (List Order)) (opened : Opened) (ran : List (List Step)) (last : Seen) (all : AllRan settings phases opened ran last) where
  -- the first labels are the opened ones
  pub opened_first : labels_of (opened_seen opened) ≡ opened.labels
  opened_first = rooted opened.labels all.rooted
    where
      alone : (paths : List (List (List ℕ))) → map (λ (e : ℕ × List (List ℕ)). e.1) (map (λ path. (0, path)) paths) ≡ paths
      alone [] = refl
      alone (p ∷ paths) = ap (λ (l : List (List (List ℕ))). p ∷ l) (alone paths)

      rooted : (labels : List (List (List ℕ))) → take 1 labels ≡ [] ∷ [] → [] ∷ map (λ (e : ℕ × List (List ℕ)). e.1) (map (λ path. (0, path)) (drop 1 labels)) ≡ labels
      rooted [] e = absurd cc
      rooted (l ∷ labels) e = let same : l ≡ [] = cc in λ i. sym same i ∷ alone labels i

  pub labels_begin : (a b : Seen) → Sees a b → IsPrefix (labels_of a) (labels_of b)
  labels_begin a b sees = let p = map_prefix (λ (e : ℕ × List (List ℕ)). e.1) a.labels b.labels sees.labels in (p.0, ap (λ (l : List (List (List ℕ))). [] ∷ l) p.1)

  pub opened_size : length opened.labels ≡ length (opened_seen opened).labels + 1
  opened_size = ap length (sym opened_first) ∙ labels_size (opened_seen opened)

  pub opened_sees : Sees (opened_seen opened) last
  opened_sees = sees_last settings 0 [] (opened_seen opened) (own_steps 0 (steps_of ran)) last (all.sessions 0)

  pub opened_labels_so : take (length opened.labels) (labels_of last) ≡ opened.labels
  opened_labels_so =
      let begins : IsPrefix opened.labels (labels_of last) = subst (λ (l : List (List (List ℕ))). IsPrefix l (labels_of last)) opened_first (labels_begin (opened_seen opened) last opened_sees) in
      take_prefix opened.labels (labels_of last) (length opened.labels) begins (omega arith) ∙ whole opened.labels
    where
      whole : (xs : List (List (List ℕ))) → take (length xs) xs ≡ xs
      whole [] = refl
      whole (x ∷ xs) = ap (λ (l : List (List (List ℕ))). x ∷ l) (whole xs)

  -- the step that entered a label, as it has to be
  pub label_entered : (k n : ℕ) (path : List (List ℕ)) → slice_get last.labels k ≡ Some (n, path) → length (opened_seen opened).labels ≤ k
      → (x : Step) × In x (steps_of ran) × (length x.before.labels ≤ k) × IsEntered settings x.answered.order.command (labels_of x.after) k path × (slice_get x.after.labels k ≡ Some (x.answered.order.session, path))
  label_entered k n path there behind =
      let r = entered settings phases opened ran last all (λ s. s.labels) (λ a b sees. sees.labels) (λ n a b told. told.labels) k n path there behind in
      let f = facts settings phases opened ran last all r.0 r.1 in
      let own : slice_get r.0.after.labels k ≡ Some (r.0.answered.order.session, path) = subst (λ (m : ℕ). slice_get r.0.after.labels k ≡ Some (m, path)) (sym r.2) r.4 in
      (r.0, r.1, r.3, f.2.1.labels k path r.3 own, own)

  -- the step that entered a label, which its document brings
  pub label_step : (k n : ℕ) (path : List (List ℕ)) → slice_get last.labels k ≡ Some (n, path) → length (opened_seen opened).labels ≤ k
      → (x : Step) × In x (steps_of ran) × (length x.before.labels ≤ k) × (brings settings.config path x.answered.order.command ≡ true) × (k + 1 < settings.max_labels)
  label_step k n path there behind = let r = label_entered k n path there behind in (r.0, r.1, r.2, r.3.0, r.3.1)

  pub limit_so : length (labels_of last) ≤ max settings.max_labels (length opened.labels)
  limit_so = ⊎_elim
      (λ more. let e = labels_size last in let s = opened_size in by (length last.labels) refl more)
      (λ le. let e = labels_size last in let s = opened_size in omega arith)
      (cases_lt (length (opened_seen opened).labels) (length last.labels))
    where
      by : (n : ℕ) → length last.labels ≡ n → length (opened_seen opened).labels < n → length (labels_of last) ≤ max settings.max_labels (length opened.labels)
      by zero e lt = absurd (omega arith)
      by (suc k) e lt =
          let r = get_there last.labels k (omega arith) in
          let s = label_step k r.0.0 r.0.1 r.1 (omega arith) in
          let size = labels_size last in let limit = s.4 in omega arith

  -- a label behind the opened ones was brought by an order that passes a test, where the one that entered it does
  brought_if : (passes : Answered → Bool) → ((x : Step) → In x (steps_of ran) → (k : ℕ) → length x.before.labels ≤ k → k < length last.labels → passes x.answered ≡ true)
      → list_all (is_brought settings.config passes (answers (steps_of ran))) (drop (length opened.labels) (labels_of last)) ≡ true
  brought_if passes pass = all_in (is_brought settings.config passes (answers (steps_of ran))) (drop (length opened.labels) (labels_of last)) (λ label among.
      let at = in_drop (length opened.labels) (labels_of last) label among in
      by label at.0 (let s = opened_size in let l = at.1 in omega arith) at.2)
    where
      by : (label : List (List ℕ)) (k : ℕ) → length (opened_seen opened).labels + 1 ≤ k → slice_get (labels_of last) k ≡ Some label → is_brought settings.config passes (answers (steps_of ran)) label ≡ true
      by label zero le there = absurd (omega arith)
      by label (suc k) le there =
          let e = of_get_map (λ (e : ℕ × List (List ℕ)). e.1) last.labels k label there in
          let lt = get_below last.labels k e.0 e.1 in
          let s = label_step k e.0.0 e.0.1 e.1 (omega arith) in
          let brings_it : brings settings.config label s.0.answered.order.command ≡ true = subst (λ (l : List (List ℕ)). brings settings.config l s.0.answered.order.command ≡ true) (sym e.2) s.3 in
          any_step (steps_of ran) (λ b. brings settings.config label b.order.command && passes b) s.0 s.1 (and_from _ _ brings_it (pass s.0 s.1 k s.2 lt))

  -- after a change that was refused for labels there are no more
  pub full_last : (x : Step) → In x (steps_of ran) → settings.max_labels ≤ length (labels_of x.after) → labels_of x.after ≡ labels_of last
  full_last x there full =
      let f = facts settings phases opened ran last all x there in
      let sees = sees_trans (opened_seen opened) x.before x.after f.0 f.2.1.sees in
      let begin = prefix_length (opened_seen opened).labels x.after.labels sees.labels in
      let limit = limit_so in let s = opened_size in let e = labels_size x.after in
      prefix_whole (labels_of x.after) (labels_of last) (labels_begin x.after last f.1) (omega arith)

  pub full_so : IsTrue (list_all (was_full settings.config (drop (length opened.labels) (labels_of last)) (answers (steps_of ran))) (answers (steps_of ran)))
  full_so = all_steps (steps_of ran) (was_full settings.config (drop (length opened.labels) (labels_of last)) (answers (steps_of ran))) (λ a there.
      implied (is_refused_for_labels a.answered.order.command a.answered.reply) _ (λ says.
      let f = facts settings phases opened ran last all a there in
      let full : settings.max_labels ≤ length (labels_of a.after) = ⊎_elim
      (λ right. full_size settings (labels_of a.after) (history_of a.after) f.2.0 a.answered.order.session a.answered.took a.answered.saw a.answered.reply a.answered.order.command says right)
      (λ lacks. absurd (lacks_memory a.answered.order.command a.answered.reply says lacks.1)) f.2.1.right in
      let whole = ap length (full_last a there full) in let s = labels_size a.after in let t = labels_size last in
      brought_if (λ b. not (comes_after b a.answered)) (λ x among k le lt. before (comes_after x.answered a.answered) (λ after.
      let l = prefix_length a.after.labels x.before.labels (after_sees settings phases opened ran last all a x there among after).labels in omega arith))))
    where
      before : (b : Bool) → (b ≡ true → ⊥) → not b ≡ true
      before true h = absurd (h refl)
      before false h = refl
