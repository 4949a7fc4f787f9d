-- One session that ran alone has exactly its labels.
use Rattle.std.proofs.Common.{◌≡◌, ◌⊎◌, inl, inr, ⊎_elim, ℕ, zero, suc, ◌+◌, ◌≤◌, ◌<◌, Bool, true, false, List, [], ◌∷◌, ◌++◌, length, get_or, map, Option, Some, None, slice_get, refl, sym, ap, ◌∙◌, subst, arith, length-append}
use Rattle.std.specs.Prelude.{take, flat_map, if◌then◌else◌, is_none, unwrap_or}
use Rattle.std.specs.List.{list_all, list_any}
use Rattle.std.proofs.lemmas.Bool.{and_parts, cases_lt, eqb-true}
use Rattle.std.proofs.lemmas.Option.{get_or_from_slice_get}
use mathlib.Core.List.{IsPrefix}
use Rattle.facet_names.specs.Labels.{stands, prefixes, skips_none}
use Rattle.facet_names.specs.Paths.{path_eq}
use Rattle.facet_names.proofs.LabelLists.{fresh}
use Rattle.facet_model.specs.Accepts.{Broken, first_broken}
use Rattle.facet_model.specs.Documents.{Doc}
use Rattle.facet_model.specs.Histories.{Change, doc_of, knows}
use Rattle.facet_words.specs.Commands.{Settings, Order}
use Rattle.facet_output.specs.Effects.{Effect, changes, publishes, holds, releases, persists, merges, looks, effect, Report, report}
use Rattle.facet_output.specs.Held.{Held, held_after}
use Rattle.facet_output.specs.OneSession.{LeavesFirst, AddLeaves, ChangeLeaves, EffectLeaves, Leaves, AreExactLabels, OneSessionHasItsLabels, room, is_resolved}
use Rattle.facet_output.specs.Output.{Opened}
use Rattle.facet_replies.specs.Replies.{Reply, refused, no_memory}
use Rattle.facet_output.specs.Replying.{IsChanged, IsAdded, IsResolved, IsRight, IsRightBy}
use Rattle.facet_output.specs.Seen.{Entries, Seen, Sees, IsTold, entered_by, opened_seen, labels_of, history_of}
use Rattle.facet_output.specs.Sessions.{SessionRan, AllRan, steps_of, own_steps, is_by}
use Rattle.facet_output.specs.Steps.{Step, IsStep, IsLastPair, IsEntered, IsEnteredBy, EntersPair}
use Rattle.facet_output.specs.Reported.{has_prefix, prefixes_of, brought, says_full, refreshed, refreshed_in}
use Rattle.facet_output.proofs.Among.{In, of_all, of_append}
use Rattle.facet_output.proofs.Answers.{of_get_map}
use Rattle.facet_output.proofs.Bringing.{full_added, labels_begin, opened_first}
use Rattle.facet_output.proofs.Chain.{sees_self, sees_trans, sees_last}
use Rattle.facet_output.proofs.Effects.{refresh_only}
use Rattle.facet_output.proofs.Exact.{filter_all}
use Rattle.facet_output.proofs.Fresh.{if_some}
use Rattle.facet_output.proofs.Fronts.{prefix_whole, take_prefix, get_there, get_below, get_last, own_front, labels_size}
use Rattle.facet_output.proofs.Growing.{Enters, first_missing, all_missing}
use Rattle.facet_output.proofs.Known.{entered}
use Rattle.chronicle.proofs.Prefixes.{prefix_length, prefix_get}

-- each prefix of each label stands where the labels know the document
pub known_paths : (labels paths : List (List (List ℕ))) → list_all (λ label. list_all (stands labels) (prefixes label)) paths ≡ true → (p : List (List ℕ)) → In p (flat_map prefixes paths) → stands labels p ≡ true
known_paths labels [] h p there = absurd there
known_paths labels (l ∷ paths) h p there =
    let both = and_parts (list_all (stands labels) (prefixes l)) (list_all (λ label. list_all (stands labels) (prefixes label)) paths) h in
    ⊎_elim (λ here. of_all (stands labels) (prefixes l) p both.0 here) (λ later. known_paths labels paths both.1 p later) (of_append (prefixes l) (flat_map prefixes paths) p there)

module _ (settings : Settings) (phases : List (List Order)) (opened : Opened) (ran : List (List Step)) (last : Seen) (session : ℕ) (all : AllRan settings phases opened ran last)
    (one : list_all (is_by session) (steps_of ran) ≡ true) where
  abbrev pub start : Seen
  start = opened_seen opened

  pub own : (x : Step) → In x (steps_of ran) → x.answered.order.session ≡ session
  own x there = eqb-true x.answered.order.session session (of_all (is_by session) (steps_of ran) x one there)

  -- what is entered behind what was opened is the session's
  module _ {A : Type 0} (part : Seen → Entries A) (begins : (a b : Seen) → Sees a b → IsPrefix (part a) (part b)) (told : (n : ℕ) (a b : Seen) → IsTold n a b → entered_by n (part b) ≡ entered_by n (part a)) where
    whose : (k n : ℕ) (e : A) → slice_get (part last) k ≡ Some (n, e) → length (part start) ≤ k → n ≡ session
    whose k n e at behind = let r = entered settings phases opened ran last all part begins told k n e at behind in sym r.2 ∙ own r.0 r.1

    -- where the session enters nothing, nothing is entered
    pub nothing_between : (xs ys : Entries A) → IsPrefix (part start) xs → IsPrefix xs ys → IsPrefix ys (part last) → entered_by session ys ≡ entered_by session xs → xs ≡ ys
    nothing_between xs ys since between until same = prefix_whole xs ys between (⊎_elim
        (λ lt. let r = get_there ys (length xs) lt in
        let at = prefix_get ys (part last) (length xs) r.0 until r.1 in
        let l = prefix_length (part start) xs since in
        let n = whose (length xs) r.0.0 r.0.1 at l in
        let mine : slice_get ys (length xs) ≡ Some (session, r.0.1) = subst (λ (m : ℕ). slice_get ys (length xs) ≡ Some (m, r.0.1)) n r.1 in
        let lt' = own_front session xs ys (length xs) r.0.1 between same mine in absurd (omega arith))
        (λ le. le) (cases_lt (length xs) (length ys)))

    pub nothing_new : (a b : Seen) → Sees start a → Sees a b → Sees b last → entered_by session (part b) ≡ entered_by session (part a) → part a ≡ part b
    nothing_new a b since ab until same = nothing_between (part a) (part b) (begins start a since) (begins a b ab) (begins b last until) same

  -- no label stands twice
  once : (x : Step) → Sees x.after last → (i : ℕ) (p : List (List ℕ)) → slice_get (labels_of x.after) i ≡ Some p → stands (take i (labels_of x.after)) p ≡ false
  once x until i p at =
      let begins = labels_begin settings phases opened ran last all x.after last until in
      let there = prefix_get (labels_of x.after) (labels_of last) i p begins at in
      let lt = get_below (labels_of last) i p there in
      let lt' = get_below (labels_of x.after) i p at in
      let f = fresh (labels_of last) all.label_list i [] lt in
      let is : get_or (labels_of last) i [] ≡ p = get_or_from_slice_get (labels_of last) i p [] there in
      let front : take i (labels_of last) ≡ take i (labels_of x.after) = take_prefix (labels_of x.after) (labels_of last) i begins (omega arith) in
      subst (λ q. list_any (path_eq q) (take i (labels_of x.after)) ≡ false) is (subst (λ l. list_any (path_eq (get_or (labels_of last) i [])) l ≡ false) front f)

  -- ---- what one step leaves

  module _ (held : Held) (x : Step) (there : In x (steps_of ran)) (since : Sees start x.before) (until : Sees x.after last) (step : IsStep settings held x) where
    abbrev pub before : List (List (List ℕ))
    before = labels_of x.before

    abbrev pub after : List (List (List ℕ))
    after = labels_of x.after

    begins : IsPrefix before after
    begins = labels_begin settings phases opened ran last all x.before x.after step.sees

    -- a label behind the old ones is entered as it has to be
    entered_at : (k n : ℕ) (p : List (List ℕ)) → slice_get x.after.labels k ≡ Some (n, p) → length x.before.labels ≤ k → IsEntered settings x.answered.order.command after k p
    entered_at k n p at behind =
        let l = prefix_length start.labels x.before.labels since.labels in
        let n_is = whose (λ s. s.labels) (λ a b sees. sees.labels) (λ n a b told. told.labels) k n p (prefix_get x.after.labels last.labels k (n, p) until.labels at) (omega arith) in
        let same : n ≡ x.answered.order.session = n_is ∙ sym (own x there) in
        step.labels k p behind (subst (λ (m : ℕ). slice_get x.after.labels k ≡ Some (m, p)) same at)

    abbrev EachBy : Effect → Type 0
    EachBy e = (k n : ℕ) (p : List (List ℕ)) → slice_get x.after.labels k ≡ Some (n, p) → length x.before.labels ≤ k → IsEnteredBy settings e after k p

    -- a command that brings no label leaves them
    left : (e : Effect) → EachBy e → ((p : List (List ℕ)) → brought settings.config p e ≡ true → ⊥) → after ≡ before
    left e enters none = sym (prefix_whole before after begins (⊎_elim
        (λ lt. let s = labels_size x.before in let t = labels_size x.after in
        let r = get_there x.after.labels (length x.before.labels) (omega arith) in
        absurd (none r.0.1 (enters (length x.before.labels) r.0.0 r.0.1 r.1 (omega arith)).0))
        (λ le. le) (cases_lt (length before) (length after))))

    module _ (change : Change) (doc : Doc) (reply : Reply) (accepted : first_broken settings.config doc ≡ None) (enters : EachBy (changes change)) (is_doc : doc_of change ≡ Some doc) where
      next_path : Enters after (once x until) before (flat_map prefixes doc.labels)
      next_path zero p le at = let s = labels_size x.before in absurd (omega arith)
      next_path (suc k) p le at =
          let s = labels_size x.before in
          let e = of_get_map (λ (e : ℕ × List (List ℕ)). e.1) x.after.labels k p at in
          let is = subst (λ (q : List (List ℕ)). IsEnteredBy settings (changes change) after k q) (sym e.2) (enters k e.0.0 e.0.1 e.1 (omega arith)) in
          let has : has_prefix settings.config p (Some doc) ≡ true = subst (λ (d : Option Doc). has_prefix settings.config p d ≡ true) is_doc is.0 in
          let skips : skips_none (take (k + 1) after) (prefixes_of (Some doc)) p ≡ true = subst (λ (d : Option Doc). skips_none (take (k + 1) after) (prefixes_of d) p ≡ true) is_doc is.2 in (
            (and_parts (is_none (first_broken settings.config doc)) (stands (flat_map prefixes doc.labels) p) has).1,
            subst (λ (n : ℕ). skips_none (take n after) (flat_map prefixes doc.labels) p ≡ true) (let n : k + 1 ≡ suc k = omega arith in n) skips,
          )

      high : length after ≤ room settings before
      high = ⊎_elim (λ lt. by (length x.after.labels) refl lt) (λ le. omega arith) (cases_lt (length before) (length after))
        where
          by : (n : ℕ) → length x.after.labels ≡ n → length before < length after → length after ≤ room settings before
          by zero e lt = let s = labels_size x.before in let t = labels_size x.after in absurd (omega arith)
          by (suc k) e lt =
              let s = labels_size x.before in let t = labels_size x.after in
              let r = get_there x.after.labels k (omega arith) in
              let limit = (enters k r.0.0 r.0.1 r.1 (omega arith)).1 in omega arith

      resolved : (b : Bool) → knows after doc ≡ b → IsResolved settings after (history_of x.after) session change x.answered.saw b reply → is_resolved reply ≡ true → knows after doc ≡ true
      resolved true e r is = e
      resolved false e r is = let no_match : false ≡ true = sym (ap is_resolved r.1) ∙ is in absurd cc

      leaves_first : IsAdded settings after (history_of x.after) session change x.answered.saw doc None reply ⊎ (reply ≡ refused no_memory) → LeavesFirst settings before doc reply after
      leaves_first right = record {
        first = first_missing after (once x until) (flat_map prefixes doc.labels) before begins next_path;
        low = prefix_length before after begins;
        high = high;
        full = λ says. (let enough : settings.max_labels ≤ length after = ⊎_elim
            (λ r. full_added settings after (history_of x.after) session change x.answered.saw reply says doc None r)
            (λ lacks. let no_match : false ≡ true = sym (ap says_full lacks) ∙ says in absurd cc) right in
            let h = high in let l = prefix_length before after begins in omega arith);
        whole = λ is. ⊎_elim
            (λ r. all_missing after (once x until) (flat_map prefixes doc.labels) before begins next_path (known_paths after doc.labels (resolved (knows after doc) refl r is)))
            (λ lacks. let no_match : false ≡ true = sym (ap is_resolved lacks) ∙ is in absurd cc) right;
      }

    add_leaves : (change : Change) (doc : Doc) (reply : Reply) (o : Option Broken) → first_broken settings.config doc ≡ o → EachBy (changes change) → doc_of change ≡ Some doc → IsAdded settings after (history_of x.after) session change x.answered.saw doc o reply ⊎ (reply ≡ refused no_memory) → AddLeaves settings before doc o reply after
    add_leaves change doc reply (Some b) e enters is_doc right = left (changes change) enters (λ p brought.
        let has : has_prefix settings.config p (Some doc) ≡ true = subst (λ (d : Option Doc). has_prefix settings.config p d ≡ true) is_doc brought in
        let is = (and_parts (is_none (first_broken settings.config doc)) (stands (flat_map prefixes doc.labels) p) has).0 in
        let no_match : false ≡ true = sym (ap is_none e) ∙ is in absurd cc)
    add_leaves change doc reply None e enters is_doc right = leaves_first change doc reply e enters is_doc right

    change_leaves : (change : Change) (reply : Reply) (d : Option Doc) → doc_of change ≡ d → EachBy (changes change) → IsChanged settings after (history_of x.after) session change x.answered.saw d reply ⊎ (reply ≡ refused no_memory) → ChangeLeaves settings before d reply after
    change_leaves change reply None is_doc enters right = left (changes change) enters (λ p brought. let no_match : false ≡ true = sym (ap (has_prefix settings.config p) is_doc) ∙ brought in absurd cc)
    change_leaves change reply (Some doc) is_doc enters right = add_leaves change doc reply (first_broken settings.config doc) refl enters is_doc right

    leaves : (e : Effect) (reply : Reply) → EachBy e → IsRightBy settings after (history_of x.after) held session e x.answered.order.command x.answered.took x.answered.saw reply ⊎ (reply ≡ refused no_memory) → EffectLeaves settings before e reply after
    leaves (changes change) reply enters right = change_leaves change reply (doc_of change) refl enters right
    leaves publishes reply enters right = left publishes enters (λ p h. absurd cc)
    leaves (holds name) reply enters right = left (holds name) enters (λ p h. absurd cc)
    leaves (releases name) reply enters right = left (releases name) enters (λ p h. absurd cc)
    leaves persists reply enters right = left persists enters (λ p h. absurd cc)
    leaves merges reply enters right = left merges enters (λ p h. absurd cc)
    leaves (looks on) reply enters right = left (looks on) enters (λ p h. absurd cc)

    pub step_leaves : Leaves settings before x.answered.order.command x.answered.reply after
    step_leaves = leaves (effect x.answered.order.command) x.answered.reply entered_at (⊎_elim
        (λ right. inl (subst (λ (n : ℕ). IsRight settings after (history_of x.after) held n x.answered.order.command x.answered.took x.answered.saw x.answered.reply) (own x there) right))
        (λ lacks. inr lacks.1) step.right)

    refresh_left : (e : Effect) (said : Report) (n : ℕ) → refreshed_in e said ≡ Some n → EachBy e → after ≡ before
    refresh_left e said n h enters = left e enters (λ p brings. let no_match : false ≡ true = sym (ap (brought settings.config p) (refresh_only e said n h).0) ∙ brings in absurd cc)

  -- ---- all steps

  -- the last publication has so many labels
  abbrev EndsWith : Entries (ℕ × ℕ) → ℕ → Type 0
  EndsWith pairs taken = (front : Entries (ℕ × ℕ)) × (n : ℕ) × (k : ℕ) × (pairs ≡ front ++ (n, (k, taken)) ∷ [])

  same_end : (pairs : Entries (ℕ × ℕ)) (taken : ℕ) → EndsWith pairs taken → (front : Entries (ℕ × ℕ)) (n : ℕ) (pair : ℕ × ℕ) → pairs ≡ front ++ (n, pair) ∷ [] → pair.1 ≡ taken
  same_end pairs taken ends front n pair e =
      let here : ℕ × (ℕ × ℕ) = (ends.1, (ends.2, taken)) in
      let there : ℕ × (ℕ × ℕ) = (n, pair) in
      let size : length front ≡ length ends.0 = (let a = ap length e ∙ length-append front (there ∷ []) in let b = ap length ends.3 ∙ length-append ends.0 (here ∷ []) in omega arith) in
      let at : slice_get pairs (length ends.0) ≡ Some here = subst (λ (ps : Entries (ℕ × ℕ)). slice_get ps (length ends.0) ≡ Some here) (sym ends.3) (get_last ends.0 here) in
      let at' : slice_get pairs (length front) ≡ Some there = subst (λ (ps : Entries (ℕ × ℕ)). slice_get ps (length front) ≡ Some there) (sym e) (get_last front there) in
      let same : Some there ≡ Some here = sym at' ∙ ap (slice_get pairs) size ∙ at in
      ap (λ (o : Option (ℕ × (ℕ × ℕ))). (unwrap_or o there).1.1) same

  exact : (held : Held) (seen : Seen) (xs : List Step) (taken : ℕ) → ((x : Step) → In x xs → In x (steps_of ran)) → SessionRan settings session held seen xs last → Sees start seen → EndsWith seen.pairs taken
      → AreExactLabels settings (labels_of seen) taken (map (λ (x : Step). x.answered) xs) (labels_of last)
  exact held seen [] taken among goes since ends =
      let same = nothing_new (λ s. s.labels) (λ a b sees. sees.labels) (λ n a b told. told.labels) seen last since goes.sees (sees_self last) goes.labels in
      ap (λ (l : Entries (List (List ℕ))). [] ∷ map (λ e. e.1) l) (sym same)
  exact held seen (x ∷ xs) taken among goes since ends =
      let step = goes.1 in
      let there = among x (inl refl) in
      let until = sees_last settings session (held_after held x.answered) x.after xs last goes.2 in
      let to_last = sees_trans x.before x.after last step.sees until in
      let labels_same : labels_of seen ≡ labels_of x.before = ap (λ (l : Entries (List (List ℕ))). [] ∷ map (λ e. e.1) l)
      (nothing_new (λ s. s.labels) (λ a b sees. sees.labels) (λ n a b told. told.labels) seen x.before since goes.0.sees to_last goes.0.labels) in
      let pairs_same : seen.pairs ≡ x.before.pairs = nothing_new (λ s. s.pairs) (λ a b sees. sees.pairs) (λ n a b told. told.pairs) seen x.before since goes.0.sees to_last goes.0.pairs in
      let from = sees_trans start seen x.before since goes.0.sees in
      let ends' : EndsWith x.before.pairs taken = subst (λ (ps : Entries (ℕ × ℕ)). EndsWith ps taken) pairs_same ends in (
        labels_of x.after,
        subst (λ l. Leaves settings l x.answered.order.command x.answered.reply (labels_of x.after)) (sym labels_same) (step_leaves held x there from until step),
        took_last held x there from until step taken ends',
        exact (held_after held x.answered) x.after xs (if is_none (refreshed x.answered) then taken else length (labels_of seen)) (λ y later. among y (inr later)) goes.2 (sees_trans start x.before x.after from step.sees)
            (subst (λ l. EndsWith x.after.pairs (if is_none (refreshed x.answered) then taken else length l)) (sym labels_same) (ends_after held x there from until step taken ends')),
      )
    where
      none_published : (x : Step) → In x (steps_of ran) → Sees start x.before → Sees x.before x.after → Sees x.after last → (o : Option ℕ) → o ≡ None → EntersPair x.answered.order.session (length (labels_of x.before)) (length (labels_of x.after)) o x.before.pairs x.after.pairs → x.before.pairs ≡ x.after.pairs
      none_published x there from sees until None e enters = nothing_new (λ s. s.pairs) (λ a b sees. sees.pairs) (λ n a b told. told.pairs) x.before x.after from sees until
          (subst (λ (n : ℕ). entered_by n x.after.pairs ≡ entered_by n x.before.pairs) (own x there) enters.1)
      none_published x there from sees until (Some n) e enters = absurd cc

      took_last : (held : Held) (x : Step) → In x (steps_of ran) → Sees start x.before → Sees x.after last → IsStep settings held x → (taken : ℕ) → EndsWith x.before.pairs taken → (pair : ℕ × ℕ) → x.answered.took ≡ Some pair → pair.1 ≡ taken
      took_last held x there from until step taken ends pair e =
          let t = if_some (λ pair. IsLastPair x.after pair × (refreshed x.answered ≡ None)) x.answered.took pair step.took e in
          let same = none_published x there from step.sees until (refreshed x.answered) t.1 step.pairs in
          let l = t.0.last in
          same_end x.before.pairs taken ends l.0 l.1 pair (same ∙ l.2)

      ends_after : (held : Held) (x : Step) → In x (steps_of ran) → Sees start x.before → Sees x.after last → (step : IsStep settings held x) → (taken : ℕ) → EndsWith x.before.pairs taken → EndsWith x.after.pairs (if is_none (refreshed x.answered) then taken else length (labels_of x.before))
      ends_after held x there from until step taken ends = by (refreshed x.answered) refl step.pairs
        where
          by : (o : Option ℕ) → refreshed x.answered ≡ o → EntersPair x.answered.order.session (length (labels_of x.before)) (length (labels_of x.after)) o x.before.pairs x.after.pairs → EndsWith x.after.pairs (if is_none o then taken else length (labels_of x.before))
          by None e enters = subst (λ (ps : Entries (ℕ × ℕ)). EndsWith ps taken) (none_published x there from step.sees until None refl enters) ends
          by (Some n) e enters =
              let left = ap length (refresh_left held x there from until step (effect x.answered.order.command) (report x.answered.reply) n e (entered_at held x there from until step)) in
              let low = enters.3 in let high = enters.4 in
              let size : enters.1 ≡ length (labels_of x.before) = omega arith in
              (enters.0, x.answered.order.session, n, enters.2.1 ∙ ap (λ (m : ℕ). enters.0 ++ (x.answered.order.session, (n, m)) ∷ []) size)

  pub exact_labels : AreExactLabels settings opened.labels (length opened.labels) (map (λ (x : Step). x.answered) (steps_of ran)) (labels_of last)
  exact_labels =
      let whole : own_steps session (steps_of ran) ≡ steps_of ran = filter_all (is_by session) (steps_of ran) one in
      let goes : SessionRan settings session [] start (steps_of ran) last = subst (λ (xs : List Step). SessionRan settings session [] start xs last) whole (all.sessions session) in
      let first = opened_first settings phases opened ran last all in
      subst (λ l. AreExactLabels settings l (length opened.labels) (map (λ (x : Step). x.answered) (steps_of ran)) (labels_of last)) first
      (exact [] start (steps_of ran) (length opened.labels) (λ x there. there) goes (sees_self start) ([], 0, length opened.docs, refl))

pub one_session_has_its_labels : OneSessionHasItsLabels
one_session_has_its_labels settings phases opened ran last session all one = exact_labels settings phases opened ran last session all one
