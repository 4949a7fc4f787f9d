-- Runs of one session over equal stores.
use Rattle.std.proofs.Common.{◌≡◌, ◌∙◌, ℕ, ◌<◌, eqb, Bool, true, List, [], ◌++◌, length, map, Ok, sym, ap, subst, append-nil}
use Rattle.std.specs.List.{list_all}
use Rattle.std.proofs.lemmas.Bool.{and_parts, ltb-true}
use Rattle.std.proofs.lemmas.List.Folds.{list_all-append, list_all-map}
use mathlib.Core.List.{IsPrefix}
use Rattle.commit_turns.specs.Recovery.{docs_found}
use Rattle.facet_disk.specs.declared.disk.Disk.{Ghosts}
use Rattle.facet_engine.specs.declared.ending.Trace.{Trace}
use Rattle.facet_names.specs.Labels.{IsLabelList}
use Rattle.facet_output.specs.Answered.{Answered, in_writing_order, is_of}
use Rattle.facet_output.specs.Output.{Opened}
use Rattle.facet_output.specs.OutputLines.{last_line}
use Rattle.facet_output.specs.Outputs.{sessions_in}
use Rattle.facet_output.specs.Seen.{history_of, labels_of}
use Rattle.facet_words.specs.Commands.{Settings, Order}
use Rattle.store_opening.specs.Files.{Found}
use Rattle.facet_output.proofs.Exact.{key_of}
use Rattle.facet_serving.proofs.Alike.{alike, same_lines, whole}
use Rattle.facet_serving.proofs.Lone.{Goes, goes_first, state_of}
use Rattle.facet_serving.specs.Alike.{EqualFilesOpenTheSame, EqualStoresReplyAlike, EqualStoresWriteTheSame}
use Rattle.facet_serving.specs.Sessions.{Ran}

-- the session of the orders of a beginning
first_of_session : (session : ℕ) (xs ys : List Answered) → IsPrefix (map key_of xs) (map key_of ys) → list_all (is_of session) ys ≡ true → list_all (is_of session) xs ≡ true
first_of_session session xs ys begins one =
    let own : ℕ × Order → Bool = λ k. eqb k.1.session session in
    let all : list_all own (map key_of xs ++ begins.0) ≡ true = ap (list_all own) begins.1 ∙ list_all-map own key_of ys ∙ one in
    sym (list_all-map own key_of xs) ∙ (and_parts (list_all own (map key_of xs)) (list_all own begins.0) (sym (list_all-append own (map key_of xs) begins.0) ∙ all)).0

-- an opened list of labels has the root
rooted : (labels : List (List (List ℕ))) → IsLabelList labels → 0 < length labels
rooted labels is = ltb-true 0 (length labels) (and_parts _ _ is).0

module _ {D : Type 0} (ghosts : Ghosts D) where
  pub files_open_the_same : EqualFilesOpenTheSame ghosts
  files_open_the_same settings phases more trace other one two one_after two_after t u f g first second tells tells' is is' labels documents =
      let a = first.opens.stored t tells in
      let b = second.opens.stored u tells' in
      let same : a.0 ≡ f = (let e : Ok a.0 ≡ Ok f = sym a.1 ∙ is in cc e) in
      let same' : b.0 ≡ g = (let e : Ok b.0 ≡ Ok g = sym b.1 ∙ is' in cc e) in
      let l : first.opened.labels ≡ second.opened.labels = a.2 ∙ ap (λ (x : Found). x.labels) same ∙ labels ∙ sym (b.2 ∙ ap (λ (x : Found). x.labels) same') in
      let d : first.opened.docs ≡ second.opened.docs = a.3 ∙ ap docs_found same ∙ documents ∙ sym (b.3 ∙ ap docs_found same') in
      λ i. record { labels = l i; docs = d i }

  -- a run of one session goes from what was opened
  goes : (settings : Settings) (phases : List (List Order)) (trace : Trace) (old new : D) (session : ℕ) (ran : Ran ghosts settings phases trace old new) → list_all (is_of session) ran.answered ≡ true
      → Goes settings (labels_of ran.last) (history_of ran.last) (state_of ran.opened) ran.answered
  goes settings phases trace old new session ran one =
      let a = ran.alone session one in
      goes_first settings phases ran.opened (labels_of ran.last) (history_of ran.last) ran.last.pairs ran.answered ran.right session (rooted ran.opened.labels ran.opens.list) one a.exact a.labels

  pub stores_reply_alike : EqualStoresReplyAlike ghosts
  stores_reply_alike settings phases more trace other one two one_after two_after session first second same begins own =
      let keys : IsPrefix (map key_of first.answered) (map key_of second.answered) =
      subst (λ (l : List (ℕ × Order)). IsPrefix l (map key_of second.answered)) (sym first.right.asked) (subst (λ (l : List (ℕ × Order)). IsPrefix (in_writing_order phases) l) (sym second.right.asked) begins) in
      alike settings (labels_of first.last) (labels_of second.last) (history_of first.last) (history_of second.last) first.right.label_list second.right.label_list (state_of second.opened) first.answered second.answered keys
      (subst (λ (o : Opened). Goes settings (labels_of first.last) (history_of first.last) (state_of o) first.answered) same
      (goes settings phases trace one one_after session first (first_of_session session first.answered second.answered keys own)))
      (goes settings more other two two_after session second own)

  pub stores_write_the_same : EqualStoresWriteTheSame ghosts
  stores_write_the_same settings phases trace other one two one_after two_after session first second same own plain plain' =
      let keys : map key_of first.answered ≡ map key_of second.answered = first.right.asked ∙ sym second.right.asked in
      let begins : IsPrefix (map key_of first.answered) (map key_of second.answered) = ([], append-nil (map key_of first.answered) ∙ keys) in
      let all = whole settings (labels_of first.last) (labels_of second.last) (history_of first.last) (history_of second.last) first.right.label_list second.right.label_list (state_of second.opened) first.answered second.answered keys plain plain'
      (subst (λ (o : Opened). Goes settings (labels_of first.last) (history_of first.last) (state_of o) first.answered) same
      (goes settings phases trace one one_after session first (first_of_session session first.answered second.answered begins own)))
      (goes settings phases other two two_after session second own) in
      let lines = same_lines first.answered second.answered keys all.0 in (
        (λ i. lines i ++ last_line (same i) (all.1 i) (all.2 i)),
        first.traced.labels ∙ all.1 ∙ sym second.traced.labels,
        first.traced.sessions ∙ ap sessions_in all.2 ∙ sym second.traced.sessions,
      )
