-- What becomes of the changes of a run.
use Rattle.std.proofs.Common.{◌≡◌, ◌∙◌, ℕ, List, Some, slice_get, ap}
use Rattle.facet_disk.specs.declared.disk.Disk.{Ghosts}
use Rattle.facet_engine.specs.declared.ending.Trace.{Trace}
use Rattle.facet_model.specs.Documents.{Doc}
use Rattle.facet_model.specs.Histories as histories
use Rattle.facet_model.specs.Histories.{Operation}
use Rattle.facet_output.proofs.Among.{In}
use Rattle.facet_output.proofs.Answers.{get_map}
use Rattle.facet_output.specs.Answered.{Answered}
use Rattle.facet_output.specs.Seen.{history_of, labels_of}
use Rattle.facet_output.specs.Reported.{placed_by, placed_operation}
use Rattle.facet_replies.specs.Replies.{placed}
use Rattle.facet_words.specs.Commands.{Settings, Order, add}
use Rattle.facet_serving.proofs.Adds.{each_once, placed_or, stands_there}
use Rattle.facet_serving.specs.Added.{AddsArePlaced, EachAddStands, EachIsAddedOnce, IsPlacedWhereItFits, Stands}
use Rattle.facet_serving.specs.Sessions.{Ran}
use Rattle.facet_output.proofs.Gluing.{all_by}

-- the operation of an add that was placed
operation_is : (a : Answered) (doc : Doc) (place : ℕ) → a.order.command ≡ add doc → a.reply ≡ placed place → placed_operation a ≡ Some (place, record { session = a.order.session; change = histories.add doc })
operation_is a doc place is says = λ i. placed_by a.order.session (is i) (says i)

module _ {D : Type 0} (ghosts : Ghosts D) (settings : Settings) (phases : List (List Order)) (trace : Trace) (old new : D) (ran : Ran ghosts settings phases trace old new) where
  of_trace : (place : ℕ) (o : Operation) → slice_get (history_of ran.last) place ≡ Some o → slice_get trace.sessions.items place ≡ Some o.session
  of_trace place o at = ap (λ (l : List ℕ). slice_get l place) ran.traced.sessions ∙ get_map (λ (x : Operation). x.session) (history_of ran.last) place o at

  -- an add that was placed has its operation there
  add_stands : (a : Answered) → In a ran.answered → Stands ran.opened ran.last trace a
  add_stands a there doc place is says =
      let o : Operation = record { session = a.order.session; change = histories.add doc } in
      let r = stands_there settings phases ran.opened (labels_of ran.last) (history_of ran.last) ran.last.pairs ran.answered ran.right a (place, o) there (operation_is a doc place is says) in
      (r.0, r.1, of_trace place o r.1)

module _ {D : Type 0} (ghosts : Ghosts D) where
  pub each_is_added_once : EachIsAddedOnce ghosts
  each_is_added_once settings phases trace old new ran place o le at = (
    of_trace ghosts settings phases trace old new ran place o at,
    each_once settings phases ran.opened (labels_of ran.last) (history_of ran.last) ran.last.pairs ran.answered ran.right place o le at,
  )

  pub each_add_stands : EachAddStands ghosts
  each_add_stands settings phases trace old new ran = all_by (Stands ran.opened ran.last trace) ran.answered (add_stands ghosts settings phases trace old new ran)

  pub adds_are_placed : AddsArePlaced ghosts
  adds_are_placed settings phases trace old new ran = all_by (IsPlacedWhereItFits settings ran.last) ran.answered (λ a there doc is accepted fits.
      placed_or settings phases ran.opened (labels_of ran.last) (history_of ran.last) ran.last.pairs ran.answered ran.right a doc there is accepted fits)
