-- A session that runs alone and names no held pair: its replies are those that `facet_words` defines on a shelf, and
-- its lines are theirs.
use Rattle.std.specs.Prelude.{◌≡◌, ℕ, List, length, map, IsTrue}
use Rattle.std.specs.List.{list_all}
use Rattle.facet_model.specs.Histories.{docs}
use Rattle.facet_words.specs.Answers.{Shelf, opened_shelf, names_no_pair, RightReplies, reply_lines as lines_of}
use Rattle.facet_words.specs.Commands.{Settings, Order}
use Rattle.facet_output.specs.Answered.{Answered}
use Rattle.facet_output.specs.Output.{Opened}
use Rattle.facet_output.specs.OutputLines.{reply_lines}
use Rattle.facet_replies.specs.Replies.{Reply}
use Rattle.facet_output.specs.Seen.{Seen, labels_of, history_of}
use Rattle.facet_output.specs.Sessions.{AllRan, steps_of, is_by, answers_of}
use Rattle.facet_output.specs.Steps.{Step}

-- the commands that were answered, with their sessions and lines
abbrev pub orders_of : List Answered → List Order
orders_of answered = map (λ a. a.order) answered

-- none of them names a held pair
abbrev pub NamesNoPair : List Answered → Type 0
NamesNoPair answered = IsTrue (list_all (λ o. names_no_pair o.command) (orders_of answered))

-- The commands have these replies, from what was opened. The shelf at the end is the state at the end, and the lines
-- are these.
pub record Served (settings : Settings) (opened : Opened) (answered : List Answered) (last : Seen) : Type 0 where
  pub replies : List Reply
  pub shelf : Shelf
  pub right : RightReplies settings (opened_shelf opened.labels opened.docs) (orders_of answered) replies shelf
  pub labels : shelf.labels ≡ labels_of last
  pub docs : shelf.docs ≡ docs (history_of last)
  pub operations : shelf.operations ≡ length (history_of last)
  pub lines : reply_lines answered ≡ lines_of (orders_of answered) replies

-- if one session ran alone and named no held pair, it was served so
abbrev pub OneSessionIsServed : Type 0
OneSessionIsServed = (settings : Settings) (phases : List (List Order)) (opened : Opened) (ran : List (List Step))
    (last : Seen) (session : ℕ)
    → AllRan settings phases opened ran last → IsTrue (list_all (is_by session) (steps_of ran))
    → NamesNoPair (answers_of ran)
    → Served settings opened (answers_of ran) last
