-- What commits leave in the history of commits.
use Rattle.std.specs.Prelude.{◌≡◌, ◌+◌, ℕ, not, Bool, List, length, take, drop, map, filter, filter_map, count_by}
use Rattle.std.specs.Prelude.{IsTrue, Option, Some, None, is_none, Result, Ok, Err}
use Rattle.std.specs.List.{AllZip}
use Rattle.facet_words.specs.Commands.{Settings, Command, Order}
use Rattle.facet_replies.specs.Replies.{Reply}
use Rattle.facet_output.specs.Answered.{Answered, of_session}
use Rattle.facet_output.specs.Effects.{effect, Report, says_refused, for_disk, says_number, report}
use Rattle.facet_output.specs.Output.{Opened, has_shown}
use Rattle.facet_output.specs.Reported.{of_commit}
use Rattle.facet_output.specs.Seen.{CommitPoint, Entries, Seen, entered_by, labels_of, opened_seen}
use Rattle.facet_output.specs.Sessions.{AllRan, answers_of}
use Rattle.facet_output.specs.Steps.{Step}

-- the result of a commit: the number of operations that it made durable, or the disk's count of faults when it failed
abbrev pub outcome_in : Report → Option (Result ℕ ℕ)
outcome_in (says_number n) = Some (Ok n)
outcome_in (says_refused (for_disk count)) = Some (Err count)
outcome_in _ = None

abbrev pub outcome_by : Command → Reply → Option (Result ℕ ℕ)
outcome_by command reply = of_commit outcome_in (effect command) (report reply)

-- none if the command is no commit, or one that was neither acknowledged nor failed on the disk
abbrev pub outcome : Answered → Option (Result ℕ ℕ)
outcome a = outcome_by a.order.command a.reply

-- the points of a session, after the opened one
abbrev pub commits_of : ℕ → Entries CommitPoint → List CommitPoint
commits_of session commits = map (λ e. e.1) (entered_by session (drop 1 commits))

-- the result of a point's commit: the number of operations, or the count if it failed
abbrev pub outcome_at : ℕ → Option ℕ → Result ℕ ℕ
outcome_at operations None = Ok operations
outcome_at operations (Some count) = Err count

abbrev pub outcome_of : CommitPoint → Result ℕ ℕ
outcome_of point = outcome_at point.operations point.failed

-- it is a commit that was acknowledged or failed on the disk
abbrev pub has_outcome : Answered → Bool
has_outcome a = not (is_none (outcome a))

-- those of a session
abbrev pub committed : ℕ → List Answered → List Answered
committed session answered = filter has_outcome (of_session session answered)

-- the point of a commit that did not fail has all labels that its session had been shown
abbrev pub HasItsLabels : Seen → List Answered → Answered → CommitPoint → Type 0
HasItsLabels last answered a point =
    point.failed ≡ None → IsTrue (has_shown (labels_of last) last.pairs answered a point.labels)

-- The commands have these replies, and this is the state at the end.
pub record HasPoints (opened : Opened) (last : Seen) (answered : List Answered) : Type 0 where
  -- the first point is the opened one
  pub first : take 1 last.commits ≡ (opened_seen opened).commits
  -- after it, the points of each session are those of its commits that were acknowledged or failed on the disk, in
  -- order, each with the result in its reply
  pub exact : (session : ℕ) → map outcome_of (commits_of session last.commits)
      ≡ filter_map outcome (of_session session answered)
  -- the point of each that was acknowledged has all labels that its session had been shown
  pub labels : (session : ℕ) → AllZip (HasItsLabels last answered) (committed session answered)
      (commits_of session last.commits)
  -- there are exactly as many points as such commits, in addition to the opened one
  pub many : length last.commits ≡ 1 + count_by has_outcome answered

abbrev pub CommitsHavePoints : Type 0
CommitsHavePoints = (settings : Settings) (phases : List (List Order)) (opened : Opened) (ran : List (List Step))
    (last : Seen) → AllRan settings phases opened ran last
    → HasPoints opened last (answers_of ran)
