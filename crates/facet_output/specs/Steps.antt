-- One command of a session: what it saw before and after, and what it entered.
use Rattle.std.specs.Prelude.{◌≡◌, ◌≤◌, ◌<◌, ◌+◌, ◌++◌, ℕ, Bool, true, false, List, [], ◌∷◌, length, take, IsTrue}
use Rattle.std.specs.Prelude.{Option, Some, None, IfSome}
use Rattle.facet_model.specs.Histories.{Change, Operation}
use Rattle.facet_words.specs.Commands.{Settings, Command}
use Rattle.facet_replies.specs.Replies.{Reply}
use Rattle.facet_output.specs.Answered.{Answered}
use Rattle.facet_output.specs.Effects.{Effect, persists, effect, Report, says_number, says_refused, for_disk}
use Rattle.facet_output.specs.Effects.{for_closed, for_numbers, report}
use Rattle.facet_output.specs.Held.{Held}
use Rattle.facet_output.specs.Replying.{RightReply}
use Rattle.facet_output.specs.Reported.{brought, added_paths, placed_operation, refreshed, sees_no_pair, stood}
use Rattle.facet_output.specs.Seen.{CommitPoint, Entries, Seen, Sees, labels_of, history_of, failures, EntersNone}
use Rattle.facet_output.specs.Seen.{EntersBehind, EachNew}
use Rattle.facet_names.specs.Labels.{skips_none}

pub record Step : Type 0 where
  pub answered : Answered
  pub before : Seen
  pub after : Seen

-- ---- what is entered

-- the operation that was placed, at its place, and no other
abbrev pub EntersOperation : ℕ → Option (ℕ × Operation) → Entries Change → Entries Change → Type 0
EntersOperation n None old new = EntersNone n old new
EntersOperation n (Some placed) old new =
    (between : Entries Change) × EntersBehind n placed.1.change old between new × (placed.0 ≡ length between)

-- the pair with the number of operations of a refresh and so many labels, at least and at most, and no other
abbrev pub EntersPair : ℕ → ℕ → ℕ → Option ℕ → Entries (ℕ × ℕ) → Entries (ℕ × ℕ) → Type 0
EntersPair n least most None old new = EntersNone n old new
EntersPair n least most (Some operations) old new = (between : Entries (ℕ × ℕ)) × (labels : ℕ)
    × EntersBehind n (operations, labels) old between new × (least ≤ labels) × (labels ≤ most)

-- a point with this result, after points without a failure
abbrev pub EntersPoint : ℕ → Option ℕ → Entries CommitPoint → Entries CommitPoint → Type 0
EntersPoint n failed old new = (between : Entries CommitPoint) × (point : CommitPoint)
    × EntersBehind n point old between new × (failures between ≡ []) × (point.failed ≡ failed)

-- What a commit enters, by what it reports: a point if it made so many operations and at least so many labels durable,
-- or failed on the disk. If it reports an earlier failure, that is the only one.
abbrev pub EntersSaid : ℕ → ℕ → Report → Entries CommitPoint → Entries CommitPoint → Type 0
EntersSaid n least (says_number k) old new =
    (enters : EntersPoint n None old new) × (enters.1.operations ≡ k) × (least ≤ enters.1.labels)
EntersSaid n least (says_refused (for_disk count)) old new = EntersPoint n (Some count) old new
EntersSaid n least (says_refused (for_closed count)) old new = EntersNone n old new × (failures new ≡ count ∷ [])
EntersSaid n least (says_refused for_numbers) old new = EntersNone n old new × (failures new ≡ [])
EntersSaid n least _ old new = EntersNone n old new

abbrev pub EntersCommit : ℕ → ℕ → Reply → Entries CommitPoint → Entries CommitPoint → Type 0
EntersCommit n least reply old new = EntersSaid n least (report reply) old new

-- no other command enters a point
abbrev pub EntersBy : ℕ → ℕ → Effect → Report → Entries CommitPoint → Entries CommitPoint → Type 0
EntersBy n least persists said old new = EntersSaid n least said old new
EntersBy n least _ said old new = EntersNone n old new

abbrev pub EntersPoints : ℕ → ℕ → Command → Reply → Entries CommitPoint → Entries CommitPoint → Type 0
EntersPoints n least command reply old new = EntersBy n least (effect command) (report reply) old new

-- A label that is entered, at its place after the root: a document that the config accepts brings it, it is below the
-- limit, and none before it was skipped.
abbrev pub IsEnteredBy : Settings → Effect → List (List (List ℕ)) → ℕ → List (List ℕ) → Type 0
IsEnteredBy settings e labels i path = IsTrue (brought settings.config path e) × (i + 1 < settings.max_labels)
    × IsTrue (skips_none (take (i + 1) labels) (added_paths e) path)

abbrev pub IsEntered : Settings → Command → List (List (List ℕ)) → ℕ → List (List ℕ) → Type 0
IsEntered settings command labels i path = IsEnteredBy settings (effect command) labels i path

-- ---- the pair that is taken

-- the last one published, all of whose operations and labels were then seen
pub record IsLastPair (seen : Seen) (pair : ℕ × ℕ) : Type 0 where
  pub last : (front : Entries (ℕ × ℕ)) × (n : ℕ) × (seen.pairs ≡ front ++ (n, pair) ∷ [])
  pub operations : pair.0 ≤ length seen.operations
  pub labels : pair.1 ≤ length (labels_of seen)

-- a command that took or published a pair has it as the last one that was then seen
abbrev pub IsPlace : Bool → Option ℕ → ℕ → Type 0
IsPlace true place seen = place ≡ None
IsPlace false place seen = (k : ℕ) × (place ≡ Some k) × (seen ≡ k + 1)

-- ---- the step

-- A command of a session that held these pairs. Its reply is right for what was then seen.
pub record IsStep (settings : Settings) (held : Held) (x : Step) : Type 0 where
  pub sees : Sees x.before x.after
  pub right : RightReply settings (labels_of x.after) (history_of x.after) held x.answered
  pub labels : EachNew x.answered.order.session
      (IsEntered settings x.answered.order.command (labels_of x.after)) x.before.labels x.after.labels
  pub operations : EntersOperation x.answered.order.session
      (placed_operation x.answered) x.before.operations x.after.operations
  pub pairs : EntersPair x.answered.order.session (length (labels_of x.before)) (length (labels_of x.after))
      (refreshed x.answered) x.before.pairs x.after.pairs
  pub commits : EntersPoints x.answered.order.session
      (length (labels_of x.before)) x.answered.order.command x.answered.reply x.before.commits x.after.commits
  -- a change, a refresh and a commit come after all that was seen before
  pub fresh : IfSome (stood x.answered) (λ n. length x.before.operations ≤ n)
  -- a command that takes a pair takes the last one, and publishes none
  pub took : IfSome x.answered.took (λ pair. IsLastPair x.after pair × (refreshed x.answered ≡ None))
  pub place : IsPlace (sees_no_pair x.answered) x.answered.place (length x.after.pairs)
