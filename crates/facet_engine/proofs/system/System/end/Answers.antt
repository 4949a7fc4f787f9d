use Rattle.std.proofs.Common.{◌≡◌, ◌∙◌, ◌≤◌, ℕ, List, Some, All, length, map, sym, ap, subst}
use mathlib.Core.List.{IsPrefix}
use Rattle.chronicle.specs.History.{entries}
use Rattle.chronicle.proofs.Entries.{entries-prefix}
use Rattle.chronicle.proofs.Prefixes.{prefix_trans}
use Rattle.facet_disk.specs.Calls.{Rose}
use Rattle.facet_model.specs.Histories.{Operation}
use Rattle.commit_turns.specs.Ending.{Lasts, FailsWith}
use Rattle.commit_turns.specs.Points.{count_after, last_of}
use Rattle.pair_manager.specs.declared.point.CommitPoint.{CommitPoint}
use Rattle.pair_manager.proofs.Publishing.{still_right}
use Rattle.taxo_cache.specs.Seen.{labels_of}
use Rattle.facet_engine.proofs.Ended.{ends_later, ends_now, ends_still, ended_named, ended_told, ended_up_to, sessions_are, are_published, lasts_more}
use Rattle.facet_engine.proofs.system.System.end.Goals as goal
use Rattle.taxo_adding.proofs.Growing.{seen_goes_on}

pub note_each-notes-requires-clause-right : goal.note_each-notes-requires-clause-right
note_each-notes-requires-clause-right g c κs within =
    let first = c.args.first in
    let e = c.end_commits-disk in
    still_right first.labels.seen c.end-list.new.token.seen first.operations.seen c.end-index.new.token.seen
    (prefix_trans first.labels.seen e.new.seen_labels.seen c.end-list.new.token.seen e.ensures.labels.1.0 c.end-list.ensures.more.0)
    (prefix_trans first.operations.seen e.new.seen_operations.seen c.end-index.new.token.seen e.ensures.operations.1.0 c.end-index.ensures.more.0)
    (entries first.pairs.seen) first.right

pub returns-clause-sessions : goal.returns-clause-sessions
returns-clause-sessions g c =
    c.into_sessions.ensures ∙ c.end-index.ensures.value.0.numbers ∙ sessions_are c.end-index.new.token.seen
    ∙ ap (map (λ (e : ℕ × Operation). e.1.session)) (sym c.note_each-notes.ensures.operations.1.2)

pub returns-clause-published : goal.returns-clause-published
returns-clause-published g c = are_published c.note_each-notes.result

pub returns-clause-told : goal.returns-clause-told
returns-clause-told g c =
    let first = c.args.first in
    let e = c.end_commits-disk in
    let n = c.note_each-notes in
    ended_told first c.requires.numbers n.result c.end-list.new.token c.end-index.new.token first.pairs e.new.token
    (ends_later first.labels e.new.seen_labels c.end-list.new.token n.result.labels e.ensures.labels c.end-list.ensures.ended c.end-list.ensures.more n.ensures.labels.1 n.ensures.labels.2)
    (ends_later first.operations e.new.seen_operations c.end-index.new.token n.result.operations e.ensures.operations c.end-index.ensures.ended c.end-index.ensures.more n.ensures.operations.1 n.ensures.operations.2)
    (ends_still first.pairs n.result.pairs n.ensures.pairs.1 n.ensures.pairs.2)
    (ends_now first.commits e.new.token n.result.commits e.ensures.commits.0 e.ensures.commits.1 n.ensures.commits.1 n.ensures.commits.2)

pub returns-clause-numbers : goal.returns-clause-numbers
returns-clause-numbers g c =
    let first = c.args.first in
    let e = c.end_commits-disk in
    let n = c.note_each-notes in
    ended_up_to first c.requires.numbers n.result c.end-list.new.token c.end-index.new.token first.pairs e.new.token
    (ends_later first.labels e.new.seen_labels c.end-list.new.token n.result.labels e.ensures.labels c.end-list.ensures.ended c.end-list.ensures.more n.ensures.labels.1 n.ensures.labels.2)
    (ends_later first.operations e.new.seen_operations c.end-index.new.token n.result.operations e.ensures.operations c.end-index.ensures.ended c.end-index.ensures.more n.ensures.operations.1 n.ensures.operations.2)
    (ends_still first.pairs n.result.pairs n.ensures.pairs.1 n.ensures.pairs.2)
    (ends_now first.commits e.new.token n.result.commits e.ensures.commits.0 e.ensures.commits.1 n.ensures.commits.1 n.ensures.commits.2)

pub returns-clause-named : goal.returns-clause-named
returns-clause-named g c =
    let first = c.args.first in
    let e = c.end_commits-disk in
    let n = c.note_each-notes in
    ended_named first c.requires.numbers n.result c.end-list.new.token c.end-index.new.token first.pairs e.new.token
    (ends_later first.labels e.new.seen_labels c.end-list.new.token n.result.labels e.ensures.labels c.end-list.ensures.ended c.end-list.ensures.more n.ensures.labels.1 n.ensures.labels.2)
    (ends_later first.operations e.new.seen_operations c.end-index.new.token n.result.operations e.ensures.operations c.end-index.ensures.ended c.end-index.ensures.more n.ensures.operations.1 n.ensures.operations.2)
    (ends_still first.pairs n.result.pairs n.ensures.pairs.1 n.ensures.pairs.2)
    (ends_now first.commits e.new.token n.result.commits e.ensures.commits.0 e.ensures.commits.1 n.ensures.commits.1 n.ensures.commits.2)

pub returns-clause-counts : goal.returns-clause-counts
returns-clause-counts g c =
    let faults = g.D.Disk.faults c.end_commits-disk.result in
    subst (λ (l : List (ℕ × CommitPoint)). All (λ (p : CommitPoint). (count : ℕ) → p.failed ≡ Some count → count ≤ faults) (entries l)) (sym c.note_each-notes.ensures.commits.1.2) c.end_commits-disk.ensures.counts

pub returns-clause-rose : goal.returns-clause-rose
returns-clause-rose g c next moment faults failures numbers =
    subst (λ (l : List (ℕ × CommitPoint)). All (λ (p : CommitPoint). (count : ℕ) → p.failed ≡ Some count → Rose faults count) (entries l)) (sym c.note_each-notes.ensures.commits.1.2) (c.end_commits-disk.ensures.rose next moment faults failures numbers)

pub returns-clause-failed : goal.returns-clause-failed
returns-clause-failed g c next moment faults failures told numbers =
    subst (λ (l : List (ℕ × CommitPoint)). FailsWith g.D.Disk failures (last_of (entries l)).failed c.end_commits-disk.result) (sym c.note_each-notes.ensures.commits.1.2) (c.end_commits-disk.ensures.failed next moment faults failures told numbers)

pub returns-clause-lasts : goal.returns-clause-lasts
returns-clause-lasts g c config next moment faults failures settled texts numbers =
    let e = c.end_commits-disk in
    let n = c.note_each-notes in
    let labels = n.result.labels.seen in
    let operations = n.result.operations.seen in
    let points = entries e.new.token.seen in
    let more_labels = subst (λ l. IsPrefix e.new.seen_labels.seen l) (sym n.ensures.labels.1.2) c.end-list.ensures.more.0 in
    let more_operations = subst (λ l. IsPrefix e.new.seen_operations.seen l) (sym n.ensures.operations.1.2) c.end-index.ensures.more.0 in
    subst (λ (l : List (ℕ × CommitPoint)). Lasts g.D.Disk config moment (labels_of labels) (entries operations) (entries l) e.result) (sym n.ensures.commits.1.2)
    (lasts_more config (labels_of e.new.seen_labels.seen) (labels_of labels) (entries e.new.seen_operations.seen) (entries operations) (seen_goes_on e.new.seen_labels.seen labels more_labels) (entries-prefix e.new.seen_operations.seen operations more_operations)
    g.D.Disk moment points e.result (e.ensures.lasts config next moment faults failures settled texts numbers))

pub returns-clause-quiet : goal.returns-clause-quiet
returns-clause-quiet g c few =
    c.end_commits-disk.ensures.quiet (subst (λ (l : List (ℕ × CommitPoint)). length (entries l) ≤ 1) c.note_each-notes.ensures.commits.1.2 few)

pub returns-clause-exact : goal.returns-clause-exact
returns-clause-exact g c next moment faults failures is =
    c.end_commits-disk.ensures.exact next moment faults failures is
    ∙ ap (λ (es : List (ℕ × CommitPoint)). count_after faults (last_of (entries es)).failed) (sym c.note_each-notes.ensures.commits.1.2)
