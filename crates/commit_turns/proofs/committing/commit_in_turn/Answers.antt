use Rattle.std.proofs.Common.{◌≡◌, ℕ, ◌∙◌, List, ◌++◌, length, sym, ap, subst}
use mathlib.Core.List.{IsPrefix}
use Rattle.chronicle.specs.History.{entries}
use Rattle.chronicle.proofs.Entries.{entries-prefix}
use Rattle.commit_turns.specs.Points.{entered}
use Rattle.taxo_cache.specs.Seen.{labels_of}
use Rattle.commit_turns.specs.Surviving.{marks_of}
use Rattle.commit_turns.specs.Turns.{StandsWith}
use Rattle.facet_model.specs.Histories.{Operation}
use Rattle.commit_turns.proofs.Carried.{stands_more}
use Rattle.commit_turns.proofs.committing.commit_in_turn.Goals as goal
use Rattle.taxo_adding.proofs.Growing.{seen_goes_on}

pub returns-clause-stands : goal.returns-clause-stands
returns-clause-stands g c points marks st =
    let d = g.D.Disk in
    let n = g.N.Start in
    let v = c.args.state.now in
    let labels : IsPrefix v.labels.seen c.note.result.seen = subst (λ (xs : List (ℕ × List (List ℕ))). IsPrefix v.labels.seen xs) (sym c.note.ensures.note.2) c.in_ok-taken.ensures.goes_on.0 in
    let operations : IsPrefix v.operations.seen c.note-2.result.seen = subst (λ (xs : List (ℕ × Operation)). IsPrefix v.operations.seen xs) (sym c.note-2.ensures.note.2) c.in_ok-taken.ensures.goes_on.1 in
    let mid = stands_more d n.told n.settled n.quiet v.start.value v.begun.value.state v.committer v.last (labels_of v.labels.seen) (labels_of c.note.result.seen) (entries v.operations.seen) (entries c.note-2.result.seen) points marks (seen_goes_on _ _ labels) (entries-prefix _ _ operations) st in
    let size : length c.in_ok-taken.taken.view ≡ length (labels_of c.note.new.of.seen) = ap length (c.in_ok-taken.ensures.view ∙ ap (λ t. labels_of t.seen) (sym c.note.ensures.of)) in
    let new = c.commit_noted.new.self in
    subst (λ (n : ℕ). StandsWith new (points ++ entered v.last n c.commit_noted.result) (marks ++ marks_of new.committer.disk (entered v.last n c.commit_noted.result))) size (c.commit_noted.ensures.stands points marks mid)
