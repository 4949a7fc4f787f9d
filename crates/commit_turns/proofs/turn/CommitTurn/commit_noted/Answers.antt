use Rattle.std.proofs.Common.{◌≡◌, ◌∙◌, List, [], ◌∷◌, ◌++◌, map, length, Err, sym, ap, subst}
use Rattle.std.specs.Arc.{arc_value}
use Rattle.chronicle.specs.History.{entries}
use Rattle.facet_model.specs.Documents.{Doc}
use Rattle.facet_model.specs.Histories.{docs}
use Rattle.facet_model.specs.Stored.{Decodes}
use Rattle.facet_names.proofs.LabelLists.{Labels}
use Rattle.seg_documents.specs.Decoding.{docs_in}
use Rattle.seg_documents.proofs.Decoded.{decoded}
use Rattle.commit_plan.specs.declared.fault.CommitFault.TheVariants.{Closed}
use Rattle.taxo_cache.specs.Seen.{labels_of}
use Rattle.commit_turns.specs.Points.{made, failed_after}
use Rattle.commit_turns.specs.Seen.{docs_of}
use Rattle.commit_turns.proofs.Prefixed.{entries_count}
use Rattle.commit_turns.proofs.Carried.{On, stands_made, stands_failed, stands_none, follows_made, none_unless}
use Rattle.commit_turns.proofs.Surviving.{marked}
use Rattle.commit_turns.proofs.turn.CommitTurn.commit_noted.Goals as goal

pub commit-requires-clause-decodes : goal.commit-requires-clause-decodes
commit-requires-clause-decodes g c κs within =
    let view = c.args.view.now in
    let config = c.args.self.now.committer.config in
    let segments = map arc_value c.args.segments.now in
    let all : docs_in view segments ≡ docs_of c.args.self.now.operations.seen = decoded view config segments (docs_of c.args.self.now.operations.seen) c.requires.decodes in
    subst (λ (ds : List Doc). Decodes view config segments ds) (sym all) c.requires.decodes

pub returns-in-Ok-clause-stands : goal.returns-in-Ok-clause-stands
returns-in-Ok-clause-stands g c points marks st =
    let d = g.D.Disk in
    let n = g.N.Start in
    let v = c.args.self.now in
    let view = c.args.view.now in
    let segments = map arc_value c.args.segments.now in
    let history = entries v.operations.seen in
    let new = c.commit.new.self in
    let e = c.in-Ok.ensures in
    let before : On d n.told n.settled n.quiet v.start.value v.begun.value.state v.committer v.last view history points marks =
    subst (λ (l : Labels). On d n.told n.settled n.quiet v.start.value v.begun.value.state v.committer v.last l history points marks) (sym c.requires.labels) st in
    let all : docs_in view segments ≡ docs history = decoded view v.committer.config segments (docs history) c.requires.decodes in
    let decodes = subst (λ (ds : List Doc). Decodes view v.committer.config segments ds) (sym all) c.requires.decodes in
    let followed = follows_made d n.told n.settled n.quiet v.start.value v.begun.value.state v.committer new v.last view history segments points marks e.open.0 e.config c.requires.list all before e.open.1 e.listed e.named e.fresh e.unfailed in
    let only_now = (g.met.D.Disk g.world.𝓛 g.world.𝓜 g.world.𝓡 ((λ s x. x), (λ x. x), (λ x. x), λ x. x)).only_now in
    let after = stands_made d n.told n.settled n.quiet v.start.value v.begun.value.state v.committer new v.last view history segments points marks e.open.0 e.config c.requires.list all before
    only_now e.open.1 decodes e.still e.takes.1 e.tells followed (e.any_moment e.open.0) e.acknowledged in
    let count : length history ≡ c.args.operations = entries_count v.operations.seen ∙ sym c.requires.operations in
    let many : length view ≡ c.size.result = sym c.size.ensures.size in
    subst (λ (T : Type 0). T) (λ i. On d n.told n.settled n.quiet v.start.value v.begun.value.state new (made (count i) (many i)) (c.requires.labels i) history (points ++ made (count i) (length view) ∷ []) (marks ++ marked new.disk (made (count i) (length view)))) after

pub returns-in-Err-Disk-clause-stands : goal.returns-in-Err-Disk-clause-stands
returns-in-Err-Disk-clause-stands g c points marks st =
    let d = g.D.Disk in
    let n = g.N.Start in
    let v = c.args.self.now in
    let view = c.args.view.now in
    let segments = map arc_value c.args.segments.now in
    let history = entries v.operations.seen in
    let new = c.commit.new.self in
    let e = c.in-Err-Disk.ensures in
    let before : On d n.told n.settled n.quiet v.start.value v.begun.value.state v.committer v.last view history points marks =
    subst (λ (l : Labels). On d n.told n.settled n.quiet v.start.value v.begun.value.state v.committer v.last l history points marks) (sym c.requires.labels) st in
    let all : docs_in view segments ≡ docs history = decoded view v.committer.config segments (docs history) c.requires.decodes in
    let none = none_unless v.committer.closed (λ k some. cc ((e.closed k).0 some, c.in-Err-Disk.field-0-is)) in
    let closes = e.disk c.in-Err-Disk.count c.in-Err-Disk.field-0-is in
    let only_now = (g.met.D.Disk g.world.𝓛 g.world.𝓜 g.world.𝓡 ((λ s x. x), (λ x. x), (λ x. x), λ x. x)).only_now in
    let after = stands_failed d n.told n.settled n.quiet v.start.value v.begun.value.state v.committer new v.last view history segments points marks none e.config c.requires.list all before
    only_now c.in-Err-Disk.count closes.2 closes.0 closes.1 e.later e.known e.tells (e.failed c.in-Err-Disk.count c.in-Err-Disk.field-0-is) (e.any_moment none) (e.now none) in
    subst (λ (T : Type 0). T) (λ i. On d n.told n.settled n.quiet v.start.value v.begun.value.state new (failed_after v.last c.in-Err-Disk.count) (c.requires.labels i) history (points ++ failed_after v.last c.in-Err-Disk.count ∷ []) (marks ++ marked new.disk (failed_after v.last c.in-Err-Disk.count))) after

pub returns-in-Err-Disk-clause-closed : goal.returns-in-Err-Disk-clause-closed
returns-in-Err-Disk-clause-closed g c count = ((λ some. absurd (cc ((c.in-Err-Disk.ensures.closed count).0 some, c.in-Err-Disk.field-0-is))), λ is. absurd (cc is))

pub returns-in-Err-Closed-clause-stands : goal.returns-in-Err-Closed-clause-stands
returns-in-Err-Closed-clause-stands g c points marks st =
    let d = g.D.Disk in
    let n = g.N.Start in
    let v = c.args.self.now in
    let unchanged = c.in-Err-Closed.ensures.refused (λ n is. cc (c.in-Err-Closed.field-0-is, is)) in
    subst (λ k. On d n.told n.settled n.quiet v.start.value v.begun.value.state k v.last (labels_of v.labels.seen) (entries v.operations.seen) (points ++ []) (marks ++ [])) (sym unchanged)
    (stands_none d n.told n.settled n.quiet v.start.value v.begun.value.state v.committer v.last (labels_of v.labels.seen) (entries v.operations.seen) points marks st)

pub returns-in-Err-Closed-clause-closed : goal.returns-in-Err-Closed-clause-closed
returns-in-Err-Closed-clause-closed g c count = (
  (λ some. let same : Closed c.in-Err-Closed.count ≡ Closed count = cc ((c.in-Err-Closed.ensures.closed count).0 some, c.in-Err-Closed.field-0-is) in ap Err same),
  λ is. let same : Closed c.in-Err-Closed.count ≡ Closed count = cc is in (c.in-Err-Closed.ensures.closed count).1 (ap Err (c.in-Err-Closed.field-0-is ∙ same)),
)

pub returns-in-Err-NoMemory-clause-stands : goal.returns-in-Err-NoMemory-clause-stands
returns-in-Err-NoMemory-clause-stands g c points marks st =
    let d = g.D.Disk in
    let n = g.N.Start in
    let v = c.args.self.now in
    let unchanged = c.in-Err-NoMemory.ensures.refused (λ n is. cc (c.in-Err-NoMemory.field-0-is, is)) in
    subst (λ k. On d n.told n.settled n.quiet v.start.value v.begun.value.state k v.last (labels_of v.labels.seen) (entries v.operations.seen) (points ++ []) (marks ++ [])) (sym unchanged)
    (stands_none d n.told n.settled n.quiet v.start.value v.begun.value.state v.committer v.last (labels_of v.labels.seen) (entries v.operations.seen) points marks st)

pub returns-in-Err-NoMemory-clause-closed : goal.returns-in-Err-NoMemory-clause-closed
returns-in-Err-NoMemory-clause-closed g c count = ((λ some. absurd (cc ((c.in-Err-NoMemory.ensures.closed count).0 some, c.in-Err-NoMemory.field-0-is))), λ is. absurd (cc is))

pub returns-in-Err-NumbersSpent-clause-stands : goal.returns-in-Err-NumbersSpent-clause-stands
returns-in-Err-NumbersSpent-clause-stands g c points marks st =
    let d = g.D.Disk in
    let n = g.N.Start in
    let v = c.args.self.now in
    let unchanged = c.in-Err-NumbersSpent.ensures.refused (λ n is. cc (c.in-Err-NumbersSpent.field-0-is, is)) in
    subst (λ k. On d n.told n.settled n.quiet v.start.value v.begun.value.state k v.last (labels_of v.labels.seen) (entries v.operations.seen) (points ++ []) (marks ++ [])) (sym unchanged)
    (stands_none d n.told n.settled n.quiet v.start.value v.begun.value.state v.committer v.last (labels_of v.labels.seen) (entries v.operations.seen) points marks st)

pub returns-in-Err-NumbersSpent-clause-closed : goal.returns-in-Err-NumbersSpent-clause-closed
returns-in-Err-NumbersSpent-clause-closed g c count = ((λ some. absurd (cc ((c.in-Err-NumbersSpent.ensures.closed count).0 some, c.in-Err-NumbersSpent.field-0-is))), λ is. absurd (cc is))
