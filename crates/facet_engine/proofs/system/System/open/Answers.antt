use Rattle.std.proofs.Common.{◌≡◌, ◌∙◌, ℕ, List, [], ◌∷◌, length, map, sym, ap, subst}
use Rattle.std.specs.Arc.{arc_value}
use Rattle.chronicle.specs.History.{numbered}
use Rattle.chronicle.specs.Shown.{Shown}
use Rattle.commit_turns.specs.Opening.{IsOpenedAs}
use Rattle.commit_turns.specs.Points.{made}
use Rattle.commit_turns.specs.Seen.{docs_of}
use Rattle.seg_documents.specs.Decoding.{docs_in, records_in}
use Rattle.taxo_cache.specs.Seen.{labels_of}
use Rattle.chronicle.specs.Shown.{mine}
use Rattle.std.specs.Prelude.{All}
use Rattle.facet_model.specs.Histories.{Operation}
use Rattle.pair_manager.specs.declared.point.CommitPoint.{CommitPoint}
use Rattle.facet_engine.proofs.Opened.{all_of, docs_many, docs_seen, many_seen, opened_is, opened_named}
use Rattle.facet_engine.proofs.system.System.open.Goals as goal

pub begin_commits-requires-clause-opened : goal.begin_commits-requires-clause-opened
begin_commits-requires-clause-opened g c κs within =
    let store = c.args.store in
    let segments = map arc_value store.segments.items in
    let ds = docs_in (labels_of store.first.seen) segments in
    subst (λ (t : Shown (List (List ℕ))). IsOpenedAs g.D.Disk store.start.value store.committer (labels_of t.seen) (docs_of c.in-Ok.opened.2.seen)) (sym c.open_manager.ensures.first)
    (record { segments = segments; opened = c.requires.ready.opened; documents = sym (docs_seen ds c.in-Ok.opened.2.seen c.in-Ok.ensures.operations.seen) })

pub returns-clause-seen : goal.returns-clause-seen
returns-clause-seen g c =
    let store = c.args.store in
    let segments = map arc_value store.segments.items in
    let labels = store.first.seen in
    let operations = c.in-Ok.opened.2.seen in
    let pairs = c.in-Ok.opened.3.seen in
    let commits = c.in_ok-commits.token.seen in
    let ds = docs_in (labels_of labels) segments in
    let all = c.in-Ok.ensures.operations.seen in
    let many : length (records_in (map arc_value c.deref.result.now)) ≡ length operations =
    ap (λ l. length (records_in (map arc_value l))) c.deref.ensures.value ∙ sym (docs_many (labels_of labels) segments) ∙ sym (many_seen ds operations all) in
    let size : length store.view ≡ length (labels_of labels) = ap length c.requires.ready.viewed in
    let point : commits ≡ numbered 0 (made (length operations) (length (labels_of labels)) ∷ []) =
    c.in_ok-commits.ensures.seen ∙ ap (λ (p : CommitPoint). numbered 0 (p ∷ [])) (c.opening_point-point.ensures ∙ (λ i. made (many i) (size i))) in
    let first = c.begin_commits.ensures.tokens.0 ∙ c.open_manager.ensures.first in
    (λ i. all_of (first i).seen (c.begin_commits.ensures.tokens.1 i).seen pairs commits) ∙ opened_is ds labels operations pairs commits c.requires.ready.first.seen all c.in-Ok.ensures.pairs.seen point

pub returns-clause-opened : goal.returns-clause-opened
returns-clause-opened g c =
    let store = c.args.store in
    let segments = map arc_value store.segments.items in
    let documents : length (records_in (map arc_value c.deref.result.now)) ≡ length (docs_in (labels_of store.first.seen) segments) =
    ap (λ l. length (records_in (map arc_value l))) c.deref.ensures.value ∙ sym (docs_many (labels_of store.first.seen) segments) in
    let size : length store.view ≡ length (labels_of store.first.seen) = ap length c.requires.ready.viewed in
    ap (λ (p : CommitPoint). (p.operations, p.labels)) c.opening_point-point.ensures ∙ (λ i. (documents i, size i))

pub returns-clause-named : goal.returns-clause-named
returns-clause-named g c =
    let store = c.args.store in
    let ds = docs_in (labels_of store.first.seen) (map arc_value store.segments.items) in
    subst (λ (t : Shown Operation). All (λ (e : ℕ × Operation). e.1.session ≡ 0) (mine t)) (sym c.begin_commits.ensures.tokens.1) (opened_named ds c.in-Ok.opened.2 c.in-Ok.ensures.operations.seen)
