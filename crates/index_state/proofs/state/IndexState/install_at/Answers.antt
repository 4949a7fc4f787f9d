use Rattle.std.proofs.Common.{◌≡◌, ◌≤◌, ◌+◌, ◌∙◌, ◌∷◌, ◌<◌, [], ℕ, List, length, take, drop, refl, ap, sym, subst, arith}
use Rattle.std.specs.Arc.{arc_value}
use Rattle.std.proofs.lemmas.List.{length-map}
use Rattle.facet_model.specs.Stored.{Records, live_before}
use Rattle.seg_documents.specs.Decoding.{doc_in, docs_in, records_in}
use Rattle.taxo_cache.specs.Seen.{labels_of}
use Rattle.index_state.specs.Merging.{AreAt, HasNoPlace}
use Rattle.index_state.proofs.Placing.{one_live, some_records, some_count, range_docs}
use Rattle.index_state.proofs.state.IndexState.install_at.Goals.{In-Some}
use Rattle.index_state.proofs.state.IndexState.install_at.Goals as goal

pub find_range-place-requires : goal.find_range-place-requires
find_range-place-requires c =
    let e = c.segments.ensures in
    subst (λ (ss : List Records). length (records_in ss) ≤ 1000000) (sym e.segments) (omega (arith, e.few, length-map (records_in c.args.self.now.segments) (doc_in (labels_of c.args.self.now.labels.seen))))

-- how many documents the merged segment has
many_is : (c : In-Some) → c.live-many.result ≡ length (records_in (arc_value c.args.merged ∷ []))
many_is c = c.live-many.ensures ∙ ap (λ (s : Records). live_before s.dead (length s.records)) c.deref.ensures ∙ one_live (arc_value c.args.merged)

place_is : (c : In-Some) → AreAt c.args.before (length (records_in (arc_value c.args.merged ∷ []))) c.args.self.now.segments
    (take c.in-Some.first c.args.self.now.segments) (take c.in-Some.count (drop c.in-Some.first c.args.self.now.segments)) (drop (c.in-Some.first + c.in-Some.count) c.args.self.now.segments)
place_is c =
    let first = c.in-Some.first in
    let count = c.in-Some.count in
    subst (λ (n : ℕ). AreAt c.args.before n c.args.self.now.segments (take first c.args.self.now.segments) (take count (drop first c.args.self.now.segments)) (drop (first + count) c.args.self.now.segments)) (many_is c)
    (subst (λ (ss : List Records). AreAt c.args.before c.live-many.result ss (take first ss) (take count (drop first ss)) (drop (first + count) ss)) c.segments.ensures.segments c.in-Some.ensures.found)

pub install_merged-requires-clause-some : goal.install_merged-requires-clause-some
install_merged-requires-clause-some c =
    let p = place_is (goal.at.install_merged-requires-clause-some c).In-Some in
    let one : 0 < length (records_in (arc_value c.args.merged ∷ [])) = some_records (arc_value c.args.merged ∷ []) (c.requires.own, tt) (omega arith) in
    some_count (drop c.in-Some.first c.args.self.now.segments) c.in-Some.count (omega (arith, p.size, one))

pub install_merged-requires-clause-range : goal.install_merged-requires-clause-range
install_merged-requires-clause-range c = omega (arith, c.in-Some.ensures.within, ap length c.segments.ensures.segments, length-map c.segments.result.now arc_value)

pub install_merged-requires-clause-same : goal.install_merged-requires-clause-same
install_merged-requires-clause-same c =
    let old = c.args.self.now in
    let known = labels_of old.labels.seen in
    let m = arc_value c.args.merged ∷ [] in
    let first = c.in-Some.first in
    let count = c.in-Some.count in
    let size : length (records_in m) ≡ length (docs_in known m) = sym (length-map (records_in m) (doc_in known)) in
    range_docs known old.segments (take first old.segments) (take count (drop first old.segments)) (drop (first + count) old.segments) old.docs (docs_in known m) c.args.before
    (subst (λ (n : ℕ). AreAt c.args.before n old.segments (take first old.segments) (take count (drop first old.segments)) (drop (first + count) old.segments)) size (place_is (goal.at.install_merged-requires-clause-same c).In-Some)) c.segments.ensures.first c.requires.docs

pub returns-in-Some-clause-installed : goal.returns-in-Some-clause-installed
returns-in-Some-clause-installed c is =
    let ss = c.args.self.now.segments in
    let first = c.in-Some.first in
    let count = c.in-Some.count in
    (take first ss, take count (drop first ss), drop (first + count) ss, place_is (goal.at.returns-in-Some-clause-installed c).In-Some, c.install_merged.ensures.list)

pub returns-in-None-clause-none : goal.returns-in-None-clause-none
returns-in-None-clause-none c is =
    let many : c.live-many.result ≡ length (records_in (arc_value c.args.merged ∷ [])) = c.live-many.ensures ∙ ap (λ (s : Records). live_before s.dead (length s.records)) c.deref.ensures ∙ one_live (arc_value c.args.merged) in
    (refl, subst (λ (n : ℕ). HasNoPlace c.args.before n c.args.self.now.segments) many (subst (HasNoPlace c.args.before c.live-many.result) c.segments.ensures.segments (c.in-None.ensures.none refl)))
