use Rattle.std.proofs.Common.{◌≡◌, ◌≤◌, ◌<◌, ◌∷◌, [], List, length, map, ap, sym, subst, arith}
use Rattle.std.proofs.lemmas.Result.{IfOk-weaker}
use Rattle.std.specs.Arc.{arc_value}
use Rattle.facet_names.proofs.LabelLists.{Labels}
use Rattle.facet_model.specs.Documents.{Doc}
use Rattle.facet_model.specs.Flags.{Config}
use Rattle.facet_model.specs.Stored.{Records, Decodes}
use Rattle.seg_documents.specs.Decoding.{docs_in, records_in}
use Rattle.seg_documents.proofs.Decoded.{decoded}
use Rattle.taxo_cache.specs.Seen.{labels_of}
use Rattle.index_state.specs.Index.{Index, DecodeUnder, docs_under}
use Rattle.index_state.proofs.Placing.{few_records, some_records}
use Rattle.index_state.proofs.state.IndexState.merged.Goals as goal

pub merge_segments-requires-clause-some : goal.merge_segments-requires-clause-some
merge_segments-requires-clause-some c =
    let s = c.self.inside in
    let some : 0 < length (map arc_value s.segments.items) = omega (arith, c.requires, ap (λ (x : Index). length x.segments) c.self.view_is) in
    subst (λ arcs. 0 < length (records_in (map arc_value arcs))) (sym c.deref.ensures.value) (some_records (map arc_value s.segments.items) c.self.invariant.own some)

pub merge_segments-requires-clause-few : goal.merge_segments-requires-clause-few
merge_segments-requires-clause-few c =
    let s = c.self.inside in
    subst (λ arcs. length (records_in (map arc_value arcs)) ≤ 1000000) (sym c.deref.ensures.value)
    (few_records (arc_value s.config) s.labels (map arc_value s.segments.items) s.waiting.items s.sessions.items s.max_docs c.self.invariant)

pub merge_segments-requires-clause-decodes : goal.merge_segments-requires-clause-decodes
merge_segments-requires-clause-decodes c =
    let s = c.self.inside in
    let known = labels_of s.labels.seen in
    let all = map arc_value s.segments.items in
    (known, arc_value s.config, docs_in known all, subst (λ arcs. Decodes known (arc_value s.config) (map arc_value arcs) (docs_in known all)) (sym c.deref.ensures.value) c.self.invariant.decoded)

-- the merged segment decodes to the documents of the index's segments
here : (c : goal.After-merge_segments) (m : Records) → ((known : Labels) (config : Config) (ds : List Doc) → Decodes known config (map arc_value c.deref.result.now) ds → Decodes known config (m ∷ []) ds)
    → DecodeUnder c.args.self.now.labels c.args.self.now.config (m ∷ []) × (docs_under c.args.self.now.labels (m ∷ []) ≡ docs_under c.args.self.now.labels c.args.self.now.segments)
here c m keeps =
    let s = c.self.inside in
    let known = labels_of s.labels.seen in
    let config = arc_value s.config in
    let all = map arc_value s.segments.items in
    let same : Decodes known config (m ∷ []) (docs_in known all) = keeps known config (docs_in known all) (subst (λ arcs. Decodes known config (map arc_value arcs) (docs_in known all)) (sym c.deref.ensures.value) c.self.invariant.decoded) in
    let docs : docs_in known (m ∷ []) ≡ docs_in known all = decoded known config (m ∷ []) (docs_in known all) same in
    subst (λ (x : Index). DecodeUnder x.labels x.config (m ∷ []) × (docs_under x.labels (m ∷ []) ≡ docs_under x.labels x.segments)) c.self.view_is
    (subst (Decodes known config (m ∷ [])) (sym docs) same, docs)

pub returns-clause-decodes : goal.returns-clause-decodes
returns-clause-decodes c = IfOk-weaker c.merge_segments.result _ _ (λ m keeps. (here c (arc_value m) keeps).0) c.merge_segments.ensures.documents

pub returns-clause-same : goal.returns-clause-same
returns-clause-same c = IfOk-weaker c.merge_segments.result _ _ (λ m keeps. (here c (arc_value m) keeps).1) c.merge_segments.ensures.documents
