use Rattle.std.proofs.Common.{◌<◌, inl, inr, ◌∷◌, [], List, length, map, sym, subst, arith}
use Rattle.std.proofs.lemmas.List.{length-map}
use Rattle.std.proofs.lemmas.Result.{IfOk-weaker}
use Rattle.std.specs.Arc.{arc_value}
use Rattle.facet_names.proofs.LabelLists.{Labels}
use Rattle.facet_model.specs.Documents.{Doc}
use Rattle.facet_model.specs.Flags.{Config}
use Rattle.facet_model.specs.Stored.{Decodes}
use Rattle.seg_documents.specs.Decoding.{records_in}
use Rattle.taxo_cache.specs.Seen.{labels_of}
use Rattle.chronicle.proofs.Prefixes.{prefix_self}
use Rattle.seg_merge.specs.Merged.{IsMergeOf}
use Rattle.index_state.specs.Index.{docs_under}
use Rattle.pair_manager.proofs.Going.{same_on, sees_on}
use Rattle.pair_manager.proofs.Sharing.{shared_merged}
use Rattle.pair_manager.proofs.manager.Manager.merge_scope.Goals as goal

pub returns-clause-token : goal.returns-clause-token
returns-clause-token g c =
    let s = c.share_segments in
    let r = c.replace_segments in
    (same_on c.args.token.now s.new.token r.new.token s.ensures.token.0 r.ensures.token.0, r.ensures.token.1)

pub returns-clause-more : goal.returns-clause-more
returns-clause-more g c = sees_on c.args.token.now c.share_segments.new.token c.replace_segments.new.token c.share_segments.ensures.more c.replace_segments.ensures.more

pub merge_segments-requires-clause-some : goal.merge_segments-requires-clause-some
merge_segments-requires-clause-some g c =
    subst (λ arcs. 0 < length (records_in (map arc_value arcs))) (sym c.deref.ensures.value) (c.in_ok-segments.ensures.some (omega (arith, c.if-len-lt2.false, c.len.ensures, c.in_ok-segments.field-0.segments.ok.0)))

pub merge_segments-requires-clause-decodes : goal.merge_segments-requires-clause-decodes
merge_segments-requires-clause-decodes g c =
    let range = c.in_ok-segments.field-0 in
    let shared = c.in_ok-segments.ensures.shared in
    let known = labels_of range.labels.seen in
    let docs = docs_under range.labels (map arc_value range.segments.items) in
    (known, shared.config, docs, subst (λ arcs. Decodes known shared.config (map arc_value arcs) docs) (sym c.deref.ensures.value) shared.decoded)

pub replace_segments-requires-clause-shared : goal.replace_segments-requires-clause-shared
replace_segments-requires-clause-shared g c =
    let range = c.in_ok-segments.field-0 in
    let shared = c.in_ok-segments.ensures.shared in
    let keeps = subst (λ arcs. (known : Labels) (config : Config) (ds : List Doc) → Decodes known config (map arc_value arcs) ds → Decodes known config (arc_value c.in_ok-merged.merged ∷ []) ds) c.deref.ensures.value c.in_ok-merged.ensures.documents in
    shared_merged c.args.self.now.writer.labels range.labels range.before c.share_segments.new.token (map arc_value range.segments.items) (arc_value c.in_ok-merged.merged) keeps shared

pub returns-then-len-lt2-clause-merged : goal.returns-then-len-lt2-clause-merged
returns-then-len-lt2-clause-merged g c =
    let range = c.in_ok-segments.field-0 in
    let few : length (map arc_value range.segments.items) < 2 = omega (arith, c.if-len-lt2.true, c.len.ensures, range.segments.ok.0, length-map range.segments.items arc_value) in
    record {
      earlier = c.share_segments.new.token;
      sees_on = prefix_self c.share_segments.new.token.seen;
      note = range.labels;
      before = range.before;
      segments = map arc_value range.segments.items;
      from = c.in_ok-segments.ensures.from;
      done = inl few;
    }

pub returns-clause-merged : goal.returns-clause-merged
returns-clause-merged g c =
    let range = c.in_ok-segments.field-0 in
    let m = arc_value c.in_ok-merged.merged in
    let merge = subst (λ arcs. IsMergeOf (map arc_value arcs) m) c.deref.ensures.value c.in_ok-merged.ensures.merge in
    IfOk-weaker c.replace_segments.result _ _ (λ _ is. record {
      earlier = c.share_segments.new.token;
      sees_on = c.replace_segments.ensures.more.0;
      note = range.labels;
      before = range.before;
      segments = map arc_value range.segments.items;
      from = c.in_ok-segments.ensures.from;
      done = inr (m, merge, is);
    }) c.replace_segments.ensures.replaced
