use Rattle.std.proofs.Common.{◌≡◌, ◌∙◌, ◌∷◌, [], map, ap, arith}
use Rattle.std.proofs.lemmas.Result.{IfOk-weaker}
use Rattle.std.specs.Arc.{arc_value}
use Rattle.std.proofs.lemmas.List.{length-map}
use Rattle.chronicle.specs.Frame.{Frame}
use Rattle.chronicle.specs.History.{entries}
use Rattle.pair_manager.proofs.Sharing.{shared_of, taken_from, if_both}
use Rattle.pair_manager.proofs.manager.Manager.share_segments.Goals as goal

pub give-requires-clause-value : goal.give-requires-clause-value
give-requires-clause-value g c =
    let t = c.take-index in
    let s = c.share-range in
    (s.ensures.stands (entries t.new.token.seen) t.ensures.value.0, s.ensures.frame ∙ t.ensures.value.1)

pub returns-clause-shared : goal.returns-clause-shared
returns-clause-shared g c =
    let t = c.take-index in
    let s = c.share-range in
    let index = s.new.index in
    let framed = s.ensures.frame ∙ t.ensures.value.1 in
    let ids : index.labels.identity ∷ [] ≡ c.args.self.now.writer.labels ∷ [] = ap (λ (f : Frame). f.identities) (framed ∙ t.ensures.turn.0.4) ∙ c.requires.tied in
    let own : index.labels.identity ≡ c.args.self.now.writer.labels = cc in
    IfOk-weaker s.result _ _ (λ r is.
    shared_of c.args.self.now.writer.labels r.labels r.before index t.new.token c.give.new.token (map arc_value r.segments.items) (s.ensures.stands (entries t.new.token.seen) t.ensures.value.0) framed
    c.give.ensures.seen.0 c.give.ensures.idle.0.4 own is.note is.list is.decoded is.after) s.ensures.range

pub returns-clause-some : goal.returns-clause-some
returns-clause-some g c = IfOk-weaker c.share-range.result _ _ (λ r is some. is.some (omega (arith, some, length-map r.segments.items arc_value))) c.share-range.ensures.range

pub returns-clause-from : goal.returns-clause-from
returns-clause-from g c =
    let t = c.take-index in
    let s = c.share-range in
    if_both s.result _ _ _ (λ r flushed is.
    taken_from c.args.scope t.result s.new.index t.new.token c.give.new.token r.labels r.before (map arc_value r.segments.items) (s.ensures.stands (entries t.new.token.seen) t.ensures.value.0) flushed c.give.ensures.seen.0 is)
    s.ensures.flushed s.ensures.range
