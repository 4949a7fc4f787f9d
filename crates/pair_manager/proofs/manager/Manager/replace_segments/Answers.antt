use Rattle.std.proofs.Common.{◌∙◌, ◌∷◌, []}
use Rattle.std.specs.Arc.{arc_value}
use Rattle.std.proofs.lemmas.Result.{IfOk-weaker}
use Rattle.chronicle.specs.History.{entries}
use Rattle.pair_manager.proofs.Sharing.{shared_on, index_decodes, index_after, replaced_in}
use Rattle.pair_manager.proofs.manager.Manager.replace_segments.Goals as goal

pub replace-done-requires-clause-decodes : goal.replace-done-requires-clause-decodes
replace-done-requires-clause-decodes g c =
    let t = c.take-index in
    let ids = c.args.self.now.writer.labels in
    index_decodes ids c.args.labels c.args.before t.result t.new.token (arc_value c.args.merged ∷ []) t.ensures.value.1
    (shared_on ids c.args.labels c.args.before c.args.token.now t.new.token (arc_value c.args.merged ∷ []) t.ensures.turn.0 t.ensures.more t.ensures.value.0.adds c.requires.shared)

pub replace-done-requires-clause-docs : goal.replace-done-requires-clause-docs
replace-done-requires-clause-docs g c =
    let t = c.take-index in
    let ids = c.args.self.now.writer.labels in
    index_after ids c.args.labels c.args.before t.result t.new.token (arc_value c.args.merged ∷ []) t.ensures.value.1
    (shared_on ids c.args.labels c.args.before c.args.token.now t.new.token (arc_value c.args.merged ∷ []) t.ensures.turn.0 t.ensures.more t.ensures.value.0.adds c.requires.shared) t.ensures.value.0

pub give-requires-clause-value : goal.give-requires-clause-value
give-requires-clause-value g c =
    let t = c.take-index in
    let r = c.replace-done in
    (r.ensures.stands (entries t.new.token.seen) t.ensures.value.0, r.ensures.frame ∙ t.ensures.value.1)

pub returns-clause-replaced : goal.returns-clause-replaced
returns-clause-replaced g c =
    let t = c.take-index in
    let r = c.replace-done in
    IfOk-weaker r.result _ _ (λ _ is. replaced_in c.args.scope c.args.before (arc_value c.args.merged) t.result r.new.index t.new.token c.give.new.token t.ensures.value.0 r.ensures.stands c.give.ensures.seen.0 is) r.ensures.replaced
