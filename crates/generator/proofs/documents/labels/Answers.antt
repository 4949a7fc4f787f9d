use Rattle.std.proofs.Common.{◌∙◌}
use Rattle.std.proofs.lemmas.Result.{IfOk-weaker}
use Rattle.generator.proofs.Ranges.{copied_labels}
use Rattle.generator.proofs.documents.labels.Goals as goal

pub returns : goal.returns
returns c =
    let made = copied_labels (λ l. l.items) c.args.first.now c.index-first-at.result c.args.number c.requires c.index-first-at.is in
    IfOk-weaker c.dup_paths.result _ _ (λ v h. h ∙ c.deref.ensures.value ∙ made) c.dup_paths.ensures
