use Rattle.std.proofs.Common.{None, false, [], ◌∷◌, map, sym, ap, ◌∙◌}
use Rattle.std.proofs.lemmas.List.{take-map}
use Rattle.facet_model.specs.Core.{after_crash}
use Rattle.facet_core.specs.Views.{pair, operation_view}
use Rattle.facet_core.proofs.Roots.{root_taken}
use Rattle.facet_core.proofs.machine.Core.reopen.Goals as goal

pub returns-clause-ok : goal.returns-clause-ok
returns-clause-ok c =
    let old = c.self.inside in
    let kept = c.args.kept in
    let labels = ap (λ labels. [] ∷ labels) c.truncate.ensures.items ∙ root_taken kept.labels old.labels.items c.requires in
    let history = ap (map operation_view) c.truncate-2.ensures.items ∙ sym (take-map operation_view kept.index.operations old.history.items) in
    (λ i. record {
      labels = labels i;
      history = history i;
      published = map pair (c.in_ok-published.ensures i);
      acknowledged = map pair old.acknowledged.items;
      refresh = None;
      commit = None;
      tax_read = kept.labels;
      tax_may = c.in_ok-tax_may.ensures i;
      idx_read = pair kept.index;
      idx_may = map pair (c.in_ok-idx_may.ensures i);
      closed = false;
    })
    ∙ ap (λ s. after_crash s kept.labels (pair kept.index)) c.self.view_is
