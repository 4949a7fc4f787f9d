use Rattle.std.proofs.Common.{rules, ◌≡◌, ◌<◌, ◌∷◌, [], ◌++◌, ◌+◌, subst, sym, ap, ◌∙◌, length, take}
use Rattle.std.specs.Prelude.{flat_map}
use Rattle.std.proofs.lemmas.List.{take_more}
use Rattle.std.specs.List.{AllByRecursion}
use Rattle.facet_names.specs.Faults.{IsPath}
use Rattle.facet_names.specs.Labels.{prefixes}
use Rattle.seg_terms.specs.Noting.{AreNoted, path_terms}
use Rattle.seg_terms.proofs.Noted.{noted_more}
use Rattle.seg_terms.proofs.Pieces.{one_more_label}
use Rattle.seg_terms.proofs.collector.TermCollector.note_labels.Goals as goal
use Rattle.facet_model.proofs.Each.{each_append}

pub loop-label-preserved : goal.loop-label-preserved
loop-label-preserved c =
    let labels = c.args.labels.now in
    let i = c.loop-label.label-index in
    let label = c.label-item.result in
    let within : i < length labels = search rules in
    let longer : take (i + 1) labels ≡ take i labels ++ label ∷ [] = take_more labels i label within ∙ ap (λ l. take i labels ++ l ∷ []) (sym c.label-item.is) in
    record {
      noted = subst (λ ts. AreNoted c.args.place ts c.args.self.now.table c.note_label.new.self.table) (sym (ap (λ ls. path_terms (flat_map prefixes ls)) longer ∙ one_more_label (take i labels) label)) (noted_more c.args.place (path_terms (flat_map prefixes (take i labels))) (path_terms (prefixes label)) c.args.self.now.table c.loop-label.self.table c.note_label.new.self.table c.loop-label.invariant.noted c.in_ok-note_label.ensures.noted);
      fit = subst (AllByRecursion IsPath) (sym longer) (each_append IsPath (take i labels) (label ∷ []) c.loop-label.invariant.fit (c.in_ok-note_label.ensures.fits, tt));
    }
