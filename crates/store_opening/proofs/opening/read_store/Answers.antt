use Rattle.std.proofs.Common.{◌∙◌, List, Contains, map, sym, subst}
use Rattle.std.specs.Arc.{arc_value}
use Rattle.std.proofs.lemmas.Result.{err_from_is_err_and}
use Rattle.facet_disk.specs.declared.name.FileName.{FileName}
use Rattle.store_opening.specs.Newest.{AreListed}
use Rattle.store_opening.proofs.Documents.{decodes_from, few_from}
use Rattle.store_opening.proofs.Whole.{files_spent, files_taxonomy, files_index, files_read}
use Rattle.store_opening.proofs.opening.read_store.Goals as goal

pub returns-in_err-next-clause-err : goal.returns-in_err-next-clause-err
returns-in_err-next-clause-err g c =
    let p = err_from_is_err_and c.from_residual-in_err-next.result c.from_residual-in_err-next.ensures.1 in
    rw (p.1, p.2) (λ memory device s told.
    let listed = subst (AreListed s.files) (sym c.as_slice.ensures) (c.in_ok-listed.ensures.ok s told) in
    files_spent c.args.config.now s.files c.in_err-next.field-0.0 (c.in_err-next.ensures.err s.files listed))

pub returns-in_err-taxonomy-clause-err : goal.returns-in_err-taxonomy-clause-err
returns-in_err-taxonomy-clause-err g c =
    let p = err_from_is_err_and c.from_residual-in_err-taxonomy.result c.from_residual-in_err-taxonomy.ensures.1 in
    rw (p.1, p.2) (λ memory device s told.
    let names = c.in_ok-listed.ensures.ok s told in
    let first = subst (AreListed s.files) (sym c.as_slice.ensures) names in
    files_taxonomy c.args.config.now s.files (c.in_ok-next.ensures.ok s.files first) c.in_err-taxonomy.field-0.0
    (c.in_err-taxonomy.ensures.err memory device s (c.in_ok-listed.ensures.read.quiet.same ∙ told) names))

pub returns-in_err-index-clause-err : goal.returns-in_err-index-clause-err
returns-in_err-index-clause-err g c =
    let p = err_from_is_err_and c.from_residual-in_err-index.result c.from_residual-in_err-index.ensures.1 in
    rw (p.1, p.2) (λ memory device s told.
    let names = c.in_ok-listed.ensures.ok s told in
    let first = subst (AreListed s.files) (sym c.as_slice.ensures) names in
    let listed = c.in_ok-listed.ensures.read.quiet.same ∙ told in
    files_index c.args.config.now s.files (c.in_ok-next.ensures.ok s.files first) c.in_ok-taxonomy.taxonomy.labels (c.in_ok-taxonomy.ensures.ok s listed names) c.in_err-index.field-0.0
    (c.in_err-index.ensures.err memory device s (c.in_ok-taxonomy.ensures.read.quiet.same ∙ listed) names))

pub returns-clause-ok : goal.returns-clause-ok
returns-clause-ok g c = λ s told.
    let names = c.in_ok-listed.ensures.ok s told in
    let first = subst (AreListed s.files) (sym c.as_slice.ensures) names in
    let listed = c.in_ok-listed.ensures.read.quiet.same ∙ told in
    files_read c.args.config.now s.files (c.in_ok-next.ensures.ok s.files first) c.in_ok-taxonomy.taxonomy.labels (c.in_ok-taxonomy.ensures.ok s listed names) (map arc_value c.in_ok-index.index.segments.items)
    (c.in_ok-index.ensures.ok s (c.in_ok-taxonomy.ensures.read.quiet.same ∙ listed) names)

pub returns-clause-decodes : goal.returns-clause-decodes
returns-clause-decodes g c = decodes_from c.args.config.now c.in_ok-taxonomy.taxonomy.labels c.in_ok-index.index.parts.items (map arc_value c.in_ok-index.index.segments.items) c.in_ok-index.ensures.named

pub returns-clause-few : goal.returns-clause-few
returns-clause-few g c = few_from c.args.config.now c.in_ok-taxonomy.taxonomy.labels c.in_ok-index.index.parts.items (map arc_value c.in_ok-index.index.segments.items) c.in_ok-index.ensures.named c.in_ok-index.ensures.few

pub returns-clause-below : goal.returns-clause-below
returns-clause-below g c = λ n has. c.in_ok-next.ensures.below n (subst (λ (names : List FileName). Contains names n) (c.into_vec.ensures ∙ sym c.as_slice.ensures) has)
