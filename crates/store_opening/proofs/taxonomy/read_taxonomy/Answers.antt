use Rattle.std.proofs.Common.{◌∙◌, ap}
use Rattle.std.specs.Option.{option_map}
use Rattle.std.proofs.lemmas.Result.{err_from_is_err_and}
use Rattle.facet_disk.specs.declared.name.Dir.TheVariants.{Taxonomy}
use Rattle.commit_calls.specs.Held.{newest_file}
use Rattle.commit_file.specs.Commits.{taxonomy_listing}
use Rattle.store_opening.specs.Commits.{commit_bytes}
use Rattle.store_opening.specs.Files.{segments_in}
use Rattle.store_opening.proofs.Whole.{taxonomy_none, taxonomy_unread, taxonomy_read}
use Rattle.store_opening.proofs.taxonomy.read_taxonomy.Goals as goal

pub returns-in_default-clause-ok : goal.returns-in_default-clause-ok
returns-in_default-clause-ok g c = λ s told listed.
    rw c.in_ok-new.ensures (taxonomy_none (segments_in Taxonomy s.files) (newest_file Taxonomy s.files) (c.in_ok-found.ensures.ok s told listed ∙ ap (option_map commit_bytes) c.in_default.is))

pub returns-in_err-commit-clause-err : goal.returns-in_err-commit-clause-err
returns-in_err-commit-clause-err g c =
    let p = err_from_is_err_and c.from_residual-in_err-commit.result c.from_residual-in_err-commit.ensures.1 in
    let found = c.in-Some.found in
    rw (p.1, p.2) (λ memory device s told listed. taxonomy_unread (segments_in Taxonomy s.files) (newest_file Taxonomy s.files) found.number found.bytes.items
    (c.in_ok-found.ensures.ok s told listed ∙ ap (option_map commit_bytes) c.in-Some.is) c.in_err-commit.field-0.0 (c.in_err-commit.ensures.err memory))

pub returns-in_err-labels-clause-err : goal.returns-in_err-labels-clause-err
returns-in_err-labels-clause-err g c =
    let p = err_from_is_err_and c.from_residual-in_err-labels.result c.from_residual-in_err-labels.ensures.1 in
    let found = c.in-Some.found in
    rw (p.1, p.2) (λ memory device s told listed. taxonomy_read (segments_in Taxonomy s.files) (newest_file Taxonomy s.files) found.number found.bytes.items
    (c.in_ok-found.ensures.ok s told listed ∙ ap (option_map commit_bytes) c.in-Some.is) (taxonomy_listing c.in_ok-commit.commit) c.in_ok-commit.ensures.ok
    ∙ rw c.deref.ensures.value at (c.in_err-labels.ensures.err memory device s (c.in_ok-found.ensures.read.quiet.same ∙ told) listed))

pub returns-clause-ok : goal.returns-clause-ok
returns-clause-ok g c =
    let found = c.in-Some.found in
    λ s told listed. taxonomy_read (segments_in Taxonomy s.files) (newest_file Taxonomy s.files) found.number found.bytes.items
    (c.in_ok-found.ensures.ok s told listed ∙ ap (option_map commit_bytes) c.in-Some.is) (taxonomy_listing c.in_ok-commit.commit) c.in_ok-commit.ensures.ok
    ∙ rw c.deref.ensures.value at (c.in_ok-labels.ensures.ok s (c.in_ok-found.ensures.read.quiet.same ∙ told) listed)

pub returns-clause-order : goal.returns-clause-order
returns-clause-order g c = rw c.in_ok-labels.ensures.count c.in_ok-commit.ensures.order
