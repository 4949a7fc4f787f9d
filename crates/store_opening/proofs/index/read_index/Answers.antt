use Rattle.std.proofs.Common.{◌∙◌, ap}
use Rattle.std.specs.Option.{option_map}
use Rattle.std.proofs.lemmas.Result.{err_from_is_err_and}
use Rattle.facet_disk.specs.declared.name.Dir.TheVariants.{Index}
use Rattle.commit_calls.specs.Held.{newest_file}
use Rattle.commit_file.specs.Commits.{index_listing}
use Rattle.store_opening.specs.Commits.{commit_bytes}
use Rattle.store_opening.specs.Files.{segments_in}
use Rattle.store_opening.proofs.Whole.{index_none, index_unread, index_other, index_read}
use Rattle.store_opening.proofs.index.read_index.Goals as goal

pub returns-in_default-clause-ok : goal.returns-in_default-clause-ok
returns-in_default-clause-ok g c = λ s told listed.
    rw c.new-in_default.ensures.items (index_none c.args.config.now c.args.labels.now (segments_in Index s.files) (newest_file Index s.files)
    (c.in_ok-found.ensures.ok s told listed ∙ ap (option_map commit_bytes) c.in_default.is))

pub returns-in_err-commit-clause-err : goal.returns-in_err-commit-clause-err
returns-in_err-commit-clause-err g c =
    let p = err_from_is_err_and c.from_residual-in_err-commit.result c.from_residual-in_err-commit.ensures.1 in
    let found = c.in-Some.found in
    rw (p.1, p.2) (λ memory device s told listed. index_unread c.args.config.now c.args.labels.now (segments_in Index s.files) (newest_file Index s.files) found.number found.bytes.items
    (c.in_ok-found.ensures.ok s told listed ∙ ap (option_map commit_bytes) c.in-Some.is) c.in_err-commit.field-0.0 (c.in_err-commit.ensures.err memory))

pub returns-in_err-check_commit-clause-err : goal.returns-in_err-check_commit-clause-err
returns-in_err-check_commit-clause-err g c =
    let p = err_from_is_err_and c.from_residual-in_err-check_commit.result c.from_residual-in_err-check_commit.ensures.1 in
    let found = c.in-Some.found in
    rw (p.1, p.2) (λ memory device s told listed. index_other c.args.config.now c.args.labels.now (segments_in Index s.files) (newest_file Index s.files) found.number found.bytes.items
    (c.in_ok-found.ensures.ok s told listed ∙ ap (option_map commit_bytes) c.in-Some.is) (index_listing c.in_ok-commit.commit) c.in_ok-commit.ensures.ok c.in_err-check_commit.field-0.0
    (c.in_err-check_commit.ensures.err memory))

pub returns-in_err-segments-clause-err : goal.returns-in_err-segments-clause-err
returns-in_err-segments-clause-err g c =
    let p = err_from_is_err_and c.from_residual-in_err-segments.result c.from_residual-in_err-segments.ensures.1 in
    let found = c.in-Some.found in
    rw (p.1, p.2) (λ memory device s told listed. index_read c.args.config.now c.args.labels.now (segments_in Index s.files) (newest_file Index s.files) found.number found.bytes.items
    (c.in_ok-found.ensures.ok s told listed ∙ ap (option_map commit_bytes) c.in-Some.is) (index_listing c.in_ok-commit.commit) c.in_ok-commit.ensures.ok c.in_ok-check_commit.ensures.ok
    ∙ rw c.deref.ensures.value at (c.in_err-segments.ensures.err memory device s (c.in_ok-found.ensures.read.quiet.same ∙ told) listed))

pub returns-clause-ok : goal.returns-clause-ok
returns-clause-ok g c =
    let found = c.in-Some.found in
    λ s told listed. index_read c.args.config.now c.args.labels.now (segments_in Index s.files) (newest_file Index s.files) found.number found.bytes.items
    (c.in_ok-found.ensures.ok s told listed ∙ ap (option_map commit_bytes) c.in-Some.is) (index_listing c.in_ok-commit.commit) c.in_ok-commit.ensures.ok c.in_ok-check_commit.ensures.ok
    ∙ rw c.deref.ensures.value at (c.in_ok-segments.ensures.ok s (c.in_ok-found.ensures.read.quiet.same ∙ told) listed)
