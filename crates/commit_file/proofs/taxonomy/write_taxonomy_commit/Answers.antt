use Rattle.std.proofs.Common.{rules, ap, ◌∙◌}
use Rattle.commit_file.specs.Commits.{labels_listed}
use Rattle.commit_file.specs.Reading.{taxonomy_commit}
use Rattle.commit_file.proofs.Again.{taxonomy_again}
use Rattle.commit_file.proofs.taxonomy.write_taxonomy_commit.Goals as goal

pub returns-in-Ok-clause-again : goal.returns-in-Ok-clause-again
returns-in-Ok-clause-again c =
    let listed = labels_listed c.args.labels c.args.parts.now in
    ap (taxonomy_commit c.args.number) c.in-Ok.ensures.bytes ∙ taxonomy_again c.args.number listed c.requires.number (search rules) c.requires.labels c.requires.some c.requires.few c.requires.order c.in-Ok.ensures.fit
