use Rattle.std.proofs.Common.{rules, ◌≡◌, map, sym, subst}
use Rattle.facet_config.specs.Declarations.{AreDimensions}
use Rattle.commit_file.specs.Commits.{declaration, kept_of}
use Rattle.commit_file.proofs.Ordering.{kept_named}
use Rattle.commit_file.proofs.kept.kept.Goals as goal

pub returns-clause-named : goal.returns-clause-named
unfolding kept_of
returns-clause-named c =
    let is : map declaration c.loop-dim.kept.items ≡ kept_of c.args.config.now = search rules in
    subst AreDimensions (sym is) (kept_named c.args.config.now c.in_ok-all.ensures.named)
