use Rattle.facet_words.proofs.FirstLines.{line_at, line_last, feed_found, feed_missed}
use Rattle.facet_words.proofs.lines.cut_line.Goals as goal

pub returns-in-Some-clause-cut : goal.returns-in-Some-clause-cut
returns-in-Some-clause-cut c =
    let found = feed_found c.args.rest.now c.in-Some.at c.in-Some.ensures in
    rw (c.split_at.ensures.front, c.split_at-in-Some.ensures.back, found.0) (line_at c.args.rest.now found.1)

pub returns-in-None-clause-cut : goal.returns-in-None-clause-cut
returns-in-None-clause-cut c = line_last c.args.rest.now (feed_missed c.args.rest.now c.in-None.ensures) c.requires
