use Rattle.std.proofs.Common.{slice_get, ap, sym, ◌∙◌, ◌+◌, []}
use Rattle.taxo_list.proofs.Labels.{root_is}
use Rattle.facet_counts.proofs.Listed.{child_depth}
use Rattle.facet_counts.proofs.firsts.depth_of.Goals as goal

pub returns-then-ord-eq0 : goal.returns-then-ord-eq0
returns-then-ord-eq0 c = child_depth c.args.view.now c.requires.list [] c.args.ord [] (ap (slice_get c.args.view.now) c.if-ord-eq0.true ∙ root_is c.args.view.now c.requires.list)

pub returns : goal.returns
returns c = λ child within is. child_depth c.args.view.now c.requires.list [] c.args.ord c.path_of.result.now c.path_of.ensures child within is ∙ ap (λ n. n + 1) (sym c.len.ensures.len)
