use Rattle.std.proofs.Common.{rules, ◌∙◌}
use Rattle.index_state.proofs.Installing.{put_in_place}
use Rattle.index_state.proofs.flushing.put_merged.Goals as goal

pub returns : goal.returns
returns c =
    let left = c.drop-drain.ensures.items ∙ c.drain.ensures.kept ∙ put_in_place c.args.segments.now.items c.args.merged c.args.first c.args.count c.requires.some c.requires.range in
    search (rules, left)
