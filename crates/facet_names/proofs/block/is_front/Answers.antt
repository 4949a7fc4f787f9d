use Rattle.std.proofs.Common.{rules, ◌≡◌, ◌<◌, ◌∙◌, length, sym}
use Rattle.facet_names.proofs.Blocks.{all_under, not_under}
use Rattle.facet_names.proofs.block.is_front.Goals as goal

pub returns-then-is_empty : goal.returns-then-is_empty
returns-then-is_empty c =
    let left = c.loop-left.left.now in
    let rest = c.loop-left.rest.now in
    let some : 0 < length left = search rules in
    let none : length rest ≡ 0 = search rules in
    sym (not_under rest left none c.loop-left.invariant.left some) ∙ c.loop-left.invariant.same

pub returns : goal.returns
returns c =
    let none : length c.loop-left.left.now ≡ 0 = search rules in
    sym (all_under c.loop-left.rest.now c.loop-left.left.now none) ∙ c.loop-left.invariant.same
