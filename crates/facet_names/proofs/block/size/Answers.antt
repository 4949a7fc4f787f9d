use Rattle.std.proofs.Common.{rules, arith, ◌≡◌, [], length, ap}
use Rattle.facet_names.specs.Blocks.{parts_of}
use Rattle.facet_names.proofs.Blocks.{few_in, none_in}
use Rattle.facet_names.proofs.block.size.Goals as goal

pub overflow_add-size : goal.overflow_add-size
overflow_add-size c = let few = few_in 32 c.args.block.now in let counted = c.loop-rest.invariant.counted in search rules

pub returns : goal.returns
returns c =
    let empty : length c.loop-rest.rest.now ≡ 0 = search rules in
    let none : parts_of c.loop-rest.rest.now ≡ [] = none_in c.loop-rest.rest.now empty in
    omega (arith, c.loop-rest.invariant.counted, ap length none)
