use Rattle.std.proofs.Common.{rules, arith, ◌≡◌, ◌<◌, ◌∷◌, ap, sym, ◌∙◌, drop, length}
use Rattle.std.proofs.lemmas.List.{length-drop}
use Rattle.facet_names.specs.Blocks.{parts_of}
use Rattle.facet_names.proofs.Blocks.{drop_one, some_in}
use Rattle.facet_names.proofs.block.skip.Goals as goal

pub cut-requires-clause-some : goal.cut-requires-clause-some
cut-requires-clause-some c =
    let parts = parts_of c.args.block.now in
    let within : c.loop.counter < length parts = search rules in
    some_in c.loop.rest.now (omega (arith, ap length c.loop.invariant.parts, length-drop c.loop.counter parts, within))

pub loop-preserved : goal.loop-preserved
loop-preserved c =
    let parts = parts_of c.args.block.now in
    let here : drop c.loop.counter parts ≡ c.cut.result.0.now ∷ parts_of c.cut.result.1.now = sym c.loop.invariant.parts ∙ c.cut.ensures.parts in
    record { utf8 = search rules; is = c.cut.ensures.rest; parts = drop_one c.loop.counter parts c.cut.result.0.now (parts_of c.cut.result.1.now) here }
