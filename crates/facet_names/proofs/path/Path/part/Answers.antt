use Rattle.std.proofs.Common.{rules, arith, ◌≡◌, ap, sym, ◌∙◌, drop, length}
use Rattle.std.proofs.lemmas.List.{length-drop}
use Rattle.facet_names.specs.Blocks.{parts_of}
use Rattle.facet_names.proofs.Blocks.{get_one, some_in}
use Rattle.facet_names.proofs.path.Path.part.Goals as goal

pub cut-requires-clause-some : goal.cut-requires-clause-some
cut-requires-clause-some c =
    let behind : parts_of c.skip.result.now ≡ drop c.args.at c.args.self.now = search rules in
    some_in c.skip.result.now (omega (arith, ap length behind, length-drop c.args.at c.args.self.now, c.requires))

pub returns-clause-part : goal.returns-clause-part
returns-clause-part c =
    let behind : parts_of c.skip.result.now ≡ drop c.args.at c.args.self.now = search rules in
    get_one c.args.at c.args.self.now c.cut.result.0.now (parts_of c.cut.result.1.now) (sym behind ∙ c.cut.ensures.parts)
