use Rattle.std.proofs.Common.{◌∙◌, length, ap, slice_get, arith}
use Rattle.facet_model.proofs.Drills.{term_at}
use Rattle.facet_model.proofs.drill.Drill.term.Goals as goal

pub returns : goal.returns
returns c = λ path there.
    c.as_str.ensures.value ∙ term_at c.self.inside.paths.items c.self.inside.terms.items c.args.at c.index.result.now path c.self.invariant.each (omega (arith, c.requires, ap length c.self.view_is)) c.index.ensures (ap (λ ps. slice_get ps c.args.at) c.self.view_is ∙ there)
