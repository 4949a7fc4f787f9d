use Rattle.std.proofs.Common.{◌⊎◌, subst}
use Rattle.facet_words.specs.Commands.{Script}
use Rattle.facet_serving.specs.Generating.{Generates}
use Rattle.facet_serving.specs.Serving.{StaysShut}
use Rattle.facet_serving.proofs.generating.run_generated.Goals as goal

pub returns-in-Ok-clause-served : goal.returns-in-Ok-clause-served
returns-in-Ok-clause-served g c =
    let r = c.run_generated_script.result in
    subst (λ (s : Script). Generates g.D.Disk s c.args.disk r.disk g.K.Sink c.args.sink.now c.run_generated_script.new.sink r.trace r.status ⊎ StaysShut g.D.Disk s c.args.disk r.disk g.K.Sink c.args.sink.now c.run_generated_script.new.sink r.trace r.status)
    c.in-Ok.ensures.is c.run_generated_script.ensures.served
