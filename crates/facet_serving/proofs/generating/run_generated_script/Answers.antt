use Rattle.std.proofs.Common.{◌∙◌, ◌⊎◌, ⊎_elim, sym, subst, inl, inr}
use Rattle.facet_words.specs.CommandViews.{script_view}
use Rattle.facet_serving.proofs.Shut.{shuts}
use Rattle.facet_serving.specs.Generating.{Generates, SummedAs}
use Rattle.facet_serving.specs.Serving.{StaysShut}
use Rattle.facet_serving.specs.declared.status.Status.{Status}
use Rattle.facet_serving.proofs.generating.run_generated_script.Goals as goal

pub returns-in-Ok-open-clause-served : goal.returns-in-Ok-open-clause-served
returns-in-Ok-open-clause-served g c =
    let r = c.serve_generated.result in
    let s = script_view c.args.script in
    subst (λ d. Generates g.D.Disk s d r.disk g.K.Sink c.args.sink.now c.serve_generated.new.sink r.trace r.status ⊎ StaysShut g.D.Disk s d r.disk g.K.Sink c.args.sink.now c.serve_generated.new.sink r.trace r.status) c.in-Ok-open.ensures.start (⊎_elim (λ ran. inl ran) (λ shut. inr shut.1) c.serve_generated.ensures)

-- a store that was opened ends no run for a fault of the disk
pub returns-in-Ok-open-clause-failed : goal.returns-in-Ok-open-clause-failed
returns-in-Ok-open-clause-failed g c is t tells =
    let r = c.serve_generated.result in
    ⊎_elim
    (λ ran. absurd (subst (λ (status : Status). SummedAs g.D.Disk (script_view c.args.script) c.in-Ok-open.store.start.value r.disk g.K.Sink c.args.sink.now c.serve_generated.new.sink ran.trace status) is ran.ended))
    (λ shut. absurd (cc (sym shut.0 ∙ is))) c.serve_generated.ensures

pub returns-in-Err-clause-served : goal.returns-in-Err-clause-served
returns-in-Err-clause-served g c =
    let e = c.in-Err.ensures in
    let r = c.report_open_fault.result in
    inr (shuts g.D.Disk (script_view c.args.script) c.args.disk g.K.Sink c.args.sink.now c.report_open_fault.new.sink r.trace r.status c.in-Ok.config c.in-Ok.ensures c.in-Err.field-0.disk r.disk c.in-Err.field-0.fault
    c.report_open_fault.ensures.disk e.quiet c.report_open_fault.ensures.trace e.err e.fault e.still e.sound c.report_open_fault.ensures.told)
