use Rattle.std.proofs.Common.{◌≡◌, ◌∙◌, Some, map, sym, ap, subst, refl, inl, inr}
use Rattle.std.specs.String.{string_bytes}
use Rattle.command_line.specs.Words.{words_of}
use Rattle.facet_words.specs.Commands.{Script}
use Rattle.generator.specs.Generated.{generated}
use Rattle.facet_shell.specs.Asking.{IsAsked}
use Rattle.facet_shell.specs.Runs.{RunsGenerated, resources}
use Rattle.facet_shell.proofs.Early.{finds_no_memory, generates_nothing, refuses_words}
use Rattle.facet_shell.proofs.Served.{script_generated}
use Rattle.facet_shell.proofs.Sources.{reads_none}
use Rattle.facet_shell.proofs.program.run.Goals as goal

the_one : (a b : Script) → Some a ≡ Some b → a ≡ b
the_one a b e = cc e

pub returns-in-Ok-Some-Generated-clause-generated : goal.returns-in-Ok-Some-Generated-clause-generated
returns-in-Ok-Some-Generated-clause-generated g c s is =
    let before = resources c.args.source.now c.args.sink.now c.args.disk in
    let after = resources c.args.source.now c.run_generated.new.sink c.run_generated.result.disk in
    let asked = subst (λ o. IsAsked (words_of (map string_bytes c.args.words.now)) o) (c.in-Ok-Some-Generated.field-0-is ∙ ap (λ a. Some a) c.in-Ok-Some-Generated.field-0-0-is) c.in-Ok-Some-Generated.ensures in
    let same = the_one (generated c.in-Ok-Some-Generated.documents c.in-Ok-Some-Generated.sessions) s (sym asked.1 ∙ is) in
    subst (λ (s : Script). RunsGenerated g.S.Source g.K.Sink g.D.Disk before after c.run_generated.result.trace c.run_generated.result.status s) same
    (script_generated g.S.Source g.K.Sink g.D.Disk before after c.run_generated.result.trace c.run_generated.result.status (generated c.in-Ok-Some-Generated.documents c.in-Ok-Some-Generated.sessions) refl
    c.run_generated.ensures.served c.run_generated.ensures.failed)

pub returns-in-Ok-None-clause-refused : goal.returns-in-Ok-None-clause-refused
returns-in-Ok-None-clause-refused g c neither none = refuses_words g.S.Source g.K.Sink g.D.Disk (resources c.args.source.now c.args.sink.now c.args.disk) (resources c.args.source.now c.report_status.new.sink c.report_status.result.disk) c.report_status.result.trace c.report_status.result.status
    c.report_status.ensures.trace c.report_status.ensures.disk _ c.report_status.ensures.status (inl refl) refl c.report_status.ensures.line

pub returns-in-Err-clause-script : goal.returns-in-Err-clause-script
returns-in-Err-clause-script g c reads = finds_no_memory g.S.Source g.K.Sink g.D.Disk (resources c.args.source.now c.args.sink.now c.args.disk) (resources c.args.source.now c.report_status-in-Err.new.sink c.report_status-in-Err.result.disk) c.report_status-in-Err.result.trace c.report_status-in-Err.result.status
    c.report_status-in-Err.ensures.trace c.report_status-in-Err.ensures.disk c.report_status-in-Err.ensures.status c.report_status-in-Err.ensures.line (reads_none g.S.Source c.args.source.now c.args.source.now refl) refl

pub returns-in-Err-clause-generated : goal.returns-in-Err-clause-generated
returns-in-Err-clause-generated g c s is = generates_nothing g.S.Source g.K.Sink g.D.Disk (resources c.args.source.now c.args.sink.now c.args.disk) (resources c.args.source.now c.report_status-in-Err.new.sink c.report_status-in-Err.result.disk) c.report_status-in-Err.result.trace c.report_status-in-Err.result.status
    c.report_status-in-Err.ensures.trace c.report_status-in-Err.ensures.disk s c.report_status-in-Err.ensures.status refl c.report_status-in-Err.ensures.line

pub returns-in-Err-clause-refused : goal.returns-in-Err-clause-refused
returns-in-Err-clause-refused g c neither none = refuses_words g.S.Source g.K.Sink g.D.Disk (resources c.args.source.now c.args.sink.now c.args.disk) (resources c.args.source.now c.report_status-in-Err.new.sink c.report_status-in-Err.result.disk) c.report_status-in-Err.result.trace c.report_status-in-Err.result.status
    c.report_status-in-Err.ensures.trace c.report_status-in-Err.ensures.disk _ c.report_status-in-Err.ensures.status (inr refl) refl c.report_status-in-Err.ensures.line
