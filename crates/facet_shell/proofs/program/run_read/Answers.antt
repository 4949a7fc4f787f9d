use Rattle.std.proofs.Common.{Err, ap, arith, rules}
use Rattle.std.proofs.lemmas.Grind.{common_steps}
use Rattle.facet_words.specs.CommandViews.{script_view}
use Rattle.facet_serving.proofs.Ending.{read_whole}
use Rattle.facet_shell.specs.Runs.{resources}
use Rattle.facet_shell.proofs.Early.{finds_no_memory, is_long, is_short, is_whole, read_fails, reads_no_script, reads_too_much}
use Rattle.facet_shell.proofs.Served.{script_served}
use Rattle.facet_shell.proofs.program.run_read.Goals as goal

pub returns-in-Err-Failed : goal.returns-in-Err-Failed
returns-in-Err-Failed g c = read_fails g.S.Source g.K.Sink g.D.Disk (resources c.args.source.now c.args.sink.now c.args.disk) (resources c.read_to_end.new.source c.report_status.new.sink c.report_status.result.disk) c.report_status.result.trace c.report_status.result.status
    c.report_status.ensures.trace c.report_status.ensures.disk c.report_status.ensures.status c.report_status.ensures.line (c.in-Err-Failed.ensures.failed (ap (λ f. Err f) c.in-Err-Failed.field-0-is)) c.in-Err-Failed.ensures.taken (c.in-Err-Failed.ensures.cause.cause (ap (λ f. Err f) c.in-Err-Failed.field-0-is))

pub returns-in-Err-TooLong : goal.returns-in-Err-TooLong
returns-in-Err-TooLong g c = reads_too_much g.S.Source g.K.Sink g.D.Disk (resources c.args.source.now c.args.sink.now c.args.disk) (resources c.read_to_end.new.source c.report_status-in-Err-TooLong.new.sink c.report_status-in-Err-TooLong.result.disk) c.report_status-in-Err-TooLong.result.trace c.report_status-in-Err-TooLong.result.status
    c.report_status-in-Err-TooLong.ensures.trace c.report_status-in-Err-TooLong.ensures.disk c.report_status-in-Err-TooLong.ensures.status c.report_status-in-Err-TooLong.ensures.line (c.in-Err-TooLong.ensures.too_long (ap (λ f. Err f) c.in-Err-TooLong.field-0-is)) c.in-Err-TooLong.ensures.taken (c.in-Err-TooLong.ensures.cause.still (is_long c.in-Err-TooLong.field-0 c.in-Err-TooLong.field-0-is))

pub returns-in-Err-NoMemory : goal.returns-in-Err-NoMemory
returns-in-Err-NoMemory g c = finds_no_memory g.S.Source g.K.Sink g.D.Disk (resources c.args.source.now c.args.sink.now c.args.disk) (resources c.read_to_end.new.source c.report_status-in-Err-NoMemory.new.sink c.report_status-in-Err-NoMemory.result.disk) c.report_status-in-Err-NoMemory.result.trace c.report_status-in-Err-NoMemory.result.status
    c.report_status-in-Err-NoMemory.ensures.trace c.report_status-in-Err-NoMemory.ensures.disk c.report_status-in-Err-NoMemory.ensures.status c.report_status-in-Err-NoMemory.ensures.line c.in-Err-NoMemory.ensures.taken (c.in-Err-NoMemory.ensures.cause.still (is_short c.in-Err-NoMemory.field-0 c.in-Err-NoMemory.field-0-is))

pub returns-in-Err-NoMemory-read_script : goal.returns-in-Err-NoMemory-read_script
returns-in-Err-NoMemory-read_script g c = finds_no_memory g.S.Source g.K.Sink g.D.Disk (resources c.args.source.now c.args.sink.now c.args.disk) (resources c.read_to_end.new.source c.report_status-in-Err-NoMemory-read_script.new.sink c.report_status-in-Err-NoMemory-read_script.result.disk) c.report_status-in-Err-NoMemory-read_script.result.trace c.report_status-in-Err-NoMemory-read_script.result.status
    c.report_status-in-Err-NoMemory-read_script.ensures.trace c.report_status-in-Err-NoMemory-read_script.ensures.disk c.report_status-in-Err-NoMemory-read_script.ensures.status c.report_status-in-Err-NoMemory-read_script.ensures.line c.in-Ok.ensures.taken (c.in-Ok.ensures.cause.still (is_whole c.in-Ok.input))

pub returns-in-Err : goal.returns-in-Err
returns-in-Err g c = reads_no_script g.S.Source g.K.Sink g.D.Disk (resources c.args.source.now c.args.sink.now c.args.disk) (resources c.read_to_end.new.source c.report_script_fault.new.sink c.report_script_fault.result.disk)
    c.report_script_fault.result.trace c.report_script_fault.result.status c.report_script_fault.ensures.trace c.report_script_fault.ensures.disk c.deref.result.now c.in-Err.fault
    (read_whole g.S.Source c.args.source.now c.read_to_end.new.source _ c.deref.result.now c.deref.ensures.value c.in-Ok.ensures.whole.0 c.in-Ok.ensures.whole.1 (omega (arith, c.in-Ok.ensures.within))) c.in-Ok.ensures.taken
    (c.in-Ok.ensures.cause.still (is_whole c.in-Ok.input)) (c.in-Err.ensures.err (first_of (search rules, grind (arith, common_steps)))) c.report_script_fault.ensures.told c.report_script_fault.ensures.memory

pub returns : goal.returns
returns g c = script_served g.S.Source g.K.Sink g.D.Disk (resources c.args.source.now c.args.sink.now c.args.disk) (resources c.read_to_end.new.source c.run_script.new.sink c.run_script.result.disk) c.run_script.result.trace c.run_script.result.status
    (script_view c.in-Ok-read_script.script) c.deref.result.now
    (read_whole g.S.Source c.args.source.now c.read_to_end.new.source _ c.deref.result.now c.deref.ensures.value c.in-Ok.ensures.whole.0 c.in-Ok.ensures.whole.1 (omega (arith, c.in-Ok.ensures.within)))
    c.in-Ok-read_script.ensures.ok c.run_script.ensures.served (c.in-Ok.ensures.cause.still (is_whole c.in-Ok.input)) c.run_script.ensures.failed
