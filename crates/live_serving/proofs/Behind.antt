-- What is behind the line that says what was opened.
use Rattle.std.proofs.Common.{◌≡◌, ◌∙◌, ◌≤◌, ℕ, List, [], length, drop, Option, Some, Ok, sym, subst}
use Rattle.facet_disk.specs.declared.disk.Disk.{Ghosts}
use Rattle.facet_engine.specs.declared.ending.Trace.{Trace}
use Rattle.facet_output.specs.Answered.{Answered}
use Rattle.facet_output.specs.Output.{opened_pair}
use Rattle.facet_output.specs.OutputLines.{reply_lines}
use Rattle.facet_phases.specs.Taking.{At}
use Rattle.facet_phases.specs.declared.collector.Output.{Ghosts as OutputGhosts}
use Rattle.facet_phases.specs.declared.fault.PhaseFault.{PhaseFault}
use Rattle.facet_phases.specs.declared.outcome.RanToEnd.{RanToEnd}
use Rattle.facet_phases.specs.declared.phases.Phases.{Ghosts as PhasesGhosts}
use Rattle.facet_replies.specs.LastLine.{last_line as line_of}
use Rattle.facet_serving.specs.Serving.{IsCarriedOut}
use Rattle.facet_serving.specs.declared.status.Status.{Status}
use Rattle.facet_words.specs.Commands.{Order, Settings}
use Rattle.facet_words.specs.Scripts.{config_at}
use Rattle.live_io.specs.declared.duplex.Duplex.{Ghosts as DuplexGhosts}
use Rattle.live_lines.specs.Lines.{most_bytes}
use Rattle.live_serving.specs.Answering.{Puts, PutsSome}
use Rattle.live_serving.specs.Closing.{Closes, PutsLine}
use Rattle.live_serving.specs.Moments.{EndsItems, FailsItem, GivesItem, IsLiveAt}
use Rattle.live_serving.specs.Runs.{RunsLive}
use Rattle.live_serving.specs.Starting.{Starts}
use Rattle.live_serving.specs.declared.line_phases.LinePhases.{LinePhases}
use Rattle.live_serving.proofs.AtEnd.{runs}
use Rattle.live_serving.proofs.Starting.{starts_live}

pub lines_run : {X D C O : Type 0} {phases : PhasesGhosts LinePhases O} {output : OutputGhosts O C} (io : DuplexGhosts X) (disk : Ghosts D) (io_of : O → X) (settings : Settings) (old new : D) (start end : At LinePhases O) (pair opened : ℕ × ℕ) (ran : RanToEnd D)
    → IsCarriedOut disk settings old phases output start end pair ran → pair ≡ opened
    → ((p : LinePhases) (o : O) (q : LinePhases) (n : O) (orders : List Order) → phases.gives p o q n orders → GivesItem io p (io_of o) q (io_of n) orders)
    → ((p : LinePhases) (o : O) (q : LinePhases) (n : O) → phases.ends p o q n → EndsItems io p (io_of o) q (io_of n))
    → ((p : LinePhases) (o : O) (q : LinePhases) (n : O) (fault : PhaseFault) → phases.fails p o q n fault → FailsItem io p (io_of o) q (io_of n) fault)
    → ((o n : O) (answered : List Answered) → output.flushes o n answered → Puts io (io_of o) (io_of n) (reply_lines answered))
    → ((o n : O) (answered : List Answered) → output.breaks o n answered → PutsSome io (io_of o) (io_of n) (reply_lines answered))
    → (from before to : X) (first : List ℕ) → Starts io from before (io_of start.out) start.phases opened first → config_at first ≡ Ok settings → length first ≤ most_bytes
    → (left : Option Trace) (status : Status) → left ≡ Some ran.ended.trace → new ≡ ran.ended.disk
    → Closes io (io_of end.out) to (line_of pair.0 pair.1 ran.ended.trace.labels (drop pair.0 ran.ended.trace.sessions.items)) ran.result status
    → RunsLive io disk start.phases.only_reads from to old new left status
lines_run {D = D} {phases = phases} {output = output} io disk io_of settings old new start end pair opened ran c same gives ends fails flushes breaks from before to first s settings_is short left status left_is back closes =
    let begun = subst (λ (p : ℕ × ℕ). IsLiveAt io (record { only_reads = start.phases.only_reads; opened = p; first = first; before = from }) start.phases (io_of start.out) [] []) (sym same ∙ c.pair_is)
    (starts_live io from before (io_of start.out) start.phases opened first s) in
    subst (λ (d : D). RunsLive io disk start.phases.only_reads from to old d left status) (sym back)
    (runs io disk phases output io_of gives ends fails flushes breaks settings old start end pair ran c start.phases.only_reads first short from settings_is left left_is begun to status closes)

-- a line that was put, by what it was and where it was put
pub puts_from : {X : Type 0} (io : DuplexGhosts X) (before other now : X) (line same : List ℕ) → PutsLine io other now line → other ≡ before → line ≡ same → PutsLine io before now same
puts_from io before other now line same put from is = subst (λ x. PutsLine io x now same) from (subst (λ (l : List ℕ). PutsLine io other now l) is put)
