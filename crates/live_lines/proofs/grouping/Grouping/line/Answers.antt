use Rattle.std.proofs.Common.{◌≡◌, ◌∙◌, sym, length}
use Rattle.facet_words.specs.Commands.{Order}
use Rattle.facet_words.proofs.Rising.{IsOrderOf}
use Rattle.live_lines.specs.Lines.{order}
use Rattle.live_lines.specs.Views.{line_view, reading_of}
use Rattle.live_lines.proofs.Lines.{order_at}
use Rattle.live_lines.proofs.Kept.{next_line, goes_on, gives_sessions, is_step}
use Rattle.live_lines.proofs.grouping.Grouping.line.Goals as goal

pub invariant_of-self : goal.invariant_of-self
invariant_of-self c = next_line (reading_of (record { next = c.self.inside.next; group = c.self.inside.open_group })) c.self.invariant

pub invariant_of-self-2 : goal.invariant_of-self-2
invariant_of-self-2 c =
    let r = reading_of (record { next = c.self.inside.next; group = c.self.inside.open_group }) in
    let of : (o : Order) → line_view c.in_ok-line.line ≡ order o → IsOrderOf r.next o = λ o e. order_at c.args.only_reads r.next c.args.bytes.now o (sym c.in_ok-line.ensures ∙ e) in
    goes_on r (length c.args.bytes.now) (line_view c.in_ok-line.line) c.step_group.new.group of c.self.invariant c.step_group.result c.step_group.ensures.ok c.step_group.ensures.err

pub returns-clause-ok : goal.returns-clause-ok
returns-clause-ok c =
    let r = reading_of (record { next = c.self.inside.next; group = c.self.inside.open_group }) in
    rw (← c.self.view_is) (is_step c.args.only_reads r c.args.bytes.now (line_view c.in_ok-line.line) c.step_group.new.group c.step_group.result c.in_ok-line.ensures c.step_group.ensures.ok)

pub returns-clause-sessions : goal.returns-clause-sessions
returns-clause-sessions c =
    let r = reading_of (record { next = c.self.inside.next; group = c.self.inside.open_group }) in
    let of : (o : Order) → line_view c.in_ok-line.line ≡ order o → IsOrderOf r.next o = λ o e. order_at c.args.only_reads r.next c.args.bytes.now o (sym c.in_ok-line.ensures ∙ e) in
    gives_sessions r (length c.args.bytes.now) (line_view c.in_ok-line.line) c.step_group.new.group of c.self.invariant c.step_group.result c.step_group.ensures.ok
