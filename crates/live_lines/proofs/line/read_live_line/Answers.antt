use Rattle.std.proofs.Common.{ap, ◌≡◌, ◌∙◌, ◌≤◌, length, Some, None, subst, rules}
use Rattle.std.specs.Prelude.{IfOk}
use Rattle.facet_words.specs.CommandViews.{order_view}
use Rattle.facet_words.specs.declared.command.Order.{Order}
use Rattle.live_lines.specs.Lines.{Line, order_line}
use Rattle.live_lines.specs.Views.{line_view}
use Rattle.live_lines.proofs.Lines.{read_too_long, read_order, read_fault}
use Rattle.live_lines.proofs.line.read_live_line.Goals as goal

pub returns-then-bytes-gt-MOST_BYTES : goal.returns-then-bytes-gt-MOST_BYTES
returns-then-bytes-gt-MOST_BYTES c = read_too_long c.args.only_reads c.args.line c.args.bytes.now (c.if-bytes-gt-MOST_BYTES.true)

pub returns-in-Ok-Some : goal.returns-in-Ok-Some
returns-in-Ok-Some c =
    let few : length c.args.bytes.now ≤ 67108864 = c.if-bytes-gt-MOST_BYTES.false in
    c.order_line.ensures ∙ (ap (λ (o : Order). order_line c.args.only_reads (order_view o)) c.in-Ok-Some.order-is ∙ read_order c.args.only_reads c.args.line c.args.bytes.now (Some (order_view c.in-Ok-Some.order)) few (search rules))

pub returns-in-Ok-None : goal.returns-in-Ok-None
returns-in-Ok-None c =
    let few : length c.args.bytes.now ≤ 67108864 = c.if-bytes-gt-MOST_BYTES.false in
    read_order c.args.only_reads c.args.line c.args.bytes.now None few (search rules)

pub returns-in-Err : goal.returns-in-Err
returns-in-Err c =
    let few : length c.args.bytes.now ≤ 67108864 = c.if-bytes-gt-MOST_BYTES.false in
    subst (λ (w : Line). IfOk c.other_line.result (λ l. line_view l ≡ w))
    (read_fault c.args.only_reads c.args.line c.args.bytes.now c.in-Err.fault few (search rules))
    c.other_line.ensures
