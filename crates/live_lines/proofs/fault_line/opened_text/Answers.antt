use Rattle.std.proofs.Common.{◌∙◌, ap, ◌++◌}
use Rattle.std.specs.Prelude.{codes}
use Rattle.std.specs.Fmt.{decimal}
use Rattle.live_lines.proofs.Opened.{opened_is}
use Rattle.live_lines.proofs.fault_line.opened_text.Goals as goal

pub returns : goal.returns
returns c =
    c.in_ok-write.ensures.bytes
    ∙ ap (λ l. l ++ (codes "{\"line\":1,\"opened\":[" ++ (decimal c.args.documents ++ (codes "," ++ (decimal c.args.labels ++ codes "]}\n"))))) c.in_ok-text.ensures.bytes
    ∙ opened_is c.args.documents c.args.labels
