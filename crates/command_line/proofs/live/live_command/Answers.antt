use Rattle.std.proofs.Common.{rules, ap₂, ◌≡◌, ◌∙◌}
use Rattle.std.proofs.lemmas.Result.{IfOk-weaker}
use Rattle.clap.specs.Words.{app_of, rule_of, with_rule}
use Rattle.command_line.specs.Words.{bare, dir_rule}
use Rattle.command_line.specs.Live.{live_rule, read_rule}
use Rattle.command_line.proofs.live.live_command.Goals as goal

pub returns : goal.returns
returns c =
    let live_is : rule_of c.required-live.result ≡ live_rule = search rules in
    let read_is : rule_of c.action-read.result ≡ read_rule = search rules in
    let dir_is : rule_of c.required-dir.result ≡ dir_rule = search rules in
    let bare_is : app_of c.disable_help_flag.result ≡ bare = search rules in
    IfOk-weaker c.arg-3.result _ _ (λ r h. h.shape (search rules) ∙ ap₂ with_rule
    (c.in_ok-arg-2.ensures.shape (search rules) ∙ ap₂ with_rule (c.in_ok-arg.ensures.shape (search rules) ∙ ap₂ with_rule bare_is live_is) read_is) dir_is) c.arg-3.ensures
