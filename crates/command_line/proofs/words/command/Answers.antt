use Rattle.std.proofs.Common.{rules, ap, ap₂, ◌≡◌, ◌∙◌, Some}
use Rattle.std.proofs.lemmas.Result.{IfOk-weaker}
use Rattle.clap.specs.Words.{app_of, rule_of, with_rule}
use Rattle.clap.specs.declared.builder.value_parser.ValueParser.TheVariants.{Unsigned}
use Rattle.command_line.specs.Words.{bare, dir_rule, generate_rule, sessions_rule}
use Rattle.command_line.proofs.words.command.Goals as goal

pub returns : goal.returns
returns c =
    let many : c.value_parser-generate.result.value_parser ≡ Some (Unsigned 1 1000000) =
    c.value_parser-generate.ensures.given.1 ∙ ap Some (c.value_parser-generate.ensures.given.2 ∙ c.unsigned.ensures) in
    let few : c.value_parser-sessions.result.value_parser ≡ Some (Unsigned 1 8) =
    c.value_parser-sessions.ensures.given.1 ∙ ap Some (c.value_parser-sessions.ensures.given.2 ∙ c.unsigned-2.ensures) in
    let generate_is : rule_of c.value_parser-generate.result ≡ generate_rule = search rules in
    let sessions_is : rule_of c.value_parser-sessions.result ≡ sessions_rule = search rules in
    let dir_is : rule_of c.required-dir.result ≡ dir_rule = search rules in
    let bare_is : app_of c.disable_help_flag.result ≡ bare = search rules in
    IfOk-weaker c.arg-3.result _ _ (λ r h. h.shape (search rules) ∙ ap₂ with_rule
    (c.in_ok-arg-2.ensures.shape (search rules) ∙ ap₂ with_rule (c.in_ok-arg.ensures.shape (search rules) ∙ ap₂ with_rule bare_is generate_is) sessions_is) dir_is) c.arg-3.ensures
