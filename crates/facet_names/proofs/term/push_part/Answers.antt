use Rattle.std.proofs.Common.{arith, ◌++◌, ap, ◌∙◌, take, string_bytes}
use Rattle.std.proofs.lemmas.Str.{encode_ascii}
use Rattle.std.proofs.lemmas.Result.{on_err_weaker}
use Rattle.facet_names.specs.Terms.{HasSome, escaped}
use Rattle.facet_names.proofs.TermTexts.{some_behind, some_first}
use Rattle.facet_names.proofs.term.push_part.Goals as goal
use Rattle.facet_names.proofs.term.push_part.Goals.{then-at-gt0+in_ok-push, else-at-gt0}

pub returns-clause-err : goal.returns-clause-err
returns-clause-err c =
    let old = string_bytes c.args.text.now in
    let mid = string_bytes c.if-at-gt0.text in
    let new = string_bytes c.push_escaped.new.text in
    on_err_weaker c.push_escaped.result
    (λ (some : HasSome (escaped c.args.part.now) mid new). elim c.if-at-gt0.branch [
      | then-at-gt0+in_ok-push w ↦ some_behind c.args.at c.args.part.now old mid new w.if-at-gt0.true (ap string_bytes w.text-is ∙ w.in_ok-push.ensures.bytes ∙ ap (λ t. old ++ t) (encode_ascii 31 (omega arith))) some
      | else-at-gt0 w ↦ some_first c.args.at c.args.part.now old new (omega (arith, w.if-at-gt0.false)) (some.0, some.1 ∙ ap (λ t. string_bytes t ++ take some.0 (escaped c.args.part.now)) w.text-is)
    ])
    c.push_escaped.ensures.err
