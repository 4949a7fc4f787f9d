-- The line of the opened store.
use Rattle.std.proofs.Common.{◌≡◌, ◌∙◌, ℕ, List, ◌++◌, ap, sym}
use Rattle.std.specs.Prelude.{codes}
use Rattle.std.specs.Fmt.{decimal, digits}
use Rattle.std.proofs.lemmas.List.{append_assoc}
use Rattle.json.specs.Print.{escape_byte}
use Rattle.facet_replies.specs.ReplyLines.{json_line}
use Rattle.live_lines.specs.FaultLines.{opened_line}

pub opened_is : (documents labels : ℕ) → codes "{\"line\":1,\"opened\":[" ++ (decimal documents ++ (codes "," ++ (decimal labels ++ codes "]}\n"))) ≡ opened_line (documents, labels)
unfolding opened_line json_line escape_byte digits
opened_is documents labels =
    let list : List ℕ = decimal documents ++ (codes "," ++ (decimal labels ++ codes "]")) in
    let ends = append_assoc (codes "[" ++ list) (codes "}") (codes "\n") in
    let first = append_assoc (decimal documents) (codes "," ++ (decimal labels ++ codes "]")) (codes "}\n") in
    let second = append_assoc (decimal labels) (codes "]") (codes "}\n") in
    sym (ap (λ (l : List ℕ). codes "{\"line\":1,\"opened\":" ++ l) (ends ∙ ap (λ (l : List ℕ). codes "[" ++ l) (first ∙ ap (λ (l : List ℕ). decimal documents ++ (codes "," ++ l)) second)))
