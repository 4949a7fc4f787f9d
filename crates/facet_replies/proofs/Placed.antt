-- The line of a document's place.
use Rattle.std.proofs.Common.{◌≡◌, ◌∙◌, ℕ, List, ◌++◌, ap, sym}
use Rattle.std.specs.Prelude.{codes}
use Rattle.std.specs.Fmt.{decimal}
use Rattle.std.proofs.lemmas.List.{append_assoc}
use Rattle.json.specs.Print.{escape_byte}
use Rattle.facet_replies.specs.Replies.{placed}
use Rattle.facet_replies.specs.ReplyLines.{json_line, reply_data}

pub placed_text : (session line at : ℕ) → codes "{\"at\":" ++ (decimal at ++ (codes ",\"line\":" ++ (decimal line ++ (codes ",\"s\":" ++ (decimal session ++ codes "}\n"))))) ≡ json_line (reply_data session line (placed at))
unfolding json_line reply_data escape_byte
placed_text session line at =
    let end : List ℕ = decimal session ++ codes "}" in
    let rest : List ℕ = decimal line ++ (codes ",\"s\":" ++ end) in
    let last = append_assoc (decimal session) (codes "}") (codes "\n") in
    let middle = append_assoc (decimal line) (codes ",\"s\":" ++ end) (codes "\n") ∙ ap (λ l. decimal line ++ (codes ",\"s\":" ++ l)) last in
    let first = append_assoc (decimal at) (codes ",\"line\":" ++ rest) (codes "\n") ∙ ap (λ l. decimal at ++ (codes ",\"line\":" ++ l)) middle in
    sym (ap (λ l. codes "{\"at\":" ++ l) first)
