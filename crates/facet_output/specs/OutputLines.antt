-- The bytes of a script's output.
use Rattle.std.specs.Prelude.{ℕ, List, ◌++◌, length, drop, flat_map, map}
use Rattle.facet_model.specs.Histories.{Operation}
use Rattle.facet_replies.specs.LastLine.{last_line as line_of}
use Rattle.facet_replies.specs.ReplyLines.{reply_line}
use Rattle.facet_output.specs.Answered.{Answered}
use Rattle.facet_output.specs.Output.{Opened}

abbrev pub answered_line : Answered → List ℕ
answered_line a = reply_line a.order.session a.order.line a.reply

-- the lines of the replies, in order
abbrev pub reply_lines : List Answered → List ℕ
reply_lines answered = flat_map answered_line answered

-- the labels that were added, how many documents and labels were opened, and the sessions of the operations after the
-- opened ones
abbrev pub last_line : Opened → List (List (List ℕ)) → List Operation → List ℕ
last_line opened labels history = line_of (length opened.docs) (length opened.labels) labels
    (map (λ (o : Operation). o.session) (drop (length opened.docs) history))

-- the bytes that an invocation writes if it carries out all commands
abbrev pub output_bytes : Opened → List (List (List ℕ)) → List Operation → List Answered → List ℕ
output_bytes opened labels history answered = reply_lines answered ++ last_line opened labels history
