-- What is written in answer to items.
use Rattle.std.proofs.Common.{◌≡◌, ◌∙◌, ℕ, ◌+◌, List, [], ◌∷◌, ◌++◌, length, refl, sym, ap, arith, append_assoc, append-nil, length-append}
use Rattle.facet_output.specs.Answered.{Answered}
use Rattle.facet_output.specs.OutputLines.{reply_lines}
use Rattle.live_lines.specs.FaultLines.{opened_line}
use Rattle.live_lines.specs.Items.{Item}
use Rattle.live_serving.specs.Lines.{fault_lines, item_lines, live_lines, said}

-- the replies to later items change nothing
pub lines_stay : (items : List Item) (replies more : List (List Answered)) → length replies ≡ length items → live_lines items (replies ++ more) ≡ live_lines items replies
lines_stay [] replies more as_many = refl
lines_stay (item ∷ items) [] more as_many = absurd (omega arith)
lines_stay (item ∷ items) (answered ∷ replies) more as_many = ap (λ l. item_lines item answered ++ l) (lines_stay items replies more (omega arith))

pub said_stays : (opened : ℕ × ℕ) (items : List Item) (replies more : List (List Answered)) → length replies ≡ length items → said opened items (replies ++ more) ≡ said opened items replies
said_stays opened items replies more as_many = ap (λ l. opened_line opened ++ l) (lines_stay items replies more as_many)

lines_more : (items : List Item) (replies : List (List Answered)) (item : Item) (answered : List Answered) → length replies ≡ length items
    → live_lines (items ++ item ∷ []) (replies ++ answered ∷ []) ≡ live_lines items replies ++ item_lines item answered
lines_more [] [] item answered as_many = append-nil (item_lines item answered)
lines_more [] (r ∷ replies) item answered as_many = absurd (omega arith)
lines_more (i ∷ items) [] item answered as_many = absurd (omega arith)
lines_more (i ∷ items) (r ∷ replies) item answered as_many =
    ap (λ l. item_lines i r ++ l) (lines_more items replies item answered (omega arith)) ∙ sym (append_assoc (item_lines i r) (live_lines items replies) (item_lines item answered))

-- one item more, its faults and its replies
pub said_more : (opened : ℕ × ℕ) (items : List Item) (replies : List (List Answered)) (item : Item) (answered : List Answered) → length replies ≡ length items
    → said opened (items ++ item ∷ []) (replies ++ answered ∷ []) ≡ (said opened items replies ++ fault_lines item) ++ reply_lines answered
said_more opened items replies item answered as_many =
    ap (λ l. opened_line opened ++ l) (lines_more items replies item answered as_many)
    ∙ sym (append_assoc (opened_line opened) (live_lines items replies) (item_lines item answered))
    ∙ sym (append_assoc (said opened items replies) (fault_lines item) (reply_lines answered))

pub as_many_more : (items : List Item) (replies : List (List Answered)) (item : Item) (answered : List Answered) → length replies ≡ length items → length (replies ++ answered ∷ []) ≡ length (items ++ item ∷ [])
as_many_more items replies item answered as_many = omega (arith, length-append replies (answered ∷ []), length-append items (item ∷ []))
