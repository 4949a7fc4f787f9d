use Rattle.std.proofs.Common.{arith, ap, sym, ◌≡◌, ◌∙◌, ◌++◌, ◌∷◌, [], List, map, true, get_or, cond, ltb}
use Rattle.std.proofs.lemmas.Bool.{lt-ltb}
use Rattle.std.proofs.lemmas.List.{map-append}
use Rattle.facet_model.specs.Listing.{PartCount, counted_child}
use Rattle.facet_counts.specs.Children.{entry_of}
use Rattle.facet_counts.proofs.children.note.Goals as goal

pub returns-in_ok-push : goal.returns-in_ok-push
returns-in_ok-push c =
    let entry : PartCount = entry_of c.args.view.now c.args.totals.now c.args.child in
    let some : ltb 0 (get_or c.args.totals.now c.args.child 0) ≡ true = lt-ltb 0 (get_or c.args.totals.now c.args.child 0) (omega arith) in
    let noted : ◌≡◌ {A = List PartCount} (counted_child c.in_ok-one.one ∷ []) (cond (ltb 0 (get_or c.args.totals.now c.args.child 0)) (entry ∷ []) []) =
    (λ t. c.in_ok-one.ensures t ∷ []) ∙ ap (λ b. cond b (entry ∷ []) []) (sym some) in
    ap (map counted_child) c.in_ok-push.ensures.items ∙ map-append counted_child c.args.children.now.items _ ∙ ap (λ l. map counted_child c.args.children.now.items ++ l) noted
