-- A tally that goes on.
use Rattle.std.proofs.Common.{◌≡◌, ◌∙◌, List, [], ◌++◌, ap, sym, subst, append_assoc, append-nil}
use Rattle.std.proofs.lemmas.List.{map-append}
use Rattle.facet_output.specs.Answered.{Answered}
use Rattle.facet_replies.specs.Replies.{Reply}
use Rattle.generator.specs.Tallies.{IsTallyOf}
use Rattle.generator.specs.declared.tally.Tally.{Tally}
use Rattle.facet_serving.specs.Alike.{replies_of}

-- These replies were added after those that it had.
abbrev pub GoesOn : Tally → Tally → List Answered → Type 0
GoesOn before now answered =
    (earlier : List Reply) → IsTallyOf earlier before → IsTallyOf (earlier ++ replies_of answered) now

pub goes_on_none : (t : Tally) → GoesOn t t []
goes_on_none t earlier is = subst (λ (l : List Reply). IsTallyOf l t) (sym (append-nil earlier)) is

pub goes_on_then : (a b c : Tally) (xs ys : List Answered) → GoesOn a b xs → GoesOn b c ys → GoesOn a c (xs ++ ys)
goes_on_then a b c xs ys p q earlier is =
    let both : replies_of (xs ++ ys) ≡ replies_of xs ++ replies_of ys =
    map-append {B = Reply} (λ (x : Answered). x.reply) xs ys in
    subst (λ (l : List Reply). IsTallyOf l c)
    (append_assoc earlier (replies_of xs) (replies_of ys) ∙ ap (λ (l : List Reply). earlier ++ l) (sym both))
    (q (earlier ++ replies_of xs) (p earlier is))
