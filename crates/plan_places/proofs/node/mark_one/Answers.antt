use Rattle.std.proofs.Common.{◌≡◌, ◌∙◌, ap, sym}
use Rattle.seg_postings.specs.Rising.{is_in}
use Rattle.seg_postings.specs.Sets.{either}
use Rattle.place_bits.specs.Words.{with_places}
use Rattle.plan_places.specs.Nodes.{leaf_left, planned}
use Rattle.plan_places.specs.Planned.{Planned}
use Rattle.plan_places.specs.declared.node.Kind.{Kind}
use Rattle.plan_places.proofs.Marked.{below_each, marked_places}
use Rattle.plan_places.proofs.node.mark_one.Goals as goal

pub mark-requires-clause-room : goal.mark-requires-clause-room
mark-requires-clause-room c = λ n among.
    let left : c.args.node.left ≡ leaf_left c.in-Term.leaf = ap (λ (p : Planned). p.left) (sym c.node.view_is) ∙ ap (λ (k : Kind). (planned k).left) c.in-Term.is in
    c.requires n (ap (is_in n) (left ∙ ap leaf_left (sym c.in-Term.leaf-is)) ∙ among)

pub mark-requires-in_default : goal.mark-requires-in_default
mark-requires-in_default c =
    let left : c.new-places.result ≡ c.args.node.left = c.new-places.ensures.left ∙ ap (λ (p : Planned). p.left) c.node.view_is in
    below_each _ c.new-places.result (λ n among. c.requires n (ap (is_in n) (sym left) ∙ among))

pub returns-in_default : goal.returns-in_default
returns-in_default c =
    let left : c.new-places.result ≡ c.args.node.left = c.new-places.ensures.left ∙ ap (λ (p : Planned). p.left) c.node.view_is in
    marked_places c.args.bits.now c.mark-in_default.new.self c.args.node.left (c.mark-in_default.ensures.marked ∙ ap (λ xs. with_places (either c.args.bits.now.places xs) c.args.bits.now) left)
