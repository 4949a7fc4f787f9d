use Rattle.std.proofs.Common.{◌≡◌, ◌∙◌, ap, sym}
use Rattle.seg_postings.specs.Rising.{is_in}
use Rattle.plan_places.specs.Nodes.{planned}
use Rattle.plan_places.specs.Planned.{Planned, any_of}
use Rattle.plan_places.specs.declared.node.Kind.{Kind}
use Rattle.plan_places.proofs.node.PlanNode.mark.Goals as goal

pub mark_each-requires : goal.mark_each-requires
mark_each-requires c = λ n among.
    let left : c.args.self.left ≡ any_of c.in-Any.children.items = ap (λ (p : Planned). p.left) (sym c.self.view_is) ∙ ap (λ (k : Kind). (planned k).left) c.in-Any.is in
    c.requires n (ap (is_in n) (left ∙ ap (λ v. any_of v.items) (sym c.in-Any.children-is)) ∙ among)
