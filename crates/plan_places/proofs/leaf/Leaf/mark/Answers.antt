use Rattle.std.proofs.Common.{◌≡◌, ◌∙◌, ◌++◌, ◌∷◌, ◌*◌, ap, sym, subst}
use Rattle.std.specs.Option.{option_to_list}
use Rattle.place_bits.specs.Words.{Marked, AreBelow}
use Rattle.seg_postings.specs.Rising.{is_in}
use Rattle.plan_places.specs.Marks.{AreMarkedToo}
use Rattle.plan_places.specs.Nodes.{leaf_left}
use Rattle.plan_places.proofs.Marked.{below_each, marked_leaf}
use Rattle.plan_places.proofs.leaf.Leaf.mark.Goals as goal
use Rattle.seg_postings.proofs.Members.{here_in, later_in}

pub add-requires : goal.add-requires
add-requires c =
    let left : leaf_left c.args.self ≡ c.in-Some.head ∷ c.args.self.cursor = ap (λ o. option_to_list o ++ c.args.self.cursor) c.in-Some.is in
    c.requires.room c.in-Some.head (ap (λ xs. is_in c.in-Some.head xs) left ∙ here_in c.in-Some.head c.args.self.cursor)

pub mark-requires : goal.mark-requires
mark-requires c =
    let left : leaf_left c.args.self ≡ c.in-Some.head ∷ c.args.self.cursor = ap (λ o. option_to_list o ++ c.args.self.cursor) c.in-Some.is in
    let words : c.add.new.self.words ≡ c.args.bits.now.words = ap (λ (m : Marked). m.words) c.add.ensures in
    subst (λ n. AreBelow (64 * n) c.args.self.cursor) (sym words)
    (below_each (64 * c.args.bits.now.words) c.args.self.cursor (λ n among. c.requires.room n (ap (is_in n) left ∙ later_in n c.in-Some.head c.args.self.cursor among)))

pub returns : goal.returns
returns c =
    let left : leaf_left c.args.self ≡ c.in-Some.head ∷ c.args.self.cursor = ap (λ o. option_to_list o ++ c.args.self.cursor) c.in-Some.is in
    subst (λ xs. AreMarkedToo xs c.mark.new.self c.args.bits.now) (sym left) (marked_leaf c.args.bits.now c.add.new.self c.mark.new.self c.in-Some.head c.args.self.cursor c.add.ensures c.mark.ensures.marked)
