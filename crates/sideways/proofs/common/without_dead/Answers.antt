use Rattle.std.proofs.Common.{◌≡◌, ◌∙◌, ◌+◌, ◌/◌, length, ap, sym, subst}
use Rattle.std.proofs.lemmas.Bool.{eqb-true}
use Rattle.place_bits.specs.Words.{Marked}
use Rattle.plan_places.specs.Marks.{AreMarkedToo, IsMarkable}
use Rattle.seg_postings.specs.Sets.{without}
use Rattle.query_eval.proofs.Living.{without_nothing}
use Rattle.sideways.proofs.Shared.{dead_left, dead_room}
use Rattle.sideways.proofs.common.without_dead.Goals as goal
use Rattle.std.proofs.lemmas.List.{nil_from_length}

pub mark-requires : goal.mark-requires
mark-requires c = subst (IsMarkable c.in_ok-marked.marked) (sym c.listed.ensures) (dead_room c.args.docs c.args.dead.now c.in_ok-marked.marked c.requires.below c.in_ok-marked.ensures)

pub leave-requires : goal.leave-requires
leave-requires c = c.requires.words ∙ sym (c.mark.ensures.words ∙ ap (λ (m : Marked). m.words) c.in_ok-marked.ensures)

pub returns-then-is_empty-clause-places : goal.returns-then-is_empty-clause-places
returns-then-is_empty-clause-places c =
    let empty : length c.args.dead.now ≡ 0 = eqb-true (length c.args.dead.now) 0 (sym c.is_empty.ensures ∙ c.if-is_empty.true) in
    sym (ap (without c.args.set.places) (nil_from_length c.args.dead.now empty) ∙ without_nothing c.args.set.places)

pub returns-clause-places : goal.returns-clause-places
returns-clause-places c =
    dead_left c.args.dead.now c.in_ok-marked.marked c.mark.new.bits c.args.set c.leave.new.self ((c.args.docs + 63) / 64) c.in_ok-marked.ensures
    (subst (λ xs. AreMarkedToo xs c.mark.new.bits c.in_ok-marked.marked) c.listed.ensures c.mark.ensures) c.requires.set c.leave.ensures.rising c.leave.ensures.left
