use Rattle.std.proofs.Common.{◌≡◌, List, length, Some, ◌+◌, ◌*◌, ◌<◌, ◌≤◌, ap, sym, subst, ◌∙◌, arith}
use Rattle.seg_postings.specs.Rising.{IsRising, first_of}
use Rattle.plan_places.specs.Planned.{Planned, moved_to, all_nodes}
use Rattle.plan_places.specs.Nodes.{IsPlanned, planned, conjunction_nodes}
use Rattle.plan_places.proofs.Unions.{moved_more, kept_nodes, rising_any, leaf_of, any_is, conjunction_is}
use Rattle.plan_places.proofs.Choices.{ahead_starts, ahead_first, ahead_same, ahead_goes, ahead_left, ahead_nodes, ahead_shorter, found_first, none_first, empty_first, rising_chosen, chosen_excluded, chosen_here, same_itself, same_moved, same_length}
use Rattle.plan_places.proofs.Choices.{AreMet, met_starts, met_back, met_more, met_none, met_later, met_nodes}
use Rattle.plan_places.proofs.+at_least.Goals as goal
use Rattle.plan_places.proofs.+at_least.Goals.{node::PlanNode::at_least-in-Range, node::PlanNode::at_least-in-Term, node::PlanNode::at_least-in-Listed, node::PlanNode::at_least-in-Any, node::PlanNode::at_least-in-All}

pub conjunction::Conjunction::at_least-returns-in_err-first-clause-rising : goal.conjunction::Conjunction::at_least-returns-in_err-first-clause-rising
conjunction::Conjunction::at_least-returns-in_err-first-clause-rising t c =
    rising_chosen _ _ _ (subst (λ (p : Planned). IsRising p.left) c.deref_mut.ensures.value c.at_least.ensures.rising)

pub conjunction::Conjunction::at_least-returns-in_err-first-clause-first : goal.conjunction::Conjunction::at_least-returns-in_err-first-clause-first
conjunction::Conjunction::at_least-returns-in_err-first-clause-first t c =
    rw c.from_residual.ensures (empty_first c.at_least.new.self _ _ (sym c.in_err-first.ensures.first))

pub conjunction::Conjunction::at_least-returns-in_err-first-clause-moved : goal.conjunction::Conjunction::at_least-returns-in_err-first-clause-moved
conjunction::Conjunction::at_least-returns-in_err-first-clause-moved t c =
    let old = c.args.self.now in
    let is : c.at_least.new.self ≡ moved_to c.args.place old.lead.value = c.at_least.ensures.moved ∙ ap (moved_to c.args.place) c.deref_mut.ensures.value in
    let rises : IsRising old.lead.value.left = subst (λ (p : Planned). IsRising p.left) c.deref_mut.ensures.value c.at_least.ensures.rising in
    let ahead = ahead_starts c.args.place c.at_least.new.self old.lead.value old.others.items old.excluded.items is rises in
    record { left = ahead_left _ _ _ _ _ _ _ _ ahead; nodes = ahead_nodes _ _ _ _ _ _ _ _ ahead }

pub conjunction::Conjunction::at_least-loop-next-init : goal.conjunction::Conjunction::at_least-loop-next-init
conjunction::Conjunction::at_least-loop-next-init t c =
    let old = c.args.self.now in
    let is : c.at_least.new.self ≡ moved_to c.args.place old.lead.value = c.at_least.ensures.moved ∙ ap (moved_to c.args.place) c.deref_mut.ensures.value in
    let rises : IsRising old.lead.value.left = subst (λ (p : Planned). IsRising p.left) c.deref_mut.ensures.value c.at_least.ensures.rising in
    let ahead = ahead_starts c.args.place c.at_least.new.self old.lead.value old.others.items old.excluded.items is rises in
    let head : first_of c.at_least.new.self.left ≡ Some c.in_ok-first.first = sym c.in_ok-first.ensures.first in
    (ahead_first _ _ _ _ _ _ _ _ _ ahead head, head)

pub conjunction::Conjunction::at_least-chosen-requires : goal.conjunction::Conjunction::at_least-chosen-requires
conjunction::Conjunction::at_least-chosen-requires t c =
    let d : 4 * conjunction_nodes c.args.self.now + 3 ≡ t = c.decreases in
    let n = ahead_nodes _ _ _ _ _ _ _ _ c.loop-next.invariant.0 in
    let lt : 4 * (all_nodes c.loop-next.self.others.items + all_nodes c.loop-next.self.excluded.items) + 2 < t = omega (arith, d, n) in
    (lt, tt)

pub conjunction::Conjunction::at_least-returns-in_err-next-clause-rising : goal.conjunction::Conjunction::at_least-returns-in_err-next-clause-rising
conjunction::Conjunction::at_least-returns-in_err-next-clause-rising t c = rising_chosen _ _ _ c.loop-next.invariant.0.rising

pub conjunction::Conjunction::at_least-returns-in_err-next-clause-first : goal.conjunction::Conjunction::at_least-returns-in_err-next-clause-first
conjunction::Conjunction::at_least-returns-in_err-next-clause-first t c =
    rw c.from_residual-in_err-next.ensures (none_first _ _ _ _ _ _ _ c.loop-next.invariant.0.left c.chosen.ensures.others c.chosen.ensures.excluded c.in_err-next.ensures.next)

pub conjunction::Conjunction::at_least-returns-in_err-next-clause-moved : goal.conjunction::Conjunction::at_least-returns-in_err-next-clause-moved
conjunction::Conjunction::at_least-returns-in_err-next-clause-moved t c =
    let ahead = ahead_same _ _ _ _ _ _ _ _ _ _ c.loop-next.invariant.0 c.chosen.ensures.others c.chosen.ensures.excluded in
    record { left = ahead_left _ _ _ _ _ _ _ _ ahead; nodes = ahead_nodes _ _ _ _ _ _ _ _ ahead }

pub conjunction::Conjunction::at_least-returns-then-next-first-clause-rising : goal.conjunction::Conjunction::at_least-returns-then-next-first-clause-rising
conjunction::Conjunction::at_least-returns-then-next-first-clause-rising t c = rising_chosen _ _ _ c.loop-next.invariant.0.rising

pub conjunction::Conjunction::at_least-returns-then-next-first-clause-first : goal.conjunction::Conjunction::at_least-returns-then-next-first-clause-first
conjunction::Conjunction::at_least-returns-then-next-first-clause-first t c =
    found_first c.args.place _ _ _ _ _ _ c.loop-next.invariant.1 c.chosen.ensures.others c.chosen.ensures.excluded (c.in_ok-next.ensures.next.found c.if-next-first.true)

pub conjunction::Conjunction::at_least-returns-then-next-first-clause-moved : goal.conjunction::Conjunction::at_least-returns-then-next-first-clause-moved
conjunction::Conjunction::at_least-returns-then-next-first-clause-moved t c =
    let ahead = ahead_same _ _ _ _ _ _ _ _ _ _ c.loop-next.invariant.0 c.chosen.ensures.others c.chosen.ensures.excluded in
    record { left = ahead_left _ _ _ _ _ _ _ _ ahead; nodes = ahead_nodes _ _ _ _ _ _ _ _ ahead }

pub conjunction::Conjunction::at_least-at_least-requires-in-loop-next : goal.conjunction::Conjunction::at_least-at_least-requires-in-loop-next
conjunction::Conjunction::at_least-at_least-requires-in-loop-next t c =
    let d : 4 * conjunction_nodes c.args.self.now + 3 ≡ t = c.decreases in
    let n = ahead_nodes _ _ _ _ _ _ _ _ c.loop-next.invariant.0 in
    let lt : 4 * c.deref_mut-in-loop-next.result.now.nodes < t = omega (arith, d, n, ap (λ (p : Planned). p.nodes) c.deref_mut-in-loop-next.ensures.value) in
    (lt, c.in_ok-next.ensures.fits)

pub conjunction::Conjunction::at_least-returns-in_err-first-2-clause-rising : goal.conjunction::Conjunction::at_least-returns-in_err-first-2-clause-rising
conjunction::Conjunction::at_least-returns-in_err-first-2-clause-rising t c = rising_chosen _ _ _ c.loop-next.invariant.0.rising

pub conjunction::Conjunction::at_least-returns-in_err-first-2-clause-first : goal.conjunction::Conjunction::at_least-returns-in_err-first-2-clause-first
conjunction::Conjunction::at_least-returns-in_err-first-2-clause-first t c =
    rw c.from_residual-in_err-first-2.ensures (empty_first c.at_least-in-loop-next.new.self _ _ (sym c.in_err-first-2.ensures.first))

pub conjunction::Conjunction::at_least-returns-in_err-first-2-clause-moved : goal.conjunction::Conjunction::at_least-returns-in_err-first-2-clause-moved
conjunction::Conjunction::at_least-returns-in_err-first-2-clause-moved t c =
    let is : c.at_least-in-loop-next.new.self ≡ moved_to c.in_ok-next.next c.loop-next.self.lead.value = c.at_least-in-loop-next.ensures.moved ∙ ap (moved_to c.in_ok-next.next) c.deref_mut-in-loop-next.ensures.value in
    let ahead = ahead_goes _ _ _ _ _ _ _ _ _ _ _ _ c.loop-next.invariant.0 c.chosen.ensures.others c.chosen.ensures.excluded c.in_ok-next.ensures.next is in
    record { left = ahead_left _ _ _ _ _ _ _ _ ahead; nodes = ahead_nodes _ _ _ _ _ _ _ _ ahead }

pub conjunction::Conjunction::at_least-loop-next-smaller : goal.conjunction::Conjunction::at_least-loop-next-smaller
conjunction::Conjunction::at_least-loop-next-smaller t c =
    let is : c.at_least-in-loop-next.new.self ≡ moved_to c.in_ok-next.next c.loop-next.self.lead.value = c.at_least-in-loop-next.ensures.moved ∙ ap (moved_to c.in_ok-next.next) c.deref_mut-in-loop-next.ensures.value in
    let from : c.loop-next.first ≤ c.in_ok-next.next = c.in_ok-next.ensures.next.from in
    ahead_shorter c.loop-next.first c.in_ok-next.next c.loop-next.self.lead.value c.at_least-in-loop-next.new.self _ is c.loop-next.invariant.1 (omega (arith, c.if-next-first.false)) (sym c.in_ok-first-2.ensures.first)

pub conjunction::Conjunction::at_least-loop-next-preserved : goal.conjunction::Conjunction::at_least-loop-next-preserved
conjunction::Conjunction::at_least-loop-next-preserved t c =
    let is : c.at_least-in-loop-next.new.self ≡ moved_to c.in_ok-next.next c.loop-next.self.lead.value = c.at_least-in-loop-next.ensures.moved ∙ ap (moved_to c.in_ok-next.next) c.deref_mut-in-loop-next.ensures.value in
    let ahead = ahead_goes _ _ _ _ _ _ _ _ _ _ _ _ c.loop-next.invariant.0 c.chosen.ensures.others c.chosen.ensures.excluded c.in_ok-next.ensures.next is in
    let head : first_of c.at_least-in-loop-next.new.self.left ≡ Some c.in_ok-first-2.first = sym c.in_ok-first-2.ensures.first in
    (ahead_first _ _ _ _ _ _ _ _ _ ahead head, head)

-- ---- the choice at one place

pub conjunction::chosen-returns-in_err-next-clause-excluded : goal.conjunction::chosen-returns-in_err-next-clause-excluded
conjunction::chosen-returns-in_err-next-clause-excluded t c = same_itself _ _

pub conjunction::chosen-returns-then-next-first-clause-excluded : goal.conjunction::chosen-returns-then-next-first-clause-excluded
conjunction::chosen-returns-then-next-first-clause-excluded t c = same_itself _ _

pub conjunction::chosen-returns-then-eq-clause-excluded : goal.conjunction::chosen-returns-then-eq-clause-excluded
conjunction::chosen-returns-then-eq-clause-excluded t c = same_moved _ _ _ c.any_at_least.ensures.moved

pub conjunction::chosen-returns-then-eq-clause-next : goal.conjunction::chosen-returns-then-eq-clause-next
conjunction::chosen-returns-then-eq-clause-next t c =
    chosen_excluded _ _ _ _ c.any_at_least.result c.any_at_least.ensures.rising c.any_at_least.ensures.first c.any_at_least.ensures.moved c.if-eq.ensures

pub conjunction::chosen-returns-clause-excluded : goal.conjunction::chosen-returns-clause-excluded
conjunction::chosen-returns-clause-excluded t c = same_moved _ _ _ c.any_at_least.ensures.moved

pub conjunction::chosen-returns-clause-next : goal.conjunction::chosen-returns-clause-next
conjunction::chosen-returns-clause-next t c =
    chosen_here _ _ _ _ _ c.any_at_least.result c.in_ok-next.ensures.next c.if-next-first.false c.any_at_least.ensures.rising c.any_at_least.ensures.first c.any_at_least.ensures.moved c.if-eq.ensures

-- ---- the others, one after the other

pub conjunction::meeting-loop-other-init : goal.conjunction::meeting-loop-other-init
conjunction::meeting-loop-other-init t c = subst (λ (xs : List Planned). AreMet c.args.first 0 xs c.args.others.now.items) (sym c.deref_mut-other-items.ensures.value) (met_starts _ _)

pub conjunction::meeting-at_least-requires : goal.conjunction::meeting-at_least-requires
conjunction::meeting-at_least-requires t c =
    let d : 4 * all_nodes c.args.others.now.items + 1 ≡ t = c.decreases in
    let n = met_nodes _ _ _ _ c.other-item.result c.loop-other.invariant (omega (arith, c.loop-other-test.true, ap length c.deref_mut-other-items.ensures.value, same_length _ _ _ c.loop-other.invariant.same)) in
    (omega (arith, d, n), omega arith)

pub conjunction::meeting-returns-in_err-next-clause-others : goal.conjunction::meeting-returns-in_err-next-clause-others
conjunction::meeting-returns-in_err-next-clause-others t c =
    met_back _ _ _ _ _ c.other-item.result _ c.loop-other.invariant (omega (arith, c.loop-other-test.true, ap length c.deref_mut-other-items.ensures.value, same_length _ _ _ c.loop-other.invariant.same)) c.at_least.ensures.moved (omega (arith, c.deref_mut-other-items.ensures.len, ap length c.deref_mut-other-items.ensures.value))

pub conjunction::meeting-returns-in_err-next-clause-next : goal.conjunction::meeting-returns-in_err-next-clause-next
conjunction::meeting-returns-in_err-next-clause-next t c =
    rw c.from_residual.ensures (met_none _ _ _ _ _ c.other-item.result c.loop-other.invariant (omega (arith, c.loop-other-test.true, ap length c.deref_mut-other-items.ensures.value, same_length _ _ _ c.loop-other.invariant.same)) c.at_least.ensures.moved c.in_err-next.ensures.first)

pub conjunction::meeting-returns-then-next-first-clause-others : goal.conjunction::meeting-returns-then-next-first-clause-others
conjunction::meeting-returns-then-next-first-clause-others t c =
    met_back _ _ _ _ _ c.other-item.result _ c.loop-other.invariant (omega (arith, c.loop-other-test.true, ap length c.deref_mut-other-items.ensures.value, same_length _ _ _ c.loop-other.invariant.same)) c.at_least.ensures.moved (omega (arith, c.deref_mut-other-items.ensures.len, ap length c.deref_mut-other-items.ensures.value))

pub conjunction::meeting-returns-then-next-first-clause-next : goal.conjunction::meeting-returns-then-next-first-clause-next
conjunction::meeting-returns-then-next-first-clause-next t c =
    met_later _ _ _ _ _ c.other-item.result _ c.loop-other.invariant (omega (arith, c.loop-other-test.true, ap length c.deref_mut-other-items.ensures.value, same_length _ _ _ c.loop-other.invariant.same)) c.at_least.ensures.moved c.at_least.ensures.rising c.in_ok-next.ensures.first c.if-next-first.true

pub conjunction::meeting-loop-other-preserved : goal.conjunction::meeting-loop-other-preserved
conjunction::meeting-loop-other-preserved t c =
    met_more _ _ _ _ _ c.other-item.result _ c.loop-other.invariant (omega (arith, c.loop-other-test.true, ap length c.deref_mut-other-items.ensures.value, same_length _ _ _ c.loop-other.invariant.same)) c.at_least.ensures.moved c.in_ok-next.ensures.first (omega (arith, c.if-next-first.false))

-- ---- any of the children

pub union::any_at_least-at_least-requires : goal.union::any_at_least-at_least-requires
union::any_at_least-at_least-requires t c =
    let d : 4 * all_nodes c.args.children.now.items + 1 ≡ t = c.decreases in
    (omega (arith, d, kept_nodes _ _ _ _ _ c.child-item.result c.loop-child.invariant (omega (arith, c.loop-child-test.true, ap length c.deref_mut-child-items.ensures.value, c.loop-child.invariant.long))), c.requires)

pub union::any_at_least-loop-child-preserved : goal.union::any_at_least-loop-child-preserved
union::any_at_least-loop-child-preserved t c =
    rw c.least-first.ensures (moved_more _ _ _ _ _ _ _ c.child-item.result c.loop-child.invariant (omega (arith, c.loop-child-test.true, ap length c.deref_mut-child-items.ensures.value, c.loop-child.invariant.long)) c.at_least.ensures.moved c.at_least.ensures.rising c.at_least.ensures.first)

-- ---- a node of any kind

pub node::PlanNode::at_least-returns-clause-rising : goal.node::PlanNode::at_least-returns-clause-rising
node::PlanNode::at_least-returns-clause-rising t c = elim c.match-self.branch [
  | node::PlanNode::at_least-in-Range w ↦ subst (λ (v : Planned). IsRising v.left) (ap planned (sym w.in-Range.is) ∙ c.self.view_is) w.at_least.ensures.rising
  | node::PlanNode::at_least-in-Term w ↦ subst (λ (v : Planned). IsRising v.left) (ap planned (sym w.in-Term.is) ∙ c.self.view_is) w.at_least-in-Term.ensures.rising
  | node::PlanNode::at_least-in-Listed w ↦ subst (λ (v : Planned). IsRising v.left) (ap planned (sym w.in-Listed.is) ∙ c.self.view_is) (subst IsPlanned w.in-Listed.is c.self.invariant)
  | node::PlanNode::at_least-in-Any w ↦ subst (λ (v : Planned). IsRising v.left) (ap planned (sym w.in-Any.is) ∙ c.self.view_is) (rising_any _ w.any_at_least.ensures.rising)
  | node::PlanNode::at_least-in-All w ↦ subst (λ (v : Planned). IsRising v.left) (ap planned (sym w.in-All.is) ∙ c.self.view_is) w.at_least-in-All.ensures.rising
]

pub node::PlanNode::at_least-returns-clause-moved : goal.node::PlanNode::at_least-returns-clause-moved
node::PlanNode::at_least-returns-clause-moved t c = elim c.match-self.branch [
  | node::PlanNode::at_least-in-Range w ↦ rw w.self-inside-is (ap leaf_of w.at_least.ensures.moved ∙ ap (moved_to c.args.place) (ap planned (sym w.in-Range.is) ∙ c.self.view_is))
  | node::PlanNode::at_least-in-Term w ↦ rw w.self-inside-is (ap leaf_of w.at_least-in-Term.ensures.moved ∙ ap (moved_to c.args.place) (ap planned (sym w.in-Term.is) ∙ c.self.view_is))
  | node::PlanNode::at_least-in-Listed w ↦ rw w.self-inside-is (ap leaf_of w.at_least-in-Listed.ensures.moved ∙ ap (moved_to c.args.place) (ap planned (sym w.in-Listed.is) ∙ c.self.view_is))
  | node::PlanNode::at_least-in-Any w ↦ rw w.self-inside-is (any_is c.args.place _ _ w.any_at_least.ensures.moved ∙ ap (moved_to c.args.place) (ap planned (sym w.in-Any.is) ∙ c.self.view_is))
  | node::PlanNode::at_least-in-All w ↦ rw w.self-inside-is (conjunction_is c.args.place _ _ w.at_least-in-All.ensures.moved ∙ ap (moved_to c.args.place) (ap planned (sym w.in-All.is) ∙ c.self.view_is))
]
