use Rattle.std.proofs.Common.{◌≡◌, ◌∙◌, List, sym, subst}
use Rattle.std.specs.List.{AllZip}
use Rattle.std.proofs.lemmas.List.{map-id}
use Rattle.std.proofs.lemmas.Iterator.Adapters.{YieldsList-from_vec}
use Rattle.std.proofs.lemmas.Iterator.Consumers.{YieldsList-turn, YieldsList-end}
use Rattle.plan_places.specs.Planned.{Planned}
use Rattle.sideways.specs.Counted.{IsMarkedBy}
use Rattle.sideways.proofs.Shared.{markable_here, marked_by}
use Rattle.sideways.proofs.common.marked_each.Goals as goal
use Rattle.std.proofs.lemmas.Slice.Zip.{all_zipped_more}

pub mark-requires : goal.mark-requires
mark-requires c =
    let turn = YieldsList-turn (YieldsList-from_vec c.args.nodes.items (cc) (cc)) c.loop-node.yielded _ c.loop-node.yielded_by c.next.result c.next.new.self c.in-Some.node c.in-Some.is c.next.ensures.steps in
    markable_here c.args.docs c.args.nodes.items _ c.in-Some.node c.in_ok-marked.marked c.requires turn.0 turn.1 c.in_ok-marked.ensures

pub loop-node-preserved : goal.loop-node-preserved
loop-node-preserved c =
    subst (AllZip (IsMarkedBy c.args.docs) _) (sym c.in_ok-push.ensures.items)
    (all_zipped_more (IsMarkedBy c.args.docs) c.loop-node.yielded c.loop-node.sets.items c.in-Some.node c.mark.new.bits c.loop-node.invariant (marked_by c.args.docs c.in-Some.node c.in_ok-marked.marked c.mark.new.bits c.in_ok-marked.ensures c.mark.ensures))

pub returns : goal.returns
returns c =
    let y : List Planned = c.loop-node.yielded in
    let end = YieldsList-end (YieldsList-from_vec c.args.nodes.items (cc) (cc)) y _ c.loop-node.yielded_by c.next.result c.next.new.self c.in-None.is c.next.ensures.steps in
    let all : y ≡ c.args.nodes.items = sym (map-id y) ∙ end.0 in
    subst (λ (l : List Planned). AllZip (IsMarkedBy c.args.docs) l c.loop-node.sets.items) all c.loop-node.invariant
