use Rattle.std.proofs.Common.{◌∙◌, ap, arith}
use Rattle.std.proofs.lemmas.Result.{IfOk-weaker}
use Rattle.seg_postings.specs.Sets.{without}
use Rattle.sideways.proofs.Shared.{all_common, node_room, none_common, one_common}
use Rattle.sideways.proofs.common.in_common.Goals as goal

pub loop-node-init : goal.loop-node-init
loop-node-init c = none_common c.args.docs c.args.nodes.items c.requires.within.0 c.requires.within.1 c.in_ok-common.common c.fill.new.self c.requires.within.2 c.requires.within.3 c.in_ok-common.ensures c.fill.ensures

pub mark-requires : goal.mark-requires
mark-requires c = node_room c.args.docs c.args.nodes.items c.loop-node.nodes.items c.pop.new.self.items c.in-Some.node c.loop-node.common c.loop-node.invariant c.in-Some.ensures.items c.in_ok-marked.marked c.in_ok-marked.ensures

pub loop-node-preserved : goal.loop-node-preserved
loop-node-preserved c =
    one_common c.args.docs c.args.nodes.items c.loop-node.nodes.items c.pop.new.self.items c.in-Some.node c.loop-node.common c.loop-node.invariant c.in-Some.ensures.items c.in_ok-marked.marked c.mark.new.bits c.keep.new.self c.in_ok-marked.ensures
    c.mark.ensures c.keep.ensures.words c.keep.ensures.rising c.keep.ensures.kept

pub without_dead-requires : goal.without_dead-requires
without_dead-requires c = record { words = c.loop-node.invariant.words; set = c.loop-node.invariant.rising; rise = c.requires.rise; below = c.requires.below }

pub returns-clause-words : goal.returns-clause-words
returns-clause-words c = IfOk-weaker c.without_dead.result _ _ (λ b is. is ∙ c.loop-node.invariant.words) c.without_dead.ensures.words

pub returns-clause-places : goal.returns-clause-places
returns-clause-places c = IfOk-weaker c.without_dead.result _ _ (λ b is. λ among test same are.
    is ∙ ap (λ xs. without xs c.args.dead.now) (all_common c.args.docs c.args.nodes.items c.loop-node.nodes.items c.loop-node.common c.loop-node.invariant (omega (arith, c.in_default.ensures.cases.0, c.loop-node.nodes.ok.0)) among test same are)) c.without_dead.ensures.places
