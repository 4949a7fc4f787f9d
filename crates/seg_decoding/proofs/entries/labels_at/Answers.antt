use Rattle.std.proofs.Common.{Some, ap, ◌∙◌, sym, arith}
use Rattle.seg_documents.proofs.Decoded.{labels_more}
use Rattle.seg_decoding.proofs.entries.labels_at.Goals as goal

pub path_of-requires-clause-some : goal.path_of-requires-clause-some
path_of-requires-clause-some g c = (c.requires c.loop-ord.ord-index 0 (omega arith)).0

pub path_of-requires-clause-within : goal.path_of-requires-clause-within
path_of-requires-clause-within g c = (c.requires c.loop-ord.ord-index 0 (omega arith)).1

pub loop-ord-preserved : goal.loop-ord-preserved
loop-ord-preserved g c =
    let labels = g.L.Labelled.labels c.args.labels.now in
    labels_more labels c.args.ordinals.now c.loop-ord.ord-index c.loop-ord.copies.items c.push.new.self.items c.in_ok-path.path (omega arith) c.loop-ord.invariant
    (c.path_of.ensures ∙ ap Some (sym c.in_ok-path.ensures)) c.in_ok-push.ensures.items
