use Rattle.std.proofs.Common.{map, slice_get, Some, ◌≡◌, ◌<◌, ◌∙◌, ◌+◌, take, length, sym, ap, arith}
use Rattle.std.proofs.lemmas.List.{take_all}
use Rattle.facet_names.specs.Labels.{place, prefixes, stands}
use Rattle.facet_names.proofs.LabelLists.{label_at}
use Rattle.seg_documents.proofs.Ordinals.{one_ordinal_more}
use Rattle.seg_documents.proofs.Prefixes.{prefix_stands}
use Rattle.seg_decoding.proofs.resolving.resolve.Goals as goal
use Rattle.facet_names.proofs.Fronts.{as_many_prefixes, prefix_at}

pub unwrap-ord-requires : goal.unwrap-ord-requires
unwrap-ord-requires c =
    let lt : c.loop-n.n < length c.args.path.now = omega (arith, c.loop-n-test.true, c.len-n-end.ensures.len) in
    c.find.ensures.there ∙ ap (stands c.args.labels.now) c.in_ok-prefix.ensures ∙ prefix_stands c.args.path.now c.loop-n.n lt c.args.labels.now c.requires

pub loop-n-preserved : goal.loop-n-preserved
loop-n-preserved c =
    let path = c.args.path.now in
    let n = c.loop-n.n in
    let lt : n < length path = omega (arith, c.loop-n-test.true, c.len-n-end.ensures.len) in
    let at : place c.args.labels.now (take (n + 1) path) ≡ Some c.unwrap-ord.result = ap (place c.args.labels.now) (sym c.in_ok-prefix.ensures) ∙ sym c.find.ensures.ordinal ∙ c.unwrap-ord.ensures in
    one_ordinal_more c.args.labels.now c.loop-n.ords.items c.push.new.self.items (prefixes path) n c.unwrap-ord.result (take (n + 1) path) (omega (arith, lt, as_many_prefixes path)) (prefix_at path n lt) c.loop-n.invariant (label_at c.args.labels.now c.unwrap-ord.result (take (n + 1) path) at) c.in_ok-push.ensures.items

pub returns-clause-ordinals : goal.returns-clause-ordinals
returns-clause-ordinals c =
    ap (map (slice_get c.args.labels.now)) c.new.ensures ∙ c.loop-n.invariant ∙ ap (map Some) (take_all c.loop-n.n (prefixes c.args.path.now) (omega (arith, as_many_prefixes c.args.path.now, c.loop-n-test.false, c.len-n-end.ensures.len)))
