use Rattle.std.proofs.Common.{arith, ◌∙◌, ◌<◌, ◌+◌, take, length, ap, sym}
use Rattle.facet_names.specs.Labels.{prefixes, place}
use Rattle.taxo_cache.specs.Seen.{labels_of}
use Rattle.taxo_adding.proofs.Ordinals.{as_many_ordinals, ordinal_at}
use Rattle.taxo_writer.proofs.writer.TaxoWriter.remember_from.Goals as goal
use Rattle.facet_names.proofs.Fronts.{as_many_prefixes, prefix_at}

pub remember_at-requires-clause-within : goal.remember_at-requires-clause-within
remember_at-requires-clause-within g c =
    let path = c.args.path.now in
    let many = as_many_ordinals (labels_of c.args.token.now.seen) (prefixes path) c.args.ords.now c.requires.ordinals in
    omega (arith, many, as_many_prefixes path, c.loop-n-test.true)

pub remember_at-requires-clause-there : goal.remember_at-requires-clause-there
remember_at-requires-clause-there g c =
    let path = c.args.path.now in
    let n = c.loop-n.n in
    let many = as_many_ordinals (labels_of c.args.token.now.seen) (prefixes path) c.args.ords.now c.requires.ordinals in
    let lt : n < length path = omega (arith, many, as_many_prefixes path, c.loop-n-test.true) in
    ap (λ t. place (labels_of t.seen) (take (n + 1) path)) c.loop-n.invariant
    ∙ ap (place (labels_of c.args.token.now.seen)) (sym (prefix_at path n lt))
    ∙ ordinal_at (labels_of c.args.token.now.seen) (prefixes path) c.args.ords.now c.requires.ordinals n 0 (take (n + 1) path) (omega (arith, lt, as_many_prefixes path))
