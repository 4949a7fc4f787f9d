use Rattle.std.proofs.Common.{arith, rules, ◌≡◌, length, sym, subst}
use Rattle.facet_names.specs.Labels.{prefixes}
use Rattle.taxo_cache.specs.Seen.{labels_of}
use Rattle.taxo_adding.specs.Adding.{HaveOrdinals}
use Rattle.taxo_adding.proofs.Several.{all_found}
use Rattle.taxo_writer.proofs.writer.TaxoWriter.find_known.Goals as goal

pub offer-requires-clause-ordinals : goal.offer-requires-clause-ordinals
offer-requires-clause-ordinals g c =
    let path = c.args.path.now in
    let ords = c.in_ok-ords-2.ords.items in
    let many : c.len.result ≡ length ords = search rules in
    let size : length ords ≡ length path = omega (arith, many, c.if-len.false, c.len-2.ensures.len) in
    subst (HaveOrdinals (labels_of c.find_shared.new.token.seen) (prefixes path)) (sym c.deref.ensures.value) (all_found (labels_of c.find_shared.new.token.seen) path ords size c.in_ok-ords-2.ensures.known)
