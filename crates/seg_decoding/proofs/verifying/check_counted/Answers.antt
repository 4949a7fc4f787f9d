use Rattle.std.proofs.Common.{◌≡◌, eqb, sym, ap, ◌∙◌}
use Rattle.std.specs.List.{dedup}
use Rattle.std.proofs.lemmas.List.Filters.{dedup_is}
use Rattle.facet_config.proofs.Expanded.{once_members}
use Rattle.seg_postings.specs.Rising.{is_in}
use Rattle.seg_grammar.specs.Lookups.{record_of}
use Rattle.seg_decoding.proofs.Rights.{is_in_any}
use Rattle.seg_decoding.proofs.verifying.check_counted.Goals as goal

pub returns-then-are_same : goal.returns-then-are_same
returns-then-are_same c ord =
    let is : c.dedup.new.self.items ≡ dedup eqb c.sort_unstable.new.self.items = dedup_is eqb c.sort_unstable.new.self.items c.dedup.new.self.items c.dedup.ensures.filtered in
    let stored : (record_of c.args.segment.now c.args.doc).counted ≡ c.dedup.new.self.items = sym c.counted.ensures ∙ c.are_same.ensures c.if-are_same.true ∙ c.deref.ensures.value in
    ap (is_in ord) stored ∙ is_in_any ord c.dedup.new.self.items ∙ once_members c.args.ords.now.items c.sort_unstable.new.self.items c.dedup.new.self.items c.sort_unstable.ensures.permutation is ord ∙ sym (is_in_any ord c.args.ords.now.items)
