use Rattle.std.proofs.Common.{◌∙◌, sym, subst}
use mathlib.Core.List.{IsPrefix}
use Rattle.chronicle.proofs.Prefixes.{prefix_trans}
use Rattle.taxo_adding.proofs.Growing.{labels_begin}
use Rattle.taxo_writer.proofs.writer.TaxoWriter.snapshot_from.Goals as goal

pub view_from-view-requires : goal.view_from-view-requires
view_from-view-requires g c = record {
  last = subst (IsPrefix _) (sym (c.into_list-list.ensures.same ∙ c.take.ensures.value.0))
      (prefix_trans _ _ _ c.requires.last (labels_begin c.args.token.now.seen c.take.new.token.seen c.take.ensures.more.0));
}
