use Rattle.std.proofs.Common.{sym, subst}
use Rattle.std.proofs.lemmas.List.Elements.{All-more}
use Rattle.seg_documents.specs.Entries.{IsShort}
use Rattle.seg_documents.proofs.Ordinals.{one_path_resolved}
use Rattle.seg_documents.proofs.Prefixes.{stays}
use Rattle.seg_decoding.proofs.resolving.resolve_all.Goals as goal

pub loop-path-preserved : goal.loop-path-preserved
loop-path-preserved c = record {
  resolved = one_path_resolved c.args.labels.now c.args.labels.now (stays c.args.labels.now) c.args.paths.now c.loop-path.resolved.items c.push.new.self.items c.loop-path.path-index c.path-item.result c.in_ok-ordinals.ordinals c.loop-path-test.true (sym c.path-item.is) c.loop-path.invariant.resolved c.in_ok-ordinals.ensures.ordinals c.in_ok-push.ensures.items;
  short = All-more IsShort c.args.paths.now c.loop-path.path-index c.path-item.result c.loop-path-test.true c.loop-path.invariant.short (subst IsShort c.path-item.is c.resolve.ensures.short);
}
