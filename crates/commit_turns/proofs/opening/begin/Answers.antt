use Rattle.std.proofs.Common.{◌≡◌, map, sym, subst}
use Rattle.std.specs.Arc.{arc_value}
use Rattle.facet_model.specs.Flags.{Config}
use Rattle.facet_model.specs.Stored.{Decodes}
use Rattle.seg_documents.specs.Decoding.{docs_in}
use Rattle.commit_store.specs.Committing.{HasFiles}
use Rattle.commit_store.specs.Promised.{IsHere}
use Rattle.store_opening.specs.Settled.{IsSettled}
use Rattle.commit_turns.proofs.opening.begin.Goals as goal

pub returns-clause-opened : goal.returns-clause-opened
returns-clause-opened g c =
    let d = g.D.Disk in
    let e = c.in_ok-committer.ensures in
    let k = c.in_ok-committer.field-0.committer in
    let labels = c.in_ok-committer.field-0.labels in
    let segments = map arc_value c.in_ok-committer.field-0.segments.items in
    let same : c.args.config ≡ k.config = sym e.unclosed.1 in
    record {
      quiet = e.quiet;
      still = e.still;
      unfailed = e.unfailed;
      unclosed = e.unclosed.0;
      has = λ s tells. subst (λ (config : Config). HasFiles config labels segments s.files) same (e.ok s tells);
      known = λ s tells. record { listed = e.listed s tells; named = e.named s tells; fresh = e.fresh s tells };
      committed = λ s tells settled. subst (λ (config : Config). IsHere d config k labels segments) same (e.committed s tells (subst (λ (config : Config). IsSettled d config s c.args.disk) (sym same) settled));
      list = e.list;
      decodes = subst (λ (config : Config). Decodes labels config segments (docs_in labels segments)) same e.decodes;
      own = e.own;
    }
