use Rattle.std.proofs.Common.{◌≡◌, ◌∙◌, ap, subst, sym}
use Rattle.sha2.specs.Sha256.{sha256}
use Rattle.commit_file.specs.LiveParts.{LivePart}
use Rattle.facet_model.specs.Stored.{Records}
use Rattle.seg_file.specs.Live.{with_dead}
use Rattle.store_opening.specs.Newest.{IsNamedAs}
use Rattle.store_opening.proofs.Thinned.{thinned_named}
use Rattle.store_opening.proofs.index.read_document_part.Goals as goal

pub returns-in_ok-thinned-in-Ok-clause-named : goal.returns-in_ok-thinned-in-Ok-clause-named
returns-in_ok-thinned-in-Ok-clause-named g c =
    let config = c.args.config.now in
    let labels = c.args.labels.now in
    let part : LivePart = c.args.part.now in
    let stored : Records = c.in-Ok.stored in
    let opened = c.in-Ok.ensures in
    let seen = c.part.view_is in
    let same : c.in_ok-thinned-in-Ok.field-0 ≡ with_dead stored part.dead = c.in_ok-thinned-in-Ok.ensures ∙ ap (with_dead stored) (c.deref.ensures.value ∙ ap (λ (p : LivePart). p.dead) seen) in
    subst (IsNamedAs config labels part) (sym same)
    (thinned_named config labels part c.requires.part stored (opened.number ∙ ap (λ (p : LivePart). p.part.documents) seen) opened.some (ap sha256 opened.bytes ∙ c.in_ok-bytes.ensures.digest ∙ ap (λ (p : LivePart). p.part.digest) seen) opened.own opened.decodes)
