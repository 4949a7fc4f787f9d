use Rattle.std.proofs.Common.{◌≡◌, ℕ, List, [], ◌∷◌, ◌++◌, map, sym, ap, ◌∙◌}
use Rattle.facet_model.specs.CountedPaths.{counted_ordinals}
use Rattle.facet_model.specs.Documents.{Doc}
use Rattle.facet_model.specs.Stored.{Stored}
use Rattle.seg_decoding.specs.Facts.{label_of}
use Rattle.seg_documents.proofs.Decoded.{labels_at}
use Rattle.seg_decoding.proofs.facts.counted_alone.Goals as goal

pub returns : goal.returns
returns c =
    let known = c.args.labels.now in
    let leaves : c.deref.result.now ≡ c.args.ord ∷ [] = c.deref.ensures.value ∙ c.in_ok-push.ensures.items ∙ ap (λ (xs : List ℕ). xs ++ c.args.ord ∷ []) c.in_ok-leaves.ensures.items in
    ap (λ (x : Stored). x.counted) c.in_ok-entry.ensures.stored
    ∙ ap (counted_ordinals known c.args.config.now) (ap (λ (d : Doc). d.labels) c.in_ok-document.ensures.ok ∙ sym (labels_at known c.deref.result.now c.in_ok-paths.paths.items c.in_ok-paths.ensures) ∙ ap (map (label_of known)) leaves)
