-- The document at a place of stored segments.
use Rattle.std.proofs.Common.{◌≡◌, ◌∙◌, ◌<◌, ℕ, List, length, slice_get, Option, Some, None, option_map, refl, sym, ap, subst}
use Rattle.std.specs.Prelude.{All}
use Rattle.std.proofs.lemmas.Option.{get_or_from_slice_get, slice_get_within}
use Rattle.facet_names.specs.Labels.{GoesOn, IsLabelList}
use Rattle.facet_names.proofs.LabelLists.{Labels}
use Rattle.facet_model.specs.Documents.{Doc}
use Rattle.facet_model.specs.Flags.{Config}
use Rattle.facet_model.specs.Stored.{Stored, Records, AreLabelsAt, Decodes}
use Rattle.facet_output.specs.Replies.{shown, refused, no_such_document}
use Rattle.facet_output.specs.Replying.{IsShown}
use Rattle.seg_documents.specs.Decoding.{doc_in, records_in}
use Rattle.seg_documents.proofs.Decoded.{decoded, record_is}
use Rattle.seg_documents.proofs.Ordinals.{all_stay}
use Rattle.seg_documents.proofs.Stored.{IsOfDoc, records_are, places_are, leaves_within, map_get}

module _ (config : Config) (view : Labels) (segments : List Records) (docs : List Doc) (list_view : IsLabelList view) (decodes : Decodes view config segments docs) (at : ℕ) where
  seen : slice_get docs at ≡ option_map (doc_in view) (slice_get (records_in segments) at)
  seen = ap (λ l. slice_get l at) (sym (decoded view config segments docs decodes)) ∙ map_get (doc_in view) (records_in segments) at

  of_doc : (r : Stored) → slice_get (records_in segments) at ≡ Some r → IsOfDoc view config r
  of_doc r is = subst (IsOfDoc view config) (get_or_from_slice_get (records_in segments) at r r is) (records_are view config segments docs decodes at r (slice_get_within (records_in segments) at r is))

  -- its leaves are ordinals of labels behind the root
  pub leaves_at : (r : Stored) → slice_get (records_in segments) at ≡ Some r → All (λ ord. (0 < ord) × (ord < length view)) r.leaves
  leaves_at r is = leaves_within view config r list_view (of_doc r is)

  -- the document of the record is shown, under any labels that go on from these
  pub shown_at : (labels : Labels) (n : ℕ) (r : Stored) → IsLabelList labels → GoesOn view labels → slice_get (records_in segments) at ≡ Some r
      → IsShown labels n docs at (slice_get docs at) (shown (record { operations = n; at = at; doc = doc_in view r; ordinals = r.leaves }))
  shown_at labels n r list on is =
      let of = of_doc r is in
      let own : AreLabelsAt view r.leaves (doc_in view r).labels = subst (λ (d : Doc). AreLabelsAt view r.leaves d.labels) (sym (record_is view config r of.0 of.1)) of.1.labels in
      subst (λ (o : Option Doc). IsShown labels n docs at o (shown (record { operations = n; at = at; doc = doc_in view r; ordinals = r.leaves }))) (sym (seen ∙ ap (option_map (doc_in view)) is))
      (r.leaves, places_are labels list r.leaves (doc_in view r).labels (all_stay view labels on r.leaves (doc_in view r).labels own), refl)

  -- there is none
  pub none_at : (labels : Labels) (n count : ℕ) → count ≡ length docs → slice_get (records_in segments) at ≡ None → IsShown labels n docs at (slice_get docs at) (refused (no_such_document count))
  none_at labels n count many is = subst (λ (o : Option Doc). IsShown labels n docs at o (refused (no_such_document count))) (sym (seen ∙ ap (option_map (doc_in view)) is)) (ap (λ k. refused (no_such_document k)) many)
