-- What is built for documents is opened again.
use Rattle.std.proofs.Common.{◌<◌, ℕ, List, [], ◌∷◌, length}
use Rattle.std.specs.Prelude.{All}
use Rattle.std.specs.List.{AllZip, AllByRecursion}
use Rattle.facet_names.specs.Labels.{IsLabelList}
use Rattle.facet_names.proofs.LabelLists.{Labels}
use Rattle.facet_model.specs.Documents.{Doc}
use Rattle.facet_model.specs.Flags.{Config}
use Rattle.facet_model.specs.Stored.{Stored, Records, IsRecordOf}
use Rattle.seg_decoding.specs.Laws.{OpensAgain, OpensLater}
use Rattle.seg_documents.proofs.Decoded.{segment_stays}
use Rattle.seg_decoding.proofs.Opened.{opened_again}
use Rattle.seg_documents.proofs.Stored.{leaves_within}
use Rattle.std.proofs.lemmas.List.Elements.{recursion_from_All}

low_each : (needs : ℕ) (rs : List Stored) → AllByRecursion (λ r. All (λ leaf. leaf < needs) r.leaves) rs → AllByRecursion (λ r. AllByRecursion (λ leaf. leaf < needs) r.leaves) rs
low_each needs [] all = tt
low_each needs (r ∷ rs) all = (recursion_from_All (λ leaf. leaf < needs) r.leaves all.0, low_each needs rs all.1)

pub opens_again : (config : Config) (known : Labels) (needs : ℕ) (s : Records) → OpensAgain config known needs s
opens_again config known needs s docs list of is low = opened_again config known needs list s docs of is (low_each needs s.records (recursion_from_All (λ r. All (λ leaf. leaf < needs) r.leaves) s.records low))

module _ (config : Config) (view known : Labels) where
  view_each : IsLabelList view → (rs : List Stored) (docs : List Doc) → AllZip (IsRecordOf view config) rs docs → AllByRecursion (λ r. AllByRecursion (λ leaf. leaf < length view) r.leaves) rs
  view_each list [] docs all = tt
  view_each list (r ∷ rs) [] all = absurd all
  view_each list (r ∷ rs) (d ∷ ds) all = (recursion_from_All (λ leaf. leaf < length view) r.leaves (λ k e lt. (leaves_within view config r list (d, all.0) k e lt).1), view_each list rs ds all.1)

  pub opens_later : (s : Records) → OpensLater config view known s
  opens_later s docs list_view list on of is =
      opened_again config known (length view) list s docs (segment_stays config view known list_view list on s docs of) is (view_each list_view s.records docs of.records)
