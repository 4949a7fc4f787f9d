-- Documents without a facet.
use Rattle.std.proofs.Common.{◌≡◌, ◌∙◌, ◌+◌, ℕ, List, [], ◌∷◌, false, filter, map, slice_get, Some, refl, sym, ap}
use Rattle.std.specs.Prelude.{filter_map, IsTrue}
use Rattle.std.specs.List.{list_all, enumerate_from}
use Rattle.facet_names.specs.Labels.{prefixes, stands}
use Rattle.facet_names.proofs.LabelLists.{Labels}
use Rattle.facet_model.specs.Accepts.{broken_at, Accepts}
use Rattle.facet_model.specs.CountedPaths.{counted_ordinals}
use Rattle.facet_model.specs.Flags.{Config}
use Rattle.facet_model.specs.Histories.{knows}
use Rattle.seg_terms.specs.declared.entry.Entry.{Entry}
use Rattle.seg_documents.specs.Entries.{IsEntry}

none_passes : (known : Labels) (n : ℕ) → filter (λ (_ : ℕ × List (List ℕ)). false) (enumerate_from n known) ≡ []
none_passes [] n = refl
none_passes (x ∷ xs) n = none_passes xs (n + 1)

-- its entry has no ordinal, whatever the labels are
pub bare_entry : (config : Config) (known : Labels) (e : Entry) → (e.doc.labels ≡ []) × (e.leaves.items ≡ []) × (e.counted ≡ []) → IsEntry config known e
bare_entry config known e bare =
    let knows_all : IsTrue (knows known e.doc) = ap (λ (ls : Labels). list_all (λ label. list_all (stands known) (prefixes label)) ls) bare.0 in
    let accepted : Accepts config e.doc = ap (λ (ls : Labels). slice_get (filter_map (broken_at config ls) (enumerate_from 0 ls)) 0) bare.0 in
    record {
      known = knows_all;
      stored = record {
        id = refl;
        text = refl;
        labels = ap (map (slice_get known)) bare.1 ∙ sym (ap (map Some) bare.0);
        prefixes = knows_all;
        accepted = accepted;
        counted = bare.2 ∙ sym (ap (counted_ordinals known config) bare.0 ∙ ap (map (λ (x : ℕ × List (List ℕ)). x.0)) (none_passes known 0));
      };
    }
