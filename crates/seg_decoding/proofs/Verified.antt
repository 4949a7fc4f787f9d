-- A segment whose records are right and whose pairs are its documents' is what is written for them.
use Rattle.std.proofs.Common.{◌≡◌, ℕ, ◌≤◌, List, [], ◌∷◌, length, map, Ok, refl, sym, subst}
use Rattle.std.specs.List.{AllByRecursion}
use Rattle.facet_model.specs.Flags.{Config}
use Rattle.facet_model.specs.Stored.{Stored, Records, IsSegmentOf}
use Rattle.facet_model.specs.Terms.{terms_of}
use Rattle.facet_names.proofs.LabelLists.{Labels}
use Rattle.facet_names.specs.Labels.{IsLabelList}
use Rattle.seg_grammar.specs.Spelling.{seg_bytes, IsSegment, IsTerm}
use Rattle.std.proofs.lemmas.List.{length-map}
use Rattle.seg_documents.specs.Decoding.{doc_in}
use Rattle.seg_decoding.specs.Opening.{opened, documents_fit, counted_anew, rebuilt, stored_segment}
use Rattle.seg_decoding.specs.Pairs.{AreTheirs, IsRight}
use Rattle.seg_decoding.proofs.Compared.{agrees, decodes}
use Rattle.seg_decoding.proofs.Differences.{none_from_same}
use Rattle.seg_decoding.proofs.Fitting.{Fits, documents_fit_where}
use Rattle.seg_decoding.proofs.Pairs.{terms_are}
use Rattle.std.proofs.lemmas.List.Elements.{recursion_from_All}

module _ (config : Config) (known : Labels) (needs : ℕ) where
  each_fits : (rs : List Stored) → AllByRecursion (IsRight config known needs) rs → AllByRecursion (Fits config known needs) rs
  each_fits [] all = tt
  each_fits (r ∷ rs) all = (record { leaves = recursion_from_All _ r.leaves all.0.leaves; accepted = all.0.accepted }, each_fits rs all.1)

  each_anew : (rs : List Stored) → AllByRecursion (IsRight config known needs) rs → map (counted_anew config known) rs ≡ rs
  each_anew [] all = refl
  each_anew (r ∷ rs) all = let counted = sym all.0.counted in λ i. record { id = r.id; text = r.text; leaves = r.leaves; counted = counted i } ∷ each_anew rs all.1 i

  module _ (documents : ℕ) (bytes : List ℕ) (s : Records) (is : IsSegment bytes s) (right : AllByRecursion (IsRight config known needs) s.records) (theirs : AreTheirs (map (doc_in known) s.records) s.terms) where
    own_terms : s.terms ≡ terms_of (map (doc_in known) s.records)
    own_terms = terms_are (map (doc_in known) s.records) s.terms is.rise (subst (λ (n : ℕ). AllByRecursion (IsTerm n) s.terms) (sym (length-map s.records (doc_in known))) is.terms) theirs

    pub right_fits : documents_fit config known needs 12 s.records ≡ Ok (tt {0})
    right_fits = documents_fit_where config known needs 12 s.records (each_fits s.records right)

    own_records : map (counted_anew config known) s.records ≡ s.records
    own_records = each_anew s.records right

    own_rebuilt : s ≡ rebuilt config known s.records
    own_rebuilt = λ i. record { records = sym own_records i; terms = own_terms i; dead = is.live i }

    spelled_own : IsSegment (seg_bytes s) s
    spelled_own = subst (λ (bs : List ℕ). IsSegment bs s) is.spelled is

    -- opening answers it
    pub verified_opens : opened documents bytes ≡ Ok s → stored_segment config known needs documents bytes ≡ Ok s
    verified_opens read = agrees config known needs documents bytes s read s is right_fits own_rebuilt spelled_own (none_from_same (seg_bytes s) 0)

    pub verified_decodes : opened documents bytes ≡ Ok s → IsLabelList known → needs ≤ length known → IsSegmentOf known config s (map (doc_in known) s.records)
    verified_decodes read list low = decodes config known needs documents bytes s read s is right_fits own_rebuilt spelled_own (none_from_same (seg_bytes s) 0) list low
