-- What holds of the records of segments that decode.
use Rattle.std.proofs.Common.{◌≡◌, ℕ, zero, suc, ◌+◌, ◌-◌, ◌<◌, Bool, true, false, not, ◌&&◌, ◌==◌, List, [], ◌∷◌, length, map, get_or, slice_get, take, Option, Some, None, option_map, refl, sym, ap, subst, ◌∙◌, arith}
use Rattle.std.specs.Prelude.{All, nat_le, filter_map, if◌then◌else◌}
use Rattle.std.specs.List.{AllZip, AllByRecursion, cons_option, enumerate_from, list_any}
use Rattle.std.specs.Str.{bytes_eq}
use Rattle.std.proofs.lemmas.Bool.{leb-false}
use Rattle.std.proofs.lemmas.Option.{get_or_from_slice_get, slice_get_within}
use Rattle.facet_names.specs.Labels.{IsLabelList, place}
use Rattle.facet_names.proofs.LabelLists.{Labels, place_at, root_first}
use Rattle.facet_model.specs.Accepts.{Accepts, Broken, broken_at, no_component, not_hierarchical, not_multi_valued}
use Rattle.facet_model.specs.Documents.{Doc, dim_of}
use Rattle.facet_model.specs.Flags.{Config, flags}
use Rattle.facet_model.specs.Stored.{Stored, Records, AreLabelsAt, IsRecordOf, IsSegmentOf, Decodes, alive}
use Rattle.seg_documents.specs.Decoding.{records_in}
use Rattle.seg_documents.proofs.Live.{each_alive, records_first}
use Rattle.std.proofs.lemmas.List.Elements.{All-from_recursion}
use Rattle.facet_model.proofs.Each.{each_append}

-- the record is a document's
abbrev pub IsOfDoc : Labels → Config → Stored → Type 0
IsOfDoc known config r = (doc : Doc) × IsRecordOf known config r doc

zip_each : (known : Labels) (config : Config) (rs : List Stored) (docs : List Doc) → AllZip (IsRecordOf known config) rs docs → AllByRecursion (IsOfDoc known config) rs
zip_each known config [] [] all = tt
zip_each known config [] (d ∷ ds) all = absurd all
zip_each known config (r ∷ rs) [] all = absurd all
zip_each known config (r ∷ rs) (d ∷ ds) all = ((d, all.0), zip_each known config rs ds all.1)

pieces_each : (known : Labels) (config : Config) (segments : List Records) (pieces : List (List Doc)) → AllZip (IsSegmentOf known config) segments pieces → AllByRecursion (IsOfDoc known config) (records_in segments)
pieces_each known config [] [] all = tt
pieces_each known config [] (p ∷ ps) all = absurd all
pieces_each known config (s ∷ ss) [] all = absurd all
pieces_each known config (s ∷ ss) (p ∷ ps) all = subst (AllByRecursion (IsOfDoc known config)) (sym (records_first s ss))
    (each_append (IsOfDoc known config) (alive s.dead s.records) (records_in ss) (each_alive (IsOfDoc known config) s.dead s.records (zip_each known config s.records p all.0.records)) (pieces_each known config ss ps all.1))

-- each record is a document's
pub records_are : (known : Labels) (config : Config) (segments : List Records) (docs : List Doc) → Decodes known config segments docs → All (IsOfDoc known config) (records_in segments)
records_are known config segments docs d = All-from_recursion (IsOfDoc known config) (records_in segments) (pieces_each known config segments d.0 d.1)

-- ---- labels of a document that a config accepts

long_where : (config : Config) (labels : Labels) (at : ℕ) (label : List (List ℕ)) → broken_at config labels (at, label) ≡ None → 1 < length label
long_where config labels at label fits = by (nat_le (length label) 1) refl fits
  where
    rest : Option Broken
    rest = if not (flags config (dim_of label)).hierarchical && not (length label == 2) then Some (not_hierarchical at (length label - 1)) else (if not (flags config (dim_of label)).multi_valued && list_any (λ l. bytes_eq (dim_of l) (dim_of label)) (take at labels) then Some (not_multi_valued at) else None)

    by : (short : Bool) → nat_le (length label) 1 ≡ short → (if short then Some (no_component at) else rest) ≡ None → 1 < length label
    by true e fits = absurd cc
    by false e fits = leb-false (length label) 1 e

long_from : (config : Config) (all : Labels) (n : ℕ) (labels : Labels) → slice_get (filter_map (broken_at config all) (enumerate_from n labels)) 0 ≡ None → (k : ℕ) → k < length labels → 1 < length (get_or labels k [])
long_from config all n [] none k lt = absurd (omega arith)
long_from config all n (label ∷ labels) none k lt = by (broken_at config all (n, label)) refl none (λ rest at low. long_from config all (n + 1) labels rest at low) k lt
  where
    others : List Broken
    others = filter_map (broken_at config all) (enumerate_from (n + 1) labels)

    by : (o : Option Broken) → broken_at config all (n, label) ≡ o → slice_get (cons_option o others) 0 ≡ None → (slice_get others 0 ≡ None → (k : ℕ) → k < length labels → 1 < length (get_or labels k []))
        → (k : ℕ) → k < length (label ∷ labels) → 1 < length (get_or (label ∷ labels) k [])
    by (Some broken) is none behind k lt = absurd cc
    by None is none behind zero lt = long_where config all n label is
    by None is none behind (suc k) lt = behind none k (omega arith)

-- each has a component after its dimension
each_long : (config : Config) (doc : Doc) → Accepts config doc → (k : ℕ) → k < length doc.labels → 1 < length (get_or doc.labels k [])
each_long config doc accepted = long_from config doc.labels 0 doc.labels accepted

-- ---- leaves

leaf_is : (known : Labels) (leaves : List ℕ) (labels : Labels) → AreLabelsAt known leaves labels → (k d : ℕ) → k < length leaves → (k < length labels) × (slice_get known (get_or leaves k d) ≡ Some (get_or labels k []))
leaf_is known [] labels at k d lt = absurd (omega arith)
leaf_is known (o ∷ os) [] at k d lt = absurd cc
leaf_is known (o ∷ os) (l ∷ ls) at zero d lt = let head : slice_get known o ≡ Some l = cc in (omega arith, head)
leaf_is known (o ∷ os) (l ∷ ls) at (suc k) d lt = let tail : map (slice_get known) os ≡ map Some ls = cc in let rest = leaf_is known os ls tail k d (omega arith) in (omega (arith, rest.0), rest.1)

after_root : (known : Labels) → IsLabelList known → (ord : ℕ) (label : List (List ℕ)) → slice_get known ord ≡ Some label → 0 < length label → 0 < ord
after_root known list zero label at some = absurd (omega (arith, some, ap length (sym (get_or_from_slice_get known zero label [] at) ∙ root_first known list [])))
after_root known list (suc ord) label at some = omega arith

-- the leaves are ordinals of labels after the root
pub leaves_within : (known : Labels) (config : Config) (r : Stored) → IsLabelList known → IsOfDoc known config r → All (λ ord. (0 < ord) × (ord < length known)) r.leaves
leaves_within known config r list of k d lt =
    let leaf = leaf_is known r.leaves of.0.labels of.1.labels k d lt in
    let long = each_long config of.0 of.1.accepted k leaf.0 in
    (after_root known list (get_or r.leaves k d) (get_or of.0.labels k []) leaf.1 (omega (arith, long)), slice_get_within known (get_or r.leaves k d) (get_or of.0.labels k []) leaf.1)

pub places_are : (known : Labels) → IsLabelList known → (leaves : List ℕ) (labels : Labels) → AreLabelsAt known leaves labels → map (place known) labels ≡ map Some leaves
places_are known list [] [] at = refl
places_are known list [] (l ∷ ls) at = absurd cc
places_are known list (o ∷ os) [] at = absurd cc
places_are known list (o ∷ os) (l ∷ ls) at =
    let head : slice_get known o ≡ Some l = cc in
    let tail : map (slice_get known) os ≡ map Some ls = cc in
    λ i. place_at known list o l head i ∷ places_are known list os ls tail i

-- ---- the document at a place

pub map_get : {A B : Type 0} (f : A → B) (xs : List A) (i : ℕ) → slice_get (map f xs) i ≡ option_map f (slice_get xs i)
map_get f [] zero = refl
map_get f [] (suc i) = refl
map_get f (x ∷ xs) zero = refl
map_get f (x ∷ xs) (suc i) = map_get f xs i
