-- What shows that a record is right without making its document: label by label, and ordinal by ordinal.
use Rattle.std.proofs.Common.{◌≡◌, ℕ, suc, ◌+◌, ◌<◌, ◌≤◌, Bool, true, false, ◌||◌, List, [], ◌∷◌, ◌++◌, length, take, get_or, slice_get, Option, Some, None, refl, sym, ap, subst, ◌∙◌, arith, inl, inr}
use Rattle.std.specs.Prelude.{not, unwrap_or, filter_map, flat_map, ◌&&◌, ◌==◌, nat_eq, All}
use Rattle.std.specs.List.{enumerate_from, list_any, AllByRecursion}
use Rattle.std.specs.Option.{option_map_or}
use Rattle.std.specs.Str.{bytes_eq}
use Rattle.std.proofs.lemmas.Bool.{true≢false, cases_lt}
use Rattle.std.proofs.lemmas.List.{get_or_append_left, get_or_push, take-append-le, take_all, map_push, length-append}
use Rattle.std.proofs.lemmas.List.Folds.{list_any-append}
use Rattle.std.proofs.lemmas.Option.{get_or_from_slice_get, slice_get_within}
use Rattle.facet_names.specs.Labels.{prefixes}
use Rattle.facet_names.proofs.LabelLists.{Labels}
use Rattle.facet_model.specs.Accepts.{Accepts, Broken, broken_at}
use Rattle.facet_model.specs.CountedPaths.{is_counted, counted_ordinals}
use Rattle.facet_model.specs.Documents.{Doc, dim_of}
use Rattle.facet_model.specs.Flags.{Config, flags}
use Rattle.facet_model.specs.Stored.{Stored}
use Rattle.facet_model.proofs.Each.{each_append}
use Rattle.seg_postings.specs.Rising.{IsRising, is_in}
use Rattle.seg_terms.specs.Noting.{Table, path_terms}
use Rattle.seg_terms.proofs.Pieces.{one_more_label}
use Rattle.seg_decoding.specs.Answers.{IsLeaf}
use Rattle.seg_documents.specs.Decoding.{doc_in}
use Rattle.seg_decoding.specs.Facts.{AreFacts, AreSeen, AreUnbroken, HasFacts, IsNoted, IsUnbroken, label_of, labels_of, texts_at}
use Rattle.seg_decoding.specs.Pairs.{IsRight, Passes}
use Rattle.seg_decoding.specs.declared.facts.LabelFacts.{LabelFacts}
use Rattle.seg_file.proofs.PlacesOf.{are_places, is_in_places}
use Rattle.seg_decoding.proofs.Walked.{passes_more}
use Rattle.std.proofs.lemmas.List.Elements.{All-from_recursion}
use Rattle.live_records.proofs.Added.{is_in_append}

-- ---- labels that break nothing

none_broken : (f : ℕ × List (List ℕ) → Option Broken) (n : ℕ) (xs : Labels) → ((k : ℕ) → k < length xs → f (n + k, get_or xs k []) ≡ None) → filter_map f (enumerate_from n xs) ≡ []
none_broken f n [] none = refl
none_broken f n (x ∷ xs) none =
    let here : f (n, x) ≡ None = (let same : n ≡ n + 0 = omega arith in ap (λ (m : ℕ). f (m, x)) same ∙ none 0 (omega arith)) in
    rw here (none_broken f (n + 1) xs (λ k lt. let same : n + 1 + k ≡ n + suc k = omega arith in ap (λ (m : ℕ). f (m, get_or xs k [])) same ∙ none (suc k) (omega arith)))

accepted_where : (config : Config) (doc : Doc) → AreUnbroken config doc.labels → Accepts config doc
accepted_where config doc each = ap (λ bs. slice_get bs 0) (none_broken (broken_at config doc.labels) 0 doc.labels (λ k lt. at k (each k lt)))
  where
    at : (k : ℕ) → IsUnbroken config (take k doc.labels) (get_or doc.labels k []) → broken_at config doc.labels (0 + k, get_or doc.labels k []) ≡ None
    at k h = let same : 0 + k ≡ k = omega arith in ap (λ (m : ℕ). broken_at config doc.labels (m, get_or doc.labels k [])) same ∙ rw (h.long, h.flat, h.once) refl

unbroken_more : (config : Config) (labels : Labels) (label : List (List ℕ)) → AreUnbroken config labels → IsUnbroken config labels label → AreUnbroken config (labels ++ label ∷ [])
unbroken_more config labels label are is k lt = elim (cases_lt k (length labels)) [
  | inl low ↦
      let same : get_or (labels ++ label ∷ []) k [] ≡ get_or labels k [] = get_or_append_left labels (label ∷ []) [] k low in
      let front : take k (labels ++ label ∷ []) ≡ take k labels = take-append-le k labels (label ∷ []) (omega arith) in
      subst (λ l. IsUnbroken config (take k (labels ++ label ∷ [])) l) (sym same) (subst (λ ls. IsUnbroken config ls (get_or labels k [])) (sym front) (are k low))
  | inr high ↦
      let size : length (labels ++ label ∷ []) ≡ length labels + 1 = length-append labels (label ∷ []) in
      let last : length labels ≡ k = omega arith in
      let same : get_or (labels ++ label ∷ []) (length labels) [] ≡ label = get_or_push labels label [] (length labels) refl in
      let front : take (length labels) (labels ++ label ∷ []) ≡ labels = take-append-le (length labels) labels (label ∷ []) (omega arith) ∙ take_all (length labels) labels (omega arith) in
      subst (λ n. IsUnbroken config (take n (labels ++ label ∷ [])) (get_or (labels ++ label ∷ []) n [])) last
      (subst (λ l. IsUnbroken config (take (length labels) (labels ++ label ∷ [])) l) (sym same) (subst (λ ls. IsUnbroken config ls label) (sym front) is))
]

-- ---- ordinals that are counted

pub is_in_any : (q : ℕ) (xs : List ℕ) → is_in q xs ≡ list_any (nat_eq q) xs
is_in_any q [] = refl
is_in_any q (x ∷ xs) = ap (λ b. (q == x) || b) (is_in_any q xs)

any_more : (config : Config) (labels : Labels) (label : List (List ℕ)) (o : Option (List (List ℕ)))
    → option_map_or (is_counted config (labels ++ label ∷ [])) o false ≡ (option_map_or (is_counted config labels) o false || option_map_or (is_counted config (label ∷ [])) o false)
any_more config labels label None = refl
any_more config labels label (Some path) = list_any-append _ labels (label ∷ [])

counted_more : (config : Config) (known labels : Labels) (label : List (List ℕ)) (old own : List ℕ)
    → ((ord : ℕ) → is_in ord old ≡ option_map_or (is_counted config labels) (slice_get known ord) false) → own ≡ counted_ordinals known config (label ∷ [])
    → (ord : ℕ) → is_in ord (old ++ own) ≡ option_map_or (is_counted config (labels ++ label ∷ [])) (slice_get known ord) false
counted_more config known labels label old own before is ord =
    is_in_append ord old own
    ∙ (λ i. before ord i || (ap (is_in ord) is ∙ is_in_places ord (is_counted config (label ∷ [])) known) i)
    ∙ sym (any_more config labels label (slice_get known ord))

-- ---- label by label

-- what holds of each holds of the one that stands at a place
pub at_place : {A : Type 0} (P : A → Type 0) (xs : List A) (at : ℕ) (x : A) → AllByRecursion P xs → slice_get xs at ≡ Some x → P x
at_place P xs at x all e = subst P (get_or_from_slice_get xs at x x e) (All-from_recursion P xs all at x (slice_get_within xs at x e))

-- leaves below `needs` are labels where there are no fewer
pub low_leaves : (needs labels : ℕ) (leaves : List ℕ) → needs ≤ labels → AllByRecursion (IsLeaf needs) leaves → All (IsLeaf labels) leaves
low_leaves needs labels leaves low fit k d lt = let leaf = All-from_recursion (IsLeaf needs) leaves fit k d lt in (leaf.0, omega (arith, leaf.1, low))

module _ (config : Config) (known : Labels) (needs : ℕ) (terms : Table) (doc : ℕ) where
  pub seen_none : (start : List ℕ) → Passes terms doc [] start start → AreSeen config known terms doc [] [] start start
  seen_none start none = record { unbroken = λ k lt. absurd (omega arith); counted = λ ord. by (slice_get known ord); passes = none }
    where
      by : (o : Option (List (List ℕ))) → false ≡ option_map_or (is_counted config []) o false
      by None = refl
      by (Some path) = refl

  pub seen_more : (leaves counted start mid new : List ℕ) (f : LabelFacts) → AreFacts config known needs terms f
      → (not (flags config (dim_of (label_of known f.ord))).multi_valued && list_any (λ l. bytes_eq (dim_of l) (dim_of (label_of known f.ord))) (labels_of known leaves)) ≡ false
      → Passes terms doc (texts_at terms f.terms.items) mid new → AreSeen config known terms doc leaves counted start mid
      → AreSeen config known terms doc (leaves ++ f.ord ∷ []) (counted ++ f.counted) start new
  seen_more leaves counted start mid new f are once passes seen =
      let label : List (List ℕ) = label_of known f.ord in
      let labels : labels_of known (leaves ++ f.ord ∷ []) ≡ labels_of known leaves ++ label_of known f.ord ∷ [] = map_push (label_of known) leaves f.ord in
      let all : Passes terms doc (path_terms (flat_map prefixes (labels_of known leaves ++ label_of known f.ord ∷ []))) start new =
      subst (λ ts. Passes terms doc ts start new) (sym (one_more_label (labels_of known leaves) (label_of known f.ord)))
      (passes_more terms doc (path_terms (flat_map prefixes (labels_of known leaves))) (path_terms (prefixes (label_of known f.ord))) start mid new seen.passes (subst (λ ts. Passes terms doc ts mid new) are.texts passes)) in
      record {
        unbroken = subst (AreUnbroken config) (sym labels) (unbroken_more config (labels_of known leaves) label seen.unbroken (record { long = are.long; flat = are.flat; once = once }));
        counted = λ ord. counted_more config known (labels_of known leaves) label counted f.counted seen.counted are.counted ord ∙ ap (λ ls. option_map_or (is_counted config ls) (slice_get known ord) false) (sym labels);
        passes = subst (λ ls. Passes terms doc (path_terms (flat_map prefixes ls)) start new) (sym labels) all;
      }

  -- a label that may follow was noted
  pub seen_noted : (may : Bool) (leaves counted start mid leaves' counted' new : List ℕ) (f : LabelFacts) → AreFacts config known needs terms f
      → may ≡ (f.multi_valued || not (list_any (λ l. bytes_eq (dim_of l) (dim_of (label_of known f.ord))) (labels_of known leaves))) → may ≡ true
      → IsNoted terms doc f leaves counted mid leaves' counted' new → AreSeen config known terms doc leaves counted start mid → AreSeen config known terms doc leaves' counted' start new
  seen_noted may leaves counted start mid leaves' counted' new f are is holds noted seen =
      let any : Bool = list_any (λ l. bytes_eq (dim_of l) (dim_of (label_of known f.ord))) (labels_of known leaves) in
      let once : (not (flags config (dim_of (label_of known f.ord))).multi_valued && any) ≡ false = ap (λ m. not m && any) are.repeats ∙ alone f.multi_valued any (sym is ∙ holds) in
      subst (λ (ls : List ℕ). AreSeen config known terms doc ls counted' start new) (sym noted.last)
      (subst (λ (ns : List ℕ). AreSeen config known terms doc (leaves ++ f.ord ∷ []) ns start new) (sym noted.counted)
      (seen_more leaves counted start mid new f are once noted.passes seen))
    where
      alone : (own any : Bool) → (own || not any) ≡ true → (not own && any) ≡ false
      alone true any e = refl
      alone false true e = absurd (true≢false (sym e))
      alone false false e = refl

  -- it is a leaf as those before it
  pub fit_noted : (leaves counted mid leaves' counted' new : List ℕ) (f : LabelFacts) → AreFacts config known needs terms f → IsNoted terms doc f leaves counted mid leaves' counted' new
      → AllByRecursion (IsLeaf needs) leaves → AllByRecursion (IsLeaf needs) leaves'
  fit_noted leaves counted mid leaves' counted' new f are noted fit =
      subst (AllByRecursion (IsLeaf needs)) (sym noted.last) (each_append (IsLeaf needs) leaves (f.ord ∷ []) fit (are.leaf, tt))

  -- what is known of a label that was met, where it was looked up
  pub facts_met : (facts : List LabelFacts) (at ord : ℕ) (f : LabelFacts) → AllByRecursion (AreFacts config known needs terms) facts → HasFacts facts at ord → f ≡ get_or facts at f
      → AreFacts config known needs terms f × (f.ord ≡ ord)
  facts_met facts at ord f met has is =
      let same : f ≡ has.0 = is ∙ get_or_from_slice_get facts at has.0 f has.1 in
      (subst (AreFacts config known needs terms) (sym same) (at_place (AreFacts config known needs terms) facts at has.0 met has.1), ap (λ (x : LabelFacts). x.ord) same ∙ has.2)

-- ---- all of it

pub right_where : (config : Config) (known : Labels) (needs : ℕ) (terms : Table) (doc : ℕ) (r : Stored) (counted old new : List ℕ) → AllByRecursion (IsLeaf needs) r.leaves → AreSeen config known terms doc r.leaves counted old new
    → IsRising r.counted → ((ord : ℕ) → is_in ord r.counted ≡ is_in ord counted) → IsRight config known needs r
right_where config known needs terms doc r counted old new fit seen rise same = record {
  leaves = All-from_recursion (IsLeaf needs) r.leaves fit;
  accepted = accepted_where config (doc_in known r) seen.unbroken;
  counted = are_places (is_counted config (labels_of known r.leaves)) known r.counted rise (λ ord. same ord ∙ seen.counted ord);
}

-- ---- the dimension of a label

pub dim_is : (known : Labels) (ord : ℕ) (path : List (List ℕ)) (dim : List ℕ) → slice_get known ord ≡ Some path → slice_get path 0 ≡ Some dim → dim_of (label_of known ord) ≡ dim
dim_is known ord path dim at first = ap dim_of (get_or_from_slice_get known ord path [] at) ∙ ap (λ o. unwrap_or o []) first
