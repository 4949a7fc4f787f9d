-- What histories leave when they grow.
use Rattle.std.proofs.Common.{◌≡◌, ℕ, ◌+◌, Bool, true, false, List, [], ◌∷◌, ◌++◌, length, Option, Some, None, refl, sym, ap, ◌∙◌}
use Rattle.std.specs.Prelude.{not, fold, ◌&&◌}
use Rattle.std.specs.List.{list_all}
use Rattle.std.specs.Option.{option_map_or}
use Rattle.std.proofs.lemmas.Bool.{and_from, and_parts}
use Rattle.std.proofs.lemmas.List.{append_assoc, append-nil}
use Rattle.std.proofs.lemmas.List.Folds.{list_all-append}
use Rattle.std.proofs.lemmas.List.Sums.{fold-append, length-filter}
use Rattle.std.proofs.lemmas.List.Elements.{filter-append}
use Rattle.std.proofs.lemmas.List.Filters.{length-filter_both}
use Rattle.facet_model.specs.Documents.{Doc}
use Rattle.facet_model.specs.Histories.{Change, add, delete, replace, Operation, has_id, without, count_with, changed, docs, opened, doc_of, brought}

-- ---- one operation more

pub docs_more : (history : List Operation) (o : Operation) → docs (history ++ o ∷ []) ≡ changed (docs history) o.change
docs_more history o = fold-append (λ ds (o : Operation). changed ds o.change) [] history (o ∷ [])

-- ---- what was opened

added_on : (front ds : List Doc) → fold (λ ds (o : Operation). changed ds o.change) front (opened ds) ≡ front ++ ds
added_on front [] = sym (append-nil front)
added_on front (d ∷ ds) = added_on (front ++ d ∷ []) ds ∙ append_assoc front (d ∷ []) ds

pub docs_opened : (ds : List Doc) → docs (opened ds) ≡ ds
docs_opened ds = added_on [] ds

-- ---- what is left and what is deleted

-- as many are left as are not deleted
pub left_beside : (id : List ℕ) (ds : List Doc) → count_with id ds + length (without id ds) ≡ length ds
left_beside id ds = sym (ap (λ n. n + length (without id ds)) (length-filter (has_id id) ds)) ∙ length-filter_both (has_id id) (λ d. not (has_id id d)) (λ d. refl) ds

pub without_append : (id : List ℕ) (xs ys : List Doc) → without id (xs ++ ys) ≡ without id xs ++ without id ys
without_append id xs ys = filter-append (λ d. not (has_id id d)) xs ys

-- what holds of the document of a change, if it has one
pub weaker_of : (p q : Doc → Bool) → ((x : Doc) → p x ≡ true → q x ≡ true) → (d : Option Doc) → option_map_or p d true ≡ true → option_map_or q d true ≡ true
weaker_of p q so None h = refl
weaker_of p q so (Some x) h = so x h

-- ---- what holds of all that were brought holds of all that are left

module _ (p : Doc → Bool) where
  pub all_left : (id : List ℕ) (ds : List Doc) → list_all p ds ≡ true → list_all p (without id ds) ≡ true
  all_left id [] h = refl
  all_left id (d ∷ ds) h =
      let both = and_parts (p d) (list_all p ds) h in
      by (has_id id d) refl both.0 (all_left id ds both.1)
    where
      by : (b : Bool) → has_id id d ≡ b → p d ≡ true → list_all p (without id ds) ≡ true → list_all p (without id (d ∷ ds)) ≡ true
      by true e first rest = rw e rest
      by false e first rest = rw e (and_from _ _ first rest)

  pub all_changed : (ds : List Doc) (c : Change) → list_all p ds ≡ true → option_map_or p (doc_of c) true ≡ true → list_all p (changed ds c) ≡ true
  all_changed ds (add doc) h new = list_all-append p ds (doc ∷ []) ∙ and_from _ _ h (and_from _ true new refl)
  all_changed ds (delete id) h new = all_left id ds h
  all_changed ds (replace doc) h new = list_all-append p (without doc.id ds) (doc ∷ []) ∙ and_from _ _ (all_left doc.id ds h) (and_from _ true new refl)

  -- all that were brought, operation by operation
  pub all_brought : (history : List Operation) → list_all p (brought history) ≡ list_all (λ o. option_map_or p (doc_of o.change) true) history
  all_brought [] = refl
  all_brought (o ∷ os) = by (doc_of o.change) refl (all_brought os)
    where
      by : (d : Option Doc) → doc_of o.change ≡ d → list_all p (brought os) ≡ list_all (λ o. option_map_or p (doc_of o.change) true) os
          → list_all p (brought (o ∷ os)) ≡ list_all (λ o. option_map_or p (doc_of o.change) true) (o ∷ os)
      by None e rest = rw e rest
      by (Some d) e rest = rw e (ap (λ b. p d && b) rest)

  all_after : (ds : List Doc) (history : List Operation) → list_all p ds ≡ true → list_all (λ o. option_map_or p (doc_of o.change) true) history ≡ true
      → list_all p (fold (λ ds (o : Operation). changed ds o.change) ds history) ≡ true
  all_after ds [] h each = h
  all_after ds (o ∷ os) h each =
      let both = and_parts (option_map_or p (doc_of o.change) true) (list_all (λ o. option_map_or p (doc_of o.change) true) os) each in
      all_after (changed ds o.change) os (all_changed ds o.change h both.0) both.1

  pub all_docs : (history : List Operation) → list_all p (brought history) ≡ true → list_all p (docs history) ≡ true
  all_docs history h = all_after [] history refl (sym (all_brought history) ∙ h)
