-- A list with one more label, and its parents.
use Rattle.std.proofs.Common.{◌≡◌, ℕ, ℤ, suc, ◌+◌, ◌<◌, pos, true, false, List, [], ◌∷◌, ◌++◌, length, slice_get, Some, refl, sym, ap, ◌∙◌, arith, if◌then◌else◌}
use Rattle.std.specs.Prelude.{option_and_then}
use Rattle.std.specs.List.{list_any}
use Rattle.std.proofs.lemmas.Bool.{or_parts}
use Rattle.std.proofs.lemmas.List.{length-append, take_at, get_or_append_left, get_or_push}
use Rattle.std.proofs.lemmas.List.FromFn.{map-range_with_len_more}
use Rattle.std.proofs.lemmas.Option.{slice_get-get_or, slice_get_within, get_or_from_slice_get}
use Rattle.indexmap.specs.IndexSet.{insert_key}
use Rattle.facet_names.specs.Paths.{path_eq}
use Rattle.facet_names.specs.Labels.{IsLabelList, above, place, stands}
use Rattle.facet_names.specs.Arrays.{or_none, parent_at}
use Rattle.taxo_list.specs.ArrayLists.{by_ordinal}
use Rattle.taxo_list.specs.Kept.{IsTaxonomy}
use Rattle.taxo_list.proofs.Labels.{one_more_label, place_at, label_at, parent_at_front}
use Rattle.taxo_list.proofs.Linked.{entries_alike}

module _ (keys : List (List (List ℕ))) (parents : List ℤ) (path : List (List ℕ)) (kept : IsTaxonomy keys parents) (new : stands ([] ∷ keys) path ≡ false) (under : stands ([] ∷ keys) (above path) ≡ true) where
  -- it goes last among those behind the root
  pub inserted_last : insert_key path_eq keys path ≡ keys ++ path ∷ []
  inserted_last = ap (λ b. if b then keys else keys ++ path ∷ []) (or_parts (path_eq path []) (list_any (path_eq path) keys) new).1

  list : IsLabelList ([] ∷ (keys ++ path ∷ []))
  list = one_more_label ([] ∷ keys) path kept.list new under

  last : slice_get ([] ∷ (keys ++ path ∷ [])) (suc (length keys)) ≡ Some path
  last = slice_get-get_or ([] ∷ (keys ++ path ∷ [])) (suc (length keys)) [] (omega (arith, length-append keys (path ∷ []))) ∙ ap Some (get_or_push keys path [] (length keys) refl)

  -- its ordinal is the number of labels before it
  pub last_ordinal : place ([] ∷ (keys ++ path ∷ [])) path ≡ Some (length ([] ∷ keys))
  last_ordinal = place_at ([] ∷ (keys ++ path ∷ [])) list (suc (length keys)) path last

  -- The list and the parents stay what the type keeps.
  pub kept_with_last : (parent : ℕ) → place ([] ∷ keys) (above path) ≡ Some parent → length keys + 1 < 1000000 → IsTaxonomy (keys ++ path ∷ []) (parents ++ pos parent ∷ [])
  kept_with_last parent at room = record {
    list = list;
    few = omega (arith, length-append keys (path ∷ []));
    each_parent = sym made;
  }
    where
      all : List (List (List ℕ))
      all = [] ∷ (keys ++ path ∷ [])

      parent_there : place ([] ∷ (keys ++ path ∷ [])) (above path) ≡ Some parent
      parent_there =
          let before : slice_get ([] ∷ keys) parent ≡ Some (above path) = label_at ([] ∷ keys) parent (above path) at in
          let low : parent < length ([] ∷ keys) = slice_get_within ([] ∷ keys) parent (above path) before in
          let there : slice_get ([] ∷ (keys ++ path ∷ [])) parent ≡ Some (above path) =
          slice_get-get_or (([] ∷ keys) ++ path ∷ []) parent [] (omega (arith, length-append keys (path ∷ [])))
          ∙ ap Some (get_or_append_left ([] ∷ keys) (path ∷ []) [] parent low ∙ get_or_from_slice_get ([] ∷ keys) parent (above path) [] before) in
          place_at ([] ∷ (keys ++ path ∷ [])) list parent (above path) there

      parent_is : parent_at ([] ∷ (keys ++ path ∷ [])) (suc (length keys)) ≡ Some parent
      parent_is = ap (option_and_then (λ p. place ([] ∷ (keys ++ path ∷ [])) (above p))) last ∙ parent_there

      front : (i : ℕ) → i < length ([] ∷ keys) → parent_at ([] ∷ (keys ++ path ∷ [])) i ≡ parent_at ([] ∷ keys) i
      front i low = sym (parent_at_front ([] ∷ (keys ++ path ∷ [])) list (length ([] ∷ keys)) i (omega (arith, length-append keys (path ∷ []))) low) ∙ ap (λ l. parent_at l i) (take_at ([] ∷ keys) (path ∷ []) (length ([] ∷ keys)) refl)

      made : by_ordinal (length ([] ∷ (keys ++ path ∷ []))) (parent_at ([] ∷ (keys ++ path ∷ []))) ≡ parents ++ pos parent ∷ []
      made =
          let size : length ([] ∷ (keys ++ path ∷ [])) ≡ suc (length keys) + 1 = omega (arith, length-append keys (path ∷ [])) in
          ap (λ n. by_ordinal n (parent_at ([] ∷ (keys ++ path ∷ [])))) size
          ∙ map-range_with_len_more (λ i. or_none (parent_at ([] ∷ (keys ++ path ∷ [])) i)) 0 (suc (length keys)) (suc (length keys)) (omega arith)
          ∙ (λ j. entries_alike (parent_at ([] ∷ (keys ++ path ∷ []))) (parent_at ([] ∷ keys)) (length ([] ∷ keys)) front j ++ or_none (parent_is j) ∷ [])
          ∙ ap (λ l. l ++ pos parent ∷ []) (sym kept.each_parent)
