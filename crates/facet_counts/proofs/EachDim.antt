-- The walk over the dimensions.
use Rattle.std.proofs.Common.{◌≡◌, ℕ, suc, ◌<◌, ◌≤◌, ◌⊎◌, Bool, true, false, ◌||◌, List, [], ◌∷◌, length, get_or, Option, Some, None, refl, sym, ap, subst, ◌∙◌, arith, inl, inr, ⊎_elim}
use Rattle.std.specs.Prelude.{IfSome, nat_le, filter, option_to_list}
use Rattle.std.specs.Option.{option_map_or}
use Rattle.std.specs.Str.{bytes_eq}
use Rattle.std.specs.Cmp.Lexicographic.{bytes_decides}
use Rattle.std.proofs.lemmas.Bool.{true≢false, cases_lt, cases_order, le-leb, lt-leb, false_from_ne_true}
use Rattle.std.proofs.lemmas.Option.{same_Some, none-some, slice_get-get_or}
use Rattle.facet_names.specs.Paths.{path_eq, last_part}
use Rattle.facet_names.specs.Labels.{IsLabelList, place}
use Rattle.facet_names.specs.Arrays.{greatest, is_child, child_at, sibling_at}
use Rattle.facet_names.proofs.Greatest.{IsGreatest, greatest_is, greatest_passes}
use Rattle.facet_model.specs.Documents.{Doc}
use Rattle.facet_model.specs.Flags.{Config}
use Rattle.facet_model.specs.Results.{Listed, IsTop}
use Rattle.facet_counts.specs.Dims.{AreDims}
use Rattle.taxo_list.proofs.Labels.{root_is, place_at}
use Rattle.facet_counts.proofs.Walk.{sibling_is}
use Rattle.facet_counts.proofs.Listed.{child_label, label_child}

-- the greatest that passes is at least each that does
greatest_most : (passes : ℕ → Bool) (n q : ℕ) → q < n → passes q ≡ true → q < option_map_or suc (greatest passes n) 0
greatest_most passes n q low passed = by (greatest passes n) (greatest_is passes n)
  where
    by : (o : Option ℕ) → IsGreatest passes n o → q < option_map_or suc o 0
    by None is = absurd (true≢false (sym passed ∙ is q low))
    by (Some k) is = ⊎_elim (λ (over : k < q). absurd (true≢false (sym passed ∙ is.2 q over low))) (λ (under : q ≤ k). omega (arith, under)) (cases_lt k q)

next_most : (o : Option ℕ) (c : ℕ) → IfSome o (λ s. s < c) → option_map_or suc o 0 ≤ c
next_most None c below = omega arith
next_most (Some s) c below = omega arith

-- the dimension has an ordinal, and that is behind those to which the walk goes next
abbrev pub walked : List (List (List ℕ)) → Option ℕ → List ℕ → Bool
walked labels next dim = option_map_or (nat_le (option_map_or suc next 0)) (place labels (dim ∷ [])) false

module _ (labels : List (List (List ℕ))) (is : IsLabelList labels) where
  -- a child of the root is a dimension
  pub dim_label : (c : ℕ) → c < length labels → is_child labels 0 c ≡ true → (0 < c) × (get_or labels c [] ≡ last_part (get_or labels c []) ∷ [])
  dim_label c lt child = child_label labels is [] 0 [] (root_is labels is) c lt child

  dim_child : (dim : List ℕ) (q : ℕ) → place labels (dim ∷ []) ≡ Some q → (q < length labels) × (is_child labels 0 q ≡ true) × (get_or labels q [] ≡ dim ∷ [])
  dim_child dim q at = label_child labels is [] 0 [] (root_is labels is) q dim at

  -- none is walked at first
  none_walked : (dim : List ℕ) → walked labels (child_at labels 0) dim ≡ false
  none_walked dim = by (place labels (dim ∷ [])) refl
    where
      by : (o : Option ℕ) → place labels (dim ∷ []) ≡ o → walked labels (child_at labels 0) dim ≡ false
      by None e = ap (λ o. option_map_or (nat_le (option_map_or suc (child_at labels 0) 0)) o false) e
      by (Some q) e =
          let at = dim_child dim q e in
          ap (λ o. option_map_or (nat_le (option_map_or suc (child_at labels 0) 0)) o false) e ∙ lt-leb (option_map_or suc (child_at labels 0) 0) q (greatest_most (is_child labels 0) (length labels) q at.0 at.1)

  pub walk_begins : (config : Config) (docs_of : List ℕ → List Doc) (n : ℕ) → AreDims (walked labels (child_at labels 0)) config docs_of n []
  walk_begins config docs_of n = record { each = λ dim. (None, λ t. absurd (true≢false (sym t ∙ none_walked dim)), λ t. refl, refl); alone = refl }

  module _ (c : ℕ) (lt : c < length labels) (child : is_child labels 0 c ≡ true) where
    place_is : place labels (last_part (get_or labels c []) ∷ []) ≡ Some c
    place_is = ap (place labels) (sym (dim_label c lt child).1) ∙ place_at labels is c (get_or labels c []) (slice_get-get_or labels c [] lt)

    -- the next is not walked yet
    pub not_walked : walked labels (Some c) (last_part (get_or labels c [])) ≡ false
    not_walked = ap (λ o. option_map_or (nat_le (suc c)) o false) place_is ∙ lt-leb (suc c) c (omega arith)

    below : option_map_or suc (sibling_at labels c) 0 ≤ c
    below = subst (λ o. option_map_or suc o 0 ≤ c) (sym (sibling_is labels [] 0 c child)) (next_most (greatest (is_child labels 0) c) c (lower (greatest (is_child labels 0) c) (greatest_passes (is_child labels 0) c)))
      where
        lower : (o : Option ℕ) → IfSome o (λ s. (s < c) × (is_child labels 0 s ≡ true)) → IfSome o (λ s. s < c)
        lower None at = at
        lower (Some s) at = at.0

    -- with it, those that are walked are those behind its sibling
    one_more : (d : List ℕ) → (bytes_eq d (last_part (get_or labels c [])) || walked labels (Some c) d) ≡ walked labels (sibling_at labels c) d
    one_more d = by (place labels (d ∷ [])) refl
      where
        other : (o : Option ℕ) → place labels (d ∷ []) ≡ o → (o ≡ Some c → ⊥) → bytes_eq d (last_part (get_or labels c [])) ≡ false
        other o e apart = false_from_ne_true (bytes_eq d (last_part (get_or labels c []))) (λ t. apart (sym e ∙ ap (λ k. place labels (k ∷ [])) ((bytes_decides d (last_part (get_or labels c []))).0 t) ∙ place_is))

        at : (next : Option ℕ) (q : ℕ) → place labels (d ∷ []) ≡ Some q → (b : Bool) → nat_le (option_map_or suc next 0) q ≡ b → walked labels next d ≡ b
        at next q e b is = ap (λ o. option_map_or (nat_le (option_map_or suc next 0)) o false) e ∙ is

        by : (o : Option ℕ) → place labels (d ∷ []) ≡ o → (bytes_eq d (last_part (get_or labels c [])) || walked labels (Some c) d) ≡ walked labels (sibling_at labels c) d
        by None e =
            (λ t. other None e (λ x. none-some c x) t || option_map_or (nat_le (suc c)) (e t) false)
            ∙ sym (ap (λ o. option_map_or (nat_le (option_map_or suc (sibling_at labels c) 0)) o false) e)
        by (Some q) e = order (cases_order q c)
          where
            order : (q ≡ c) ⊎ ((q < c) ⊎ (c < q)) → (bytes_eq d (last_part (get_or labels c [])) || walked labels (Some c) d) ≡ walked labels (sibling_at labels c) d
            order (inl same) =
                let path : d ∷ [] ≡ last_part (get_or labels c []) ∷ [] = sym (dim_child d q e).2 ∙ ap (λ k. get_or labels k []) same ∙ (dim_label c lt child).1 in
                let dim : d ≡ last_part (get_or labels c []) = cc in
                ap (λ b. b || walked labels (Some c) d) ((bytes_decides d (last_part (get_or labels c []))).1 dim)
                ∙ sym (at (sibling_at labels c) q e true (le-leb (option_map_or suc (sibling_at labels c) 0) q (omega (arith, below, same))))
            order (inr (inl less)) =
                let child_q = dim_child d q e in
                let past : q < option_map_or suc (sibling_at labels c) 0 = subst (λ o. q < option_map_or suc o 0) (sym (sibling_is labels [] 0 c child)) (greatest_most (is_child labels 0) c q less child_q.1) in
                (λ t. other (Some q) e (λ x. absurd (omega (arith, same_Some q c x, less))) t || at (Some c) q e false (lt-leb (suc c) q (omega (arith, less))) t)
                ∙ sym (at (sibling_at labels c) q e false (lt-leb (option_map_or suc (sibling_at labels c) 0) q past))
            order (inr (inr more)) =
                (λ t. other (Some q) e (λ x. absurd (omega (arith, same_Some q c x, more))) t || at (Some c) q e true (le-leb (suc c) q (omega (arith, more))) t)
                ∙ sym (at (sibling_at labels c) q e true (le-leb (option_map_or suc (sibling_at labels c) 0) q (omega (arith, below, more))))

    pub walk_goes : (λ d. bytes_eq d (last_part (get_or labels c [])) || walked labels (Some c) d) ≡ walked labels (sibling_at labels c)
    walk_goes = λ i d. one_more d i

  -- At last all that are labels are, and no other has a result.
  pub walk_ends : (config : Config) (docs_of : List ℕ → List Doc) (n : ℕ) → ((dim : List ℕ) → place labels (dim ∷ []) ≡ None → IsTop config (docs_of dim) (dim ∷ []) n None) → (results : List Listed) → AreDims (walked labels None) config docs_of n results → AreDims (λ _. true) config docs_of n results
  walk_ends config docs_of n others results dims = record { each = λ dim. each dim (place labels (dim ∷ [])) refl; alone = dims.alone }
    where
      each : (dim : List ℕ) (o : Option ℕ) → place labels (dim ∷ []) ≡ o → (r : Option Listed) × (true ≡ true → IsTop config (docs_of dim) (dim ∷ []) n r) × (true ≡ false → r ≡ None) × (filter (λ x. path_eq x.path (dim ∷ [])) results ≡ option_to_list r)
      each dim None e =
          let at = dims.each dim in
          let none : at.0 ≡ None = at.2 (ap (λ o. option_map_or (nat_le 0) o false) e) in
          (None, λ t. others dim e, λ t. refl, at.3 ∙ ap option_to_list none)
      each dim (Some q) e =
          let at = dims.each dim in
          (at.0, λ t. at.1 (ap (λ o. option_map_or (nat_le 0) o false) e ∙ le-leb 0 q (omega arith)), λ t. absurd (true≢false t), at.3)
