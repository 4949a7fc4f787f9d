-- Labels of three components below a dimension, by ordinals.
use Rattle.std.proofs.Common.{◌≡◌, ℕ, zero, suc, ℤ, pos, negsuc, ltb, leb, ◌^◌, ◌==◌, ◌≤◌, ◌<◌, ◌+◌, ◌⊎◌, inl, inr, Bool, true, false, true≢false, cond, ◌&&◌, List, [], ◌∷◌, ◌++◌, length, replicate, set, get_or, slice_get, Option, Some, None, refl, sym, ap, subst, ◌∙◌, arith}
use Rattle.std.specs.Prelude.{option_and_then, int_le, int_lt, neg_ℤ}
use mir.Syntax.{w32}
use mir.Val.{SFits, to_z, of_z}
use Rattle.std.specs.Str.{bytes_eq}
use Rattle.std.specs.Cmp.Lexicographic.{bytes_decides}
use Rattle.std.proofs.lemmas.Bool.{and_parts, eq-eqb, eqb-true, leb-true, ltb-true, ne_eqb, cases_eq, false_from_ne_true}
use Rattle.std.proofs.lemmas.List.{get_or-replicate, get_or-set_other, get_or-set_same, get_or_append_left, get_or_push, length-append, length-replicate, length-set}
use Rattle.std.proofs.lemmas.Int.{to_z-of_z}
use Rattle.std.proofs.lemmas.Option.{same_Some, none-some, slice_get-get_or, get_or_from_slice_get, slice_get_within}
use Rattle.facet_names.specs.Arrays.{child_at, is_child, parent_at, sibling_at}
use Rattle.facet_names.specs.Labels.{IsLabelList, above, place}
use Rattle.facet_names.specs.Paths.{last_part}
use Rattle.number_facets.specs.Numbers.{number_of, small_of, small_number_of}
use Rattle.number_facets.specs.Values.{weight_at}
use Rattle.taxo_list.specs.DimLists.{is_dim, dims_below}
use Rattle.taxo_list.proofs.Labels.{place_at, root_is}
use Rattle.taxo_list.proofs.Walked.{dims_more}
use Rattle.facet_counts.proofs.Listed.{child_label}
use Rattle.value_facets.specs.Summing.{AreNotedBelow, IsWeight, no_weight, weight_below}
use Rattle.value_facets.specs.declared.weights.Weight.{Weight}
use Rattle.value_facets.proofs.Below.{IsNext, bound, child_of_parent, none_passed, passed_before}

-- ---- dimensions

-- a label of one component is among the dimensions
pub dims_have : (labels : List (List (List ℕ))) (ord n : ℕ) → ord < n → is_dim labels ord ≡ true → (k : ℕ) × (k < length (dims_below labels n)) × (get_or (dims_below labels n) k 0 ≡ ord)
dims_have labels ord zero lt is = absurd (omega (arith, lt))
dims_have labels ord (suc n) lt is = subst (λ l. (k : ℕ) × (k < length l) × (get_or l k 0 ≡ ord)) (sym more) (by (cases_eq ord n) (λ low. dims_have labels ord n low is))
  where
    next : n + 1 ≡ suc n
    next = omega arith

    more : dims_below labels (suc n) ≡ dims_below labels n ++ cond (is_dim labels n) (n ∷ []) []
    more = ap (dims_below labels) (sym next) ∙ dims_more labels n

    by : (ord ≡ n) ⊎ (ord ≡ n → ⊥) → (ord < n → (k : ℕ) × (k < length (dims_below labels n)) × (get_or (dims_below labels n) k 0 ≡ ord)) → (k : ℕ) × (k < length (dims_below labels n ++ cond (is_dim labels n) (n ∷ []) [])) × (get_or (dims_below labels n ++ cond (is_dim labels n) (n ∷ []) []) k 0 ≡ ord)
    by (inl same) again =
        let passed : is_dim labels n ≡ true = ap (is_dim labels) (sym same) ∙ is in
        let tail : cond (is_dim labels n) (n ∷ []) [] ≡ n ∷ [] = ap (λ b. cond b (n ∷ []) []) passed in
        subst (λ t. (k : ℕ) × (k < length (dims_below labels n ++ t)) × (get_or (dims_below labels n ++ t) k 0 ≡ ord)) (sym tail)
        (length (dims_below labels n), omega (arith, length-append (dims_below labels n) (n ∷ [])), get_or_push (dims_below labels n) n 0 (length (dims_below labels n)) refl ∙ sym same)
    by (inr apart) again =
        let found = again (omega (arith, lt, apart)) in
        (found.0, omega (arith, found.1, length-append (dims_below labels n) (cond (is_dim labels n) (n ∷ []) [])), get_or_append_left (dims_below labels n) (cond (is_dim labels n) (n ∷ []) []) 0 found.0 found.1 ∙ found.2)

-- ---- numbers

-- only a label of the three components has a number
pub weight_cases : (dim part : List ℕ) (label : List (List ℕ)) → (weight_at dim part label ≡ None) ⊎ ((text : List ℕ) × (label ≡ dim ∷ part ∷ text ∷ []))
weight_cases dim part [] = inl refl
weight_cases dim part (d ∷ []) = inl refl
weight_cases dim part (d ∷ p ∷ []) = inl refl
weight_cases dim part (d ∷ p ∷ text ∷ more ∷ rest) = inl refl
weight_cases dim part (d ∷ p ∷ text ∷ []) = by (bytes_eq d dim) refl (bytes_eq p part) refl
  where
    by : (a : Bool) → bytes_eq d dim ≡ a → (b : Bool) → bytes_eq p part ≡ b → (cond (a && b) (small_number_of text) None ≡ None) ⊎ ((t : List ℕ) × (d ∷ p ∷ text ∷ [] ≡ dim ∷ part ∷ t ∷ []))
    by true first true second = inr (text, λ i. (bytes_decides d dim).0 first i ∷ (bytes_decides p part).0 second i ∷ text ∷ [])
    by true first false second = inl refl
    by false first b second = inl refl

same_bytes : (p : List ℕ) → bytes_eq p p ≡ true
same_bytes p = (bytes_decides p p).1 refl

weight_here : (dim part text : List ℕ) → weight_at dim part (dim ∷ part ∷ text ∷ []) ≡ small_number_of text
weight_here dim part text = λ i. cond (same_bytes dim i && same_bytes part i) (small_number_of text) None

weight_apart : (dim part other text : List ℕ) → (other ≡ part → ⊥) → weight_at dim part (dim ∷ other ∷ text ∷ []) ≡ None
weight_apart dim part other text apart = λ i. cond (same_bytes dim i && false_from_ne_true (bytes_eq other part) (λ e. apart ((bytes_decides other part).0 e)) i) (small_number_of text) None

weight_none : (dim part other text : List ℕ) → small_number_of text ≡ None → weight_at dim part (dim ∷ other ∷ text ∷ []) ≡ None
weight_none dim part other text none = by (bytes_eq dim dim && bytes_eq other part)
  where
    by : (b : Bool) → cond b (small_number_of text) None ≡ None
    by true = none
    by false = refl

fits_by : (z : ℤ) → (int_le (neg_ℤ (pos (2 ^ 31))) z && int_lt z (pos (2 ^ 31))) ≡ true → SFits w32 z
fits_by (pos n) e = record { sfits = ltb-true n (2 ^ 31) (and_parts true (ltb n (2 ^ 31)) e).1 }
fits_by (negsuc n) e = record { sfits = omega (arith, leb-true n 2147483647 (and_parts (leb n 2147483647) true e).0) }

-- such a number has 32 bits
pub small_fits : (text : List ℕ) (v : ℤ) → small_number_of text ≡ Some v → SFits w32 v
small_fits text v is = by (number_of text) is
  where
    chosen : (z : ℤ) (b : Bool) → (int_le (neg_ℤ (pos (2 ^ 31))) z && int_lt z (pos (2 ^ 31))) ≡ b → cond b (Some z) None ≡ Some v → SFits w32 v
    chosen z true e same = subst (SFits w32) (same_Some z v same) (fits_by z e)
    chosen z false e same = absurd (none-some v same)

    by : (o : Option ℤ) → option_and_then small_of o ≡ Some v → SFits w32 v
    by None e = absurd (none-some v e)
    by (Some z) e = chosen z (int_le (neg_ℤ (pos (2 ^ 31))) z && int_lt z (pos (2 ^ 31))) refl e

-- ---- parents

pub second : (a b c d : List ℕ) → a ∷ b ∷ [] ≡ c ∷ d ∷ [] → b ≡ d
second a b c d e = ap (λ (l : List (List ℕ)). get_or l 1 []) e

module _ (known : List (List (List ℕ))) (is : IsLabelList known) where
  -- only the root is at 0
  pub not_root : (at : ℕ) (part : List ℕ) (path : List (List ℕ)) → slice_get known at ≡ Some (part ∷ path) → 0 < at
  not_root zero part path here = absurd (empty (same_Some (part ∷ path) [] (sym here ∙ root_is known is)))
    where
      empty : part ∷ path ≡ [] → ⊥
      empty e = omega (arith, ap length e)
  not_root (suc at) part path here = omega arith

  -- the label with one component less is at the parent
  pub parent_is : (at ord : ℕ) (part : List ℕ) (path : List (List ℕ)) → slice_get known ord ≡ Some (part ∷ path) → slice_get known at ≡ Some (above (part ∷ path)) → parent_at known ord ≡ Some at
  parent_is at zero part path here up = absurd (omega (arith, not_root 0 part path here))
  parent_is at (suc ord) part path here up = ap (option_and_then (λ p. place known (above p))) here ∙ place_at known is at (above (part ∷ path)) up

  -- an ordinal has one label
  pub one_place : (a b : ℕ) (path : List (List ℕ)) → slice_get known a ≡ Some path → slice_get known b ≡ Some path → a ≡ b
  one_place a b path at bt = same_Some a b (sym (place_at known is a path at) ∙ place_at known is b path bt)

  module _ (name : List ℕ) (ord : ℕ) (lt : ord < length known) where
    no_weight_below : (at : ℕ) → 0 < at → weight_below no_weight at ≡ None
    no_weight_below at some = ap (λ b. cond b (Some (pos 0)) None) (ne_eqb 0 at (λ e. omega (arith, some, e)))

    root_within : 0 < length known
    root_within = omega (arith, lt)

    -- a label that is not below a component of the dimension adds nothing
    pub is_elsewhere : (dim : ℕ) → slice_get known dim ≡ Some (name ∷ []) → ((part : ℕ) → part < length known → is_child known dim part ≡ true → is_child known part ord ≡ true → ⊥) → IsWeight known name ord no_weight
    is_elsewhere dim here apart = record {
      within = root_within;
      part = λ some. absurd (omega (arith, some));
      number = λ at part label up own. no_weight_below at (not_root at name (part ∷ []) up) ∙ sym (by at part label up own (weight_cases name part label));
    }
      where
        by : (at : ℕ) (part : List ℕ) (label : List (List ℕ)) → slice_get known at ≡ Some (name ∷ part ∷ []) → slice_get known ord ≡ Some label → (weight_at name part label ≡ None) ⊎ ((text : List ℕ) × (label ≡ name ∷ part ∷ text ∷ [])) → weight_at name part label ≡ None
        by at part label up own (inl none) = none
        by at part label up own (inr is) =
            let parent : parent_at known ord ≡ Some at = parent_is at ord name (part ∷ is.0 ∷ []) (own ∙ ap Some is.1) up in
            let again : parent_at known at ≡ Some dim = parent_is dim at name (part ∷ []) up here in
            absurd (apart at (slice_get_within known at (name ∷ part ∷ []) up) (child_of_parent known dim at again) (child_of_parent known at ord parent))

    module _ (part : ℕ) (p text : List ℕ) (up : slice_get known part ≡ Some (name ∷ p ∷ [])) (own : slice_get known ord ≡ Some (name ∷ p ∷ text ∷ [])) where
      -- neither does one with another text
      pub is_no_number : small_number_of text ≡ None → IsWeight known name ord no_weight
      is_no_number none = record {
        within = root_within;
        part = λ some. absurd (omega (arith, some));
        number = λ at q label above_is label_is.
            no_weight_below at (not_root at name (q ∷ []) above_is) ∙ sym (weight_none name q p text none) ∙ ap (weight_at name q) (same_Some (name ∷ p ∷ text ∷ []) label (sym own ∙ label_is));
      }

      -- one with a number adds it to its parent
      pub is_number : (v : ℤ) → small_number_of text ≡ Some v → IsWeight known name ord (record { part = part; number = v })
      is_number v number = record {
        within = slice_get_within known part (name ∷ p ∷ []) up;
        part = λ some. (p, up);
        number = λ at q label above_is label_is. by at q above_is (cases_eq part at) ∙ ap (weight_at name q) (same_Some (name ∷ p ∷ text ∷ []) label (sym own ∙ label_is));
      }
        where
          by : (at : ℕ) (q : List ℕ) → slice_get known at ≡ Some (name ∷ q ∷ []) → (part ≡ at) ⊎ (part ≡ at → ⊥) → weight_below (record { part = part; number = v }) at ≡ weight_at name q (name ∷ p ∷ text ∷ [])
          by at q above_is (inl same) =
              let alike : p ≡ q = second name p name q (same_Some (name ∷ p ∷ []) (name ∷ q ∷ []) (sym up ∙ ap (slice_get known) same ∙ above_is)) in
              ap (λ b. cond b (Some v) None) (eq-eqb part at same) ∙ sym number ∙ sym (weight_here name p text) ∙ ap (λ x. weight_at name x (name ∷ p ∷ text ∷ [])) alike
          by at q above_is (inr apart) =
              ap (λ b. cond b (Some v) None) (ne_eqb part at apart) ∙ sym (weight_apart name q p text (λ e. apart (one_place part at (name ∷ p ∷ []) up (above_is ∙ ap (λ x. Some (name ∷ x ∷ [])) (sym e)))))

-- ---- one label as the code reads it

module _ (known : List (List (List ℕ))) (is : IsLabelList known) (name p : List ℕ) (part : ℕ) (up : slice_get known part ≡ Some (name ∷ p ∷ [])) (ord : ℕ) (lt : ord < length known) (child : is_child known part ord ≡ true)
    (path : List (List ℕ)) (label : slice_get known ord ≡ Some path) where
  abbrev last : List ℕ
  last = last_part (get_or known ord [])

  own : slice_get known ord ≡ Some (name ∷ p ∷ last ∷ [])
  own = slice_get-get_or known ord [] lt ∙ ap Some (child_label known is [] part (name ∷ p ∷ []) up ord lt child).1

  path_is : path ≡ name ∷ p ∷ last ∷ []
  path_is = same_Some path (name ∷ p ∷ last ∷ []) (sym label ∙ own)

  pub has_three : 2 < length path
  has_three = omega (arith, ap length path_is)

  module _ (third : List ℕ) (text : slice_get path 2 ≡ Some third) where
    number_at : small_number_of last ≡ small_number_of third
    number_at = ap small_number_of (sym (same_Some third last (sym text ∙ ap (λ (l : List (List ℕ)). slice_get l 2) path_is)))

    pub no_number_read : small_number_of third ≡ None → IsWeight known name ord no_weight
    no_number_read none = is_no_number known is name ord lt part p last up own (number_at ∙ none)

    pub number_read : (v : ℤ) → small_number_of third ≡ Some v → IsWeight known name ord (record { part = part; number = to_z w32 (of_z w32 v) })
    number_read v number =
        subst (λ n. IsWeight known name ord (record { part = part; number = n })) (sym (to_z-of_z w32 v (small_fits third v number)))
        (is_number known is name ord lt part p last up own v (number_at ∙ number))

-- ---- the walks

-- What each label below a component that the walk has passed adds was noted, and nothing else was.
pub record AreNotedFrom (known : List (List (List ℕ))) (name : List ℕ) (part : ℕ) (next : Option ℕ) (old new : List Weight) : Type 0 where
  pub as_many : length new ≡ length old
  pub below : (q : ℕ) → q < length known → is_child known part q ≡ true → bound next ≤ q → IsWeight known name q (get_or new q no_weight)
  pub others : (q : ℕ) → is_child known part q ≡ false → get_or new q no_weight ≡ get_or old q no_weight

module _ (known : List (List (List ℕ))) (name : List ℕ) (part : ℕ) where
  pub noted_begin : (next : Option ℕ) (weights : List Weight) → next ≡ child_at known part → AreNotedFrom known name part next weights weights
  noted_begin next weights first = record {
    as_many = refl;
    below = λ q lt child past. absurd (none_passed known part next q first lt child past);
    others = λ q apart. refl;
  }

  pub noted_next : (c : ℕ) (next : Option ℕ) (first old new : List Weight) (w : Weight) → length first ≡ length known → IsNext known part (Some c) → next ≡ sibling_at known c → AreNotedFrom known name part (Some c) first old → IsWeight known name c w → new ≡ set old c w
      → AreNotedFrom known name part next first new
  noted_next c next first old new w sized at goes are one noted = subst (AreNotedFrom known name part next first) (sym noted) (record {
    as_many = length-set old c w ∙ are.as_many;
    below = λ q lt child past. by q lt child past (cases_eq q c);
    others = λ q other. get_or-set_other old c q w no_weight (λ same. true≢false (sym at.1 ∙ ap (is_child known part) (sym same) ∙ other)) ∙ are.others q other;
  })
    where
      by : (q : ℕ) → q < length known → is_child known part q ≡ true → bound next ≤ q → (q ≡ c) ⊎ (q ≡ c → ⊥) → IsWeight known name q (get_or (set old c w) q no_weight)
      by q lt child past (inl same) = subst (λ k. IsWeight known name k (get_or (set old c w) k no_weight)) (sym same) (subst (IsWeight known name c) (sym (get_or-set_same old c w no_weight (omega (arith, at.0, sized, are.as_many)))) one)
      by q lt child past (inr apart) = subst (IsWeight known name q) (sym (get_or-set_other old c q w no_weight apart)) (are.below q lt child (passed_before known part c at next goes q child past apart))

-- Each label has its weight, but for those below components that the walk has not passed.
pub record AreWeightsFrom (known : List (List (List ℕ))) (name : List ℕ) (dim : ℕ) (next : Option ℕ) (weights : List Weight) : Type 0 where
  pub as_many : length weights ≡ length known
  pub each : (q : ℕ) → q < length known → ((part : ℕ) → is_child known dim part ≡ true → is_child known part q ≡ true → bound next ≤ part) → IsWeight known name q (get_or weights q no_weight)

module _ (known : List (List (List ℕ))) (is : IsLabelList known) (name : List ℕ) (dim : ℕ) (here : slice_get known dim ≡ Some (name ∷ [])) where
  -- below the dimension is a component
  pub component_at : (part : ℕ) → IsNext known dim (Some part) → (text : List ℕ) × (slice_get known part ≡ Some (name ∷ text ∷ []))
  component_at part at = (last_part (get_or known part []), slice_get-get_or known part [] at.0 ∙ ap Some (child_label known is [] dim (name ∷ []) here part at.0 at.1).1)

  pub weights_begin : (next : Option ℕ) (weights : List Weight) → next ≡ child_at known dim → weights ≡ replicate (length known) no_weight → AreWeightsFrom known name dim next weights
  weights_begin next weights first none = subst (AreWeightsFrom known name dim next) (sym none) (record {
    as_many = length-replicate (length known) no_weight;
    each = λ q lt past. subst (IsWeight known name q) (sym (get_or-replicate (length known) q no_weight no_weight lt))
        (is_elsewhere known is name q lt dim here (λ part low up child. none_passed known dim next part first low up (past part up child)));
  })

  pub weights_next : (c : ℕ) (next : Option ℕ) (old new : List Weight) → IsNext known dim (Some c) → next ≡ sibling_at known c → AreWeightsFrom known name dim (Some c) old → AreNotedBelow known name c old new → AreWeightsFrom known name dim next new
  weights_next c next old new at goes are noted = record {
    as_many = noted.as_many ∙ are.as_many;
    each = λ q lt past. by q lt past (is_child known c q) refl;
  }
    where
      by : (q : ℕ) → q < length known → ((part : ℕ) → is_child known dim part ≡ true → is_child known part q ≡ true → bound next ≤ part) → (b : Bool) → is_child known c q ≡ b → IsWeight known name q (get_or new q no_weight)
      by q lt past true child = noted.below q lt child
      by q lt past false other = subst (IsWeight known name q) (sym (noted.others q other)) (are.each q lt (λ part up child.
          passed_before known dim c at next goes part up (past part up child) (λ same. true≢false (sym child ∙ ap (λ k. is_child known k q) same ∙ other))))

-- ---- looking for a dimension

-- a label of one component, of which the first is the name
pub dim_is : (known : List (List (List ℕ))) (ord : ℕ) (path : List (List ℕ)) (name : List ℕ) → is_dim known ord ≡ true → slice_get known ord ≡ Some path → slice_get path 0 ≡ Some name → slice_get known ord ≡ Some (name ∷ [])
dim_is known ord path name is here first = here ∙ ap Some (by path (eqb-true (length path) 1 (ap (λ p. length p == 1) (sym (get_or_from_slice_get known ord path [] here)) ∙ is)) first)
  where
    by : (path : List (List ℕ)) → length path ≡ 1 → slice_get path 0 ≡ Some name → path ≡ name ∷ []
    by [] long first = absurd (omega (arith, long))
    by (p ∷ []) long first = λ i. same_Some p name first i ∷ []
    by (p ∷ q ∷ rest) long first = absurd (omega (arith, long))

-- where no dimension before the end is it, no label is
pub none_is : (known : List (List (List ℕ))) (name : List ℕ) (n : ℕ) → length (dims_below known (length known)) ≤ n → ((k : ℕ) → k < n → slice_get known (get_or (dims_below known (length known)) k 0) ≡ Some (name ∷ []) → ⊥)
    → (ord : ℕ) → slice_get known ord ≡ Some (name ∷ []) → ⊥
none_is known name n end before ord here =
    let lt : ord < length known = slice_get_within known ord (name ∷ []) here in
    let found = dims_have known ord (length known) lt (ap (λ p. length p == 1) (get_or_from_slice_get known ord (name ∷ []) [] here)) in
    before found.0 (omega (arith, found.1, end)) (ap (slice_get known) found.2 ∙ here)
