-- The counts below a path are those of the documents that were added.
use Rattle.std.proofs.Common.{◌≡◌, ℕ, zero, suc, ◌+◌, ◌<◌, Bool, true, false, not, ◌&&◌, ◌||◌, ◌==◌, cond, ltb, List, [], ◌∷◌, ◌++◌, length, map, get_or, slice_get, Option, Some, None, pos, negsuc, refl, sym, ap, subst, ◌∙◌, arith}
use Rattle.std.specs.Prelude.{sum_by, nat_lt}
use Rattle.std.specs.Option.{option_map_or}
use Rattle.std.specs.List.{AllZip}
use Rattle.std.proofs.lemmas.Bool.{ne_eqb, ltb-true, or_right, and_from}
use Rattle.std.proofs.lemmas.List.{length-append}
use Rattle.std.proofs.lemmas.List.Elements.{All-nil}
use Rattle.std.proofs.lemmas.List.Sums.{sum_by-cons}
use Rattle.std.proofs.lemmas.Option.{get_or_from_slice_get, slice_get_within}
use Rattle.facet_names.specs.Labels.{IsLabelList, place}
use Rattle.facet_model.specs.declared.flags.DimFlags.{DimFlags}
use Rattle.facet_model.specs.Flags.{Config, flags}
use Rattle.facet_model.specs.Documents.{Doc, dim_of, count}
use Rattle.facet_model.specs.Listing.{PartCount, IsListing, counted_child}
use Rattle.facet_model.specs.Results.{AreChildren, value_of, specific}
use Rattle.facet_model.specs.Asks.{one_value, ask_fault, value_not_kept, is_kept_path, keeps_value}
use Rattle.facet_model.specs.declared.result.Child.{Child}
use Rattle.facet_counts.specs.Lists.{IsListOf, lists_at}
use Rattle.facet_counts.specs.Tallies.{Totals, AreCounts}
use Rattle.facet_counts.specs.Kept.{IsTotals}
use Rattle.taxo_list.proofs.Labels.{label_at, root_first}
use Rattle.facet_counts.proofs.Under.{some_part}
use Rattle.facet_counts.proofs.Documents.{counted_at, none_counted}
use Rattle.facet_counts.proofs.Listed.{count_at, absent_below}

module _ (counts : Totals) (kept : IsTotals counts) (path : List (List ℕ)) (some : 0 < length path) where
  -- the ordinal of a path with a component is not the root's
  at_child : (part : List ℕ) (q : ℕ) → place counts.labels (path ++ part ∷ []) ≡ Some q → (0 < q) × (q < length counts.labels)
  at_child part q at = by q (label_at counts.labels q (path ++ part ∷ []) at)
    where
      by : (q : ℕ) → slice_get counts.labels q ≡ Some (path ++ part ∷ []) → (0 < q) × (q < length counts.labels)
      by zero label =
          let root : path ++ part ∷ [] ≡ [] = sym (get_or_from_slice_get counts.labels 0 (path ++ part ∷ []) [] label) ∙ root_first counts.labels kept.list [] in
          absurd (omega (arith, ap length root, length-append path (part ∷ [])))
      by (suc q) label = (omega arith, slice_get_within counts.labels (suc q) (path ++ part ∷ []) label)

  not_root : (ord : ℕ) → place counts.labels path ≡ Some ord → 0 < ord
  not_root ord at = by ord (label_at counts.labels ord path at)
    where
      by : (ord : ℕ) → slice_get counts.labels ord ≡ Some path → 0 < ord
      by zero label =
          let root : path ≡ [] = sym (get_or_from_slice_get counts.labels 0 path [] label) ∙ root_first counts.labels kept.list [] in
          absurd (omega (arith, ap length root))
      by (suc ord) label = omega arith

  module _ (docs : List Doc) (lists : List (List ℕ)) (are : AreCounts counts lists) (all : AllZip (IsListOf counts.config counts.labels) lists docs) where
    -- the count of a child is the number of documents that have it
    below : (part : List ℕ) → count docs (path ++ part ∷ []) ≡ count_at counts.labels counts.totals (path ++ part ∷ [])
    below part =
        let size : length (path ++ part ∷ []) ≡ length path + 1 = length-append path (part ∷ []) in
        let kept_below : is_kept_path counts.config (path ++ part ∷ []) ≡ true = ap (λ b. not b || keeps_value (flags counts.config (dim_of (path ++ part ∷ [])))) (ne_eqb (length (path ++ part ∷ [])) 1 (λ e. absurd (omega arith))) in
        counted_at counts.config counts.labels kept.list (path ++ part ∷ []) (omega arith) kept_below lists docs all ∙ by (place counts.labels (path ++ part ∷ [])) refl
      where
        by : (o : Option ℕ) → place counts.labels (path ++ part ∷ []) ≡ o → option_map_or (lists_at counts.config counts.labels lists) (place counts.labels (path ++ part ∷ [])) 0 ≡ option_map_or (λ k. get_or counts.totals k 0) (place counts.labels (path ++ part ∷ [])) 0
        by None e = ap (λ o. option_map_or (lists_at counts.config counts.labels lists) o 0) e ∙ sym (ap (λ o. option_map_or (λ k. get_or counts.totals k 0) o 0) e)
        by (Some q) e =
            let at = at_child part q e in
            ap (λ o. option_map_or (lists_at counts.config counts.labels lists) o 0) e ∙ sym (are q at.0 at.1) ∙ sym (ap (λ o. option_map_or (λ k. get_or counts.totals k 0) o 0) e)

    -- the count at the path itself, where it is kept
    pub count_here : is_kept_path counts.config path ≡ true → (ord : ℕ) → 0 < ord → place counts.labels path ≡ Some ord → get_or counts.totals ord 0 ≡ count docs path
    count_here kept_here ord later at =
        are ord later (slice_get_within counts.labels ord path (label_at counts.labels ord path at))
        ∙ sym (counted_at counts.config counts.labels kept.list path some kept_here lists docs all ∙ ap (λ o. option_map_or (lists_at counts.config counts.labels lists) o 0) at)

    -- so the value is that of the definition
    pub value_is : (ord : ℕ) → place counts.labels path ≡ Some ord → (f : DimFlags) → f ≡ flags counts.config (dim_of path) → (own sum : ℕ) → own ≡ get_or counts.totals ord 0 → (cs : List PartCount) → sum ≡ sum_by (λ c. c.1) cs
        → cond (not f.multi_valued) (pos sum) (cond f.require_dim_count (pos own) (negsuc 0)) ≡ value_of (flags counts.config (dim_of path)) (count docs path) cs
    value_is ord at f given own sum own_is cs sum_is =
        ap (λ (g : DimFlags). cond (not g.multi_valued) (pos sum) (cond g.require_dim_count (pos own) (negsuc 0))) given
        ∙ by (flags counts.config (dim_of path)).multi_valued (flags counts.config (dim_of path)).require_dim_count refl refl
      where
        by : (m r : Bool) → (flags counts.config (dim_of path)).multi_valued ≡ m → (flags counts.config (dim_of path)).require_dim_count ≡ r → cond (not m) (pos sum) (cond r (pos own) (negsuc 0)) ≡ cond (not m) (pos (sum_by (λ (c : PartCount). c.1) cs)) (cond r (pos (count docs path)) (negsuc 0))
        by false r several required = ap pos sum_is
        by true false several required = refl
        by true true several required =
            let value = or_right ((flags counts.config (dim_of path)).hierarchical && not (flags counts.config (dim_of path)).multi_valued) _ (and_from (flags counts.config (dim_of path)).multi_valued (flags counts.config (dim_of path)).require_dim_count several required) in
            let kept_here : is_kept_path counts.config path ≡ true = or_right (not (length path == 1)) (keeps_value (flags counts.config (dim_of path))) value in
            ap pos (own_is ∙ count_here kept_here ord (not_root ord at) at)

    -- and so is the specific value
    pub specific_is : is_kept_path counts.config path ≡ true → (snapshot : List Doc) → true ≡ nat_lt 0 (count snapshot path) → (n : ℕ) → n ≡ count_at counts.labels counts.totals path → pos n ≡ specific snapshot docs path
    specific_is kept_here snapshot exists n number =
        let some_doc : (count snapshot path == 0) ≡ false = ne_eqb (count snapshot path) 0 (λ e. absurd (omega (arith, e, ltb-true 0 (count snapshot path) (sym exists)))) in
        ap pos (number ∙ sym (here (place counts.labels path) refl)) ∙ ap (λ b. cond b (negsuc 0) (pos (count docs path))) (sym some_doc)
      where
        here : (o : Option ℕ) → place counts.labels path ≡ o → count docs path ≡ count_at counts.labels counts.totals path
        here None e = none_counted counts.config counts.labels kept.list path e lists docs all ∙ sym (ap (λ o. option_map_or (λ k. get_or counts.totals k 0) o 0) e)
        here (Some ord) e = sym (count_here kept_here ord (not_root ord e) e) ∙ sym (ap (λ o. option_map_or (λ k. get_or counts.totals k 0) o 0) e)

    -- so the listing is that of the documents
    pub listing_of_docs : (cs : List PartCount) → IsListing (λ part. count_at counts.labels counts.totals (path ++ part ∷ [])) cs → AreChildren docs path cs
    listing_of_docs cs listing = subst (λ (f : List ℕ → ℕ). IsListing f cs) (λ i part. sym (below part) i) listing

-- nothing is below a path that is no label
pub none_below : (config : Config) (labels : List (List (List ℕ))) → IsLabelList labels → (path : List (List ℕ)) → place labels path ≡ None → (docs : List Doc) (lists : List (List ℕ)) → AllZip (IsListOf config labels) lists docs → AreChildren docs path []
none_below config labels is path absent docs lists all = record {
  each_once = λ part. sym (ap (λ n. cond (ltb 0 n) 1 0) (none_counted config labels is (path ++ part ∷ []) (absent_below labels is path absent part) lists docs all));
  counted = All-nil (λ c. c.1 ≡ count docs (path ++ c.0 ∷ []));
  ordered = λ k d low high. absurd (omega arith);
}

-- a specific value that may be asked is kept
pub kept_from_ask : (config : Config) (path : List (List ℕ)) → ask_fault config (one_value path) ≡ None → is_kept_path config path ≡ true
kept_from_ask config path fits = by (is_kept_path config path) refl fits
  where
    by : (b : Bool) → is_kept_path config path ≡ b → cond b None (Some value_not_kept) ≡ None → is_kept_path config path ≡ true
    by true e fits = e
    by false e fits = absurd cc

-- the count of an ordinal whose count is kept
pub count_kept : (counts : Totals) → IsTotals counts → (ord : ℕ) → 0 < ord → (path : List (List ℕ)) (docs : List Doc) (lists : List (List ℕ)) → AreCounts counts lists → AllZip (IsListOf counts.config counts.labels) lists docs → place counts.labels path ≡ Some ord → is_kept_path counts.config path ≡ true
    → (ord < length counts.labels) × (get_or counts.totals ord 0 ≡ count docs path)
count_kept counts kept ord later path docs lists are all at kept_path =
    let label : slice_get counts.labels ord ≡ Some path = label_at counts.labels ord path at in
    let within : ord < length counts.labels = slice_get_within counts.labels ord path label in
    let some : 0 < length path = subst (λ p. 0 < length p) (get_or_from_slice_get counts.labels ord path [] label) (some_part counts.config counts.labels kept.list ord later within) in
    (within, count_here counts kept path some docs lists are all kept_path ord later at)

-- the sum of the counts, as a listing has them
pub sum_of_children : (ys : List Child) → sum_by (λ (c : Child). c.count) ys ≡ sum_by (λ (c : PartCount). c.1) (map counted_child ys)
sum_of_children [] = refl
sum_of_children (y ∷ ys) = sum_by-cons (λ (c : Child). c.count) y ys ∙ ap (λ n. y.count + n) (sum_of_children ys) ∙ sym (sum_by-cons (λ (c : PartCount). c.1) (counted_child y) (map counted_child ys))
