-- A listing made of a map's entries, sorted.
use Rattle.std.proofs.Common.{◌≡◌, ℕ, ◌+◌, ◌<◌, Bool, true, false, cond, ltb, is_eq, Less, List, [], ◌∷◌, map, get_or, Option, Some, None, unwrap_or, option_map, sum_by, refl, sym, ap, ◌∙◌, arith}
use Rattle.std.specs.Prelude.{All, IfSome, is_some}
use Rattle.std.specs.List.{AllByRecursion}
use Rattle.std.specs.List.Sorted.{IsSorted, IsPermutation, IsStrictlySortedBy}
use Rattle.std.specs.Map.{keys_of, values_of, lookup}
use Rattle.std.specs.BTreeMap.{is_at, insert_entry}
use Rattle.std.specs.Ordering.{nat_cmp}
use Rattle.std.specs.Cmp.Lexicographic.{slice_cmp, bytes_decides, nat_list_cmp_total}
use Rattle.std.specs.Cmp.{eq_by_cmp_equiv}
use Rattle.std.specs.Str.{bytes_eq}
use Rattle.std.proofs.lemmas.Map.Entries.{lookup_from_place, sum_by-insert_entry}
use Rattle.std.proofs.lemmas.Option.{slice_get-get_or}
use Rattle.std.proofs.lemmas.Map.Keys.{IsDistinct-from_sorted}
use Rattle.std.proofs.lemmas.Bool.{lt-ltb}
use Rattle.std.proofs.lemmas.Map.Text.{is_eq-slice_cmp}
use Rattle.std.proofs.lemmas.List.Sums.{sum_by-cons}
use Rattle.std.proofs.lemmas.List.Sorted.{IsPermutation-map, All-permutation, sum_by-IsPermutation}
use Rattle.facet_model.specs.Listing.{PartCount, IsListing, counted_child}
use Rattle.facet_model.specs.Words.{word_cmp}
use Rattle.facet_model.specs.declared.result.Child.{Child}
use Rattle.facet_model.proofs.Unique.{times, times-cons, one_if}
use Rattle.facet_counts.proofs.Listed.{child_cmp, ordered_images}

abbrev at_word : List ℕ → List ℕ → Bool
at_word q k = is_eq (slice_cmp nat_cmp q k)

-- no later entry has the key of one that is below them
none_later : (q k : List ℕ) (es : List PartCount) → k ≡ q → AllByRecursion (λ y. word_cmp k y ≡ Less) (keys_of es) → times q es ≡ 0
none_later q k [] same below = refl
none_later q k (e ∷ es) same below =
    let order : slice_cmp nat_cmp q e.0 ≡ Less = rw (← same) below.0 in
    let apart : bytes_eq q e.0 ≡ false = sym (is_eq-slice_cmp q e.0) ∙ ap is_eq order in
    times-cons q e es ∙ rw (apart, none_later q k es same below.1) refl

one_entry : (q : List ℕ) (e : PartCount) (es : List PartCount) (others : ℕ) (b : Bool) → bytes_eq q e.0 ≡ b → (b ≡ true → others ≡ 0) → (b ≡ false → others ≡ one_if (is_some (lookup (at_word q) es)))
    → one_if (bytes_eq q e.0) + others ≡ one_if (is_some (lookup (at_word q) (e ∷ es)))
one_entry q e es others true h same differs =
    let t : at_word q e.0 ≡ true = is_eq-slice_cmp q e.0 ∙ h in
    rw (h, t, same refl) refl
one_entry q e es others false h same differs =
    let t : at_word q e.0 ≡ false = is_eq-slice_cmp q e.0 ∙ h in
    rw (h, t, differs refl) (omega arith)

-- each key stands once
count_at : (q : List ℕ) (es : List PartCount) → IsStrictlySortedBy word_cmp (keys_of es) → times q es ≡ one_if (is_some (lookup (at_word q) es))
unfolding IsStrictlySortedBy
count_at q [] s = refl
count_at q (e ∷ es) s =
    times-cons q e es
    ∙ one_entry q e es (times q es) (bytes_eq q e.0) refl
    (λ h. none_later q e.0 es (sym ((bytes_decides q e.0).0 h)) s.0)
    (λ h. count_at q es s.1)

once_of : (o : Option ℕ) (n : ℕ) → unwrap_or o 0 ≡ n → IfSome o (λ m. 0 < m) → one_if (is_some o) ≡ one_if (ltb 0 n)
once_of None n e h = rw (← e) refl
once_of (Some m) n e h = let t : ltb 0 n ≡ true = lt-ltb 0 n (omega arith) in rw t refl

-- the count of each entry is what a look-up of its key gives
counts_at : (es : List PartCount) (count_of : List ℕ → ℕ) → IsStrictlySortedBy word_cmp (keys_of es) → ((q : List ℕ) → unwrap_or (lookup (at_word q) es) 0 ≡ count_of q) → All (λ c. c.1 ≡ count_of c.0) es
counts_at es count_of s counts k d lt =
    let e = get_or es k d in
    let found : lookup (at_word e.0) es ≡ Some e.1 = lookup_from_place (eq_by_cmp_equiv nat_list_cmp_total) es k e.0 e.1 (IsDistinct-from_sorted word_cmp (keys_of es) s) (slice_get-get_or es k d lt) in
    sym (ap (λ o. unwrap_or o 0) found) ∙ counts e.0

-- what is counted in a map, put into a list of children and sorted, is a listing
pub listing_made : (es : List PartCount) (xs ys : List Child) (count_of : List ℕ → ℕ) → IsStrictlySortedBy word_cmp (keys_of es)
    → ((q : List ℕ) → unwrap_or (lookup (at_word q) es) 0 ≡ count_of q) → ((q : List ℕ) → IfSome (lookup (at_word q) es) (λ n. 0 < n))
    → map counted_child xs ≡ es → IsPermutation xs ys → IsSorted child_cmp ys → IsListing count_of (map counted_child ys)
listing_made es xs ys count_of s counts positive same moved sorted =
    let images : IsPermutation (map counted_child xs) (map counted_child ys) = IsPermutation-map counted_child xs ys moved in
    record {
      each_once = λ q. sum_by-IsPermutation (λ c. cond (bytes_eq q c.0) 1 0) (map counted_child xs) (map counted_child ys) images ∙ ap (times q) same ∙ count_at q es s ∙ once_of (lookup (at_word q) es) (count_of q) (counts q) (positive q);
      counted = All-permutation (λ c. c.1 ≡ count_of c.0) (map counted_child xs) (map counted_child ys) images (rw same (counts_at es count_of s counts));
      ordered = ordered_images ys sorted;
    }

-- one more of a key adds one to the sum
pub one_more : (es new : List PartCount) (k : List ℕ) (n : ℕ) → IsStrictlySortedBy word_cmp (keys_of es) → n ≡ unwrap_or (lookup (at_word k) es) 0 + 1
    → new ≡ insert_entry word_cmp es k n → sum_by (λ n. n) (values_of new) ≡ sum_by (λ n. n) (values_of es) + 1
one_more es new k n s next made =
    let whole = sum_by-insert_entry (λ n. n) nat_list_cmp_total es k n s in
    let same : unwrap_or (option_map (λ n. n) (lookup (is_at (word_cmp k)) es)) 0 ≡ unwrap_or (lookup (at_word k) es) 0 = plain (lookup (at_word k) es) in
    rw made (omega (arith, whole, same, next))
  where
    plain : (o : Option ℕ) → unwrap_or (option_map (λ n. n) o) 0 ≡ unwrap_or o 0
    plain None = refl
    plain (Some n) = refl

-- the sum of the children's counts
pub total_made : (es : List PartCount) (xs ys : List Child) (n : ℕ) → sum_by (λ n. n) (values_of es) ≡ n → map counted_child xs ≡ es → IsPermutation xs ys → sum_by (λ c. c.1) (map counted_child ys) ≡ n
total_made es xs ys n total same moved =
    sum_by-IsPermutation (λ c. c.1) (map counted_child xs) (map counted_child ys) (IsPermutation-map counted_child xs ys moved) ∙ ap (sum_by (λ (c : PartCount). c.1)) same ∙ entries es ∙ total
  where
    entries : (es : List PartCount) → sum_by (λ (c : PartCount). c.1) es ≡ sum_by (λ n. n) (values_of es)
    entries [] = refl
    entries (e ∷ es) = sum_by-cons (λ (c : PartCount). c.1) e es ∙ ap (λ n. e.1 + n) (entries es) ∙ sym (sum_by-cons (λ n. n) e.1 (values_of es))
