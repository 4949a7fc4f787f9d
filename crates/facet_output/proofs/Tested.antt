-- A test of a listing, by which a worked example is evaluated: where it passes, the listing is right.
use Rattle.std.proofs.Common.{◌≡◌, ℕ, zero, suc, ◌+◌, ◌<◌, Bool, true, false, cond, List, [], ◌∷◌, length, get_or, Option, Some, None, refl, sym, subst, ◌∙◌, arith, rules}
use Rattle.std.specs.Prelude.{◌==◌, ◌&&◌, ◌||◌, not, nat_lt, if◌then◌else◌, ◌++◌, filter_map, flat_map}
use Rattle.std.specs.List.{list_any, list_all, cons_option}
use Rattle.std.specs.Option.{option_map_or}
use Rattle.std.specs.Str.{bytes_eq}
use Rattle.std.specs.List.Sorted.{IsSorted}
use Rattle.std.specs.Ordering.{is_lt}
use Rattle.std.specs.Cmp.Lexicographic.{bytes_decides}
use Rattle.std.proofs.lemmas.Bool.{eqb-true, and_parts, or_parts, not-true, both_ways}
use Rattle.std.proofs.lemmas.List.Sums.{AllPass-from_list_all, sum_by-cons}
use Rattle.std.proofs.lemmas.List.Folds.{list_any-append}
use Rattle.facet_names.specs.Paths.{is_under}
use Rattle.facet_model.specs.Listing.{PartCount, listing_cmp}
use Rattle.facet_model.specs.Documents.{Doc, has, count}
use Rattle.facet_model.specs.Results.{AreChildren}
use Rattle.facet_model.proofs.Unique.{times, one_if, times-cons}
use Rattle.std.proofs.Math.Bool.{and-true}

-- the component of a label right behind a path that it is under
abbrev pub child_of : List (List ℕ) → List (List ℕ) → Option (List ℕ)
child_of [] [] = None
child_of [] (c ∷ cs) = Some c
child_of (p ∷ ps) [] = None
child_of (p ∷ ps) (c ∷ cs) = if bytes_eq p c then child_of ps cs else None

under_child : (path label : List (List ℕ)) (part : List ℕ) → is_under label (path ++ part ∷ []) ≡ option_map_or (bytes_eq part) (child_of path label) false
under_child [] [] part = refl
under_child [] (c ∷ cs) part = and-true (bytes_eq part c)
under_child (p ∷ ps) [] part = refl
under_child (p ∷ ps) (c ∷ cs) part = by (bytes_eq p c) refl (under_child ps cs part)
  where
    by : (b : Bool) → bytes_eq p c ≡ b → is_under cs (ps ++ part ∷ []) ≡ option_map_or (bytes_eq part) (child_of ps cs) false → is_under (c ∷ cs) (p ∷ ps ++ part ∷ []) ≡ option_map_or (bytes_eq part) (child_of (p ∷ ps) (c ∷ cs)) false
    by true h rest = rw h rest
    by false h rest = rw h refl

-- every component that stands behind the path, as often as it does
abbrev pub parts : List Doc → List (List ℕ) → List (List ℕ)
parts docs path = flat_map (λ doc. filter_map (child_of path) doc.labels) docs

chosen : (q : List ℕ) (o : Option (List ℕ)) (rest : List (List ℕ)) → list_any (bytes_eq q) (cons_option o rest) ≡ (option_map_or (bytes_eq q) o false || list_any (bytes_eq q) rest)
chosen q None rest = refl
chosen q (Some c) rest = refl

has_child : (path : List (List ℕ)) (q : List ℕ) (labels : List (List (List ℕ))) → list_any (λ l. is_under l (path ++ q ∷ [])) labels ≡ list_any (bytes_eq q) (filter_map (child_of path) labels)
has_child path q [] = refl
has_child path q (l ∷ labels) = (λ i. under_child path l q i || has_child path q labels i) ∙ sym (chosen q (child_of path l) (filter_map (child_of path) labels))

none_elsewhere : (path : List (List ℕ)) (q : List ℕ) (docs : List Doc) → list_any (bytes_eq q) (parts docs path) ≡ false → count docs (path ++ q ∷ []) ≡ 0
none_elsewhere path q [] none = refl
none_elsewhere path q (d ∷ docs) none =
    let here = filter_map (child_of path) d.labels in
    let both = or_parts (list_any (bytes_eq q) here) (list_any (bytes_eq q) (parts docs path)) (sym (list_any-append (bytes_eq q) here (parts docs path)) ∙ none) in
    let not_here : has d (path ++ q ∷ []) ≡ false = has_child path q d.labels ∙ both.0 in
    counted_one d docs ∙ rw (not_here, none_elsewhere path q docs both.1) refl
  where
    counted_one : (d : Doc) (docs : List Doc) → count (d ∷ docs) (path ++ q ∷ []) ≡ one_if (has d (path ++ q ∷ [])) + count docs (path ++ q ∷ [])
    counted_one d docs = sum_by-cons (λ (d : Doc). cond (has d (path ++ q ∷ [])) 1 0) d docs

-- a test that passes of each of these passes of one that is among them
among : (p : List ℕ → Bool) (q : List ℕ) (xs : List (List ℕ)) → list_any (bytes_eq q) xs ≡ true → list_all p xs ≡ true → p q ≡ true
among p q [] some each = absurd (search (rules, some))
among p q (x ∷ xs) some each = by (bytes_eq q x) refl some (and_parts (p x) (list_all p xs) each) (λ more. among p q xs more (and_parts (p x) (list_all p xs) each).1)
  where
    by : (b : Bool) → bytes_eq q x ≡ b → (bytes_eq q x || list_any (bytes_eq q) xs) ≡ true → (p x ≡ true) × (list_all p xs ≡ true) → (list_any (bytes_eq q) xs ≡ true → p q ≡ true) → p q ≡ true
    by true h some each rest = rw ((bytes_decides q x).0 h) each.0
    by false h some each rest = rest (rw h at some)

not_listed : (q : List ℕ) (known : List (List ℕ)) (all : List PartCount) → list_any (bytes_eq q) known ≡ false → list_all (λ c. list_any (bytes_eq c.0) known) all ≡ true → times q all ≡ 0
not_listed q known [] none each = refl
not_listed q known (c ∷ all) none each =
    let both = and_parts (list_any (bytes_eq c.0) known) (list_all (λ c. list_any (bytes_eq c.0) known) all) each in
    by (bytes_eq q c.0) refl both.0 (not_listed q known all none both.1)
  where
    by : (b : Bool) → bytes_eq q c.0 ≡ b → list_any (bytes_eq c.0) known ≡ true → times q all ≡ 0 → times q (c ∷ all) ≡ 0
    by true h here rest = let there : list_any (bytes_eq q) known ≡ true = rw ((bytes_decides q c.0).0 h) here in absurd (both_ways (list_any (bytes_eq q) known) none there)
    by false h here rest = times-cons q c all ∙ rw (h, rest) refl

abbrev pub is_ordered : List PartCount → Bool
is_ordered [] = true
is_ordered (x ∷ []) = true
is_ordered (x ∷ y ∷ ys) = not (is_lt (listing_cmp y x)) && is_ordered (y ∷ ys)

ordered_so : (xs : List PartCount) → is_ordered xs ≡ true → IsSorted listing_cmp xs
ordered_so [] h k d low high = absurd (omega arith)
ordered_so (x ∷ []) h k d low high = absurd (omega arith)
ordered_so (x ∷ y ∷ ys) h k d low high =
    let tests = and_parts (not (is_lt (listing_cmp y x))) (is_ordered (y ∷ ys)) h in
    at k high tests.0 (ordered_so (y ∷ ys) tests.1)
  where
    at : (k : ℕ) → k + 1 < length (x ∷ y ∷ ys) → not (is_lt (listing_cmp y x)) ≡ true → IsSorted listing_cmp (y ∷ ys) → is_lt (listing_cmp (get_or (x ∷ y ∷ ys) (k + 1) d) (get_or (x ∷ y ∷ ys) k d)) ≡ false
    at zero high first rest = not-true (is_lt (listing_cmp y x)) first
    at (suc k) high first rest =
        let next : suc k + 1 ≡ suc (k + 1) = omega arith in
        subst (λ n. is_lt (listing_cmp (get_or (x ∷ y ∷ ys) n d) (get_or (y ∷ ys) k d)) ≡ false) (sym next) (rest k d (omega arith) (omega arith))

abbrev pub is_count_once : List Doc → List (List ℕ) → List PartCount → List ℕ → Bool
is_count_once docs path all q = times q all == (if nat_lt 0 (count docs (path ++ q ∷ [])) then 1 else 0)

abbrev pub is_listing : List Doc → List (List ℕ) → List PartCount → Bool
is_listing docs path all = list_all (λ c. list_any (bytes_eq c.0) (parts docs path)) all
    && (list_all (is_count_once docs path all) (parts docs path) && (list_all (λ c. c.1 == count docs (path ++ c.0 ∷ [])) all && is_ordered all))

pub children_so : (docs : List Doc) (path : List (List ℕ)) (all : List PartCount) → is_listing docs path all ≡ true → AreChildren docs path all
children_so docs path all passes =
    let one = and_parts (list_all (λ c. list_any (bytes_eq c.0) (parts docs path)) all) _ passes in
    let two = and_parts (list_all (is_count_once docs path all) (parts docs path)) _ one.1 in
    let three = and_parts (list_all (λ c. c.1 == count docs (path ++ c.0 ∷ [])) all) (is_ordered all) two.1 in
    record {
      each_once = λ q. once q (list_any (bytes_eq q) (parts docs path)) refl one.0 two.0;
      counted = λ k d lt. eqb-true _ _ (AllPass-from_list_all (λ (c : PartCount). c.1 == count docs (path ++ c.0 ∷ [])) all three.0 k d lt);
      ordered = ordered_so all three.1;
    }
  where
    once : (q : List ℕ) (b : Bool) → list_any (bytes_eq q) (parts docs path) ≡ b → list_all (λ c. list_any (bytes_eq c.0) (parts docs path)) all ≡ true → list_all (is_count_once docs path all) (parts docs path) ≡ true
        → times q all ≡ (if nat_lt 0 (count docs (path ++ q ∷ [])) then 1 else 0)
    once q true h known each = eqb-true _ _ (among (is_count_once docs path all) q (parts docs path) h each)
    once q false h known each = not_listed q (parts docs path) all h known ∙ rw (none_elsewhere path q docs h) refl
