-- Names in the order of their type, and what a binary search finds among them.
use Rattle.std.proofs.Common.{◌≡◌, refl, sym, ap, ◌∙◌, ⊎_elim, arith, ℕ, ◌<◌, ◌≤◌, true, false, List, length, get_or, Ordering, Less, Equal, Greater, Contains, Result, Ok, Err}
use Rattle.std.specs.Result.{MatchResult, is_ok}
use Rattle.std.specs.List.Sorted.{IsPermutation, IsSorted, IsSearchInRange, IsBinarySearchResult}
use Rattle.std.specs.Ordering.{nat_cmp, ordering_then, is_eq}
use Rattle.std.specs.Bool.{Decides}
use Rattle.std.specs.Cmp.{IsTotalOrder, tied_itself, both_ways}
use Rattle.std.proofs.lemmas.Bool.{cases_lt}
use Rattle.std.proofs.lemmas.Bool.Decides.{nat_tests}
use Rattle.std.proofs.lemmas.List.Sorted.{IsPermutation-sym, Contains-permutation, searchable_from_sorted}
use Rattle.std.proofs.lemmas.Map.Keys.{IsDistinct-IsPermutation}
use Rattle.std.proofs.lemmas.Map.Made.{AllPairs-from_IsDistinct, IsDistinct-from_AllPairs}
use Rattle.facet_disk.specs.declared.name.Dir.{Dir}
use Rattle.facet_disk.specs.declared.name.Dir.TheVariants.{Taxonomy, Index}
use Rattle.facet_disk.specs.declared.name.Kind.{Kind}
use Rattle.facet_disk.specs.declared.name.Kind.TheVariants.{Segment, Pending, Commit}
use Rattle.facet_disk.specs.declared.name.FileName.{FileName}
use Rattle.facet_disk.specs.contracts.name.DirOrd.TheImpl as dir_ord
use Rattle.facet_disk.specs.contracts.name.KindOrd.TheImpl as kind_ord
use Rattle.facet_disk.specs.contracts.name.FileNameOrd.TheImpl as name_ord
use Rattle.facet_disk.specs.contracts.name.FileNameOrd.TheImpl.Laws as name_laws
use Rattle.facet_disk.specs.FileNames.{same_name}
use Rattle.facet_disk.specs.SameNames.{name_from, name_again}
use Rattle.facet_disk.specs.Images.{Image}
use Rattle.store_opening.specs.Newest.{AreListed}

-- ---- names that the order does not tell apart

abbrev pub name_cmp : FileName → FileName → Ordering
name_cmp = (name_ord.ghosts).cmp

name_total : IsTotalOrder name_cmp
name_total = name_laws.total-law

same_dirs : (a b : Dir) → (dir_ord.ghosts).cmp a b ≡ Equal → a ≡ b
same_dirs Taxonomy Taxonomy e = refl
same_dirs Taxonomy Index e = absurd (cc e)
same_dirs Index Taxonomy e = absurd (cc e)
same_dirs Index Index e = refl

same_kinds : (a b : Kind) → (kind_ord.ghosts).cmp a b ≡ Equal → a ≡ b
same_kinds Segment Segment e = refl
same_kinds Segment Pending e = absurd (cc e)
same_kinds Segment Commit e = absurd (cc e)
same_kinds Pending Segment e = absurd (cc e)
same_kinds Pending Pending e = refl
same_kinds Pending Commit e = absurd (cc e)
same_kinds Commit Segment e = absurd (cc e)
same_kinds Commit Pending e = absurd (cc e)
same_kinds Commit Commit e = refl

same_numbers : (a b : ℕ) → nat_cmp a b ≡ Equal → a ≡ b
same_numbers a b e = grind (arith, nat_tests, e)

both_equal : (x y : Ordering) → ordering_then x y ≡ Equal → (x ≡ Equal) × (y ≡ Equal)
both_equal Less y e = absurd (cc e)
both_equal Equal y e = (refl, e)
both_equal Greater y e = absurd (cc e)

same_from : (a b : FileName) → name_cmp a b ≡ Equal → a ≡ b
same_from a b e =
    let dirs = both_equal ((dir_ord.ghosts).cmp a.dir b.dir) (ordering_then ((kind_ord.ghosts).cmp a.kind b.kind) (nat_cmp a.number b.number)) e in
    let kinds = both_equal ((kind_ord.ghosts).cmp a.kind b.kind) (nat_cmp a.number b.number) dirs.1 in
    λ i. record { dir = same_dirs a.dir b.dir dirs.0 i; kind = same_kinds a.kind b.kind kinds.0 i; number = same_numbers a.number b.number kinds.1 i }

-- ---- a search

module _ (names : List FileName) (name : FileName) (up : IsSorted name_cmp names) where
  apart : (k : ℕ) (o : Ordering) → get_or names k name ≡ name → name_cmp (get_or names k name) name ≡ o → o ≡ Equal
  apart k o same is = sym is ∙ ap (λ (n : FileName). name_cmp n name) same ∙ tied_itself name_total name

  searched : (r : Result ℕ ℕ) → IsSearchInRange r (length names) → IsBinarySearchResult (λ y. name_cmp y name) names r → MatchResult r (λ at. Contains names name) (λ at. Contains names name → ⊥)
  searched (Ok at) within is = (at, within, same_from (get_or names at name) name (is name))
  searched (Err at) within parted = λ has.
      let parts = parted (searchable_from_sorted name_total (λ y. y) names name up) in
      let k : ℕ = has.0 in
      ⊎_elim
      (λ (below : k < at). absurd (cc (ap is_eq (apart k Less has.2 (parts.0 k name (omega arith) below)))))
      (λ (above : at ≤ k). absurd (cc (ap is_eq (apart k Greater has.2 (parts.1 k name above has.1)))))
      (cases_lt k at)

  pub found : (r : Result ℕ ℕ) → IsSearchInRange r (length names) → IsBinarySearchResult (λ y. name_cmp y name) names r → is_ok r ≡ true → Contains names name
  found (Ok at) within is hit = searched (Ok at) within is
  found (Err at) within is hit = absurd (cc hit)

  pub not_found : (r : Result ℕ ℕ) → IsSearchInRange r (length names) → IsBinarySearchResult (λ y. name_cmp y name) names r → is_ok r ≡ false → Contains names name → ⊥
  not_found (Ok at) within is miss has = absurd (cc miss)
  not_found (Err at) within is miss has = searched (Err at) within is has

-- ---- the same names in another order

same_names : (a b : FileName) → Decides (same_name a b) (a ≡ b)
same_names a b = (name_from a b, λ same. ap (same_name a) (sym same) ∙ name_again a)

either_way : (a b : FileName) → same_name a b ≡ same_name b a
either_way a b = both_ways (same_name a b) (same_name b a) (λ is. (same_names b a).1 (sym (name_from a b is))) (λ is. (same_names a b).1 (sym (name_from b a is)))

pub still_listed : (files : Image) (names moved : List FileName) → IsPermutation names moved → AreListed files names → AreListed files moved
still_listed files names moved same listed = record {
  each = λ n has. listed.each n (Contains-permutation moved names n (IsPermutation-sym names moved same) has);
  all = λ n there. Contains-permutation names moved n same (listed.all n there);
  once = AllPairs-from_IsDistinct same_names moved (IsDistinct-IsPermutation same_name either_way names moved same (IsDistinct-from_AllPairs same_names names listed.once));
}
