-- What is counted by sets and by lists together.
use Rattle.std.proofs.Common.{◌≡◌, ℕ, ◌+◌, ◌/◌, ◌<◌, ◌≤◌, Bool, true, false, cond, eqb, ◌||◌, List, [], ◌∷◌, map, get_or, length, refl, sym, ap, subst, ◌∙◌, arith}
use Rattle.std.specs.Prelude.{count_by, nat_eq, All}
use Rattle.std.specs.List.{list_any}
use Rattle.std.proofs.lemmas.List.Sums.{count_by-le-length}
use Rattle.std.proofs.lemmas.List.FromFn.{get_or-map-range_with_len, length-map-range_with_len}
use Rattle.seg_postings.specs.Rising.{is_in}
use Rattle.seg_postings.proofs.Members.{is_in-either, later_in}
use Rattle.place_bits.specs.Misses.{HaveWords}
use Rattle.place_bits.specs.Words.{Marked}
use Rattle.counted_column.specs.Columns.{Parts, IsColumn, dense_at, sparse_at, list_at, lists_of}
use Rattle.counted_column.proofs.Members.{all_in, any_is_in, count_none, count_split, count_map}
use Rattle.counted_column.proofs.Raising.{dense_in, sparse_in}
use Rattle.std.proofs.Math.Bool.{or-true}

-- what the sets of dense ordinals tell is dense
is_dense : (q n : ℕ) (ords : List ℕ) (maps : List Marked) → is_in q (dense_at ords maps n) ≡ true → is_in q ords ≡ true
is_dense q n [] maps h = h
is_dense q n (o ∷ os) [] h = let t : false ≡ true = h in absurd cc
is_dense q n (o ∷ os) (m ∷ ms) h = by (is_dense q n os ms) (is_in n m.places) h
  where
    head : (is_in q (dense_at os ms n) ≡ true → is_in q os ≡ true) → (e : Bool) → (e || is_in q (dense_at os ms n)) ≡ true → (e || is_in q os) ≡ true
    head rest true i = refl
    head rest false i = rest i

    by : (is_in q (dense_at os ms n) ≡ true → is_in q os ≡ true) → (b : Bool) → is_in q (cond b (o ∷ dense_at os ms n) (dense_at os ms n)) ≡ true → is_in q (o ∷ os) ≡ true
    by rest true i = head rest (eqb q o) i
    by rest false i = later_in q o os (rest i)

or_one : (a b : Bool) → (b ≡ true → a ≡ true → false ≡ true) → cond (a || b) 1 0 ≡ cond a 1 0 + cond b 1 0
or_one true true h = let t : false ≡ true = h refl refl in absurd cc
or_one true false h = refl
or_one false true h = refl
or_one false false h = refl

module _ (p : Parts) (is : IsColumn p) (value : List (List ℕ)) (e : lists_of p ≡ value) where
  pub docs_are : length value ≡ p.docs
  docs_are = ap length (sym e) ∙ length-map-range_with_len (list_at p) 0 p.docs

  pub list_is : (n : ℕ) → n < length value → get_or value n [] ≡ list_at p n
  list_is n l = ap (λ (ls : List (List ℕ)). get_or ls n []) (sym e) ∙ get_or-map-range_with_len (list_at p) 0 p.docs n n [] (omega (arith, docs_are)) (omega arith)

  has_either : (n : ℕ) → n < length value → (q : ℕ) → is_in q (get_or value n []) ≡ (is_in q (dense_at p.dense p.maps n) || is_in q (sparse_at p.starts p.ords n))
  has_either n l q = ap (is_in q) (list_is n l) ∙ is_in-either q (dense_at p.dense p.maps n) (sparse_at p.starts p.ords n)

  pub has_dense : (n : ℕ) → n < length value → (q : ℕ) → is_in q (dense_at p.dense p.maps n) ≡ true → is_in q (get_or value n []) ≡ true
  has_dense n l q h = has_either n l q ∙ ap (λ b. b || is_in q (sparse_at p.starts p.ords n)) h

  pub has_sparse : (n : ℕ) → n < length value → (q : ℕ) → is_in q (sparse_at p.starts p.ords n) ≡ true → is_in q (get_or value n []) ≡ true
  has_sparse n l q h = has_either n l q ∙ ap (λ b. is_in q (dense_at p.dense p.maps n) || b) h ∙ or-true (is_in q (dense_at p.dense p.maps n))

  pub rooms_are : (words : ℕ) (maps : List Marked) → maps ≡ p.maps → words ≡ (length value + 63) / 64 → HaveWords words maps
  rooms_are words maps same w = subst (HaveWords words) (sym same) (subst (λ n. HaveWords n p.maps) (sym (w ∙ ap (λ n. (n + 63) / 64) docs_are)) is.rooms)

  module _ (places : List ℕ) (below : (n : ℕ) → is_in n places ≡ true → n < length value) where
    -- at how many of the places an ordinal is
    abbrev pub in_all : ℕ → ℕ
    in_all ord = count_by (list_any (nat_eq ord)) (map (λ n. get_or value n []) places)

    pub total : (ord : ℕ) → in_all ord ≡ dense_in p.dense p.maps places ord + sparse_in p.starts p.ords places ord
    total ord =
        count_map (list_any (nat_eq ord)) (λ n. get_or value n []) places
        ∙ count_split (λ n. list_any (nat_eq ord) (get_or value n [])) (λ n. is_in ord (dense_at p.dense p.maps n)) (λ n. is_in ord (sparse_at p.starts p.ords n)) places
        (λ n i. ap (λ b. cond b 1 0) (any_is_in ord (get_or value n []) ∙ has_either n (below n i) ord)
        ∙ or_one (is_in ord (dense_at p.dense p.maps n)) (is_in ord (sparse_at p.starts p.ords n))
        (λ s d. sym (is.apart n ord (omega (arith, below n i, docs_are)) s) ∙ is_dense ord n p.dense p.maps d))

    pub total_most : (ord : ℕ) → dense_in p.dense p.maps places ord + sparse_in p.starts p.ords places ord ≤ length places
    total_most ord =
        omega (arith, total ord, count_map (list_any (nat_eq ord)) (λ n. get_or value n []) places, count_by-le-length (λ n. list_any (nat_eq ord) (get_or value n [])) places)

    module _ (size : ℕ) (within : (n : ℕ) → is_in n places ≡ true → All (λ ord. ord < size) (get_or value n [])) where
      pub dense_within : (dense : List ℕ) (maps : List Marked) → dense ≡ p.dense → maps ≡ p.maps → (n ord : ℕ) → is_in n places ≡ true → is_in ord (dense_at dense maps n) ≡ true → ord < size
      dense_within dense maps d m n ord i h =
          all_in (λ o. o < size) ord (get_or value n []) (within n i) (has_dense n (below n i) ord ((λ t. is_in ord (dense_at (sym d t) (sym m t) n)) ∙ h))

      pub sparse_within : (starts ords : List ℕ) → starts ≡ p.starts → ords ≡ p.ords → (n ord : ℕ) → is_in n places ≡ true → is_in ord (sparse_at starts ords n) ≡ true → ord < size
      sparse_within starts ords s o n ord i h =
          all_in (λ o. o < size) ord (get_or value n []) (within n i) (has_sparse n (below n i) ord ((λ t. is_in ord (sparse_at (sym s t) (sym o t) n)) ∙ h))

    pub none_sparse : length p.starts ≡ 0 → (ord : ℕ) → sparse_in p.starts p.ords places ord ≡ 0
    unfolding sparse_at
    none_sparse none ord = by p.starts none
      where
        by : (starts : List ℕ) → length starts ≡ 0 → sparse_in starts p.ords places ord ≡ 0
        by [] z = count_none places
        by (x ∷ xs) z = absurd (omega arith)
