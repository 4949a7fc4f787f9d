-- First parts of a label list, and what stands in them.
use Rattle.std.proofs.Common.{zero, suc, ◌≡◌, ℕ, ◌+◌, ◌-◌, ◌<◌, ◌≤◌, Bool, true, false, List, [], ◌∷◌, length, map, take, refl, sym, ap, ◌∙◌, ◌⊎◌, inl, inr, arith, rules, take_all, length-take-le}
use Rattle.std.specs.Prelude.{◌==◌, ◌||◌, not, nat_lt, if◌then◌else◌}
use Rattle.std.specs.List.{list_all, enumerate_from, range_with_len}
use Rattle.std.proofs.lemmas.Bool.{and_parts, and_from, eqb-true, cases_lt}
use Rattle.std.proofs.lemmas.List.Folds.{list_all-map}
use Rattle.std.specs.Cmp.Lexicographic.{pointwise_decides, bytes_decides}
use Rattle.facet_names.specs.Paths.{path_eq}
use Rattle.facet_names.specs.Labels.{above, stands, is_in_place, IsLabelList, prefixes}
use Rattle.facet_model.specs.Documents.{Doc}
use Rattle.facet_model.specs.Histories.{knows}
use Rattle.facet_names.proofs.LabelLists.{root_stands}

pub weaker : {A : Type 0} (p q : A → Bool) → ((x : A) → p x ≡ true → q x ≡ true) → (xs : List A) → list_all p xs ≡ true → list_all q xs ≡ true
weaker p q so [] h = refl
weaker p q so (x ∷ xs) h = let both = and_parts (p x) (list_all p xs) h in and_from (q x) (list_all q xs) (so x both.0) (weaker p q so xs both.1)

-- ---- a label list has every prefix of its labels

pub take_less : {A : Type 0} (m n : ℕ) (xs : List A) → m ≤ n → take m (take n xs) ≡ take m xs
take_less zero n xs h = refl
take_less (suc m) zero xs h = absurd (omega arith)
take_less (suc m) (suc n) [] h = refl
take_less (suc m) (suc n) (x ∷ xs) h = ap (λ (zs : List _). x ∷ zs) (take_less m n xs (omega arith))

pub among_more : (k : ℕ) (labels : List (List (List ℕ))) (path : List (List ℕ)) → stands (take k labels) path ≡ true → stands labels path ≡ true
among_more zero labels path h = absurd (search (rules, h))
among_more (suc k) [] path h = absurd (search (rules, h))
among_more (suc k) (l ∷ labels) path h = by (path_eq path l) h (λ more. among_more k labels path more)
  where
    by : (b : Bool) → (b || stands (take k labels) path) ≡ true → (stands (take k labels) path ≡ true → stands labels path ≡ true) → (b || stands labels path) ≡ true
    by true h rest = refl
    by false h rest = rest h

module _ (labels : List (List (List ℕ))) where
  parent_from : (path : List (List ℕ)) → 0 < length path → (k : ℕ) (xs : List (List (List ℕ))) → list_all (is_in_place labels) (enumerate_from k xs) ≡ true → stands xs path ≡ true → stands labels (above path) ≡ true
  parent_from path long k [] each some = absurd (search (rules, some))
  parent_from path long k (x ∷ xs) each some =
      let both = and_parts (is_in_place labels (k, x)) (list_all (is_in_place labels) (enumerate_from (k + 1) xs)) each in
      let inner = and_parts (not (stands (take k labels) x)) (if k == 0 then length x == 0 else stands (take k labels) (above x)) both.0 in
      by (path_eq path x) refl some inner.1 (λ more. parent_from path long (k + 1) xs both.1 more)
    where
      here : (t : Bool) → path ≡ x → (if t then length x == 0 else stands (take k labels) (above x)) ≡ true → stands labels (above path) ≡ true
      here true same h = let none : length x ≡ 0 = eqb-true (length x) 0 h in absurd (omega (arith, long, ap length same, none))
      here false same h = ap (λ p. stands labels (above p)) same ∙ among_more k labels (above x) h

      by : (b : Bool) → path_eq path x ≡ b → (path_eq path x || stands xs path) ≡ true → (if k == 0 then length x == 0 else stands (take k labels) (above x)) ≡ true → (stands xs path ≡ true → stands labels (above path) ≡ true) → stands labels (above path) ≡ true
      by true e some inner rest = here (k == 0) ((pointwise_decides bytes_decides path x).0 e) inner
      by false e some inner rest = rest (rw e at some)

  parent_stands : IsLabelList labels → (path : List (List ℕ)) → 0 < length path → stands labels path ≡ true → stands labels (above path) ≡ true
  parent_stands good path long some = parent_from path long 0 labels (and_parts (nat_lt 0 (length labels)) _ good).1 some

  front_stands : IsLabelList labels → (path : List (List ℕ)) → stands labels path ≡ true → (j : ℕ) → j < length path → stands labels (take (length path - j) path) ≡ true
  front_stands good path some zero lt = ap (stands labels) (take_all (length path - 0) path (omega arith)) ∙ some
  front_stands good path some (suc j) lt =
      let before = front_stands good path some j (omega arith) in
      let front = take (length path - j) path in
      let len : length front ≡ length path - j = length-take-le (length path - j) path (omega arith) in
      let shorter : above front ≡ take (length path - suc j) path = ap (λ n. take (n - 1) front) len ∙ take_less (length path - j - 1) (length path - j) path (omega arith) ∙ ap (λ n. take n path) (let same : length path - j - 1 ≡ length path - suc j = omega arith in same) in
      sym (ap (stands labels) shorter) ∙ parent_stands good front (omega (arith, len)) before

  fronts_stand : IsLabelList labels → (path : List (List ℕ)) → stands labels path ≡ true → (a m : ℕ) → 1 ≤ a → a + m ≤ length path + 1 → list_all (stands labels) (map (λ n. take n path) (range_with_len a m)) ≡ true
  fronts_stand good path some a zero low high = refl
  fronts_stand good path some a (suc m) low high =
      let same : length path - (length path - a) ≡ a = omega arith in
      and_from _ _ (ap (λ n. stands labels (take n path)) (sym same) ∙ front_stands good path some (length path - a) (omega arith)) (fronts_stand good path some (a + 1) m (omega arith) (omega arith))

  pub knows_its_labels : IsLabelList labels → (doc : Doc) → list_all (stands labels) doc.labels ≡ true → knows labels doc ≡ true
  knows_its_labels good doc each = weaker (stands labels) (λ label. list_all (stands labels) (prefixes label)) (λ label some. fronts_stand good label some 1 (length label) (omega arith) (omega arith)) doc.labels each

-- ---- a path stands where its prefixes do

in_range : (p : ℕ → Bool) (a m n : ℕ) → list_all p (range_with_len a m) ≡ true → a ≤ n → n < a + m → p n ≡ true
in_range p a zero n each low high = absurd (omega arith)
in_range p a (suc m) n each low high =
    let both = and_parts (p a) (list_all p (range_with_len (a + 1) m)) each in
    by (cases_lt a n) both.0 (λ later. in_range p (a + 1) m n both.1 (omega arith) (omega arith))
  where
    by : (a < n) ⊎ (n ≤ a) → p a ≡ true → (a < n → p n ≡ true) → p n ≡ true
    by (inl later) here rest = rest later
    by (inr no_later) here rest = let same : n ≡ a = omega arith in ap p same ∙ here

pub own_stands : (labels : List (List (List ℕ))) → IsLabelList labels → (path : List (List ℕ)) → list_all (stands labels) (prefixes path) ≡ true → stands labels path ≡ true
own_stands labels good [] each = root_stands labels good
own_stands labels good (p ∷ ps) each =
    let path = p ∷ ps in
    let fronts = sym (list_all-map (stands labels) (λ (n : ℕ). take n path) (range_with_len 1 (length path))) ∙ each in
    let whole : stands labels (take (length path) path) ≡ true = in_range (λ n. stands labels (take n path)) 1 (length path) (length path) fronts (omega arith) (omega arith) in
    ap (stands labels) (sym (take_all (length path) path (omega arith))) ∙ whole
