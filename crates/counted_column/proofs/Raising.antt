-- Numbers that are raised one after the other: each with what is still to come is its sum.
use Rattle.std.proofs.Common.{◌≡◌, ℕ, zero, suc, ◌+◌, ◌<◌, ◌≤◌, ◌^◌, Bool, true, false, cond, eqb, ◌||◌, ◌&&◌, List, [], ◌∷◌, get_or, set, drop, length, refl, sym, ap, subst, ◌∙◌, inl, inr, arith}
use Rattle.std.specs.Prelude.{count_by}
use Rattle.std.specs.List.{filter}
use Rattle.std.proofs.lemmas.Bool.{cases_eq, cases_lt, eq-eqb, ne_eqb, eqb-true, le-leb, lt-leb}
use Rattle.std.proofs.lemmas.List.{get_or-set_same, get_or-set_other, length-set, drop_more, drop_all}
use Rattle.std.proofs.lemmas.List.Sums.{length-filter, count_by-le-length}
use Rattle.seg_postings.specs.Rising.{IsBelowAll, IsRising, is_in, from_place}
use Rattle.seg_postings.proofs.Order.{rising_drop, below_weaker, from_all, from_below, from_later}
use Rattle.seg_postings.proofs.Either.{from_none, after_head}
use Rattle.seg_postings.proofs.Sets.{is_in_below}
use Rattle.place_bits.specs.Words.{Marked}
use Rattle.counted_column.specs.Columns.{dense_at, sparse_at}
use Rattle.counted_column.proofs.Members.{count_cons, count_none, count_split, count_and, some_passes}
use Rattle.std.proofs.Math.Bool.{and-true}
use Rattle.seg_postings.proofs.Members.{here_in, later_in}

-- The numbers now and what is still to be added are the old ones and what is to be added in all.
pub record AreRaised (still all : ℕ → ℕ) (now old : List ℕ) : Type 0 where
  pub len : length now ≡ length old
  pub left : (ord : ℕ) → ord < length old → get_or now ord 0 + still ord ≡ get_or old ord 0 + all ord

pub raised_here : (before after all : ℕ → ℕ) (now old : List ℕ) (o number : ℕ) → AreRaised before all now old → o < length old → ((ord : ℕ) → before ord ≡ cond (eqb ord o) number 0 + after ord)
    → AreRaised after all (set now o (get_or now o 0 + number)) old
raised_here before after all now old o number h within step = record {
  len = length-set now o (get_or now o 0 + number) ∙ h.len;
  left = λ ord l. elim (cases_eq ord o) [
    | inl same ↦
        let e : eqb ord o ≡ true = eq-eqb ord o same in
        let s : before ord ≡ number + after ord = step ord ∙ ap (λ b. cond b number 0 + after ord) e in
        let n : get_or (set now o (get_or now o 0 + number)) ord 0 ≡ get_or now ord 0 + number =
        ap (λ i. get_or (set now o (get_or now o 0 + number)) i 0) same ∙ get_or-set_same now o (get_or now o 0 + number) 0 (omega (arith, h.len)) ∙ ap (λ i. get_or now i 0 + number) (sym same) in
        omega (arith, n, s, h.left ord l)
    | inr other ↦
        let e : eqb ord o ≡ false = ne_eqb ord o other in
        let s : before ord ≡ 0 + after ord = step ord ∙ ap (λ b. cond b number 0 + after ord) e in
        let n : get_or (set now o (get_or now o 0 + number)) ord 0 ≡ get_or now ord 0 = get_or-set_other now o ord (get_or now o 0 + number) 0 other in
        omega (arith, n, s, h.left ord l)
  ];
}

-- nothing is raised in this step
pub raised_same : (before after all : ℕ → ℕ) (now old : List ℕ) → AreRaised before all now old → ((ord : ℕ) → before ord ≡ after ord) → AreRaised after all now old
raised_same before after all now old h step = record { len = h.len; left = λ ord l. ap (λ n. get_or now ord 0 + n) (sym (step ord)) ∙ h.left ord l }

no_number : (b : Bool) (n : ℕ) → n ≡ 0 → cond b n 0 ≡ 0
no_number true n e = e
no_number false n e = refl

-- ---- one ordinal of a rising list

abbrev pub one_in : List ℕ → ℕ → ℕ
one_in ords ord = cond (is_in ord ords) 1 0

one_or : (e i : Bool) → (e ≡ true → i ≡ false) → cond (e || i) 1 0 ≡ cond e 1 0 + cond i 1 0
one_or true true h = let t : true ≡ false = h refl in absurd cc
one_or true false h = refl
one_or false true h = refl
one_or false false h = refl

pub one_in_more : (o : ℕ) (os : List ℕ) → IsBelowAll o os → (ord : ℕ) → one_in (o ∷ os) ord ≡ cond (eqb ord o) 1 0 + one_in os ord
one_in_more o os below ord = one_or (eqb ord o) (is_in ord os) (λ e. ap (λ x. is_in x os) (eqb-true ord o e) ∙ is_in_below o os below)

pub each_more : (ords : List ℕ) (k : ℕ) → IsRising ords → k < length ords → (ord : ℕ) → one_in (drop k ords) ord ≡ cond (eqb ord (get_or ords k 0)) 1 0 + one_in (drop (k + 1) ords) ord
each_more ords k rising l ord =
    let e : drop k ords ≡ get_or ords k 0 ∷ drop (k + 1) ords = drop_more ords k 0 l in
    let r : IsRising (get_or ords k 0 ∷ drop (k + 1) ords) = subst IsRising e (rising_drop k ords rising) in
    ap (λ (xs : List ℕ). one_in xs ord) e ∙ one_in_more (get_or ords k 0) (drop (k + 1) ords) r.0 ord

pub none_left : (ords : List ℕ) (k : ℕ) → length ords ≤ k → (ord : ℕ) → one_in (drop k ords) ord ≡ 0
none_left ords k l ord = ap (λ (xs : List ℕ). one_in xs ord) (drop_all k ords l)

-- ---- one ordinal with its set

below_dense : (o n : ℕ) (os : List ℕ) (ms : List Marked) → IsBelowAll o os → IsBelowAll o (dense_at os ms n)
below_dense o n [] ms h = tt
below_dense o n (x ∷ xs) [] h = tt
below_dense o n (x ∷ xs) (m ∷ ms) h =
    elim (is_in n m.places) as (λ b. IsBelowAll o (cond b (x ∷ dense_at xs ms n) (dense_at xs ms n))) [ true ↦ (h.0, below_dense o n xs ms h.1) | false ↦ below_dense o n xs ms h.1 ]

none_and : (b : Bool) → ◌≡◌ {A = ℕ} (cond (b && false) 1 0) 0
none_and true = refl
none_and false = refl

has_or : (ord o : ℕ) (r : List ℕ) (b : Bool) → (eqb ord o ≡ true → is_in ord r ≡ false) → cond (is_in ord (cond b (o ∷ r) r)) 1 0 ≡ cond (eqb ord o && b) 1 0 + cond (is_in ord r) 1 0
has_or ord o r true h = one_or (eqb ord o) (is_in ord r) h ∙ ap (λ e. cond e 1 0 + cond (is_in ord r) 1 0) (sym (and-true (eqb ord o)))
has_or ord o r false h = omega (arith, none_and (eqb ord o))

-- at how many of the places the ordinal is one of these, by their sets
abbrev pub dense_in : List ℕ → List Marked → List ℕ → ℕ → ℕ
dense_in ords maps places ord = count_by (λ n. is_in ord (dense_at ords maps n)) places

pub dense_more : (o : ℕ) (os : List ℕ) (m : Marked) (ms : List Marked) (places : List ℕ) → IsBelowAll o os → (ord : ℕ)
    → dense_in (o ∷ os) (m ∷ ms) places ord ≡ cond (eqb ord o) (length (filter (λ n. is_in n m.places) places)) 0 + dense_in os ms places ord
dense_more o os m ms places below ord =
    count_split _ (λ n. eqb ord o && is_in n m.places) (λ n. is_in ord (dense_at os ms n)) places
    (λ n i. has_or ord o (dense_at os ms n) (is_in n m.places) (λ e. ap (λ x. is_in x (dense_at os ms n)) (eqb-true ord o e) ∙ is_in_below o (dense_at os ms n) (below_dense o n os ms below)))
    ∙ ap (λ n. n + dense_in os ms places ord) (count_and (eqb ord o) (λ n. is_in n m.places) places ∙ ap (λ n. cond (eqb ord o) n 0) (sym (length-filter (λ n. is_in n m.places) places)))

pub map_more : (ords : List ℕ) (maps : List Marked) (places : List ℕ) (k : ℕ) (m : Marked) → m ≡ get_or maps k m → IsRising ords → k < length ords → length maps ≡ length ords → (ord : ℕ)
    → dense_in (drop k ords) (drop k maps) places ord ≡ cond (eqb ord (get_or ords k 0)) (length (filter (λ n. is_in n m.places) places)) 0 + dense_in (drop (k + 1) ords) (drop (k + 1) maps) places ord
map_more ords maps places k m is rising l same ord =
    let e : drop k ords ≡ get_or ords k 0 ∷ drop (k + 1) ords = drop_more ords k 0 l in
    let f : drop k maps ≡ m ∷ drop (k + 1) maps = drop_more maps k m (omega arith) ∙ ap (λ (x : Marked). x ∷ drop (k + 1) maps) (sym is) in
    let r : IsRising (get_or ords k 0 ∷ drop (k + 1) ords) = subst IsRising e (rising_drop k ords rising) in
    (λ i. dense_in (e i) (f i) places ord) ∙ dense_more (get_or ords k 0) (drop (k + 1) ords) m (drop (k + 1) maps) places r.0 ord

pub no_more : (ords : List ℕ) (maps : List Marked) (places : List ℕ) (k : ℕ) → length ords ≤ k → (ord : ℕ) → dense_in (drop k ords) (drop k maps) places ord ≡ 0
no_more ords maps places k l ord = ap (λ (xs : List ℕ). dense_in xs (drop k maps) places ord) (drop_all k ords l) ∙ count_none places

-- an ordinal is dense at each place of its set
pub dense_has : (ords : List ℕ) (maps : List Marked) (k n : ℕ) (m : Marked) → m ≡ get_or maps k m → k < length ords → length maps ≡ length ords → is_in n m.places ≡ true → is_in (get_or ords k 0) (dense_at ords maps n) ≡ true
dense_has [] maps k n m is l same h = absurd (omega arith)
dense_has (o ∷ os) [] k n m is l same h = absurd (omega arith)
dense_has (o ∷ os) (x ∷ xs) zero n m is l same h =
    let e : is_in n x.places ≡ true = ap (λ (y : Marked). is_in n y.places) (sym is) ∙ h in
    ap (λ b. is_in o (cond b (o ∷ dense_at os xs n) (dense_at os xs n))) e ∙ here_in o (dense_at os xs n)
dense_has (o ∷ os) (x ∷ xs) (suc k) n m is l same h =
    let rest : is_in (get_or os k 0) (dense_at os xs n) ≡ true = dense_has os xs k n m is (omega arith) (omega arith) h in
    elim (is_in n x.places) as (λ b. is_in (get_or os k 0) (cond b (o ∷ dense_at os xs n) (dense_at os xs n)) ≡ true) [ true ↦ later_in (get_or os k 0) o (dense_at os xs n) rest | false ↦ rest ]

pub map_none : (ords : List ℕ) (maps : List Marked) (places : List ℕ) (k : ℕ) (m : Marked) → m ≡ get_or maps k m → IsRising ords → k < length ords → length maps ≡ length ords
    → length (filter (λ n. is_in n m.places) places) ≡ 0 → (ord : ℕ) → dense_in (drop k ords) (drop k maps) places ord ≡ dense_in (drop (k + 1) ords) (drop (k + 1) maps) places ord
map_none ords maps places k m is rising l same none ord =
    omega (arith, map_more ords maps places k m is rising l same ord, no_number (eqb ord (get_or ords k 0)) (length (filter (λ n. is_in n m.places) places)) none)

-- an ordinal whose set has one of the places is within what bounds the ordinals there
pub map_within : (ords : List ℕ) (maps : List Marked) (places : List ℕ) (k size : ℕ) (m : Marked) → m ≡ get_or maps k m → k < length ords → length maps ≡ length ords → 0 < length (filter (λ n. is_in n m.places) places)
    → ((n ord : ℕ) → is_in n places ≡ true → is_in ord (dense_at ords maps n) ≡ true → ord < size) → get_or ords k 0 < size
map_within ords maps places k size m is l same some within =
    let one = some_passes (λ n. is_in n m.places) places some in
    within one.0 (get_or ords k 0) one.1 (dense_has ords maps k one.0 m is l same one.2)

pub map_most : (m : Marked) (places : List ℕ) → length (filter (λ n. is_in n m.places) places) ≤ length places
map_most m places = omega (arith, length-filter (λ n. is_in n m.places) places, count_by-le-length (λ n. is_in n m.places) places)

pub map_fits : (ords : List ℕ) (maps : List Marked) (places now old : List ℕ) (k : ℕ) (m : Marked) → m ≡ get_or maps k m → IsRising ords → k < length ords → length maps ≡ length ords
    → AreRaised (dense_in (drop k ords) (drop k maps) places) (dense_in ords maps places) now old → get_or ords k 0 < length old → get_or old (get_or ords k 0) 0 + length places < 2 ^ 32
    → get_or now (get_or ords k 0) 0 + length (filter (λ n. is_in n m.places) places) < 2 ^ 32
map_fits ords maps places now old k m is rising l same h within room =
    let o : ℕ = get_or ords k 0 in
    let number : ℕ = length (filter (λ n. is_in n m.places) places) in
    let here : cond (eqb o o) number 0 ≡ number = ap (λ b. cond b number 0) (eq-eqb o o refl) in
    omega (arith, room, h.left o within, here, map_more ords maps places k m is rising l same o, count_by-le-length (λ n. is_in o (dense_at ords maps n)) places)

-- ---- the sparse ordinals of one place

-- each number is raised by its own
pub raised_by : (before after step all : ℕ → ℕ) (new now old : List ℕ) → AreRaised before all now old → length new ≡ length now
    → ((ord : ℕ) → ord < length now → get_or new ord 0 ≡ get_or now ord 0 + step ord) → ((ord : ℕ) → before ord ≡ step ord + after ord) → AreRaised after all new old
raised_by before after step all new now old h len plus more = record {
  len = len ∙ h.len;
  left = λ ord l. omega (arith, plus ord (omega (arith, h.len)), more ord, h.left ord l);
}

-- at how many of the places the ordinal is sparse
abbrev pub sparse_in : List ℕ → List ℕ → List ℕ → ℕ → ℕ
sparse_in starts ords places ord = count_by (λ n. is_in ord (sparse_at starts ords n)) places

pub walk_in : (p : ℕ) (xs : List ℕ) → IsRising xs → is_in p xs ≡ true → from_place p xs ≡ p ∷ from_place (p + 1) xs
walk_in p [] rising h = let t : false ≡ true = h in absurd cc
walk_in p (x ∷ xs) rising h =
    elim (cases_lt x p) [
      | inl less ↦
          let rest : is_in p xs ≡ true = ap (λ b. b || is_in p xs) (sym (ne_eqb p x (λ e. omega arith))) ∙ h in
          from_later p x xs less ∙ walk_in p xs rising.1 rest ∙ ap (λ (ys : List ℕ). p ∷ ys) (sym (from_later (p + 1) x xs (omega arith)))
      | inr ge ↦ elim (cases_lt p x) [
        | inl more ↦ let t : true ≡ false = sym h ∙ is_in_below p (x ∷ xs) (more, below_weaker p x xs (omega arith) rising.0) in absurd cc
        | inr le ↦
            let same : x ≡ p = omega arith in
            from_all p (x ∷ xs) (ge, from_below p x xs ge rising.0) ∙ ap (λ (ys : List ℕ). x ∷ ys) (sym (after_head x xs rising.0)) ∙ ap (λ n. n ∷ from_place (n + 1) (x ∷ xs)) same
      ]
    ]

pub walk_out : (p : ℕ) (xs : List ℕ) → is_in p xs ≡ false → from_place p xs ≡ from_place (p + 1) xs
unfolding from_place
walk_out p [] h = refl
walk_out p (x ∷ xs) h =
    elim (cases_eq p x) [
      | inl same ↦ let t : true ≡ false = sym (ap (λ b. b || is_in p xs) (eq-eqb p x same)) ∙ h in absurd cc
      | inr other ↦
          let rest : is_in p xs ≡ false = ap (λ b. b || is_in p xs) (sym (ne_eqb p x other)) ∙ h in
          elim (cases_lt x p) [
            | inl less ↦ rw (lt-leb p x less, lt-leb (p + 1) x (omega arith)) (walk_out p xs rest)
            | inr ge ↦ rw (le-leb p x ge, le-leb (p + 1) x (omega arith)) (ap (λ (ys : List ℕ). x ∷ ys) (walk_out p xs rest))
          ]
    ]

pub walk_end : (p : ℕ) (xs : List ℕ) → ((n : ℕ) → is_in n xs ≡ true → n < p) → from_place p xs ≡ []
walk_end p [] h = from_none p
walk_end p (x ∷ xs) h = from_later p x xs (h x (here_in x xs)) ∙ walk_end p xs (λ n i. h n (later_in n x xs i))

pub place_more : (starts ords places : List ℕ) (p : ℕ) → IsRising places → is_in p places ≡ true → (ord : ℕ)
    → sparse_in starts ords (from_place p places) ord ≡ one_in (sparse_at starts ords p) ord + sparse_in starts ords (from_place (p + 1) places) ord
place_more starts ords places p rising h ord =
    ap (λ (xs : List ℕ). sparse_in starts ords xs ord) (walk_in p places rising h) ∙ count_cons (λ n. is_in ord (sparse_at starts ords n)) p (from_place (p + 1) places)
