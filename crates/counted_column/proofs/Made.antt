-- A column that was made has the lists that it was made of.
use Rattle.std.proofs.Common.{◌≡◌, ℕ, suc, ◌+◌, ◌-◌, ◌/◌, ◌<◌, ◌≤◌, Bool, true, false, not, cond, eqb, ◌||◌, ◌&&◌, List, [], ◌∷◌, take, drop, get_or, length, refl, sym, ap, subst, ◌∙◌, inl, inr, ◌⊎◌, arith}
use Rattle.std.specs.Prelude.{nat_eq}
use Rattle.std.specs.List.{AllByRecursion}
use Rattle.std.proofs.lemmas.Bool.{cases_eq, cases_lt, eq-eqb, ne_eqb, eqb-true, lt-ltb}
use Rattle.std.proofs.lemmas.List.{ext_get_or, nil_from_length}
use Rattle.std.proofs.Math.Seq.{take-nil, drop-nil}
use Rattle.std.proofs.lemmas.List.Elements.{All-from_recursion}
use Rattle.std.proofs.lemmas.List.FromFn.{get_or-map-range_with_len, length-map-range_with_len}
use Rattle.seg_postings.specs.Rising.{IsRising, is_in}
use Rattle.seg_postings.proofs.Either.{rising_either}
use Rattle.seg_postings.proofs.Members.{is_in-either, one_rising, is_in_filter, is_there}
use Rattle.seg_postings.proofs.Order.{rising_filter, rising_less}
use Rattle.place_bits.specs.Misses.{HaveWords}
use Rattle.place_bits.specs.Words.{Marked, empty_set}
use Rattle.counted_column.specs.Columns.{Parts, IsColumn, dense_at, sparse_at, list_at, lists_of}
use Rattle.counted_column.specs.Making.{AreSlots, AreNoted, has_slot, without_slot}
use Rattle.std.proofs.Math.Bool.{and-false}

at_one_place : (xs : List ℕ) → IsRising xs → (i j : ℕ) → i < length xs → j < length xs → get_or xs i 0 ≡ get_or xs j 0 → i ≡ j
at_one_place xs h i j l w e =
    elim (cases_lt i j) [
      | inl less ↦ absurd (omega (arith, e, rising_less xs h i j less w))
      | inr ge ↦ elim (cases_lt j i) [
        | inl more ↦ absurd (omega (arith, e, rising_less xs h j i more l))
        | inr le ↦ omega arith
      ]
    ]

-- ---- slots and dense ordinals

module _ (slots dense : List ℕ) (are : AreSlots slots dense) where
  slot_none : (ord : ℕ) → nat_eq (get_or slots ord 0) 0 ≡ not (is_in ord dense)
  slot_none ord =
      elim (cases_eq (get_or slots ord 0) 0) [
        | inl none ↦ eq-eqb (get_or slots ord 0) 0 none ∙ ap not (sym (are.none ord none))
        | inr some ↦
            let at = are.some ord (get_or slots ord 0 - 1) (omega arith) in
            ne_eqb (get_or slots ord 0) 0 some ∙ ap not (sym (is_there dense (get_or slots ord 0 - 1) at.0) ∙ ap (λ o. is_in o dense) at.1)
      ]

  slot_some : (j ord : ℕ) → j < length dense → nat_eq (get_or slots ord 0) (j + 1) ≡ eqb (get_or dense j 0) ord
  slot_some j ord l =
      elim (cases_eq (get_or slots ord 0) (j + 1)) [
        | inl is ↦ eq-eqb (get_or slots ord 0) (j + 1) is ∙ sym (eq-eqb (get_or dense j 0) ord (are.some ord j is).1)
        | inr other ↦ ne_eqb (get_or slots ord 0) (j + 1) other ∙ sym (ne_eqb (get_or dense j 0) ord (λ e. other (found e)))
      ]
    where
      found : get_or dense j 0 ≡ ord → get_or slots ord 0 ≡ j + 1
      found e =
          elim (cases_eq (get_or slots ord 0) 0) [
            | inl none ↦ let t : true ≡ false = sym (is_there dense j l) ∙ ap (λ o. is_in o dense) e ∙ are.none ord none in absurd cc
            | inr some ↦
                let at = are.some ord (get_or slots ord 0 - 1) (omega arith) in
                let same : get_or slots ord 0 - 1 ≡ j = at_one_place dense are.rising (get_or slots ord 0 - 1) j at.0 l (at.1 ∙ sym e) in
                omega arith
          ]

  any_slot : (j : ℕ) → j < length dense → (list : List ℕ) → has_slot slots j list ≡ is_in (get_or dense j 0) list
  any_slot j l [] = refl
  any_slot j l (x ∷ xs) = (λ i. slot_some j x l i || any_slot j l xs i)

-- ---- the sets

dense_step : (q o : ℕ) (r : List ℕ) (a b t : Bool) → (eqb q o ≡ true → a ≡ t) → is_in q r ≡ (b && t) → is_in q (cond a (o ∷ r) r) ≡ ((eqb q o || b) && t)
dense_step q o r a b t h k = by (eqb q o) refl a h
  where
    by : (e : Bool) → eqb q o ≡ e → (a : Bool) → (e ≡ true → a ≡ t) → is_in q (cond a (o ∷ r) r) ≡ ((e || b) && t)
    by true e true h = ap (λ x. x || is_in q r) e ∙ h refl
    by true e false h = k ∙ ap (λ x. b && x) (sym (h refl)) ∙ and-false b ∙ h refl
    by false e true h = ap (λ x. x || is_in q r) e ∙ k
    by false e false h = k

-- at a document whose sets tell what its list has, the sets tell the list's dense ordinals
dense_members : (q n : ℕ) (list dense : List ℕ) (maps : List Marked) → length maps ≡ length dense → ((j : ℕ) → j < length dense → is_in n (get_or maps j (empty_set 0)).places ≡ is_in (get_or dense j 0) list)
    → is_in q (dense_at dense maps n) ≡ (is_in q dense && is_in q list)
dense_members q n list [] maps len h = refl
dense_members q n list (o ∷ os) [] len h = absurd (omega arith)
dense_members q n list (o ∷ os) (m ∷ ms) len h =
    dense_step q o (dense_at os ms n) (is_in n m.places) (is_in q os) (is_in q list) (λ e. h 0 (omega arith) ∙ ap (λ x. is_in x list) (sym (eqb-true q o e)))
    (dense_members q n list os ms (omega arith) (λ j l. h (suc j) (omega arith)))

have_words : (w : ℕ) (maps : List Marked) → ((j : ℕ) → j < length maps → (get_or maps j (empty_set 0)).words ≡ w) → HaveWords w maps
have_words w [] h = tt
have_words w (m ∷ ms) h = (h 0 (omega arith), have_words w ms (λ j l. h (suc j) (omega arith)))

both_parts : (d t : Bool) → ((d && t) || (t && not d)) ≡ t
both_parts true true = refl
both_parts true false = refl
both_parts false true = refl
both_parts false false = refl

module _ (lists : List (List ℕ)) (slots dense : List ℕ) (maps : List Marked) (starts ords : List ℕ) (few : length lists ≤ 1000000) (rising : AllByRecursion IsRising lists)
    (are : AreSlots slots dense) (noted : AreNoted lists slots (length dense) (length lists) maps starts ords) (kept : List ℕ)
    (sparse : (n : ℕ) → n < length lists → sparse_at kept ords n ≡ without_slot slots (get_or lists n [])) where
  abbrev parts : Parts
  parts = record { docs = length lists; dense = dense; maps = maps; starts = kept; ords = ords }

  list_rises : (n : ℕ) → n < length lists → IsRising (get_or lists n [])
  list_rises n l = All-from_recursion IsRising lists rising n [] l

  sparse_rises : (n : ℕ) → n < length lists → IsRising (sparse_at kept ords n)
  sparse_rises n l = subst IsRising (sym (sparse n l)) (rising_filter (λ ord. nat_eq (get_or slots ord 0) 0) (get_or lists n []) (list_rises n l))

  is_sparse : (n q : ℕ) → n < length lists → is_in q (sparse_at kept ords n) ≡ (is_in q (get_or lists n []) && not (is_in q dense))
  is_sparse n q l =
      ap (is_in q) (sparse n l) ∙ is_in_filter (λ ord. nat_eq (get_or slots ord 0) 0) q (get_or lists n []) ∙ ap (λ b. is_in q (get_or lists n []) && b) (slot_none slots dense are q)

  is_dense : (n q : ℕ) → n < length lists → is_in q (dense_at dense maps n) ≡ (is_in q dense && is_in q (get_or lists n []))
  is_dense n q l =
      dense_members q n (get_or lists n []) dense maps noted.sets
      (λ j m. noted.members j n m ∙ ap (λ b. b && has_slot slots j (get_or lists n [])) (lt-ltb n (length lists) l) ∙ any_slot slots dense are j m (get_or lists n []))

  pub list_made : (n : ℕ) → n < length lists → list_at parts n ≡ get_or lists n []
  list_made n l =
      one_rising (list_at parts n) (get_or lists n []) (rising_either (dense_at dense maps n) (sparse_at kept ords n) (sparse_rises n l)) (list_rises n l)
      (λ q. is_in-either q (dense_at dense maps n) (sparse_at kept ords n) ∙ (λ i. is_dense n q l i || is_sparse n q l i) ∙ both_parts (is_in q dense) (is_in q (get_or lists n [])))

  pub lists_made : lists_of parts ≡ lists
  lists_made =
      ext_get_or [] (lists_of parts) lists (length-map-range_with_len (list_at parts) 0 (length lists))
      (λ n l. get_or-map-range_with_len (list_at parts) 0 (length lists) n n [] (long n l) (omega arith) ∙ list_made n (long n l))
    where
      long : (n : ℕ) → n < length (lists_of parts) → n < length lists
      long n l = omega (arith, l, length-map-range_with_len (list_at parts) 0 (length lists))

  none_both : (t d : Bool) → (t && not d) ≡ true → d ≡ false
  none_both true true h = sym h
  none_both true false h = refl
  none_both false d h = let e : false ≡ true = h in absurd cc

  pub column_made : (0 < length kept → length kept ≡ length lists + 1) → (length kept ≡ 0 → ords ≡ []) → ((n : ℕ) → n < length lists → get_or kept n 0 ≤ get_or kept (n + 1) 0)
      → ((n : ℕ) → n < length lists → get_or kept (n + 1) 0 ≤ length ords) → IsColumn parts
  column_made whole none ordered within = record {
    few = few;
    rising = are.rising;
    sets = noted.sets;
    rooms = have_words ((length lists + 63) / 64) maps (λ j l. noted.words j (omega (arith, l, noted.sets)));
    starts = whole;
    none = none;
    ordered = ordered;
    within = within;
    sparse = λ n l. sparse_rises n l;
    apart = λ n ord l h. none_both (is_in ord (get_or lists n [])) (is_in ord dense) (sym (is_sparse n ord l) ∙ h);
  }

-- where no ordinal is sparse, nothing is lost without the starts
pub unneeded : (lists : List (List ℕ)) (slots : List ℕ) (number docs : ℕ) (maps : List Marked) (starts ords : List ℕ) → AreNoted lists slots number docs maps starts ords → ords ≡ []
    → (n : ℕ) → n < docs → sparse_at [] ords n ≡ without_slot slots (get_or lists n [])
unfolding sparse_at
unneeded lists slots number docs maps starts ords noted none n l =
    let some : take (get_or starts (n + 1) 0 - get_or starts n 0) (drop (get_or starts n 0) ords) ≡ [] =
    ap (λ (xs : List ℕ). take (get_or starts (n + 1) 0 - get_or starts n 0) (drop (get_or starts n 0) xs)) none ∙ ap (take (get_or starts (n + 1) 0 - get_or starts n 0)) (drop-nil (get_or starts n 0)) ∙ take-nil (get_or starts (n + 1) 0 - get_or starts n 0) in
    sym some ∙ noted.sparse n l

-- all in one: the starts may be left out where no ordinal is sparse
pub made : (lists : List (List ℕ)) (slots dense : List ℕ) (maps : List Marked) (starts ords kept : List ℕ) (number : ℕ) (placed : List Marked) → length lists ≤ 1000000 → AllByRecursion IsRising lists → AreSlots slots dense → number ≡ length dense
    → AreNoted lists slots number (length lists) maps starts ords → placed ≡ maps → (kept ≡ starts) ⊎ ((kept ≡ []) × (length ords ≡ 0))
    → IsColumn (record { docs = length lists; dense = dense; maps = placed; starts = kept; ords = ords }) × (lists_of (record { docs = length lists; dense = dense; maps = placed; starts = kept; ords = ords }) ≡ lists)
made lists slots dense maps starts ords kept number placed few rising are as_many noted is choice =
    subst (λ (ms : List Marked). IsColumn (record { docs = length lists; dense = dense; maps = ms; starts = kept; ords = ords }) × (lists_of (record { docs = length lists; dense = dense; maps = ms; starts = kept; ords = ords }) ≡ lists)) (sym is)
    (by choice)
  where
    noted_all : AreNoted lists slots (length dense) (length lists) maps starts ords
    noted_all = subst (λ n. AreNoted lists slots n (length lists) maps starts ords) as_many noted

    by : (kept ≡ starts) ⊎ ((kept ≡ []) × (length ords ≡ 0))
        → IsColumn (record { docs = length lists; dense = dense; maps = maps; starts = kept; ords = ords }) × (lists_of (record { docs = length lists; dense = dense; maps = maps; starts = kept; ords = ords }) ≡ lists)
    by (inl same) =
        let sparse : (n : ℕ) → n < length lists → sparse_at kept ords n ≡ without_slot slots (get_or lists n []) = λ n l. ap (λ (xs : List ℕ). sparse_at xs ords n) same ∙ noted.sparse n l in (
          column_made lists slots dense maps starts ords few rising are noted_all kept sparse
              (λ l. ap length same ∙ noted.long)
              (λ z. absurd (omega (arith, z, ap length same, noted.long)))
              (λ n l. omega (arith, ap (λ (xs : List ℕ). get_or xs n 0) same, ap (λ (xs : List ℕ). get_or xs (n + 1) 0) same, noted.ordered n l))
              (λ n l. omega (arith, ap (λ (xs : List ℕ). get_or xs (n + 1) 0) same, noted.within n l)),
          lists_made lists slots dense maps starts ords few rising are noted_all kept sparse,
        )
    by (inr none) =
        let sparse : (n : ℕ) → n < length lists → sparse_at kept ords n ≡ without_slot slots (get_or lists n []) =
        λ n l. ap (λ (xs : List ℕ). sparse_at xs ords n) none.0 ∙ unneeded lists slots number (length lists) maps starts ords noted (nil_from_length ords none.1) n l in (
          column_made lists slots dense maps starts ords few rising are noted_all kept sparse
              (λ l. absurd (omega (arith, l, ap length none.0)))
              (λ z. nil_from_length ords none.1)
              (λ n l. omega (arith, ap (λ (xs : List ℕ). get_or xs n 0) none.0, ap (λ (xs : List ℕ). get_or xs (n + 1) 0) none.0))
              (λ n l. omega (arith, ap (λ (xs : List ℕ). get_or xs (n + 1) 0) none.0)),
          lists_made lists slots dense maps starts ords few rising are noted_all kept sparse,
        )
