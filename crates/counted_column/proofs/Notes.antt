-- Making a column, step by step.
use Rattle.std.proofs.Common.{◌≡◌, ℕ, ◌+◌, ◌-◌, ◌/◌, ◌<◌, ◌≤◌, Bool, true, false, cond, eqb, ltb, ◌||◌, ◌&&◌, List, [], ◌∷◌, ◌++◌, take, drop, get_or, set, replicate, length, refl, sym, ap, ◌∙◌, inl, inr, arith}
use Rattle.std.specs.Prelude.{nat_eq}
use Rattle.std.proofs.lemmas.Bool.{cases_eq, cases_lt, eq-eqb, ne_eqb, lt-ltb, le-ltb}
use Rattle.std.proofs.lemmas.List.{get_or-set_same, get_or-set_other, length-set, length_push, get_or_append_left, get_or_push, take_all, get_or-replicate, length-append, length-drop, take-append-le, drop-append-le, append-nil, append_assoc, get_or_past, get_or_default}
use Rattle.std.proofs.Math.Seq.{drop-append_seam}
use Rattle.std.proofs.lemmas.List.Elements.{filter_more}
use Rattle.std.proofs.lemmas.List.Folds.{list_any_more}
use Rattle.seg_postings.specs.Rising.{IsRising, is_in}
use Rattle.seg_postings.specs.Sets.{either}
use Rattle.seg_postings.proofs.Members.{is_in-either, here_in, later_in}
use Rattle.place_bits.specs.Words.{Marked, empty_set, with_places}
use Rattle.counted_column.specs.Columns.{sparse_at}
use Rattle.counted_column.specs.Making.{AreSlots, AreAdded, AreNoted, has_slot, without_slot}
use Rattle.std.proofs.Math.Bool.{or-false, or_assoc, and-false}
use Rattle.seg_postings.proofs.Written.{below_push}

-- what would lie before a bound is false past it
false_past : (b : Bool) (x k : ℕ) → k ≤ x → (b ≡ true → x < k) → b ≡ false
false_past true x k ge h = absurd (omega (arith, h refl))
false_past false x k ge h = refl

-- ---- which ordinals are dense

-- Of the ordinals before k each has its slot.
pub record AreSlotted (k : ℕ) (slots dense old : List ℕ) : Type 0 where
  pub len : length slots ≡ length old
  pub few : length dense ≤ k
  pub rising : IsRising dense
  pub below : (ord : ℕ) → is_in ord dense ≡ true → ord < k
  pub none : (ord : ℕ) → ord < k → get_or slots ord 0 ≡ 0 → is_in ord dense ≡ false
  pub some : (ord j : ℕ) → ord < k → get_or slots ord 0 ≡ j + 1 → (j < length dense) × (get_or dense j 0 ≡ ord)

pub none_slotted : (old : List ℕ) → AreSlotted 0 old [] old
none_slotted old = record {
  len = refl;
  few = omega arith;
  rising = tt;
  below = λ ord h. let t : false ≡ true = h in absurd cc;
  none = λ ord l e. refl;
  some = λ ord j l e. absurd (omega arith);
}

rising_push : (xs : List ℕ) (y : ℕ) → IsRising xs → ((q : ℕ) → is_in q xs ≡ true → q < y) → IsRising (xs ++ y ∷ [])
rising_push [] y h below = (tt, tt)
rising_push (x ∷ xs) y h below = (below_push x y xs (below x (here_in x xs)) h.0, rising_push xs y h.1 (λ q i. below q (later_in q x xs i)))

is_in_push : (q y : ℕ) (xs : List ℕ) → is_in q (xs ++ y ∷ []) ≡ (is_in q xs || (eqb q y || false))
is_in_push q y [] = refl
is_in_push q y (x ∷ xs) = ap (λ b. eqb q x || b) (is_in_push q y xs) ∙ sym (or_assoc (eqb q x) (is_in q xs) (eqb q y || false))

in_push_other : (q y : ℕ) (xs : List ℕ) → (q ≡ y → ⊥) → is_in q (xs ++ y ∷ []) ≡ is_in q xs
in_push_other q y xs other = is_in_push q y xs ∙ ap (λ b. is_in q xs || (b || false)) (ne_eqb q y other) ∙ or-false (is_in q xs)

-- the ordinal k is dense
pub one_slotted : (k : ℕ) (slots dense old : List ℕ) → AreSlotted k slots dense old → k < length old → AreSlotted (k + 1) (set (set slots k 0) k (length (dense ++ k ∷ []))) (dense ++ k ∷ []) old
one_slotted k slots dense old h within =
    let number : ℕ = length (dense ++ k ∷ []) in
    let more : number ≡ length dense + 1 = length_push dense k in
    let zeroed : List ℕ = set slots k 0 in
    let here : get_or (set zeroed k number) k 0 ≡ number = get_or-set_same zeroed k number 0 (omega (arith, h.len, length-set slots k 0)) in
    let other : (ord : ℕ) → (ord ≡ k → ⊥) → get_or (set zeroed k number) ord 0 ≡ get_or slots ord 0 = λ ord ne. get_or-set_other zeroed k ord number 0 ne ∙ get_or-set_other slots k ord 0 0 ne in
    record {
      len = length-set zeroed k number ∙ length-set slots k 0 ∙ h.len;
      few = omega (arith, more, h.few);
      rising = rising_push dense k h.rising h.below;
      below = λ ord i. elim (cases_eq ord k) [
        | inl same ↦ omega arith
        | inr ne ↦ omega (arith, h.below ord (sym (in_push_other ord k dense ne) ∙ i))
      ];
      none = λ ord l e. elim (cases_eq ord k) [
        | inl same ↦ absurd (omega (arith, more, sym here ∙ ap (λ i. get_or (set zeroed k number) i 0) (sym same) ∙ e))
        | inr ne ↦ in_push_other ord k dense ne ∙ h.none ord (omega arith) (sym (other ord ne) ∙ e)
      ];
      some = λ ord j l e. elim (cases_eq ord k) [
        | inl same ↦
            let at : j ≡ length dense = omega (arith, more, sym here ∙ ap (λ i. get_or (set zeroed k number) i 0) (sym same) ∙ e) in
            (omega (arith, more), get_or_push dense k 0 j (sym at) ∙ sym same)
        | inr ne ↦
            let old : (j < length dense) × (get_or dense j 0 ≡ ord) = h.some ord j (omega arith) (sym (other ord ne) ∙ e) in
            (omega (arith, more, old.0), get_or_append_left dense (k ∷ []) 0 j old.0 ∙ old.1)
      ];
    }

-- the ordinal k is not dense
pub none_here : (k : ℕ) (slots dense old : List ℕ) → AreSlotted k slots dense old → k < length old → AreSlotted (k + 1) (set slots k 0) dense old
none_here k slots dense old h within =
    let here : get_or (set slots k 0) k 0 ≡ 0 = get_or-set_same slots k 0 0 (omega (arith, h.len)) in
    record {
      len = length-set slots k 0 ∙ h.len;
      few = omega (arith, h.few);
      rising = h.rising;
      below = λ ord i. omega (arith, h.below ord i);
      none = λ ord l e. elim (cases_eq ord k) [
        | inl same ↦ false_past (is_in ord dense) ord k (omega arith) (h.below ord)
        | inr ne ↦ h.none ord (omega arith) (sym (get_or-set_other slots k ord 0 0 ne) ∙ e)
      ];
      some = λ ord j l e. elim (cases_eq ord k) [
        | inl same ↦ absurd (omega (arith, sym here ∙ ap (λ i. get_or (set slots k 0) i 0) (sym same) ∙ e))
        | inr ne ↦ h.some ord j (omega arith) (sym (get_or-set_other slots k ord 0 0 ne) ∙ e)
      ];
    }

pub all_slotted : (k : ℕ) (slots dense old : List ℕ) → AreSlotted k slots dense old → length old ≤ k → AreSlots slots dense
all_slotted k slots dense old h le = record {
  rising = h.rising;
  none = λ ord e. elim (cases_lt ord k) [
    | inl l ↦ h.none ord l e
    | inr ge ↦ false_past (is_in ord dense) ord k ge (h.below ord)
  ];
  some = λ ord j e. elim (cases_lt ord k) [
    | inl l ↦ h.some ord j l e
    | inr ge ↦ absurd (omega (arith, e, get_or_past slots ord 0 (omega (arith, h.len))))
  ];
}

-- ---- one document

-- The first k of its ordinals were added.
pub record AreTaken (slots : List ℕ) (doc : ℕ) (list : List ℕ) (k : ℕ) (old new : List Marked) (before after : List ℕ) : Type 0 where
  pub len : length new ≡ length old
  pub words : (j : ℕ) → j < length old → (get_or new j (empty_set 0)).words ≡ (get_or old j (empty_set 0)).words
  pub members : (j n : ℕ) → j < length old → is_in n (get_or new j (empty_set 0)).places ≡ (is_in n (get_or old j (empty_set 0)).places || (nat_eq n doc && has_slot slots j (take k list)))
  pub others : after ≡ before ++ without_slot slots (take k list)

pub none_taken : (slots : List ℕ) (doc : ℕ) (list : List ℕ) (maps : List Marked) (ords : List ℕ) → AreTaken slots doc list 0 maps maps ords ords
none_taken slots doc list maps ords = record {
  len = refl;
  words = λ j l. refl;
  members = λ j n l. sym (ap (λ z. (is_in n (get_or maps j (empty_set 0)).places) || z) (and-false (nat_eq n doc)) ∙ or-false (is_in n (get_or maps j (empty_set 0)).places));
  others = sym (append-nil ords);
}

pub all_taken : (slots : List ℕ) (doc : ℕ) (list : List ℕ) (k : ℕ) (old new : List Marked) (before after : List ℕ) → length list ≤ k → AreTaken slots doc list k old new before after → AreAdded slots doc list old new before after
all_taken slots doc list k old new before after le h =
    let all : take k list ≡ list = take_all k list le in
    record {
      len = h.len;
      words = h.words;
      members = λ j n l. h.members j n l ∙ ap (λ (xs : List ℕ). is_in n (get_or old j (empty_set 0)).places || (nat_eq n doc && has_slot slots j xs)) all;
      others = h.others ∙ ap (λ (xs : List ℕ). before ++ without_slot slots xs) all;
    }

slot_step : (a b c d : Bool) → ((d || false) || (a || (d && b))) ≡ (a || (d && (b || true)))
slot_step true true c true = refl
slot_step true true c false = refl
slot_step true false c true = refl
slot_step true false c false = refl
slot_step false true c true = refl
slot_step false true c false = refl
slot_step false false c true = refl
slot_step false false c false = refl

-- one ordinal more, which has a slot: the document goes to its set
pub one_marked : (slots : List ℕ) (doc : ℕ) (list : List ℕ) (k : ℕ) (old now : List Marked) (before after : List ℕ) (slot : ℕ) (set_now set_new d : Marked) → AreTaken slots doc list k old now before after → k < length list
    → get_or slots (get_or list k 0) 0 ≡ slot → 0 < slot → slot ≤ length old → set_now ≡ get_or now (slot - 1) d → set_new ≡ with_places (either (doc ∷ []) set_now.places) set_now
    → AreTaken slots doc list (k + 1) old (set now (slot - 1) set_new) before after
one_marked slots doc list k old now before after slot set_now set_new d h within e some most was_lent marked =
    let lent : set_now ≡ get_or now (slot - 1) (empty_set 0) = was_lent ∙ get_or_default now (slot - 1) d (empty_set 0) (omega (arith, h.len)) in
    let ord : ℕ = get_or list k 0 in
    let here : get_or (set now (slot - 1) set_new) (slot - 1) (empty_set 0) ≡ set_new = get_or-set_same now (slot - 1) set_new (empty_set 0) (omega (arith, h.len)) in
    let none : nat_eq (get_or slots ord 0) 0 ≡ false = ne_eqb (get_or slots ord 0) 0 (λ z. omega arith) in
    record {
      len = length-set now (slot - 1) set_new ∙ h.len;
      words = λ j l. elim (cases_eq j (slot - 1)) [
        | inl same ↦
            ap (λ i. (get_or (set now (slot - 1) set_new) i (empty_set 0)).words) same ∙ ap (λ (m : Marked). m.words) here ∙ ap (λ (m : Marked). m.words) marked
            ∙ ap (λ (m : Marked). m.words) lent ∙ ap (λ i. (get_or now i (empty_set 0)).words) (sym same) ∙ h.words j l
        | inr other ↦ ap (λ (m : Marked). m.words) (get_or-set_other now (slot - 1) j set_new (empty_set 0) other) ∙ h.words j l
      ];
      members = λ j n l.
          let more : has_slot slots j (take (k + 1) list) ≡ (has_slot slots j (take k list) || nat_eq (get_or slots ord 0) (j + 1)) = list_any_more (λ o. nat_eq (get_or slots o 0) (j + 1)) list k 0 within in
          let was : Bool = is_in n (get_or old j (empty_set 0)).places in
          elim (cases_eq j (slot - 1)) [
            | inl same ↦
                let yes : nat_eq (get_or slots ord 0) (j + 1) ≡ true = eq-eqb (get_or slots ord 0) (j + 1) (omega arith) in
                ap (λ i. is_in n (get_or (set now (slot - 1) set_new) i (empty_set 0)).places) same ∙ ap (λ (m : Marked). is_in n m.places) here ∙ ap (λ (m : Marked). is_in n m.places) marked
                ∙ is_in-either n (doc ∷ []) set_now.places
                ∙ ap (λ b. (nat_eq n doc || false) || b) (ap (λ (m : Marked). is_in n m.places) lent ∙ ap (λ i. is_in n (get_or now i (empty_set 0)).places) (sym same) ∙ h.members j n l)
                ∙ slot_step was (has_slot slots j (take k list)) false (nat_eq n doc)
                ∙ ap (λ b. was || (nat_eq n doc && (has_slot slots j (take k list) || b))) (sym yes) ∙ ap (λ b. was || (nat_eq n doc && b)) (sym more)
            | inr other ↦
                let no : nat_eq (get_or slots ord 0) (j + 1) ≡ false = ne_eqb (get_or slots ord 0) (j + 1) (λ z. other (omega arith)) in
                ap (λ (m : Marked). is_in n m.places) (get_or-set_other now (slot - 1) j set_new (empty_set 0) other) ∙ h.members j n l
                ∙ ap (λ b. was || (nat_eq n doc && b)) (sym (or-false (has_slot slots j (take k list))) ∙ ap (λ b. has_slot slots j (take k list) || b) (sym no) ∙ sym more)
          ];
      others =
          h.others ∙ ap (λ (xs : List ℕ). before ++ xs) (sym (filter_more (λ o. nat_eq (get_or slots o 0) 0) list k 0 within ∙ ap (λ b. without_slot slots (take k list) ++ cond b (ord ∷ []) []) none ∙ append-nil (without_slot slots (take k list))));
    }

-- one ordinal more, which has no slot
pub one_put : (slots : List ℕ) (doc : ℕ) (list : List ℕ) (k : ℕ) (old now : List Marked) (before after : List ℕ) → AreTaken slots doc list k old now before after → k < length list
    → get_or slots (get_or list k 0) 0 ≡ 0 → AreTaken slots doc list (k + 1) old now before (after ++ get_or list k 0 ∷ [])
one_put slots doc list k old now before after h within e =
    let ord : ℕ = get_or list k 0 in
    let none : nat_eq (get_or slots ord 0) 0 ≡ true = eq-eqb (get_or slots ord 0) 0 e in
    record {
      len = h.len;
      words = h.words;
      members = λ j n l.
          let no : nat_eq (get_or slots ord 0) (j + 1) ≡ false = ne_eqb (get_or slots ord 0) (j + 1) (λ z. omega arith) in
          h.members j n l
          ∙ ap (λ b. is_in n (get_or old j (empty_set 0)).places || (nat_eq n doc && b))
          (sym (or-false (has_slot slots j (take k list))) ∙ ap (λ b. has_slot slots j (take k list) || b) (sym no) ∙ sym (list_any_more (λ o. nat_eq (get_or slots o 0) (j + 1)) list k 0 within));
      others =
          ap (λ (xs : List ℕ). xs ++ ord ∷ []) h.others ∙ append_assoc before (without_slot slots (take k list)) (ord ∷ [])
          ∙ ap (λ (xs : List ℕ). before ++ xs) (sym (filter_more (λ o. nat_eq (get_or slots o 0) 0) list k 0 within ∙ ap (λ b. without_slot slots (take k list) ++ cond b (ord ∷ []) []) none));
    }

-- ---- one document after the other

pub none_noted : (lists : List (List ℕ)) (slots : List ℕ) (number : ℕ) (maps : List Marked) (starts ords : List ℕ) → length maps ≡ number → maps ≡ replicate (length maps) (empty_set ((length lists + 63) / 64)) → starts ≡ 0 ∷ [] → ords ≡ []
    → AreNoted lists slots number 0 maps starts ords
none_noted lists slots number maps starts ords many empty s o =
    let each : (j : ℕ) → j < number → get_or maps j (empty_set 0) ≡ empty_set ((length lists + 63) / 64) =
    λ j l. ap (λ (ms : List Marked). get_or ms j (empty_set 0)) empty ∙ get_or-replicate (length maps) j (empty_set ((length lists + 63) / 64)) (empty_set 0) (omega arith) in
    record {
      sets = many;
      words = λ j l. ap (λ (m : Marked). m.words) (each j l);
      members = λ j n l. ap (λ (m : Marked). is_in n m.places) (each j l) ∙ ap (λ b. b && has_slot slots j (get_or lists n [])) (sym (le-ltb n 0 (omega arith)));
      long = ap length s;
      last = ap (λ (xs : List ℕ). get_or xs 0 0) s ∙ ap length (sym o);
      ordered = λ n l. absurd (omega arith);
      within = λ n l. absurd (omega arith);
      sparse = λ n l. absurd (omega arith);
    }

and_or : (a b c : Bool) → ((a && c) || (b && c)) ≡ ((a || b) && c)
and_or true true true = refl
and_or true true false = refl
and_or true false true = refl
and_or true false false = refl
and_or false b c = refl

next_below : (n d : ℕ) → (ltb n d || nat_eq n d) ≡ ltb n (d + 1)
next_below n d =
    elim (cases_lt n d) [
      | inl l ↦ ap (λ b. b || nat_eq n d) (lt-ltb n d l) ∙ sym (lt-ltb n (d + 1) (omega arith))
      | inr ge ↦ elim (cases_eq n d) [
        | inl same ↦ ap (λ b. b || nat_eq n d) (le-ltb n d ge) ∙ eq-eqb n d same ∙ sym (lt-ltb n (d + 1) (omega arith))
        | inr other ↦ ap (λ b. b || nat_eq n d) (le-ltb n d ge) ∙ ne_eqb n d other ∙ sym (le-ltb n (d + 1) (omega arith))
      ]
    ]

-- the sets after the document d: where a place is d, its list is the one that was added
set_step : (n d : ℕ) (c e : Bool) → (n ≡ d → e ≡ c) → ((ltb n d && c) || (nat_eq n d && e)) ≡ (ltb n (d + 1) && c)
set_step n d c e same =
    elim (cases_eq n d) [
      | inl is ↦ ap (λ b. (ltb n d && c) || (nat_eq n d && b)) (same is) ∙ and_or (ltb n d) (nat_eq n d) c ∙ ap (λ b. b && c) (next_below n d)
      | inr other ↦
          ap (λ b. (ltb n d && c) || (b && e)) (ne_eqb n d other) ∙ or-false (ltb n d && c)
          ∙ ap (λ b. b && c) (sym (or-false (ltb n d)) ∙ ap (λ b. ltb n d || b) (sym (ne_eqb n d other)) ∙ next_below n d)
    ]

pub one_noted : (lists : List (List ℕ)) (slots : List ℕ) (number d : ℕ) (old new : List Marked) (starts before after list : List ℕ) → AreNoted lists slots number d old starts before → list ≡ get_or lists d [] → AreAdded slots d list old new before after
    → AreNoted lists slots number (d + 1) new (starts ++ length after ∷ []) after
unfolding sparse_at
one_noted lists slots number d old new starts before after list h is a =
    let long : length after ≡ length before + length (without_slot slots list) = ap length a.others ∙ length-append before (without_slot slots list) in
    let kept : (n : ℕ) → n ≤ d → get_or (starts ++ length after ∷ []) n 0 ≡ get_or starts n 0 = λ n l. get_or_append_left starts (length after ∷ []) 0 n (omega (arith, h.long)) in
    let end : get_or (starts ++ length after ∷ []) (d + 1) 0 ≡ length after = get_or_push starts (length after) 0 (d + 1) h.long in
    record {
      sets = a.len ∙ h.sets;
      words = λ j l. a.words j (omega (arith, h.sets)) ∙ h.words j l;
      members = λ j n l.
          a.members j n (omega (arith, h.sets)) ∙ ap (λ b. b || (nat_eq n d && has_slot slots j list)) (h.members j n l)
          ∙ set_step n d (has_slot slots j (get_or lists n [])) (has_slot slots j list) (λ same. ap (has_slot slots j) (is ∙ ap (λ i. get_or lists i []) (sym same)));
      long = length_push starts (length after) ∙ ap (λ n. n + 1) h.long;
      last = end;
      ordered = λ n l. elim (cases_lt n d) [
        | inl less ↦ omega (arith, kept n (omega arith), kept (n + 1) (omega arith), h.ordered n less)
        | inr ge ↦ let same : n ≡ d = omega arith in omega (arith, kept d (omega arith), end, h.last, long, ap (λ i. get_or (starts ++ length after ∷ []) i 0) same, ap (λ i. get_or (starts ++ length after ∷ []) (i + 1) 0) same)
      ];
      within = λ n l. elim (cases_lt n d) [
        | inl less ↦ omega (arith, kept (n + 1) (omega arith), h.within n less, long)
        | inr ge ↦ let same : n ≡ d = omega arith in omega (arith, end, ap (λ i. get_or (starts ++ length after ∷ []) (i + 1) 0) same)
      ];
      sparse = λ n l. elim (cases_lt n d) [
        | inl less ↦
            let low : ℕ = get_or starts n 0 in
            let high : ℕ = get_or starts (n + 1) 0 in
            (λ i. take (kept (n + 1) (omega arith) i - kept n (omega arith) i) (drop (kept n (omega arith) i) after))
            ∙ ap (λ (xs : List ℕ). take (high - low) (drop low xs)) a.others
            ∙ ap (take (high - low)) (drop-append-le low before (without_slot slots list) (omega (arith, h.ordered n less, h.within n less)))
            ∙ take-append-le (high - low) (drop low before) (without_slot slots list) (omega (arith, length-drop low before, h.ordered n less, h.within n less))
            ∙ h.sparse n less
        | inr ge ↦
            let same : n ≡ d = omega arith in
            let low : get_or (starts ++ length after ∷ []) n 0 ≡ length before = ap (λ i. get_or (starts ++ length after ∷ []) i 0) same ∙ kept d (omega arith) ∙ h.last in
            let high : get_or (starts ++ length after ∷ []) (n + 1) 0 ≡ length after = ap (λ i. get_or (starts ++ length after ∷ []) (i + 1) 0) same ∙ end in
            (λ i. take (high i - low i) (drop (low i) (a.others i)))
            ∙ ap (take (length after - length before)) (drop-append_seam before (without_slot slots list))
            ∙ take_all (length after - length before) (without_slot slots list) (omega (arith, long))
            ∙ ap (without_slot slots) (is ∙ ap (λ i. get_or lists i []) (sym same))
      ];
    }

pub slot_most : (slots dense : List ℕ) → AreSlots slots dense → (ord : ℕ) → get_or slots ord 0 ≤ length dense
slot_most slots dense are ord =
    elim (cases_eq (get_or slots ord 0) 0) [
      | inl none ↦ omega arith
      | inr some ↦ omega (arith, (are.some ord (get_or slots ord 0 - 1) (omega arith)).0)
    ]
