-- What is in a set, and that a set is one rising list.
use Rattle.std.proofs.Common.{◌≡◌, ℕ, Bool, true, false, not, cond, eqb, ◌||◌, ◌&&◌, List, [], ◌∷◌, refl, sym, ap, subst, ◌∙◌, arith, inl, inr, ◌<◌, zero, suc, length, get_or}
use Rattle.std.proofs.lemmas.Bool.{eq-eqb, ne_eqb, eqb-true, cases_lt}
use Rattle.seg_postings.specs.Rising.{IsBelowAll, IsRising, is_in}
use Rattle.seg_postings.specs.Sets.{picked, without, put_in, either}
use Rattle.seg_postings.proofs.Order.{below_weaker}
use Rattle.seg_postings.proofs.Sets.{is_in_below}
use Rattle.seg_postings.proofs.Either.{put_less, put_same, put_more, put_none}
use Rattle.std.proofs.Math.Bool.{and-false, or_assoc, or-true, or_self_left}
use Rattle.std.specs.List.{filter}

or_swapped : (a b r : Bool) → b || (a || r) ≡ a || (b || r)
or_swapped true true r = refl
or_swapped true false r = refl
or_swapped false true r = refl
or_swapped false false r = refl

is_in_put : (q x : ℕ) (ys : List ℕ) → is_in q (put_in x ys) ≡ (eqb q x || is_in q ys)
is_in_put q x [] = ap (is_in q) (put_none x)
is_in_put q x (y ∷ ys) =
    elim (cases_lt x y) [
      | inl less ↦ ap (is_in q) (put_less x y ys less)
      | inr ge ↦ elim (cases_lt y x) [
        | inl more ↦ ap (is_in q) (put_more x y ys more) ∙ ap (λ b. eqb q y || b) (is_in_put q x ys) ∙ or_swapped (eqb q x) (eqb q y) (is_in q ys)
        | inr le ↦
            let same : x ≡ y = omega arith in
            ap (is_in q) (put_same x y ys same) ∙ sym (ap (λ n. eqb q n || (eqb q y || is_in q ys)) same ∙ or_self_left (eqb q y) (is_in q ys))
      ]
    ]

pub is_in-either : (q : ℕ) (xs ys : List ℕ) → is_in q (either xs ys) ≡ (is_in q xs || is_in q ys)
unfolding either
is_in-either q [] ys = refl
is_in-either q (x ∷ xs) ys = is_in_put q x (either xs ys) ∙ ap (λ b. eqb q x || b) (is_in-either q xs ys) ∙ sym (or_assoc (eqb q x) (is_in q xs) (is_in q ys))

-- x is picked where its test t holds; the test of q is s, and that of x where they are the same
picked_member : (e t s r : Bool) (q x : ℕ) (zs : List ℕ) → eqb q x ≡ e → (e ≡ true → s ≡ t) → is_in q zs ≡ (r && s) → is_in q (cond t (x ∷ zs) zs) ≡ ((e || r) && s)
picked_member true true s r q x zs h k m = rw (h, k refl) refl
picked_member true false s r q x zs h k m = rw (m, k refl) (and-false r)
picked_member false true s r q x zs h k m = rw (h, m) refl
picked_member false false s r q x zs h k m = m

pub is_in_filter : (test : ℕ → Bool) (q : ℕ) (xs : List ℕ) → is_in q (filter test xs) ≡ (is_in q xs && test q)
is_in_filter test q [] = refl
is_in_filter test q (x ∷ xs) = picked_member (eqb q x) (test x) (test q) (is_in q xs) q x (filter test xs) refl (λ h. ap test (eqb-true q x h)) (is_in_filter test q xs)

is_in-picked : (test : Bool → Bool) (q : ℕ) (xs ys : List ℕ) → is_in q (picked test xs ys) ≡ (is_in q xs && test (is_in q ys))
unfolding picked
is_in-picked test q [] ys = refl
is_in-picked test q (x ∷ xs) ys = picked_member (eqb q x) (test (is_in x ys)) (test (is_in q ys)) (is_in q xs) q x (picked test xs ys) refl (λ h. ap (λ n. test (is_in n ys)) (eqb-true q x h)) (is_in-picked test q xs ys)

pub is_in-without : (q : ℕ) (xs ys : List ℕ) → is_in q (without xs ys) ≡ (is_in q xs && not (is_in q ys))
unfolding without
is_in-without q xs ys = is_in-picked not q xs ys

-- ---- a set is one rising list

pub here_in : (x : ℕ) (xs : List ℕ) → is_in x (x ∷ xs) ≡ true
here_in x xs = rw (eq-eqb x x refl) refl

abbrev AreSame : List ℕ → List ℕ → Type 0
AreSame xs ys = (q : ℕ) → is_in q xs ≡ is_in q ys

same_behind : (x : ℕ) (xs ys : List ℕ) → IsBelowAll x xs → IsBelowAll x ys → AreSame (x ∷ xs) (x ∷ ys) → AreSame xs ys
same_behind x xs ys h k same q =
    elim (cases_lt q x) [
      | inl lt ↦ rw (is_in_below q xs (below_weaker q x xs (omega arith) h), is_in_below q ys (below_weaker q x ys (omega arith) k)) refl
      | inr ge ↦ elim (cases_lt x q) [
        | inl gt ↦ rw (ne_eqb q x (λ e. omega arith)) at (same q)
        | inr le ↦ rw (is_in_below q xs (below_weaker q x xs (omega arith) h), is_in_below q ys (below_weaker q x ys (omega arith) k)) refl
      ]
    ]

heads_same : (x y : ℕ) (xs ys : List ℕ) → IsRising (x ∷ xs) → IsRising (y ∷ ys) → AreSame (x ∷ xs) (y ∷ ys) → x ≡ y
heads_same x y xs ys h k same =
    elim (cases_lt x y) [
      | inl lt ↦ let t : true ≡ false = sym (here_in x xs) ∙ same x ∙ is_in_below x (y ∷ ys) (lt, below_weaker x y ys (omega arith) k.0) in absurd cc
      | inr ge ↦ elim (cases_lt y x) [
        | inl gt ↦ let t : true ≡ false = sym (here_in y ys) ∙ sym (same y) ∙ is_in_below y (x ∷ xs) (gt, below_weaker y x xs (omega arith) h.0) in absurd cc
        | inr le ↦ omega arith
      ]
    ]

pub one_rising : (xs ys : List ℕ) → IsRising xs → IsRising ys → ((q : ℕ) → is_in q xs ≡ is_in q ys) → xs ≡ ys
one_rising [] [] h k same = refl
one_rising [] (y ∷ ys) h k same = let t : false ≡ true = same y ∙ here_in y ys in absurd cc
one_rising (x ∷ xs) [] h k same = let t : true ≡ false = sym (here_in x xs) ∙ same x in absurd cc
one_rising (x ∷ xs) (y ∷ ys) h k same =
    let e : x ≡ y = heads_same x y xs ys h k same in
    let below : IsBelowAll y xs = subst (λ (n : ℕ). IsBelowAll n xs) e h.0 in
    let same2 : AreSame (y ∷ xs) (y ∷ ys) = subst (λ (n : ℕ). AreSame (n ∷ xs) (y ∷ ys)) e same in
    ap (λ (n : ℕ). n ∷ xs) e ∙ ap (λ (zs : List ℕ). y ∷ zs) (one_rising xs ys h.1 k.1 (same_behind y xs ys below k.0 same2))

pub later_in : (n x : ℕ) (xs : List ℕ) → is_in n xs ≡ true → is_in n (x ∷ xs) ≡ true
later_in n x xs h = ap (λ b. eqb n x || b) h ∙ or-true (eqb n x)

pub is_there : (xs : List ℕ) (k : ℕ) → k < length xs → is_in (get_or xs k 0) xs ≡ true
is_there [] k l = absurd (omega arith)
is_there (x ∷ xs) zero l = here_in x xs
is_there (x ∷ xs) (suc k) l = later_in (get_or xs k 0) x xs (is_there xs k (omega arith))
