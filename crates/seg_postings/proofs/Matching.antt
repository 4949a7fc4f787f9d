-- Set operations of what tests pick from one rising list are what the tests together pick.
use Rattle.std.proofs.Common.{◌≡◌, ℕ, Bool, true, false, not, cond, ◌||◌, ◌&&◌, List, [], ◌∷◌, refl, ap, ◌∙◌}
use Rattle.std.specs.List.{filter}
use Rattle.std.proofs.lemmas.Bool.{eq-eqb}
use Rattle.seg_postings.specs.Rising.{IsBelowAll, IsRising, is_in}
use Rattle.seg_postings.specs.Sets.{picked, without, put_in, either}
use Rattle.seg_postings.proofs.Order.{below_filter}
use Rattle.seg_postings.proofs.Sets.{is_in_below, picked_later}
use Rattle.seg_postings.proofs.Either.{put_same, put_below, below_either, either_later}

either_both : (x : ℕ) (ps qs : List ℕ) → IsBelowAll x ps → IsBelowAll x qs → either (x ∷ ps) (x ∷ qs) ≡ x ∷ either ps qs
unfolding either
either_both x ps qs h k = ap (λ (r : List ℕ). put_in x r) (either_later x ps qs h) ∙ put_same x x (either ps qs) refl

either_left : (x : ℕ) (ps qs : List ℕ) → IsBelowAll x ps → IsBelowAll x qs → either (x ∷ ps) qs ≡ x ∷ either ps qs
unfolding either
either_left x ps qs h k = put_below x (either ps qs) (below_either x ps qs h k)

either_empty : either [] [] ≡ []
unfolding either
either_empty = refl

either_choices : (x : ℕ) (ps qs rs : List ℕ) (b c : Bool) → IsBelowAll x ps → IsBelowAll x qs → either ps qs ≡ rs → either (cond b (x ∷ ps) ps) (cond c (x ∷ qs) qs) ≡ cond (b || c) (x ∷ rs) rs
either_choices x ps qs rs true true h k e = either_both x ps qs h k ∙ ap (λ (r : List ℕ). x ∷ r) e
either_choices x ps qs rs true false h k e = either_left x ps qs h k ∙ ap (λ (r : List ℕ). x ∷ r) e
either_choices x ps qs rs false true h k e = either_later x ps qs h ∙ ap (λ (r : List ℕ). x ∷ r) e
either_choices x ps qs rs false false h k e = e

pub either-filter : (p q : ℕ → Bool) (xs : List ℕ) → IsRising xs → either (filter p xs) (filter q xs) ≡ filter (λ x. p x || q x) xs
either-filter p q [] h = either_empty
either-filter p q (x ∷ xs) h = either_choices x (filter p xs) (filter q xs) (filter (λ y. p y || q y) xs) (p x) (q x) (below_filter x p xs h.0) (below_filter x q xs h.0) (either-filter p q xs h.1)

picked_empty : (test : Bool → Bool) → picked test [] [] ≡ []
unfolding picked
picked_empty test = refl

picked_step : (test : Bool → Bool) (x : ℕ) (ps qs : List ℕ) (b : Bool) → is_in x qs ≡ b → picked test (x ∷ ps) qs ≡ cond (test b) (x ∷ picked test ps qs) (picked test ps qs)
unfolding picked
picked_step test x ps qs b e = rw e refl

picked_both : (test : Bool → Bool) (x : ℕ) (ps qs : List ℕ) → IsBelowAll x ps → picked test (x ∷ ps) (x ∷ qs) ≡ cond (test true) (x ∷ picked test ps qs) (picked test ps qs)
picked_both test x ps qs h = picked_step test x ps (x ∷ qs) true (rw (eq-eqb x x refl) refl) ∙ ap (λ (r : List ℕ). cond (test true) (x ∷ r) r) (picked_later test x ps qs h)

picked_choices : (test : Bool → Bool) (x : ℕ) (ps qs rs : List ℕ) (b c : Bool) → IsBelowAll x ps → IsBelowAll x qs → picked test ps qs ≡ rs → picked test (cond b (x ∷ ps) ps) (cond c (x ∷ qs) qs) ≡ cond (b && test c) (x ∷ rs) rs
picked_choices test x ps qs rs true true h k e = picked_both test x ps qs h ∙ ap (λ (r : List ℕ). cond (test true) (x ∷ r) r) e
picked_choices test x ps qs rs true false h k e = picked_step test x ps qs false (is_in_below x qs k) ∙ ap (λ (r : List ℕ). cond (test false) (x ∷ r) r) e
picked_choices test x ps qs rs false true h k e = picked_later test x ps qs h ∙ e
picked_choices test x ps qs rs false false h k e = e

picked-filter : (test : Bool → Bool) (p q : ℕ → Bool) (xs : List ℕ) → IsRising xs → picked test (filter p xs) (filter q xs) ≡ filter (λ x. p x && test (q x)) xs
picked-filter test p q [] h = picked_empty test
picked-filter test p q (x ∷ xs) h = picked_choices test x (filter p xs) (filter q xs) (filter (λ y. p y && test (q y)) xs) (p x) (q x) (below_filter x p xs h.0) (below_filter x q xs h.0) (picked-filter test p q xs h.1)

pub without-filter : (p q : ℕ → Bool) (xs : List ℕ) → IsRising xs → without (filter p xs) (filter q xs) ≡ filter (λ x. p x && not (q x)) xs
unfolding without
without-filter p q xs h = picked-filter not p q xs h
