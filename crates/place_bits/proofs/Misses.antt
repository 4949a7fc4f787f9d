-- Sets of a list, one after the other.
use Rattle.std.proofs.Common.{◌≡◌, ℕ, zero, suc, ◌+◌, ◌<◌, ◌≤◌, Bool, true, false, not, cond, eqb, ltb, leb, ◌&&◌, ◌||◌, List, [], ◌∷◌, get_or, set, take, length, refl, sym, ap, subst, ◌∙◌, inl, inr, arith}
use Rattle.std.specs.List.{AllZip}
use Rattle.std.proofs.lemmas.Bool.{cases_eq, cases_lt, lt-ltb, lt-leb, ne_eqb}
use Rattle.std.proofs.lemmas.List.{get_or-set_same, get_or-set_other, length-set, get_or_default}
use Rattle.std.proofs.lemmas.List.Filters.{length-filter_more}
use Rattle.seg_postings.specs.Rising.{is_in}
use Rattle.place_bits.specs.Misses.{fails, HaveWords, IsLeftBy, IsMissed, IsNear}
use Rattle.place_bits.specs.Words.{Marked, empty_set}
use Rattle.std.proofs.Math.Bool.{or-false, or-true, and-false}

-- The first k sets were changed, each as the relation says, and the others are as they were.
pub record AreChanged (R : Marked → Marked → Type 0) (k : ℕ) (now old : List Marked) : Type 0 where
  pub len : length now ≡ length old
  pub done : (j : ℕ) (d : Marked) → j < k → j < length old → R (get_or old j d) (get_or now j d)
  pub rest : (j : ℕ) (d : Marked) → k ≤ j → get_or now j d ≡ get_or old j d

pub none_changed : (R : Marked → Marked → Type 0) (dims : List Marked) → AreChanged R 0 dims dims
none_changed R dims = record { len = refl; done = λ j d l w. absurd (omega arith); rest = λ j d l. refl }

pub changed_more : (R : Marked → Marked → Type 0) (k : ℕ) (now old : List Marked) (dim new d : Marked) → AreChanged R k now old → k < length old → dim ≡ get_or now k d → R dim new → AreChanged R (k + 1) (set now k new) old
changed_more R k now old dim new d h within at is = record {
  len = length-set now k new ∙ h.len;
  done = λ j x l w. elim (cases_eq j k) [
    | inl same ↦
        let there : dim ≡ get_or old j x = at ∙ h.rest k d (omega arith) ∙ get_or_default old k d x within ∙ ap (λ i. get_or old i x) (sym same) in
        let here : new ≡ get_or (set now k new) j x = sym (ap (λ i. get_or (set now k new) i x) same ∙ get_or-set_same now k new x (omega (arith, h.len))) in
        subst (λ a. R a (get_or (set now k new) j x)) there (subst (R dim) here is)
    | inr other ↦ subst (R (get_or old j x)) (sym (get_or-set_other now k j new x other)) (h.done j x (omega arith) w)
  ];
  rest = λ j x l. get_or-set_other now k j new x (λ e. omega arith) ∙ h.rest j x (omega arith);
}

pub zip_all : (R : Marked → Marked → Type 0) (old now : List Marked) → length now ≡ length old → ((j : ℕ) (d : Marked) → j < length old → R (get_or old j d) (get_or now j d)) → AllZip R old now
zip_all R [] [] len h = tt
zip_all R [] (y ∷ ys) len h = absurd (omega (arith, len))
zip_all R (x ∷ xs) [] len h = absurd (omega (arith, len))
zip_all R (x ∷ xs) (y ∷ ys) len h = (h 0 x (omega arith), zip_all R xs ys (omega (arith, len)) (λ j d l. h (suc j) d (omega arith)))

pub all_changed : (R : Marked → Marked → Type 0) (k : ℕ) (now old : List Marked) → AreChanged R k now old → length old ≤ k → AllZip R old now
all_changed R k now old h all = zip_all R old now h.len (λ j d l. h.done j d (omega arith) l)

words_at : (words : ℕ) (dims : List Marked) (j : ℕ) (d : Marked) → HaveWords words dims → j < length dims → (get_or dims j d).words ≡ words
words_at words [] j d h l = absurd (omega arith)
words_at words (x ∷ xs) zero d h l = h.0
words_at words (x ∷ xs) (suc j) d h l = words_at words xs j d h.1 (omega arith)

-- a set that is not changed yet has its room
pub words_here : (R : Marked → Marked → Type 0) (words k : ℕ) (now old : List Marked) (dim d : Marked) → HaveWords words old → AreChanged R k now old → k < length old → dim ≡ get_or now k d → dim.words ≡ words
words_here R words k now old dim d have h within at = ap (λ (m : Marked). m.words) (at ∙ h.rest k d (omega arith)) ∙ words_at words old k d have within

-- ---- what was noted

pub record AreNoted (base : Marked) (k : ℕ) (now old : List Marked) (ones twos : Marked) : Type 0 where
  pub missed : AreChanged (IsMissed base.places) k now old
  pub ones_words : ones.words ≡ base.words
  pub one_fails : (n : ℕ) → is_in n ones.places ≡ (is_in n base.places && ltb 0 (fails (take k old) n))
  pub twos_words : twos.words ≡ base.words
  pub two_fail : (n : ℕ) → is_in n twos.places ≡ (is_in n base.places && ltb 1 (fails (take k old) n))

pub noted_start : (base : Marked) (dims : List Marked) (ones twos : Marked) → ones ≡ empty_set base.words → twos ≡ empty_set base.words → AreNoted base 0 dims dims ones twos
unfolding fails
noted_start base dims ones twos e f = record {
  missed = none_changed (IsMissed base.places) dims;
  ones_words = ap (λ (m : Marked). m.words) e;
  one_fails = λ n. ap (λ (m : Marked). is_in n m.places) e ∙ sym (and-false (is_in n base.places));
  twos_words = ap (λ (m : Marked). m.words) f;
  two_fail = λ n. ap (λ (m : Marked). is_in n m.places) f ∙ sym (and-false (is_in n base.places));
}

one_step : (b i : Bool) (f : ℕ) → ((b && ltb 0 f) || (b && not i)) ≡ (b && ltb 0 (f + cond (not i) 1 0))
one_step false i f = refl
one_step true true f = let z : f ≡ f + 0 = omega arith in or-false (ltb 0 f) ∙ ap (ltb 0) z
one_step true false f = or-true (ltb 0 f) ∙ sym (lt-ltb 0 (f + 1) (omega arith))

two_step : (b i : Bool) (f : ℕ) → ((b && ltb 1 f) || ((b && ltb 0 f) && (b && not i))) ≡ (b && ltb 1 (f + cond (not i) 1 0))
two_step false i f = refl
two_step true true f = let z : f ≡ f + 0 = omega arith in ap (λ b. ltb 1 f || b) (and-false (ltb 0 f)) ∙ or-false (ltb 1 f) ∙ ap (ltb 1) z
two_step true false f =
    elim (cases_lt 0 f) [
      | inl some ↦ rw (lt-ltb 0 f some, lt-ltb 1 (f + 1) (omega arith)) (or-true (ltb 1 f))
      | inr none ↦ let z : f ≡ 0 = omega arith in rw z refl
    ]

fails_more : (dims : List Marked) (k n : ℕ) (d : Marked) → k < length dims → fails (take (k + 1) dims) n ≡ fails (take k dims) n + cond (not (is_in n (get_or dims k d).places)) 1 0
unfolding fails
fails_more dims k n d l = length-filter_more (λ d. not (is_in n d.places)) dims k d l

pub noted_more : (base : Marked) (k : ℕ) (now old : List Marked) (ones twos dim dim2 ones2 twos2 d : Marked) → AreNoted base k now old ones twos → k < length old → dim ≡ get_or now k d → IsMissed base.places dim dim2
    → ones2.words ≡ ones.words → ((n : ℕ) → is_in n ones2.places ≡ (is_in n ones.places || (is_in n base.places && not (is_in n dim.places))))
    → twos2.words ≡ twos.words → ((n : ℕ) → is_in n twos2.places ≡ (is_in n twos.places || (is_in n ones.places && (is_in n base.places && not (is_in n dim.places)))))
    → AreNoted base (k + 1) (set now k dim2) old ones2 twos2
noted_more base k now old ones twos dim dim2 ones2 twos2 d h within at missed w1 f w2 g =
    let here : dim ≡ get_or old k d = at ∙ h.missed.rest k d (omega arith) in
    let more : (n : ℕ) → fails (take (k + 1) old) n ≡ fails (take k old) n + cond (not (is_in n dim.places)) 1 0 =
    λ n. fails_more old k n d within ∙ ap (λ (m : Marked). fails (take k old) n + cond (not (is_in n m.places)) 1 0) (sym here) in
    record {
      missed = changed_more (IsMissed base.places) k now old dim dim2 d h.missed within at missed;
      ones_words = w1 ∙ h.ones_words;
      one_fails = λ n. f n ∙ ap (λ b. b || (is_in n base.places && not (is_in n dim.places))) (h.one_fails n)
          ∙ one_step (is_in n base.places) (is_in n dim.places) (fails (take k old) n) ∙ ap (λ m. is_in n base.places && ltb 0 m) (sym (more n));
      twos_words = w2 ∙ h.twos_words;
      two_fail = λ n. g n ∙ (λ i. h.two_fail n i || (h.one_fails n i && (is_in n base.places && not (is_in n dim.places))))
          ∙ two_step (is_in n base.places) (is_in n dim.places) (fails (take k old) n) ∙ ap (λ m. is_in n base.places && ltb 1 m) (sym (more n));
    }

-- ---- what is left

hit_test : (f : ℕ) → not (ltb 0 f) ≡ eqb f 0
hit_test zero = refl
hit_test (suc f) = rw (lt-ltb 0 (suc f) (omega arith), ne_eqb (suc f) 0 (λ e. omega arith)) refl

near_test : (f : ℕ) → not (ltb 1 f) ≡ leb f 1
near_test zero = refl
near_test (suc zero) = refl
near_test (suc (suc f)) = rw (lt-ltb 1 (suc (suc f)) (omega arith), lt-leb (suc (suc f)) 1 (omega arith)) refl

pub hit_left : (a b : Bool) (f : ℕ) → b ≡ (a && ltb 0 f) → (a && not b) ≡ (a && eqb f 0)
hit_left false b f e = refl
hit_left true b f e = ap not e ∙ hit_test f

near_left : (a i b : Bool) (f : ℕ) → b ≡ (a && ltb 1 f) → ((a && not i) && not b) ≡ (a && (not i && leb f 1))
near_left false i b f e = refl
near_left true true b f e = refl
near_left true false b f e = ap not e ∙ near_test f

pub words_kept : (words : ℕ) (base : List ℕ) (dims now : List Marked) → HaveWords words dims → AllZip (IsMissed base) dims now → HaveWords words now
words_kept words base [] [] have missed = tt
words_kept words base [] (m ∷ ms) have missed = absurd missed
words_kept words base (d ∷ ds) [] have missed = absurd missed
words_kept words base (d ∷ ds) (m ∷ ms) have missed = (missed.0.words ∙ have.0, words_kept words base ds ms have.1 missed.1)

pub all_near : (base : List ℕ) (all dims now new : List Marked) (twos : List ℕ) → ((n : ℕ) → is_in n twos ≡ (is_in n base && ltb 1 (fails all n)))
    → AllZip (IsMissed base) dims now → AllZip (IsLeftBy twos) now new → AllZip (IsNear base all) dims new
all_near base all [] [] [] twos h missed left = tt
all_near base all [] [] (n ∷ ns) twos h missed left = absurd left
all_near base all [] (m ∷ ms) new twos h missed left = absurd missed
all_near base all (d ∷ ds) [] new twos h missed left = absurd missed
all_near base all (d ∷ ds) (m ∷ ms) [] twos h missed left = absurd left
all_near base all (d ∷ ds) (m ∷ ms) (x ∷ xs) twos h missed left = (
  record {
    words = left.0.words ∙ missed.0.words;
    members = λ n. left.0.members n ∙ ap (λ b. b && not (is_in n twos)) (missed.0.members n) ∙ near_left (is_in n base) (is_in n d.places) (is_in n twos) (fails all n) (h n);
    rising = left.0.rising;
  },
  all_near base all ds ms xs twos h missed.1 left.1,
)
