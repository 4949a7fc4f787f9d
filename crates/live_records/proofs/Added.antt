-- What is dead after more is.
use Rattle.std.proofs.Common.{◌≡◌, ℕ, ◌+◌, ◌<◌, Bool, true, false, eqb, ◌||◌, List, [], ◌∷◌, ◌++◌, length, take, get_or, refl, sym, ap, ◌∙◌, arith}
use Rattle.std.specs.List.{AllByRecursion}
use Rattle.std.proofs.lemmas.Bool.{eqb-true}
use Rattle.std.proofs.lemmas.List.{take_more}
use Rattle.facet_codec.specs.Laws.{IsBelow}
use Rattle.seg_postings.specs.Rising.{is_in}
use Rattle.seg_postings.specs.Sets.{either}
use Rattle.seg_postings.proofs.Members.{is_in-either, here_in, later_in}
use Rattle.facet_model.specs.Stored.{is_dead}
use Rattle.live_records.specs.Live.{Live}
use Rattle.live_records.proofs.Alive.{is_in-is_dead}
use Rattle.std.proofs.Math.Bool.{or_assoc}

or_moved : (a b c : Bool) → (c || false) || (a || b) ≡ a || (b || (c || false))
or_moved true true true = refl
or_moved true true false = refl
or_moved true false true = refl
or_moved true false false = refl
or_moved false true true = refl
or_moved false true false = refl
or_moved false false true = refl
or_moved false false false = refl

pub is_in_append : (n : ℕ) (xs ys : List ℕ) → is_in n (xs ++ ys) ≡ (is_in n xs || is_in n ys)
is_in_append n [] ys = refl
is_in_append n (x ∷ xs) ys = ap (λ b. eqb n x || b) (is_in_append n xs ys) ∙ sym (or_assoc (eqb n x) (is_in n xs) (is_in n ys))

-- one place more is added
pub one_added : (old now new places : List ℕ) (k p : ℕ) → k < length places → p ≡ get_or places k 0 → new ≡ either (p ∷ []) now
    → ((n : ℕ) → is_in n now ≡ (is_in n old || is_in n (take k places))) → (n : ℕ) → is_in n new ≡ (is_in n old || is_in n (take (k + 1) places))
one_added old now new places k p lt at is h n =
    ap (is_in n) is ∙ is_in-either n (p ∷ []) now ∙ ap (λ b. (eqb n p || false) || b) (h n) ∙ or_moved (is_in n old) (is_in n (take k places)) (eqb n p)
    ∙ ap (λ b. is_in n old || b) (sym (ap (is_in n) (take_more places k 0 lt ∙ ap (λ m. take k places ++ m ∷ []) (sym at)) ∙ is_in_append n (take k places) (p ∷ [])))

below_all : (b : ℕ) (xs : List ℕ) → ((n : ℕ) → is_in n xs ≡ true → n < b) → AllByRecursion (IsBelow b) xs
below_all b [] h = tt
below_all b (x ∷ xs) h = (h x (here_in x xs), below_all b xs (λ n i. h n (later_in n x xs i)))

pub below_in : (b : ℕ) (xs : List ℕ) → AllByRecursion (IsBelow b) xs → (n : ℕ) → is_in n xs ≡ true → n < b
below_in b [] h n i = let t : false ≡ true = i in absurd cc
below_in b (x ∷ xs) h n i = by (below_in b xs h.1 n) (eqb n x) refl i
  where
    by : (is_in n xs ≡ true → n < b) → (e : Bool) → eqb n x ≡ e → (e || is_in n xs) ≡ true → n < b
    by rest true e j = omega (arith, eqb-true n x e, h.0)
    by rest false e j = rest j

-- of what is kept of records, when the places are added to a set
module _ (docs : ℕ) (dead xs ys places first all : List ℕ) (same : xs ≡ dead) (none : ys ≡ []) (one : (n : ℕ) → is_in n first ≡ (is_in n ys || is_in n xs)) (two : (n : ℕ) → is_in n all ≡ (is_in n first || is_in n places)) where
  either_way : (n : ℕ) → is_in n all ≡ (is_in n dead || is_in n places)
  either_way n = two n ∙ ap (λ b. b || is_in n places) (one n ∙ (λ i. is_in n (none i) || is_in n (same i)))

  pub added_below : AllByRecursion (IsBelow docs) dead → AllByRecursion (IsBelow docs) places → AllByRecursion (IsBelow docs) all
  added_below d p = below_all docs all (λ n i. by n (is_in n dead) refl (sym (either_way n) ∙ i))
    where
      by : (n : ℕ) (e : Bool) → is_in n dead ≡ e → (is_in n dead || is_in n places) ≡ true → n < docs
      by n true e i = below_in docs dead d n e
      by n false e i = below_in docs places p n (ap (λ b. b || is_in n places) (sym e) ∙ i)

  pub added_dead : (live : Live) → record { docs = docs; dead = dead } ≡ live → (n : ℕ) → is_dead all n ≡ (is_dead live.dead n || is_dead places n)
  added_dead live is n =
      sym (is_in-is_dead n all) ∙ either_way n ∙ (λ i. is_in-is_dead n dead i || is_in-is_dead n places i) ∙ ap (λ (l : Live). is_dead l.dead n || is_dead places n) is
