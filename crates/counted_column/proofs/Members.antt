-- What is in lists, and how many of a list's elements pass a test.
use Rattle.std.proofs.Common.{◌≡◌, ℕ, ◌+◌, ◌<◌, Bool, true, false, cond, eqb, ◌||◌, ◌&&◌, List, [], ◌∷◌, map, length, refl, sym, ap, subst, ◌∙◌, arith}
use Rattle.std.specs.Prelude.{count_by, nat_eq, All}
use Rattle.std.specs.List.{filter, list_any}
use Rattle.std.proofs.lemmas.Bool.{eqb-true}
use Rattle.std.proofs.lemmas.List.Elements.{All-head, All-tail}
use Rattle.std.proofs.lemmas.List.Sums.{sum_by-cons}
use Rattle.seg_postings.specs.Rising.{is_in}
use Rattle.seg_postings.proofs.Members.{here_in, later_in}

pub any_is_in : (q : ℕ) (xs : List ℕ) → list_any (nat_eq q) xs ≡ is_in q xs
any_is_in q [] = refl
any_is_in q (x ∷ xs) = ap (λ b. eqb q x || b) (any_is_in q xs)

-- what all elements have, each of them has
pub all_in : (P : ℕ → Type 0) (q : ℕ) (xs : List ℕ) → All P xs → is_in q xs ≡ true → P q
all_in P q [] all h = let t : false ≡ true = h in absurd cc
all_in P q (x ∷ xs) all h = by (all_in P q xs (All-tail P x xs all)) (eqb q x) refl h
  where
    by : (is_in q xs ≡ true → P q) → (b : Bool) → eqb q x ≡ b → (b || is_in q xs) ≡ true → P q
    by rest true e i = subst P (sym (eqb-true q x e)) (All-head P x xs all)
    by rest false e i = rest i

-- ---- counts

pub count_cons : (p : ℕ → Bool) (x : ℕ) (xs : List ℕ) → count_by p (x ∷ xs) ≡ cond (p x) 1 0 + count_by p xs
count_cons p x xs = sum_by-cons (λ n. cond (p n) 1 0) x xs

pub count_none : (xs : List ℕ) → count_by (λ n. false) xs ≡ 0
count_none [] = refl
count_none (x ∷ xs) = omega (arith, count_cons (λ n. false) x xs, count_none xs)

-- where each element that passes the first test passes one of two others, and passes the other not
pub count_split : (p q r : ℕ → Bool) (xs : List ℕ) → ((n : ℕ) → is_in n xs ≡ true → cond (p n) 1 0 ≡ cond (q n) 1 0 + cond (r n) 1 0) → count_by p xs ≡ count_by q xs + count_by r xs
count_split p q r [] h = refl
count_split p q r (x ∷ xs) h =
    omega (arith, h x (here_in x xs), count_split p q r xs (λ n i. h n (later_in n x xs i)), count_cons p x xs, count_cons q x xs, count_cons r x xs)

pub count_and : (e : Bool) (p : ℕ → Bool) (xs : List ℕ) → count_by (λ n. e && p n) xs ≡ cond e (count_by p xs) 0
count_and true p xs = refl
count_and false p xs = count_none xs

pub count_map : (p : List ℕ → Bool) (f : ℕ → List ℕ) (xs : List ℕ) → count_by p (map f xs) ≡ count_by (λ n. p (f n)) xs
count_map p f [] = refl
count_map p f (x ∷ xs) = sum_by-cons (λ l. cond (p l) 1 0) (f x) (map f xs) ∙ ap (λ n. cond (p (f x)) 1 0 + n) (count_map p f xs) ∙ sym (count_cons (λ n. p (f n)) x xs)

-- of some that pass there is one
pub some_passes : (p : ℕ → Bool) (xs : List ℕ) → 0 < length (filter p xs) → (n : ℕ) × (is_in n xs ≡ true) × (p n ≡ true)
some_passes p [] l = absurd (omega arith)
some_passes p (x ∷ xs) l = by (some_passes p xs) (p x) refl l
  where
    by : (0 < length (filter p xs) → (n : ℕ) × (is_in n xs ≡ true) × (p n ≡ true)) → (b : Bool) → p x ≡ b → 0 < length (cond b (x ∷ filter p xs) (filter p xs)) → (n : ℕ) × (is_in n (x ∷ xs) ≡ true) × (p n ≡ true)
    by rest true e l = (x, here_in x xs, e)
    by rest false e l = let r = rest l in (r.0, later_in r.0 x xs r.1, r.2)
