-- Histories that grow, and what a number has entered in them.
use Rattle.std.proofs.Common.{◌≡◌, ◌≢◌, ◌⊎◌, inl, inr, ℕ, ◌<◌, ◌≤◌, Bool, true, false, List, [], ◌∷◌, ◌++◌, length, refl, ap, sym, ◌∙◌, subst, arith, eqb, ne_eqb, append-nil, length-append}
use Rattle.std.proofs.lemmas.Bool.{lt-ltb, le-ltb}
use Rattle.std.proofs.lemmas.List.{nil_from_length, get_or_append_left, length-map, map-append}
use Rattle.std.proofs.lemmas.List.Elements.{All-head, All-tail, All-map, filter-append}
use native.Mathlib.Decide.{dec_lt}
use mathlib.Core.Logic.{dite}
use mathlib.Core.List.{IsPrefix}
use Rattle.chronicle.specs.History.{entries, numbered, entered_by, own_of, NumbersUpTo, longer}
use Rattle.chronicle.proofs.Prefixes.{prefix_self, prefix_shorter}

module _ {E : Type 0} where
  -- what was seen before is in what is seen later, entry by entry
  pub entries-prefix : (xs ys : List (ℕ × E)) → IsPrefix xs ys → IsPrefix (entries xs) (entries ys)
  entries-prefix xs ys p = (entries p.0, sym (map-append (λ (x : ℕ × E). x.1) xs p.0) ∙ ap entries p.1)

  -- an entry of another
  pub own_of-other : (b : Bool) (n : ℕ) (log : List (ℕ × E)) (x : ℕ × E) → (b ≡ false → x.0 ≢ n) → own_of b n (log ++ x ∷ []) ≡ own_of b n log
  own_of-other true n log x other = refl
  own_of-other false n log x other = filter-append (λ y. eqb y.0 n) log (x ∷ []) ∙ rw (ne_eqb x.0 n (other refl)) (append-nil (entered_by n log))

  -- where the longest list has no more of its own than the shortest, neither has the one between
  pub own_of-between : (b : Bool) (n : ℕ) (xs ys zs : List (ℕ × E)) → IsPrefix xs ys → IsPrefix ys zs → own_of b n zs ≡ own_of b n xs → own_of b n ys ≡ own_of b n xs
  own_of-between true n xs ys zs p q same = refl
  own_of-between false n xs ys zs p q same =
      let a : entered_by n ys ≡ entered_by n xs ++ entered_by n p.0 = ap (entered_by n) (sym p.1) ∙ filter-append (λ y. eqb y.0 n) xs p.0 in
      let b : entered_by n zs ≡ entered_by n ys ++ entered_by n q.0 = ap (entered_by n) (sym q.1) ∙ filter-append (λ y. eqb y.0 n) ys q.0 in
      let more = ap length a ∙ length-append (entered_by n xs) (entered_by n p.0) in
      let most = ap length b ∙ length-append (entered_by n ys) (entered_by n q.0) in
      let level = ap length same in
      let nothing : entered_by n p.0 ≡ [] = nil_from_length (entered_by n p.0) (omega arith) in
      a ∙ (ap (λ l. entered_by n xs ++ l) nothing ∙ append-nil (entered_by n xs))

  pub NumbersUpTo-prefix : (m : ℕ) (xs ys : List (ℕ × E)) → IsPrefix xs ys → NumbersUpTo m ys → NumbersUpTo m xs
  NumbersUpTo-prefix m xs ys p all k d lt =
      let front : NumbersUpTo m (xs ++ p.0) = subst (λ (l : List (ℕ × E)). NumbersUpTo m l) (sym p.1) all in
      subst (λ (x : ℕ × E). x.0 ≤ m) (get_or_append_left xs p.0 d k lt) (front k d (omega (arith, length-append xs p.0)))

  -- nothing was entered under a number that no entry has
  pub own_of-above : (b : Bool) (n m : ℕ) (log : List (ℕ × E)) → NumbersUpTo m log → m < n → own_of b n log ≡ []
  own_of-above true n m log all above = refl
  own_of-above false n m [] all above = refl
  own_of-above false n m (x ∷ log) all above =
      let lower : x.0 ≤ m = All-head (λ (y : ℕ × E). y.0 ≤ m) x log all in
      rw (ne_eqb x.0 n (λ e. omega arith)) (own_of-above false n m log (All-tail (λ (y : ℕ × E). y.0 ≤ m) x log all) above)

  pub NumbersUpTo-numbered : (m : ℕ) (es : List E) → NumbersUpTo m (numbered 0 es)
  NumbersUpTo-numbered m es = All-map (λ (x : ℕ × E). x.0 ≤ m) (λ e. (0, e)) es (λ k d lt. omega arith)

  pub length-numbered : (n : ℕ) (es : List E) → length (numbered n es) ≡ length es
  length-numbered n es = length-map es (λ e. (n, e))

  pub entries-numbered : (n : ℕ) (es : List E) → entries (numbered n es) ≡ es
  entries-numbered n [] = refl
  entries-numbered n (e ∷ es) = ap (λ l. e ∷ l) (entries-numbered n es)

  pub own_of-numbered : (es : List E) → own_of false 0 (numbered 0 es) ≡ numbered 0 es
  own_of-numbered [] = refl
  own_of-numbered (e ∷ es) = ap (λ l. (0, e) ∷ l) (own_of-numbered es)

-- of two beginnings of one list: the longer begins it, each begins the longer, and one begins the other
pub longer_begins : {A : Type 0} (xs ys zs : List A) → IsPrefix xs zs → IsPrefix ys zs
    → IsPrefix (longer xs ys) zs × IsPrefix xs (longer xs ys) × (IsPrefix xs ys ⊎ IsPrefix ys xs) × IsPrefix ys (longer xs ys)
longer_begins xs ys zs p q = dite (dec_lt (length xs) (length ys))
    (λ lt. let sub = prefix_shorter xs ys zs p q (let l : length xs ≤ length ys = omega arith in l) in rw (lt-ltb (length xs) (length ys) lt) (q, sub, inl sub, prefix_self ys))
    (λ ge. let le : length ys ≤ length xs = omega arith in let sub = prefix_shorter ys xs zs q p le in rw (le-ltb (length xs) (length ys) le) (p, prefix_self xs, inr sub, sub))
