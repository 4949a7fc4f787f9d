-- Lists of values: their laws, and loops that read one value after the other.
use Rattle.std.proofs.Common.{◌≡◌, ℕ, zero, suc, ◌+◌, ◌-◌, ◌<◌, ◌≤◌, List, [], ◌∷◌, ◌++◌, length, Result, Ok, Err, refl, sym, ap, subst, ◌∙◌, append_assoc, length-append, arith}
use Rattle.std.specs.List.{flat_map, AllByRecursion}
use Rattle.std.proofs.lemmas.List.{flat_map_more, append-nil}
use Rattle.std.proofs.lemmas.List.Concat.{flat_map-append}
use Rattle.facet_codec.specs.Places.{Place}
use Rattle.facet_codec.specs.Reading.{◌>>=◌}
use Rattle.facet_codec.specs.Lists.{list_at, AreSoMany, offsets}
use Rattle.facet_codec.specs.Laws.{Takes, IsSpelled, ReadsBack}
use Rattle.facet_codec.proofs.Taking.{Takes-none, Takes-then, done, done_is, bind_ok}

abbrev pub with_front : {A F : Type 0} → List A → Result (List A × Place) F → Result (List A × Place) F
with_front front read = read >>= λ x. Ok (front ++ x.0, x.1)

abbrev pub one_more : {A F : Type 0} → A → Result (List A × Place) F → Result (List A × Place) F
one_more x read = read >>= λ o. Ok (x ∷ o.0, o.1)

pub each_push : {A : Type 0} (Fits : A → Type 0) (xs : List A) (x : A) → AllByRecursion Fits xs → Fits x → AllByRecursion Fits (xs ++ x ∷ [])
each_push Fits [] x all fits = (fits, tt)
each_push Fits (y ∷ xs) x all fits = (all.0, each_push Fits xs x all.1 fits)

-- the bytes of one value behind those of others
pub bytes_push : {A : Type 0} (f : A → List ℕ) (start mid new : List ℕ) (xs : List A) (x : A) → mid ≡ start ++ flat_map f xs → new ≡ mid ++ f x → new ≡ start ++ flat_map f (xs ++ x ∷ [])
bytes_push f start mid new xs x so_far one =
    one
    ∙ ap (λ bytes. bytes ++ f x) so_far
    ∙ append_assoc start (flat_map f xs) (f x)
    ∙ ap (λ bytes. start ++ bytes) (sym (flat_map-append f xs (x ∷ []) ∙ ap (λ ys. flat_map f xs ++ ys) (append-nil (f x))))

-- ---- laws

pub list_spelled : {A F : Type 0} (read : Place → Result (A × Place) F) (spell : A → List ℕ) (Fits : A → Type 0) → IsSpelled read spell Fits → (n : ℕ) → IsSpelled (list_at read n) (flat_map spell) (AreSoMany Fits n)
unfolding list_at
list_spelled {A} {F} read spell Fits law zero p xs q fits e =
    subst (λ (x : List A × Place). Takes p (flat_map spell x.0) x.1 × AreSoMany Fits 0 x.0) (done_is F ([], p) (xs, q) e) (Takes-none p fits, record { count = refl; fit = tt })
list_spelled {A} {F} read spell Fits law (suc n) p xs q fits e =
    let a = bind_ok (read p) (λ first. one_more first.0 (list_at read n first.1)) (xs, q) e in
    let b = bind_ok (list_at read n a.0.1) (λ o. done (a.0.0 ∷ o.0, o.1)) (xs, q) a.2 in
    let k = law p a.0.0 a.0.1 fits a.1 in
    let l = list_spelled read spell Fits law n a.0.1 b.0.0 b.0.1 k.0.bytes b.1 in
    subst (λ (x : List A × Place). Takes p (flat_map spell x.0) x.1 × AreSoMany Fits (suc n) x.0) (done_is F (a.0.0 ∷ b.0.0, b.0.1) (xs, q) b.2)
    (Takes-then p (spell a.0.0) a.0.1 (flat_map spell b.0.0) b.0.1 k.0 l.0, record { count = ap (λ (m : ℕ). suc m) l.1.count; fit = (k.1, l.1.fit) })

list_again : {A F : Type 0} (read : Place → Result (A × Place) F) (spell : A → List ℕ) (Fits : A → Type 0) → ReadsBack read spell Fits → (at : ℕ) (xs : List A) (rest : List ℕ) → AllByRecursion Fits xs → list_at read (length xs) (record { at = at; rest = flat_map spell xs ++ rest }) ≡ Ok (xs, record { at = at + length (flat_map spell xs); rest = rest })
unfolding list_at
list_again read spell Fits law at [] rest fit = ap (λ (n : ℕ). Ok ([], record { at = n; rest = rest })) (omega arith)
list_again read spell Fits law at (x ∷ xs) rest fit =
    let regrouped : (spell x ++ flat_map spell xs) ++ rest ≡ spell x ++ (flat_map spell xs ++ rest) = append_assoc (spell x) (flat_map spell xs) rest in
    let first = law at x (flat_map spell xs ++ rest) fit.0 in
    let others = list_again read spell Fits law (at + length (spell x)) xs rest fit.1 in
    let far : at + length (spell x) + length (flat_map spell xs) ≡ at + length (spell x ++ flat_map spell xs) = omega (arith, length-append (spell x) (flat_map spell xs)) in
    rw (regrouped, first, others, far) refl

pub list_read_back : {A F : Type 0} (read : Place → Result (A × Place) F) (spell : A → List ℕ) (Fits : A → Type 0) → ReadsBack read spell Fits → (n : ℕ) → ReadsBack (list_at read n) (flat_map spell) (AreSoMany Fits n)
list_read_back read spell Fits law n at xs rest fits = rw (← fits.count) (list_again read spell Fits law at xs rest fits.fit)

-- ---- a loop that reads values

-- What is still to be read is the end of the total.
pub record IsPart {A F : Type 0} (read total : Result (List A × Place) F) : Type 0 where
  pub front : List A
  pub is : with_front front read ≡ total

pub regroup : {A F : Type 0} (front : List A) (x : A) (read : Result (List A × Place) F) → with_front front (one_more x read) ≡ with_front (front ++ x ∷ []) read
regroup front x (Ok y) = ap (λ (xs : List _). Ok (xs, y.1)) (simp append_assoc)
regroup front x (Err e) = refl

pub part_more : {A F : Type 0} (x : A) (read total : Result (List A × Place) F) → IsPart (one_more x read) total → IsPart read total
part_more x read total h = record { front = h.front ++ x ∷ []; is = sym (regroup h.front x read) ∙ h.is }

pub part_fails : {A F : Type 0} (e : F) (read total : Result (List A × Place) F) → read ≡ Err e → IsPart read total → total ≡ Err e
part_fails e read total k h = sym (rw k at h.is)

pub part_done : {A F : Type 0} (p : Place) (read total : Result (List A × Place) F) → read ≡ Ok ([], p) → IsPart read total → (xs : List A) × (total ≡ Ok (xs, p))
part_done p read total k h = (h.front ++ [], sym (rw k at h.is))

-- the same for so many values by one reader; i of them were read
pub list_more : {A F : Type 0} (read : Place → Result (A × Place) F) (n i : ℕ) (p q : Place) (x : A) (total : Result (List A × Place) F) → i < n → read p ≡ Ok (x, q) → IsPart (list_at read (n - i) p) total → IsPart (list_at read (n - (i + 1)) q) total
unfolding list_at
list_more read n i p q x total lt e h =
    let k : n - i ≡ suc (n - (i + 1)) = omega arith in
    part_more x (list_at read (n - (i + 1)) q) total (rw (k, e) at h)

pub list_fails : {A F : Type 0} (read : Place → Result (A × Place) F) (n i : ℕ) (p : Place) (f : F) (total : Result (List A × Place) F) → i < n → read p ≡ Err f → IsPart (list_at read (n - i) p) total → total ≡ Err f
unfolding list_at
list_fails read n i p f total lt e h =
    let k : n - i ≡ suc (n - (i + 1)) = omega arith in
    part_fails f (list_at read (n - i) p) total (rw (k, e) refl) h

pub list_done : {A F : Type 0} (read : Place → Result (A × Place) F) (n i : ℕ) (p : Place) (total : Result (List A × Place) F) → n ≤ i → IsPart (list_at read (n - i) p) total → (xs : List A) × (total ≡ Ok (xs, p))
unfolding list_at
list_done read n i p total le h =
    let k : n - i ≡ zero = omega arith in
    part_done p (list_at read (n - i) p) total (rw k refl) h

-- ---- a loop that reads values and keeps where each begins

-- What is still to be read from p on is the end of the total, and the marks are where the values before p begin.
pub record IsMarked {A F : Type 0} (spell : A → List ℕ) (start p : Place) (marks : List ℕ) (read total : Result (List A × Place) F) : Type 0 where
  pub front : List A
  pub is : with_front front read ≡ total
  pub marks_are : marks ≡ offsets spell start.at front
  pub taken : Takes start (flat_map spell front) p

pub offsets_push : {A : Type 0} (spell : A → List ℕ) (at : ℕ) (xs : List A) (x : A) → offsets spell at (xs ++ x ∷ []) ≡ offsets spell at xs ++ (at + length (flat_map spell xs)) ∷ []
offsets_push spell at [] x = ap (λ (n : ℕ). n ∷ []) (omega arith)
offsets_push spell at (y ∷ xs) x =
    let n : at + length (spell y) + length (flat_map spell xs) ≡ at + length (spell y ++ flat_map spell xs) = omega (arith, length-append (spell y) (flat_map spell xs)) in
    ap (λ (ns : List ℕ). at ∷ ns) (offsets_push spell (at + length (spell y)) xs x ∙ ap (λ (m : ℕ). offsets spell (at + length (spell y)) xs ++ m ∷ []) n)

pub marked_more : {A F : Type 0} (spell : A → List ℕ) (start p q : Place) (marks : List ℕ) (x : A) (read more total : Result (List A × Place) F) → read ≡ one_more x more → Takes p (spell x) q → IsMarked spell start p marks read total → IsMarked spell start q (marks ++ p.at ∷ []) more total
marked_more spell start p q marks x read more total e t h =
    record {
      front = h.front ++ x ∷ [];
      is = sym (regroup h.front x more) ∙ (rw e at h.is);
      marks_are = rw (h.marks_are, h.taken.at) (sym (offsets_push spell start.at h.front x));
      taken = rw (← flat_map_more spell [] h.front x) (Takes-then start (flat_map spell h.front) p (spell x) q h.taken t);
    }

pub marked_done : {A F : Type 0} (spell : A → List ℕ) (start p : Place) (marks : List ℕ) (read total : Result (List A × Place) F) → read ≡ Ok ([], p) → IsMarked spell start p marks read total → (xs : List A) × (total ≡ Ok (xs, p)) × (marks ≡ offsets spell start.at xs)
marked_done spell start p marks read total k h = (h.front, sym (rw (k, append-nil) at h.is), h.marks_are)
