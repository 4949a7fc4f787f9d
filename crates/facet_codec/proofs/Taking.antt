-- Steps of reading that succeeded, and what they took. These serve readers of any kind of value, with faults of any kind.
use Rattle.std.proofs.Common.{◌≡◌, ℕ, ◌+◌, Bool, true, false, cond, List, [], ◌++◌, take, drop, Result, Ok, Err, refl, sym, ap, append_assoc, ◌∙◌, arith, inl, inr}
use Rattle.std.proofs.lemmas.Bool.{cases_lt}
use Rattle.std.proofs.lemmas.List.{length-append, length-take, get_or-drop, get_or-take, get_or_past}
use Rattle.facet_codec.specs.Places.{Place, IsBytes}
use Rattle.facet_codec.specs.Reading.{◌>>=◌}
use Rattle.facet_codec.specs.Faults.{told_as}
use Rattle.facet_codec.specs.Laws.{Takes, IsSpelled, ReadsBack}

pub IsBytes-drop : (n : ℕ) (bytes : List ℕ) → IsBytes bytes → IsBytes (drop n bytes)
IsBytes-drop n bytes h i = rw get_or-drop (h (n + i))

pub IsBytes-take : (n : ℕ) (bytes : List ℕ) → IsBytes bytes → IsBytes (take n bytes)
IsBytes-take n bytes h i =
    elim (cases_lt i n) [
      | inl lt ↦ rw (get_or-take n bytes i 0 lt) (h i)
      | inr le ↦ rw (get_or_past (take n bytes) i 0 (omega (arith, length-take n bytes))) (omega arith)
    ]

pub Takes-none : (p : Place) → IsBytes p.rest → Takes p [] p
Takes-none p h = record { rest = refl; at = omega arith; bytes = h }

pub Takes-then : (p : Place) (x : List ℕ) (q : Place) (y : List ℕ) (r : Place) → Takes p x q → Takes q y r → Takes p (x ++ y) r
Takes-then p x q y r h k = record {
  rest = h.rest ∙ ap (λ (t : List ℕ). x ++ t) k.rest ∙ sym (append_assoc x y r.rest);
  at = k.at ∙ omega (arith, h.at, length-append x y);
  bytes = k.bytes;
}

-- a result that is Ok, of any kind of fault
abbrev pub done : {A F : Type 0} → A → Result A F
done x = Ok x

pub done_is : {A : Type 0} (F : Type 0) (x y : A) → done {F = F} x ≡ done y → x ≡ y
done_is F x y e = cc

-- the value of a step that did not fail
pub bind_ok : {A B F : Type 0} (r : Result A F) (f : A → Result B F) (y : B) → (r >>= f) ≡ Ok y → (x : A) × (r ≡ Ok x) × (f x ≡ Ok y)
bind_ok (Ok x) f y e = (x, refl, e)
bind_ok (Err d) f y e = absurd cc

-- a test for a fault, that did not fail
pub guard_ok : {A F : Type 0} (b : Bool) (d : F) (x : Result A F) (z : A) → cond b (Err d) x ≡ Ok z → (b ≡ false) × (x ≡ Ok z)
guard_ok true d x z e = absurd cc
guard_ok false d x z e = (refl, e)

-- a test that has to hold, and held
pub guard_yes : {A F : Type 0} (b : Bool) (d : F) (x z : A) → cond b (Ok x) (Err d) ≡ Ok z → (b ≡ true) × (x ≡ z)
guard_yes true d x z e = (refl, cc)
guard_yes false d x z e = absurd cc

-- a step whose fault is told as another kind
pub told_ok : {A F G : Type 0} (f : F → G) (r : Result A F) (x : A) → told_as f r ≡ Ok x → r ≡ Ok x
told_ok {A} {F} {G} f (Ok y) x e = ap (λ (z : A). Ok z) (done_is G y x e)
told_ok f (Err d) x e = absurd cc

pub told_spelled : {A F G : Type 0} (f : F → G) (read : Place → Result (A × Place) F) (spell : A → List ℕ) (Fits : A → Type 0) → IsSpelled read spell Fits → IsSpelled (λ p. told_as f (read p)) spell Fits
told_spelled f read spell Fits law p x q fits e = law p x q fits (told_ok f (read p) (x, q) e)

pub told_read_back : {A F G : Type 0} (f : F → G) (read : Place → Result (A × Place) F) (spell : A → List ℕ) (Fits : A → Type 0) → ReadsBack read spell Fits → ReadsBack (λ p. told_as f (read p)) spell Fits
told_read_back f read spell Fits law at x rest fits = rw (law at x rest fits) refl

abbrev pub place_at : ℕ → List ℕ → Place
place_at at rest = record { at = at; rest = rest }
