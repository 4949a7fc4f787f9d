-- Groups of seven bits.
use Rattle.std.proofs.Common.{◌≡◌, ℕ, zero, suc, ◌+◌, ◌-◌, ◌*◌, ◌/◌, ◌%◌, ◌^◌, ◌<◌, ◌≤◌, false, cond, ltb, eqb, List, [], ◌∷◌, ◌++◌, length, Result, Ok, Err, refl, ap, subst, arith, inl, inr}
use Rattle.std.proofs.lemmas.Bool.{cases_lt, ltb-false, le-ltb, lt-ltb, ne_eqb, eqb-false}
use Rattle.facet_codec.specs.declared.fault.CodecFault.{CodecFault}
use Rattle.facet_codec.specs.declared.fault.CodecFault.TheVariants.{LongSpelling, OutOfRange}
use Rattle.facet_codec.specs.Places.{Place, IsBytes}
use Rattle.facet_codec.specs.Spelling.{groups, vint, bound}
use Rattle.facet_codec.specs.Reading.{◌>>=◌, groups_at, vint_from}
use Rattle.facet_codec.specs.Laws.{Takes}
use Rattle.facet_codec.proofs.Taking.{done, done_is, bind_ok, guard_ok}
use Rattle.facet_codec.proofs.Groups.{sixteen_le}

-- a number that was read
abbrev found : ℕ → Place → Result (ℕ × Place) CodecFault
found n q = Ok (n, q)

-- one byte below 128
one_group : (at more b : ℕ) (rest : List ℕ) → b < 128 → IsBytes (b ∷ rest) → Takes (record { at = at; rest = b ∷ rest }) (groups (suc more) b) (record { at = at + 1; rest = rest })
unfolding groups
one_group at more b rest lt fits = rw (lt-ltb b 128 lt) (record { rest = refl; at = refl; bytes = λ i. fits (suc i) })

-- one byte from 128 on, and the groups after it
more_groups : (at more b n : ℕ) (rest : List ℕ) (q : Place) → 128 ≤ b → b < 256 → 0 < n → Takes (record { at = at + 1; rest = rest }) (groups more n) q → Takes (record { at = at; rest = b ∷ rest }) (groups (suc more) (b - 128 + 128 * n)) q
unfolding groups
more_groups at more b n rest q ge below pos h =
    let big : ltb (b - 128 + 128 * n) 128 ≡ false = le-ltb _ _ (omega arith) in
    let low : (b - 128 + 128 * n) % 128 + 128 ≡ b = omega arith in
    let high : (b - 128 + 128 * n) / 128 ≡ n = omega arith in
    rw (big, low, high) (record { rest = ap (λ (t : List ℕ). b ∷ t) h.rest; at = omega (arith, h.at); bytes = h.bytes })

groups_takes : (start more at : ℕ) (bytes : List ℕ) (n : ℕ) (q : Place) → IsBytes bytes → groups_at start more at bytes ≡ Ok (n, q) → (0 < n) × (n < bound more) × Takes (record { at = at; rest = bytes }) (groups (suc more) n) q
unfolding groups_at groups
groups_takes start more at [] n q fits e = absurd cc
groups_takes start zero at (b ∷ rest) n q fits e =
    let g = guard_ok (ltb 15 b) (OutOfRange start) (cond (eqb b 0) (Err (LongSpelling start)) (found b (record { at = at + 1; rest = rest }))) (n, q) e in
    let h = guard_ok (eqb b 0) (LongSpelling start) (found b (record { at = at + 1; rest = rest })) (n, q) g.1 in
    let le : b ≤ 15 = ltb-false _ _ g.0 in
    let ne : b ≡ 0 → ⊥ = eqb-false b 0 h.0 in
    subst (λ (x : ℕ × Place). (0 < x.0) × (x.0 < 16) × Takes (record { at = at; rest = b ∷ rest }) (groups 1 x.0) x.1) (done_is CodecFault (b, record { at = at + 1; rest = rest }) (n, q) h.1)
    (omega arith, omega arith, one_group at 0 b rest (omega arith) fits)
groups_takes start (suc more) at (b ∷ rest) n q fits e =
    elim (cases_lt b 128) [
      | inl lt ↦
          let e1 : cond (eqb b 0) (Err (LongSpelling start)) (found b (record { at = at + 1; rest = rest })) ≡ found n q = rw (lt-ltb b 128 lt) at e in
          let h = guard_ok (eqb b 0) (LongSpelling start) (found b (record { at = at + 1; rest = rest })) (n, q) e1 in
          let ne : b ≡ 0 → ⊥ = eqb-false b 0 h.0 in
          subst (λ (x : ℕ × Place). (0 < x.0) × (x.0 < bound (suc more)) × Takes (record { at = at; rest = b ∷ rest }) (groups (suc (suc more)) x.0) x.1) (done_is CodecFault (b, record { at = at + 1; rest = rest }) (n, q) h.1)
          (omega arith, omega (arith, sixteen_le more), one_group at (suc more) b rest lt fits)
      | inr ge ↦
          let e1 : (groups_at start more (at + 1) rest >>= λ m. done (b - 128 + 128 * m.0, m.1)) ≡ Ok (n, q) = rw (le-ltb b 128 ge) at e in
          let a = bind_ok (groups_at start more (at + 1) rest) (λ m. done (b - 128 + 128 * m.0, m.1)) (n, q) e1 in
          let k = groups_takes start more (at + 1) rest a.0.0 a.0.1 (λ i. fits (suc i)) a.1 in
          subst (λ (x : ℕ × Place). (0 < x.0) × (x.0 < bound (suc more)) × Takes (record { at = at; rest = b ∷ rest }) (groups (suc (suc more)) x.0) x.1) (done_is CodecFault (b - 128 + 128 * a.0.0, a.0.1) (n, q) a.2)
          (omega (arith, k.0), omega (arith, k.1, fits 0), more_groups at (suc more) b a.0.0 rest a.0.1 ge (fits 0) k.0 k.2)
    ]

pub vint_from_takes : (at : ℕ) (bytes : List ℕ) (n : ℕ) (q : Place) → IsBytes bytes → vint_from at bytes ≡ Ok (n, q) → Takes (record { at = at; rest = bytes }) (vint n) q × (n < 2 ^ 32)
unfolding vint_from
vint_from_takes at [] n q fits e = absurd cc
vint_from_takes at (b ∷ rest) n q fits e =
    elim (cases_lt b 128) [
      | inl lt ↦
          let e1 : found b (record { at = at + 1; rest = rest }) ≡ found n q = rw (lt-ltb b 128 lt) at e in
          subst (λ (x : ℕ × Place). Takes (record { at = at; rest = b ∷ rest }) (vint x.0) x.1 × (x.0 < 2 ^ 32)) (done_is CodecFault (b, record { at = at + 1; rest = rest }) (n, q) e1)
          (one_group at 4 b rest lt fits, omega arith)
      | inr ge ↦
          let e1 : (groups_at at 3 (at + 1) rest >>= λ m. done (b - 128 + 128 * m.0, m.1)) ≡ Ok (n, q) = rw (le-ltb b 128 ge) at e in
          let a = bind_ok (groups_at at 3 (at + 1) rest) (λ m. done (b - 128 + 128 * m.0, m.1)) (n, q) e1 in
          let k = groups_takes at 3 (at + 1) rest a.0.0 a.0.1 (λ i. fits (suc i)) a.1 in
          subst (λ (x : ℕ × Place). Takes (record { at = at; rest = b ∷ rest }) (vint x.0) x.1 × (x.0 < 2 ^ 32)) (done_is CodecFault (b - 128 + 128 * a.0.0, a.0.1) (n, q) a.2)
          (more_groups at 4 b a.0.0 rest a.0.1 ge (fits 0) k.0 k.2, omega (arith, k.1, fits 0))
    ]

-- ---- and back

one_again : (n more at : ℕ) (rest : List ℕ) → n < 128 → groups (suc more) n ++ rest ≡ n ∷ rest
unfolding groups
one_again n more at rest lt = rw (lt-ltb n 128 lt) refl

length_one : (n more : ℕ) → n < 128 → length (groups (suc more) n) ≡ 1
unfolding groups
length_one n more lt = rw (lt-ltb n 128 lt) refl

more_again : (n more : ℕ) → 128 ≤ n → groups (suc more) n ≡ (n % 128 + 128) ∷ groups more (n / 128)
unfolding groups
more_again n more le = rw (le-ltb n 128 le) refl

groups_again : (start more at n : ℕ) (rest : List ℕ) → 0 < n → n < bound more → groups_at start more at (groups (suc more) n ++ rest) ≡ Ok (n, record { at = at + length (groups (suc more) n); rest = rest })
unfolding groups_at
groups_again start zero at n rest pos lt =
    let small : n < 128 = omega arith in
    let spelled = one_again n 0 at rest small in
    rw (spelled, length_one n 0 small, le-ltb 15 n (omega arith), ne_eqb n 0 (λ h. omega arith)) refl
groups_again start (suc more) at n rest pos lt =
    elim (cases_lt n 128) [
      | inl small ↦ rw (one_again n (suc more) at rest small, length_one n (suc more) small, lt-ltb n 128 small, ne_eqb n 0 (λ h. omega arith)) refl
      | inr ge ↦
          let ih = groups_again start more (at + 1) (n / 128) rest (omega arith) (omega arith) in
          let value : n % 128 + 128 - 128 + 128 * (n / 128) ≡ n = omega arith in
          let far : at + 1 + length (groups (suc more) (n / 128)) ≡ at + suc (length (groups (suc more) (n / 128))) = omega arith in
          let big : ltb (n % 128 + 128) 128 ≡ false = le-ltb _ _ (omega arith) in
          rw (more_again n (suc more) ge, big, ih, value, far) refl
    ]

pub vint_from_again : (at n : ℕ) (rest : List ℕ) → n < 2 ^ 32 → vint_from at (vint n ++ rest) ≡ Ok (n, record { at = at + length (vint n); rest = rest })
unfolding vint_from
vint_from_again at n rest lt =
    elim (cases_lt n 128) [
      | inl small ↦ rw (one_again n 4 at rest small, length_one n 4 small, lt-ltb n 128 small) refl
      | inr ge ↦
          let ih = groups_again at 3 (at + 1) (n / 128) rest (omega arith) (omega arith) in
          let value : n % 128 + 128 - 128 + 128 * (n / 128) ≡ n = omega arith in
          let far : at + 1 + length (groups 4 (n / 128)) ≡ at + suc (length (groups 4 (n / 128))) = omega arith in
          let big : ltb (n % 128 + 128) 128 ≡ false = le-ltb _ _ (omega arith) in
          rw (more_again n 4 ge, big, ih, value, far) refl
    ]
