-- What a command changed, as one deed, and the order in which the deeds of all sessions come.
use Rattle.std.proofs.Common.{◌≡◌, ◌⊎◌, inl, inr, ⊎_elim, ℕ, ◌+◌, ◌≤◌, ◌<◌, Bool, true, false, Option, Some, None, sym, ◌∙◌, arith}
use Rattle.std.specs.Prelude.{◌==◌, ◌&&◌, ◌||◌, nat_lt, nat_le}
use Rattle.std.proofs.lemmas.Bool.{and_from, and_parts, cases_lt, eq-eqb, eqb-true, false_from_ne_true, le-leb, leb-true, lt-ltb, ltb-true, or_cases, or_left, or_right, true≢false}
use Rattle.facet_model.specs.Histories.{Change}
use Rattle.facet_output.specs.Effects.{Effect, changes, publishes, persists, Report, says_placed, says_number}

-- A change was placed; a pair of so many operations was published, as the k-th; a commit of so many
-- operations was acknowledged, by a session that had seen k publications.
pub data Deed : Type 0 where
  change_at : ℕ → Change → Deed
  publish_of : ℕ → ℕ → Deed
  commit_of : ℕ → ℕ → Deed

-- a session's deed
abbrev pub Act : Type 0
Act = ℕ × Deed

abbrev pub said : Deed → Effect × Report
said (change_at at change) = (changes change, says_placed at)
said (publish_of n k) = (publishes, says_number n)
said (commit_of n k) = (persists, says_number n)

abbrev pub told : Act → ℕ × (Effect × Report)
told a = (a.0, said a.1)

abbrev pub is_change : Act → Bool
is_change a = by a.1
  where
    by : Deed → Bool
    by (change_at at change) = true
    by (publish_of n k) = false
    by (commit_of n k) = false

abbrev pub is_publish : Act → Bool
is_publish a = by a.1
  where
    by : Deed → Bool
    by (change_at at change) = false
    by (publish_of n k) = true
    by (commit_of n k) = false

abbrev pub commit_number : Deed → Option ℕ
commit_number (change_at at change) = None
commit_number (publish_of n k) = None
commit_number (commit_of n k) = Some n

-- ---- the order

-- twice the number of operations, and one more while a change is placed; then the number of publications
abbrev pub point : Deed → ℕ × ℕ
point (change_at at change) = (at + at + 1, 0)
point (publish_of n k) = (n + n, k)
point (commit_of n k) = (n + n, k)

abbrev pub Lex : ℕ × ℕ → ℕ × ℕ → Type 0
Lex p q = (p.0 < q.0) ⊎ ((p.0 ≡ q.0) × (p.1 ≤ q.1))

abbrev pub lex : ℕ × ℕ → ℕ × ℕ → Bool
lex p q = nat_lt p.0 q.0 || (p.0 == q.0 && nat_le p.1 q.1)

pub lex_from : (p q : ℕ × ℕ) → Lex p q → lex p q ≡ true
lex_from p q l = ⊎_elim
    (λ lt. or_left (nat_lt p.0 q.0) _ (lt-ltb p.0 q.0 lt))
    (λ r. or_right (nat_lt p.0 q.0) _ (and_from _ _ (eq-eqb p.0 q.0 r.0) (le-leb p.1 q.1 r.1))) l

pub lex_is : (p q : ℕ × ℕ) → lex p q ≡ true → Lex p q
lex_is p q h = ⊎_elim
    (λ lt. inl (ltb-true p.0 q.0 lt))
    (λ r. let both = and_parts (p.0 == q.0) (nat_le p.1 q.1) r in inr (eqb-true p.0 q.0 both.0, leb-true p.1 q.1 both.1))
    (or_cases (nat_lt p.0 q.0) (p.0 == q.0 && nat_le p.1 q.1) h)

pub lex_then : (p q r : ℕ × ℕ) → Lex p q → Lex q r → Lex p r
lex_then p q r l m = ⊎_elim
    (λ lt. ⊎_elim (λ lt'. inl (omega arith)) (λ e. let f = e.0 in inl (omega arith)) m)
    (λ e. let f = e.0 in let le = e.1 in ⊎_elim (λ lt'. inl (omega arith)) (λ e'. let f' = e'.0 in let le' = e'.1 in inr ((let s : p.0 ≡ r.0 = omega arith in s), omega arith)) m) l

lex_or : (p q : ℕ × ℕ) → Lex p q ⊎ Lex q p
lex_or p q = ⊎_elim
    (λ lt. inl (inl lt))
    (λ le. ⊎_elim (λ lt. inr (inl lt)) (λ le'. let same : p.0 ≡ q.0 = omega arith in ⊎_elim
    (λ lt. inl (inr (same, omega arith)))
    (λ ge. inr (inr (sym same, ge))) (cases_lt p.1 q.1)) (cases_lt q.0 p.0)) (cases_lt p.0 q.0)

lex_total : (p q : ℕ × ℕ) → lex p q ≡ false → lex q p ≡ true
lex_total p q no_order = ⊎_elim (λ l. absurd (true≢false (sym (lex_from p q l) ∙ no_order))) (λ l. lex_from q p l) (lex_or p q)

pub lex_not : (p q : ℕ × ℕ) → (Lex p q → ⊥) → lex p q ≡ false
lex_not p q never = false_from_ne_true (lex p q) (λ e. never (lex_is p q e))

abbrev pub before : Act → Act → Bool
before a b = lex (point a.1) (point b.1)

pub before_total : (a b : Act) → before a b ≡ false → before b a ≡ true
before_total a b = lex_total (point a.1) (point b.1)

pub before_then : (a b c : Act) → before a b ≡ true → before b c ≡ true → before a c ≡ true
before_then a b c l m = lex_from (point a.1) (point c.1) (lex_then (point a.1) (point b.1) (point c.1) (lex_is (point a.1) (point b.1) l) (lex_is (point b.1) (point c.1) m))

pub Before : Act → Act → Type 0
Before a b = Lex (point a.1) (point b.1)
