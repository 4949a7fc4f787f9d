-- A number text is what is written for its number, and is read as it.
use Rattle.std.proofs.Common.{rules, arith, ◌≡◌, ◌≢◌, ◌+◌, ◌*◌, ◌-◌, ◌<◌, ◌≤◌, ◌^◌, ℕ, zero, suc, ℤ, pos, negsuc, neg_ℤ, List, [], ◌∷◌, length, get_or, Bool, true, false, cond, not, refl, sym, ap, subst, ◌∙◌, Option, Some, None, Result, Ok, Err, ◌⊎◌, inl, inr, ◌↔◌, true≢false, w64}
use Rattle.std.specs.Prelude.{◌&&◌, ◌==◌, nat_lt, nat_le, int_le, int_lt, IsTrue}
use Rattle.std.specs.Fmt.{decimal, signed_decimal}
use Rattle.std.specs.Int.{IsInRange}
use Rattle.std.specs.Result.{OkIff}
use Rattle.std.specs.Str.{all_ascii_digits}
use Rattle.std.specs.Str.Parse.{ParsesSigned}
use Rattle.std.proofs.lemmas.Bool.{and_parts, and_from, cases_lt, lt-ltb, le-leb, ltb-true, leb-true, eq-eqb, eqb-true, not_from_true}
use Rattle.std.proofs.lemmas.Fmt.{decimal-digits_value, decimal_nonempty, decimal_digit, digits_decimal, digits_value-decimal, first_decimal}
use Rattle.std.proofs.lemmas.Str.Parse.{IsNumeralModel, FoldsDigits, numerals_by_fold, parse_signed_digits, parse_signed_minus, tells_all_ascii_digits}
use Rattle.number_facets.specs.Numbers.{are_plain_digits, is_i64, minus_of, number_of, plain_of, read_on}
use Rattle.number_facets.specs.Shapes.{is_number_shaped}

folds : FoldsDigits read_on
folds = record { empty = λ n. refl; more = λ n c cs d. refl }

-- plain digits and what they say, in std's words
own : IsNumeralModel (λ ds. all_ascii_digits ds ≡ true) (read_on 0)
own = numerals_by_fold _ tells_all_ascii_digits read_on folds

-- ---- plain digits

lone_zero : (c : ℕ) (cs : List ℕ) → cond (c == 48) (length cs == 0) true ≡ true → c ≡ 48 → length (c ∷ cs) ≡ 1
lone_zero c cs e is = let none : length cs ≡ 0 = eqb-true (length cs) 0 (subst (λ b. cond b (length cs == 0) true ≡ true) (eq-eqb c 48 is) e) in omega (arith, none)

-- there are digits, and no zero in front of others
plain_parts : (ds : List ℕ) → are_plain_digits ds ≡ true → (all_ascii_digits ds ≡ true) × (0 < length ds) × (get_or ds 0 0 ≡ 48 → length ds ≡ 1)
plain_parts [] e = absurd (true≢false (sym e))
plain_parts (c ∷ cs) e = let k = and_parts (all_ascii_digits (c ∷ cs)) _ e in (k.0, omega arith, lone_zero c cs k.1)

plain_from : (ds : List ℕ) → all_ascii_digits ds ≡ true → 0 < length ds → (get_or ds 0 0 ≡ 48 → length ds ≡ 1) → are_plain_digits ds ≡ true
plain_from [] all some lead = absurd (omega arith)
plain_from (c ∷ cs) all some lead = and_from (all_ascii_digits (c ∷ cs)) _ all (by (c == 48) refl)
  where
    by : (b : Bool) → (c == 48) ≡ b → cond b (length cs == 0) true ≡ true
    by true e = let one : length (c ∷ cs) ≡ 1 = lead (eqb-true c 48 e) in eq-eqb (length cs) 0 (omega (arith, one))
    by false e = refl

le_read : (n : ℕ) (cs : List ℕ) → n ≤ read_on n cs
le_read n [] = omega arith
le_read n (c ∷ cs) = omega (arith, le_read (n * 10 + (c - 48)) cs)

-- digits that do not begin with a zero are no zero
above_zero : (ds : List ℕ) → all_ascii_digits ds ≡ true → 0 < length ds → get_or ds 0 0 ≢ 48 → 0 < read_on 0 ds
above_zero [] all some lead = absurd (omega arith)
above_zero (c ∷ cs) all some lead =
    let digit : IsInRange 48 57 c = (tells_all_ascii_digits.parts c cs all).0 in
    by (cases_lt 48 c) digit
  where
    by : (48 < c) ⊎ (c ≤ 48) → IsInRange 48 57 c → 0 < read_on 0 (c ∷ cs)
    by (inl lt) digit = omega (arith, le_read (0 * 10 + (c - 48)) cs)
    by (inr le) digit = absurd (lead (omega arith))

-- ---- what is read of a text of the shape

minus_some : (ds : List ℕ) → are_plain_digits ds ≡ true → 0 < read_on 0 ds → read_on 0 ds ≤ 2 ^ 63 → minus_of ds ≡ Some (neg_ℤ (pos (read_on 0 ds)))
minus_some ds plain some fits = ap (λ b. cond b (Some (neg_ℤ (pos (read_on 0 ds)))) None) (and_from (are_plain_digits ds && nat_lt 0 (read_on 0 ds)) _ (and_from (are_plain_digits ds) _ plain (lt-ltb 0 (read_on 0 ds) some)) (le-leb (read_on 0 ds) (2 ^ 63) fits))

minus_none : (ds : List ℕ) → (read_on 0 ds ≤ 2 ^ 63 → ⊥) → minus_of ds ≡ None
minus_none ds above = by (nat_le (read_on 0 ds) (2 ^ 63)) refl
  where
    by : (b : Bool) → nat_le (read_on 0 ds) (2 ^ 63) ≡ b → cond ((are_plain_digits ds && nat_lt 0 (read_on 0 ds)) && nat_le (read_on 0 ds) (2 ^ 63)) (Some (neg_ℤ (pos (read_on 0 ds)))) None ≡ None
    by true e = absurd (above (leb-true (read_on 0 ds) (2 ^ 63) e))
    by false e = rw e (refused (are_plain_digits ds && nat_lt 0 (read_on 0 ds)))
      where
        refused : (a : Bool) → cond (a && false) (Some (neg_ℤ (pos (read_on 0 ds)))) None ≡ None
        refused true = refl
        refused false = refl

plain_some : (ds : List ℕ) → are_plain_digits ds ≡ true → read_on 0 ds < 2 ^ 63 → plain_of ds ≡ Some (pos (read_on 0 ds))
plain_some ds plain fits = ap (λ b. cond b (Some (pos (read_on 0 ds))) None) (and_from (are_plain_digits ds) _ plain (lt-ltb (read_on 0 ds) (2 ^ 63) fits))

plain_none : (ds : List ℕ) → (read_on 0 ds < 2 ^ 63 → ⊥) → plain_of ds ≡ None
plain_none ds above = by (nat_lt (read_on 0 ds) (2 ^ 63)) refl
  where
    by : (b : Bool) → nat_lt (read_on 0 ds) (2 ^ 63) ≡ b → cond (are_plain_digits ds && nat_lt (read_on 0 ds) (2 ^ 63)) (Some (pos (read_on 0 ds))) None ≡ None
    by true e = absurd (above (ltb-true (read_on 0 ds) (2 ^ 63) e))
    by false e = rw e (refused (are_plain_digits ds))
      where
        refused : (a : Bool) → cond (a && false) (Some (pos (read_on 0 ds))) None ≡ None
        refused true = refl
        refused false = refl

-- what `parse` answered, as the number that a text is
answered : {E : Type 0} (r : Result ℤ E) (P : Type 0) (v : ℤ) (o : Option ℤ) → OkIff r P v → (P → o ≡ Some v) → ((P → ⊥) → o ≡ None) → ((n : ℤ) → r ≡ Ok n → o ≡ Some n) × ((e : E) → r ≡ Err e → o ≡ None)
answered {E} (Ok x) P v o h some none = (λ n is. some h.0 ∙ ap Some (sym h.1 ∙ same x n is), λ e is. absurd cc)
  where
    same : (a b : ℤ) → ◌≡◌ {A = Result ℤ E} (Ok a) (Ok b) → a ≡ b
    same a b is = cc
answered (Err e) P v o h some none = (λ n is. absurd cc, λ e is. none h)

pub read_shaped : {E : Type 0} (bs : List ℕ) (r : Result ℤ E) → is_number_shaped bs ≡ true → ParsesSigned w64 10 bs r → ((n : ℤ) → r ≡ Ok n → number_of bs ≡ Some n) × ((e : E) → r ≡ Err e → number_of bs ≡ None)
read_shaped [] r shaped parses = absurd (true≢false (sym shaped))
read_shaped {E} (c ∷ cs) r shaped parses = by (c == 45) refl
  where
    by : (b : Bool) → (c == 45) ≡ b → ((n : ℤ) → r ≡ Ok n → number_of (c ∷ cs) ≡ Some n) × ((e : E) → r ≡ Err e → number_of (c ∷ cs) ≡ None)
    by true is =
        let parts = and_parts (are_plain_digits cs) _ (subst (λ b. cond b (are_plain_digits cs && not (get_or cs 0 0 == 48)) (are_plain_digits (c ∷ cs)) ≡ true) is shaped) in
        let plain = plain_parts cs parts.0 in
        let lead : get_or cs 0 0 ≢ 48 = λ z. true≢false (sym parts.1 ∙ not_from_true (get_or cs 0 0 == 48) (eq-eqb (get_or cs 0 0) 48 z)) in
        let some : 0 < read_on 0 cs = above_zero cs plain.0 plain.1 lead in
        let as_minus : number_of (c ∷ cs) ≡ minus_of cs = ap (λ b. cond b (minus_of cs) (plain_of (c ∷ cs))) is in
        answered r _ _ (number_of (c ∷ cs)) (parse_signed_minus own w64 (c ∷ cs) r parses (eqb-true c 45 is)) (λ p. as_minus ∙ minus_some cs parts.0 some p.2) (λ other. as_minus ∙ minus_none cs (λ fits. other (plain.0, plain.1, fits)))
    by false is =
        let shape : are_plain_digits (c ∷ cs) ≡ true = subst (λ b. cond b (are_plain_digits cs && not (get_or cs 0 0 == 48)) (are_plain_digits (c ∷ cs)) ≡ true) is shaped in
        let plain = plain_parts (c ∷ cs) shape in
        let as_plain : number_of (c ∷ cs) ≡ plain_of (c ∷ cs) = ap (λ b. cond b (minus_of cs) (plain_of (c ∷ cs))) is in
        answered r _ _ (number_of (c ∷ cs)) (parse_signed_digits own w64 (c ∷ cs) r parses plain.0) (λ p. as_plain ∙ plain_some (c ∷ cs) shape p.1) (λ other. as_plain ∙ plain_none (c ∷ cs) (λ fits. other (plain.1, fits)))

-- a text of another shape has no number
pub read_unshaped : (bs : List ℕ) → is_number_shaped bs ≡ false → number_of bs ≡ None
read_unshaped [] shaped = refl
read_unshaped (c ∷ cs) shaped = by (c == 45) shaped
  where
    zero_read : (ds : List ℕ) → are_plain_digits ds ≡ true → get_or ds 0 0 ≡ 48 → read_on 0 ds ≡ 0
    zero_read [] plain z = refl
    zero_read (d ∷ []) plain z = omega arith
    zero_read (d ∷ e ∷ es) plain z = absurd (omega (arith, (plain_parts (d ∷ e ∷ es) plain).2 z))

    refused : (ds : List ℕ) (p : Bool) → are_plain_digits ds ≡ p → (p && not (get_or ds 0 0 == 48)) ≡ false → cond ((p && nat_lt 0 (read_on 0 ds)) && nat_le (read_on 0 ds) (2 ^ 63)) (Some (neg_ℤ (pos (read_on 0 ds)))) None ≡ None
    refused ds false e h = refl
    refused ds true e h = rw (zero_read ds e (eqb-true (get_or ds 0 0) 48 (negated (get_or ds 0 0 == 48) h))) refl
      where
        negated : (b : Bool) → not b ≡ false → b ≡ true
        negated true k = refl
        negated false k = absurd (true≢false k)

    by : (b : Bool) → cond b (are_plain_digits cs && not (get_or cs 0 0 == 48)) (are_plain_digits (c ∷ cs)) ≡ false → cond b (minus_of cs) (plain_of (c ∷ cs)) ≡ None
    by true e = refused cs (are_plain_digits cs) refl e
    by false e = ap (λ p. cond (p && nat_lt (read_on 0 (c ∷ cs)) (2 ^ 63)) (Some (pos (read_on 0 (c ∷ cs)))) None) e

-- ---- a number text and what is written for its number

-- a text of digits is no minus
digit_first : (ds : List ℕ) → all_ascii_digits ds ≡ true → 0 < length ds → get_or ds 0 0 ≢ 45
digit_first [] all some z = absurd (omega arith)
digit_first (c ∷ cs) all some z = let digit : IsInRange 48 57 c = (tells_all_ascii_digits.parts c cs all).0 in omega (arith, digit)

number_plain : (ds : List ℕ) → 0 < length ds → get_or ds 0 0 ≢ 45 → number_of ds ≡ plain_of ds
number_plain [] some other = absurd (omega arith)
number_plain (c ∷ cs) some other = by (c == 45) refl
  where
    by : (b : Bool) → (c == 45) ≡ b → cond b (minus_of cs) (plain_of (c ∷ cs)) ≡ plain_of (c ∷ cs)
    by true e = absurd (other (eqb-true c 45 e))
    by false e = refl

zero_alone : (n : ℕ) → n < 2 ^ 64 → get_or (decimal n) 0 0 ≡ 48 → length (decimal n) ≡ 1
zero_alone n small first = go (cases_lt 0 n)
  where
    go : (0 < n) ⊎ (n ≤ 0) → length (decimal n) ≡ 1
    go (inl some) = let above = first_decimal n some small in absurd (omega (arith, first, above))
    go (inr none) = ap length (decimal_digit n (omega arith))

plain_decimal : (n : ℕ) → n < 2 ^ 64 → are_plain_digits (decimal n) ≡ true
plain_decimal n small = plain_from (decimal n) (digits_decimal own n small) (decimal_nonempty n small) (zero_alone n small)

small_size : (n : ℕ) → IsTrue (is_i64 (pos n)) → n < 2 ^ 63
small_size n t = search (arith, rules)

small_minus : (n : ℕ) → IsTrue (is_i64 (negsuc n)) → n < 2 ^ 63
small_minus n t = search (arith, rules)

written_read : (bs : List ℕ) (v : ℤ) → bs ≡ signed_decimal v → IsTrue (is_i64 v) → number_of bs ≡ Some v
written_read bs (pos n) is fits =
    let small : n < 2 ^ 63 = small_size n fits in
    let digits = digits_decimal own n (omega arith) in
    let some = decimal_nonempty n (omega arith) in
    let value : read_on 0 (decimal n) ≡ n = digits_value-decimal own n (omega arith) in
    ap number_of is ∙ number_plain (decimal n) some (digit_first (decimal n) digits some) ∙ plain_some (decimal n) (plain_decimal n (omega arith)) (omega (arith, value)) ∙ ap (λ m. Some (pos m)) value
written_read bs (negsuc n) is fits =
    let small : n < 2 ^ 63 = small_minus n fits in
    let value : read_on 0 (decimal (suc n)) ≡ suc n = digits_value-decimal own (suc n) (omega arith) in
    ap number_of is ∙ minus_some (decimal (suc n)) (plain_decimal (suc n) (omega arith)) (omega (arith, value)) (omega (arith, value)) ∙ ap (λ m. Some (neg_ℤ (pos m))) value

read_plain : (ds : List ℕ) (v : ℤ) → plain_of ds ≡ Some v → (ds ≡ signed_decimal v) × IsTrue (is_i64 v)
read_plain ds v e = by (are_plain_digits ds) refl (nat_lt (read_on 0 ds) (2 ^ 63)) refl e
  where
    one : (a b : ℤ) → Some a ≡ Some b → a ≡ b
    one a b is = cc

    by : (p : Bool) → are_plain_digits ds ≡ p → (q : Bool) → nat_lt (read_on 0 ds) (2 ^ 63) ≡ q → cond (p && q) (Some (pos (read_on 0 ds))) None ≡ Some v → (ds ≡ signed_decimal v) × IsTrue (is_i64 v)
    by true plain true fits is =
        let parts = plain_parts ds plain in
        let small : read_on 0 ds < 2 ^ 63 = ltb-true (read_on 0 ds) (2 ^ 63) fits in
        let same : pos (read_on 0 ds) ≡ v = one (pos (read_on 0 ds)) v is in
        subst (λ w. (ds ≡ signed_decimal w) × IsTrue (is_i64 w)) same (sym (decimal-digits_value own ds parts.0 parts.1 parts.2 (omega arith)), fits)
    by true plain false fits is = absurd cc
    by false plain q fits is = absurd cc

-- a number below 0 by the digits behind the minus
below_zero : (ds : List ℕ) (n : ℕ) (v : ℤ) → ds ≡ decimal n → 0 < n → n ≤ 2 ^ 63 → neg_ℤ (pos n) ≡ v → (45 ∷ ds ≡ signed_decimal v) × IsTrue (is_i64 v)
below_zero ds zero v is some fits same = absurd (omega arith)
below_zero ds (suc m) v is some fits same = subst (λ w. (45 ∷ ds ≡ signed_decimal w) × IsTrue (is_i64 w)) same (ap (λ l. 45 ∷ l) is, i64_of m fits)
  where
    i64_of : (m : ℕ) → suc m ≤ 2 ^ 63 → IsTrue (is_i64 (negsuc m))
    i64_of m le = search (arith, rules)

read_minus : (ds : List ℕ) (v : ℤ) → minus_of ds ≡ Some v → (45 ∷ ds ≡ signed_decimal v) × IsTrue (is_i64 v)
read_minus ds v e = by (are_plain_digits ds) refl (nat_lt 0 (read_on 0 ds)) refl (nat_le (read_on 0 ds) (2 ^ 63)) refl e
  where
    one : (a b : ℤ) → Some a ≡ Some b → a ≡ b
    one a b is = cc

    by : (p : Bool) → are_plain_digits ds ≡ p → (s : Bool) → nat_lt 0 (read_on 0 ds) ≡ s → (q : Bool) → nat_le (read_on 0 ds) (2 ^ 63) ≡ q → cond ((p && s) && q) (Some (neg_ℤ (pos (read_on 0 ds)))) None ≡ Some v → (45 ∷ ds ≡ signed_decimal v) × IsTrue (is_i64 v)
    by false plain s some q fits is = absurd cc
    by true plain false some q fits is = absurd cc
    by true plain true some false fits is = absurd cc
    by true plain true some true fits is =
        let parts = plain_parts ds plain in
        let small : read_on 0 ds ≤ 2 ^ 63 = leb-true (read_on 0 ds) (2 ^ 63) fits in
        below_zero ds (read_on 0 ds) v (sym (decimal-digits_value own ds parts.0 parts.1 parts.2 (omega arith))) (ltb-true 0 (read_on 0 ds) some) small (one (neg_ℤ (pos (read_on 0 ds))) v is)

read_written : (bs : List ℕ) (v : ℤ) → number_of bs ≡ Some v → (bs ≡ signed_decimal v) × IsTrue (is_i64 v)
read_written [] v e = absurd cc
read_written (c ∷ cs) v e = by (c == 45) refl e
  where
    by : (b : Bool) → (c == 45) ≡ b → cond b (minus_of cs) (plain_of (c ∷ cs)) ≡ Some v → (c ∷ cs ≡ signed_decimal v) × IsTrue (is_i64 v)
    by true is e = let k = read_minus cs v e in (ap (λ d. d ∷ cs) (eqb-true c 45 is) ∙ k.0, k.1)
    by false is e = read_plain (c ∷ cs) v e

-- a number text is exactly what is written for a number of 64 bits
pub decimal_law : (bs : List ℕ) (v : ℤ) → (number_of bs ≡ Some v) ↔ ((bs ≡ signed_decimal v) × IsTrue (is_i64 v))
decimal_law bs v = (read_written bs v, λ k. written_read bs v k.0 k.1)
