-- What was appended piece by piece is the spelling of a record, and of live records.
use Rattle.std.proofs.Common.{◌≡◌, ℕ, suc, ◌+◌, ◌-◌, ◌<◌, ◌≤◌, Bool, true, false, cond, List, [], ◌∷◌, ◌++◌, length, take, drop, get_or, refl, sym, ap, subst, ◌∙◌, arith, append_assoc, inl, inr}
use Rattle.std.specs.List.{flat_map}
use Rattle.std.proofs.lemmas.List.{take_at, drop_at, length-append, take_more, take_all, length-take-le, length-drop, append-nil}
use Rattle.std.proofs.lemmas.List.Concat.{flat_map-append}
use Rattle.std.proofs.lemmas.Bool.{cases_lt}
use Rattle.std.proofs.Math.Seq.{take-add}
use Rattle.facet_codec.specs.Spelling.{be32}
use Rattle.facet_model.proofs.Each.{each_append}
use Rattle.facet_model.specs.Stored.{Stored, Records, is_dead, alive, alive_from}
use Rattle.seg_grammar.specs.Spelling.{record_bytes, IsRecord}
use Rattle.seg_merge.specs.Merged.{ArePut}

-- records more
pub put_more : (old mid new : List ℕ) (rs qs : List Stored) → ArePut old mid rs → ArePut mid new qs → ArePut old new (rs ++ qs)
put_more old mid new rs qs before then = record {
  bytes = then.bytes ∙ ap (λ l. l ++ flat_map record_bytes qs) before.bytes ∙ append_assoc old (flat_map record_bytes rs) (flat_map record_bytes qs) ∙ ap (λ l. old ++ l) (sym (flat_map-append record_bytes rs qs));
  fit = each_append IsRecord rs qs before.fit then.fit;
}

-- ---- the live ones

module _ {A : Type 0} (dead : List ℕ) where
  alive_append : (j : ℕ) (xs ys : List A) → alive_from dead j (xs ++ ys) ≡ alive_from dead j xs ++ alive_from dead (j + length xs) ys
  alive_append j [] ys = let e : j ≡ j + 0 = omega arith in ap (λ n. alive_from dead n ys) e
  alive_append j (x ∷ xs) ys = by (is_dead dead j) (alive_append (j + 1) xs ys ∙ ap (λ n. alive_from dead (j + 1) xs ++ alive_from dead n ys) plus)
    where
      plus : (j + 1) + length xs ≡ j + suc (length xs)
      plus = omega arith

      by : (b : Bool) → alive_from dead (j + 1) (xs ++ ys) ≡ alive_from dead (j + 1) xs ++ alive_from dead (j + suc (length xs)) ys
          → cond b (alive_from dead (j + 1) (xs ++ ys)) (x ∷ alive_from dead (j + 1) (xs ++ ys)) ≡ cond b (alive_from dead (j + 1) xs) (x ∷ alive_from dead (j + 1) xs) ++ alive_from dead (j + suc (length xs)) ys
      by true rest = rest
      by false rest = ap (λ l. x ∷ l) rest

  -- one more, which is not live
  pub alive_past : (xs : List A) (k : ℕ) → k < length xs → is_dead dead k ≡ true → alive dead (take (k + 1) xs) ≡ alive dead (take k xs)
  alive_past [] k lt gone = absurd (omega (arith, lt))
  alive_past (x ∷ xs) k lt gone =
      let front : List A = take k (x ∷ xs) in
      let here : A = get_or (x ∷ xs) k x in
      let e : 0 + length front ≡ k = omega (arith, length-take-le k (x ∷ xs) (omega (arith, lt))) in
      ap (alive dead) (take_more (x ∷ xs) k x lt) ∙ alive_append 0 front (here ∷ []) ∙ ap (λ n. alive dead front ++ cond (is_dead dead n) [] (here ∷ [])) e
      ∙ ap (λ b. alive dead front ++ cond b [] (here ∷ [])) gone ∙ append-nil (alive dead front)

  alive_all : (j : ℕ) (ys : List A) → ((n : ℕ) → j ≤ n → n < j + length ys → is_dead dead n ≡ false) → alive_from dead j ys ≡ ys
  alive_all j [] live = refl
  alive_all j (y ∷ ys) live = by (is_dead dead j) (live j (omega arith) (omega arith)) (alive_all (j + 1) ys (λ n le lt. live n (omega (arith, le)) (omega (arith, lt))))
    where
      by : (b : Bool) → b ≡ false → alive_from dead (j + 1) ys ≡ ys → cond b (alive_from dead (j + 1) ys) (y ∷ alive_from dead (j + 1) ys) ≡ y ∷ ys
      by true e rest = absurd cc
      by false e rest = ap (λ l. y ∷ l) rest

  -- more, which are all live
  pub alive_range : (xs : List A) (from to : ℕ) → from ≤ to → to ≤ length xs → ((n : ℕ) → from ≤ n → n < to → is_dead dead n ≡ false) → alive dead (take to xs) ≡ alive dead (take from xs) ++ take (to - from) (drop from xs)
  alive_range xs from to le within live =
      let n : ℕ = to - from in
      let ys : List A = take n (drop from xs) in
      let on : to ≡ from + n = omega (arith, le) in
      let front : length (take from xs) ≡ from = length-take-le from xs (omega (arith, le, within)) in
      let many : length ys ≡ n = length-take-le n (drop from xs) (omega (arith, le, within, length-drop from xs)) in
      ap (λ k. alive dead (take k xs)) on ∙ ap (alive dead) (take-add from n xs) ∙ alive_append 0 (take from xs) ys
      ∙ ap (λ l. alive dead (take from xs) ++ l) (alive_all (0 + length (take from xs)) ys (λ k low high. live k (omega (arith, low, front)) (omega (arith, high, front, many, le))))

-- The live records before the number `from` are put, and all from there up to `doc` are live.
pub record ArePutUpto (s : Records) (old out : List ℕ) (from doc : ℕ) : Type 0 where
  pub order : from ≤ doc
  pub put : ArePut old out (alive s.dead (take from s.records))
  pub live : (n : ℕ) → from ≤ n → n < doc → is_dead s.dead n ≡ false

module _ (s : Records) (old mid new : List ℕ) (from k : ℕ) (before : ArePutUpto s old mid from k) where
  ranged : k ≤ length s.records → ArePut mid new (take (k - from) (drop from s.records)) → ArePut old new (alive s.dead (take k s.records))
  ranged within then =
      subst (ArePut old new) (sym (alive_range s.dead s.records from k before.order within before.live))
      (put_more old mid new (alive s.dead (take from s.records)) (take (k - from) (drop from s.records)) before.put then)

  pub put_past : k < length s.records → is_dead s.dead k ≡ true → ArePut mid new (take (k - from) (drop from s.records)) → ArePutUpto s old new (k + 1) (k + 1)
  put_past lt gone then = record {
    order = omega arith;
    put = subst (ArePut old new) (sym (alive_past s.dead s.records k lt gone)) (ranged (omega (arith, lt)) then);
    live = λ n le less. absurd (omega (arith, le, less));
  }

  pub put_on : is_dead s.dead k ≡ false → ArePutUpto s old mid from (k + 1)
  put_on live = record {
    order = omega (arith, before.order);
    put = before.put;
    live = λ n le lt. elim (cases_lt n k) [
      | inl less ↦ before.live n le less
      | inr ge ↦ let same : n ≡ k = omega (arith, lt, ge) in ap (is_dead s.dead) same ∙ live
    ];
  }

  pub put_end : k ≡ length s.records → ArePut mid new (take (length s.records - from) (drop from s.records)) → ArePut old new (alive s.dead s.records)
  put_end all then =
      subst (λ rs. ArePut old new (alive s.dead rs)) (take_all k s.records (omega (arith, all)))
      (ranged (omega (arith, all)) (subst (λ n. ArePut mid new (take (n - from) (drop from s.records))) (sym all) then))

-- ---- four bytes that are written later

pub patched : (x ts b old mid : List ℕ) (at n len : ℕ) → at ≡ length x → mid ≡ x ++ be32 0 → old ≡ mid ++ ts → b ≡ take at old ++ (be32 n ++ drop (at + 4) old) → len ≡ length old
    → take len (b ++ drop (length b) old) ≡ (x ++ be32 n) ++ ts
patched x ts b old mid at n len here zeros rest set size = take_at b (drop (length b) old) len (sym all) ∙ is
  where
    whole : old ≡ (x ++ be32 0) ++ ts
    whole = rest ∙ ap (λ l. l ++ ts) zeros

    front : take at old ≡ x
    front = ap (take at) (whole ∙ append_assoc x (be32 0) ts) ∙ take_at x (be32 0 ++ ts) at (sym here)

    behind : drop (at + 4) old ≡ ts
    behind = ap (drop (at + 4)) whole ∙ drop_at (x ++ be32 0) ts (at + 4) (omega (arith, here, length-append x (be32 0)))

    is : b ≡ (x ++ be32 n) ++ ts
    is = set ∙ (λ i. front i ++ (be32 n ++ behind i)) ∙ sym (append_assoc x (be32 n) ts)

    all : len ≡ length b
    all = omega (arith, size, ap length is, ap length whole, length-append (x ++ be32 n) ts, length-append x (be32 n), length-append (x ++ be32 0) ts, length-append x (be32 0))
