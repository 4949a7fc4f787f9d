-- Entries of lists in pieces.
use Rattle.std.proofs.Common.{◌≡◌, ℕ, zero, suc, ◌+◌, ◌*◌, ◌^◌, ◌/◌, ◌%◌, ◌<◌, ◌≤◌, List, [], ◌∷◌, ◌++◌, length, get_or, set, take, drop, slice_get, map, Some, refl, sym, ap, subst, ◌∙◌, arith, append_assoc}
use Rattle.std.specs.List.{flat_map, AllByRecursion}
use Rattle.std.proofs.Math.Nat.{mod-lt}
use Rattle.std.proofs.lemmas.Nat.{div-add-mod'}
use Rattle.std.proofs.Math.Seq.{drop-append-add, take-nil}
use Rattle.std.proofs.lemmas.List.{length-append, length-set, get_or_append_left, get_or-append-add, take_at, take_all, drop_at, drop_all}
use Rattle.std.proofs.lemmas.List.Elements.{All-from_recursion}
use Rattle.std.proofs.lemmas.Option.{slice_get-get_or}
use Rattle.shared_list.specs.Pieces.{joined, ArePieces}

-- Pieces of a fixed size, each the entries that a function gives.
module _ {X A : Type 0} (f : X → List A) (size : ℕ) where
  abbrev AreFull : List X → Type 0
  AreFull xs = AllByRecursion (λ x. length (f x) ≡ size) xs

  pub length_full : (xs : List X) → AreFull xs → length (flat_map f xs) ≡ length xs * size
  length_full [] all = let e : 0 * size ≡ 0 = omega arith in sym e
  length_full (x ∷ xs) all =
      let more : suc (length xs) * size ≡ size + length xs * size = grind arith in
      length-append (f x) (flat_map f xs) ∙ (λ i. all.0 i + length_full xs all.1 i) ∙ sym more

  -- the j-th of the i-th piece
  pub get_full : (xs : List X) (last : List A) (i j : ℕ) (e : X) (d : A) → AreFull xs → i < length xs → j < size → get_or (flat_map f xs ++ last) (i * size + j) d ≡ get_or (f (get_or xs i e)) j d
  get_full [] last i j e d all lt low = absurd (omega (arith, lt))
  get_full (x ∷ xs) last zero j e d all lt low =
      let at : zero * size + j ≡ j = omega arith in
      let whole : (f x ++ flat_map f xs) ++ last ≡ f x ++ (flat_map f xs ++ last) = append_assoc (f x) (flat_map f xs) last in
      (λ k. get_or (whole k) (at k) d) ∙ get_or_append_left (f x) (flat_map f xs ++ last) d j (omega (arith, low, all.0))
  get_full (x ∷ xs) last (suc i) j e d all lt low =
      let step : suc i * size ≡ size + i * size = grind arith in
      let at : suc i * size + j ≡ length (f x) + (i * size + j) = omega (arith, step, all.0) in
      let whole : (f x ++ flat_map f xs) ++ last ≡ f x ++ (flat_map f xs ++ last) = append_assoc (f x) (flat_map f xs) last in
      (λ k. get_or (whole k) (at k) d) ∙ get_or-append-add (f x) (flat_map f xs ++ last) (i * size + j) d ∙ get_full xs last i j e d all.1 (omega (arith, lt)) low

  -- one of those behind the pieces
  pub get_last : (xs : List X) (last : List A) (j : ℕ) (d : A) → AreFull xs → get_or (flat_map f xs ++ last) (length xs * size + j) d ≡ get_or last j d
  get_last [] last j d all = let at : zero * size + j ≡ j = omega arith in ap (λ k. get_or last k d) at
  get_last (x ∷ xs) last j d all =
      let step : suc (length xs) * size ≡ size + length xs * size = grind arith in
      let at : suc (length xs) * size + j ≡ length (f x) + (length xs * size + j) = omega (arith, step, all.0) in
      let whole : (f x ++ flat_map f xs) ++ last ≡ f x ++ (flat_map f xs ++ last) = append_assoc (f x) (flat_map f xs) last in
      (λ k. get_or (whole k) (at k) d) ∙ get_or-append-add (f x) (flat_map f xs ++ last) (length xs * size + j) d ∙ get_last xs last j d all.1

  -- the i-th piece, and what is behind the pieces
  pub piece_full : (xs : List X) (last : List A) (i : ℕ) (e : X) → AreFull xs → i < length xs → take size (drop (i * size) (flat_map f xs ++ last)) ≡ f (get_or xs i e)
  piece_full [] last i e all lt = absurd (omega (arith, lt))
  piece_full (x ∷ xs) last zero e all lt =
      let at : zero * size ≡ 0 = omega arith in
      let whole : (f x ++ flat_map f xs) ++ last ≡ f x ++ (flat_map f xs ++ last) = append_assoc (f x) (flat_map f xs) last in
      (λ k. take size (drop (at k) (whole k))) ∙ take_at (f x) (flat_map f xs ++ last) size all.0
  piece_full (x ∷ xs) last (suc i) e all lt =
      let step : suc i * size ≡ size + i * size = grind arith in
      let at : suc i * size ≡ length (f x) + i * size = omega (arith, step, all.0) in
      let whole : (f x ++ flat_map f xs) ++ last ≡ f x ++ (flat_map f xs ++ last) = append_assoc (f x) (flat_map f xs) last in
      (λ k. take size (drop (at k) (whole k))) ∙ ap (take size) (drop-append-add (f x) (flat_map f xs ++ last) (i * size)) ∙ piece_full xs last i e all.1 (omega (arith, lt))

  pub rest_is : (xs : List X) (last : List A) → AreFull xs → drop (length xs * size) (flat_map f xs ++ last) ≡ last
  rest_is xs last all = ap (λ n. drop n (flat_map f xs ++ last)) (sym (length_full xs all)) ∙ drop_at (flat_map f xs) last (length (flat_map f xs)) refl

-- ---- a changed entry

set_append_left : {A : Type 0} (xs ys : List A) (i : ℕ) (y : A) → i < length xs → set (xs ++ ys) i y ≡ set xs i y ++ ys
set_append_left [] ys i y lt = absurd (omega (arith, lt))
set_append_left (x ∷ xs) ys zero y lt = refl
set_append_left (x ∷ xs) ys (suc i) y lt = ap (λ l. x ∷ l) (set_append_left xs ys i y (omega (arith, lt)))

set_append_right : {A : Type 0} (xs ys : List A) (i : ℕ) (y : A) → set (xs ++ ys) (length xs + i) y ≡ xs ++ set ys i y
set_append_right [] ys i y = let at : 0 + i ≡ i = omega arith in ap (λ k. set ys k y) at
set_append_right (x ∷ xs) ys i y =
    let at : suc (length xs) + i ≡ suc (length xs + i) = omega arith in
    ap (λ k. set (x ∷ (xs ++ ys)) k y) at ∙ ap (λ l. x ∷ l) (set_append_right xs ys i y)

module _ {X A : Type 0} (f : X → List A) (size : ℕ) where
  -- in a piece
  pub set_full : (xs : List X) (last : List A) (i j : ℕ) (e piece : X) (y : A) → AllByRecursion (λ x. length (f x) ≡ size) xs → i < length xs → j < size → f piece ≡ set (f (get_or xs i e)) j y
      → set (flat_map f xs ++ last) (i * size + j) y ≡ flat_map f (set xs i piece) ++ last
  set_full [] last i j e piece y all lt low is = absurd (omega (arith, lt))
  set_full (x ∷ xs) last zero j e piece y all lt low is =
      let at : zero * size + j ≡ j = omega arith in
      let whole : (f x ++ flat_map f xs) ++ last ≡ f x ++ (flat_map f xs ++ last) = append_assoc (f x) (flat_map f xs) last in
      (λ k. set (whole k) (at k) y) ∙ set_append_left (f x) (flat_map f xs ++ last) j y (omega (arith, low, all.0)) ∙ ap (λ l. l ++ (flat_map f xs ++ last)) (sym is) ∙ sym (append_assoc (f piece) (flat_map f xs) last)
  set_full (x ∷ xs) last (suc i) j e piece y all lt low is =
      let step : suc i * size ≡ size + i * size = grind arith in
      let at : suc i * size + j ≡ length (f x) + (i * size + j) = omega (arith, step, all.0) in
      let whole : (f x ++ flat_map f xs) ++ last ≡ f x ++ (flat_map f xs ++ last) = append_assoc (f x) (flat_map f xs) last in
      (λ k. set (whole k) (at k) y) ∙ set_append_right (f x) (flat_map f xs ++ last) (i * size + j) y ∙ ap (λ l. f x ++ l) (set_full xs last i j e piece y all.1 (omega (arith, lt)) low is)
      ∙ sym (append_assoc (f x) (flat_map f (set xs i piece)) last)

  pub full_set : (xs : List X) (i : ℕ) (piece : X) → AllByRecursion (λ x. length (f x) ≡ size) xs → length (f piece) ≡ size → AllByRecursion (λ x. length (f x) ≡ size) (set xs i piece)
  full_set [] zero piece all is = tt
  full_set [] (suc i) piece all is = tt
  full_set (x ∷ xs) zero piece all is = (is, all.1)
  full_set (x ∷ xs) (suc i) piece all is = (all.0, full_set xs i piece all.1 is)

  -- behind the pieces
  pub set_last : (xs : List X) (last : List A) (j : ℕ) (y : A) → AllByRecursion (λ x. length (f x) ≡ size) xs → set (flat_map f xs ++ last) (length xs * size + j) y ≡ flat_map f xs ++ set last j y
  set_last xs last j y all =
      let at : length xs * size + j ≡ length (flat_map f xs) + j = omega (arith, length_full f size xs all) in
      ap (λ k. set (flat_map f xs ++ last) k y) at ∙ set_append_right (flat_map f xs) last j y

-- ---- all entries

module _ {X A : Type 0} (f : X → List A) where
  pub size : (full : List X) (last : List A) → ArePieces f full last → length (joined f full last) ≡ length full * 1024 + length last
  size full last are = length-append (flat_map f full) last ∙ ap (λ n. n + length last) (length_full f 1024 full are.each)

  all_push : (full : List X) (piece : X) → AllByRecursion (λ p. length (f p) ≡ 1024) full → length (f piece) ≡ 1024 → AllByRecursion (λ p. length (f p) ≡ 1024) (full ++ piece ∷ [])
  all_push [] piece all is = (is, tt)
  all_push (p ∷ ps) piece all is = (all.0, all_push ps piece all.1 is)

  -- the last ones become a piece
  pub filled : (full : List X) (last : List A) (piece : X) (y : A) → ArePieces f full last → f piece ≡ last ++ y ∷ [] → 1024 ≤ length last + 1 → length (joined f full last) < 2 ^ 32 → ArePieces f (full ++ piece ∷ []) []
  filled full last piece y are is long few =
      let whole : length (f piece) ≡ 1024 = omega (arith, ap length is, length-append last (y ∷ []), long, are.fewer) in
      let each : AllByRecursion (λ p. length (f p) ≡ 1024) (full ++ piece ∷ []) = all_push full piece are.each whole in
      record {
        each = each;
        fewer = omega arith;
        few = omega (arith, few, size full last are, length-append (flat_map f (full ++ piece ∷ [])) [], length_full f 1024 (full ++ piece ∷ []) each, length-append full (piece ∷ []), long, are.fewer);
      }

  -- one more behind the pieces
  pub pushed : (full : List X) (last : List A) (y : A) → ArePieces f full last → length last + 1 < 1024 → length (joined f full last) < 2 ^ 32 → ArePieces f full (last ++ y ∷ [])
  pushed full last y are room few = record {
    each = are.each;
    fewer = omega (arith, length-append last (y ∷ []), room);
    few = omega (arith, few, size full last are, length-append (flat_map f full) (last ++ y ∷ []), length_full f 1024 full are.each, length-append last (y ∷ []));
  }

  -- ---- where an entry stands

  module _ (full : List X) (last : List A) (are : ArePieces f full last) (at : ℕ) where
    split : at / 1024 * 1024 + at % 1024 ≡ at
    split = div-add-mod' at 1024

    low : at % 1024 < 1024
    low = mod-lt at (omega arith)

    -- in a piece
    pub get_then : (e : X) (x : A) → at / 1024 < length full → x ≡ get_or (f (get_or full (at / 1024) e)) (at % 1024) x → slice_get (joined f full last) at ≡ Some x
    get_then e x lt is =
        slice_get-get_or (joined f full last) at x (omega (arith, size full last are, split, low, lt))
        ∙ ap Some (ap (λ k. get_or (joined f full last) k x) (sym split) ∙ get_full f 1024 full last (at / 1024) (at % 1024) e x are.each lt low ∙ sym is)

    pub set_then : (e piece : X) (y : A) → at / 1024 < length full → f piece ≡ set (f (get_or full (at / 1024) e)) (at % 1024) y → set (joined f full last) at y ≡ joined f (set full (at / 1024) piece) last
    set_then e piece y lt is = ap (λ k. set (joined f full last) k y) (sym split) ∙ set_full f 1024 full last (at / 1024) (at % 1024) e piece y are.each lt low is

    pub kept_then : (e piece : X) → at / 1024 < length full → length (f piece) ≡ length (f (get_or full (at / 1024) e)) → ArePieces f (set full (at / 1024) piece) last
    kept_then e piece lt is =
        let old : length (f (get_or full (at / 1024) e)) ≡ 1024 = All-from_recursion (λ p. length (f p) ≡ 1024) full are.each (at / 1024) e lt in
        let each : AllByRecursion (λ p. length (f p) ≡ 1024) (set full (at / 1024) piece) = full_set f 1024 full (at / 1024) piece are.each (is ∙ old) in
        record {
          each = each;
          fewer = are.fewer;
          few = omega (arith, are.few, size full last are, length-append (flat_map f (set full (at / 1024) piece)) last, length_full f 1024 (set full (at / 1024) piece) each, length-set full (at / 1024) piece);
        }

    -- behind them
    module _ (there : at < length (joined f full last)) (over : length full ≤ at / 1024) where
      here : at / 1024 ≡ length full
      here = omega (arith, size full last are, are.fewer, there, over, split, low)

      at_is : length full * 1024 + at % 1024 ≡ at
      at_is = omega (arith, here, split)

      pub within : at % 1024 < length last
      within = omega (arith, size full last are, there, here, split)

      pub get_else : (x : A) → x ≡ get_or last (at % 1024) x → slice_get (joined f full last) at ≡ Some x
      get_else x is = slice_get-get_or (joined f full last) at x there ∙ ap Some (ap (λ k. get_or (joined f full last) k x) (sym at_is) ∙ get_last f 1024 full last (at % 1024) x are.each ∙ sym is)

      pub set_else : (y : A) → set (joined f full last) at y ≡ joined f full (set last (at % 1024) y)
      set_else y = ap (λ k. set (joined f full last) k y) (sym at_is) ∙ set_last f 1024 full last (at % 1024) y are.each

  -- ---- a piece

  module _ (full : List X) (last : List A) (are : ArePieces f full last) where
    pub piece_then : (number : ℕ) (e : X) → number < length full → f (get_or full number e) ≡ take 1024 (drop (number * 1024) (joined f full last))
    piece_then number e lt = sym (piece_full f 1024 full last number e are.each lt)

    pub piece_last : (number : ℕ) → number ≡ length full → last ≡ take 1024 (drop (number * 1024) (joined f full last))
    piece_last number is = sym (ap (λ n. take 1024 (drop (n * 1024) (joined f full last))) is ∙ ap (take 1024) (rest_is f 1024 full last are.each) ∙ take_all 1024 last (omega (arith, are.fewer)))

    pub piece_none : (number : ℕ) → length full < number → [] ≡ take 1024 (drop (number * 1024) (joined f full last))
    piece_none number more = sym (ap (take 1024) (drop_all (number * 1024) (joined f full last) (omega (arith, size full last are, are.fewer, more))) ∙ take-nil 1024)

-- ---- the same pieces

module _ {X Y A : Type 0} (v : X → Y) (h : Y → List A) where
  by_value : (xs : List X) → flat_map (λ p. h (v p)) xs ≡ flat_map h (map v xs)
  by_value [] = refl
  by_value (x ∷ xs) = ap (λ l. h (v x) ++ l) (by_value xs)

  each_value : (xs : List X) → AllByRecursion (λ p. length (h (v p)) ≡ 1024) xs → AllByRecursion (λ y. length (h y) ≡ 1024) (map v xs)
  each_value [] all = tt
  each_value (x ∷ xs) all = (all.0, each_value xs all.1)

  value_each : (xs : List X) → AllByRecursion (λ y. length (h y) ≡ 1024) (map v xs) → AllByRecursion (λ p. length (h (v p)) ≡ 1024) xs
  value_each [] all = tt
  value_each (x ∷ xs) all = (all.0, value_each xs all.1)

  module _ (xs ys : List X) (ls ms : List A) (same : map v ys ≡ map v xs) (rest : ms ≡ ls) where
    pub same_joined : joined (λ p. h (v p)) ys ms ≡ joined (λ p. h (v p)) xs ls
    same_joined = (λ i. (by_value ys ∙ ap (flat_map h) same ∙ sym (by_value xs)) i ++ rest i)

    pub same_pieces : ArePieces (λ p. h (v p)) xs ls → ArePieces (λ p. h (v p)) ys ms
    same_pieces are = record {
      each = value_each ys (subst (AllByRecursion (λ y. length (h y) ≡ 1024)) (sym same) (each_value xs are.each));
      fewer = omega (arith, are.fewer, ap length rest);
      few = omega (arith, are.few, ap length same_joined);
    }
