-- Entries of lists in pieces.
use Rattle.std.proofs.Common.{◌≡◌, ℕ, ◌+◌, ◌<◌, ◌≤◌, List, [], ◌∷◌, ◌++◌, length, map, take, drop, refl, sym, ap, subst, ◌∙◌, arith, append_assoc, append-nil}
use Rattle.std.specs.List.{flat_map, AllByRecursion}
use mathlib.Core.List.{IsPrefix}
use Rattle.std.proofs.lemmas.List.{length-append, map-append, take-append-drop}
use Rattle.arc_list.specs.Pieces.{joined, ArePieces}

module _ {X A : Type 0} (f : X → List A) where
  -- where there is a full piece, there are at least its entries
  pub many : (full : List X) (last : List A) (n : ℕ) → ArePieces f full last n → 0 < length full → 256 ≤ length (joined f full last)
  many [] last n are lt = absurd (omega (arith, lt))
  many (p ∷ ps) last n are lt = omega (arith, are.each.0, length-append (f p ++ flat_map f ps) last, length-append (f p) (flat_map f ps))

  -- one more after the pieces
  pub joined_push : (full : List X) (last : List A) (y : A) → joined f full (last ++ y ∷ []) ≡ joined f full last ++ y ∷ []
  joined_push full last y = sym (append_assoc (flat_map f full) last (y ∷ []))

  pub pushed : (full : List X) (last : List A) (y : A) (n m : ℕ) → ArePieces f full last n → m ≡ n + 1 → length last + 1 < 256 → ArePieces f full (last ++ y ∷ []) m
  pushed full last y n m are more room = record {
    each = are.each;
    fewer = omega (arith, length-append last (y ∷ []), room);
    counted = omega (arith, more, are.counted, ap length (joined_push full last y), length-append (joined f full last) (y ∷ []));
  }

  -- the last ones become a piece, with one more
  flat_push : (full : List X) (piece : X) → flat_map f (full ++ piece ∷ []) ≡ flat_map f full ++ f piece
  flat_push [] piece = append-nil (f piece)
  flat_push (p ∷ ps) piece = ap (λ l. f p ++ l) (flat_push ps piece) ∙ sym (append_assoc (f p) (flat_map f ps) (f piece))

  all_push : (full : List X) (piece : X) → AllByRecursion (λ p. length (f p) ≡ 256) full → length (f piece) ≡ 256 → AllByRecursion (λ p. length (f p) ≡ 256) (full ++ piece ∷ [])
  all_push [] piece all is = (is, tt)
  all_push (p ∷ ps) piece all is = (all.0, all_push ps piece all.1 is)

  pub joined_fill : (full : List X) (last : List A) (piece : X) (y : A) → f piece ≡ last ++ y ∷ [] → joined f (full ++ piece ∷ []) [] ≡ joined f full last ++ y ∷ []
  joined_fill full last piece y is =
      append-nil (flat_map f (full ++ piece ∷ [])) ∙ flat_push full piece ∙ ap (λ l. flat_map f full ++ l) is ∙ sym (append_assoc (flat_map f full) last (y ∷ []))

  pub filled : (full : List X) (last : List A) (piece : X) (y : A) (n m : ℕ) → ArePieces f full last n → m ≡ n + 1 → f piece ≡ last ++ y ∷ [] → 256 ≤ length last + 1 → ArePieces f (full ++ piece ∷ []) [] m
  filled full last piece y n m are more is long = record {
    each = all_push full piece are.each (omega (arith, ap length is, length-append last (y ∷ []), long, are.fewer));
    fewer = omega arith;
    counted = omega (arith, more, are.counted, ap length (joined_fill full last piece y is), length-append (joined f full last) (y ∷ []));
  }

-- ---- the same pieces once more

module _ {X Y A : Type 0} (v : X → Y) (h : Y → List A) where
  by_value : (xs : List X) → flat_map (λ p. h (v p)) xs ≡ flat_map h (map v xs)
  by_value [] = refl
  by_value (x ∷ xs) = ap (λ l. h (v x) ++ l) (by_value xs)

  each_value : (xs : List X) → AllByRecursion (λ p. length (h (v p)) ≡ 256) xs → AllByRecursion (λ y. length (h y) ≡ 256) (map v xs)
  each_value [] all = tt
  each_value (x ∷ xs) all = (all.0, each_value xs all.1)

  value_each : (xs : List X) → AllByRecursion (λ y. length (h y) ≡ 256) (map v xs) → AllByRecursion (λ p. length (h (v p)) ≡ 256) xs
  value_each [] all = tt
  value_each (x ∷ xs) all = (all.0, value_each xs all.1)

  module _ (xs ys : List X) (ls ms : List A) (same : map v ys ≡ map v xs) (rest : ms ≡ ls) where
    pub same_joined : joined (λ p. h (v p)) ys ms ≡ joined (λ p. h (v p)) xs ls
    same_joined = (λ i. (by_value ys ∙ ap (flat_map h) same ∙ sym (by_value xs)) i ++ rest i)

    pub same_pieces : (n m : ℕ) → ArePieces (λ p. h (v p)) xs ls n → m ≡ n → ArePieces (λ p. h (v p)) ys ms m
    same_pieces n m are count = record {
      each = value_each ys (subst (AllByRecursion (λ y. length (h y) ≡ 256)) (sym same) (each_value xs are.each));
      fewer = omega (arith, are.fewer, ap length rest);
      counted = count ∙ are.counted ∙ ap length (sym same_joined);
    }

-- ---- walking over the entries

module _ {X A : Type 0} (f : X → List A) where
  -- the values of one piece more
  pub flat_more : (before : List X) (x : X) (so : List A) (start : List A) → so ≡ start ++ flat_map f before → so ++ f x ≡ start ++ flat_map f (before ++ x ∷ [])
  flat_more before x so start is =
      ap (λ l. l ++ f x) is ∙ append_assoc start (flat_map f before) (f x) ∙ ap (λ l. start ++ l) (sym (flat_push f before x))

-- some of the entries, from the first on
pub part_added : {X A : Type 0} (f : X → A) (old now : List A) (k : ℕ) (xs : List X) → now ≡ old ++ map f (take k xs) → IsPrefix now (old ++ map f xs)
part_added f old now k xs is = (
  map f (drop k xs),
  ap (λ l. l ++ map f (drop k xs)) is ∙ append_assoc old (map f (take k xs)) (map f (drop k xs))
      ∙ ap (λ l. old ++ l) (sym (map-append f (take k xs) (drop k xs)) ∙ ap (map f) (take-append-drop k xs)),
)
