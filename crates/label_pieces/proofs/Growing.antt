-- Pieces of a list of which more labels come.
use Rattle.std.proofs.Common.{◌≡◌, ◌⊎◌, inl, inr, ℕ, ◌+◌, ◌-◌, ◌*◌, ◌/◌, ◌%◌, ◌<◌, ◌≤◌, List, [], ◌∷◌, ◌++◌, length, take, drop, append_assoc, refl, sym, ap, subst, ◌∙◌, arith}
use mathlib.Core.List.{IsPrefix}
use Rattle.std.specs.List.{slice_range}
use Rattle.std.proofs.Math.Nat.{mod-lt}
use Rattle.std.proofs.Math.Seq.{take-add}
use Rattle.std.proofs.lemmas.Bool.{cases_lt}
use Rattle.std.proofs.lemmas.Nat.{div-add-mod'}
use Rattle.std.proofs.lemmas.List.{length-append, length-take-le, append-nil, take_all, take_at, take-append-drop, take-append-le, take-take}
use Rattle.std.proofs.lemmas.List.Concat.{flat_map-append}
use Rattle.label_pieces.specs.Pieces.{joined, IsCut, AreLabelPieces}

-- The pieces so far have the labels up to a place. If a multiple of 4,096 is still to come, all of them are full.
pub record AreSoFar {X : Type 0} (pieces : List (List X)) (all : List X) (from : ℕ) : Type 0 where
  pub within : from ≤ length all
  pub labels : joined pieces ≡ take from all
  pub cut : IsCut pieces from
  pub aligned : (k : ℕ) → from < k * 4096 → k * 4096 ≤ length all → from ≡ length pieces * 4096

module _ {X : Type 0} where
  joined_push : (pieces : List (List X)) (piece : List X) → joined (pieces ++ piece ∷ []) ≡ joined pieces ++ piece
  joined_push pieces piece = flat_map-append (λ p. p) pieces (piece ∷ []) ∙ ap (λ l. joined pieces ++ l) (append-nil piece)

  joined_split : (k : ℕ) (pieces : List (List X)) → joined pieces ≡ joined (take k pieces) ++ joined (drop k pieces)
  joined_split k pieces = ap joined (sym (take-append-drop k pieces)) ∙ flat_map-append (λ p. p) (take k pieces) (drop k pieces)

  -- what the pieces from a place on have, and those before it
  pub split_size : (k : ℕ) (pieces : List (List X)) → length (joined pieces) ≡ length (joined (take k pieces)) + length (joined (drop k pieces))
  split_size k pieces = ap length (joined_split k pieces) ∙ length-append (joined (take k pieces)) (joined (drop k pieces))

  -- one piece more
  module _ (pieces : List (List X)) (all : List X) (from to : ℕ) (piece : List X) (so_far : AreSoFar pieces all from) (some : from < to) (within : to ≤ length all) (few : to ≤ from + 4096) (end : (to ≡ length all) ⊎ (to ≡ from + 4096)) (is : piece ≡ slice_range all from to) where
    more_labels : joined (pieces ++ piece ∷ []) ≡ take to all
    more_labels =
        let e : from + (to - from) ≡ to = omega (arith, some) in
        joined_push pieces piece ∙ (λ i. so_far.labels i ++ is i) ∙ sym (take-add from (to - from) all) ∙ ap (λ n. take n all) e

    more_size : length (joined (pieces ++ piece ∷ [])) ≡ to
    more_size = ap length more_labels ∙ length-take-le to all within

    pieces_more : length (pieces ++ piece ∷ []) ≡ length pieces + 1
    pieces_more = length-append pieces (piece ∷ [])

    more_cut : IsCut (pieces ++ piece ∷ []) to
    more_cut k low = by (cases_lt from (k * 4096))
      where
        by : (from < k * 4096) ⊎ (k * 4096 ≤ from) → (k ≤ length (pieces ++ piece ∷ [])) × (length (joined (take k (pieces ++ piece ∷ []))) ≡ k * 4096)
        by (inl past) =
            let full : from ≡ length pieces * 4096 = so_far.aligned k past (omega (arith, low, within)) in
            let next : k ≡ length pieces + 1 = omega (arith, full, past, low, few) in
            let size : to ≡ k * 4096 = omega (arith, full, next, low, few) in
            (omega (arith, next, pieces_more), ap (λ ps. length (joined ps)) (take_all k (pieces ++ piece ∷ []) (omega (arith, next, pieces_more))) ∙ more_size ∙ size)
        by (inr before) =
            let old = so_far.cut k before in
            (omega (arith, old.0, pieces_more), ap (λ ps. length (joined ps)) (take-append-le k pieces (piece ∷ []) old.0) ∙ old.1)

    more_aligned : (k : ℕ) → to < k * 4096 → k * 4096 ≤ length all → to ≡ length (pieces ++ piece ∷ []) * 4096
    more_aligned k past low = by end
      where
        by : (to ≡ length all) ⊎ (to ≡ from + 4096) → to ≡ length (pieces ++ piece ∷ []) * 4096
        by (inl last) = absurd (omega (arith, last, past, low))
        by (inr whole) = let full : from ≡ length pieces * 4096 = so_far.aligned k (omega (arith, some, past)) low in omega (arith, whole, full, pieces_more)

    pub piece_more : AreSoFar (pieces ++ piece ∷ []) all to
    piece_more = record { within = within; labels = more_labels; cut = more_cut; aligned = more_aligned }

  -- the full pieces
  module _ (pieces : List (List X)) (size : ℕ) (are : AreLabelPieces pieces size) where
    full_size : size / 4096 * 4096 + size % 4096 ≡ size
    full_size = div-add-mod' size 4096

    full_low : size % 4096 < 4096
    full_low = mod-lt size (omega arith)

    full_cut : (size / 4096 ≤ length pieces) × (length (joined (take (size / 4096) pieces)) ≡ size / 4096 * 4096)
    full_cut = are.cut (size / 4096) (omega (arith, full_size))

    pub full_within : size / 4096 ≤ length pieces
    full_within = full_cut.0

    -- those behind them, with what comes
    pub tail_few : (all : ℕ) → size ≤ all → all / 4096 ≡ size / 4096 → length (joined (drop (size / 4096) pieces)) + (all - size) < 4096
    tail_few all more same =
        let all_size : all / 4096 * 4096 + all % 4096 ≡ all = div-add-mod' all 4096 in
        let all_low : all % 4096 < 4096 = mod-lt all (omega arith) in
        omega (arith, full_cut.1, split_size (size / 4096) pieces, are.as_many, more, full_size, same, all_size, all_low)

    -- the pieces that stay
    module _ (kept : ℕ) (low : size / 4096 ≤ kept) (within : kept ≤ length pieces) where
      front : take (size / 4096) (take kept pieces) ≡ take (size / 4096) pieces
      front = take-take (size / 4096) kept pieces low

      front_size : length (joined (take kept pieces)) ≡ size / 4096 * 4096 + length (joined (drop (size / 4096) (take kept pieces)))
      front_size = split_size (size / 4096) (take kept pieces) ∙ ap (λ n. n + length (joined (drop (size / 4096) (take kept pieces)))) (ap (λ ps. length (joined ps)) front ∙ full_cut.1)

      -- they have at most 4,095 labels fewer
      pub most_stay : size ≤ length (joined (take kept pieces)) + 4095
      most_stay = omega (arith, front_size, full_size, full_low)

      pub stay_few : length (joined (take kept pieces)) ≤ size
      stay_few = omega (arith, split_size kept pieces, are.as_many)

      module _ (all : List X) (more : IsPrefix (joined pieces) all) where
        pub not_less : size ≤ length all
        not_less = omega (arith, are.as_many, ap length more.1, length-append (joined pieces) more.0)

        all_size : length all / 4096 * 4096 + length all % 4096 ≡ length all
        all_size = div-add-mod' (length all) 4096

        all_low : length all % 4096 < 4096
        all_low = mod-lt (length all) (omega arith)

        pub kept_so_far : (kept ≡ size / 4096) ⊎ (length all / 4096 ≡ size / 4096) → AreSoFar (take kept pieces) all (length (joined (take kept pieces)))
        kept_so_far how = record {
          within = omega (arith, stay_few, not_less);
          labels = sym (take_at (joined (take kept pieces)) (joined (drop kept pieces) ++ more.0) (length (joined (take kept pieces))) refl) ∙ ap (take (length (joined (take kept pieces)))) whole;
          cut = cut;
          aligned = λ j past end. aligned j past end how;
        }
          where
            whole : joined (take kept pieces) ++ (joined (drop kept pieces) ++ more.0) ≡ all
            whole = sym (append_assoc (joined (take kept pieces)) (joined (drop kept pieces)) more.0) ∙ ap (λ l. l ++ more.0) (sym (joined_split kept pieces)) ∙ more.1

            cut : IsCut (take kept pieces) (length (joined (take kept pieces)))
            cut j le =
                let old = are.cut j (omega (arith, le, stay_few)) in
                let j_low : j ≤ kept = omega (arith, le, stay_few, full_size, full_low, low) in
                (omega (arith, j_low, length-take-le kept pieces within), ap (λ ps. length (joined ps)) (take-take j kept pieces j_low) ∙ old.1)

            aligned : (j : ℕ) → length (joined (take kept pieces)) < j * 4096 → j * 4096 ≤ length all → (kept ≡ size / 4096) ⊎ (length all / 4096 ≡ size / 4096) → length (joined (take kept pieces)) ≡ length (take kept pieces) * 4096
            aligned j past end (inl full) = ap (λ n. length (joined (take n pieces))) full ∙ full_cut.1 ∙ ap (λ n. n * 4096) (sym full ∙ sym (length-take-le kept pieces within))
            aligned j past end (inr same) = absurd (omega (arith, past, end, front_size, same, all_size, all_low))

  -- the pieces of all labels
  module _ (pieces : List (List X)) (all : List X) (from : ℕ) (so_far : AreSoFar pieces all from) (end : length all ≤ from) where
    pub all_labels : joined pieces ≡ all
    all_labels = so_far.labels ∙ take_all from all end

    pub all_pieces : length all < 1000000 → AreLabelPieces pieces (length all)
    all_pieces few =
        let same : from ≡ length all = omega (arith, end, so_far.within) in
        record { as_many = sym (ap length all_labels); few = few; cut = subst (IsCut pieces) same so_far.cut }
