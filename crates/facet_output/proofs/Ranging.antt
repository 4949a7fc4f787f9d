-- Ranges and sums, told by the definitions. Then replies that are wrong.
use Rattle.std.proofs.Common.{◌≡◌, ◌∙◌, ℕ, zero, suc, ℤ, pos, negsuc, Bool, true, false, List, [], ◌∷◌, length, refl, sym, ap, subst, inl, inr, ⊎_elim, arith}
use Rattle.std.specs.Prelude.{codes, count_by, if◌then◌else◌, nat_lt, map, slice_get, unwrap_or, Option, Some, None}
use Rattle.std.specs.Str.{bytes_eq}
use Rattle.std.specs.List.Sorted.{IsSorted}
use Rattle.std.specs.Cmp.Lexicographic.{bytes_decides, nat_list_eq_equiv}
use Rattle.std.proofs.lemmas.List.Elements.{All-from_recursion}
use Rattle.facet_model.specs.Documents.{Doc}
use Rattle.facet_model.specs.Histories.{Operation}
use Rattle.facet_model.specs.Queries.{all}
use Rattle.facet_model.proofs.Samples.{doc}
use Rattle.number_facets.specs.Values.{Range, PartSum, AreSums, int_sum, sums_cmp, weights}
use Rattle.facet_words.specs.Answers.{ranged_of}
use Rattle.facet_words.specs.Commands.{Counted, Command, ranges, sums}
use Rattle.facet_replies.specs.Replies.{Reply, ranged, summed, refused, not_held, top_zero, no_memory}
use Rattle.facet_output.specs.Replying.{RightReply}
use Rattle.facet_output.proofs.Samples.{answer, by_one, plain_settings}

-- ---- two documents with prices and with numbers of pieces

abbrev price : List ℕ → List (List ℕ)
price text = codes "price" ∷ text ∷ []

abbrev pieces : List ℕ → List ℕ → List (List ℕ)
pieces part text = codes "pieces" ∷ part ∷ text ∷ []

-- it has two prices, and one label twice
abbrev cup : Doc
cup = doc (codes "c1") (price (codes "10") ∷ price (codes "20") ∷ pieces (codes "cup") (codes "3") ∷ pieces (codes "cup") (codes "3") ∷ pieces (codes "lid") (codes "2") ∷ [])

-- it has one price, a price that is no number, and a sum that is less than 0
abbrev mug : Doc
mug = doc (codes "m1") (price (codes "20") ∷ price (codes "free") ∷ pieces (codes "mug") (codes "-7") ∷ pieces (codes "lid") (codes "-2") ∷ [])

abbrev both : List Doc
both = cup ∷ mug ∷ []

abbrev history : List Operation
history = by_one cup ∷ by_one mug ∷ []

abbrev in_dimension : List ℕ → Counted
in_dimension dim = record { query = all; drill = []; dim = dim }

abbrev range : List ℕ → ℤ → ℤ → Bool → Bool → Range
range name min max min_open max_open = record { name = name; min = min; max = max; min_open = min_open; max_open = max_open }

-- ---- ranges

-- from 10 to 20, above 10, below 20, and a range without numbers
abbrev asked : List Range
asked = range (codes "all") (pos 10) (pos 20) false false ∷ range (codes "above") (pos 10) (pos 20) true false ∷ range (codes "below") (pos 10) (pos 20) false true
    ∷ range (codes "none") (pos 20) (pos 10) false false ∷ []

abbrev told : List (List ℕ × ℕ) → ℕ → Reply
told counts valued = ranged (record { operations = 2; counts = counts; valued = valued })

-- a document with two values in a range counts once
abbrev right_counts : List (List ℕ × ℕ)
right_counts = (codes "all", 2) ∷ (codes "above", 2) ∷ (codes "below", 1) ∷ (codes "none", 0) ∷ []

counted : ranged_of 2 both (in_dimension (codes "price")) asked ≡ told right_counts 2
counted = refl

-- where no document has a number, nothing is counted
none_counted : ranged_of 2 both (in_dimension (codes "weight")) (range (codes "all") (negsuc 9) (pos 9) false false ∷ []) ≡ told ((codes "all", 0) ∷ []) 0
none_counted = refl

abbrev price_ranges : Option (List ℕ) → Command
price_ranges on = ranges on (in_dimension (codes "price")) asked

-- the last pair, a pair that is held, and a name under which nothing is held
of_last : RightReply plain_settings [] history [] (answer 4 (price_ranges None) (Some (2, 9)) (told right_counts 2))
of_last = inl refl

of_held : RightReply plain_settings [] history ((codes "a", (1, 5)) ∷ []) (answer 4 (price_ranges (Some (codes "a"))) None
    (ranged (record { operations = 1; counts = (codes "all", 1) ∷ (codes "above", 1) ∷ (codes "below", 1) ∷ (codes "none", 0) ∷ []; valued = 1 })))
of_held = inl refl

of_nothing : RightReply plain_settings [] history [] (answer 4 (price_ranges (Some (codes "a"))) None (refused not_held))
of_nothing = inl refl

lacks_memory : RightReply plain_settings [] history [] (answer 4 (price_ranges None) None (refused no_memory))
lacks_memory = inr (refl, refl)

-- ---- wrong ranges

abbrev IsRightRanges : Reply → Type 0
IsRightRanges reply = RightReply plain_settings [] history [] (answer 4 (price_ranges None) (Some (2, 9)) reply)

-- the count of a range, and the number of documents with a value
abbrev count_at : ℕ → Reply → ℕ
count_at k (ranged r) = unwrap_or (slice_get (map (λ (c : List ℕ × ℕ). c.1) r.counts) k) 0
count_at k _ = 0

abbrev valued_in : Reply → ℕ
valued_in (ranged r) = r.valued
valued_in _ = 0

-- a document that counts once for each of its values
counted_twice : ¬ IsRightRanges (told ((codes "all", 3) ∷ (codes "above", 2) ∷ (codes "below", 1) ∷ (codes "none", 0) ∷ []) 2)
counted_twice r = ⊎_elim (λ right. let e : 3 ≡ 2 = ap (count_at 0) right in omega (arith, e)) (λ lacks. let e = lacks.1 in cc) r

-- an open end that is counted
closed_end : ¬ IsRightRanges (told ((codes "all", 2) ∷ (codes "above", 2) ∷ (codes "below", 2) ∷ (codes "none", 0) ∷ []) 2)
closed_end r = ⊎_elim (λ right. let e : 2 ≡ 1 = ap (count_at 2) right in omega (arith, e)) (λ lacks. let e = lacks.1 in cc) r

-- values that are counted in place of documents
valued_twice : ¬ IsRightRanges (told right_counts 3)
valued_twice r = ⊎_elim (λ right. let e : 3 ≡ 2 = ap valued_in right in omega (arith, e)) (λ lacks. let e = lacks.1 in cc) r

-- ---- sums

-- a repeated label counts each time, and a component is listed although its sum is 0 or less
abbrev all_sums : List PartSum
all_sums = (codes "cup", pos 6) ∷ (codes "lid", pos 0) ∷ (codes "mug", negsuc 6) ∷ []

-- how often a component is listed where it is to be listed
abbrev IsListedOnce : List ℕ → Type 0
IsListedOnce part = count_by (λ (c : PartSum). bytes_eq part c.0) all_sums ≡ (if nat_lt 0 (length (weights both (codes "pieces") part)) then 1 else 0)

flipped : (xs ys : List ℕ) → bytes_eq xs ys ≡ false → bytes_eq ys xs ≡ false
flipped xs ys apart = nat_list_eq_equiv.symm ys xs ∙ apart

each_once : (part : List ℕ) → IsListedOnce part
each_once part = by_cup (bytes_eq part (codes "cup")) refl
  where
    others : bytes_eq part (codes "cup") ≡ false → bytes_eq part (codes "lid") ≡ false → bytes_eq part (codes "mug") ≡ false → IsListedOnce part
    others c l m = rw (c, l, m, flipped part (codes "cup") c, flipped part (codes "lid") l, flipped part (codes "mug") m) refl

    by_mug : (b : Bool) → bytes_eq part (codes "mug") ≡ b → bytes_eq part (codes "cup") ≡ false → bytes_eq part (codes "lid") ≡ false → IsListedOnce part
    by_mug true e c l = subst IsListedOnce (sym ((bytes_decides part (codes "mug")).0 e)) refl
    by_mug false e c l = others c l e

    by_lid : (b : Bool) → bytes_eq part (codes "lid") ≡ b → bytes_eq part (codes "cup") ≡ false → IsListedOnce part
    by_lid true e c = subst IsListedOnce (sym ((bytes_decides part (codes "lid")).0 e)) refl
    by_lid false e c = by_mug (bytes_eq part (codes "mug")) refl c e

    by_cup : (b : Bool) → bytes_eq part (codes "cup") ≡ b → IsListedOnce part
    by_cup true e = subst IsListedOnce (sym ((bytes_decides part (codes "cup")).0 e)) refl
    by_cup false e = by_lid (bytes_eq part (codes "lid")) refl e

ordered : IsSorted sums_cmp all_sums
ordered zero d low high = refl
ordered (suc zero) d low high = refl
ordered (suc (suc k)) d low high = absurd (omega (arith, high))

abbrev IsSum : PartSum → Type 0
IsSum c = c.1 ≡ int_sum (weights both (codes "pieces") c.0)

are_sums : AreSums both (codes "pieces") all_sums
are_sums = record { each_once = each_once; summed = All-from_recursion IsSum all_sums (refl, (refl, (refl, tt))); ordered = ordered }

abbrev piece_sums : Option (List ℕ) → ℕ → Command
piece_sums on n = sums on (in_dimension (codes "pieces")) n

first_sums : RightReply plain_settings [] history [] (answer 5 (piece_sums None 2) (Some (2, 9)) (summed (record { operations = 2; sums = (codes "cup", pos 6) ∷ (codes "lid", pos 0) ∷ [] })))
first_sums = inl ((codes "cup", pos 6) ∷ (codes "lid", pos 0) ∷ [], (all_sums, are_sums, refl), refl)

-- no sums are asked for; where nothing is held under the name, this comes first
top_of_none : RightReply plain_settings [] history [] (answer 5 (piece_sums None 0) (Some (2, 9)) (refused (top_zero 0)))
top_of_none = inl refl

top_of_nothing : RightReply plain_settings [] history [] (answer 5 (piece_sums (Some (codes "a")) 0) None (refused not_held))
top_of_nothing = inl refl

top_of_one : ¬ RightReply plain_settings [] history [] (answer 5 (piece_sums None 1) (Some (2, 9)) (refused (top_zero 0)))
top_of_one r = ⊎_elim (λ right. let e = right.2 in cc) (λ lacks. let e = lacks.1 in cc) r
