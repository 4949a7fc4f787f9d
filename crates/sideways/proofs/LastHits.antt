-- The last hits of the segments, found from the last segment on.
use Rattle.std.proofs.Common.{◌≡◌, ℕ, zero, suc, ◌+◌, ◌-◌, ◌<◌, ◌≤◌, ◌⊎◌, inl, inr, Bool, true, false, List, [], ◌∷◌, ◌++◌, length, take, drop, reverse, map, min, get_or, refl, sym, ap, subst, ◌∙◌, arith, append_assoc}
use Rattle.std.specs.Prelude.{cond, filter, sum_by}
use Rattle.std.specs.List.{enumerate_from, AllZip}
use Rattle.std.proofs.lemmas.List.{append-nil, drop-take, drop_more, get_or-map, length-append, length-reverse, map_push, reverse-append, take-append-le, take-take, take_all, take_more}
use Rattle.std.proofs.lemmas.List.Sums.{sum_by-cons}
use Rattle.std.proofs.Math.Seq.{take-append-add}
use Rattle.facet_model.specs.CountedPaths.{places}
use Rattle.facet_model.specs.Documents.{Doc}
use Rattle.facet_model.specs.Flags.{Config}
use Rattle.facet_model.specs.Stored.{Decodes, Records, IsSegmentOf, alive, live_before, live_docs}
use Rattle.live_records.proofs.Alive.{length_alive}
use Rattle.query_eval.proofs.Marks.{places_from}
use Rattle.sideways.specs.Counted.{AreLast, ArePartsOf, IsPartOf, PartLeft, live_in, placed, ranks_from}
use Rattle.sideways.proofs.Decoded.{all_placed, from_join, terms_are}
use Rattle.sideways.proofs.Placed.{sum_push, take_few}

-- ---- the last of a list

reverse_push : {A : Type 0} (xs : List A) (x : A) → reverse (xs ++ x ∷ []) ≡ x ∷ reverse xs
reverse_push xs x = reverse-append xs (x ∷ [])

reverse_first : {A : Type 0} (x : A) (xs : List A) → reverse (x ∷ xs) ≡ reverse xs ++ x ∷ []
reverse_first x xs = reverse-append (x ∷ []) xs

pub reverse_map : {A B : Type 0} (f : A → B) (xs : List A) → reverse (map f xs) ≡ map f (reverse xs)
reverse_map f [] = refl
reverse_map f (x ∷ xs) = reverse_first (f x) (map f xs) ∙ ap (λ l. l ++ f x ∷ []) (reverse_map f xs) ∙ sym (map_push f (reverse xs) x) ∙ sym (ap (map f) (reverse_first x xs))

take_length : {A : Type 0} (n : ℕ) (xs : List A) → length (take n xs) ≤ n
take_length zero xs = omega arith
take_length (suc n) [] = omega arith
take_length (suc n) (x ∷ xs) = omega (arith, take_length n xs)

take_short : {A : Type 0} (n : ℕ) (xs : List A) → length (take n xs) < n → take n xs ≡ xs
take_short zero xs lt = absurd (omega arith)
take_short (suc n) [] lt = refl
take_short (suc n) (x ∷ xs) lt = ap (λ l. x ∷ l) (take_short n xs (omega arith))

-- without the first of them, one fewer from behind
reverse_rest : {A : Type 0} (xs : List A) → reverse (drop 1 xs) ≡ take (length xs - 1) (reverse xs)
reverse_rest [] = refl
reverse_rest (x ∷ xs) =
    sym (take-append-le (length xs) (reverse xs) (x ∷ []) (omega (arith, length-reverse xs)) ∙ take_all (length xs) (reverse xs) (omega (arith, length-reverse xs)))
    ∙ (let e : length xs ≡ length (x ∷ xs) - 1 = omega arith in ap (λ n. take n (reverse xs ++ x ∷ [])) e)
    ∙ ap (take (length (x ∷ xs) - 1)) (sym (reverse_first x xs))

-- with one place more, the last are those, or those without the first of them
pub last_more : (most : ℕ) (before last : List ℕ) (place : ℕ) → 0 < most → length last < most → AreLast most before last → AreLast most (before ++ place ∷ []) (last ++ place ∷ [])
last_more zero before last place some short are = absurd (omega arith)
last_more (suc m) before last place some short are =
    let few : length (take (suc m) (reverse before)) < suc m = omega (arith, ap length are, length-reverse last) in
    let whole : take (suc m) (reverse before) ≡ reverse before = take_short (suc m) (reverse before) few in
    let all : take m (reverse before) ≡ reverse before = take_all m (reverse before) (omega (arith, ap length whole, few)) in
    reverse_push last place ∙ ap (λ l. place ∷ l) (are ∙ whole ∙ sym all) ∙ ap (take (suc m)) (sym (reverse_push before place))

pub last_moved : (most : ℕ) (before last : List ℕ) (place : ℕ) → 0 < most → most ≤ length last → AreLast most before last → AreLast most (before ++ place ∷ []) (drop 1 last ++ place ∷ [])
last_moved zero before last place some full are = absurd (omega arith)
last_moved (suc m) before last place some full are =
    let long : length last ≡ suc m = omega (arith, ap length are, length-reverse last, take_length (suc m) (reverse before), full) in
    let fewer : length last - 1 ≡ m = omega (arith, long) in
    reverse_push (drop 1 last) place
    ∙ ap (λ l. place ∷ l) (reverse_rest last ∙ (λ i. take (fewer i) (are i)) ∙ take-take m (suc m) (reverse before) (omega arith))
    ∙ ap (take (suc m)) (sym (reverse_push before place))

-- ---- the last places of a part, from the last one on

-- one more of them is noted
pub noted_back : (base : ℕ) (segment : Records) (start kept new old left : List ℕ) (place rank : ℕ) → start ≡ kept ++ reverse (ranks_from base segment old) → old ≡ left ++ place ∷ [] → rank ≡ live_before segment.dead place → new ≡ kept ++ (base + rank) ∷ [] → start ≡ new ++ reverse (ranks_from base segment left)
noted_back base segment start kept new old left place rank is split ranked pushed =
    is
    ∙ ap (λ xs. kept ++ reverse (ranks_from base segment xs)) split
    ∙ ap (λ xs. kept ++ reverse xs) (map_push (λ n. base + live_before segment.dead n) left place)
    ∙ ap (λ xs. kept ++ xs) (reverse_push (ranks_from base segment left) (base + live_before segment.dead place))
    ∙ sym (append_assoc kept ((base + live_before segment.dead place) ∷ []) (reverse (ranks_from base segment left)))
    ∙ ap (λ n. (kept ++ (base + n) ∷ []) ++ reverse (ranks_from base segment left)) (sym ranked)
    ∙ ap (λ xs. xs ++ reverse (ranks_from base segment left)) (sym pushed)

-- all of them are noted
pub all_noted_back : (base limit : ℕ) (segment : Records) (kept new left last : List ℕ) → length kept < limit → AreLast (limit - length kept) left last → kept ++ reverse (ranks_from base segment last) ≡ new → new ≡ take limit (kept ++ reverse (ranks_from base segment left))
all_noted_back base limit segment kept new left last fewer are is =
    let r : ℕ → ℕ = λ n. base + live_before segment.dead n in
    let more = limit - length kept in
    sym is
    ∙ ap (λ xs. kept ++ xs) (reverse_map r last ∙ ap (map r) are ∙ map_take r more (reverse left) ∙ ap (take more) (sym (reverse_map r left)))
    ∙ sym (take-append-add kept (reverse (ranks_from base segment left)) more)
    ∙ (let e : length kept + more ≡ limit = omega (arith, fewer) in ap (λ n. take n (kept ++ reverse (ranks_from base segment left))) e)
  where
    map_take : {A B : Type 0} (f : A → B) (n : ℕ) (xs : List A) → map f (take n xs) ≡ take n (map f xs)
    map_take f zero xs = refl
    map_take f (suc n) [] = refl
    map_take f (suc n) (x ∷ xs) = ap (λ l. f x ∷ l) (map_take f n xs)

-- ---- from segment to segment

-- the segment at a place
pub record_there : {A : Type 0} (value : A → Records) (xs : List A) (i : ℕ) (x : A) → i < length xs → x ≡ get_or xs i x → value x ≡ get_or (map value xs) i (value x)
record_there value xs i x lt is = ap value is ∙ sym (get_or-map value xs i x (value x) lt)

-- with the next segment there are no more live records than in all
pub live_to : {A : Type 0} (value : A → Records) (xs : List A) (i : ℕ) (x : A) → i < length xs → x ≡ get_or xs i x → sum_by live_in (map value (take i xs)) + live_in (value x) ≤ sum_by live_in (map value xs)
live_to value [] i x lt is = absurd (omega arith)
live_to value (y ∷ ys) zero x lt is = omega (arith, sum_by-cons live_in (value y) (map value ys), ap (λ z. live_in (value z)) is)
live_to value (y ∷ ys) (suc i) x lt is = omega (arith, sum_by-cons live_in (value y) (map value (take i ys)), sum_by-cons live_in (value y) (map value ys), live_to value ys i x (omega arith) is)

-- The last hits were found, as far as they lie in the segments from one on.
pub record IsFoundFrom (at base limit : ℕ) (test : Doc → Bool) (segments : List Records) (kept : List ℕ) : Type 0 where
  pub within : at ≤ length segments
  pub parts : List PartLeft
  pub are : ArePartsOf test (drop at segments) parts
  pub sum : base ≡ sum_by live_in (take at segments)
  pub last : kept ≡ take limit (reverse (placed base parts))

pub none_found : (limit : ℕ) (test : Doc → Bool) (segments : List Records) (at base : ℕ) → at ≡ length segments → base ≡ sum_by live_in segments → IsFoundFrom at base limit test segments []
none_found limit test segments at base is sum = record {
  within = omega (arith, is);
  parts = [];
  are = subst (λ ss. ArePartsOf test ss []) (sym (past at segments is)) tt;
  sum = sum ∙ ap (sum_by live_in) (sym (take_all at segments (omega (arith, is))));
  last = none limit;
}
  where
    past : {A : Type 0} (n : ℕ) (xs : List A) → n ≡ length xs → drop n xs ≡ []
    past zero [] e = refl
    past zero (x ∷ xs) e = absurd (omega arith)
    past (suc n) [] e = refl
    past (suc n) (x ∷ xs) e = past n xs (omega arith)

    none : (n : ℕ) → [] ≡ take n (let l : List ℕ = [] in l)
    none zero = refl
    none (suc n) = refl

-- what was cut off is cut off again
take_cut : {A : Type 0} (limit : ℕ) (xs ys : List A) → take limit (take limit xs ++ ys) ≡ take limit (xs ++ ys)
take_cut zero xs ys = refl
take_cut (suc n) [] ys = refl
take_cut (suc n) (x ∷ xs) ys = ap (λ l. x ∷ l) (take_cut n xs ys)

-- the segment before
pub found_more : (at base limit : ℕ) (test : Doc → Bool) (segments : List Records) (kept new : List ℕ) (segment : Records) (part : PartLeft) → IsFoundFrom (at + 1) base limit test segments kept → segment ≡ get_or segments at segment → IsPartOf test segment part
    → new ≡ take limit (kept ++ reverse (ranks_from (base - live_in segment) part.segment part.left)) → IsFoundFrom at (base - live_in segment) limit test segments new
found_more at base limit test segments kept new segment part found here is pushed = record {
  within = omega (arith, found.within);
  parts = part ∷ found.parts;
  are = subst (λ ss. ArePartsOf test ss (part ∷ found.parts)) (sym (drop_more segments at segment lt ∙ ap (λ s. s ∷ drop (at + 1) segments) (sym here))) (is, found.are);
  sum = omega (arith, sum);
  last = pushed
      ∙ ap (λ xs. take limit (xs ++ reverse own)) found.last
      ∙ take_cut limit (reverse (placed base found.parts)) (reverse own)
      ∙ ap (take limit) (sym (reverse-append own (placed base found.parts)))
      ∙ ap (λ n. take limit (reverse (own ++ placed n found.parts))) after;
}
  where
    lt : at < length segments
    lt = omega (arith, found.within)

    own : List ℕ
    own = ranks_from (base - live_in segment) part.segment part.left

    sum : base ≡ sum_by live_in (take at segments) + live_in segment
    sum = found.sum ∙ ap (sum_by live_in) (take_more segments at segment lt ∙ ap (λ s. take at segments ++ s ∷ []) (sym here)) ∙ sum_push live_in (take at segments) segment

    after : base ≡ (base - live_in segment) + live_in part.segment
    after = omega (arith, sum, ap live_in is.same)

-- the same, by the number of live records that was counted
pub found_before : (at base live limit : ℕ) (test : Doc → Bool) (segments : List Records) (kept new : List ℕ) (segment : Records) (part : PartLeft) → IsFoundFrom (at + 1) base limit test segments kept → segment ≡ get_or segments at segment → IsPartOf test segment part
    → live ≡ live_in segment → new ≡ take limit (kept ++ reverse (ranks_from (base - live) part.segment part.left)) → IsFoundFrom at (base - live) limit test segments new
found_before at base live limit test segments kept new segment part found here is counted pushed =
    subst (λ n. IsFoundFrom at (base - n) limit test segments new) (sym counted) (found_more at base limit test segments kept new segment part found here is (pushed ∙ ap (λ n. take limit (kept ++ reverse (ranks_from (base - n) part.segment part.left))) counted))

-- the next segment has no more live records than are left
pub base_before : (at base limit : ℕ) (test : Doc → Bool) (segments : List Records) (kept : List ℕ) (segment : Records) → IsFoundFrom (at + 1) base limit test segments kept → segment ≡ get_or segments at segment → live_in segment ≤ base
base_before at base limit test segments kept segment found here =
    let lt : at < length segments = omega (arith, found.within) in
    omega (arith, found.sum ∙ ap (sum_by live_in) (take_more segments at segment lt ∙ ap (λ s. take at segments ++ s ∷ []) (sym here)) ∙ sum_push live_in (take at segments) segment)

-- ---- all segments

module _ (known : List (List (List ℕ))) (config : Config) where
  zip_drop : (n : ℕ) (segments : List Records) (pieces : List (List Doc)) → AllZip (IsSegmentOf known config) segments pieces → AllZip (IsSegmentOf known config) (drop n segments) (drop n pieces)
  zip_drop zero segments pieces are = are
  zip_drop (suc n) [] [] are = tt
  zip_drop (suc n) [] (d ∷ ds) are = absurd are
  zip_drop (suc n) (s ∷ ss) [] are = absurd are
  zip_drop (suc n) (s ∷ ss) (d ∷ ds) are = zip_drop n ss ds are.1

  zip_take : (n : ℕ) (segments : List Records) (pieces : List (List Doc)) → AllZip (IsSegmentOf known config) segments pieces → AllZip (IsSegmentOf known config) (take n segments) (take n pieces)
  zip_take zero segments pieces are = tt
  zip_take (suc n) [] [] are = tt
  zip_take (suc n) [] (d ∷ ds) are = absurd are
  zip_take (suc n) (s ∷ ss) [] are = absurd are
  zip_take (suc n) (s ∷ ss) (d ∷ ds) are = (are.0, zip_take n ss ds are.1)

  live_split : (n : ℕ) (segments : List Records) (pieces : List (List Doc)) → AllZip (IsSegmentOf known config) segments pieces → live_docs segments pieces ≡ live_docs (take n segments) (take n pieces) ++ live_docs (drop n segments) (drop n pieces)
  live_split zero segments pieces are = refl
  live_split (suc n) [] [] are = refl
  live_split (suc n) [] (d ∷ ds) are = absurd are
  live_split (suc n) (s ∷ ss) [] are = absurd are
  live_split (suc n) (s ∷ ss) (d ∷ ds) are = ap (λ l. alive s.dead d ++ l) (live_split n ss ds are.1) ∙ sym (append_assoc (alive s.dead d) (live_docs (take n ss) (take n ds)) (live_docs (drop n ss) (drop n ds)))

  -- there are as many live records as documents
  pub live_number : (segments : List Records) (pieces : List (List Doc)) → AllZip (IsSegmentOf known config) segments pieces → sum_by live_in segments ≡ length (live_docs segments pieces)
  live_number [] [] are = refl
  live_number [] (d ∷ ds) are = absurd are
  live_number (s ∷ ss) [] are = absurd are
  live_number (s ∷ ss) (d ∷ ds) are =
      let here : live_in s ≡ length (alive s.dead d) = ap (live_before s.dead) (terms_are known config s d are.0).records ∙ sym (length_alive s.dead d) in
      omega (arith, sum_by-cons live_in s ss, here, live_number ss ds are.1, length-append (alive s.dead d) (live_docs ss ds))

-- enough of xs were taken, or there is nothing behind it
cut_there : {A : Type 0} (limit : ℕ) (xs ys kept : List A) → kept ≡ take limit xs → (limit ≤ length kept) ⊎ (ys ≡ []) → kept ≡ take limit (xs ++ ys)
cut_there limit xs ys kept is (inl full) = is ∙ sym (take-append-le limit xs ys (long limit xs (omega (arith, ap length is, full))))
  where
    long : {A : Type 0} (n : ℕ) (zs : List A) → n ≤ length (take n zs) → n ≤ length zs
    long zero zs le = omega arith
    long (suc n) [] le = absurd (omega arith)
    long (suc n) (z ∷ zs) le = omega (arith, long n zs (omega arith))
cut_there limit xs ys kept is (inr none) = is ∙ ap (take limit) (sym (append-nil xs) ∙ ap (λ l. xs ++ l) (sym none))

-- the last hits of all segments were found
pub found_all : (at base limit : ℕ) (test : Doc → Bool) (segments : List Records) (kept : List ℕ) → IsFoundFrom at base limit test segments kept → (limit ≤ length kept) ⊎ (at ≡ 0)
    → (known : List (List (List ℕ))) (config : Config) (docs : List Doc) → Decodes known config segments docs → kept ≡ take limit (reverse (places test docs))
found_all at base limit test segments kept found ends known config docs decodes =
    cut_there limit (reverse (placed base found.parts)) (reverse first) kept found.last (over ends)
    ∙ ap (take limit) (sym (reverse-append first (placed base found.parts)) ∙ ap reverse (sym whole))
  where
    pieces : List (List Doc)
    pieces = decodes.0

    before : List Doc
    before = live_docs (take at segments) (take at pieces)

    behind : List Doc
    behind = live_docs (drop at segments) (drop at pieces)

    first : List ℕ
    first = places_from 0 test before

    base_is : base ≡ 0 + length before
    base_is = omega (arith, found.sum, live_number known config (take at segments) (take at pieces) (zip_take known config at segments pieces decodes.1))

    later : placed base found.parts ≡ places_from (0 + length before) test behind
    later = all_placed known config test base (drop at segments) found.parts (drop at pieces) found.are (zip_drop known config at segments pieces decodes.1) ∙ ap (λ n. places_from n test behind) base_is

    whole : places test docs ≡ first ++ placed base found.parts
    whole = ap (places test) (decodes.2 ∙ live_split known config at segments pieces decodes.1) ∙ from_join known config test 0 before behind ∙ ap (λ l. first ++ l) (sym later)

    over : (limit ≤ length kept) ⊎ (at ≡ 0) → (limit ≤ length kept) ⊎ (reverse first ≡ [])
    over (inl full) = inl full
    over (inr none) = inr (ap (λ n. reverse (places_from 0 test (live_docs (take n segments) (take n pieces)))) none)

-- ---- those that are listed

places_most : (k : ℕ) (test : Doc → Bool) (docs : List Doc) → length (places_from k test docs) ≤ length docs
places_most k test [] = omega arith
places_most k test (d ∷ ds) = by (test d) (places_most (k + 1) test ds)
  where
    by : (b : Bool) → length (places_from (k + 1) test ds) ≤ length ds
        → length (map (λ e. e.0) (cond b ((k, d) ∷ filter (λ e. test e.1) (enumerate_from (k + 1) ds)) (filter (λ e. test e.1) (enumerate_from (k + 1) ds)))) ≤ suc (length ds)
    by true rest = omega (arith, rest)
    by false rest = omega (arith, rest)

-- those that are passed are left out
pub listed_back : (from hits limit : ℕ) (test : Doc → Bool) (docs : List Doc) (kept : List ℕ) → length docs ≤ 1000000 → limit ≡ min (from + hits) 1000000 → kept ≡ take limit (reverse (places test docs)) → drop from kept ≡ take hits (drop from (reverse (places test docs)))
listed_back from hits limit test docs kept few limited is =
    ap (drop from) (is ∙ ap (λ n. take n (reverse (places test docs))) limited ∙ take_few (from + hits) 1000000 (reverse (places test docs)) (omega (arith, length-reverse (places test docs), places_most 0 test docs, few)))
    ∙ drop-take from hits (reverse (places test docs))
