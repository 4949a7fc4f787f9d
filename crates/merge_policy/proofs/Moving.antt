-- How often documents are moved.
use Rattle.std.proofs.Common.{◌≡◌, ◌⊎◌, inl, inr, ℕ, suc, ◌+◌, ◌*◌, ◌^◌, ◌<◌, ◌≤◌, max, Bool, true, false, cond, List, [], ◌∷◌, ◌++◌, refl, sym, ap, subst, ◌∙◌, arith}
use Rattle.std.specs.List.{AllByRecursion}
use Rattle.std.specs.Prelude.{sum, fold, nat_le}
use Rattle.std.proofs.Math.Nat.{pow-succ', mul-le-mul_left, le-max_left, le-max_right}
use Rattle.std.proofs.lemmas.Bool.{leb-true, leb-false, cases_lt}
use Rattle.std.proofs.lemmas.List.Sums.{sum_by-cons, sum_by-append}
use Rattle.merge_policy.specs.Tiers.{IsSome, IsTiered, first_small, merged_from}
use Rattle.merge_policy.specs.Moving.{Tiers, sizes_in, sizes_of, most_moves, merged, added, kept, work_of, IsSeldom}
use Rattle.merge_policy.proofs.Tiers.{sum-cons, one_before}

abbrev Segments : Type 0
Segments = List (ℕ × ℕ)

abbrev IsSomeSegment : ℕ × ℕ → Type 0
IsSomeSegment s = 1 ≤ s.0

-- ---- the sizes

abbrev whole : Segments → ℕ
whole l = sum (sizes_in l)

-- what becomes of the first segment and those behind it
abbrev next : ℕ × ℕ → Segments → Bool → Tiers
next s ss b = cond {A = Tiers} b (record { segments = s ∷ (merged ss).segments; work = (merged ss).work })
    (record { segments = (s.0 + whole ss, most_moves (s ∷ ss) + 1) ∷ []; work = s.0 + whole ss })

sum_merged : (l : Segments) → whole (merged l).segments ≡ whole l
sum_merged [] = refl
sum_merged (s ∷ ss) = by (nat_le (whole ss) (3 * s.0)) (sum_merged ss)
  where
    by : (b : Bool) → whole (merged ss).segments ≡ whole ss → whole (next s ss b).segments ≡ whole (s ∷ ss)
    by true rest = sum-cons s.0 (sizes_in (merged ss).segments) ∙ ap (λ n. s.0 + n) rest ∙ sym (sum-cons s.0 (sizes_in ss))
    by false rest = sum-cons (s.0 + whole ss) [] ∙ omega (arith, sum-cons s.0 (sizes_in ss))

tiered : (l : Segments) → IsTiered (sizes_in (merged l).segments)
tiered [] = tt
tiered (s ∷ ss) = by (nat_le (whole ss) (3 * s.0)) refl (tiered ss)
  where
    by : (b : Bool) → nat_le (whole ss) (3 * s.0) ≡ b → IsTiered (sizes_in (merged ss).segments) → IsTiered (sizes_in (next s ss b).segments)
    by true is rest = one_before s.0 (sizes_in ss) (sizes_in (merged ss).segments) (sum_merged ss) (leb-true (whole ss) (3 * s.0) is) rest
    by false is rest = (omega arith, tt)

-- they are what the policy names
pub follows : (l : Segments) → sizes_in (merged l).segments ≡ merged_from (first_small (sizes_in l)) (sizes_in l)
follows [] = refl
follows (s ∷ ss) = by (nat_le (whole ss) (3 * s.0)) (follows ss)
  where
    by : (b : Bool) → sizes_in (merged ss).segments ≡ merged_from (first_small (sizes_in ss)) (sizes_in ss) → sizes_in (next s ss b).segments ≡ merged_from (cond b (suc (first_small (sizes_in ss))) 0) (sizes_in (s ∷ ss))
    by true rest = ap (λ l. s.0 ∷ l) rest
    by false rest = ap (λ n. n ∷ []) (sym (sum-cons s.0 (sizes_in ss)))

some : (l : Segments) → AllByRecursion IsSomeSegment l → AllByRecursion IsSomeSegment (merged l).segments
some [] all = tt
some (s ∷ ss) all = by (nat_le (whole ss) (3 * s.0)) (some ss all.1)
  where
    by : (b : Bool) → AllByRecursion IsSomeSegment (merged ss).segments → AllByRecursion IsSomeSegment (next s ss b).segments
    by true rest = (all.0, rest)
    by false rest = (omega (arith, all.0), tt)

-- ---- how often documents are moved

-- with so many moves more, the bound holds of a segment of this size
abbrev IsRoomFor : ℕ → ℕ → Type 0
IsRoomFor total moves = IsSeldom (total, moves + 1)

raised : (moves size total : ℕ) → IsSeldom (size, moves) → 4 * size ≤ 3 * total → IsRoomFor total moves
raised moves size total seldom grown =
    let one : 4 ^ (moves + 1) ≡ 4 * 4 ^ moves = ap (λ n. 4 ^ n) plus ∙ pow-succ' 4 moves in
    let two : 4 * 3 ^ (moves + 1) * total ≡ 4 * (3 ^ moves * (3 * total)) = ap (λ t. 4 * t * total) (ap (λ n. 3 ^ n) plus ∙ pow-succ' 3 moves) ∙ grind arith in
    let three : 4 * 3 ^ moves * size * 4 ≡ 4 * (3 ^ moves * (4 * size)) = grind arith in
    let four : 3 ^ moves * (4 * size) ≤ 3 ^ moves * (3 * total) = mul-le-mul_left (3 ^ moves) grown in
    omega (arith, one, two, three, four, seldom)
  where
    plus : moves + 1 ≡ suc moves
    plus = omega arith

unmoved : (total : ℕ) → 1 ≤ total → IsRoomFor total 0
unmoved total is = omega (arith, is)

either : (total a b : ℕ) → IsRoomFor total a → IsRoomFor total b → IsRoomFor total (max a b)
either total a b one two = by (cases_lt a b)
  where
    by : (a < b) ⊎ (b ≤ a) → IsRoomFor total (max a b)
    by (inl lt) = let e : max a b ≡ b = omega (arith, lt) in subst (IsRoomFor total) (sym e) two
    by (inr le) = let e : max a b ≡ a = omega (arith, le) in subst (IsRoomFor total) (sym e) one

-- behind a segment that is great enough for those of them that were moved, and one that was not
room : (s : ℕ × ℕ) (old : Segments) (size total : ℕ) → 1 ≤ total → s.0 + whole old ≤ total → whole old ≤ 3 * s.0 → AllByRecursion IsSeldom old → IsRoomFor total (most_moves (old ++ (size, 0) ∷ []))
room s [] size total some within great all = either total 0 0 (unmoved total some) (unmoved total some)
room s (e ∷ es) size total some within great all =
    let parts : whole (e ∷ es) ≡ e.0 + whole es = sum-cons e.0 (sizes_in es) in
    either total e.1 (most_moves (es ++ (size, 0) ∷ [])) (raised e.1 e.0 total all.0 (omega (arith, within, great, parts)))
    (room s es size total some (omega (arith, within, parts)) (omega (arith, great, parts)) all.1)

sizes_more : (old : Segments) (size : ℕ) → whole (old ++ (size, 0) ∷ []) ≡ whole old + size
sizes_more [] size = sum-cons size [] ∙ omega arith
sizes_more (e ∷ es) size = sum-cons e.0 (sizes_in (es ++ (size, 0) ∷ [])) ∙ omega (arith, sizes_more es size, sum-cons e.0 (sizes_in es))

seldom : (old : Segments) (size : ℕ) → 1 ≤ size → AllByRecursion IsSomeSegment old → IsTiered (sizes_in old) → AllByRecursion IsSeldom old → AllByRecursion IsSeldom (merged (old ++ (size, 0) ∷ [])).segments
seldom [] size is all up seldoms = by (nat_le 0 (3 * size))
  where
    by : (b : Bool) → AllByRecursion IsSeldom (next (size, 0) [] b).segments
    by true = (omega (arith, is), tt)
    by false = (omega (arith, is), tt)
seldom (s ∷ ss) size is all up seldoms = by (nat_le (whole (ss ++ (size, 0) ∷ [])) (3 * s.0)) refl (seldom ss size is all.1 up.1 seldoms.1)
  where
    behind : ℕ
    behind = whole (ss ++ (size, 0) ∷ [])

    by : (b : Bool) → nat_le behind (3 * s.0) ≡ b → AllByRecursion IsSeldom (merged (ss ++ (size, 0) ∷ [])).segments → AllByRecursion IsSeldom (next s (ss ++ (size, 0) ∷ []) b).segments
    by true h rest = (seldoms.0, rest)
    by false h rest =
        let small : 3 * s.0 < behind = leb-false behind (3 * s.0) h in
        let more : behind ≡ whole ss + size = sizes_more ss size in (
          either (s.0 + behind) s.1 (most_moves (ss ++ (size, 0) ∷ [])) (raised s.1 s.0 (s.0 + behind) seldoms.0 (omega (arith, small)))
              (room s ss size (s.0 + behind) (omega (arith, all.0)) (omega (arith, more)) up.0 seldoms.1),
          tt,
        )

-- ---- how many documents are moved

at_most_all : (l : Segments) → work_of l ≤ whole l * most_moves l
at_most_all [] = omega arith
at_most_all (s ∷ ss) =
    let one : work_of (s ∷ ss) ≡ s.0 * s.1 + work_of ss = sum_by-cons (λ e. e.0 * e.1) s ss in
    let two : s.0 * s.1 ≤ s.0 * most_moves (s ∷ ss) = mul-le-mul_left s.0 (le-max_left s.1 (most_moves ss)) in
    let three : whole ss * most_moves ss ≤ whole ss * most_moves (s ∷ ss) = mul-le-mul_left (whole ss) (le-max_right s.1 (most_moves ss)) in
    let four : whole (s ∷ ss) * most_moves (s ∷ ss) ≡ s.0 * most_moves (s ∷ ss) + whole ss * most_moves (s ∷ ss) = ap (λ n. n * most_moves (s ∷ ss)) (sum-cons s.0 (sizes_in ss)) ∙ grind arith in
    omega (arith, one, two, three, four, at_most_all ss)

work : (l : Segments) → (merged l).work + work_of l ≤ work_of (merged l).segments
work [] = omega arith
work (s ∷ ss) = by (nat_le (whole ss) (3 * s.0)) (work ss)
  where
    by : (b : Bool) → (merged ss).work + work_of ss ≤ work_of (merged ss).segments → (next s ss b).work + work_of (s ∷ ss) ≤ work_of (next s ss b).segments
    by true rest = omega (arith, rest, sum_by-cons (λ (e : ℕ × ℕ). e.0 * e.1) s ss, sum_by-cons (λ (e : ℕ × ℕ). e.0 * e.1) s (merged ss).segments)
    by false rest =
        let all : ℕ = s.0 + whole ss in
        let one : work_of ((all, most_moves (s ∷ ss) + 1) ∷ []) ≡ all * (most_moves (s ∷ ss) + 1) + 0 = sum_by-cons (λ (e : ℕ × ℕ). e.0 * e.1) (all, most_moves (s ∷ ss) + 1) [] in
        let two : all * (most_moves (s ∷ ss) + 1) ≡ all * most_moves (s ∷ ss) + all = grind arith in
        let three : whole (s ∷ ss) * most_moves (s ∷ ss) ≡ all * most_moves (s ∷ ss) = ap (λ n. n * most_moves (s ∷ ss)) (sum-cons s.0 (sizes_in ss)) in
        omega (arith, one, two, three, at_most_all (s ∷ ss))

-- ---- all adds

pub record IsKept (tiers : Tiers) : Type 0 where
  pub tiered : IsTiered (sizes_of tiers)
  pub some : AllByRecursion IsSomeSegment tiers.segments
  pub seldom : AllByRecursion IsSeldom tiers.segments
  pub work : tiers.work ≤ work_of tiers.segments

some_more : (old : Segments) (size : ℕ) → 1 ≤ size → AllByRecursion IsSomeSegment old → AllByRecursion IsSomeSegment (old ++ (size, 0) ∷ [])
some_more [] size is all = (is, tt)
some_more (e ∷ es) size is all = (all.0, some_more es size is all.1)

work_more : (old : Segments) (size : ℕ) → work_of (old ++ (size, 0) ∷ []) ≡ work_of old
work_more old size = sum_by-append (λ (e : ℕ × ℕ). e.0 * e.1) old ((size, 0) ∷ []) ∙ omega (arith, sum_by-cons (λ (e : ℕ × ℕ). e.0 * e.1) (size, 0) [])

one_added : (tiers : Tiers) (size : ℕ) → 1 ≤ size → IsKept tiers → IsKept (added tiers size)
one_added tiers size is kept = record {
  tiered = tiered (tiers.segments ++ (size, 0) ∷ []);
  some = some (tiers.segments ++ (size, 0) ∷ []) (some_more tiers.segments size is kept.some);
  seldom = seldom tiers.segments size is kept.some kept.tiered kept.seldom;
  work = omega (arith, work (tiers.segments ++ (size, 0) ∷ []), work_more tiers.segments size, kept.work);
}

all_added : (tiers : Tiers) (adds : List ℕ) → AllByRecursion IsSome adds → IsKept tiers → IsKept (fold added tiers adds)
all_added tiers [] all kept = kept
all_added tiers (a ∷ adds) all kept = all_added (added tiers a) adds all.1 (one_added tiers a all.0 kept)

sum_added : (tiers : Tiers) (adds : List ℕ) → sum (sizes_of (fold added tiers adds)) ≡ sum (sizes_of tiers) + sum adds
sum_added tiers [] = omega arith
sum_added tiers (a ∷ adds) = sum_added (added tiers a) adds ∙ omega (arith, sum_merged (tiers.segments ++ (a, 0) ∷ []), sizes_more tiers.segments a, sum-cons a adds)

pub each_kept : (adds : List ℕ) → AllByRecursion IsSome adds → IsKept (kept adds)
each_kept adds all = all_added (record { segments = []; work = 0 }) adds all (record { tiered = tt; some = tt; seldom = tt; work = omega arith })

pub all_there : (adds : List ℕ) → sum (sizes_of (kept adds)) ≡ sum adds
all_there adds = sum_added (record { segments = []; work = 0 }) adds ∙ omega arith
