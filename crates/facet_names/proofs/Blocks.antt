-- What stands in a block, component by component.
use Rattle.std.proofs.Common.{◌≡◌, ℕ, zero, suc, ◌+◌, ◌*◌, ◌<◌, ◌≤◌, ◌-◌, Bool, true, false, List, [], ◌∷◌, ◌++◌, length, get_or, refl, sym, ap, subst, ◌∙◌, append_assoc, arith}
use Rattle.std.specs.Prelude.{slice_get, ◌/◌, ◌%◌, take, drop, Some, None, cond}
use Rattle.std.proofs.Common.{eqb}
use Rattle.std.proofs.lemmas.Bool.{le-ltb, ne_eqb}
use Rattle.std.proofs.lemmas.Bool.Decides.{nat_tests}
use Rattle.std.specs.declared.cmp.Ordering.TheVariants.{Less, Equal, Greater}
use Rattle.facet_names.proofs.Places.{below_less}
use Rattle.std.proofs.lemmas.Nat.{div-add-mod', mod_below, div_below}
use Rattle.std.proofs.Common.{String, string_bytes}
use Rattle.std.specs.declared.alloc.Global.{Global}
use Rattle.std.proofs.lemmas.List.{length-map, take-map, take-append-drop, length-append, append-nil}
use Rattle.std.proofs.Common.{nat_eq}
use Rattle.std.specs.Cmp.Lexicographic.{pointwise}
use Rattle.std.specs.Cmp.Lexicographic.{pointwise_decides, bytes_decides}
use Rattle.std.proofs.lemmas.Str.{IsCharBoundary-at_seam, IsCharBoundary-end, IsCharBoundary-before_ascii, IsCharBoundary-after_ascii}
use Rattle.std.specs.Str.{IsUtf8, IsCharBoundary}
use Rattle.std.specs.Ordering.{nat_cmp}
use Rattle.facet_names.specs.Paths.{texts, is_under, path_cmp, path_eq}
use Rattle.facet_names.specs.Faults.{IsPath, part_fault, path_fault}
use Rattle.facet_names.specs.Blocks.{headed, block, parts_in, parts_of, IsBlock, IsPathBlock}
use Rattle.facet_names.proofs.Parts.{front_fits, no_fault, part_of_path, part_fault_front, part_fault_more}

pub take_front : (p rest : List ℕ) → take (length p) (p ++ rest) ≡ p
take_front [] rest = refl
take_front (b ∷ p) rest = ap (λ t. b ∷ t) (take_front p rest)

pub drop_front : (p rest : List ℕ) → drop (length p) (p ++ rest) ≡ rest
drop_front [] rest = refl
drop_front (b ∷ p) rest = drop_front p rest

size_is : (p : List ℕ) → length p / 32 * 32 + length p % 32 ≡ length p
size_is p = div-add-mod' (length p) 32

-- ---- a block is read back

pub read_back : (n : ℕ) (ps : List (List ℕ)) → length ps ≤ n → parts_in n (block ps) ≡ ps
unfolding parts_in block
read_back zero [] few = refl
read_back zero (p ∷ ps) few = absurd (omega (arith, few))
read_back (suc n) [] few = refl
read_back (suc n) (p ∷ ps) few =
    (λ i. take (size_is p i) (p ++ block ps) ∷ parts_in n (drop (size_is p i) (p ++ block ps)))
    ∙ (λ i. take_front p (block ps) i ∷ parts_in n (drop_front p (block ps) i))
    ∙ ap (λ t. p ∷ t) (read_back n ps (omega (arith, few)))

pub few_in : (n : ℕ) (bytes : List ℕ) → length (parts_in n bytes) ≤ n
unfolding parts_in
few_in zero bytes = omega arith
few_in (suc n) [] = omega arith
few_in (suc n) (high ∷ []) = omega arith
few_in (suc n) (high ∷ low ∷ bytes) = omega (arith, few_in n (drop (high * 32 + low) bytes))

faultless : (ps : List (List ℕ)) (at to : ℕ) → part_fault at ps ≡ None → part_fault to ps ≡ None
faultless [] at to e = refl
faultless (p ∷ ps) at to e =
    let parts = no_fault at p (part_fault (at + 1) ps) e in
    rw (parts.1, parts.2) (faultless ps (at + 1) (to + 1) parts.0)

-- a block with something in it has a first component
pub record HasFirst (bytes : List ℕ) : Type 0 where
  pub part : List ℕ
  pub rest : List (List ℕ)
  pub is : bytes ≡ headed part ++ block rest
  pub parts : parts_of bytes ≡ part ∷ rest
  pub again : parts_of (block rest) ≡ rest
  pub filled : 0 < length part
  pub short : length part ≤ 1024
  pub faultless : part_fault 0 rest ≡ None

pub first_of : (bytes : List ℕ) → IsBlock bytes → 0 < length bytes → HasFirst bytes
unfolding block
first_of bytes is some = by (parts_of bytes) refl
  where
    by : (ps : List (List ℕ)) → parts_of bytes ≡ ps → HasFirst bytes
    by [] e = let none : bytes ≡ [] = is.1 ∙ ap block e in absurd (omega (arith, some, ap length none))
    by (p ∷ ps) e =
        let parts = no_fault 0 p (part_fault 1 ps) (sym (ap (part_fault 0) e) ∙ is.0) in
        record {
          part = p;
          rest = ps;
          is = is.1 ∙ ap block e;
          parts = e;
          again = read_back 32 ps (omega (arith, few_in 32 bytes, ap length e));
          filled = grind (arith, nat_tests, parts.1);
          short = grind (arith, nat_tests, parts.2);
          faultless = faultless ps 1 0 parts.0;
        }

-- ---- cutting the first component off

at_the_end : (p : List ℕ) → IsCharBoundary (p ++ []) (length p)
at_the_end p = subst (λ n. IsCharBoundary (p ++ []) n) (ap length (append-nil p)) (IsCharBoundary-end (p ++ []))

at_seam : (p rest : List ℕ) → get_or (p ++ rest) (length p) 0 ≡ get_or rest 0 0
at_seam [] rest = refl
at_seam (b ∷ p) rest = at_seam p rest

before_length : (p q rest : List ℕ) → length q ≤ 1024 → IsCharBoundary (p ++ (headed q ++ rest)) (length p)
before_length p q rest short =
    let small : length q / 32 < 128 = div_below (length q) 32 128 (omega arith) (omega (arith, short)) in
    IsCharBoundary-before_ascii (p ++ (headed q ++ rest)) (length p) (omega (arith, length-append p (headed q ++ rest))) (omega (arith, small, at_seam p (headed q ++ rest)))

module _ (bytes : List ℕ) (first : HasFirst bytes) where
  pub length_is : get_or bytes 0 0 * 32 + get_or bytes 1 0 ≡ length first.part
  length_is = (λ i. get_or (first.is i) 0 0 * 32 + get_or (first.is i) 1 0) ∙ size_is first.part

  pub two_at_least : 2 < length bytes
  two_at_least = omega (arith, ap length first.is, length-append first.part (block first.rest), first.filled)

  pub behind_length : drop 2 bytes ≡ first.part ++ block first.rest
  behind_length = ap (drop 2) first.is

  pub length_ends : IsUtf8 bytes → IsCharBoundary bytes 2
  length_ends utf8 =
      let low : get_or bytes 1 0 ≡ length first.part % 32 = ap (λ t. get_or t 1 0) first.is in
      let small : length first.part % 32 < 32 = mod_below (length first.part) 32 (omega arith) in
      IsCharBoundary-after_ascii bytes 1 utf8 (omega (arith, two_at_least)) (omega (arith, low, small))

  pub part_ends : IsCharBoundary (drop 2 bytes) (length first.part)
  unfolding block
  part_ends = subst (λ t. IsCharBoundary t (length first.part)) (sym behind_length) (by first.rest first.faultless)
    where
      by : (ps : List (List ℕ)) → part_fault 0 ps ≡ None → IsCharBoundary (first.part ++ block ps) (length first.part)
      by [] e = at_the_end first.part
      by (q ∷ ps) e = before_length first.part q (block ps) (grind (arith, nat_tests, (no_fault 0 q (part_fault 1 ps) e).2))

  pub decoded : parts_of bytes ≡ first.part ∷ parts_of (block first.rest)
  decoded = first.parts ∙ ap (λ t. first.part ∷ t) (sym first.again)

  pub is_block : IsBlock (block first.rest)
  is_block = (ap (part_fault 0) first.again ∙ first.faultless, ap block (sym first.again))

-- ---- a block grows at its end

pub block_more : (ps : List (List ℕ)) (p : List ℕ) → block (ps ++ p ∷ []) ≡ block ps ++ headed p
unfolding block
block_more [] p = append-nil (headed p)
block_more (q ∷ ps) p = ap (λ t. headed q ++ t) (block_more ps p) ∙ sym (append_assoc (headed q) (block ps) (headed p))

pub block_is_short : (ps : List (List ℕ)) (at : ℕ) → part_fault at ps ≡ None → length (block ps) ≤ 1026 * length ps
unfolding block
block_is_short [] at e = omega arith
block_is_short (p ∷ ps) at e =
    let parts = no_fault at p (part_fault (at + 1) ps) e in
    let short : length p ≤ 1024 = grind (arith, nat_tests, parts.2) in
    omega (arith, short, length-append p (block ps), block_is_short ps (at + 1) parts.0)

pub few_bytes : (ps : List (List ℕ)) → IsPath ps → length (block ps) ≤ 32832
few_bytes ps fits =
    let parts = part_of_path ps fits in
    let few : length ps ≤ 32 = grind (arith, nat_tests, parts.1) in
    omega (arith, few, block_is_short ps 0 parts.0)

pub path_block : (bytes : List ℕ) (ps : List (List ℕ)) → IsPath ps → bytes ≡ block ps → IsPathBlock bytes × (parts_of bytes ≡ ps)
path_block bytes ps fits is =
    let few : length ps ≤ 32 = grind (arith, nat_tests, (part_of_path ps fits).1) in
    let same : parts_of bytes ≡ ps = ap parts_of is ∙ read_back 32 ps few in
    ((ap path_fault same ∙ fits, is ∙ ap block (sym same)), same)

-- the block of a path is one
pub block_of_path : (bytes : List ℕ) → IsPathBlock bytes → IsBlock bytes
block_of_path bytes is = ((part_of_path (parts_of bytes) is.0).0, is.1)

-- ---- blocks with and without components

pub none_in : (bytes : List ℕ) → length bytes ≡ 0 → parts_of bytes ≡ []
unfolding parts_in
none_in [] e = refl
none_in (b ∷ bytes) e = absurd (omega (arith, e))

-- no component stands before the first of another block
pub not_under : (block front : List ℕ) → length block ≡ 0 → IsBlock front → 0 < length front → is_under (parts_of block) (parts_of front) ≡ false
not_under block front none is some = let first = first_of front is some in (λ i. is_under (none_in block none i) (first.parts i))

pub all_under : (block front : List ℕ) → length front ≡ 0 → is_under (parts_of block) (parts_of front) ≡ true
all_under block front none = ap (is_under (parts_of block)) (none_in front none)

above_greater : (x y : ℕ) → y < x → nat_cmp x y ≡ Greater
above_greater x y lt =
    let differ : eqb x y ≡ false = ne_eqb x y (λ e. absurd (omega (arith, lt, e))) in
    ap (λ a. cond a Less (cond (eqb x y) Equal Greater)) (le-ltb x y (omega (arith, lt))) ∙ ap (λ b. cond b Equal Greater) differ

-- the lengths of two blocks of which one is empty compare as the blocks do
pub first_is_empty : (one other : List ℕ) → length one ≡ 0 → IsBlock other → nat_cmp (length one) (length other) ≡ path_cmp (parts_of one) (parts_of other)
first_is_empty one other none is = by (length other) refl
  where
    by : (n : ℕ) → length other ≡ n → nat_cmp (length one) (length other) ≡ path_cmp (parts_of one) (parts_of other)
    by zero e = (λ i. nat_cmp (none i) (e i)) ∙ sym (λ i. path_cmp (none_in one none i) (none_in other e i))
    by (suc n) e =
        let first = first_of other is (omega (arith, e)) in
        below_less (length one) (length other) (omega (arith, none, e)) ∙ sym (λ i. path_cmp (none_in one none i) (first.parts i))

pub second_is_empty : (one other : List ℕ) → 0 < length one → length other ≡ 0 → IsBlock one → nat_cmp (length one) (length other) ≡ path_cmp (parts_of one) (parts_of other)
second_is_empty one other some none is =
    let first = first_of one is some in
    above_greater (length one) (length other) (omega (arith, some, none)) ∙ sym (λ i. path_cmp (first.parts i) (none_in other none i))

take_le : {X : Type 0} (n : ℕ) (xs : List X) → length (take n xs) ≤ length xs
take_le zero xs = omega arith
take_le (suc n) [] = omega arith
take_le (suc n) (x ∷ xs) = omega (arith, take_le n xs)

pub few_in_front : (n : ℕ) (xs : List (String Global)) → IsPath (texts xs) → length (block (texts (take n xs))) ≤ 32832
few_in_front n xs fits =
    let parts = part_of_path (texts xs) fits in
    let same : texts (take n xs) ≡ take n (texts xs) = sym (take-map string_bytes n xs) in
    let faultless : part_fault 0 (texts (take n xs)) ≡ None = ap (part_fault 0) same ∙ part_fault_front n 0 (texts xs) parts.0 in
    let few : length (texts xs) ≤ 32 = grind (arith, nat_tests, parts.1) in
    let fewer : length (texts (take n xs)) ≤ 32 = omega (arith, few, length-map (take n xs) string_bytes, length-map xs string_bytes, take_le n xs) in
    omega (arith, fewer, block_is_short (texts (take n xs)) 0 faultless)

-- ---- one component further

pub take_one : (n : ℕ) (ps : List (List ℕ)) (p : List ℕ) (rest : List (List ℕ)) → drop n ps ≡ p ∷ rest → take (n + 1) ps ≡ take n ps ++ p ∷ []
take_one zero [] p rest e = absurd cc
take_one zero (q ∷ ps) p rest e = let same : q ≡ p = cc in ap (λ t. t ∷ []) same
take_one (suc n) [] p rest e = absurd cc
take_one (suc n) (q ∷ ps) p rest e = let moved : suc n + 1 ≡ suc (n + 1) = omega arith in ap (λ k. take k (q ∷ ps)) moved ∙ ap (λ t. q ∷ t) (take_one n ps p rest e)

pub drop_one : (n : ℕ) (ps : List (List ℕ)) (p : List ℕ) (rest : List (List ℕ)) → drop n ps ≡ p ∷ rest → rest ≡ drop (n + 1) ps
drop_one zero [] p rest e = absurd cc
drop_one zero (q ∷ ps) p rest e = cc
drop_one (suc n) [] p rest e = absurd cc
drop_one (suc n) (q ∷ ps) p rest e = let moved : suc n + 1 ≡ suc (n + 1) = omega arith in drop_one n ps p rest e ∙ ap (λ k. drop k (q ∷ ps)) (sym moved)

-- a block with a component has bytes
pub some_in : (bytes : List ℕ) → 0 < length (parts_of bytes) → 0 < length bytes
some_in bytes some = by (length bytes) refl
  where
    by : (n : ℕ) → length bytes ≡ n → 0 < length bytes
    by zero e = absurd (omega (arith, some, ap length (none_in bytes e)))
    by (suc n) e = omega (arith, e)

pub get_one : (n : ℕ) (ps : List (List ℕ)) (p : List ℕ) (rest : List (List ℕ)) → drop n ps ≡ p ∷ rest → slice_get ps n ≡ Some p
get_one zero [] p rest e = absurd cc
get_one zero (q ∷ ps) p rest e = let same : q ≡ p = cc in ap Some same
get_one (suc n) [] p rest e = absurd cc
get_one (suc n) (q ∷ ps) p rest e = get_one n ps p rest e

pub empty_block : IsBlock []
unfolding parts_in block
empty_block = (refl, refl)

pub one_block : (p : List ℕ) → headed p ≡ block (p ∷ [])
unfolding block
one_block p = sym (append-nil (headed p))

block-append : (ps qs : List (List ℕ)) → block (ps ++ qs) ≡ block ps ++ block qs
unfolding block
block-append [] qs = refl
block-append (p ∷ ps) qs = ap (λ t. headed p ++ t) (block-append ps qs) ∙ sym (append_assoc (headed p) (block ps) (block qs))

-- the block of the first components, and of those behind
pub front_block : (n : ℕ) (text rest : List ℕ) → IsBlock text → IsBlock rest → parts_of rest ≡ drop n (parts_of text) → text ≡ block (take n (parts_of text)) ++ rest
front_block n text rest whole is parts =
    whole.1
    ∙ ap block (sym (take-append-drop n (parts_of text)))
    ∙ block-append (take n (parts_of text)) (drop n (parts_of text))
    ∙ ap (λ t. block (take n (parts_of text)) ++ t) (ap block (sym parts) ∙ sym is.1)

-- ---- a path's front

module _ (n : ℕ) (text rest : List ℕ) (whole : IsPathBlock text) (is : IsBlock rest) (parts : parts_of rest ≡ drop n (parts_of text)) where
  abbrev front : List ℕ
  front = block (take n (parts_of text))

  seam : text ≡ front ++ rest
  seam = front_block n text rest (block_of_path text whole) is parts

  pub rest_is_shorter : length rest ≤ length text
  rest_is_shorter = omega (arith, ap length seam, length-append front rest)

  front_size : length text - length rest ≡ length front
  front_size = omega (arith, ap length seam, length-append front rest)

  pub front_ends : IsUtf8 rest → IsCharBoundary text (length text - length rest)
  front_ends utf8 = subst (λ k. IsCharBoundary text k) (sym front_size) (IsCharBoundary-at_seam text front rest seam utf8)

  pub front_path : (bytes : List ℕ) → 0 < n → n ≤ length (parts_of text) → bytes ≡ take (length text - length rest) text → IsPathBlock bytes × (parts_of bytes ≡ take n (parts_of text))
  front_path bytes some within taken =
      let is_front : bytes ≡ front = taken ∙ ap (λ k. take k text) front_size ∙ ap (take (length front)) seam ∙ take_front front rest in
      path_block bytes (take n (parts_of text)) (front_fits n (parts_of text) some within whole.0) is_front

-- ---- a path with one component more

pub longer_path : (text bytes : List ℕ) (p : List ℕ) → IsPathBlock text → path_fault (parts_of text ++ p ∷ []) ≡ None → bytes ≡ text ++ headed p → IsPathBlock bytes × (parts_of bytes ≡ parts_of text ++ p ∷ [])
longer_path text bytes p whole fits is = path_block bytes (parts_of text ++ p ∷ []) fits (is ∙ ap (λ t. t ++ headed p) whole.1 ∙ sym (block_more (parts_of text) p))

-- its last component is short
pub last_is_short : (ps : List (List ℕ)) (p : List ℕ) → IsPath ps → path_fault (ps ++ p ∷ []) ≡ None → length p ≤ 1024
last_is_short ps p fits e =
    let parts = no_fault (0 + length ps) p None (sym (part_fault_more 0 ps p (part_of_path ps fits).0) ∙ (part_of_path (ps ++ p ∷ []) e).0) in
    grind (arith, nat_tests, parts.2)

-- the same components have the same block
pub same_blocks : (one other : List ℕ) → IsPathBlock one → IsPathBlock other → path_eq (parts_of one) (parts_of other) ≡ pointwise nat_eq one other
same_blocks one other is are = decided (path_eq (parts_of one) (parts_of other)) (pointwise nat_eq one other) (pointwise_decides bytes_decides (parts_of one) (parts_of other)) (bytes_decides one other)
  where
    decided : (a b : Bool) → ((a ≡ true → parts_of one ≡ parts_of other) × (parts_of one ≡ parts_of other → a ≡ true)) → ((b ≡ true → one ≡ other) × (one ≡ other → b ≡ true)) → a ≡ b
    decided true true l r = refl
    decided false false l r = refl
    decided true false l r = sym (r.1 (is.1 ∙ ap block (l.0 refl) ∙ sym are.1))
    decided false true l r = l.1 (ap parts_of (r.0 refl))
