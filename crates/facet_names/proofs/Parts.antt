-- Comparing texts one by one, and walking over the parts of a path.
use Rattle.std.proofs.Common.{◌≡◌, ℕ, ◌+◌, ◌<◌, ◌≤◌, Bool, get_or, List, [], ◌∷◌, length, String, string_bytes, refl, ap, sym, subst, ◌∙◌, arith, rules}
use Rattle.std.proofs.lemmas.Bool.Decides.{nat_tests}
use Rattle.std.specs.declared.alloc.Global.{Global}
use Rattle.std.specs.Prelude.{◌==◌, nat_lt, Option, Some, None, zero, suc, take, true, false, cond, slice_get}
use Rattle.std.proofs.Common.{◌++◌, ◌^◌}
use Rattle.std.specs.Fmt.{decimal}
use Rattle.std.proofs.lemmas.Fmt.{decimal_nonempty, length-decimal-le}
use Rattle.std.proofs.lemmas.List.{length-append, length-map, length-take-le, get_or-map, map-append, take_more}
use Rattle.std.proofs.lemmas.Option.{slice_get-get_or}
use Rattle.facet_names.specs.Paths.{texts}
use Rattle.facet_names.specs.Faults.{part_fault, path_fault, IsPath}
use Rattle.facet_names.specs.declared.fault.PathFault.{PathFault}
use Rattle.facet_names.specs.declared.fault.PathFault.TheVariants.{NoPart, EmptyPart, PartTooLong, TooManyParts}

-- ---- a front of a path

pub no_fault : (at : ℕ) (p : List ℕ) (rest : Option PathFault) → cond (length p == 0) (Some (EmptyPart at)) (cond (nat_lt 1024 (length p)) (Some (PartTooLong at (length p))) rest) ≡ None
    → (rest ≡ None) × (length p == 0 ≡ false) × (nat_lt 1024 (length p) ≡ false)
no_fault at p rest e = by (length p == 0) (nat_lt 1024 (length p)) e
  where
    by : (a b : Bool) → cond a (Some (EmptyPart at)) (cond b (Some (PartTooLong at (length p))) rest) ≡ None → (rest ≡ None) × (a ≡ false) × (b ≡ false)
    by true b e = absurd cc
    by false true e = absurd cc
    by false false e = (e, refl, refl)

pub part_fault_front : (n at : ℕ) (ps : List (List ℕ)) → part_fault at ps ≡ None → part_fault at (take n ps) ≡ None
part_fault_front zero at ps e = refl
part_fault_front (suc n) at [] e = refl
part_fault_front (suc n) at (p ∷ ps) e =
    let parts = no_fault at p (part_fault (at + 1) ps) e in
    rw (parts.1, parts.2) (part_fault_front n (at + 1) ps parts.0)

pub part_of_path : (ps : List (List ℕ)) → IsPath ps → (part_fault 0 ps ≡ None) × (nat_lt 32 (length ps) ≡ false)
part_of_path ps fits = by (length ps == 0) (nat_lt 32 (length ps)) fits
  where
    by : (a b : Bool) → cond a (Some NoPart) (cond b (Some (TooManyParts (length ps))) (part_fault 0 ps)) ≡ None → (part_fault 0 ps ≡ None) × (b ≡ false)
    by true b e = absurd cc
    by false true e = absurd cc
    by false false e = (e, refl)

pub front_fits : (n : ℕ) (ps : List (List ℕ)) → 0 < n → n ≤ length ps → IsPath ps → IsPath (take n ps)
front_fits n ps some within fits =
    let parts = part_of_path ps fits in
    let size : length (take n ps) ≡ n = length-take-le n ps within in
    let front : part_fault 0 (take n ps) ≡ None = part_fault_front n 0 ps parts.0 in
    let not_empty : (length (take n ps) == 0) ≡ false = ap (λ k. k == 0) size ∙ grind (arith, some) in
    let not_many : nat_lt 32 (length (take n ps)) ≡ false = ap (nat_lt 32) size ∙ search (rules, nat_tests, parts.1, within) in
    rw (not_empty, not_many) front

-- one text more
pub texts_more : (xs : List (String Global)) (n : ℕ) (s : String Global) → n < length xs → s ≡ get_or xs n s → texts (take (n + 1) xs) ≡ texts (take n xs) ++ string_bytes s ∷ []
texts_more xs n s within is = ap texts (take_more xs n s within ∙ ap (λ t. take n xs ++ t ∷ []) (sym is)) ∙ map-append string_bytes (take n xs) (s ∷ [])

-- ---- a path with one more part

pub part_fault_more : (at : ℕ) (ps : List (List ℕ)) (p : List ℕ) → part_fault at ps ≡ None → part_fault at (ps ++ p ∷ []) ≡ part_fault (at + length ps) (p ∷ [])
part_fault_more at [] p e = ap (λ k. part_fault k (p ∷ [])) (grind (arith))
part_fault_more at (q ∷ ps) p e =
    let parts = no_fault at q (part_fault (at + 1) ps) e in
    rw (parts.1, parts.2) (part_fault_more (at + 1) ps p parts.0 ∙ ap (λ k. part_fault k (p ∷ [])) (grind (arith)))

-- it has too many parts, or its last one has the fault
pub child_fault : (ps : List (List ℕ)) (p : List ℕ) → IsPath ps → path_fault (ps ++ p ∷ []) ≡ cond (nat_lt 31 (length ps)) (Some (TooManyParts (length ps + 1))) (part_fault (length ps) (p ∷ []))
child_fault ps p fits =
    let size : length (ps ++ p ∷ []) ≡ length ps + 1 = length-append ps (p ∷ []) in
    let some : (length (ps ++ p ∷ []) == 0) ≡ false = ap (λ k. k == 0) size ∙ grind (arith) in
    let many : nat_lt 32 (length (ps ++ p ∷ [])) ≡ nat_lt 31 (length ps) = ap (nat_lt 32) size ∙ grind (arith) in
    rw (some, many, size, part_fault_more 0 ps p (part_of_path ps fits).0) (ap (λ k. cond (nat_lt 31 (length ps)) (Some (TooManyParts (length ps + 1))) (part_fault k (p ∷ []))) (grind (arith)))

-- ---- the parts of a path have 1 to 1,024 bytes

pub record IsSized (p : List ℕ) : Type 0 where
  pub some : 0 < length p
  pub short : length p ≤ 1024

sized : (at : ℕ) (ps : List (List ℕ)) → part_fault at ps ≡ None → (i : ℕ) (p : List ℕ) → slice_get ps i ≡ Some p → IsSized p
sized at [] e i p is = absurd cc
sized at (q ∷ ps) e zero p is =
    let parts = no_fault at q (part_fault (at + 1) ps) e in
    let same : q ≡ p = cc in
    let here : IsSized q = record { some = grind (arith, nat_tests, parts.1); short = grind (arith, nat_tests, parts.2) } in
    subst IsSized same here
sized at (q ∷ ps) e (suc i) p is = sized (at + 1) ps (no_fault at q (part_fault (at + 1) ps) e).0 i p is

text_at : (xs : List (String Global)) (i : ℕ) (s : String Global) (p : List ℕ) → i < length xs → s ≡ get_or xs i s → p ≡ string_bytes s → slice_get (texts xs) i ≡ Some p
text_at xs i s p lt is text = slice_get-get_or (texts xs) i [] (omega (arith, length-map xs string_bytes)) ∙ ap Some (get_or-map string_bytes xs i s [] lt ∙ ap string_bytes (sym is) ∙ sym text)

pub part_is_short : (xs : List (String Global)) (i : ℕ) (s : String Global) (p : List ℕ) → IsPath (texts xs) → i < length xs → s ≡ get_or xs i s → p ≡ string_bytes s → length p ≤ 1024
part_is_short xs i s p fits lt is text = (sized 0 (texts xs) (part_of_path (texts xs) fits).0 i p (text_at xs i s p lt is text)).short

-- ---- few parts that have so many bytes are a path

tests : (p : List ℕ) → IsSized p → ((length p == 0) ≡ false) × (nat_lt 1024 (length p) ≡ false)
tests p of_p = (grind (arith, nat_tests, of_p.some), grind (arith, nat_tests, of_p.short))

pub two_parts : (a b : List ℕ) → IsSized a → IsSized b → IsPath (a ∷ b ∷ [])
two_parts a b of_a of_b = rw ((tests a of_a).0, (tests a of_a).1, (tests b of_b).0, (tests b of_b).1) refl

pub three_parts : (a b c : List ℕ) → IsSized a → IsSized b → IsSized c → IsPath (a ∷ b ∷ c ∷ [])
three_parts a b c of_a of_b of_c = rw ((tests a of_a).0, (tests a of_a).1, (tests b of_b).0, (tests b of_b).1, (tests c of_c).0, (tests c of_c).1) refl

-- ---- numbers as parts

-- a number of 32 bits has one to ten digits
pub digits : (n : ℕ) → n < 2 ^ 32 → (0 < length (decimal n)) × (length (decimal n) ≤ 10)
digits n few = (decimal_nonempty n (omega (arith, few)), length-decimal-le 10 n (omega arith) (omega (arith, few)) (omega (arith, few)))

pub number : (n : ℕ) → n < 2 ^ 32 → IsSized (decimal n)
number n few = let both = digits n few in record { some = both.0; short = omega (arith, both.1) }

-- behind a letter
pub numbered : (c n : ℕ) → n < 2 ^ 32 → IsSized (c ∷ decimal n)
numbered c n few = let both = digits n few in record { some = omega arith; short = omega (arith, both.1) }
