-- The laws of each kind of value.
use Rattle.std.proofs.Common.{◌≡◌, ℕ, suc, ◌+◌, ◌^◌, ◌<◌, ◌≤◌, false, cond, ltb, List, [], ◌∷◌, ◌++◌, length, take, Ok, Err, refl, sym, subst, append_assoc, arith}
use Rattle.std.specs.Int.{w32, w64}
use Rattle.std.specs.Str.{is_utf8}
use Rattle.std.proofs.lemmas.Bool.{ltb-false, le-ltb}
use Rattle.std.proofs.lemmas.List.{take_at, drop_at, take-append-drop, length-append, length-take}
use Rattle.facet_codec.specs.declared.fault.CodecFault.{CodecFault}
use Rattle.facet_codec.specs.declared.fault.CodecFault.TheVariants.{Short, NotUtf8, OutOfRange}
use Rattle.facet_codec.specs.Places.{Place, skip, IsBytes}
use Rattle.facet_codec.specs.Spelling.{one_byte, be32, be64, vint, text}
use Rattle.facet_codec.specs.Reading.{u8_from, u8_at, u32_at, u64_at, vint_at, bytes_at, text_at}
use Rattle.facet_codec.specs.Laws.{Takes, IsSpelled, ReadsBack, IsBelow, HasLength, IsText}
use Rattle.facet_codec.proofs.Taking.{IsBytes-drop, Takes-then, done, done_is, bind_ok, guard_ok, guard_yes}
use Rattle.std.specs.List.{flat_map}
use Rattle.facet_codec.specs.Lists.{list_at, AreSoMany}
use Rattle.facet_codec.proofs.Lists.{list_spelled, list_read_back}
use Rattle.facet_codec.proofs.Numbers.{wide32, wide64, number_spelled, number_read_back}
use Rattle.facet_codec.proofs.Vints.{vint_from_takes, vint_from_again}

u8_from_takes : (at : ℕ) (bytes : List ℕ) (n : ℕ) (q : Place) → IsBytes bytes → u8_from at bytes ≡ Ok (n, q) → Takes (record { at = at; rest = bytes }) (one_byte n) q × (n < 256)
u8_from_takes at [] n q fits e = absurd cc
u8_from_takes at (b ∷ rest) n q fits e =
    subst (λ (x : ℕ × Place). Takes (record { at = at; rest = b ∷ rest }) (one_byte x.0) x.1 × (x.0 < 256)) (done_is CodecFault (b, record { at = at + 1; rest = rest }) (n, q) e)
    (record { rest = refl; at = refl; bytes = λ i. fits (suc i) }, fits 0)

pub u8_spelled : IsSpelled u8_at one_byte (IsBelow 256)
u8_spelled p n q fits e = u8_from_takes p.at p.rest n q fits e

pub u8_read_back : ReadsBack u8_at one_byte (IsBelow 256)
u8_read_back at n rest lt = refl

pub u32_spelled : IsSpelled u32_at be32 (IsBelow (2 ^ 32))
u32_spelled = number_spelled w32 (2 ^ 32) wide32

pub u32_read_back : ReadsBack u32_at be32 (IsBelow (2 ^ 32))
u32_read_back = number_read_back w32 (2 ^ 32) wide32

pub u64_spelled : IsSpelled u64_at be64 (IsBelow (2 ^ 64))
u64_spelled = number_spelled w64 (2 ^ 64) wide64

pub u64_read_back : ReadsBack u64_at be64 (IsBelow (2 ^ 64))
u64_read_back = number_read_back w64 (2 ^ 64) wide64

pub vint_spelled : IsSpelled vint_at vint (IsBelow (2 ^ 32))
vint_spelled p n q fits e = vint_from_takes p.at p.rest n q fits e

pub vint_read_back : ReadsBack vint_at vint (IsBelow (2 ^ 32))
vint_read_back at n rest lt = vint_from_again at n rest lt

-- ---- bytes as they are

pub bytes_spelled : (n : ℕ) → IsSpelled (bytes_at n) (λ bytes. bytes) (HasLength n)
bytes_spelled n p x q fits e =
    let g = guard_ok (ltb (length p.rest) n) (Short p.at) (done (take n p.rest, skip n p)) (x, q) e in
    let long : n ≤ length p.rest = ltb-false _ _ g.0 in
    let len : length (take n p.rest) ≡ n = omega (arith, length-take n p.rest) in
    subst (λ (y : List ℕ × Place). Takes p y.0 y.1 × HasLength n y.0) (done_is CodecFault (take n p.rest, skip n p) (x, q) g.1)
    (record { rest = sym (take-append-drop n p.rest); at = omega arith; bytes = IsBytes-drop n p.rest fits }, len)

pub bytes_read_back : (n : ℕ) → ReadsBack (bytes_at n) (λ bytes. bytes) (HasLength n)
bytes_read_back n at x rest len =
    let long : ltb (length (x ++ rest)) n ≡ false = le-ltb _ _ (omega (arith, length-append x rest)) in
    rw (long, take_at x rest n len, drop_at x rest n len, len) refl

-- ---- texts

pub text_spelled : (max : ℕ) → IsSpelled (text_at max) text (IsText max)
unfolding text_at
text_spelled max p t q fits e =
    let after = λ (n : ℕ × Place). cond (ltb max n.0) (Err (OutOfRange p.at)) (cond (ltb (length n.1.rest) n.0) (Err (Short p.at)) (cond (is_utf8 (take n.0 n.1.rest)) (done (take n.0 n.1.rest, skip n.0 n.1)) (Err (NotUtf8 p.at)))) in
    let a = bind_ok (vint_at p) after (t, q) e in
    let n = a.0 in
    let k = vint_spelled p n.0 n.1 fits a.1 in
    let g = guard_ok (ltb max n.0) (OutOfRange p.at) (cond (ltb (length n.1.rest) n.0) (Err (Short p.at)) (cond (is_utf8 (take n.0 n.1.rest)) (done (take n.0 n.1.rest, skip n.0 n.1)) (Err (NotUtf8 p.at)))) (t, q) a.2 in
    let h = guard_ok (ltb (length n.1.rest) n.0) (Short p.at) (cond (is_utf8 (take n.0 n.1.rest)) (done (take n.0 n.1.rest, skip n.0 n.1)) (Err (NotUtf8 p.at))) (t, q) g.1 in
    let u = guard_yes (is_utf8 (take n.0 n.1.rest)) (NotUtf8 p.at) (take n.0 n.1.rest, skip n.0 n.1) (t, q) h.1 in
    let le : n.0 ≤ max = ltb-false _ _ g.0 in
    let long : n.0 ≤ length n.1.rest = ltb-false _ _ h.0 in
    let len : length (take n.0 n.1.rest) ≡ n.0 = omega (arith, length-take n.0 n.1.rest) in
    let second : Takes n.1 (take n.0 n.1.rest) (skip n.0 n.1) = record { rest = sym (take-append-drop n.0 n.1.rest); at = omega arith; bytes = IsBytes-drop n.0 n.1.rest k.0.bytes } in
    let both = Takes-then p (vint n.0) n.1 (take n.0 n.1.rest) (skip n.0 n.1) k.0 second in
    let whole : Takes p (text (take n.0 n.1.rest)) (skip n.0 n.1) = subst (λ (m : ℕ). Takes p (vint m ++ take n.0 n.1.rest) (skip n.0 n.1)) (sym len) both in
    subst (λ (x : List ℕ × Place). Takes p (text x.0) x.1 × IsText max x.0) u.1 (whole, record { length = omega arith; utf8 = u.0 })

pub text_read_back : (max : ℕ) → max < 2 ^ 32 → ReadsBack (text_at max) text (IsText max)
unfolding text_at
text_read_back max top at t rest fits =
    let le : length t ≤ max = fits.length in
    let regrouped : text t ++ rest ≡ vint (length t) ++ (t ++ rest) = append_assoc (vint (length t)) t rest in
    let v = vint_read_back at (length t) (t ++ rest) (omega arith) in
    let small : ltb max (length t) ≡ false = le-ltb _ _ le in
    let long : ltb (length (t ++ rest)) (length t) ≡ false = le-ltb _ _ (omega (arith, length-append t rest)) in
    let far : at + length (vint (length t)) + length t ≡ at + length (text t) = omega (arith, length-append (vint (length t)) t) in
    rw (regrouped, v, small, long, take_at t rest (length t) refl, drop_at t rest (length t) refl, fits.utf8, far) refl

-- ---- lists of numbers

pub u32_list_spelled : (n : ℕ) → IsSpelled (list_at u32_at n) (flat_map be32) (AreSoMany (IsBelow (2 ^ 32)) n)
u32_list_spelled n = list_spelled u32_at be32 (IsBelow (2 ^ 32)) u32_spelled n

pub u32_list_read_back : (n : ℕ) → ReadsBack (list_at u32_at n) (flat_map be32) (AreSoMany (IsBelow (2 ^ 32)) n)
u32_list_read_back n = list_read_back u32_at be32 (IsBelow (2 ^ 32)) u32_read_back n
