-- Numbers of a fixed width, for any width.
use Rattle.std.proofs.Common.{◌≡◌, ℕ, ◌^◌, ◌<◌, ◌≤◌, false, ltb, List, ◌++◌, length, take, refl, sym, ap, subst, arith}
use Rattle.std.specs.Int.{Width, w32, w64, byte_len, from_be_bytes, to_be_bytes}
use Rattle.std.proofs.lemmas.Bool.{ltb-false, le-ltb}
use Rattle.std.proofs.lemmas.List.{take_at, drop_at, take-append-drop, length-append, length-take}
use Rattle.std.proofs.lemmas.Nat.{be_bytes_4, from_be_bytes-to_be_bytes_4, be_bytes_8, from_be_bytes-to_be_bytes_8}
use Rattle.facet_codec.specs.declared.fault.CodecFault.{CodecFault}
use Rattle.facet_codec.specs.declared.fault.CodecFault.TheVariants.{Short}
use Rattle.facet_codec.specs.Places.{Place, skip, IsBytes}
use Rattle.facet_codec.specs.Reading.{number_at}
use Rattle.facet_codec.specs.Laws.{Takes, IsSpelled, ReadsBack, IsBelow}
use Rattle.facet_codec.proofs.Taking.{IsBytes-drop, IsBytes-take, done, done_is, guard_ok}

-- A width is kept a variable, since at a given one the bytes compute to single cells.
pub record IsWide (w : Width) (top : ℕ) : Type 0 where
  pub len : (n : ℕ) → length (to_be_bytes w n) ≡ byte_len w
  pub back : (bytes : List ℕ) → length bytes ≡ byte_len w → IsBytes bytes → to_be_bytes w (from_be_bytes w bytes) ≡ bytes
  pub again : (n : ℕ) → n < top → from_be_bytes w (to_be_bytes w n) ≡ n
  pub below : (bytes : List ℕ) → IsBytes bytes → from_be_bytes w bytes < top

pub wide32 : IsWide w32 (2 ^ 32)
wide32 = record {
  len = λ n. refl;
  back = λ bytes len fits. be_bytes_4 bytes _ len fits refl;
  again = λ n lt. from_be_bytes-to_be_bytes_4 n lt;
  below = λ bytes fits. omega (arith, fits 0, fits 1, fits 2, fits 3);
}

pub wide64 : IsWide w64 (2 ^ 64)
wide64 = record {
  len = λ n. refl;
  back = λ bytes len fits. be_bytes_8 bytes _ len fits refl;
  again = λ n lt. from_be_bytes-to_be_bytes_8 n lt;
  below = λ bytes fits. omega (arith, fits 0, fits 1, fits 2, fits 3, fits 4, fits 5, fits 6, fits 7);
}

pub number_spelled : (w : Width) (top : ℕ) → IsWide w top → IsSpelled (number_at w) (to_be_bytes w) (IsBelow top)
number_spelled w top wide p n q fits e =
    let g = guard_ok (ltb (length p.rest) (byte_len w)) (Short p.at) (done (from_be_bytes w (take (byte_len w) p.rest), skip (byte_len w) p)) (n, q) e in
    let long : byte_len w ≤ length p.rest = ltb-false _ _ g.0 in
    let same = done_is CodecFault (from_be_bytes w (take (byte_len w) p.rest), skip (byte_len w) p) (n, q) g.1 in
    let n-is : from_be_bytes w (take (byte_len w) p.rest) ≡ n = ap (λ (x : ℕ × Place). x.0) same in
    let q-is : skip (byte_len w) p ≡ q = ap (λ (x : ℕ × Place). x.1) same in
    let front : to_be_bytes w n ≡ take (byte_len w) p.rest = rw (← n-is) (wide.back (take (byte_len w) p.rest) (omega (arith, length-take (byte_len w) p.rest)) (IsBytes-take (byte_len w) p.rest fits)) in (
      subst (λ (x : Place). Takes p (to_be_bytes w n) x) q-is (record { rest = rw front (sym (take-append-drop (byte_len w) p.rest)); at = omega (arith, wide.len n); bytes = IsBytes-drop (byte_len w) p.rest fits }),
      rw (← n-is) (wide.below (take (byte_len w) p.rest) (IsBytes-take (byte_len w) p.rest fits)),
    )

pub number_read_back : (w : Width) (top : ℕ) → IsWide w top → ReadsBack (number_at w) (to_be_bytes w) (IsBelow top)
number_read_back w top wide at n rest lt =
    let len = wide.len n in
    let long : ltb (length (to_be_bytes w n ++ rest)) (byte_len w) ≡ false = le-ltb _ _ (omega (arith, length-append (to_be_bytes w n) rest)) in
    rw (long, take_at (to_be_bytes w n) rest (byte_len w) len, drop_at (to_be_bytes w n) rest (byte_len w) len, wide.again n lt, len) refl
