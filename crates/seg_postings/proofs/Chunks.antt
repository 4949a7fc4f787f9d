-- The places that bytes are.
use Rattle.std.proofs.Common.{◌≡◌, ℕ, ◌+◌, ◌*◌, ◌/◌, ◌<◌, ◌≤◌, ◌^◌, List, [], ◌∷◌, length, drop, refl, sym, ap, ◌∙◌, arith, get_or}
use Rattle.std.specs.List.{AllByRecursion}
use Rattle.std.specs.Simd.{first_chunks}
use Rattle.std.proofs.lemmas.Nat.{from_be_bytes-to_be_bytes_4}
use Rattle.std.proofs.lemmas.List.{get_or-map, drop-map, length-map}
use Rattle.seg_postings.specs.Rising.{IsRising, from_place}
use Rattle.seg_postings.specs.Steps.{IsFirstFrom}
use Rattle.seg_postings.proofs.Order.{rising_get, rising_drop, from_drop}
use Rattle.facet_codec.specs.Laws.{IsBelow}
use Rattle.seg_postings.specs.Bytes.{bytes_of, place_of, places_of, ArePlaces, AreRisingPlaces, AreNumbers}

-- the places that the bytes are
abbrev pub places_in : List ℕ → List ℕ
places_in bytes = places_of (first_chunks 4 (length bytes / 4) bytes)

pub length_bytes : (ps : List ℕ) → length (bytes_of ps) ≡ 4 * length ps
length_bytes [] = refl
length_bytes (p ∷ ps) = omega (arith, length_bytes ps)

pub chunks_back : (ps : List ℕ) → AllByRecursion (IsBelow (2 ^ 32)) ps → places_of (first_chunks 4 (length ps) (bytes_of ps)) ≡ ps
chunks_back [] h = refl
chunks_back (p ∷ ps) h = ap (λ (x : ℕ). x ∷ places_of (first_chunks 4 (length ps) (bytes_of ps))) (from_be_bytes-to_be_bytes_4 p h.0) ∙ ap (λ (xs : List ℕ). p ∷ xs) (chunks_back ps h.1)

pub places_back : (ps : List ℕ) → AllByRecursion (IsBelow (2 ^ 32)) ps → places_in (bytes_of ps) ≡ ps
places_back ps h =
    let n : length (bytes_of ps) / 4 ≡ length ps = omega (arith, length_bytes ps) in
    rw n (chunks_back ps h)

pub places_are : (bytes places : List ℕ) → ArePlaces bytes places → places_in bytes ≡ places
places_are bytes places h = rw h.spelled (places_back places h.fit)

pub numbers_are : (bytes numbers : List ℕ) → AreNumbers bytes numbers → places_in bytes ≡ numbers
numbers_are bytes numbers h = rw h.spelled (places_back numbers h.fit)

pub rising_in : (bytes : List ℕ) → AreRisingPlaces bytes → IsRising (places_in bytes)
rising_in bytes h = rw (places_are bytes h.0 h.1) h.1.rise

-- ---- the search for the first place from p on

pub place_at : (chunks : List (List ℕ)) (m v : ℕ) (d : List ℕ) → m < length chunks → v ≡ place_of (get_or chunks m d) → get_or (places_of chunks) m 0 ≡ v
place_at chunks m v d lt e = get_or-map place_of chunks m d 0 lt ∙ sym e

pub first_low : (p : ℕ) (chunks : List (List ℕ)) (low high m v : ℕ) (d : List ℕ) → IsRising (places_of chunks) → IsFirstFrom p (places_of chunks) low high → m < length chunks → v ≡ place_of (get_or chunks m d) → v < p → IsFirstFrom p (places_of chunks) (m + 1) high
first_low p chunks low high m v d k h lt e below = record {
  below = λ j jl. omega (arith, rising_get (places_of chunks) k j m (omega arith) (rw length-map lt), place_at chunks m v d lt e);
  from = h.from;
}

pub first_high : (p : ℕ) (chunks : List (List ℕ)) (low high m v : ℕ) (d : List ℕ) → IsRising (places_of chunks) → IsFirstFrom p (places_of chunks) low high → m < length chunks → v ≡ place_of (get_or chunks m d) → p ≤ v → IsFirstFrom p (places_of chunks) low m
first_high p chunks low high m v d k h lt e above = record {
  below = h.below;
  from = λ j le jl. omega (arith, rising_get (places_of chunks) k m j le jl, place_at chunks m v d lt e);
}

pub first_drop : (p : ℕ) (chunks : List (List ℕ)) (n : ℕ) → n ≤ length chunks → IsFirstFrom p (places_of chunks) n n → from_place p (places_of chunks) ≡ places_of (drop n chunks)
first_drop p chunks n le h = from_drop p (places_of chunks) n (rw length-map le) h.below h.from ∙ drop-map place_of n chunks

pub rising_dropped : (chunks : List (List ℕ)) (n : ℕ) → IsRising (places_of chunks) → IsRising (places_of (drop n chunks))
rising_dropped chunks n h = rw (← drop-map place_of n chunks) (rising_drop n (places_of chunks) h)
