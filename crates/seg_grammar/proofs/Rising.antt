-- A loop that reads rising numbers.
use Rattle.std.proofs.Common.{◌≡◌, ℕ, zero, suc, ◌-◌, ◌+◌, ◌≤◌, ◌<◌, List, Result, Ok, Err, refl, arith}
use Rattle.std.proofs.lemmas.Bool.{le-ltb, lt-leb, le-leb, lt-ltb}
use Rattle.facet_codec.specs.declared.fault.CodecFault.{CodecFault}
use Rattle.facet_codec.specs.Places.{Place}
use Rattle.facet_codec.specs.Faults.{fault_at}
use Rattle.facet_codec.specs.Reading.{u32_at}
use Rattle.facet_codec.proofs.Lists.{IsPart, part_more, part_fails, part_done}
use Rattle.seg_grammar.specs.declared.fault.SegFault.{SegFault}
use Rattle.seg_grammar.specs.declared.fault.SegFault.TheVariants.{Codec, Disorder}
use Rattle.seg_grammar.specs.Reading.{rising_at}

abbrev Numbers : Type 0
Numbers = Result (List ℕ × Place) SegFault

pub rising_more : (n i low high : ℕ) (p q : Place) (x : ℕ) (total : Numbers) → i < n → u32_at p ≡ Ok (x, q) → low ≤ x → x < high → IsPart (rising_at (n - i) low high p) total → IsPart (rising_at (n - (i + 1)) (x + 1) high q) total
unfolding rising_at
rising_more n i low high p q x total lt e le below h =
    let k : n - i ≡ suc (n - (i + 1)) = omega arith in
    part_more x (rising_at (n - (i + 1)) (x + 1) high q) total (rw (k, e, le-ltb x low le, lt-leb high x below) at h)

pub rising_fails : (n i low high : ℕ) (p : Place) (f : CodecFault) (total : Numbers) → i < n → u32_at p ≡ Err f → IsPart (rising_at (n - i) low high p) total → total ≡ Err (Codec (fault_at f))
unfolding rising_at
rising_fails n i low high p f total lt e h =
    let k : n - i ≡ suc (n - (i + 1)) = omega arith in
    part_fails (Codec (fault_at f)) (rising_at (n - i) low high p) total (rw (k, e) refl) h

pub rising_low : (n i low high : ℕ) (p q : Place) (x : ℕ) (total : Numbers) → i < n → u32_at p ≡ Ok (x, q) → x < low → IsPart (rising_at (n - i) low high p) total → total ≡ Err (Disorder p.at)
unfolding rising_at
rising_low n i low high p q x total lt e below h =
    let k : n - i ≡ suc (n - (i + 1)) = omega arith in
    part_fails (Disorder p.at) (rising_at (n - i) low high p) total (rw (k, e, lt-ltb x low below) refl) h

pub rising_high : (n i low high : ℕ) (p q : Place) (x : ℕ) (total : Numbers) → i < n → u32_at p ≡ Ok (x, q) → low ≤ x → high ≤ x → IsPart (rising_at (n - i) low high p) total → total ≡ Err (Disorder p.at)
unfolding rising_at
rising_high n i low high p q x total lt e le above h =
    let k : n - i ≡ suc (n - (i + 1)) = omega arith in
    part_fails (Disorder p.at) (rising_at (n - i) low high p) total (rw (k, e, le-ltb x low le, le-leb high x above) refl) h

pub rising_done : (n i low high : ℕ) (p : Place) (total : Numbers) → n ≤ i → IsPart (rising_at (n - i) low high p) total → (xs : List ℕ) × (total ≡ Ok (xs, p))
unfolding rising_at
rising_done n i low high p total le h =
    let k : n - i ≡ zero = omega arith in
    part_done p (rising_at (n - i) low high p) total (rw k refl) h
