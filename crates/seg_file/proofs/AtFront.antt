-- What reading gives where it is known what stands at the front.
use Rattle.std.proofs.Common.{◌≡◌, ℕ, ◌+◌, ◌*◌, ◌^◌, ◌<◌, List, ◌++◌, length, Ok, Err, refl, ap, ◌∙◌, append_assoc, arith}
use Rattle.std.specs.List.{flat_map}
use Rattle.facet_codec.specs.declared.fault.CodecFault.{CodecFault}
use Rattle.facet_codec.specs.Places.{Place}
use Rattle.facet_codec.specs.Spelling.{be32, vint}
use Rattle.facet_codec.specs.Reading.{u32_at, vint_at, bytes_at}
use Rattle.facet_codec.proofs.EachKind.{u32_read_back, vint_read_back, bytes_read_back}
use Rattle.seg_postings.specs.Bytes.{ArePlaces, AreNumbers}
use Rattle.seg_postings.proofs.Chunks.{length_bytes}
use Rattle.seg_file.specs.Fronts.{BeginsText, BeginsList, BeginsPlaces}
use Rattle.facet_codec.proofs.Taking.{place_at}

vint_is : (p : Place) (m : ℕ) (rest : List ℕ) → m < 2 ^ 32 → p.rest ≡ vint m ++ rest → vint_at p ≡ Ok (m, place_at (p.at + length (vint m)) rest)
vint_is p m rest lt e = ap (λ (bytes : List ℕ). vint_at (place_at p.at bytes)) e ∙ vint_read_back p.at m rest lt

number_is : (p : Place) (m : ℕ) (rest : List ℕ) → m < 2 ^ 32 → p.rest ≡ be32 m ++ rest → u32_at p ≡ Ok (m, place_at (p.at + 4) rest)
number_is p m rest lt e = ap (λ (bytes : List ℕ). u32_at (place_at p.at bytes)) e ∙ u32_read_back p.at m rest lt

bytes_are : (p : Place) (n : ℕ) (front tail : List ℕ) → n ≡ length front → p.rest ≡ front ++ tail → bytes_at n p ≡ Ok (front, place_at (p.at + length front) tail)
bytes_are p n front tail k e = ap (λ (m : ℕ). bytes_at m p) k ∙ ap (λ (bytes : List ℕ). bytes_at (length front) (place_at p.at bytes)) e ∙ bytes_read_back (length front) p.at front tail refl

pub vint_front : (p q : Place) (n m : ℕ) (rest : List ℕ) → m < 2 ^ 32 → p.rest ≡ vint m ++ rest → vint_at p ≡ Ok (n, q) → (n ≡ m) × (q.rest ≡ rest)
vint_front p q n m rest lt e f =
    let same : (n, q) ≡ (m, place_at (p.at + length (vint m)) rest) = let a = vint_is p m rest lt e in cc in
    (ap (λ (x : ℕ × Place). x.0) same, ap (λ (x : ℕ × Place). x.1.rest) same)

pub no_vint_fault : (p : Place) (f : CodecFault) (m : ℕ) (rest : List ℕ) → m < 2 ^ 32 → p.rest ≡ vint m ++ rest → vint_at p ≡ Err f → ⊥
no_vint_fault p f m rest lt e h = let a = vint_is p m rest lt e in cc

pub number_front : (p q : Place) (n m : ℕ) (rest : List ℕ) → m < 2 ^ 32 → p.rest ≡ be32 m ++ rest → u32_at p ≡ Ok (n, q) → (n ≡ m) × (q.rest ≡ rest)
number_front p q n m rest lt e f =
    let same : (n, q) ≡ (m, place_at (p.at + 4) rest) = let a = number_is p m rest lt e in cc in
    (ap (λ (x : ℕ × Place). x.0) same, ap (λ (x : ℕ × Place). x.1.rest) same)

pub bytes_front : (p q : Place) (n : ℕ) (bytes front tail : List ℕ) → n ≡ length front → p.rest ≡ front ++ tail → bytes_at n p ≡ Ok (bytes, q) → (bytes ≡ front) × (q.rest ≡ tail)
bytes_front p q n bytes front tail k e f =
    let same : (bytes, q) ≡ (front, place_at (p.at + length front) tail) = let a = bytes_are p n front tail k e in cc in
    (ap (λ (x : List ℕ × Place). x.0) same, ap (λ (x : List ℕ × Place). x.1.rest) same)

pub no_bytes_fault : (p : Place) (n : ℕ) (f : CodecFault) (front tail : List ℕ) → n ≡ length front → p.rest ≡ front ++ tail → bytes_at n p ≡ Err f → ⊥
no_bytes_fault p n f front tail k e h = let a = bytes_are p n front tail k e in cc

-- ---- texts

pub text_split : (bytes t tail : List ℕ) → BeginsText bytes t tail → bytes ≡ vint (length t) ++ (t ++ tail)
text_split bytes t tail h = h.is ∙ append_assoc (vint (length t)) t tail

-- ---- lists of numbers

pub list_split : (bytes ns tail : List ℕ) → BeginsList bytes ns tail → bytes ≡ vint (length ns) ++ (flat_map be32 ns ++ tail)
list_split bytes ns tail h = h.is ∙ append_assoc (vint (length ns)) (flat_map be32 ns) tail

-- as many bytes as the count says
pub four_each : (n : ℕ) (ns : List ℕ) → n ≡ length ns → 4 * n ≡ length (flat_map be32 ns)
four_each n ns e = omega (arith, length_bytes ns)

pub are_numbers : (bytes list ns tail : List ℕ) → BeginsList list ns tail → bytes ≡ flat_map be32 ns → AreNumbers bytes ns
are_numbers bytes list ns tail h e = record { spelled = e; fit = h.fit }

-- ---- places

pub places_split : (bytes places tail : List ℕ) → BeginsPlaces bytes places tail → bytes ≡ be32 (length places) ++ (flat_map be32 places ++ tail)
places_split bytes places tail h = h.is ∙ append_assoc (be32 (length places)) (flat_map be32 places) tail

pub are_places : (bytes list places tail : List ℕ) → BeginsPlaces list places tail → bytes ≡ flat_map be32 places → ArePlaces bytes places
are_places bytes list places tail h e = record { spelled = e; fit = h.fit; rise = h.rise }
