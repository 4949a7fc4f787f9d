-- What is spelled so, and is within the limits, is read.
use Rattle.std.proofs.Common.{◌≡◌, ℕ, ◌+◌, ◌^◌, ◌≤◌, ◌<◌, true, List, [], ◌∷◌, ◌++◌, length, Option, Some, None, Ok, refl, sym, ap, ◌∙◌, append_assoc, arith, length-append}
use Rattle.std.specs.List.{flat_map, AllByRecursion}
use Rattle.std.proofs.lemmas.List.{append-nil}
use Rattle.std.proofs.lemmas.Bool.{le-ltb, lt-leb, ne_eqb}
use Rattle.facet_codec.specs.Faults.{fault_at}
use Rattle.facet_codec.specs.Spelling.{be32, vint, text}
use Rattle.facet_codec.specs.Reading.{u32_at, vint_at, text_at}
use Rattle.facet_codec.specs.Laws.{ReadsBack, IsBelow, IsText}
use Rattle.facet_codec.proofs.Taking.{told_read_back, place_at}
use Rattle.facet_codec.proofs.Lists.{list_read_back}
use Rattle.facet_codec.proofs.EachKind.{u32_read_back, vint_read_back, text_read_back}
use Rattle.seg_postings.specs.Rising.{IsBelowAll, IsRising}
use Rattle.facet_model.specs.Stored.{Records}
use Rattle.seg_grammar.specs.declared.fault.SegFault.{SegFault}
use Rattle.seg_grammar.specs.declared.fault.SegFault.TheVariants.{BadMagic, BadVersion, Codec, Disorder, NoMemory}
use Rattle.seg_grammar.specs.Spelling.{list_bytes, front_bytes, record_bytes, places_bytes, term_bytes, seg_bytes, IsId, AreLeaves, AreCounted, IsRecord, ArePlacesBelow, IsTerm, comes_after, TermsRise, IsSegment}
use Rattle.seg_grammar.specs.Reading.{Fails, codec, number_at, count_at, some_at, rising_at, id_at, leaves_at, counted_at, record_at, key_at, places_at, term_at, terms_at, head_at, docs_at, segment_at}

-- ---- numbers and texts

pub number_again : ReadsBack number_at be32 (IsBelow (2 ^ 32))
number_again = told_read_back (λ e. Codec (fault_at e)) u32_at be32 (IsBelow (2 ^ 32)) u32_read_back

vint_again : ReadsBack (λ p. codec (vint_at p)) vint (IsBelow (2 ^ 32))
vint_again = told_read_back (λ e. Codec (fault_at e)) vint_at vint (IsBelow (2 ^ 32)) vint_read_back

text_again : (max : ℕ) → max < 2 ^ 32 → ReadsBack (λ p. codec (text_at max p)) text (IsText max)
text_again max lt = told_read_back (λ e. Codec (fault_at e)) (text_at max) text (IsText max) (text_read_back max lt)

count_again : (max at n : ℕ) (rest : List ℕ) → n ≤ max → n < 2 ^ 32 → count_at max (place_at at (vint n ++ rest)) ≡ Ok (n, place_at (at + length (vint n)) rest)
unfolding count_at
count_again max at n rest le lt = rw (vint_again at n rest lt, le-ltb max n le) refl

from_after : (x : ℕ) (xs : List ℕ) → IsBelowAll x xs → AllByRecursion (λ y. x + 1 ≤ y) xs
from_after x [] h = tt
from_after x (y ∷ ys) h = (omega (arith, h.0), from_after x ys h.1)

rising_again : (xs : List ℕ) (low high at : ℕ) (rest : List ℕ) → AllByRecursion (λ y. low ≤ y) xs → AllByRecursion (IsBelow high) xs → AllByRecursion (IsBelow (2 ^ 32)) xs → IsRising xs → rising_at (length xs) low high (place_at at (flat_map be32 xs ++ rest)) ≡ Ok (xs, place_at (at + length (flat_map be32 xs)) rest)
unfolding rising_at
rising_again [] low high at rest f b h r = ap (λ (n : ℕ). Ok ([], place_at n rest)) (omega arith)
rising_again (x ∷ xs) low high at rest f b h r =
    let far : at + 4 + length (flat_map be32 xs) ≡ at + length (flat_map be32 (x ∷ xs)) = omega arith in
    rw (number_again at x (flat_map be32 xs ++ rest) h.0, le-ltb x low f.0, lt-leb high x b.0, rising_again xs (x + 1) high (at + 4) rest (from_after x xs r.0) b.1 h.1 r.1) (ap (λ (n : ℕ). Ok (x ∷ xs, place_at n rest)) far)

pub low_all : (xs : List ℕ) → AllByRecursion (λ y. 0 ≤ y) xs
low_all [] = tt
low_all (x ∷ xs) = (omega arith, low_all xs)

-- ---- records

id_again : (at : ℕ) (t rest : List ℕ) → IsId t → id_at (place_at at (text t ++ rest)) ≡ Ok (t, place_at (at + length (text t)) rest)
unfolding id_at
id_again at t rest fits = rw (text_again 256 (omega arith) at t rest fits.text, ne_eqb (length t) 0 (λ e. omega (arith, fits.some))) refl

leaves_again : (at : ℕ) (ns rest : List ℕ) → AreLeaves ns → leaves_at (place_at at (list_bytes ns ++ rest)) ≡ Ok (ns, place_at (at + length (list_bytes ns)) rest)
unfolding leaves_at
leaves_again at ns rest fits =
    let regrouped : list_bytes ns ++ rest ≡ vint (length ns) ++ (flat_map be32 ns ++ rest) = append_assoc (vint (length ns)) (flat_map be32 ns) rest in
    let count = count_again 256 at (length ns) (flat_map be32 ns ++ rest) fits.few (omega (arith, fits.few)) in
    let numbers = list_read_back number_at be32 (IsBelow (2 ^ 32)) number_again (length ns) (at + length (vint (length ns))) ns rest (record { count = refl; fit = fits.fit }) in
    let far : at + length (vint (length ns)) + length (flat_map be32 ns) ≡ at + length (list_bytes ns) = omega (arith, length-append (vint (length ns)) (flat_map be32 ns)) in
    rw (regrouped, count, numbers) (ap (λ (n : ℕ). Ok (ns, place_at n rest)) far)

counted_again : (at : ℕ) (ns rest : List ℕ) → AreCounted ns → counted_at (place_at at (list_bytes ns ++ rest)) ≡ Ok (ns, place_at (at + length (list_bytes ns)) rest)
unfolding counted_at
counted_again at ns rest fits =
    let regrouped : list_bytes ns ++ rest ≡ vint (length ns) ++ (flat_map be32 ns ++ rest) = append_assoc (vint (length ns)) (flat_map be32 ns) rest in
    let count = count_again 8192 at (length ns) (flat_map be32 ns ++ rest) fits.few (omega (arith, fits.few)) in
    let numbers = rising_again ns 0 (2 ^ 32) (at + length (vint (length ns))) rest (low_all ns) fits.fit fits.fit fits.rise in
    let far : at + length (vint (length ns)) + length (flat_map be32 ns) ≡ at + length (list_bytes ns) = omega (arith, length-append (vint (length ns)) (flat_map be32 ns)) in
    rw (regrouped, count, numbers) (ap (λ (n : ℕ). Ok (ns, place_at n rest)) far)

record_again : ReadsBack record_at record_bytes IsRecord
unfolding record_at record_bytes front_bytes
record_again at r rest fits =
    let t4 : List ℕ = list_bytes r.counted ++ rest in
    let t3 : List ℕ = list_bytes r.leaves ++ t4 in
    let t2 : List ℕ = text r.text ++ t3 in
    let regrouped : record_bytes r ++ rest ≡ text r.id ++ t2 = simp append_assoc in
    let a1 = at + length (text r.id) in
    let a2 = a1 + length (text r.text) in
    let a3 = a2 + length (list_bytes r.leaves) in
    let e1 = id_again at r.id t2 fits.id in
    let e2 = text_again 65536 (omega arith) a1 r.text t3 fits.text in
    let e3 = leaves_again a2 r.leaves t4 fits.leaves in
    let e4 = counted_again a3 r.counted rest fits.counted in
    let far : a3 + length (list_bytes r.counted) ≡ at + length (record_bytes r) = simp length-append (omega arith) in
    rw (regrouped, e1, e2, e3, e4) (ap (λ (n : ℕ). Ok (r, place_at n rest)) far)

-- ---- terms

pub fit_below : (docs : ℕ) (xs : List ℕ) → docs < 2 ^ 32 → AllByRecursion (IsBelow docs) xs → AllByRecursion (IsBelow (2 ^ 32)) xs
fit_below docs [] lt h = tt
fit_below docs (x ∷ xs) lt h = (omega (arith, h.0), fit_below docs xs lt h.1)

-- rising numbers between two bounds are no more than lie between
pub length_between : (low high : ℕ) (xs : List ℕ) → low ≤ high → AllByRecursion (λ y. low ≤ y) xs → AllByRecursion (IsBelow high) xs → IsRising xs → low + length xs ≤ high
length_between low high [] le f b r = omega arith
length_between low high (x ∷ xs) le f b r = omega (arith, f.0, length_between (x + 1) high xs (omega (arith, b.0)) (from_after x xs r.0) b.1 r.1)

places_again : (docs at : ℕ) (ns rest : List ℕ) → docs < 2 ^ 32 → ArePlacesBelow docs ns → places_at docs (place_at at (places_bytes ns ++ rest)) ≡ Ok (ns, place_at (at + length (places_bytes ns)) rest)
unfolding places_at some_at
places_again docs at ns rest lt fits =
    let few : length ns < 2 ^ 32 = omega (arith, length_between 0 docs ns (omega arith) (low_all ns) fits.below fits.rise) in
    let count = number_again at (length ns) (flat_map be32 ns ++ rest) few in
    let numbers = rising_again ns 0 docs (at + 4) rest (low_all ns) fits.below (fit_below docs ns lt fits.below) fits.rise in
    let far : at + 4 + length (flat_map be32 ns) ≡ at + length (places_bytes ns) = omega arith in
    rw (count, ne_eqb (length ns) 0 (λ e. omega (arith, fits.some)), numbers) (ap (λ (n : ℕ). Ok (ns, place_at n rest)) far)

term_again : (previous : Option (List ℕ)) (docs at : ℕ) (t : List ℕ × List ℕ) (rest : List ℕ) → docs < 2 ^ 32 → IsTerm docs t → comes_after previous t.0 ≡ true → term_at previous docs (place_at at (term_bytes t ++ rest)) ≡ Ok (t, place_at (at + length (term_bytes t)) rest)
unfolding term_at key_at term_bytes
term_again previous docs at t rest lt fits after =
    let t2 : List ℕ = places_bytes t.1 ++ rest in
    let regrouped : term_bytes t ++ rest ≡ text t.0 ++ t2 = append_assoc (text t.0) (places_bytes t.1) rest in
    let a1 = at + length (text t.0) in
    let e1 = text_again 65568 (omega arith) at t.0 t2 fits.text in
    let e2 = places_again docs a1 t.1 rest lt fits.places in
    let far : a1 + length (places_bytes t.1) ≡ at + length (term_bytes t) = omega (arith, length-append (text t.0) (places_bytes t.1)) in
    rw (regrouped, e1, after, e2) (ap (λ (n : ℕ). Ok (t, place_at n rest)) far)

terms_again : (previous : Option (List ℕ)) (docs at : ℕ) (ts : List (List ℕ × List ℕ)) (rest : List ℕ) → docs < 2 ^ 32 → AllByRecursion (IsTerm docs) ts → TermsRise previous ts → terms_at (length ts) previous docs (place_at at (flat_map term_bytes ts ++ rest)) ≡ Ok (ts, place_at (at + length (flat_map term_bytes ts)) rest)
unfolding terms_at
terms_again previous docs at [] rest lt h r = ap (λ (n : ℕ). Ok ([], place_at n rest)) (omega arith)
terms_again previous docs at (t ∷ ts) rest lt h r =
    let regrouped : flat_map term_bytes (t ∷ ts) ++ rest ≡ term_bytes t ++ (flat_map term_bytes ts ++ rest) = append_assoc (term_bytes t) (flat_map term_bytes ts) rest in
    let far : at + length (term_bytes t) + length (flat_map term_bytes ts) ≡ at + length (term_bytes t ++ flat_map term_bytes ts) = omega (arith, length-append (term_bytes t) (flat_map term_bytes ts)) in
    rw (regrouped, term_again previous docs at t (flat_map term_bytes ts ++ rest) lt h.0 r.0, terms_again (Some t.0) docs (at + length (term_bytes t)) ts rest lt h.1 r.1) (ap (λ (n : ℕ). Ok (t ∷ ts, place_at n rest)) far)

-- ---- all of it

pub segment_again : (bytes : List ℕ) (r : Records) → IsSegment bytes r → segment_at bytes ≡ Ok r
unfolding segment_at seg_bytes head_at docs_at
segment_again bytes r h =
    let t5 : List ℕ = flat_map term_bytes r.terms ++ [] in
    let t4 : List ℕ = be32 (length r.terms) ++ t5 in
    let t3 : List ℕ = flat_map record_bytes r.records ++ t4 in
    let t2 : List ℕ = be32 (length r.records) ++ t3 in
    let t1 : List ℕ = be32 1 ++ t2 in
    let whole : bytes ≡ be32 0x46534547 ++ t1 = h.spelled ∙ ap (λ (w : List ℕ). be32 0x46534547 ++ (be32 1 ++ (be32 (length r.records) ++ (flat_map record_bytes r.records ++ (be32 (length r.terms) ++ w))))) (sym (append-nil (flat_map term_bytes r.terms))) in
    let docs : length r.records < 2 ^ 32 = omega (arith, h.few) in
    let behind = 12 + length (flat_map record_bytes r.records) in
    let e1 = u32_read_back 0 0x46534547 t1 (omega arith) in
    let e2 = number_again 4 1 t2 (omega arith) in
    let e3 = number_again 8 (length r.records) t3 docs in
    let e4 = list_read_back record_at record_bytes IsRecord record_again (length r.records) 12 r.records t4 (record { count = refl; fit = h.records }) in
    let e5 = number_again behind (length r.terms) t5 h.terms_count in
    let e6 = terms_again None (length r.records) (behind + 4) r.terms [] docs h.terms h.rise in
    rw (whole, e1, e2, e3, ne_eqb (length r.records) 0 (λ e. omega (arith, h.some)), le-ltb 1000000 (length r.records) h.few, e4, e5, e6) (ap (λ (dead : List ℕ). Ok (record { records = r.records; terms = r.terms; dead = dead })) (sym h.live))

-- reading meets no fault in a segment
pub segment_no_fault : (bytes : List ℕ) (r : Records) (e : SegFault) → IsSegment bytes r → Fails e (segment_at bytes) → e ≡ NoMemory
segment_no_fault bytes r BadMagic h f = let a = segment_again bytes r h in absurd cc
segment_no_fault bytes r (BadVersion v) h f = let a = segment_again bytes r h in absurd cc
segment_no_fault bytes r (Codec at) h f = let a = segment_again bytes r h in absurd cc
segment_no_fault bytes r (Disorder at) h f = let a = segment_again bytes r h in absurd cc
segment_no_fault bytes r NoMemory h f = refl
