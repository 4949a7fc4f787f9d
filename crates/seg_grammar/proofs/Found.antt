-- What is read is spelled so, and is within the limits.
use Rattle.std.proofs.Common.{◌≡◌, ℕ, zero, suc, ◌+◌, ◌^◌, ◌≤◌, ◌<◌, true, cond, ◌||◌, leb, ltb, eqb, List, [], ◌∷◌, ◌++◌, length, Option, Some, None, Result, Ok, Err, refl, sym, ap, subst, ◌∙◌, arith}
use Rattle.std.specs.List.{flat_map, AllByRecursion}
use Rattle.std.proofs.lemmas.List.{append-nil, nil_from_length}
use Rattle.std.proofs.lemmas.Bool.{ltb-false, leb-false, eqb-false, eqb-true, or_parts}
use Rattle.facet_codec.specs.declared.fault.CodecFault.{CodecFault}
use Rattle.facet_codec.specs.Places.{Place, IsBytes}
use Rattle.facet_codec.specs.Faults.{fault_at}
use Rattle.facet_codec.specs.Spelling.{be32, vint, text}
use Rattle.facet_codec.specs.Reading.{◌>>=◌, u32_at, vint_at, text_at}
use Rattle.facet_codec.specs.Lists.{list_at, AreSoMany}
use Rattle.facet_codec.specs.Laws.{Takes, IsSpelled, IsBelow, IsText}
use Rattle.facet_codec.proofs.Taking.{Takes-none, Takes-then, done, done_is, bind_ok, guard_ok, guard_yes, told_spelled}
use Rattle.facet_codec.proofs.Lists.{list_spelled, one_more}
use Rattle.facet_codec.proofs.EachKind.{u32_spelled, vint_spelled, text_spelled}
use Rattle.seg_postings.specs.Rising.{IsBelowAll, IsRising}
use Rattle.facet_model.specs.Stored.{Stored, Records}
use Rattle.seg_grammar.specs.declared.fault.SegFault.{SegFault}
use Rattle.seg_grammar.specs.declared.fault.SegFault.TheVariants.{BadMagic, BadVersion, Codec, Disorder}
use Rattle.seg_grammar.specs.Spelling.{list_bytes, front_bytes, record_bytes, places_bytes, term_bytes, seg_bytes, IsId, AreLeaves, AreCounted, IsRecord, ArePlacesBelow, IsTerm, comes_after, TermsRise, IsSegment}
use Rattle.seg_grammar.specs.Reading.{codec, number_at, count_at, some_at, rising_at, id_at, leaves_at, counted_at, record_at, key_at, places_at, term_at, terms_at, magic_of, head_at, docs_at, segment_at}

-- ---- numbers and texts

pub number_spelled : IsSpelled number_at be32 (IsBelow (2 ^ 32))
number_spelled = told_spelled (λ e. Codec (fault_at e)) u32_at be32 (IsBelow (2 ^ 32)) u32_spelled

pub vint_told : IsSpelled (λ p. codec (vint_at p)) vint (IsBelow (2 ^ 32))
vint_told = told_spelled (λ e. Codec (fault_at e)) vint_at vint (IsBelow (2 ^ 32)) vint_spelled

pub text_told : (max : ℕ) → IsSpelled (λ p. codec (text_at max p)) text (IsText max)
text_told max = told_spelled (λ e. Codec (fault_at e)) (text_at max) text (IsText max) (text_spelled max)

numbers_spelled : (n : ℕ) → IsSpelled (list_at number_at n) (flat_map be32) (AreSoMany (IsBelow (2 ^ 32)) n)
numbers_spelled n = list_spelled number_at be32 (IsBelow (2 ^ 32)) number_spelled n

count_spelled : (max : ℕ) → IsSpelled (count_at max) vint (λ n. n ≤ max)
unfolding count_at
count_spelled max p n q fits e =
    let a = bind_ok (codec (vint_at p)) (λ m. cond (ltb max m.0) (Err (Codec p.at)) (done m)) (n, q) e in
    let g = guard_ok (ltb max a.0.0) (Codec p.at) (done a.0) (n, q) a.2 in
    let k = vint_told p a.0.0 a.0.1 fits a.1 in
    subst (λ (x : ℕ × Place). Takes p (vint x.0) x.1 × (x.0 ≤ max)) (done_is SegFault a.0 (n, q) g.1) (k.0, ltb-false _ _ g.0)

some_spelled : IsSpelled some_at be32 (λ n. 1 ≤ n)
unfolding some_at
some_spelled p n q fits e =
    let a = bind_ok (number_at p) (λ m. cond (eqb m.0 0) (Err (Disorder p.at)) (done m)) (n, q) e in
    let g = guard_ok (eqb a.0.0 0) (Disorder p.at) (done a.0) (n, q) a.2 in
    let k = number_spelled p a.0.0 a.0.1 fits a.1 in
    let ne = eqb-false a.0.0 0 g.0 in
    subst (λ (x : ℕ × Place). Takes p (be32 x.0) x.1 × (1 ≤ x.0)) (done_is SegFault a.0 (n, q) g.1) (k.0, omega arith)

-- ---- rising numbers

-- so many numbers that rise from low on, and stay below high
pub record RiseWithin (n low high : ℕ) (xs : List ℕ) : Type 0 where
  pub count : length xs ≡ n
  pub from : AllByRecursion (λ x. low ≤ x) xs
  pub below : AllByRecursion (IsBelow high) xs
  pub fit : AllByRecursion (IsBelow (2 ^ 32)) xs
  pub rise : IsRising xs

below_from : (x : ℕ) (xs : List ℕ) → AllByRecursion (λ y. x + 1 ≤ y) xs → IsBelowAll x xs
below_from x [] h = tt
below_from x (y ∷ ys) h = (omega (arith, h.0), below_from x ys h.1)

from_more : (low x : ℕ) (xs : List ℕ) → low ≤ x → AllByRecursion (λ y. x + 1 ≤ y) xs → AllByRecursion (λ y. low ≤ y) xs
from_more low x [] le h = tt
from_more low x (y ∷ ys) le h = (omega (arith, h.0), from_more low x ys le h.1)

pub rising_spelled : (n low high : ℕ) → IsSpelled (rising_at n low high) (flat_map be32) (RiseWithin n low high)
unfolding rising_at
rising_spelled zero low high p xs q fits e =
    subst (λ (x : List ℕ × Place). Takes p (flat_map be32 x.0) x.1 × RiseWithin 0 low high x.0) (done_is SegFault ([], p) (xs, q) e)
    (Takes-none p fits, record { count = refl; from = tt; below = tt; fit = tt; rise = tt })
rising_spelled (suc n) low high p xs q fits e =
    let a = bind_ok (number_at p) (λ first. cond (ltb first.0 low || leb high first.0) (Err (Disorder p.at)) (one_more first.0 (rising_at n (first.0 + 1) high first.1))) (xs, q) e in
    let g = guard_ok (ltb a.0.0 low || leb high a.0.0) (Disorder p.at) (one_more a.0.0 (rising_at n (a.0.0 + 1) high a.0.1)) (xs, q) a.2 in
    let b = bind_ok (rising_at n (a.0.0 + 1) high a.0.1) (λ o. done (a.0.0 ∷ o.0, o.1)) (xs, q) g.1 in
    let t = or_parts (ltb a.0.0 low) (leb high a.0.0) g.0 in
    let le : low ≤ a.0.0 = ltb-false _ _ t.0 in
    let lt : a.0.0 < high = leb-false _ _ t.1 in
    let k = number_spelled p a.0.0 a.0.1 fits a.1 in
    let l = rising_spelled n (a.0.0 + 1) high a.0.1 b.0.0 b.0.1 k.0.bytes b.1 in
    subst (λ (x : List ℕ × Place). Takes p (flat_map be32 x.0) x.1 × RiseWithin (suc n) low high x.0) (done_is SegFault (a.0.0 ∷ b.0.0, b.0.1) (xs, q) b.2) (
      Takes-then p (be32 a.0.0) a.0.1 (flat_map be32 b.0.0) b.0.1 k.0 l.0,
      record {
        count = ap (λ (m : ℕ). suc m) l.1.count;
        from = (le, from_more low a.0.0 b.0.0 le l.1.from);
        below = (lt, l.1.below);
        fit = (k.1, l.1.fit);
        rise = (below_from a.0.0 b.0.0 l.1.from, l.1.rise);
      },
    )

-- ---- records

pub id_spelled : IsSpelled id_at text IsId
unfolding id_at
id_spelled p t q fits e =
    let a = bind_ok (codec (text_at 256 p)) (λ id. cond (eqb (length id.0) 0) (Err (Disorder p.at)) (done id)) (t, q) e in
    let g = guard_ok (eqb (length a.0.0) 0) (Disorder p.at) (done a.0) (t, q) a.2 in
    let k = text_told 256 p a.0.0 a.0.1 fits a.1 in
    let ne = eqb-false (length a.0.0) 0 g.0 in
    subst (λ (x : List ℕ × Place). Takes p (text x.0) x.1 × IsId x.0) (done_is SegFault a.0 (t, q) g.1) (k.0, record { some = omega arith; text = k.1 })

pub leaves_spelled : IsSpelled leaves_at list_bytes AreLeaves
unfolding leaves_at
leaves_spelled p ns q fits e =
    let a = bind_ok (count_at 256 p) (λ n. list_at number_at n.0 n.1) (ns, q) e in
    let k = count_spelled 256 p a.0.0 a.0.1 fits a.1 in
    let l = numbers_spelled a.0.0 a.0.1 ns q k.0.bytes a.2 in
    let count : Takes p (vint (length ns)) a.0.1 = rw l.1.count k.0 in
    (Takes-then p (vint (length ns)) a.0.1 (flat_map be32 ns) q count l.0, record { few = omega (arith, l.1.count, k.1); fit = l.1.fit })

pub counted_spelled : IsSpelled counted_at list_bytes AreCounted
unfolding counted_at
counted_spelled p ns q fits e =
    let a = bind_ok (count_at 8192 p) (λ n. rising_at n.0 0 (2 ^ 32) n.1) (ns, q) e in
    let k = count_spelled 8192 p a.0.0 a.0.1 fits a.1 in
    let l = rising_spelled a.0.0 0 (2 ^ 32) a.0.1 ns q k.0.bytes a.2 in
    let count : Takes p (vint (length ns)) a.0.1 = rw l.1.count k.0 in
    (Takes-then p (vint (length ns)) a.0.1 (flat_map be32 ns) q count l.0, record { few = omega (arith, l.1.count, k.1); fit = l.1.fit; rise = l.1.rise })

-- what stands before the counted ordinals of a record that is being read
pub front_taken : (p a b c : Place) (r : Stored) → IsBytes p.rest → id_at p ≡ Ok (r.id, a) → text_at 65536 a ≡ Ok (r.text, b) → leaves_at b ≡ Ok (r.leaves, c) → Takes p (front_bytes r) c
unfolding front_bytes
front_taken p a b c r fits e f g =
    let ta = id_spelled p r.id a fits e in
    let tb = text_spelled 65536 a r.text b ta.0.bytes f in
    let tc = leaves_spelled b r.leaves c tb.0.bytes g in
    let behind = Takes-then a (text r.text) b (list_bytes r.leaves) c tb.0 tc.0 in
    Takes-then p (text r.id) a (text r.text ++ list_bytes r.leaves) c ta.0 behind

pub record_spelled : IsSpelled record_at record_bytes IsRecord
unfolding record_at record_bytes front_bytes
record_spelled p r q fits e =
    let a = bind_ok (id_at p) (λ id. codec (text_at 65536 id.1) >>= λ text. leaves_at text.1 >>= λ leaves. counted_at leaves.1 >>= λ counted. done (record { id = id.0; text = text.0; leaves = leaves.0; counted = counted.0 }, counted.1)) (r, q) e in
    let b = bind_ok (codec (text_at 65536 a.0.1)) (λ text. leaves_at text.1 >>= λ leaves. counted_at leaves.1 >>= λ counted. done (record { id = a.0.0; text = text.0; leaves = leaves.0; counted = counted.0 }, counted.1)) (r, q) a.2 in
    let c = bind_ok (leaves_at b.0.1) (λ leaves. counted_at leaves.1 >>= λ counted. done (record { id = a.0.0; text = b.0.0; leaves = leaves.0; counted = counted.0 }, counted.1)) (r, q) b.2 in
    let d = bind_ok (counted_at c.0.1) (λ counted. done (record { id = a.0.0; text = b.0.0; leaves = c.0.0; counted = counted.0 }, counted.1)) (r, q) c.2 in
    let ta = id_spelled p a.0.0 a.0.1 fits a.1 in
    let tb = text_told 65536 a.0.1 b.0.0 b.0.1 ta.0.bytes b.1 in
    let tc = leaves_spelled b.0.1 c.0.0 c.0.1 tb.0.bytes c.1 in
    let td = counted_spelled c.0.1 d.0.0 d.0.1 tc.0.bytes d.1 in
    let behind = Takes-then a.0.1 (text b.0.0) b.0.1 (list_bytes c.0.0) c.0.1 tb.0 tc.0 in
    let front = Takes-then p (text a.0.0) a.0.1 (text b.0.0 ++ list_bytes c.0.0) c.0.1 ta.0 behind in
    let whole = Takes-then p (text a.0.0 ++ (text b.0.0 ++ list_bytes c.0.0)) c.0.1 (list_bytes d.0.0) d.0.1 front td.0 in
    let made : Stored × Place = (record { id = a.0.0; text = b.0.0; leaves = c.0.0; counted = d.0.0 }, d.0.1) in
    subst (λ (x : Stored × Place). Takes p (record_bytes x.0) x.1 × IsRecord x.0) (done_is SegFault made (r, q) d.2)
    (whole, record { id = ta.1; text = tb.1; leaves = tc.1; counted = td.1 })

pub records_spelled : (n : ℕ) → IsSpelled (list_at record_at n) (flat_map record_bytes) (AreSoMany IsRecord n)
records_spelled n = list_spelled record_at record_bytes IsRecord record_spelled n

-- ---- terms

key_spelled : (previous : Option (List ℕ)) → IsSpelled (key_at previous) text (λ t. IsText 65568 t × (comes_after previous t ≡ true))
unfolding key_at
key_spelled previous p t q fits e =
    let a = bind_ok (codec (text_at 65568 p)) (λ key. cond (comes_after previous key.0) (done key) (Err (Disorder p.at))) (t, q) e in
    let g = guard_yes (comes_after previous a.0.0) (Disorder p.at) a.0 (t, q) a.2 in
    let k = text_told 65568 p a.0.0 a.0.1 fits a.1 in
    subst (λ (x : List ℕ × Place). Takes p (text x.0) x.1 × (IsText 65568 x.0 × (comes_after previous x.0 ≡ true))) g.1 (k.0, (k.1, g.0))

places_spelled : (docs : ℕ) → IsSpelled (places_at docs) places_bytes (ArePlacesBelow docs)
unfolding places_at
places_spelled docs p ns q fits e =
    let a = bind_ok (some_at p) (λ n. rising_at n.0 0 docs n.1) (ns, q) e in
    let k = some_spelled p a.0.0 a.0.1 fits a.1 in
    let l = rising_spelled a.0.0 0 docs a.0.1 ns q k.0.bytes a.2 in
    let count : Takes p (be32 (length ns)) a.0.1 = subst (λ (m : ℕ). Takes p (be32 m) a.0.1) (sym l.1.count) k.0 in
    (Takes-then p (be32 (length ns)) a.0.1 (flat_map be32 ns) q count l.0, record { some = omega (arith, l.1.count, k.1); below = l.1.below; rise = l.1.rise })

pub term_spelled : (previous : Option (List ℕ)) (docs : ℕ) → IsSpelled (term_at previous docs) term_bytes (λ t. IsTerm docs t × (comes_after previous t.0 ≡ true))
unfolding term_at term_bytes
term_spelled previous docs p t q fits e =
    let a = bind_ok (key_at previous p) (λ key. places_at docs key.1 >>= λ places. done ((key.0, places.0), places.1)) (t, q) e in
    let b = bind_ok (places_at docs a.0.1) (λ places. done ((a.0.0, places.0), places.1)) (t, q) a.2 in
    let ta = key_spelled previous p a.0.0 a.0.1 fits a.1 in
    let tb = places_spelled docs a.0.1 b.0.0 b.0.1 ta.0.bytes b.1 in
    let made : (List ℕ × List ℕ) × Place = ((a.0.0, b.0.0), b.0.1) in
    subst (λ (x : (List ℕ × List ℕ) × Place). Takes p (term_bytes x.0) x.1 × (IsTerm docs x.0 × (comes_after previous x.0.0 ≡ true))) (done_is SegFault made (t, q) b.2)
    (Takes-then p (text a.0.0) a.0.1 (places_bytes b.0.0) b.0.1 ta.0 tb.0, (record { text = ta.1.0; places = tb.1 }, ta.1.1))

-- so many terms that rise
pub record AreTerms (n : ℕ) (previous : Option (List ℕ)) (docs : ℕ) (ts : List (List ℕ × List ℕ)) : Type 0 where
  pub count : length ts ≡ n
  pub fit : AllByRecursion (IsTerm docs) ts
  pub rise : TermsRise previous ts

pub terms_spelled : (n : ℕ) (previous : Option (List ℕ)) (docs : ℕ) → IsSpelled (terms_at n previous docs) (flat_map term_bytes) (AreTerms n previous docs)
unfolding terms_at
terms_spelled zero previous docs p ts q fits e =
    subst (λ (x : List (List ℕ × List ℕ) × Place). Takes p (flat_map term_bytes x.0) x.1 × AreTerms 0 previous docs x.0) (done_is SegFault ([], p) (ts, q) e)
    (Takes-none p fits, record { count = refl; fit = tt; rise = tt })
terms_spelled (suc n) previous docs p ts q fits e =
    let a = bind_ok (term_at previous docs p) (λ first. one_more first.0 (terms_at n (Some first.0.0) docs first.1)) (ts, q) e in
    let b = bind_ok (terms_at n (Some a.0.0.0) docs a.0.1) (λ o. done (a.0.0 ∷ o.0, o.1)) (ts, q) a.2 in
    let k = term_spelled previous docs p a.0.0 a.0.1 fits a.1 in
    let l = terms_spelled n (Some a.0.0.0) docs a.0.1 b.0.0 b.0.1 k.0.bytes b.1 in
    subst (λ (x : List (List ℕ × List ℕ) × Place). Takes p (flat_map term_bytes x.0) x.1 × AreTerms (suc n) previous docs x.0) (done_is SegFault (a.0.0 ∷ b.0.0, b.0.1) (ts, q) b.2)
    (Takes-then p (term_bytes a.0.0) a.0.1 (flat_map term_bytes b.0.0) b.0.1 k.0 l.0, record { count = ap (λ (m : ℕ). suc m) l.1.count; fit = (k.1.0, l.1.fit); rise = (k.1.1, l.1.rise) })

-- ---- the head

magic_ok : (r : Result (ℕ × Place) CodecFault) (q : Place) → magic_of r ≡ Ok q → r ≡ Ok (0x46534547, q)
magic_ok (Ok x) q e =
    let g = guard_yes (eqb x.0 0x46534547) BadMagic x.1 q e in
    ap (λ (z : ℕ × Place). Ok z) (subst (λ (y : Place). x ≡ (0x46534547, y)) g.1 (ap (λ (n : ℕ). (n, x.1)) (eqb-true x.0 0x46534547 g.0)))
magic_ok (Err f) q e = absurd cc

pub head_taken : (p q : Place) → IsBytes p.rest → head_at p ≡ Ok q → Takes p (be32 0x46534547 ++ be32 1) q
unfolding head_at
head_taken p q fits e =
    let a = bind_ok (magic_of (u32_at p)) (λ magic. number_at magic >>= λ version. cond (eqb version.0 1) (done version.1) (Err (BadVersion version.0))) q e in
    let b = bind_ok (number_at a.0) (λ version. cond (eqb version.0 1) (done version.1) (Err (BadVersion version.0))) q a.2 in
    let g = guard_yes (eqb b.0.0 1) (BadVersion b.0.0) b.0.1 q b.2 in
    let ta = u32_spelled p 0x46534547 a.0 fits (magic_ok (u32_at p) a.0 a.1) in
    let tb = number_spelled a.0 b.0.0 b.0.1 ta.0.bytes b.1 in
    let version : Takes a.0 (be32 1) b.0.1 = subst (λ (n : ℕ). Takes a.0 (be32 n) b.0.1) (eqb-true b.0.0 1 g.0) tb.0 in
    subst (λ (x : Place). Takes p (be32 0x46534547 ++ be32 1) x) g.1 (Takes-then p (be32 0x46534547) a.0 (be32 1) b.0.1 ta.0 version)

pub docs_spelled : IsSpelled docs_at be32 (λ n. (1 ≤ n) × (n ≤ 1000000))
unfolding docs_at
docs_spelled p n q fits e =
    let a = bind_ok (number_at p) (λ m. cond (eqb m.0 0) (Err (Disorder p.at)) (cond (ltb 1000000 m.0) (Err (Codec p.at)) (done m))) (n, q) e in
    let g = guard_ok (eqb a.0.0 0) (Disorder p.at) (cond (ltb 1000000 a.0.0) (Err (Codec p.at)) (done a.0)) (n, q) a.2 in
    let h = guard_ok (ltb 1000000 a.0.0) (Codec p.at) (done a.0) (n, q) g.1 in
    let k = number_spelled p a.0.0 a.0.1 fits a.1 in
    let ne = eqb-false a.0.0 0 g.0 in
    subst (λ (x : ℕ × Place). Takes p (be32 x.0) x.1 × ((1 ≤ x.0) × (x.0 ≤ 1000000))) (done_is SegFault a.0 (n, q) h.1) (k.0, (omega arith, ltb-false _ _ h.0))

-- ---- all of it

-- What is read is the segment of its records and terms.
pub segment_found : (bytes : List ℕ) (r : Records) → IsBytes bytes → segment_at bytes ≡ Ok r → IsSegment bytes r
unfolding segment_at seg_bytes
segment_found bytes r fits e =
    let p : Place = record { at = 0; rest = bytes } in
    let a = bind_ok (head_at p) (λ start. docs_at start >>= λ docs. list_at record_at docs.0 docs.1 >>= λ records. number_at records.1 >>= λ n. terms_at n.0 None docs.0 n.1 >>= λ terms. cond (eqb (length terms.1.rest) 0) (done (record { records = records.0; terms = terms.0; dead = [] })) (Err (Disorder terms.1.at))) r e in
    let b = bind_ok (docs_at a.0) (λ docs. list_at record_at docs.0 docs.1 >>= λ records. number_at records.1 >>= λ n. terms_at n.0 None docs.0 n.1 >>= λ terms. cond (eqb (length terms.1.rest) 0) (done (record { records = records.0; terms = terms.0; dead = [] })) (Err (Disorder terms.1.at))) r a.2 in
    let c = bind_ok (list_at record_at b.0.0 b.0.1) (λ records. number_at records.1 >>= λ n. terms_at n.0 None b.0.0 n.1 >>= λ terms. cond (eqb (length terms.1.rest) 0) (done (record { records = records.0; terms = terms.0; dead = [] })) (Err (Disorder terms.1.at))) r b.2 in
    let d = bind_ok (number_at c.0.1) (λ n. terms_at n.0 None b.0.0 n.1 >>= λ terms. cond (eqb (length terms.1.rest) 0) (done (record { records = c.0.0; terms = terms.0; dead = [] })) (Err (Disorder terms.1.at))) r c.2 in
    let f = bind_ok (terms_at d.0.0 None b.0.0 d.0.1) (λ terms. cond (eqb (length terms.1.rest) 0) (done (record { records = c.0.0; terms = terms.0; dead = [] })) (Err (Disorder terms.1.at))) r d.2 in
    let made : Records = record { records = c.0.0; terms = f.0.0; dead = [] } in
    let g = guard_yes (eqb (length f.0.1.rest) 0) (Disorder f.0.1.at) made r f.2 in
    let ta = head_taken p a.0 fits a.1 in
    let tb = docs_spelled a.0 b.0.0 b.0.1 ta.bytes b.1 in
    let tc = records_spelled b.0.0 b.0.1 c.0.0 c.0.1 tb.0.bytes c.1 in
    let td = number_spelled c.0.1 d.0.0 d.0.1 tc.0.bytes d.1 in
    let tf = terms_spelled d.0.0 None b.0.0 d.0.1 f.0.0 f.0.1 td.0.bytes f.1 in
    let docs : Takes a.0 (be32 (length c.0.0)) b.0.1 = subst (λ (n : ℕ). Takes a.0 (be32 n) b.0.1) (sym tc.1.count) tb.0 in
    let count : Takes c.0.1 (be32 (length f.0.0)) d.0.1 = subst (λ (n : ℕ). Takes c.0.1 (be32 n) d.0.1) (sym tf.1.count) td.0 in
    let e4 = Takes-then c.0.1 (be32 (length f.0.0)) d.0.1 (flat_map term_bytes f.0.0) f.0.1 count tf.0 in
    let e3 = Takes-then b.0.1 (flat_map record_bytes c.0.0) c.0.1 (be32 (length f.0.0) ++ flat_map term_bytes f.0.0) f.0.1 tc.0 e4 in
    let e2 = Takes-then a.0 (be32 (length c.0.0)) b.0.1 (flat_map record_bytes c.0.0 ++ (be32 (length f.0.0) ++ flat_map term_bytes f.0.0)) f.0.1 docs e3 in
    let e1 = Takes-then p (be32 0x46534547 ++ be32 1) a.0 (be32 (length c.0.0) ++ (flat_map record_bytes c.0.0 ++ (be32 (length f.0.0) ++ flat_map term_bytes f.0.0))) f.0.1 ta e2 in
    let nothing : f.0.1.rest ≡ [] = nil_from_length f.0.1.rest (eqb-true _ _ g.0) in
    let whole : bytes ≡ seg_bytes made = e1.rest ∙ rw nothing (append-nil _) in
    subst (λ (x : Records). IsSegment bytes x) g.1
    (record {
      spelled = whole;
      some = omega (arith, tc.1.count, tb.1.0);
      few = omega (arith, tc.1.count, tb.1.1);
      records = tc.1.fit;
      terms_count = omega (arith, tf.1.count, td.1);
      terms = subst (λ (n : ℕ). AllByRecursion (IsTerm n) f.0.0) (sym tc.1.count) tf.1.fit;
      rise = tf.1.rise;
      live = refl;
    })

-- where records and terms begin
pub records_begin : (bytes : List ℕ) (p q r : Place) (n : ℕ) → IsBytes bytes → p ≡ record { at = 0; rest = bytes } → head_at p ≡ Ok q → docs_at q ≡ Ok (n, r) → IsBytes r.rest × (r.at ≡ 12)
records_begin bytes p q r n fits is a b =
    let start : IsBytes p.rest = rw is fits in
    let ta = head_taken p q start a in
    let tb = docs_spelled q n r ta.bytes b in
    (tb.0.bytes, omega (arith, ta.at, tb.0.at, ap (λ (x : Place). x.at) is))

pub terms_begin : (r s t : Place) (n m : ℕ) (rs : List Stored) → IsBytes r.rest → r.at ≡ 12 → list_at record_at n r ≡ Ok (rs, s) → u32_at s ≡ Ok (m, t) → IsBytes t.rest × (t.at ≡ 16 + length (flat_map record_bytes rs))
terms_begin r s t n m rs fits at a b =
    let ta = records_spelled n r rs s fits a in
    let tb = u32_spelled s m t ta.0.bytes b in
    (tb.0.bytes, omega (arith, ta.0.at, tb.0.at))
