-- Where the offsets of an index lead.
use Rattle.std.proofs.Common.{◌≡◌, ℕ, zero, suc, ◌+◌, ◌-◌, ◌≤◌, ◌<◌, List, [], ◌∷◌, ◌++◌, length, get_or, take, drop, refl, sym, ap, subst, ◌∙◌, append_assoc, arith, length-append}
use Rattle.std.specs.Prelude.{slice_range}
use Rattle.std.specs.List.{flat_map, AllByRecursion}
use Rattle.std.proofs.lemmas.List.{drop_at, take_at, take_all, take-append-drop, append-nil}
use Rattle.std.proofs.lemmas.List.Concat.{flat_map-append}
use Rattle.std.proofs.Math.Seq.{take-add}
use Rattle.facet_codec.specs.Spelling.{be32}
use Rattle.facet_codec.specs.Lists.{offsets}
use Rattle.facet_model.specs.Stored.{Stored, Records}
use Rattle.seg_grammar.specs.declared.index.Index.{Index}
use Rattle.seg_grammar.specs.Spelling.{list_bytes, front_bytes, record_bytes, term_bytes, seg_bytes}
use Rattle.seg_grammar.specs.Index.{counted_offsets}
use Rattle.seg_grammar.specs.Lookups.{record_of}
use Rattle.seg_file.specs.Decoded.{IsIndexed}
use Rattle.seg_file.specs.Search.{term_of}

pub length_offsets : {A : Type 0} (spell : A → List ℕ) (at : ℕ) (xs : List A) → length (offsets spell at xs) ≡ length xs
length_offsets spell at [] = refl
length_offsets spell at (x ∷ xs) = ap (λ (n : ℕ). suc n) (length_offsets spell (at + length (spell x)) xs)

pub length_counted : (at : ℕ) (rs : List Stored) → length (counted_offsets at rs) ≡ length rs
length_counted at [] = refl
length_counted at (r ∷ rs) = ap (λ (n : ℕ). suc n) (length_counted (at + length (record_bytes r)) rs)

-- At the mark the bytes go on with what is spelled.
pub record IsMark (whole : List ℕ) (mark : ℕ) (spelled : List ℕ) : Type 0 where
  pub within : mark ≤ length whole
  pub rest : List ℕ
  pub is : drop mark whole ≡ spelled ++ rest

mark_at : {A : Type 0} (spell : A → List ℕ) (front : List ℕ) (at : ℕ) (xs : List A) (tail : List ℕ) (i d : ℕ) (e : A) → length front ≡ at → i < length xs → IsMark (front ++ (flat_map spell xs ++ tail)) (get_or (offsets spell at xs) i d) (spell (get_or xs i e))
mark_at spell front at [] tail i d e n lt = absurd (omega arith)
mark_at spell front at (x ∷ xs) tail zero d e n lt = record {
  within = omega (arith, length-append front (flat_map spell (x ∷ xs) ++ tail));
  rest = flat_map spell xs ++ tail;
  is = drop_at front (flat_map spell (x ∷ xs) ++ tail) at n ∙ append_assoc (spell x) (flat_map spell xs) tail;
}
mark_at spell front at (x ∷ xs) tail (suc i) d e n lt =
    let again = mark_at spell (front ++ spell x) (at + length (spell x)) xs tail i d e (omega (arith, length-append front (spell x))) (omega arith) in
    let regrouped : (front ++ spell x) ++ (flat_map spell xs ++ tail) ≡ front ++ (flat_map spell (x ∷ xs) ++ tail) = simp append_assoc in
    subst (λ (w : List ℕ). IsMark w (get_or (offsets spell (at + length (spell x)) xs) i d) (spell (get_or xs i e))) regrouped again

counted_mark_at : (front : List ℕ) (at : ℕ) (rs : List Stored) (tail : List ℕ) (i d : ℕ) (e : Stored) → length front ≡ at → i < length rs → IsMark (front ++ (flat_map record_bytes rs ++ tail)) (get_or (counted_offsets at rs) i d) (list_bytes (get_or rs i e).counted)
unfolding record_bytes
counted_mark_at front at [] tail i d e n lt = absurd (omega arith)
counted_mark_at front at (r ∷ rs) tail zero d e n lt =
    let behind : List ℕ = list_bytes r.counted ++ (flat_map record_bytes rs ++ tail) in
    let regrouped : (front ++ front_bytes r) ++ behind ≡ front ++ (flat_map record_bytes (r ∷ rs) ++ tail) = simp append_assoc in
    let far : length (front ++ front_bytes r) ≡ at + length (front_bytes r) = omega (arith, length-append front (front_bytes r)) in
    subst (λ (w : List ℕ). IsMark w (at + length (front_bytes r)) (list_bytes r.counted)) regrouped
    (record { within = omega (arith, length-append (front ++ front_bytes r) behind); rest = flat_map record_bytes rs ++ tail; is = drop_at (front ++ front_bytes r) behind (at + length (front_bytes r)) far })
counted_mark_at front at (r ∷ rs) tail (suc i) d e n lt =
    let again = counted_mark_at (front ++ record_bytes r) (at + length (record_bytes r)) rs tail i d e (omega (arith, length-append front (record_bytes r))) (omega arith) in
    let regrouped : (front ++ record_bytes r) ++ (flat_map record_bytes rs ++ tail) ≡ front ++ (flat_map record_bytes (r ∷ rs) ++ tail) = simp append_assoc in
    subst (λ (w : List ℕ). IsMark w (get_or (counted_offsets (at + length (record_bytes r)) rs) i d) (list_bytes (get_or rs i e).counted)) regrouped again

pub record_mark : (r : Records) (bytes : List ℕ) (index : Index) (doc d : ℕ) → IsIndexed r bytes index → doc < length r.records → IsMark bytes (get_or index.records.items doc d) (record_bytes (record_of r doc))
unfolding seg_bytes
record_mark r bytes index doc d h lt =
    let m = mark_at record_bytes (be32 0x46534547 ++ (be32 1 ++ be32 (length r.records))) 12 r.records (be32 (length r.terms) ++ flat_map term_bytes r.terms) doc d (record { id = []; text = []; leaves = []; counted = [] }) refl lt in
    rw h.offsets.records (subst (λ (w : List ℕ). IsMark w (get_or (offsets record_bytes 12 r.records) doc d) (record_bytes (record_of r doc))) (sym h.segment.spelled) m)

pub counted_mark : (r : Records) (bytes : List ℕ) (index : Index) (doc d : ℕ) → IsIndexed r bytes index → doc < length r.records → IsMark bytes (get_or index.counted.items doc d) (list_bytes (record_of r doc).counted)
unfolding seg_bytes
counted_mark r bytes index doc d h lt =
    let m = counted_mark_at (be32 0x46534547 ++ (be32 1 ++ be32 (length r.records))) 12 r.records (be32 (length r.terms) ++ flat_map term_bytes r.terms) doc d (record { id = []; text = []; leaves = []; counted = [] }) refl lt in
    rw h.offsets.counted (subst (λ (w : List ℕ). IsMark w (get_or (counted_offsets 12 r.records) doc d) (list_bytes (record_of r doc).counted)) (sym h.segment.spelled) m)

pub term_mark : (r : Records) (bytes : List ℕ) (index : Index) (at d : ℕ) → IsIndexed r bytes index → at < length r.terms → IsMark bytes (get_or index.terms.items at d) (term_bytes (term_of r.terms at))
unfolding seg_bytes
term_mark r bytes index at d h lt =
    let front : List ℕ = (be32 0x46534547 ++ (be32 1 ++ be32 (length r.records))) ++ (flat_map record_bytes r.records ++ be32 (length r.terms)) in
    let behind = 16 + length (flat_map record_bytes r.records) in
    let n : length front ≡ behind = omega (arith, length-append (flat_map record_bytes r.records) (be32 (length r.terms))) in
    let m = mark_at term_bytes front behind r.terms [] at d ([], []) n lt in
    let whole : front ++ (flat_map term_bytes r.terms ++ []) ≡ bytes = simp (append_assoc, append-nil) (sym h.segment.spelled) in
    rw h.offsets.terms (subst (λ (w : List ℕ). IsMark w (get_or (offsets term_bytes behind r.terms) at d) (term_bytes (term_of r.terms at))) whole m)

-- ---- how many offsets there are

pub records_count : (r : Records) (bytes : List ℕ) (index : Index) → IsIndexed r bytes index → length index.records.items ≡ length r.records
records_count r bytes index h = ap length h.offsets.records ∙ length_offsets record_bytes 12 r.records

pub counted_count : (r : Records) (bytes : List ℕ) (index : Index) → IsIndexed r bytes index → length index.counted.items ≡ length r.records
counted_count r bytes index h = ap length h.offsets.counted ∙ length_counted 12 r.records

pub terms_count : (r : Records) (bytes : List ℕ) (index : Index) → IsIndexed r bytes index → length index.terms.items ≡ length r.terms
terms_count r bytes index h = ap length h.offsets.terms ∙ length_offsets term_bytes (16 + length (flat_map record_bytes r.records)) r.terms

-- ---- the bytes of records that follow each other

-- where the spelling of each begins, by those before it
offset_at : {A : Type 0} (spell : A → List ℕ) (at : ℕ) (xs : List A) (i d : ℕ) → i < length xs → get_or (offsets spell at xs) i d ≡ at + length (flat_map spell (take i xs))
offset_at spell at [] i d lt = absurd (omega arith)
offset_at spell at (x ∷ xs) zero d lt = omega arith
offset_at spell at (x ∷ xs) (suc i) d lt =
    offset_at spell (at + length (spell x)) xs i d (omega arith) ∙ omega (arith, length-append (spell x) (flat_map spell (take i xs)))

-- how many bytes there are before the record of a number
abbrev pub record_front : Records → ℕ → ℕ
record_front r number = 12 + length (flat_map record_bytes (take number r.records))

pub record_offset : (r : Records) (bytes : List ℕ) (index : Index) (i d : ℕ) → IsIndexed r bytes index → i < length r.records → get_or index.records.items i d ≡ record_front r i
record_offset r bytes index i d h lt = ap (λ (ns : List ℕ). get_or ns i d) h.offsets.records ∙ offset_at record_bytes 12 r.records i d lt

all_before : (r : Records) (i : ℕ) → length r.records ≤ i → record_front r i ≡ 12 + length (flat_map record_bytes r.records)
all_before r i le = ap (λ (rs : List Stored). 12 + length (flat_map record_bytes rs)) (take_all i r.records le)

-- the first term has four bytes between it and the records
pub term_offset : (r : Records) (bytes : List ℕ) (index : Index) (i d : ℕ) → IsIndexed r bytes index → length r.records ≤ i → 0 < length r.terms → get_or index.terms.items 0 d ≡ record_front r i + 4
term_offset r bytes index i d h le lt =
    ap (λ (ns : List ℕ). get_or ns 0 d) h.offsets.terms ∙ offset_at term_bytes (16 + length (flat_map record_bytes r.records)) r.terms 0 d lt ∙ omega (arith, all_before r i le)

-- and so has the end of the bytes where there is no term
pub end_offset : (r : Records) (bytes : List ℕ) (index : Index) (i : ℕ) → IsIndexed r bytes index → length r.records ≤ i → length r.terms ≡ 0 → length bytes ≡ record_front r i + 4
unfolding seg_bytes
end_offset r bytes index i h le none =
    let no_bytes : length (flat_map term_bytes r.terms) ≡ 0 = ap (λ (ts : List (List ℕ × List ℕ)). length (flat_map term_bytes ts)) (no_terms r.terms none) in
    omega (arith, ap length h.segment.spelled, no_bytes, all_before r i le, length-append (flat_map record_bytes r.records) (be32 (length r.terms) ++ flat_map term_bytes r.terms), length-append (be32 (length r.terms)) (flat_map term_bytes r.terms))
  where
    no_terms : {A : Type 0} (xs : List A) → length xs ≡ 0 → xs ≡ []
    no_terms [] e = refl
    no_terms (x ∷ xs) e = absurd (omega (arith, e))

between : (front mid tail whole : List ℕ) (i j : ℕ) → whole ≡ front ++ (mid ++ tail) → i ≡ length front → j ≡ length front + length mid → slice_range whole i j ≡ mid
between front mid tail whole i j is from to =
    ap (λ (w : List ℕ). slice_range w i j) is ∙ ap (take (j - i)) (drop_at front (mid ++ tail) i (sym from)) ∙ take_at mid tail (j - i) (omega (arith, from, to))

-- The bytes between the fronts of two records are those of the records between them.
pub record AreBetween (r : Records) (bytes : List ℕ) (from to : ℕ) : Type 0 where
  pub order : record_front r from ≤ record_front r to
  pub within : record_front r to ≤ length bytes
  pub is : slice_range bytes (record_front r from) (record_front r to) ≡ flat_map record_bytes (take (to - from) (drop from r.records))

pub records_between : (r : Records) (bytes : List ℕ) (index : Index) (from to : ℕ) → IsIndexed r bytes index → from ≤ to → AreBetween r bytes from to
unfolding seg_bytes
records_between r bytes index from to h le = record {
  order = omega (arith, far);
  within = omega (arith, far, ap length whole, length-append (head ++ before) (mid ++ tail), length-append head before, length-append mid tail);
  is = between (head ++ before) mid tail bytes (record_front r from) (record_front r to) whole (omega (arith, length-append head before)) (omega (arith, far, length-append head before));
}
  where
    n : ℕ
    n = to - from

    head : List ℕ
    head = be32 0x46534547 ++ (be32 1 ++ be32 (length r.records))

    before : List ℕ
    before = flat_map record_bytes (take from r.records)

    mid : List ℕ
    mid = flat_map record_bytes (take n (drop from r.records))

    behind : List ℕ
    behind = flat_map record_bytes (drop n (drop from r.records))

    rest : List ℕ
    rest = be32 (length r.terms) ++ flat_map term_bytes r.terms

    tail : List ℕ
    tail = behind ++ rest

    parts : flat_map record_bytes r.records ≡ before ++ (mid ++ behind)
    parts =
        ap (flat_map record_bytes) (sym (take-append-drop from r.records)) ∙ flat_map-append record_bytes (take from r.records) (drop from r.records)
        ∙ ap (λ (l : List ℕ). before ++ l) (ap (flat_map record_bytes) (sym (take-append-drop n (drop from r.records))) ∙ flat_map-append record_bytes (take n (drop from r.records)) (drop n (drop from r.records)))

    upto : flat_map record_bytes (take to r.records) ≡ before ++ mid
    upto =
        let on : to ≡ from + n = omega (arith, le) in
        ap (λ (k : ℕ). flat_map record_bytes (take k r.records)) on ∙ ap (flat_map record_bytes) (take-add from n r.records) ∙ flat_map-append record_bytes (take from r.records) (take n (drop from r.records))

    far : record_front r to ≡ record_front r from + length mid
    far = omega (arith, ap length upto, length-append before mid)

    regrouped : (b m z t : List ℕ) → be32 0x46534547 ++ (be32 1 ++ (be32 (length r.records) ++ ((b ++ (m ++ z)) ++ t))) ≡ (head ++ b) ++ (m ++ (z ++ t))
    regrouped b m z t = simp append_assoc

    whole : bytes ≡ (head ++ before) ++ (mid ++ tail)
    whole = h.segment.spelled ∙ ap (λ (l : List ℕ). be32 0x46534547 ++ (be32 1 ++ (be32 (length r.records) ++ (l ++ rest)))) parts ∙ regrouped before mid behind rest

pub all_taken : {A : Type 0} (P : A → Type 0) (n : ℕ) (xs : List A) → AllByRecursion P xs → AllByRecursion P (take n xs)
all_taken P zero xs all = tt
all_taken P (suc n) [] all = tt
all_taken P (suc n) (x ∷ xs) all = (all.0, all_taken P n xs all.1)

pub all_dropped : {A : Type 0} (P : A → Type 0) (n : ℕ) (xs : List A) → AllByRecursion P xs → AllByRecursion P (drop n xs)
all_dropped P zero xs all = all
all_dropped P (suc n) [] all = tt
all_dropped P (suc n) (x ∷ xs) all = all_dropped P n xs all.1
