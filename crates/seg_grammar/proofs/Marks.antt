-- Loops that read records or terms, and keep where each begins.
use Rattle.std.proofs.Common.{◌≡◌, ℕ, zero, suc, ◌-◌, ◌+◌, ◌≤◌, ◌<◌, List, [], ◌∷◌, ◌++◌, length, Option, Some, Result, Ok, refl, sym, ap, ◌∙◌, arith, length-append}
use Rattle.std.specs.List.{flat_map}
use Rattle.std.proofs.lemmas.List.{flat_map_more, append-nil}
use Rattle.facet_codec.specs.Places.{Place}
use Rattle.facet_codec.specs.Reading.{◌>>=◌}
use Rattle.facet_codec.specs.Lists.{list_at, offsets}
use Rattle.facet_codec.specs.Laws.{Takes}
use Rattle.facet_codec.proofs.Taking.{Takes-then}
use Rattle.facet_codec.proofs.Lists.{with_front, one_more, regroup, IsMarked, offsets_push, marked_more, marked_done}
use Rattle.facet_model.specs.Stored.{Stored}
use Rattle.seg_grammar.specs.declared.fault.SegFault.{SegFault}
use Rattle.seg_grammar.specs.declared.fault.SegFault.TheVariants.{BadMagic, BadVersion, Codec, Disorder, NoMemory}
use Rattle.seg_grammar.specs.Spelling.{front_bytes, record_bytes, term_bytes}
use Rattle.seg_grammar.specs.Reading.{Fails, record_at, term_at, terms_at}
use Rattle.seg_grammar.specs.Index.{counted_offsets}
use Rattle.seg_grammar.proofs.Found.{record_spelled, term_spelled}

fails_bind : {A B : Type 0} (e : SegFault) (r : Result A SegFault) (f : A → Result B SegFault) → Fails e r → Fails e (r >>= f)
fails_bind BadMagic r f h = rw h refl
fails_bind (BadVersion v) r f h = rw h refl
fails_bind (Codec at) r f h = rw h refl
fails_bind (Disorder at) r f h = rw h refl
fails_bind NoMemory r f h = tt

fails_total : {A : Type 0} (e : SegFault) (front : List A) (read total : Result (List A × Place) SegFault) → with_front front read ≡ total → Fails e read → Fails e total
fails_total e front read total is k = rw (← is) (fails_bind e read (λ x. Ok (front ++ x.0, x.1)) k)

-- ---- records

-- What is still to be read from p on is the end of the total, and the marks are where the records before p, and their counted ordinals, begin.
pub record AreMarked (start p : Place) (marks counted : List ℕ) (read total : Result (List Stored × Place) SegFault) : Type 0 where
  pub front : List Stored
  pub is : with_front front read ≡ total
  pub marks_are : marks ≡ offsets record_bytes start.at front
  pub counted_are : counted ≡ counted_offsets start.at front
  pub taken : Takes start (flat_map record_bytes front) p

pub counted_push : (at : ℕ) (xs : List Stored) (x : Stored) → counted_offsets at (xs ++ x ∷ []) ≡ counted_offsets at xs ++ (at + length (flat_map record_bytes xs) + length (front_bytes x)) ∷ []
counted_push at [] x = ap (λ (n : ℕ). n ∷ []) (omega arith)
counted_push at (y ∷ xs) x =
    let n : at + length (record_bytes y) + length (flat_map record_bytes xs) + length (front_bytes x) ≡ at + length (record_bytes y ++ flat_map record_bytes xs) + length (front_bytes x) = omega (arith, length-append (record_bytes y) (flat_map record_bytes xs)) in
    ap (λ (ns : List ℕ). (at + length (front_bytes y)) ∷ ns) (counted_push (at + length (record_bytes y)) xs x ∙ ap (λ (m : ℕ). counted_offsets (at + length (record_bytes y)) xs ++ m ∷ []) n)

pub records_more : (n i : ℕ) (start p q : Place) (marks counted : List ℕ) (at : ℕ) (x : Stored) (total : Result (List Stored × Place) SegFault) → i < n → record_at p ≡ Ok (x, q) → at ≡ p.at + length (front_bytes x) → AreMarked start p marks counted (list_at record_at (n - i) p) total → AreMarked start q (marks ++ p.at ∷ []) (counted ++ at ∷ []) (list_at record_at (n - (i + 1)) q) total
unfolding list_at
records_more n i start p q marks counted at x total lt e f h =
    let k : n - i ≡ suc (n - (i + 1)) = omega arith in
    let more = list_at record_at (n - (i + 1)) q in
    let read : list_at record_at (n - i) p ≡ one_more x more = rw (k, e) refl in
    record {
      front = h.front ++ x ∷ [];
      is = sym (regroup h.front x more) ∙ (rw read at h.is);
      marks_are = rw (h.marks_are, h.taken.at) (sym (offsets_push record_bytes start.at h.front x));
      counted_are = rw (h.counted_are, f, h.taken.at) (sym (counted_push start.at h.front x));
      taken = rw (← flat_map_more record_bytes [] h.front x) (Takes-then start (flat_map record_bytes h.front) p (record_bytes x) q h.taken (record_spelled p x q h.taken.bytes e).0);
    }

pub records_fail : (n i : ℕ) (start p : Place) (marks counted : List ℕ) (e : SegFault) (total : Result (List Stored × Place) SegFault) → i < n → Fails e (record_at p) → AreMarked start p marks counted (list_at record_at (n - i) p) total → Fails e total
unfolding list_at
records_fail n i start p marks counted e total lt f h =
    let k : n - i ≡ suc (n - (i + 1)) = omega arith in
    fails_total e h.front (list_at record_at (n - i) p) total h.is (rw k (fails_bind e (record_at p) (λ first. one_more first.0 (list_at record_at (n - (i + 1)) first.1)) f))

pub records_done : (n i : ℕ) (start p : Place) (marks counted : List ℕ) (total : Result (List Stored × Place) SegFault) → n ≤ i → AreMarked start p marks counted (list_at record_at (n - i) p) total → (xs : List Stored) × (total ≡ Ok (xs, p)) × (marks ≡ offsets record_bytes start.at xs) × (counted ≡ counted_offsets start.at xs)
unfolding list_at
records_done n i start p marks counted total le h =
    let k : n - i ≡ zero = omega arith in
    (h.front, sym (rw (k, append-nil) at h.is), h.marks_are, h.counted_are)

-- ---- terms

abbrev Terms : Type 0
Terms = Result (List (List ℕ × List ℕ) × Place) SegFault

pub terms_more : (n i docs : ℕ) (previous : Option (List ℕ)) (start p q : Place) (marks : List ℕ) (x : List ℕ × List ℕ) (total : Terms) → i < n → term_at previous docs p ≡ Ok (x, q) → IsMarked term_bytes start p marks (terms_at (n - i) previous docs p) total → IsMarked term_bytes start q (marks ++ p.at ∷ []) (terms_at (n - (i + 1)) (Some x.0) docs q) total
unfolding terms_at
terms_more n i docs previous start p q marks x total lt e h =
    let k : n - i ≡ suc (n - (i + 1)) = omega arith in
    marked_more term_bytes start p q marks x (terms_at (n - i) previous docs p) (terms_at (n - (i + 1)) (Some x.0) docs q) total (rw (k, e) refl) (term_spelled previous docs p x q h.taken.bytes e).0 h

pub terms_fail : (n i docs : ℕ) (previous : Option (List ℕ)) (start p : Place) (marks : List ℕ) (e : SegFault) (total : Terms) → i < n → Fails e (term_at previous docs p) → IsMarked term_bytes start p marks (terms_at (n - i) previous docs p) total → Fails e total
unfolding terms_at
terms_fail n i docs previous start p marks e total lt f h =
    let k : n - i ≡ suc (n - (i + 1)) = omega arith in
    fails_total e h.front (terms_at (n - i) previous docs p) total h.is (rw k (fails_bind e (term_at previous docs p) (λ first. one_more first.0 (terms_at (n - (i + 1)) (Some first.0.0) docs first.1)) f))

pub terms_done : (n i docs : ℕ) (previous : Option (List ℕ)) (start p : Place) (marks : List ℕ) (total : Terms) → n ≤ i → IsMarked term_bytes start p marks (terms_at (n - i) previous docs p) total → (xs : List (List ℕ × List ℕ)) × (total ≡ Ok (xs, p)) × (marks ≡ offsets term_bytes start.at xs)
unfolding terms_at
terms_done n i docs previous start p marks total le h =
    let k : n - i ≡ zero = omega arith in
    marked_done term_bytes start p marks (terms_at (n - i) previous docs p) total (rw k refl) h

-- what stands for the record of a document that is not there
abbrev pub no_record : Stored
no_record = record { id = []; text = []; leaves = []; counted = [] }
