-- Segments that a commit may store have live records.
use Rattle.std.proofs.Common.{◌≡◌, ℕ, ◌+◌, ◌≤◌, List, [], ◌∷◌, length, refl, sym, ap, subst, ◌∙◌, arith, length-append}
use Rattle.std.specs.List.{AllByRecursion}
use Rattle.std.proofs.lemmas.List.{length-map}
use Rattle.facet_codec.specs.Laws.{IsBelow}
use Rattle.facet_model.specs.Documents.{Doc}
use Rattle.facet_model.specs.Stored.{Records, alive, live_before}
use Rattle.live_records.proofs.Alive.{length_alive, before_none}
use Rattle.live_records.proofs.Ranks.{before_all}
use Rattle.seg_documents.specs.Decoding.{doc_in, docs_in, records_in}
use Rattle.seg_documents.specs.Storing.{IsStored, AreStored}
use Rattle.seg_documents.proofs.Live.{all_live_is, records_first}
use Rattle.seg_grammar.specs.Spelling.{IsSegment, seg_bytes}
use Rattle.seg_postings.specs.Rising.{IsRising}

-- each record is live, or its place is among the dead
pub live_beside : (s : Records) → IsStored s → live_before s.dead (length s.records) + length s.dead ≡ length s.records
live_beside s is = before_all (length s.records) s.dead is.rise is.below

-- how many live records a segment has, with those behind it
pub live_first : (s : Records) (ss : List Records) → length (records_in (s ∷ ss)) ≡ live_before s.dead (length s.records) + length (records_in ss)
live_first s ss =
    let both = ap length (records_first s ss) ∙ length-append (alive s.dead s.records) (records_in ss) in
    omega (arith, both, length_alive s.dead s.records)

-- there are no more segments than live records
pub few_segments : (ss : List Records) → AreStored ss → length ss ≤ length (records_in ss)
few_segments [] are = omega arith
few_segments (s ∷ ss) are = omega (arith, few_segments ss are.1, are.0.some, live_first s ss)

-- segments without a document are none
pub no_segments : (known : List (List (List ℕ))) (ss : List Records) → AreStored ss → docs_in known ss ≡ [] → ss ≡ []
no_segments known [] are none = refl
no_segments known (s ∷ ss) are none =
    let long : length (docs_in known (s ∷ ss)) ≡ length (records_in (s ∷ ss)) = length-map (records_in (s ∷ ss)) (doc_in known) in
    absurd (omega (arith, long, few_segments (s ∷ ss) are, ap (λ (docs : List Doc). length docs) none))

-- a segment as it was written
pub live_stored : (s : Records) → IsSegment (seg_bytes s) s → IsStored s
live_stored s is = record {
  own = subst (IsSegment (seg_bytes s)) (sym (all_live_is s is.live)) is;
  rise = subst IsRising (sym is.live) tt;
  below = subst (AllByRecursion (IsBelow (length s.records))) (sym is.live) tt;
  some = omega (arith, is.some, ap (λ (dead : List ℕ). live_before dead (length s.records)) is.live, before_none (length s.records));
}
