-- What comparing the bytes with those that are made anew tells.
use Rattle.std.proofs.Common.{◌≡◌, ℕ, ◌≤◌, List, [], ◌∷◌, length, map, Option, Some, None, Ok, Err, refl, sym, ap, subst, ◌∙◌, arith}
use Rattle.std.specs.Prelude.{Result, ◌==◌, All}
use Rattle.std.specs.List.{AllByRecursion}
use Rattle.std.proofs.lemmas.Bool.{eqb-true}
use Rattle.facet_names.specs.Labels.{IsLabelList}
use Rattle.facet_codec.specs.Reading.{◌>>=◌}
use Rattle.facet_codec.proofs.Taking.{bind_ok, done_is, guard_yes, told_ok}
use Rattle.facet_model.specs.Flags.{Config}
use Rattle.facet_model.specs.Stored.{Stored, Records, IsSegmentOf}
use Rattle.seg_grammar.specs.declared.fault.SegFault.{SegFault}
use Rattle.seg_grammar.specs.Reading.{segment_at}
use Rattle.seg_grammar.specs.Spelling.{seg_bytes, IsSegment}
use Rattle.seg_grammar.proofs.Again.{segment_again}
use Rattle.seg_grammar.proofs.Found.{segment_found}
use Rattle.seg_decoding.specs.Answers.{IsLeaf}
use Rattle.seg_documents.specs.Decoding.{doc_in}
use Rattle.seg_decoding.specs.Opening.{unless_at, fault_place, by_place, head_fits, opened, documents_fit, rebuilt, first_difference, stored_segment}
use Rattle.seg_decoding.specs.Laws.{OpensOnly}
use Rattle.seg_decoding.proofs.Differences.{same_from_none}
use Rattle.seg_decoding.proofs.Fitting.{Fits, documents_are}
use Rattle.seg_decoding.proofs.Opened.{head_of, segment_is}
use Rattle.std.proofs.lemmas.List.Elements.{All-from_recursion}

-- a segment that was opened has so many documents
pub number_is : (documents : ℕ) (bytes : List ℕ) (s : Records) → IsSegment bytes s → opened documents bytes ≡ Ok s → length s.records ≡ documents
unfolding opened
number_is documents bytes s is read =
    let head = (bind_ok (head_fits documents bytes) (λ head. by_place (segment_at bytes)) s read).1 in
    let own : head_fits documents (seg_bytes s) ≡ Ok (tt {0}) = subst (λ (bs : List ℕ). head_fits documents bs ≡ Ok (tt {0})) is.spelled head in
    eqb-true (length s.records) documents (guard_yes (length s.records == documents) 8 (tt {0}) (tt {0}) (sym (head_of documents s (omega (arith, is.few))) ∙ own)).0

module _ (config : Config) (known : List (List (List ℕ))) (needs documents : ℕ) (bytes : List ℕ) where
  pub stored_unread : (e : ℕ) → opened documents bytes ≡ Err e → stored_segment config known needs documents bytes ≡ Err e
  unfolding stored_segment
  stored_unread e fails = rw fails refl

  module _ (s : Records) (read : opened documents bytes ≡ Ok s) where
    pub stored_unfit : (e : ℕ) → documents_fit config known needs 12 s.records ≡ Err e → stored_segment config known needs documents bytes ≡ Err e
    unfolding stored_segment
    stored_unfit e fails = rw (read, fails) refl

    -- with the segment that was made anew
    module _ (made : Records) (is : IsSegment bytes s) (fits : documents_fit config known needs 12 s.records ≡ Ok (tt {0})) (built : made ≡ rebuilt config known s.records) (anew : IsSegment (seg_bytes made) made) where
      same_bytes : first_difference bytes (seg_bytes (rebuilt config known s.records)) ≡ first_difference (seg_bytes s) (seg_bytes made)
      same_bytes = λ i. first_difference (is.spelled i) (seg_bytes (sym built i))

      pub differs : (at : ℕ) → first_difference (seg_bytes s) (seg_bytes made) ≡ Some at → stored_segment config known needs documents bytes ≡ Err at
      unfolding stored_segment
      differs at there = let e : first_difference bytes (seg_bytes (rebuilt config known s.records)) ≡ Some at = same_bytes ∙ there in rw (read, fits, e) refl

      pub agrees : first_difference (seg_bytes s) (seg_bytes made) ≡ None → stored_segment config known needs documents bytes ≡ Ok s
      unfolding stored_segment
      agrees none = let e : first_difference bytes (seg_bytes (rebuilt config known s.records)) ≡ None = same_bytes ∙ none in rw (read, fits, e) refl

      pub decodes : first_difference (seg_bytes s) (seg_bytes made) ≡ None → IsLabelList known → needs ≤ length known → IsSegmentOf known config s (map (doc_in known) s.records)
      decodes none list low =
          let equal : seg_bytes s ≡ seg_bytes made = same_from_none (seg_bytes s) (seg_bytes made) 0 none in
          let own : segment_at (seg_bytes s) ≡ Ok s = subst (λ (bs : List ℕ). segment_at bs ≡ Ok s) is.spelled (segment_again bytes s is) in
          let other : segment_at (seg_bytes s) ≡ Ok made = subst (λ (bs : List ℕ). segment_at bs ≡ Ok made) (sym equal) (segment_again (seg_bytes made) made anew) in
          let same : s ≡ made = done_is SegFault s made (sym own ∙ other) in
          segment_is config known needs list s low (documents_are config known needs 12 s.records fits) (sym built ∙ sym same)

-- the leaves of documents that fit
pub leaves_low : (config : Config) (known : List (List (List ℕ))) (needs : ℕ) (rs : List Stored) → documents_fit config known needs 12 rs ≡ Ok (tt {0}) → All (λ r. All (IsLeaf needs) r.leaves) rs
leaves_low config known needs rs fits = All-from_recursion (λ r. All (IsLeaf needs) r.leaves) rs (each rs (documents_are config known needs 12 rs fits))
  where
    each : (rs : List Stored) → AllByRecursion (Fits config known needs) rs → AllByRecursion (λ r. All (IsLeaf needs) r.leaves) rs
    each [] all = tt
    each (r ∷ rs) all = (All-from_recursion (IsLeaf needs) r.leaves all.0.leaves, each rs all.1)

unless_is : (s made : Records) (o : Option ℕ) → unless_at s o ≡ Ok made → s ≡ made
unless_is s made None e = done_is ℕ s made e
unless_is s made (Some at) e = absurd cc

read_is : (documents : ℕ) (bytes : List ℕ) (s : Records) → opened documents bytes ≡ Ok s → segment_at bytes ≡ Ok s
unfolding opened
read_is documents bytes s e = told_ok fault_place (segment_at bytes) s (bind_ok (head_fits documents bytes) (λ head. by_place (segment_at bytes)) s e).2

-- what opening tells
pub opens_only : (config : Config) (known : List (List (List ℕ))) (needs documents : ℕ) (bytes : List ℕ) (s : Records) → OpensOnly config known needs documents bytes s
unfolding stored_segment
opens_only config known needs documents bytes s are_bytes e =
    let compared : Records → Result Records ℕ = λ r. unless_at r (first_difference bytes (seg_bytes (rebuilt config known r.records))) in
    let a = bind_ok (opened documents bytes) (λ r. documents_fit config known needs 12 r.records >>= λ fit. compared r) s e in
    let b = bind_ok (documents_fit config known needs 12 a.0.records) (λ fit. compared a.0) s a.2 in
    let same : a.0 ≡ s = unless_is a.0 s (first_difference bytes (seg_bytes (rebuilt config known a.0.records))) b.2 in
    let read : opened documents bytes ≡ Ok s = a.1 ∙ ap (λ (r : Records). Ok r) same in
    let fits : documents_fit config known needs 12 s.records ≡ Ok (tt {0}) = subst (λ (r : Records). documents_fit config known needs 12 r.records ≡ Ok (tt {0})) same b.1 in
    let is : IsSegment bytes s = segment_found bytes s are_bytes (read_is documents bytes s read) in
    (is, number_is documents bytes s is read, leaves_low config known needs s.records fits)
