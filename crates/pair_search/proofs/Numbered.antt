-- Ranges and sums over the documents of a pair.
use Rattle.std.proofs.Common.{◌≡◌, ◌∙◌, ℕ, zero, suc, ◌+◌, ◌<◌, List, [], ◌∷◌, ◌++◌, length, take, map, get_or, refl, sym, ap, subst, arith}
use Rattle.std.proofs.lemmas.List.{get_or-map, length-map, map_push, take_more}
use Rattle.chronicle.specs.History.{entries}
use Rattle.facet_names.proofs.LabelLists.{Labels}
use Rattle.facet_model.specs.Histories.{docs}
use Rattle.facet_model.specs.Stored.{Records, Decodes}
use Rattle.facet_output.specs.Replies.{refused, summed, top_zero}
use Rattle.facet_replies.specs.ReplyViews.{range_view}
use Rattle.facet_replies.specs.declared.reply.RangeLine.{RangeLine}
use Rattle.facet_words.specs.Answers.{counted_docs}
use Rattle.facet_words.specs.Commands.{Counted}
use Rattle.number_facets.specs.Values.{Range, PartSum, IsSums}
use Rattle.pair_manager.specs.Kept.{DecodesTo}
use Rattle.pair_manager.specs.Published.{Published}
use Rattle.taxo_cache.specs.Seen.{labels_of}
use Rattle.pair_search.specs.Numbers.{IsSummedIn}

-- the segments of a pair decode to the documents of its operations
pub decoded_in : (pair : Published) (view : Labels) (segments : List Records) → view ≡ labels_of pair.labels.seen → segments ≡ pair.segments → DecodesTo pair.labels pair.config pair.segments pair.history
    → Decodes view pair.config segments (docs (entries pair.history.seen))
decoded_in pair view segments of_view of_segments decodes =
    subst (λ (T : Type 0). T) (λ i. Decodes (sym of_view i) pair.config (sym of_segments i) (docs (entries pair.history.seen))) decodes

-- ---- ranges

-- a range's name with its count
abbrev pub named_by : (Range → ℕ) → Range → List ℕ × ℕ
named_by count r = (r.name, count r)

-- one more range has its line
pub one_named : (count : Range → ℕ) (ranges : List Range) (at : ℕ) (d : Range) (lines now : List RangeLine) (line : RangeLine) → at < length ranges → now ≡ lines ++ line ∷ [] → map range_view lines ≡ take at (map (named_by count) ranges)
    → range_view line ≡ named_by count (get_or ranges at d) → map range_view now ≡ take (at + 1) (map (named_by count) ranges)
one_named count ranges at d lines now line lt pushed before here =
    ap (map range_view) pushed ∙ map_push range_view lines line ∙ (λ i. before i ++ (here ∙ sym (get_or-map (named_by count) ranges at d (named_by count d) lt)) i ∷ [])
    ∙ sym (take_more (map (named_by count) ranges) at (named_by count d) (let size = length-map ranges (named_by count) in omega (arith, size, lt)))

-- ---- sums

-- some are asked for
pub summed_so : (pair : Published) (c : Counted) (n operations : ℕ) (shown : List PartSum) → operations ≡ length pair.history.seen → (n ≡ 0 → ⊥) → IsSums (counted_docs (docs (entries pair.history.seen)) c) c.dim n shown
    → IsSummedIn pair c n (summed (record { operations = operations; sums = shown }))
summed_so pair c zero operations shown size some is = absurd (some refl)
summed_so pair c (suc n) operations shown size some is = (shown, is, ap (λ (k : ℕ). summed (record { operations = k; sums = shown })) size)

-- none are asked for
pub none_summed : (pair : Published) (c : Counted) (n : ℕ) → (0 < n → ⊥) → IsSummedIn pair c n (refused (top_zero 0))
none_summed pair c zero none = refl
none_summed pair c (suc n) none = absurd (none (omega arith))
