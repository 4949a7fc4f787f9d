use Rattle.std.proofs.Common.{◌≡◌, ◌<◌, ◌^◌, List, ℕ, length}
use Rattle.std.specs.List.{AllByRecursion, slice_split}
use Rattle.std.specs.Str.{IsUtf8}
use Rattle.facet_model.specs.Words.{is_blank}
use Rattle.seg_terms.specs.Noting.{piece_terms}
use Rattle.seg_decoding.specs.Pairs.{Passes}
use Rattle.seg_decoding.proofs.walk.Walk.pass_words.Given as goal

-- Each piece of the rest is a text. With the words of the rest passed too, those of the whole text are.
abbrev pub invariant-loop-end : goal.invariant-loop-end
invariant-loop-end l = record {
  fits : length l.rest < 2 ^ 64;
  size : length l.self.next.items ≡ length l.segment.terms;
  utf8 : AllByRecursion IsUtf8 (slice_split is_blank l.rest);
  passed : (new : List ℕ) → Passes l.segment.terms l.doc (piece_terms (slice_split is_blank l.rest)) l.self.next.items new → Passes l.segment.terms l.doc (piece_terms (slice_split is_blank l.fn.text)) l.fn.self.next.items new;
}

abbrev pub decreases-loop-end : goal.decreases-loop-end
decreases-loop-end l = length l.rest
