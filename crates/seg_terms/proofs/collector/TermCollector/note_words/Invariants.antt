use Rattle.std.proofs.Common.{◌<◌, ◌^◌, length}
use Rattle.std.specs.List.{AllByRecursion, slice_split}
use Rattle.std.specs.Str.{IsUtf8}
use Rattle.facet_model.specs.Words.{is_blank}
use Rattle.seg_terms.specs.Noting.{Table, AreNoted, piece_terms}
use Rattle.seg_terms.proofs.collector.TermCollector.note_words.Given as goal

-- Each piece of the rest is a text. With the words of the rest noted too, those of the whole text are.
abbrev pub invariant-loop-end : goal.invariant-loop-end
invariant-loop-end l = record {
  fits : length l.rest < 2 ^ 64;
  utf8 : AllByRecursion IsUtf8 (slice_split is_blank l.rest);
  noted : (new : Table) → AreNoted l.place (piece_terms (slice_split is_blank l.rest)) l.self.table new → AreNoted l.place (piece_terms (slice_split is_blank l.fn.text)) l.fn.self.table new;
}

abbrev pub decreases-loop-end : goal.decreases-loop-end
decreases-loop-end l = length l.rest
