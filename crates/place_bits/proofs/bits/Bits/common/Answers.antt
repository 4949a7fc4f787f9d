use Rattle.std.proofs.Common.{◌∙◌, ◌*◌, ◌&&◌, ap, length}
use Rattle.std.specs.List.{filter, range_with_len}
use Rattle.seg_postings.specs.Rising.{is_in}
use Rattle.place_bits.specs.Words.{has}
use Rattle.place_bits.proofs.Counts.{common_list}
use Rattle.place_bits.proofs.bits.Bits.common.Goals as goal

pub returns : goal.returns
returns c =
    c.common.ensures
    ∙ (λ i. length (filter (λ n. has (c.deref.ensures.value i) n && has (c.deref-2.ensures.value i) n) (range_with_len 0 (64 * length (c.deref.ensures.value i)))))
    ∙ ap length (common_list c.self.inside.words.items c.other.inside.words.items)
    ∙ (λ i. length (filter (λ n. is_in n (c.other.view_is i).places) (c.self.view_is i).places))
