use Rattle.std.proofs.Common.{◌∙◌, ◌*◌, ◌&&◌, ap, length}
use Rattle.std.specs.List.{filter, range_with_len}
use Rattle.place_bits.specs.Words.{Marked, has}
use Rattle.place_bits.proofs.Counts.{whole_list}
use Rattle.place_bits.proofs.bits.Bits.len.Goals as goal

pub returns : goal.returns
returns c =
    c.common.ensures
    ∙ (λ i. length (filter (λ n. has (c.deref.ensures.value i) n && has (c.deref-2.ensures.value i) n) (range_with_len 0 (64 * length (c.deref.ensures.value i)))))
    ∙ ap length (whole_list c.self.inside.words.items) ∙ ap (λ (m : Marked). length m.places) c.self.view_is
