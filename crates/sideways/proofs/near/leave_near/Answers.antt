use Rattle.std.proofs.Common.{◌∙◌, ap, sym}
use Rattle.place_bits.specs.Words.{empty_set}
use Rattle.sideways.proofs.near.leave_near.Goals as goal

pub near_misses-requires : goal.near_misses-requires
near_misses-requires c = record {
  dims = c.requires.dims;
  ones = c.in_ok-ones.ensures ∙ ap empty_set (sym c.requires.words);
  twos = c.in_ok-twos.ensures ∙ ap empty_set (sym c.requires.words);
}
