use Rattle.std.proofs.Common.{◌≡◌, length}
use Rattle.facet_names.specs.Paths.{is_under}
use Rattle.std.specs.Str.{IsUtf8}
use Rattle.facet_names.specs.Blocks.{IsBlock, parts_of}
use Rattle.facet_names.proofs.block.is_front.Given as goal

abbrev pub invariant-loop-left : goal.invariant-loop-left
invariant-loop-left l = record {
  left_utf8 : IsUtf8 l.left;
  rest_utf8 : IsUtf8 l.rest;
  left : IsBlock l.left;
  rest : IsBlock l.rest;
  same : is_under (parts_of l.rest) (parts_of l.left) ≡ is_under (parts_of l.block) (parts_of l.front);
}

abbrev pub decreases-loop-left : goal.decreases-loop-left
decreases-loop-left l = length l.left
