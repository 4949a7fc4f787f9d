use Rattle.std.proofs.Common.{◌≡◌, ◌+◌, length}
use Rattle.std.specs.Str.{IsUtf8}
use Rattle.facet_names.specs.Blocks.{IsBlock, parts_of}
use Rattle.facet_names.proofs.block.size.Given as goal

abbrev pub invariant-loop-rest : goal.invariant-loop-rest
invariant-loop-rest l = record {
  utf8 : IsUtf8 l.rest;
  is : IsBlock l.rest;
  counted : l.size + length (parts_of l.rest) ≡ length (parts_of l.block);
}

abbrev pub decreases-loop-rest : goal.decreases-loop-rest
decreases-loop-rest l = length l.rest
