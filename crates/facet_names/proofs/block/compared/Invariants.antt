use Rattle.std.proofs.Common.{◌≡◌, length}
use Rattle.facet_names.specs.Paths.{path_cmp}
use Rattle.std.specs.Str.{IsUtf8}
use Rattle.facet_names.specs.Blocks.{IsBlock, parts_of}
use Rattle.facet_names.proofs.block.compared.Given as goal

abbrev pub invariant-loop-mine : goal.invariant-loop-mine
invariant-loop-mine l = record {
  mine_utf8 : IsUtf8 l.mine;
  theirs_utf8 : IsUtf8 l.theirs;
  mine : IsBlock l.mine;
  theirs : IsBlock l.theirs;
  same : path_cmp (parts_of l.mine) (parts_of l.theirs) ≡ path_cmp (parts_of l.one) (parts_of l.other);
}

abbrev pub decreases-loop-mine : goal.decreases-loop-mine
decreases-loop-mine l = length l.mine
