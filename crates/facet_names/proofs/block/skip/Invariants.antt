use Rattle.std.proofs.Common.{◌≡◌, drop}
use Rattle.std.specs.Str.{IsUtf8}
use Rattle.facet_names.specs.Blocks.{IsBlock, parts_of}
use Rattle.facet_names.proofs.block.skip.Given as goal

abbrev pub invariant-loop : goal.invariant-loop
invariant-loop l = record {
  utf8 : IsUtf8 l.rest;
  is : IsBlock l.rest;
  parts : parts_of l.rest ≡ drop l.counter (parts_of l.block);
}
