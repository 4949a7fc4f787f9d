use Rattle.std.proofs.Common.{◌≡◌, take, length, string_bytes}
use Rattle.facet_names.specs.Paths.{texts}
use Rattle.facet_names.specs.Blocks.{block}
use Rattle.facet_names.proofs.block.block_of.Given as goal

abbrev pub invariant-loop-part : goal.invariant-loop-part
invariant-loop-part l = l.size ≡ length (block (texts (take l.part-index l.parts)))

abbrev pub invariant-loop-part-2 : goal.invariant-loop-part-2
invariant-loop-part-2 l = string_bytes l.text ≡ block (texts (take l.part-index l.parts))
