use Rattle.std.proofs.Common.{◌≡◌, ◌+◌, take, drop, length, string_bytes}
use Rattle.std.specs.Str.{IsUtf8}
use Rattle.facet_names.specs.Blocks.{IsBlock, parts_of}
use Rattle.facet_names.specs.Terms.{term_text}
use Rattle.facet_names.proofs.term.joined.Given as goal

abbrev pub invariant-loop-rest : goal.invariant-loop-rest
invariant-loop-rest l = record {
  utf8 : IsUtf8 l.rest;
  is : IsBlock l.rest;
  parts : parts_of l.rest ≡ drop l.at (parts_of l.block);
  counted : l.at + length (parts_of l.rest) ≡ length (parts_of l.block);
  text : string_bytes l.text ≡ term_text (take l.at (parts_of l.block));
}

abbrev pub decreases-loop-rest : goal.decreases-loop-rest
decreases-loop-rest l = length l.rest
