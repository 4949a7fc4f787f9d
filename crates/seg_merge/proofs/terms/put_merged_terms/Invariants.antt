use Rattle.std.proofs.Common.{map}
use Rattle.std.specs.Arc.{arc_value}
use Rattle.std.specs.Str.{IsUtf8}
use Rattle.seg_terms.specs.Places.{IsShortTerm}
use Rattle.seg_merge.specs.Walk.{IsWalk}
use Rattle.seg_merge.proofs.terms.put_merged_terms.Given as goal

abbrev pub invariant-loop : goal.invariant-loop
invariant-loop l = record {
  walk : IsWalk (map arc_value l.segments) l.fn.out.items l.out.items l.count l.passed.items l.text l.from l.places.items;
  short : IsShortTerm l.text;
  utf8 : IsUtf8 l.text;
}
