use Rattle.std.proofs.Common.{◌≡◌, take}
use Rattle.facet_names.specs.Paths.{texts}
use Rattle.facet_names.specs.Texts.{texts_in}
use Rattle.facet_names.proofs.path.Path.of.Given as goal

abbrev pub invariant-loop-part : goal.invariant-loop-part
invariant-loop-part l = texts l.texts.items ≡ texts_in (take l.part-index l.parts)
