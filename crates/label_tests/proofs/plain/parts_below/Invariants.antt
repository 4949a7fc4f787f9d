use Rattle.std.proofs.Common.{◌≡◌, ◌≤◌, ◌*◌, ◌++◌, [], ◌∷◌, ℕ, List, length, take}
use Rattle.facet_model.specs.Documents.{count}
use Rattle.label_tests.proofs.Below.{times_in}
use Rattle.label_tests.proofs.plain.parts_below.Given as goal

abbrev pub invariant-loop-doc : goal.invariant-loop-doc
invariant-loop-doc l = record {
  each : (q : List ℕ) → times_in q l.parts.items ≡ count (take l.doc-index l.docs) (l.path ++ q ∷ []);
  few : length l.parts.items ≤ 256 * l.doc-index;
}
