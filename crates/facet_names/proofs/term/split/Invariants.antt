use Rattle.std.proofs.Common.{◌≡◌, [], false, string_bytes}
use Rattle.facet_names.specs.Paths.{texts}
use Rattle.facet_names.proofs.TermTexts.{read}
use Rattle.facet_names.proofs.term.split.Given as goal

abbrev pub invariant-loop-ch : goal.invariant-loop-ch
invariant-loop-ch l = read l.ch-iterator.rest.now l.after_escape (texts l.parts.items) (string_bytes l.part) ≡ read l.text false [] []
