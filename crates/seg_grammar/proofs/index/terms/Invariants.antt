use Rattle.std.specs.Prelude.{None}
use Rattle.std.proofs.Common.{◌-◌}
use Rattle.std.specs.Option.{option_map}
use Rattle.facet_codec.proofs.Lists.{IsMarked}
use Rattle.seg_grammar.specs.Spelling.{term_bytes}
use Rattle.seg_grammar.specs.Reading.{terms_at}
use Rattle.seg_grammar.proofs.index.terms.Given as goal

abbrev pub invariant-loop : goal.invariant-loop
invariant-loop l = IsMarked term_bytes l.fn.cursor l.cursor l.terms.items (terms_at (l.n - l.counter) (option_map (λ u. u.now) l.previous) l.docs l.cursor) (terms_at l.n None l.docs l.fn.cursor)
