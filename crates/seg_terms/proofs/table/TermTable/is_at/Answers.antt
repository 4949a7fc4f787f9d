use Rattle.std.proofs.Common.{◌≡◌, ◌∙◌, Some, option_map, string_bytes, sym, ap}
use Rattle.std.specs.Str.{bytes_eq}
use Rattle.seg_terms.proofs.Tables.{bytes_same, term_at}
use Rattle.seg_terms.proofs.table.TermTable.is_at.Goals as goal

pub returns-in-Some : goal.returns-in-Some
returns-in-Some c is =
    let term = c.args.term.now in
    let known = c.in-Some.known.now in
    let same : string_bytes known ≡ term = bytes_same (string_bytes known) term (ap (λ text. bytes_eq text term) (sym c.as_str.ensures.value) ∙ sym c.eq.ensures ∙ is) in
    rw (← c.self.view_is) (ap (option_map (λ e. e.0)) (term_at c.self.inside.terms.entries c.args.number known c.in-Some.field-0-1.now (sym c.in-Some.ensures.entry)) ∙ ap Some same)
