use Rattle.std.proofs.Common.{◌≡◌, ◌∙◌, Some, option_map, slice_get, string_bytes, sym, ap}
use Rattle.std.proofs.lemmas.Map.Made.{lookup_key_passes}
use Rattle.std.proofs.lemmas.Result.{on_ok_weaker}
use Rattle.seg_terms.specs.Noting.{table_of}
use Rattle.seg_terms.proofs.Tables.{bytes_same, found_is, items_of, noted_under, term_at}
use Rattle.seg_terms.proofs.table.TermTable.note.Goals as goal
use Rattle.facet_names.proofs.Keys.{is_key}

pub add-requires : goal.add-requires
add-requires c = found_is c.args.term.now c.self.inside.terms.entries ∙ ap items_of (sym c.in-None.ensures.value)

pub returns-in-Some : goal.returns-in-Some
returns-in-Some c =
    let es = c.self.inside.terms.entries in
    let term = c.args.term.now in
    let number = c.in-Some.number in
    let key = c.in-Some.field-0-1.now in
    let same : term ≡ string_bytes key = bytes_same term (string_bytes key) (lookup_key_passes (is_key term) es key (sym c.in-Some.ensures.key)) in
    let there : option_map (λ e. e.0) (slice_get (table_of es) number) ≡ Some term = ap (option_map (λ e. e.0)) (term_at es number key c.in-Some.field-0-2.now c.in-Some.ensures.entry) ∙ ap Some (sym same) in
    rw (← c.self.view_is) (
    on_ok_weaker c.put_at-in-Some.result (noted_under (table_of es) c.put_at-in-Some.new.self number term c.args.place there) c.put_at-in-Some.ensures
    )
