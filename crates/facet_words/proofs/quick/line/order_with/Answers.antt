use Rattle.std.proofs.Common.{rules, ◌≡◌, ◌≤◌, Some, true, length, ap, ◌∙◌, []}
use Rattle.std.specs.Prelude.{option_map}
use Rattle.std.specs.Option.{unwrap_or}
use Rattle.facet_words.specs.Quick.{IsFound}
use Rattle.facet_words.proofs.QuickLines.{order_read, part_or}
use Rattle.facet_words.proofs.quick.line.order_with.Goals as goal

pub returns : goal.returns
returns c = λ ms is.
    let given = option_map (λ s. s.now) c.args.found.text in
    let paths = option_map (λ v. v.items) c.args.found.facets in
    let text : c.unwrap_or-text.result.now ≡ unwrap_or given [] = ap (λ s. s.now) c.unwrap_or-text.ensures ∙ part_or (λ s. s.now) c.args.found.text _ in
    let labels : c.unwrap_or-facets.result.items ≡ unwrap_or paths [] =
    ap (λ v. v.items) c.unwrap_or-facets.ensures ∙ part_or (λ v. v.items) c.args.found.facets c.new.result ∙ ap (unwrap_or paths) c.new.ensures.items in
    let session : c.args.found.session ≡ Some c.in-Some.session = search rules in
    let adds : c.args.found.adds ≡ true = search rules in
    let id : c.args.found.id ≡ Some c.in-Some.id = search rules in
    let found : IsFound ms (Some c.in-Some.session) true (Some c.in-Some.id.now) given paths = rw (session, adds, id) at is in
    let short : length (unwrap_or given []) ≤ 65536 = rw text at c.if-text-gt65536.false in
    let doc : c.in_ok-doc.doc ≡ record { id = c.in-Some.id.now; text = c.unwrap_or-text.result.now; labels = c.unwrap_or-facets.result.items } = search rules in
    rw (doc, text, labels) (order_read c.args.line c.in-Some.session ms c.in-Some.id.now given paths found (search rules) (search rules) (search rules) (search rules) short)
