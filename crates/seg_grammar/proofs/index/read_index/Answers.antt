use Rattle.std.proofs.Common.{◌≡◌, [], Ok, refl, arith, length}
use Rattle.std.proofs.lemmas.Bool.{eq-eqb}
use Rattle.facet_codec.specs.Places.{IsBytes}
use Rattle.facet_model.specs.Stored.{Records}
use Rattle.seg_grammar.specs.Reading.{segment_at}
use Rattle.seg_grammar.proofs.Found.{records_begin, terms_begin, segment_found}
use Rattle.seg_grammar.proofs.index.read_index.Goals as goal

pub returns-clause-found : goal.returns-clause-found
unfolding segment_at
returns-clause-found c =
    let fits : IsBytes c.args.bytes.now = λ i. omega (arith, c.type_inv.bytes i) in
    let a = records_begin c.args.bytes.now c.new-cursor.result c.head.new.cursor c.docs.new.cursor c.in_ok-docs.docs fits c.new-cursor.ensures c.in_ok-head.ensures c.in_ok-docs.ensures in
    let b = terms_begin c.docs.new.cursor c.records.new.cursor c.u32.new.self c.in_ok-docs.docs c.in_ok-n.n c.in_ok-records.ensures.0 a.0 a.1 c.in_ok-records.ensures.1 c.in_ok-n.ensures in
    let made : Records = record { records = c.in_ok-records.ensures.0; terms = c.in_ok-terms.ensures.0; dead = [] } in
    let e : segment_at c.args.bytes.now ≡ Ok made =
    rw (← c.new-cursor.ensures, c.in_ok-head.ensures, c.in_ok-docs.ensures, c.in_ok-records.ensures.1, c.in_ok-n.ensures, c.in_ok-terms.ensures.1, eq-eqb (length c.terms.new.cursor.rest) 0 (omega arith)) refl in (
      made,
      e,
      segment_found c.args.bytes.now made fits e,
      record {
        records = rw (← a.1) c.in_ok-records.ensures.2;
        counted = rw (← a.1) c.in_ok-records.ensures.3;
        terms = rw (← b.1) c.in_ok-terms.ensures.2;
      },
    )
