use Rattle.std.proofs.Common.{refl}
use Rattle.facet_model.specs.Stored.{Stored}
use Rattle.seg_grammar.specs.Reading.{record_at}
use Rattle.seg_grammar.proofs.Found.{front_taken}
use Rattle.seg_grammar.proofs.reading.record.Goals as goal

pub returns : goal.returns
unfolding record_at
returns c =
    let made : Stored = record { id = c.in_ok-id.field-0.now; text = c.in_ok-text.field-0.now; leaves = c.in_ok-leaves.ensures.0; counted = c.in_ok-counted.ensures.0 } in
    let front = front_taken c.args.cursor.now c.id.new.cursor c.text.new.self c.leaves.new.cursor made c.bounds.ensures.bytes c.in_ok-id.ensures c.in_ok-text.ensures c.in_ok-leaves.ensures.1 in (
      made,
      rw (c.in_ok-id.ensures, c.in_ok-text.ensures, c.in_ok-leaves.ensures.1, c.in_ok-counted.ensures.1) refl,
      rw c.at-at.ensures front.at,
    )
