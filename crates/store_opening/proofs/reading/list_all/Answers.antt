use Rattle.std.proofs.Common.{◌∙◌}
use Rattle.store_opening.proofs.Greatest.{both_listed}
use Rattle.store_opening.proofs.Sorted.{still_listed}
use Rattle.store_opening.proofs.reading.list_all.Goals as goal

pub returns-clause-ok : goal.returns-clause-ok
returns-clause-ok g c = λ s told. still_listed s.files c.extend_from_slice.new.self.items c.new.result c.new.ensures
    (both_listed s.files c.in_ok-names.names.items c.deref.result.now c.extend_from_slice.new.self.items
    (c.in_ok-names.ensures.ok s told)
    (rw c.deref.ensures.value (c.in_ok-others.ensures.ok s (c.in_ok-names.ensures.read.quiet.same ∙ told)))
    c.in_ok-extend_from_slice.ensures.items)
