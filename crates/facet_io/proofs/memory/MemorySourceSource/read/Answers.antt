use Rattle.std.proofs.Common.{◌≡◌, drop, ap, sym, arith, ◌∙◌}
use Rattle.facet_io.proofs.Pieces.{handed_out}
use Rattle.facet_io.proofs.memory.MemorySourceSource.read.Goals as goal

pub returns-clause-bytes : goal.returns-clause-bytes
returns-clause-bytes c =
    let rest : c.split_at.result.1.now ≡ drop c.self.inside.at c.self.inside.bytes.items = c.split_at.ensures.back ∙ ap (drop c.self.inside.at) c.deref.ensures.value in
    let given = handed_out c.self.inside.bytes.items c.hand_out-count.new.into c.self.inside.at c.hand_out-count.result c.self.inside.piece (rw (← rest) c.hand_out-count.ensures.count) (omega arith) (rw (← rest) c.hand_out-count.ensures.bytes) in
    (ap (λ s. s.left) (sym c.self.view_is) ∙ given.0, given.1)
