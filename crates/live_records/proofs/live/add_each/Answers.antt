use Rattle.std.proofs.Common.{refl, ap, ◌∙◌, arith}
use Rattle.place_bits.specs.Words.{Marked}
use Rattle.live_records.proofs.Added.{one_added}
use Rattle.live_records.proofs.live.add_each.Goals as goal

pub loop-k-preserved : goal.loop-k-preserved
loop-k-preserved c = record {
  words = ap (λ (m : Marked). m.words) c.add.ensures ∙ c.loop-k.invariant.words;
  added = one_added c.args.set.now.places c.loop-k.set.places c.add.new.self.places c.args.places.now c.loop-k.k _ (omega arith) refl (ap (λ (m : Marked). m.places) c.add.ensures) c.loop-k.invariant.added;
}
