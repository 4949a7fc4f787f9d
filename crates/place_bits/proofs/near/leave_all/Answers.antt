use Rattle.std.proofs.Common.{arith, refl}
use Rattle.place_bits.specs.Misses.{IsLeftBy}
use Rattle.place_bits.proofs.Misses.{all_changed, changed_more, none_changed, words_here}
use Rattle.place_bits.proofs.near.leave_all.Goals as goal

pub loop-k-init : goal.loop-k-init
loop-k-init c = none_changed (IsLeftBy c.args.other.now.places) c.args.dims.now

pub leave-requires : goal.leave-requires
leave-requires c = words_here (IsLeftBy c.args.other.now.places) c.args.other.now.words c.loop-k.k c.loop-k.dims c.args.dims.now _ c.index-dims-k.result c.requires c.loop-k.invariant (omega (arith, c.loop-k.invariant.len)) refl

pub loop-k-preserved : goal.loop-k-preserved
loop-k-preserved c = changed_more (IsLeftBy c.args.other.now.places) c.loop-k.k c.loop-k.dims c.args.dims.now _ _ c.index-dims-k.result c.loop-k.invariant (omega (arith, c.loop-k.invariant.len)) refl
    (record { words = c.leave.ensures.words; members = c.leave.ensures.left; rising = c.leave.ensures.rising })

pub returns : goal.returns
returns c = all_changed _ _ _ _ c.loop-k.invariant (omega (arith, c.loop-k.invariant.len))
