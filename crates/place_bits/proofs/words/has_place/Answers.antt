use Rattle.std.proofs.Common.{◌/◌, ◌%◌, ap, get_or, nat_eq}
use Rattle.std.proofs.lemmas.Nat.Bits.{shr_and_one}
use Rattle.place_bits.specs.Words.{has}
use Rattle.place_bits.proofs.words.has_place.Goals as goal

pub returns : goal.returns
unfolding has
returns c = ap (λ b. nat_eq b 1) (shr_and_one (get_or c.args.words.now (c.args.place / 64) 0) (c.args.place % 64))
