use Rattle.std.proofs.Common.{length}
use Rattle.place_bits.specs.Words.{members}
use Rattle.place_bits.proofs.Firsts.{rising_left}
use Rattle.place_bits.proofs.cursor.BitPlaces.new.Goals as goal
use Rattle.seg_postings.proofs.Order.{from_start}

pub returns-clause-places : goal.returns-clause-places
returns-clause-places c = λ i. record { words = length c.args.words.items; places = from_start (members c.args.words.items) i }

pub returns-clause-rising : goal.returns-clause-rising
returns-clause-rising c = rising_left c.args.words.items 0
