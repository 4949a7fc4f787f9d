use Rattle.seg_postings.proofs.Members.{is_in-either}
use Rattle.seg_postings.proofs.Either.{rising_either}
use Rattle.seg_postings.proofs.Matching.{either-filter}
use Rattle.seg_postings.proofs.laws.of_union.Goals as goal

pub returns-clause-members : goal.returns-clause-members
returns-clause-members c = is_in-either

pub returns-clause-rising : goal.returns-clause-rising
returns-clause-rising c = λ xs ys h k. rising_either xs ys k

pub returns-clause-filters : goal.returns-clause-filters
returns-clause-filters c = either-filter
