use Rattle.seg_postings.proofs.Members.{is_in-without}
use Rattle.seg_postings.proofs.Sets.{rising_without}
use Rattle.seg_postings.proofs.Matching.{without-filter}
use Rattle.seg_postings.proofs.laws.of_difference.Goals as goal

pub returns-clause-members : goal.returns-clause-members
returns-clause-members c = is_in-without

pub returns-clause-rising : goal.returns-clause-rising
returns-clause-rising c = λ xs ys h k. rising_without xs ys h

pub returns-clause-filters : goal.returns-clause-filters
returns-clause-filters c = without-filter
