use Rattle.label_tests.proofs.Made.{listing_made, total_made}
use Rattle.label_tests.proofs.plain.listing.Goals as goal

pub returns-clause-listing : goal.returns-clause-listing
returns-clause-listing c = listing_made c.in_ok-counts.counts.entries c.in_ok-children.children.items c.sort.new.self.items _ c.len.ensures.ordered c.in_ok-counts.ensures.counts c.in_ok-counts.ensures.positive c.in_ok-children.ensures c.sort.ensures.permutation c.in_ok-sort.ensures.sorted

pub returns-clause-total : goal.returns-clause-total
returns-clause-total c = total_made c.in_ok-counts.counts.entries c.in_ok-children.children.items c.sort.new.self.items _ c.in_ok-counts.ensures.total c.in_ok-children.ensures c.sort.ensures.permutation
