use Rattle.std.proofs.Common.{arith, subst, ◌≡◌, ◌≤◌, ◌-◌, [], List, false, length, map, get_or}
use Rattle.std.proofs.lemmas.List.{length-map}
use Rattle.std.specs.Ordering.{is_lt}
use Rattle.facet_names.specs.Paths.{last_part}
use Rattle.facet_model.specs.Listing.{PartCount, listing_cmp}
use Rattle.facet_counts.specs.declared.firsts.Candidate.{Candidate}
use Rattle.facet_counts.specs.Firsts.{standing}
use Rattle.facet_counts.proofs.Ordered.{not_chosen}
use Rattle.facet_counts.proofs.firsts.choose_child.Goals as goal

pub returns-then-has_passed-clause-chosen : goal.returns-then-has_passed-clause-chosen
returns-then-has_passed-clause-chosen c = λ ordered sorted first.
    let candidates : List Candidate = c.args.candidates.now.items in
    let x : PartCount = (last_part (get_or c.args.view.now c.args.child []), c.args.count) in
    let same : c.deref.result.now ≡ candidates = c.deref.ensures.value in
    let low : is_lt (listing_cmp x (get_or (map standing candidates) (length candidates - 1) x)) ≡ false =
    subst (λ (l : List Candidate). is_lt (listing_cmp x (get_or (map standing l) (length l - 1) x)) ≡ false) same (c.has_passed.ensures.more c.if-has_passed.true x.0) in
    let many : c.args.n ≤ length candidates = subst (λ (l : List Candidate). c.args.n ≤ length l) same (c.has_passed.ensures.many c.if-has_passed.true) in
    not_chosen c.args.n (length candidates) ordered (map standing candidates) x sorted first (omega (arith, length-map candidates standing)) (λ some. low) many
