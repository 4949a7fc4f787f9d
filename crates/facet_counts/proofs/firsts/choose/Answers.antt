use Rattle.std.proofs.Common.{arith, ap, subst, ◌≡◌, ◌<◌, ◌≤◌, ◌-◌, ◌∙◌, List, true, false, length, map, take, get_or}
use Rattle.std.specs.Ordering.{is_lt}
use Rattle.facet_model.specs.Listing.{listing_cmp}
use Rattle.facet_counts.specs.declared.firsts.Candidate.{Candidate}
use Rattle.facet_counts.specs.Firsts.{standing}
use Rattle.facet_counts.proofs.Ordered.{chosen_by, passed_by}
use Rattle.facet_counts.proofs.firsts.choose.Goals as goal

pub returns-in_ok-insert-clause-chosen : goal.returns-in_ok-insert-clause-chosen
returns-in_ok-insert-clause-chosen c =
    let candidates : List Candidate = c.args.candidates.now.items in
    let at = c.place_among-at.result in
    let same : c.deref.result.now ≡ candidates = c.deref.ensures.value in
    chosen_by c.args.n at c.args.child candidates (subst (λ (l : List Candidate). at ≤ length l) same c.place_among-at.ensures.within)
    (subst (λ (l : List Candidate). 0 < at → is_lt (listing_cmp (standing c.args.child) (get_or (map standing l) (at - 1) (standing c.args.child))) ≡ false) same c.place_among-at.ensures.after)
    (subst (λ (l : List Candidate). at < length l → is_lt (listing_cmp (standing c.args.child) (get_or (map standing l) at (standing c.args.child))) ≡ true) same c.place_among-at.ensures.before)
    (omega arith) c.truncate.new.self.items (c.truncate.ensures.items ∙ ap (take c.args.n) c.in_ok-insert.ensures.items)

pub returns-else-at-n-clause-chosen : goal.returns-else-at-n-clause-chosen
returns-else-at-n-clause-chosen c =
    let candidates : List Candidate = c.args.candidates.now.items in
    let at = c.place_among-at.result in
    let same : c.deref.result.now ≡ candidates = c.deref.ensures.value in
    passed_by c.args.n at c.args.child candidates (subst (λ (l : List Candidate). at ≤ length l) same c.place_among-at.ensures.within)
    (subst (λ (l : List Candidate). 0 < at → is_lt (listing_cmp (standing c.args.child) (get_or (map standing l) (at - 1) (standing c.args.child))) ≡ false) same c.place_among-at.ensures.after)
    (omega arith)
