use Rattle.std.proofs.Common.{◌≡◌, ◌∙◌, get_or, ap, string_bytes}
use Rattle.std.proofs.lemmas.List.{get_or-map}
use Rattle.number_facets.specs.Values.{Range}
use Rattle.pair_search.proofs.Numbered.{one_named}
use Rattle.pair_search.proofs.ranging.named.Goals as goal

pub loop-at-preserved : goal.loop-at-preserved
loop-at-preserved c count is =
    let ranges = c.args.ranges.now in
    let at = c.loop-at.at in
    let range = c.index-ranges-at.result in
    let name : string_bytes c.in_ok-name.name ≡ (get_or ranges at range).name = c.in_ok-name.ensures.ok ∙ c.name.ensures ∙ ap (λ (r : Range). r.name) c.index-ranges-at.is in
    let counted : get_or c.args.counts.now at 0 ≡ count (get_or ranges at range) = ap (λ counts. get_or counts at 0) is ∙ get_or-map count ranges at range 0 c.loop-at-test.true in
    one_named count ranges at range c.loop-at.lines.items c.push.new.self.items _ c.loop-at-test.true c.in_ok-push.ensures.items (c.loop-at.invariant count is) (λ i. (name i, counted i))
