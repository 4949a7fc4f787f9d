use Rattle.std.proofs.Common.{◌∙◌, Some, None, option_map, refl, sym, ap}
use Rattle.std.specs.Prelude.{codes}
use Rattle.serde_json.specs.View.{view}
use Rattle.facet_words.specs.Commands.{ranges}
use Rattle.facet_words.specs.CommandLines.{range_of}
use Rattle.facet_words.specs.CommandViews.{counted_view}
use Rattle.facet_words.specs.Shapes.{key, list_within}
use Rattle.facet_words.proofs.RangesLines.{ranges_read}
use Rattle.facet_words.proofs.order.ranges_in.Goals as goal

pub returns-in_default-2 : goal.returns-in_default-2
returns-in_default-2 c = ranges_read (view c.args.value.now) c.in-Some.on None (key (codes "ranges") (list_within 1 64 range_of) (view c.args.value.now))
    (sym c.in-Some.is ∙ c.in_ok-on.ensures) (ap (option_map counted_view) (sym c.in_default-2.is) ∙ c.in_ok-line.ensures) refl

pub returns : goal.returns
returns c = ap (λ l. Some (ranges c.in-Some.on (counted_view l) c.in-Some-3.ranges.items)) c.in_ok-line-2.ensures.ok
    ∙ ranges_read (view c.args.value.now) c.in-Some.on (Some (counted_view c.in-Some-2.line)) (Some c.in-Some-3.ranges.items)
    (sym c.in-Some.is ∙ c.in_ok-on.ensures) (ap (option_map counted_view) (sym c.in-Some-2.is) ∙ c.in_ok-line.ensures)
    (ap (option_map (λ v. v.items)) (sym c.in-Some-3.is) ∙ c.in_ok-ranges.ensures)
