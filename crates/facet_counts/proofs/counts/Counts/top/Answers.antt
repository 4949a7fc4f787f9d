use Rattle.std.proofs.Common.{sym, subst, refl, ◌≡◌, ◌∙◌, [], List, ℕ, None}
use Rattle.std.specs.List.{AllZip}
use Rattle.facet_names.specs.Labels.{place}
use Rattle.facet_model.specs.Documents.{Doc}
use Rattle.facet_model.specs.Results.{IsTop}
use Rattle.facet_counts.specs.Lists.{IsListOf}
use Rattle.facet_counts.specs.Tallies.{Totals, AreCounts}
use Rattle.facet_counts.specs.Kept.{IsTotals}
use Rattle.facet_counts.proofs.Below.{none_below}
use Rattle.facet_counts.proofs.counts.Counts.top.Goals as goal

pub returns-in-None : goal.returns-in-None
returns-in-None c =
    let counts : Totals = record { labels = c.self.inside.view.now; config = c.self.inside.config.now; totals = c.self.inside.totals.items } in
    let kept : IsTotals counts = c.self.invariant in
    let absent : place c.self.inside.view.now c.args.path.now ≡ None = sym c.ordinal_of.ensures.ordinal ∙ c.in-None.is in
    let Answers : Totals → Type 0 = λ t. (docs : List Doc) (lists : List (List ℕ)) → AreCounts t lists → AllZip (IsListOf t.config t.labels) lists docs → IsTop t.config docs c.args.path.now c.args.n None in
    subst Answers c.self.view_is (λ docs lists are all. ([], none_below counts.config counts.labels kept.list c.args.path.now absent docs lists all, refl))
