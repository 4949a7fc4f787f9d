use Rattle.std.proofs.Common.{arith, subst, ◌≡◌, ◌∙◌, List, ℕ, Some, true}
use Rattle.std.specs.List.{AllZip}
use Rattle.std.proofs.lemmas.List.{get_or_default}
use Rattle.facet_names.specs.Labels.{place}
use Rattle.facet_model.specs.Asks.{is_kept_path}
use Rattle.facet_model.specs.Documents.{Doc, count}
use Rattle.facet_counts.specs.Lists.{IsListOf}
use Rattle.facet_counts.specs.Tallies.{Totals, AreCounts}
use Rattle.facet_counts.specs.Kept.{IsTotals}
use Rattle.facet_counts.proofs.Below.{count_kept}
use Rattle.facet_counts.proofs.counts.Counts.at.Goals as goal

pub returns-clause-documents : goal.returns-clause-documents
returns-clause-documents c =
    let counts : Totals = record { labels = c.self.inside.view.now; config = c.self.inside.config.now; totals = c.self.inside.totals.items } in
    let kept : IsTotals counts = c.self.invariant in
    let Answers : Totals → Type 0 = λ t. (docs : List Doc) (lists : List (List ℕ)) (path : List (List ℕ)) → AreCounts t lists → AllZip (IsListOf t.config t.labels) lists docs → place t.labels path ≡ Some c.args.ord → is_kept_path t.config path ≡ true → c.index.result.now ≡ count docs path in
    subst Answers c.self.view_is (λ docs lists path are all at kept_path.
    let here = count_kept counts kept c.args.ord c.requires.some path docs lists are all at kept_path in
    c.index.ensures ∙ get_or_default c.self.inside.totals.items c.args.ord c.index.result.now 0 (omega (arith, kept.sized, here.0)) ∙ here.1)
